use Rattle.std.proofs.Common.{ℕ, eqb, sym, ap, ap₂, ◌∙◌}
use Rattle.std.proofs.lemmas.Bool.{cond-true, cond-false}
use Rattle.pud_defs.specs.RegistryTables.Types.{map_of}
use Rattle.pud_defs.specs.PoolGraphs.ExportFile.{object_words_read}
use Rattle.pud_defs.specs.PoolGraphs.Graph.{fitting}
use Rattle.pud_import.specs.Sized.{types_in, stored_of}
use Rattle.pud_import.proofs.FileChecks.SlotsOfFile.{class_there, serial_there}
use Rattle.pud_import.proofs.sized_file.SizedFile.slot_words_read.Goals as goal

pub returns-then-is_free-clause-read : goal.returns-then-is_free-clause-read
returns-then-is_free-clause-read c =
    let st = stored_of c.args.self.now in
    let serial = c.slot_word.ensures ∙ serial_there st c.args.ordinal c.args.slot c.requires.slot in
    sym (cond-true _ _ _ (sym (ap (λ (v : ℕ). eqb v 0) serial) ∙ sym c.is_free.ensures ∙ c.if-is_free.true))

pub returns-clause-read : goal.returns-clause-read
returns-clause-read c =
    let f = c.args.self.now in
    let st = stored_of f in
    let serial = c.slot_word.ensures ∙ serial_there st c.args.ordinal c.args.slot c.requires.slot in
    let class = c.class.ensures ∙ sym (class_there st c.args.ordinal c.args.slot c.requires.slot) in
    c.object_words_read.ensures.read
    ∙ ap object_words_read (c.fitting.ensures ∙ ap₂ fitting class (c.map_of-map.ensures ∙ ap (λ (id : ℕ). map_of id (types_in f)) c.slot_word-2.ensures))
    ∙ sym (cond-false _ _ _ (sym (ap (λ (v : ℕ). eqb v 0) serial) ∙ sym c.is_free.ensures ∙ c.if-is_free.false))
