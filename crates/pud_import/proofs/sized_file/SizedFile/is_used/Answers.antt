use Rattle.std.proofs.Common.{sym, ◌∙◌, arith}
use Rattle.std.proofs.lemmas.Bool.{not-true, not-false}
use Rattle.pud_defs.proofs.RegistryTables.Spaces.{all_below-none}
use Rattle.pud_import.specs.Sized.{image_of_file, stored_of}
use Rattle.pud_import.proofs.FileChecks.ByPuddles.{all_places-more}
use Rattle.pud_import.proofs.FileChecks.UsedPlaces.{puddles-file, is_other, used_by-scanned, is_used-there, is_used-none}
use Rattle.pud_import.proofs.sized_file.SizedFile.is_used.Goals as goal

pub loop-ordinal-init : goal.loop-ordinal-init
loop-ordinal-init c = all_below-none _

pub returns-then-is_used_by : goal.returns-then-is_used_by
returns-then-is_used_by c =
    let f = c.args.self.now in
    let o = c.loop-ordinal.ordinal in
    is_used-there (stored_of f) c.args.id f.puddles o (sym (puddles-file (image_of_file f) f.version f.types f.puddles)) c.loop-ordinal-test.true
    (not-true _ (sym (used_by-scanned (stored_of f) c.args.id o) ∙ sym c.is_used_by.ensures ∙ c.if-is_used_by.true))

pub loop-ordinal-preserved : goal.loop-ordinal-preserved
loop-ordinal-preserved c =
    let f = c.args.self.now in
    let o = c.loop-ordinal.ordinal in
    all_places-more (is_other (stored_of f) c.args.id) o c.loop-ordinal.invariant (not-false _ (sym (used_by-scanned (stored_of f) c.args.id o) ∙ sym c.is_used_by.ensures ∙ c.if-is_used_by.false))

pub returns : goal.returns
returns c =
    let f = c.args.self.now in
    let past = c.loop-ordinal-test.false in
    is_used-none (stored_of f) c.args.id f.puddles c.loop-ordinal.ordinal (sym (puddles-file (image_of_file f) f.version f.types f.puddles)) (omega arith) c.loop-ordinal.invariant
