use Rattle.std.proofs.Common.{◌≡◌, Bool, ◌&&◌, List, Option, sym, ap, subst, ◌∙◌}
use Rattle.std.proofs.lemmas.Bool.{and_left}
use Rattle.std.proofs.lemmas.Result.{IfOk-weaker}
use Rattle.pud_defs.specs.declared.layout.TheConstants.{DAEMON_LOG}
use Rattle.pud_defs.specs.declared.records.TheConstants.{POOL_RECORDS}
use Rattle.pud_defs.specs.Logging.Replay.{settled_by}
use Rattle.pud_defs.specs.RegistryTables.Spaces.{all_below}
use Rattle.pud_defs.specs.RegistryTables.Tables.{tables_of}
use Rattle.pud_defs.specs.RegistryTables.SoundTables.{has_counted_puddles}
use Rattle.soundness.specs.Distinct.{AreMarked, is_counted_by, has_counted_ordinals}
use Rattle.soundness.proofs.Marks.{ordinals_by_places, counted_by_places}
use Rattle.pm_model.proofs.Reading.{still_reads}
use Rattle.soundness.proofs.distinct.has_counted_ordinals.Goals as goal

pub returns-in_default-clause-counted : goal.returns-in_default-clause-counted
returns-in_default-clause-counted g c = λ t image same over next legal.
    let tables = tables_of c.args.frames (settled_by DAEMON_LOG image) in
    let none = subst (λ (v : Option (List Bool)). AreMarked tables v) c.in_default.is (c.in_ok-marks.ensures.marks t image same over) in
    sym (and_left _ (has_counted_puddles tables) (sym (ordinals_by_places c.args.frames (settled_by DAEMON_LOG image) next legal) ∙ none))

pub returns-clause-counted : goal.returns-clause-counted
returns-clause-counted g c = λ t image same over next legal.
    let settled = settled_by DAEMON_LOG image in
    let tables = tables_of c.args.frames settled in
    let following = still_reads c.marked_places.ensures.only_reads t same in
    let some = subst (λ (v : Option (List Bool)). AreMarked tables v) c.in-Some.is (c.in_ok-marks.ensures.marks t image same over) in
    let apart = sym (ordinals_by_places c.args.frames settled next legal) ∙ some.0 in
    IfOk-weaker c.are_counted.result (λ (b : Bool). b ≡ all_below POOL_RECORDS (is_counted_by c.in-Some.marks tables)) (λ (b : Bool). b ≡ has_counted_ordinals tables)
    (λ b is. is ∙ counted_by_places c.args.frames settled next legal c.in-Some.marks some.1 ∙ sym (ap (λ (a : Bool). a && has_counted_puddles tables) apart))
    (c.are_counted.ensures.counted t image following over c.args.frames)
