use Rattle.std.proofs.Common.{Option, ℕ, Result, Ok, refl, sym, ap, ◌∙◌}
use Rattle.std.proofs.lemmas.Result.{err_from_is_err_and}
use Rattle.pud_defs.specs.declared.records.Put.{Put}
use Rattle.puddle_table.specs.declared.PuddleFault.{PuddleFault}
use Rattle.puddle_table.specs.Records.{puddle_added_at}
use Rattle.puddle_table.proofs.Search.{lowest_in, frame_found, none_found}
use Rattle.puddle_table.proofs.add.Goals as goal

pub returns-clause-added : goal.returns-clause-added
returns-clause-added g c = λ t image e none.
    let found = frame_found _ c.in_ok-frame.frame (c.in_ok-frame.ensures.frame t image e none) in
    let done : Put → Result Put PuddleFault = λ put. Ok put in
    ap done c.record_put.ensures.put ∙ sym (ap (λ (o : Option ℕ). puddle_added_at o c.args.rec) (lowest_in c.args.frames image c.args.from _ (sym found)))

pub returns-clause-changes : goal.returns-clause-changes
returns-clause-changes g c = λ t image e.
    let found = frame_found _ c.in_ok-frame.frame (c.in_ok-frame.ensures.frame t image e refl) in
    record {
      frame = c.in_ok-frame.frame;
      lowest = lowest_in c.args.frames image c.args.from _ (sym found);
      is = c.record_put.ensures.changes c.args.frames image c.in_ok-frame.ensures.within;
    }

pub returns-in_err-frame-clause-added : goal.returns-in_err-frame-clause-added
returns-in_err-frame-clause-added g c =
    let p = err_from_is_err_and c.from_residual.result c.from_residual.ensures.1 in
    let fault = c.in_err-frame.field-0.0 in
    rw (p.1, p.2) (λ t image e none.
    none_found _ fault c.args.rec (c.in_err-frame.ensures.frame t image e none) ∙ sym (ap (λ (o : Option ℕ). puddle_added_at o c.args.rec) (lowest_in c.args.frames image c.args.from _ refl)))
