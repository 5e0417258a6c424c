use Rattle.std.proofs.Common.{◌≡◌, ℕ, Some, None, slice_index_or, sym, ap, ◌∙◌}
use Rattle.pud_defs.specs.declared.records.PuddleRecord.{PuddleRecord}
use Rattle.puddle_table.specs.Placed.{Placed, frame_of_puddle}
use Rattle.puddle_table.proofs.Placing.{puddle_placed}
use Rattle.puddle_table.proofs.places.Places.puddle.Goals as goal

pub returns-in_ok-read_record-in-Some-clause-found : goal.returns-in_ok-read_record-in-Some-clause-found
returns-in_ok-read_record-in-Some-clause-found g c = λ t image e holds.
    let here : frame_of_puddle c.args.self.now.frames c.args.pool c.args.ordinal ≡ Some c.in-Some.frame =
    ap (λ (p : Placed). frame_of_puddle p.frames c.args.pool c.args.ordinal) (sym c.self.view_is) ∙ ap (λ (i : ℕ). slice_index_or c.self.inside.frames i None) (sym c.place.ensures.place) ∙ c.in-Some.is in
    ap (λ (r : PuddleRecord). Some (c.in-Some.frame, r)) (c.in_ok-read_record-in-Some.ensures.record t image e)
    ∙ puddle_placed c.args.self.now.count image c.args.self.now c.args.pool c.args.ordinal c.in-Some.frame holds c.requires.pool c.requires.ordinal here
