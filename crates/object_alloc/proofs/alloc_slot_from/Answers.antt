use Rattle.std.proofs.Common.{◌≡◌, ℕ, Option, IfSome, sym, ap, subst, ◌∙◌}
use Rattle.std.specs.Prelude.{map, slice_get}
use Rattle.pud_defs.specs.declared.records.Puddle.{Puddle}
use Rattle.pud_defs.specs.PoolGraphs.Stored.{stored_in, class_of}
use Rattle.puddle_header.specs.Places.{place_of_slot}
use Rattle.graph_laws.specs.Slots.{IsLowestFreeSlot}
use Rattle.puddle_header.proofs.Placed.{place_ordinal, class_there}
use Rattle.object_alloc.specs.Alloc.{class_of_place}
use Rattle.object_alloc.proofs.Searched.{not_all_live}
use Rattle.object_alloc.proofs.alloc_slot_from.Goals as goal

pub returns-in-Some-clause-free : goal.returns-in-Some-clause-free
returns-in-Some-clause-free g c = λ t image same full.
    let lowest = IsLowestFreeSlot c.args.class (stored_in c.args.frames c.args.pool.now image) in
    subst lowest (sym c.slot_at_place.ensures.place) (subst (λ (o : Option ℕ). IfSome o lowest) c.in-Some.is (c.in_ok-place.ensures.free t image same full))

pub returns-in-Some-clause-full : goal.returns-in-Some-clause-full
returns-in-Some-clause-full g c = λ t image same full none.
    let st = stored_in c.args.frames c.args.pool.now image in
    let lowest = subst (λ (o : Option ℕ). IfSome o (IsLowestFreeSlot c.args.class st)) c.in-Some.is (c.in_ok-place.ensures.free t image same full) in
    (λ e. absurd (let no = e in cc), λ all. absurd (not_all_live c.args.class st c.in-Some.place lowest all))

pub returns-in-Some-clause-of_class : goal.returns-in-Some-clause-of_class
returns-in-Some-clause-of_class g c =
    let pool = c.args.pool.now in
    let slot = c.slot_at_place.result in
    let of = c.slot_at_place.ensures.within in
    let there : class_of_place pool (place_of_slot slot) ≡ of.puddle.class = ap (λ (o : ℕ). class_of (slice_get (map (λ (e : ℕ × Puddle). e.1) pool) o)) (place_ordinal slot.ordinal slot.slot of.puddle of.below) ∙ class_there pool slot.ordinal (slot.frame, of.puddle) of.there in
    of.alike ∙ sym there ∙ ap (class_of_place pool) c.slot_at_place.ensures.place
    ∙ subst (λ (o : Option ℕ). IfSome o (λ place. class_of_place pool place ≡ c.args.class)) c.in-Some.is c.in_ok-place.ensures.of_class
