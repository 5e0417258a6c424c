use Rattle.std.proofs.Common.{◌<◌, ◌∙◌, ℕ, map, length, slice_get, refl, sym, ap, arith}
use Rattle.std.proofs.lemmas.Bool.{ltb-true}
use Rattle.std.proofs.lemmas.Option.{slice_get-get_or}
use Rattle.pud_defs.specs.Formats.Geometry.{class_slots, slot_of}
use Rattle.pud_defs.specs.PoolGraphs.Stored.{class_of}
use Rattle.puddle_header.proofs.Placed.{class_there}
use Rattle.puddle_header.proofs.places.slot_at_place.Goals as goal

pub returns-clause-within : goal.returns-clause-within
returns-clause-within c =
    let is = c.ordinal_of-ordinal.ensures in
    let slot = c.slot_of.ensures in
    let inside : c.ordinal_of-ordinal.result < length c.args.pool.now = omega (arith, c.requires.within) in
    let there = slice_get-get_or c.args.pool.now c.ordinal_of-ordinal.result _ inside in
    let class = class_there c.args.pool.now c.ordinal_of-ordinal.result _ there in
    let same = ap (λ (o : ℕ). class_slots (class_of (slice_get (map (λ e. e.1) c.args.pool.now) o))) (sym is) ∙ ap class_slots class in
    let below = ltb-true (slot_of c.args.place) _ c.requires.slot in
    record { puddle = _; there = there; alike = refl; below = omega (arith, below, same, slot) }
