-- The address of a slot over the bases of its pool.
use Rattle.std.proofs.Common.{◌≡◌, ℕ, ◌+◌, ◌*◌, ◌%◌, ◌^◌, ◌<◌, ◌≤◌, List, map, length, get_or, Option, Some, option_map, sym, ap, ap₂, ◌∙◌, arith}
use Rattle.std.specs.Prelude.{slice_get}
use Rattle.std.proofs.Math.Nat.{mod-eq_of_lt}
use Rattle.std.proofs.lemmas.List.Elements.{All-get_or}
use Rattle.std.proofs.lemmas.Option.{slice_get-map, slice_get-get_or}
use Rattle.pud_defs.specs.declared.records.Puddle.{Puddle}
use Rattle.pud_defs.specs.declared.space.TheConstants.{WORD_BYTES, RANGE_BYTES}
use Rattle.pud_defs.specs.Formats.Geometry.{class_slots, slots_of, slot_at, place_at}
use Rattle.pud_defs.proofs.Formats.Geometry.{some_words, slot_end}
use Rattle.pud_defs.specs.PoolGraphs.Graph.{At, slot_address}
use Rattle.pud_defs.specs.PoolGraphs.Exported.{address_in, address_of}
use Rattle.puddle_header.proofs.Placed.{place_ordinal, place_slot}
use Rattle.graph_read.specs.Bases.{HasLowBases}
use Rattle.graph_read.specs.Reading.{class_in}
use Rattle.graph_read.proofs.Slots.{slot_of_entry}

-- If the base is low, the address of a slot does not wrap around.
low_address : (d : Puddle) (s word v : ℕ) → s < slots_of d → word ≡ slot_at d s → v ≡ (d.base + WORD_BYTES * word) % 2 ^ 64 → d.base + RANGE_BYTES ≤ 2 ^ 64 → v ≡ slot_address d s
low_address d s word v below is wrapped low =
    let end = slot_end d.class s below in
    let some = some_words d.class in
    wrapped ∙ ap (λ (w : ℕ). (d.base + WORD_BYTES * w) % 2 ^ 64) is ∙ mod-eq_of_lt {n = d.base + WORD_BYTES * slot_at d s} {m = 2 ^ 64} (omega arith)

-- the address of a slot of a pool's puddle
pub address_at : (at : List (ℕ × Puddle)) (o s word v : ℕ) (e : ℕ × Puddle) → HasLowBases at → o < length at → s < class_slots (class_in at o) → word ≡ slot_at (get_or at o e).1 s → v ≡ ((get_or at o e).1.base + WORD_BYTES * word) % 2 ^ 64
    → v ≡ address_of (map (λ e. e.1) at) (At (place_at o s))
address_at at o s word v e low within below is_word is =
    let there : slice_get (map (λ (d : ℕ × Puddle). d.1) at) o ≡ Some (get_or at o e).1 =
    slice_get-map (λ (d : ℕ × Puddle). d.1) at o ∙ ap (option_map (λ (d : ℕ × Puddle). d.1)) (slice_get-get_or at o e within) in
    let few = slot_of_entry at o s e within below in
    low_address (get_or at o e).1 s word v few is_word is (All-get_or (λ (d : ℕ × Puddle). d.1.base + RANGE_BYTES ≤ 2 ^ 64) at o e within low.low)
    ∙ sym (ap₂ (λ (i j : ℕ). address_in (slice_get (map (λ (d : ℕ × Puddle). d.1) at) i) j) (place_ordinal o s (get_or at o e).1 few) (place_slot o s (get_or at o e).1 few)
    ∙ ap (λ (d : Option Puddle). address_in d s) there)
