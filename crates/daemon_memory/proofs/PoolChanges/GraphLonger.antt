-- A pool with a fresh puddle after its others keeps its graph, and each of its objects keeps its place.
use Rattle.std.proofs.Common.{◌≡◌, ℕ, ◌+◌, ◌<◌, ◌≤◌, ltb, cond, List, [], ◌∷◌, ◌++◌, map, length, Option, Some, None, option_map, nat_cmp, refl, sym, ap, ap₂, ◌∙◌, arith}
use Rattle.std.specs.Prelude.{slice_get}
use Rattle.std.proofs.lemmas.List.{length-map, length_push}
use Rattle.std.proofs.lemmas.Option.{none-some, slice_get-map}
use Rattle.pud_defs.specs.declared.records.Puddle.{Puddle}
use Rattle.pud_defs.specs.declared.space.TheConstants.{SLOT_SERIAL_WORD}
use Rattle.pud_defs.specs.Formats.Geometry.{class_slots, class_slot_at, ordinal_of, slot_of}
use Rattle.pud_defs.specs.Formats.Frames.{IsFreshFrame}
use Rattle.pud_defs.specs.PoolGraphs.Graph.{under_serial, table_of, place_of_serial, object_at, Object, Graph, graph_of}
use Rattle.pud_defs.specs.PoolGraphs.Holdings.{held_as, graph_held}
use Rattle.pud_defs.specs.Formats.Image.{Image}
use Rattle.pud_defs.specs.RegistryTables.Keyed.{under}
use Rattle.pud_defs.specs.PoolGraphs.Stored.{Stored, class_of, word_in_frame, stored_in, places_of, place_serial, slot_state}
use Rattle.pud_defs.proofs.KeyedTables.Keyed.{first_from_at, first_from_some}
use Rattle.graph_laws.proofs.FreshPuddles.Grown.{slice_get-front}
use Rattle.graph_laws.proofs.SameReads.Places.{object_in-place}
use Rattle.puddle_header.specs.Places.{places_in}
use Rattle.graph_read.specs.Reading.{place_in_pool}
use Rattle.registry.proofs.Grown.{still_holds}
use Rattle.hybrid_tx.proofs.Objects.DeferredKept.{KeepsPlaces}

pub graph_as : (st : Stored) (o : Option Graph) → graph_held (held_as st o) ≡ o
graph_as st None = refl
graph_as st (Some g) = refl

-- A fresh puddle after the others keeps the graph.
pub graph_longer : (types : List (ℕ × ℕ)) (F : ℕ) (i : Image) (at : List (ℕ × Puddle)) (e : ℕ × Puddle) (g : Graph) → 1 ≤ length at → IsFreshFrame F e.0 e.1.number (length at) i → graph_of types (stored_in F at i) ≡ Some g
    → graph_of types (stored_in F (at ++ e ∷ []) i) ≡ Some g
graph_longer types F i at e g some fresh is =
    sym (graph_as (stored_in F (at ++ e ∷ []) i) (graph_of types (stored_in F (at ++ e ∷ []) i)))
    ∙ ap graph_held (still_holds types F i at e.0 e.1 (omega (arith, some)) fresh g (ap (held_as (stored_in F at i)) is))

-- Each object keeps its place.
module _ (types : List (ℕ × ℕ)) (F : ℕ) (i : Image) (at : List (ℕ × Puddle)) (e : ℕ × Puddle) (g : Graph) (is : graph_of types (stored_in F at i) ≡ Some g) where
  abbrev wide : List (ℕ × Puddle)
  wide = at ++ e ∷ []

  abbrev near : ℕ → ℕ
  near p = place_serial (stored_in F at i) p

  abbrev far : ℕ → ℕ
  far p = place_serial (stored_in F wide i) p

  serial_front : (q : ℕ) → q < places_in at → far q ≡ near q
  serial_front q below =
      let o = ordinal_of q in
      let puddle = λ (d : ℕ × Puddle). d.1 in
      let front : slice_get wide o ≡ slice_get at o = slice_get-front at (e ∷ []) o (omega arith) in
      let class : class_of (slice_get (map puddle wide) o) ≡ class_of (slice_get (map puddle at) o) = ap class_of (slice_get-map puddle wide o ∙ ap (option_map puddle) front ∙ sym (slice_get-map puddle at o)) in
      ap₂ (λ (c : ℕ) (d : Option (ℕ × Puddle)). cond (ltb (slot_of q) (class_slots c)) (word_in_frame F i (class_slot_at c (slot_of q) + SLOT_SERIAL_WORD) d) 0) class front

  under_front : (s q : ℕ) → q < places_in at → under nat_cmp s (under_serial far (λ (p : ℕ). p) q) ≡ under nat_cmp s (under_serial near (λ (p : ℕ). p) q)
  under_front s q below = ap (λ (k : ℕ). under nat_cmp s (cond (slot_state k).is_live (Some (k, q)) None)) (serial_front q below)

  place_found : (s p : ℕ) → place_of_serial s (table_of types (stored_in F at i)) (places_of (stored_in F at i)) ≡ Some p → place_in_pool F wide i s ≡ place_in_pool F at i s
  place_found s p found =
      let first = first_from_some nat_cmp s (under_serial near (λ (p : ℕ). p)) 0 (places_of (stored_in F at i)) p found in
      let high = first.1.high in
      let many = length-map at (λ (d : ℕ × Puddle). d.1) in
      let below : first.0 < places_in at = omega (arith, high, many) in
      let more = length_push at e in
      first_from_at nat_cmp s (under_serial far (λ (p : ℕ). p)) 0 (places_in wide) first.0 p (omega arith) (omega (arith, below, more)) (under_front s first.0 below ∙ first.1.here)
      (λ q low high. under_front s q (omega (arith, high, below)) ∙ first.1.before q low high)
      ∙ sym (first_from_at nat_cmp s (under_serial near (λ (p : ℕ). p)) 0 (places_in at) first.0 p (omega arith) (omega (arith, below)) first.1.here first.1.before)

  place_by : (s : ℕ) (o : Object) (place : Option ℕ) → place_of_serial s (table_of types (stored_in F at i)) (places_of (stored_in F at i)) ≡ place
      → option_map (object_at (table_of types (stored_in F at i))) place ≡ Some o → place_in_pool F wide i s ≡ place_in_pool F at i s
  place_by s o None none there = absurd (none-some o there)
  place_by s o (Some p) found there = place_found s p found

  pub places_longer : KeepsPlaces F at wide i i g
  places_longer = record {
    each = λ s o live. place_by s o (place_of_serial s (table_of types (stored_in F at i)) (places_of (stored_in F at i))) refl (sym (object_in-place types (stored_in F at i) g s is) ∙ live);
  }
