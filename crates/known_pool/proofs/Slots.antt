-- Where objects are after a change of serials: puddles are added after the others, an object is freed, or one is made.
use Rattle.std.proofs.Common.{◌≡◌, inl, inr, ℕ, ◌<◌, cond, List, Option, Some, None, option_map, nat_cmp, refl, sym, ap, ◌∙◌, arith, eq-eqb}
use Rattle.std.proofs.lemmas.Bool.{cases_eq, cond-true, and_parts, leb-true}
use Rattle.std.proofs.lemmas.List.{length-map}
use Rattle.std.proofs.lemmas.Option.{none-some}
use Rattle.pud_defs.specs.declared.records.Puddle.{Puddle}
use Rattle.pud_defs.specs.Formats.Image.{Image}
use Rattle.pud_defs.specs.PoolGraphs.Stored.{stored_in, slot_state, places_of}
use Rattle.pud_defs.specs.PoolGraphs.Graph.{Graph, graph_of, object_at, under_serial, next_serial_of}
use Rattle.pud_defs.specs.RegistryTables.Keyed.{under}
use Rattle.pud_defs.specs.RegistryTables.Types.{types_of}
use Rattle.pud_defs.proofs.KeyedTables.Keyed.{first_from_at, first_from_some, first_from_none, first_from_none_each, first_from_same}
use Rattle.pud_defs.proofs.PoolGraphs.Graphs.{graph_of-each, under_serial-free, under_serial-used}
use Rattle.pud_defs.proofs.RegistryTables.TypeLists.{same_test}
use Rattle.graph_laws.proofs.ObjectChanges.TableChanges.{under_other, serials_apart}
use Rattle.graph_laws.proofs.ObjectChanges.ReferenceCounts.{next_unused}
use Rattle.graph_laws.proofs.SameReads.Words.{IsLive, place_of_serial-some}
use Rattle.puddle_header.specs.Places.{places_in}
use Rattle.graph_read.specs.Reading.{table_in, place_in_pool}
use Rattle.graph_read.proofs.Found.{object_in-place}
use Rattle.known_pool.specs.Serials.{serial_in, KeepsPrefix}

-- If mapping gives none, there was none.
none_there : {A B : Type 0} (f : A → B) (o : Option A) → option_map f o ≡ None → o ≡ None
none_there f None none = refl
none_there f (Some x) some = absurd (none-some (f x) (sym some))

-- What is at a place depends on its serial alone.
abbrev stands_at : (ℕ → ℕ) → ℕ → Option (ℕ × ℕ)
stands_at serial = under_serial serial (λ (p : ℕ). p)

under_same : (f h : ℕ → ℕ) (s p : ℕ) → h p ≡ f p → under nat_cmp s (stands_at h p) ≡ under nat_cmp s (stands_at f p)
under_same f h s p same = ap (λ (k : ℕ). under nat_cmp s (cond (slot_state k).is_live (Some (k, p)) None)) same

-- ---- more puddles

module _ (F : ℕ) (at later : List (ℕ × Puddle)) (before after : Image) (keeps : KeepsPrefix F at later before after) where
  abbrev near : ℕ → ℕ
  near = serial_in F at before

  abbrev far : ℕ → ℕ
  far = serial_in F later after

  place_stays : (s p : ℕ) → place_in_pool F at before s ≡ Some p → place_in_pool F later after s ≡ Some p
  place_stays s p found =
      let first = first_from_some nat_cmp s (stands_at near) 0 (places_in at) p found in
      let high = first.1.high in
      let more = keeps.more in
      let same : (q : ℕ) → q < places_in at → under nat_cmp s (stands_at far q) ≡ under nat_cmp s (stands_at near q) = λ q below. under_same near far s q (keeps.each q below) in
      first_from_at nat_cmp s (stands_at far) 0 (places_in later) first.0 p (omega arith) (omega (arith, high, more)) (same first.0 (omega (arith, high)) ∙ first.1.here)
      (λ q low below. same q (omega (arith, below, high)) ∙ first.1.before q low below)

  -- So each object is where it was, if the pool has the graph that it had.
  module _ (g : Graph) (was : graph_of (types_of before) (stored_in F at before) ≡ Some g) (is : graph_of (types_of after) (stored_in F later after) ≡ Some g) where
    place_by : (s : ℕ) (o : Option ℕ) → place_in_pool F at before s ≡ o → place_in_pool F later after s ≡ o
    place_by s None none =
        none_there (object_at (table_in F later after)) (place_in_pool F later after s)
        (sym (object_in-place F later after g s is) ∙ object_in-place F at before g s was ∙ ap (option_map (object_at (table_in F at before))) none)
    place_by s (Some p) found = place_stays s p found

    pub place_front : (s : ℕ) → place_in_pool F later after s ≡ place_in_pool F at before s
    place_front s = place_by s (place_in_pool F at before s) refl

-- ---- one serial changes

module _ (F : ℕ) (at : List (ℕ × Puddle)) (before after : Image) (g : Graph) (is : graph_of (types_of before) (stored_in F at before) ≡ Some g) (p : ℕ)
    (others : (q : ℕ) → (q ≡ p → ⊥) → serial_in F at after q ≡ serial_in F at before q) where
  abbrev was : ℕ → ℕ
  was = serial_in F at before

  abbrev now : ℕ → ℕ
  now = serial_in F at after

  -- The object of a serial was freed.
  module _ (s : ℕ) (there : place_in_pool F at before s ≡ Some p) (free : now p ≡ 0) where
    its : IsLive (table_in F at before) (places_in at) s p
    its = place_of_serial-some (table_in F at before) (places_in at) s p there

    pub freed_gone : place_in_pool F at after s ≡ None
    freed_gone =
        let low = its.within in
        let many = length-map at (λ (e : ℕ × Puddle). e.1) in
        let count = places_of (stored_in F at before) in
        let within : p < count = omega (arith, low, many) in
        first_from_none nat_cmp s (stands_at now) 0 (places_in at) (λ j low high. elim (cases_eq j p) [
          | inl here ↦ under_other now (λ (q : ℕ). q) s j (λ same. its.used (its.is ∙ sym same ∙ ap now here ∙ free))
          | inr other ↦ under_other now (λ (q : ℕ). q) s j (λ same.
              serials_apart was count p (graph_of-each (types_of before) (stored_in F at before) g is).graph.distinct within its.used j (omega (arith, high, many)) other (sym (others j other) ∙ same ∙ sym its.is))
        ])

    pub freed_others : (q : ℕ) → (q ≡ s → ⊥) → place_in_pool F at after q ≡ place_in_pool F at before q
    freed_others q apart =
        first_from_same nat_cmp q (stands_at now) (stands_at was) 0 (places_in at) (λ j low high. elim (cases_eq j p) [
          | inl here ↦ ap (under nat_cmp q) (under_serial-free now (λ (i : ℕ). i) j (ap now here ∙ free)) ∙ sym (under_other was (λ (i : ℕ). i) q j (λ same. apart (sym same ∙ ap was here ∙ its.is)))
          | inr other ↦ under_same was now q j (others j other)
        ])

  -- An object was made.
  module _ (within : p < places_in at) (free : was p ≡ 0) (made : now p ≡ g.next_serial) where
    next_some : g.next_serial ≡ 0 → ⊥
    next_some none =
        let h = graph_of-each (types_of before) (stored_in F at before) g is in
        let legal = leb-true 1 (next_serial_of (stored_in F at before)) (and_parts _ _ h.graph.legal).0 in
        let same = ap (λ (k : Graph). k.next_serial) h.is in
        absurd (omega (arith, legal, same, none))

    unused : place_in_pool F at before g.next_serial ≡ None
    unused =
        none_there (object_at (table_in F at before)) (place_in_pool F at before g.next_serial)
        (sym (object_in-place F at before g g.next_serial is) ∙ next_unused (types_of before) (stored_in F at before) g is)

    pub made_there : place_in_pool F at after g.next_serial ≡ Some p
    made_there =
        let s = g.next_serial in
        first_from_at nat_cmp s (stands_at now) 0 (places_in at) p p (omega arith) (omega (arith, within))
        (ap (under nat_cmp s) (under_serial-used now (λ (q : ℕ). q) p (λ none. next_some (sym made ∙ none))) ∙ cond-true _ _ _ (same_test s (now p) ∙ eq-eqb s (now p) (sym made)))
        (λ j low below.
        under_same was now s j (others j (λ same. absurd (omega (arith, below, same)))) ∙ first_from_none_each nat_cmp s (stands_at was) 0 (places_in at) unused j low (omega (arith, below, within)))

    pub made_others : (q : ℕ) → (q ≡ g.next_serial → ⊥) → place_in_pool F at after q ≡ place_in_pool F at before q
    made_others q apart =
        first_from_same nat_cmp q (stands_at now) (stands_at was) 0 (places_in at) (λ j low high. elim (cases_eq j p) [
          | inl here ↦ under_other now (λ (i : ℕ). i) q j (λ same. apart (sym same ∙ ap now here ∙ made)) ∙ sym (ap (under nat_cmp q) (under_serial-free was (λ (i : ℕ). i) j (ap was here ∙ free)))
          | inr other ↦ under_same was now q j (others j other)
        ])

    pub made_live : now p ≡ 0 → ⊥
    made_live none = next_some (sym made ∙ none)
