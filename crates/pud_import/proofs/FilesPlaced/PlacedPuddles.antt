-- Puddles that are placed one after the other: one more puddle, that their frames rise, and their frontier.
use Rattle.std.proofs.Common.{◌≡◌, ◌⊎◌, inl, inr, ℕ, zero, suc, ◌+◌, ◌-◌, ◌<◌, ◌≤◌, Bool, ◌&&◌, eqb, cond, List, [], ◌∷◌, ◌++◌, map, length, All, Some, refl, sym, ap, ap₂, subst, ◌∙◌, append_assoc, arith}
use Rattle.std.specs.Prelude.{slice_get, bytes_eq}
use Rattle.std.specs.List.{list_all}
use Rattle.std.proofs.lemmas.Option.{slice_get-map, none-some, same_Some}
use Rattle.std.proofs.lemmas.Simd.{map-map}
use Rattle.std.proofs.lemmas.List.{append-nil, length-append, map-append}
use Rattle.std.proofs.lemmas.List.Elements.{All-push, All-nil, All-map}
use Rattle.pud_defs.specs.declared.records.PoolRecord.{PoolRecord}
use Rattle.pud_defs.specs.declared.records.Puddle.{Puddle}
use Rattle.pud_defs.specs.Formats.Geometry.{steps_of}
use Rattle.pud_defs.specs.Formats.Image.{Image}
use Rattle.pud_defs.specs.RegistryTables.Keyed.{first_free}
use Rattle.pud_defs.specs.RegistryTables.Placement.{IsBaseFor, ArePlacedFrom, placed_frontier, ArePlaced}
use Rattle.pud_defs.specs.RegistryTables.Tables.{Tables, tables_of}
use Rattle.pud_defs.proofs.KeyedTables.Keyed.{IsMapped, option_map_parts, first_free_some}
use Rattle.registry.specs.declared.adding.NewPuddle.{NewPuddle}
use Rattle.registry.specs.declared.placing.NewType.{NewType}
use Rattle.registry.specs.Adding.{IsAddedWithin}
use Rattle.registry.specs.Placing.{puddle_of_added, added_classes, IsPlacedFor}
use Rattle.pud_import.specs.Places.{with_steps, IsPuddleAt, AreMembers, FramesRise}

abbrev pub base_of : NewPuddle → ℕ
base_of a = a.puddle.base

-- the frame from which the search goes on after these puddles
unfoldable pub next_from : (from : ℕ) → List NewPuddle → ℕ
next_from from [] = from
next_from from (a ∷ puddles) = next_from (a.frame + 1) puddles

next_from-more : (from : ℕ) (puddles : List NewPuddle) (a : NewPuddle) → next_from from (puddles ++ a ∷ []) ≡ a.frame + 1
unfolding next_from
next_from-more from [] a = refl
next_from-more from (b ∷ puddles) a = next_from-more (b.frame + 1) puddles a

module _ (t : Tables) where
  -- one more puddle
  placed_more : (from : ℕ) (taken wanted : List ℕ) (puddles : List NewPuddle) (a : NewPuddle) → ArePlacedFrom t from taken wanted (map puddle_of_added puddles) → first_free t.puddles (next_from from puddles) (t.frames - next_from from puddles) ≡ Some a.frame
      → IsBaseFor t (taken ++ map base_of puddles) a.puddle.old_base a.puddle.base → ArePlacedFrom t from taken (wanted ++ a.puddle.old_base ∷ []) (map puddle_of_added (puddles ++ a ∷ []))
  unfolding next_from
  placed_more from taken [] [] a placed frame base = (frame, subst (λ (l : List ℕ). IsBaseFor t l a.puddle.old_base a.puddle.base) (append-nil taken) base, refl, placed)
  placed_more from taken [] (b ∷ puddles) a placed frame base = absurd placed
  placed_more from taken (w ∷ wanted) [] a placed frame base = absurd placed
  placed_more from taken (w ∷ wanted) (b ∷ puddles) a placed frame base = (
    placed.0,
    placed.1,
    placed.2,
    placed_more (b.frame + 1) (taken ++ b.puddle.base ∷ []) wanted puddles a placed.3 frame
        (subst (λ (l : List ℕ). IsBaseFor t l a.puddle.old_base a.puddle.base) (sym (append_assoc taken (b.puddle.base ∷ []) (map base_of puddles))) base),
  )

  -- each frame comes after those of the puddles before
  after_from : (from : ℕ) (taken wanted : List ℕ) (puddles : List NewPuddle) → ArePlacedFrom t from taken wanted (map puddle_of_added puddles) → (j : ℕ) (a : NewPuddle) → slice_get puddles j ≡ Some a → from ≤ a.frame
  after_from from taken [] [] placed j a is = absurd (none-some a is)
  after_from from taken (w ∷ wanted) [] placed j a is = absurd placed
  after_from from taken [] (x ∷ puddles) placed j a is = absurd placed
  after_from from taken (w ∷ wanted) (x ∷ puddles) placed zero a is =
      let low = (first_free_some t.puddles from (t.frames - from) x.frame placed.0).low in
      let same : x.frame ≡ a.frame = ap (λ (a : NewPuddle). a.frame) (same_Some x a is) in
      omega arith
  after_from from taken (w ∷ wanted) (x ∷ puddles) placed (suc j) a is =
      let low = (first_free_some t.puddles from (t.frames - from) x.frame placed.0).low in
      let later = after_from (x.frame + 1) (taken ++ x.puddle.base ∷ []) wanted puddles placed.3 j a is in
      omega arith

  rise : (from : ℕ) (taken wanted : List ℕ) (puddles : List NewPuddle) → ArePlacedFrom t from taken wanted (map puddle_of_added puddles) → (i j : ℕ) (a b : NewPuddle) → i < j → slice_get puddles i ≡ Some a → slice_get puddles j ≡ Some b → a.frame < b.frame
  rise from taken [] [] placed i j a b less is_a is_b = absurd (none-some a is_a)
  rise from taken (w ∷ wanted) [] placed i j a b less is_a is_b = absurd placed
  rise from taken [] (x ∷ puddles) placed i j a b less is_a is_b = absurd placed
  rise from taken (w ∷ wanted) (x ∷ puddles) placed i zero a b less is_a is_b = absurd (omega arith)
  rise from taken (w ∷ wanted) (x ∷ puddles) placed zero (suc j) a b less is_a is_b =
      let later = after_from (x.frame + 1) (taken ++ x.puddle.base ∷ []) wanted puddles placed.3 j b is_b in
      let same : x.frame ≡ a.frame = ap (λ (a : NewPuddle). a.frame) (same_Some x a is_a) in
      omega arith
  rise from taken (w ∷ wanted) (x ∷ puddles) placed (suc i) (suc j) a b less is_a is_b = rise (x.frame + 1) (taken ++ x.puddle.base ∷ []) wanted puddles placed.3 i j a b (omega arith) is_a is_b

pub placed_rise : (F : ℕ) (image : Image) (types : List (ℕ × ℕ)) (wanted classes : List ℕ) (slot : ℕ) (r : PoolRecord) (new : List NewType) (puddles : List NewPuddle) → IsPlacedFor F image types wanted classes slot r new puddles → FramesRise puddles
placed_rise F image types wanted classes slot r new puddles is = record { each = rise (tables_of F image) 0 [] wanted puddles is.placed.turn }

-- ---- found one after the other

-- `o` puddles were found: they are members of the pool, the search goes on after their frames, and these are their
-- bases.
pub record AreFound (F slot next o from : ℕ) (bases : List ℕ) (puddles : List NewPuddle) : Type 0 where
  pub count : length puddles ≡ o
  pub are_bases : bases ≡ map base_of puddles
  pub goes_on : next_from 0 puddles ≡ from
  pub members : AreMembers slot next puddles
  pub within : All (IsAddedWithin F) puddles

pub found_none : (F slot next : ℕ) → AreFound F slot next 0 0 [] []
unfolding next_from
found_none F slot next = record {
  count = refl;
  are_bases = refl;
  goes_on = refl;
  members = record { each = λ o a is. absurd (none-some a is) };
  within = All-nil (IsAddedWithin F);
}

got_more : {X : Type 0} (xs : List X) (x : X) (o : ℕ) (d : X) → slice_get (xs ++ x ∷ []) o ≡ Some d → (slice_get xs o ≡ Some d) ⊎ ((o ≡ length xs) × (x ≡ d))
got_more [] x zero d is = inr (refl, same_Some x d is)
got_more [] x (suc o) d is = absurd (none-some d is)
got_more (y ∷ xs) x zero d is = inl is
got_more (y ∷ xs) x (suc o) d is = elim (got_more xs x o d is) [ inl there ↦ inl there | inr last ↦ let at = last.0 in inr (omega arith, last.1) ]

module _ (F slot next o from : ℕ) (bases : List ℕ) (puddles : List NewPuddle) (h : AreFound F slot next o from bases puddles) (a : NewPuddle) where
  pub found_more : IsPuddleAt slot next o a → IsAddedWithin F a → AreFound F slot next (o + 1) (a.frame + 1) (bases ++ a.puddle.base ∷ []) (puddles ++ a ∷ [])
  found_more one within = record {
    count = length-append puddles (a ∷ []) ∙ ap (λ n. n + 1) h.count;
    are_bases = ap (λ (l : List ℕ). l ++ a.puddle.base ∷ []) h.are_bases ∙ sym (map-append base_of puddles (a ∷ []));
    goes_on = next_from-more 0 puddles a;
    members = record {
      each = λ n d there. elim (got_more puddles a n d there) [
        | inl before ↦ h.members.each n d before
        | inr last ↦
            let here : n ≡ o = last.0 ∙ h.count in
            subst (λ (d : NewPuddle). IsPuddleAt slot next n d) last.1 (subst (λ (n : ℕ). IsPuddleAt slot next n a) (sym here) one)
      ];
    };
    within = All-push (IsAddedWithin F) puddles a h.within within;
  }

  pub placed_next : (t : Tables) (wanted : List ℕ) → t.frames ≡ F → ArePlacedFrom t 0 [] wanted (map puddle_of_added puddles) → first_free t.puddles from (F - from) ≡ Some a.frame → IsBaseFor t bases a.puddle.old_base a.puddle.base
      → ArePlacedFrom t 0 [] (wanted ++ a.puddle.old_base ∷ []) (map puddle_of_added (puddles ++ a ∷ []))
  placed_next t wanted frames placed frame base =
      placed_more t 0 [] wanted puddles a placed (subst (λ (n : ℕ). first_free t.puddles n (t.frames - n) ≡ Some a.frame) (sym h.goes_on) (ap (λ (n : ℕ). first_free t.puddles from (n - from)) frames ∙ frame))
      (subst (λ (l : List ℕ). IsBaseFor t l a.puddle.old_base a.puddle.base) h.are_bases base)

-- ---- with a frontier

module _ (all : Bool) where
  at_bases : (puddles : List NewPuddle) → map (λ (e : ℕ × Puddle). e.1.base) (map puddle_of_added (map (with_steps all) puddles)) ≡ map (λ (e : ℕ × Puddle). e.1.base) (map puddle_of_added puddles)
  at_bases [] = refl
  at_bases (a ∷ puddles) = ap (λ (bases : List ℕ). a.puddle.base ∷ bases) (at_bases puddles)

  placed_at : (t : Tables) (from : ℕ) (taken wanted : List ℕ) (puddles : List NewPuddle) → ArePlacedFrom t from taken wanted (map puddle_of_added puddles) → ArePlacedFrom t from taken wanted (map puddle_of_added (map (with_steps all) puddles))
  placed_at t from taken [] [] placed = placed
  placed_at t from taken [] (a ∷ puddles) placed = absurd placed
  placed_at t from taken (w ∷ wanted) [] placed = absurd placed
  placed_at t from taken (w ∷ wanted) (a ∷ puddles) placed = (placed.0, placed.1, placed.2, placed_at t (a.frame + 1) (taken ++ a.puddle.base ∷ []) wanted puddles placed.3)

  -- each of these is one of those before, except for its frontier
  one_of : (puddles : List NewPuddle) (o : ℕ) (a : NewPuddle) → slice_get (map (with_steps all) puddles) o ≡ Some a → IsMapped (with_steps all) (slice_get puddles o) a
  one_of puddles o a is = option_map_parts (with_steps all) (slice_get puddles o) a (sym (slice_get-map (with_steps all) puddles o) ∙ is)

  pub members_at : (slot next : ℕ) (puddles : List NewPuddle) → AreMembers slot next puddles → AreMembers slot next (map (with_steps all) puddles)
  members_at slot next puddles h = record {
    each = λ o a is.
        let b = one_of puddles o a is in
        let was = h.each o b.value b.is in
        subst (IsPuddleAt slot next o) b.gives (record { pool = was.pool; is_ordinal = was.is_ordinal; number = was.number });
  }

  pub within_at : (F : ℕ) (puddles : List NewPuddle) → All (IsAddedWithin F) puddles → All (IsAddedWithin F) (map (with_steps all) puddles)
  within_at F puddles within = All-map (IsAddedWithin F) (with_steps all) puddles (λ k d below. let w = within k d below in record { frame = w.frame; slot = w.slot; number = w.number })

-- each puddle kept its base exactly if the bases that the puddles have are the wanted ones
kept_wanted : (t : Tables) (from : ℕ) (taken wanted : List ℕ) (puddles : List NewPuddle) → ArePlacedFrom t from taken wanted (map puddle_of_added puddles)
    → list_all (λ (a : NewPuddle). eqb a.puddle.base a.puddle.old_base) puddles ≡ bytes_eq (map (λ (e : ℕ × Puddle). e.1.base) (map puddle_of_added puddles)) wanted
kept_wanted t from taken [] [] placed = refl
kept_wanted t from taken [] (a ∷ puddles) placed = absurd placed
kept_wanted t from taken (w ∷ wanted) [] placed = absurd placed
kept_wanted t from taken (w ∷ wanted) (a ∷ puddles) placed =
    ap₂ (λ (n : ℕ) (b : Bool). eqb a.puddle.base n && b) placed.2 (kept_wanted t (a.frame + 1) (taken ++ a.puddle.base ∷ []) wanted puddles placed.3)

pub placed_whole : (t : Tables) (slot next : ℕ) (wanted classes : List ℕ) (puddles : List NewPuddle) → AreMembers slot next puddles → ArePlacedFrom t 0 [] wanted (map puddle_of_added puddles) → added_classes puddles ≡ classes
    → ArePlaced t next wanted classes (map puddle_of_added (map (with_steps (list_all (λ (a : NewPuddle). eqb a.puddle.base a.puddle.old_base) puddles)) puddles))
placed_whole t slot next wanted classes puddles members placed alike =
    let all = list_all (λ (a : NewPuddle). eqb a.puddle.base a.puddle.old_base) puddles in
    let new = map (with_steps all) puddles in
    let at = map puddle_of_added new in
    let kept = kept_wanted t 0 [] wanted puddles placed ∙ ap (λ (l : List ℕ). bytes_eq l wanted) (sym (at_bases all puddles)) in
    record {
      turn = placed_at all t 0 [] wanted puddles placed;
      alike = map-map (λ (e : ℕ × Puddle). e.1.class) puddle_of_added new ∙ map-map (λ (a : NewPuddle). a.puddle.class) (with_steps all) puddles ∙ alike;
      frontier = λ o e is.
          let a = option_map_parts puddle_of_added (slice_get new o) e (sym (slice_get-map puddle_of_added new o) ∙ is) in
          let b = one_of all puddles o a.value a.is in
          subst (λ (e : ℕ × Puddle). e.1.frontier ≡ placed_frontier wanted at e.1) (ap puddle_of_added b.gives ∙ a.gives)
          (ap (λ (yes : Bool). cond yes (steps_of (puddle_of_added b.value).1) 0) kept);
      number = λ o e is.
          let a = option_map_parts puddle_of_added (slice_get new o) e (sym (slice_get-map puddle_of_added new o) ∙ is) in
          sym (ap (λ (e : ℕ × Puddle). e.1.number) a.gives) ∙ ((members_at all slot next puddles members).each o a.value a.is).number;
    }
