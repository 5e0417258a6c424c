-- Which values come to words during some calls, told by the images that are left meanwhile.
use Rattle.std.proofs.Common.{◌≡◌, ◌⊎◌, inl, inr, ℕ, cond, eqb, List, ◌∷◌, Option, refl, sym, subst, ◌∙◌, eq-eqb, ne_eqb}
use Rattle.std.proofs.lemmas.Bool.{cases_eq, cond-true, cond-false}
use Rattle.std.proofs.lemmas.List.{append_cancel_right}
use Rattle.pm_model.specs.declared.host.HostFault.{HostFault}
use Rattle.pm_model.specs.Words.{Has, values, Image, Picks}
use Rattle.pm_model.specs.Moments.{Moment, State}
use Rattle.pm_model.specs.Changes.{Footprint, Changes, Leaves, Silently}

-- an image that may be left at this moment, with this value of word k
abbrev picked : Moment → (k v : ℕ) → Image
picked m k v j = cond (eqb j k) v (m.words j).newest

picked_there : (m : Moment) (k v : ℕ) → picked m k v k ≡ v
picked_there m k v = cond-true _ _ _ (eq-eqb k k refl)

picks_value : (m : Moment) (k v : ℕ) → Has (values (m.words k)) v → Picks m.words (picked m k v)
picks_value m k v has = record {
  each = λ j. elim (cases_eq j k) [
    | inl here ↦ subst (Has (values (m.words j))) (sym (cond-true _ _ _ (eq-eqb j k here))) (subst (λ (n : ℕ). Has (values (m.words n)) v) (sym here) has)
    | inr other ↦ subst (Has (values (m.words j))) (sym (cond-false _ _ _ (ne_eqb j k other))) (inl refl)
  ];
}

-- If each image that is left tells that a word has one of its values from the start, or a value of the narrow footprint,
-- only such values come to the words.
pub Changes-narrow : (P : Image → Type 0) (may narrow : Footprint) (fault : Option HostFault) (old new : State)
    → ((image : Image) → P image → (k : ℕ) → may k (image k) → Has (values (old.now.words k)) (image k) ⊎ narrow k (image k))
    → ((k : ℕ) → ((v : ℕ) → narrow k v → ⊥) → (v : ℕ) → may k v → ⊥) → Changes may fault old new → Leaves (Silently P) old new → Changes narrow fault old new
Changes-narrow P may narrow fault old new each none c l =
    let same : c.added ≡ l.added = append_cancel_right c.added l.added (old.now ∷ old.past) (sym c.history ∙ l.history) in
    record {
      added = c.added;
      history = c.history;
      quiet = c.quiet;
      within = λ m h k v has. elim (c.within m h k v has) [
        | inl was ↦ inl was
        | inr comes ↦
            let here = picked_there m k v in
            let left = (l.later m (subst (λ (ms : List Moment). Has ms m) same h)).each (picked m k v) (picks_value m k v has) in
            subst (λ (x : ℕ). Has (values (old.now.words k)) x ⊎ narrow k x) here (each (picked m k v) left.1 k (subst (may k) (sym here) comes))
      ];
      keeps = λ uncut k free. c.keeps uncut k (none k free);
      rests = c.rests;
      script = c.script;
      shelf = c.shelf;
    }
