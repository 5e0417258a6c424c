-- If a list has as many of a pool's puddles as the pool has, each under its ordinal, these are all of them.
use Rattle.std.proofs.Common.{◌≡◌, inl, inr, ℕ, suc, ◌+◌, ◌<◌, true, false, eqb, nat_cmp, List, [], ◌∷◌, length, Option, Some, None, refl, sym, ap, ap₂, ◌∙◌, arith, eq-eqb}
use Rattle.std.specs.Prelude.{slice_get}
use Rattle.std.specs.Ordering.{eq_by_cmp}
use Rattle.std.proofs.lemmas.Bool.{cases_eq, cond-true}
use Rattle.std.proofs.lemmas.Cmp.{nat_cmp_total}
use Rattle.std.proofs.lemmas.List.{length-map}
use Rattle.std.proofs.lemmas.Option.{same_Some}
use Rattle.pud_defs.specs.declared.records.TheConstants.{POOL_RECORDS}
use Rattle.pud_defs.specs.declared.records.PoolRecord.{PoolRecord}
use Rattle.pud_defs.specs.declared.records.Puddle.{Puddle}
use Rattle.pud_defs.specs.RegistryTables.Keyed.{under}
use Rattle.pud_defs.specs.RegistryTables.Puddles.{Member}
use Rattle.pud_defs.specs.RegistryTables.SoundTables.{HasSoundTables}
use Rattle.pud_defs.specs.RegistryTables.Tables.{Tables, members, puddles_of, puddles_in_turn}
use Rattle.pud_defs.proofs.KeyedTables.Keyed.{alone_there, under_none}
use Rattle.pud_defs.proofs.RegistryTables.PoolMembers.{IsMemberOf, HasMembers, members_in_turn}
use Rattle.pud_defs.proofs.RegistryTables.PuddlesListed.{puddles_in_turn-listed}
use Rattle.pud_defs.proofs.RegistryTables.SoundChanged.{distinct_ordinals}
use Rattle.pud_defs.proofs.RegistryTables.TypeLists.{same_test}

-- Two lists of one length that have the same at each place are the same.
same_elements : {A : Type 0} (xs ys : List A) → length xs ≡ length ys → ((i : ℕ) (x y : A) → slice_get xs i ≡ Some x → slice_get ys i ≡ Some y → x ≡ y) → xs ≡ ys
same_elements [] [] long each = refl
same_elements [] (y ∷ ys) long each = absurd (omega arith)
same_elements (x ∷ xs) [] long each = absurd (omega arith)
same_elements (x ∷ xs) (y ∷ ys) long each = ap₂ (λ e es. e ∷ es) (each 0 x y refl refl) (same_elements xs ys (omega arith) (λ i a b here there. each (suc i) a b here there))

module _ (next : ℕ) (t : Tables) (sound : HasSoundTables next t) (slot : ℕ) (within : slot < POOL_RECORDS) where
  -- The puddle is the pool's entry of its frame.
  member_there : (o : ℕ) (e : ℕ × Puddle) → IsMemberOf t slot o e → members t slot e.0 ≡ Some (o, e)
  member_there o e is =
      ap (λ (m : Option Member). members (record t { puddles = λ f. m }) slot e.0) is.used
      ∙ cond-true (eqb is.member.pool (slot + 1)) (Some (is.member.ordinal, (e.0, is.member.puddle))) None (eq-eqb is.member.pool (slot + 1) is.pool)
      ∙ ap₂ (λ (n : ℕ) (d : Puddle). Some (n, (e.0, d))) is.ordinal_is is.puddle

  -- An ordinal has one frame.
  one_place : (o : ℕ) (e d : ℕ × Puddle) → IsMemberOf t slot o e → IsMemberOf t slot o d → e.0 ≡ d.0
  one_place o e d first second = elim (cases_eq e.0 d.0) [
    | inl here ↦ here
    | inr differ ↦ absurd (
        let low = first.below in
        let high = second.below in
        let none : under {X = ℕ × Puddle} nat_cmp o (members t slot d.0) ≡ None =
        alone_there nat_cmp nat_cmp_total (members t slot) 0 t.frames e.0 (o, e) (distinct_ordinals next t sound slot within) (omega arith) (omega arith) (member_there o e first) d.0 (omega arith) (omega arith)
        (λ back. differ (sym back)) in
        let other : eq_by_cmp nat_cmp o o ≡ false = under_none nat_cmp o (o, d) (sym (ap (under {X = ℕ × Puddle} nat_cmp o) (member_there o d second)) ∙ none) in
        let it : true ≡ false = sym (eq-eqb o o refl) ∙ sym (same_test o o) ∙ other in cc)
  ]

  -- An ordinal has one puddle.
  one_member : (o : ℕ) (e d : ℕ × Puddle) → IsMemberOf t slot o e → IsMemberOf t slot o d → e ≡ d
  one_member o e d first second =
      let place = one_place o e d first second in
      let both : ◌≡◌ {A = Option (ℕ × (ℕ × Puddle))} (Some (o, e)) (Some (o, d)) = sym (member_there o e first) ∙ ap (members t slot) place ∙ member_there o d second in
      ap (λ (x : ℕ × (ℕ × Puddle)). x.1) (same_Some {A = ℕ × (ℕ × Puddle)} (o, e) (o, d) both)

  -- As many members as the pool has puddles are all of its puddles.
  pub all_members : (r : PoolRecord) (at : List (ℕ × Puddle)) → t.pools slot ≡ Some r → HasMembers t slot at → length (puddles_of t slot) ≡ length at → puddles_in_turn t slot ≡ at
  all_members r at used has count =
      same_elements (puddles_in_turn t slot) at
      (ap length (puddles_in_turn-listed next t slot r sound within used) ∙ length-map (puddles_of t slot) (λ (e : ℕ × (ℕ × Puddle)). e.1) ∙ count)
      (λ o e d here there. one_member o e d ((members_in_turn t slot).each o e here) (has.each o d there))
