-- Entries whose values are mapped: the list of a table of them, and what is found in it.
use Rattle.std.proofs.Common.{◌≡◌, ℕ, zero, suc, ◌+◌, true, false, List, [], ◌∷◌, map, cond, Option, Some, None, option_map, refl, ap, ◌∙◌}
use Rattle.std.specs.declared.cmp.Ordering.{Ordering}
use Rattle.std.specs.declared.cmp.Ordering.TheVariants.{Less, Equal, Greater}
use Rattle.std.specs.Ordering.{is_eq}
use Rattle.std.specs.FinMap.Entries.{by_order, put, find}
use Rattle.pud_defs.specs.RegistryTables.Keyed.{put_entry, keyed}

module _ {K X Y : Type 0} (R : K → K → Ordering) (g : X → Y) where
  -- an entry with its value mapped
  abbrev pub of_entry : K × X → K × Y
  of_entry e = (e.0, g e.1)

  pub put-mapped : (k : K) (v : X) (es : List (K × X)) → put R k (g v) (map of_entry es) ≡ map of_entry (put R k v es)
  put-mapped k v [] = refl
  put-mapped k v (e ∷ es) =
      let rest = put-mapped k v es in
      elim (R k e.0) as (λ o. by_order o ((k, g v) ∷ of_entry e ∷ map of_entry es) ((e.0, g v) ∷ map of_entry es) (of_entry e ∷ put R k (g v) (map of_entry es))
      ≡ map of_entry (by_order o ((k, v) ∷ e ∷ es) ((e.0, v) ∷ es) (e ∷ put R k v es))) [
        | Less ↦ refl
        | Equal ↦ refl
        | Greater ↦ ap (λ others. of_entry e ∷ others) rest
      ]

  mapped_in_front : (e : Option (K × X)) (es : List (K × X)) → put_entry R (option_map of_entry e) (map of_entry es) ≡ map of_entry (put_entry R e es)
  mapped_in_front None es = refl
  mapped_in_front (Some e) es = put-mapped e.0 e.1 es

  -- the list of the mapped entries is the mapped list
  pub keyed-mapped : (at : ℕ → Option (K × X)) (from count : ℕ) → keyed R (λ i. option_map of_entry (at i)) from count ≡ map of_entry (keyed R at from count)
  unfolding keyed
  keyed-mapped at from zero = refl
  keyed-mapped at from (suc count) = ap (put_entry R (option_map of_entry (at from))) (keyed-mapped at (from + 1) count) ∙ mapped_in_front (at from) (keyed R at (from + 1) count)

  -- what is found among the mapped entries is the mapped value
  pub find-mapped : (q : K) (es : List (K × X)) → find R q (map of_entry es) ≡ option_map g (find R q es)
  find-mapped q [] = refl
  find-mapped q (e ∷ es) =
      let rest = find-mapped q es in
      elim (is_eq (R q e.0)) as (λ b. cond b (Some (g e.1)) (find R q (map of_entry es)) ≡ option_map g (cond b (Some e.1) (find R q es))) [ true ↦ refl | false ↦ rest ]
