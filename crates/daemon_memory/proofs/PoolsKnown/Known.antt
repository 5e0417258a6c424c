-- What is known about pools after one pool's puddles are kept, or the pool is forgotten.
use Rattle.std.proofs.Common.{◌≡◌, ◌≢◌, ℕ, ◌<◌, option_map, true, false, true≢false, List, [], length, length-set, replicate, set, Option, Some, None, is_some, unwrap_or, refl, sym, ap, subst, ◌∙◌, arith, inl, inr}
use Rattle.std.proofs.lemmas.Bool.{cases_eq, cases_lt}
use Rattle.std.proofs.lemmas.List.{get_or-set_same, get_or-set_other, get_or_past, get_or-replicate, length-replicate}
use Rattle.std.proofs.lemmas.Option.{none-some, same_Some}
use Rattle.pud_defs.specs.declared.records.Puddle.{Puddle}
use Rattle.pud_defs.specs.Formats.Image.{Image}
use Rattle.pud_defs.specs.PoolGraphs.Stored.{IsOnDevice}
use Rattle.daemon_memory.specs.PoolKnowledge.{puddles_with_graph}
use Rattle.pud_defs.proofs.KeyedTables.Keyed.{option_map_parts}
use Rattle.known_pool.specs.Known.{Known, IsKnown}
use Rattle.daemon_memory.specs.PoolKnowledge.{known_pool_in, known_puddles_in, AreOnDevice, AreKnownPools}

-- If nothing was put, nothing is known about any pool.
pub none_pool_in : (n slot : ℕ) → known_pool_in (replicate n None) slot ≡ None
none_pool_in n slot = elim (cases_lt slot n) [
  | inl within ↦ get_or-replicate n slot None None within
  | inr past ↦ get_or_past (replicate n None) slot None (omega (arith, past, length-replicate {A = Option Known} n None))
]

pub none_known_in : (n slot : ℕ) → known_puddles_in (replicate n None) slot ≡ None
none_known_in n slot = ap (option_map (λ (k : Known). k.puddles)) (none_pool_in n slot)

pub none_known : (n slot : ℕ) (here : List (ℕ × Puddle)) → known_puddles_in (replicate n None) slot ≡ Some here → ⊥
none_known n slot here is = none-some here (sym (none_known_in n slot) ∙ is)

pub AreOnDevice-none : (F n : ℕ) → AreOnDevice F (replicate n None)
AreOnDevice-none F n = record { each = λ slot here is. absurd (none_known n slot here is) }

pub AreKnownPools-none : (F n : ℕ) (image : Image) → AreKnownPools F (replicate n None) image
AreKnownPools-none F n image = record { each = λ slot here is. absurd (none_known n slot here is); known = λ slot known is. absurd (none-some known (sym (none_pool_in n slot) ∙ is)) }

-- What was put for a pool is known about it. About others the same is known as before.
pub pool_kept : (known_pools : List (Option Known)) (slot : ℕ) (put : Option Known) → slot < length known_pools → known_pool_in (set known_pools slot put) slot ≡ put
pool_kept known_pools slot put within = get_or-set_same known_pools slot put None within

pub pool_other : (known_pools : List (Option Known)) (slot i : ℕ) (put : Option Known) → i ≢ slot → known_pool_in (set known_pools slot put) i ≡ known_pool_in known_pools i
pool_other known_pools slot i put other = get_or-set_other known_pools slot i put None other

-- The same holds for the puddles.
pub known_kept_there : (known_pools : List (Option Known)) (slot : ℕ) (known : Known) → slot < length known_pools → known_puddles_in (set known_pools slot (Some known)) slot ≡ Some known.puddles
known_kept_there known_pools slot known within = ap (option_map (λ (k : Known). k.puddles)) (pool_kept known_pools slot (Some known) within)

pub known_other : (known_pools : List (Option Known)) (slot i : ℕ) (put : Option Known) → i ≢ slot → known_puddles_in (set known_pools slot put) i ≡ known_puddles_in known_pools i
known_other known_pools slot i put other = ap (option_map (λ (k : Known). k.puddles)) (pool_other known_pools slot i put other)

-- What holds for what was put in the slot, and for what was known before, holds for all that is known then.
pool_from : (known_pools : List (Option Known)) (slot : ℕ) (put : Option Known) (P : ℕ → Known → Type 0) → ((known : Known) → put ≡ Some known → P slot known) → ((i : ℕ) (known : Known) → known_pool_in known_pools i ≡ Some known → P i known)
    → (i : ℕ) (known : Known) → known_pool_in (set known_pools slot put) i ≡ Some known → P i known
pool_from known_pools slot put P kept before i known is = elim (cases_eq i slot) [
  | inr other ↦ before i known (sym (pool_other known_pools slot i put other) ∙ is)
  | inl same ↦ elim (cases_lt slot (length known_pools)) [
    | inl within ↦ subst (λ (j : ℕ). P j known) (sym same) (kept known (sym (pool_kept known_pools slot put within) ∙ ap (known_pool_in (set known_pools slot put)) (sym same) ∙ is))
    | inr past ↦ absurd (none-some known (sym (ap (known_pool_in (set known_pools slot put)) same ∙ get_or_past (set known_pools slot put) slot None (omega (arith, past, length-set known_pools slot put))) ∙ is))
  ]
]

-- If a pool's puddles are known, something is known about the pool, and it has these puddles.
pub pool_of_known : (known_pools : List (Option Known)) (slot : ℕ) (at : List (ℕ × Puddle)) → known_puddles_in known_pools slot ≡ Some at → (known : Known) × ((known_pool_in known_pools slot ≡ Some known) × (known.puddles ≡ at))
pool_of_known known_pools slot at is = let of = option_map_parts (λ (k : Known). k.puddles) (known_pool_in known_pools slot) at is in (of.value, (of.is, of.gives))

-- The same holds for the puddles alone.
known_from : (known_pools : List (Option Known)) (slot : ℕ) (put : Option Known) (P : ℕ → List (ℕ × Puddle) → Type 0) → ((known : Known) → put ≡ Some known → P slot known.puddles)
    → ((i : ℕ) (here : List (ℕ × Puddle)) → known_puddles_in known_pools i ≡ Some here → P i here) → (i : ℕ) (here : List (ℕ × Puddle)) → known_puddles_in (set known_pools slot put) i ≡ Some here → P i here
known_from known_pools slot put P kept before i here is =
    let of = pool_of_known (set known_pools slot put) i here is in
    subst (P i) of.1.1 (pool_from known_pools slot put (λ j known. P j known.puddles) kept (λ j known was. before j known.puddles (ap (option_map (λ (k : Known). k.puddles)) was)) i of.0 of.1.0)

-- If the puddles that are put lie on the device, and the known ones did, all known puddles lie on it.
pub AreOnDevice-put : (F : ℕ) (known_pools : List (Option Known)) (slot : ℕ) (known : Known) → IsOnDevice F known.puddles → AreOnDevice F known_pools → AreOnDevice F (set known_pools slot (Some known))
AreOnDevice-put F known_pools slot known kept before =
    record { each = known_from known_pools slot (Some known) (λ i here. IsOnDevice F here) (λ k is. subst (λ (x : Known). IsOnDevice F x.puddles) (same_Some known k is) kept) before.each }

pub AreKnownPools-set : (F : ℕ) (known_pools : List (Option Known)) (slot : ℕ) (known : Known) (image : Image) → puddles_with_graph F image slot ≡ Some known.puddles → IsKnown F image known → AreKnownPools F known_pools image
    → AreKnownPools F (set known_pools slot (Some known)) image
AreKnownPools-set F known_pools slot known image has is before = record {
  each = known_from known_pools slot (Some known) (λ i here. puddles_with_graph F image i ≡ Some here) (λ k same. subst (λ (x : Known). puddles_with_graph F image slot ≡ Some x.puddles) (same_Some known k same) has) before.each;
  known = pool_from known_pools slot (Some known) (λ i k. IsKnown F image k) (λ k same. subst (IsKnown F image) (same_Some known k same) is) before.known;
}

-- They still lie on it after a pool is forgotten.
pub AreOnDevice-forgotten : (F : ℕ) (known_pools : List (Option Known)) (slot : ℕ) → AreOnDevice F known_pools → AreOnDevice F (set known_pools slot None)
AreOnDevice-forgotten F known_pools slot before = record { each = known_from known_pools slot None (λ i here. IsOnDevice F here) (λ k no. absurd (none-some k no)) before.each }

pub AreKnownPools-forgotten : (F : ℕ) (known_pools : List (Option Known)) (slot : ℕ) (image : Image) → AreKnownPools F known_pools image → AreKnownPools F (set known_pools slot None) image
AreKnownPools-forgotten F known_pools slot image before = record {
  each = known_from known_pools slot None (λ i here. puddles_with_graph F image i ≡ Some here) (λ k no. absurd (none-some k no)) before.each;
  known = pool_from known_pools slot None (λ i k. IsKnown F image k) (λ k no. absurd (none-some k no)) before.known;
}

-- ---- a pool that is known has a graph

known_puddles : (F slot : ℕ) (image : Image) (known : Option (List (ℕ × Puddle))) → true ≡ is_some known → ((at : List (ℕ × Puddle)) → known ≡ Some at → puddles_with_graph F image slot ≡ Some at)
    → Some (unwrap_or known []) ≡ puddles_with_graph F image slot
known_puddles F slot image None is each = absurd (true≢false is)
known_puddles F slot image (Some at) is each = sym (each at refl)

-- The known puddles are those that are read, and they have a graph.
pub judged_puddles : (F slot : ℕ) (image : Image) (known_pools : List (Option Known)) → true ≡ is_some (known_puddles_in known_pools slot) → AreKnownPools F known_pools image
    → Some (unwrap_or (known_puddles_in known_pools slot) []) ≡ puddles_with_graph F image slot
judged_puddles F slot image known_pools is right = known_puddles F slot image (known_puddles_in known_pools slot) is (right.each slot)

pub none_found : (found : Option (List (ℕ × Puddle))) → false ≡ is_some found → None ≡ found
none_found None is = refl
none_found (Some at) is = absurd (true≢false (sym is))
