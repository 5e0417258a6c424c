-- What is gathered number by number, from 0 on.
use Rattle.std.proofs.Common.{◌≡◌, ℕ, zero, suc, ◌+◌, ◌<◌, ◌≤◌, List, [], ◌∷◌, ◌++◌, Option, Some, None, sym, ap, ◌∙◌, arith}
use Rattle.std.specs.List.{filter_map, flat_map, range_with_len, cons_option}
use Rattle.std.proofs.lemmas.List.{append-nil, map-id}
use Rattle.std.proofs.lemmas.List.Elements.{filter_map-append}
use Rattle.std.proofs.lemmas.List.FromFn.{map-range_with_len_more}
use Rattle.std.proofs.lemmas.Grind.{flat_map-append}

-- one more number
range_more : (n : ℕ) → range_with_len 0 (n + 1) ≡ range_with_len 0 n ++ n ∷ []
range_more n =
    sym (map-id (range_with_len 0 (n + 1)))
    ∙ map-range_with_len_more (λ (k : ℕ). k) 0 n n (omega arith)
    ∙ ap (λ (ks : List ℕ). ks ++ n ∷ []) (map-id (range_with_len 0 n))

module _ {X : Type 0} (h : ℕ → Option X) (n : ℕ) (gathered : List X) where
  filter_map-next : gathered ≡ filter_map h (range_with_len 0 n) → filter_map h (range_with_len 0 (n + 1)) ≡ gathered ++ cons_option (h n) []
  filter_map-next so_far =
      ap (filter_map h) (range_more n) ∙ filter_map-append h (range_with_len 0 n) (n ∷ []) ∙ ap (λ (xs : List X). xs ++ cons_option (h n) []) (sym so_far)

  -- if there is something at the next number, it is gathered
  pub filter_map_some : (x : X) → h n ≡ Some x → gathered ≡ filter_map h (range_with_len 0 n) → gathered ++ x ∷ [] ≡ filter_map h (range_with_len 0 (n + 1))
  filter_map_some x is so_far = sym (filter_map-next so_far ∙ ap (λ (o : Option X). gathered ++ cons_option o []) is)

  -- if there is nothing, nothing is gathered
  pub filter_map_none : h n ≡ None → gathered ≡ filter_map h (range_with_len 0 n) → gathered ≡ filter_map h (range_with_len 0 (n + 1))
  filter_map_none is so_far = sym (filter_map-next so_far ∙ ap (λ (o : Option X). gathered ++ cons_option o []) is ∙ append-nil gathered)

-- if there is nothing at some numbers after these, nothing is gathered
pub filter_map_skip : {X : Type 0} (h : ℕ → Option X) (n more : ℕ) (gathered : List X) → ((k : ℕ) → n ≤ k → k < n + more → h k ≡ None) → gathered ≡ filter_map h (range_with_len 0 n) → gathered ≡ filter_map h (range_with_len 0 (n + more))
filter_map_skip h n zero gathered none so_far = let same : n ≡ n + 0 = omega arith in so_far ∙ ap (λ (k : ℕ). filter_map h (range_with_len 0 k)) same
filter_map_skip h n (suc more) gathered none so_far =
    let next : n + more + 1 ≡ n + suc more = omega arith in
    filter_map_none h (n + more) gathered (none (n + more) (omega arith) (omega arith)) (filter_map_skip h n more gathered (λ k low high. none k low (omega arith)) so_far)
    ∙ ap (λ (k : ℕ). filter_map h (range_with_len 0 k)) next

-- one more piece
pub flat_map-range_more : {X : Type 0} (f : ℕ → List X) (n : ℕ) → flat_map f (range_with_len 0 (n + 1)) ≡ flat_map f (range_with_len 0 n) ++ f n
flat_map-range_more f n =
    ap (flat_map f) (range_more n) ∙ flat_map-append f (range_with_len 0 n) (n ∷ []) ∙ ap (λ xs. flat_map f (range_with_len 0 n) ++ xs) (append-nil (f n))
