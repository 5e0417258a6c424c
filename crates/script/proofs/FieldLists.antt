-- How one more pointer field changes a map word.
use Rattle.std.proofs.Common.{◌≡◌, ℕ, ◌+◌, ◌*◌, ◌^◌, ◌<◌, ◌≤◌, true, false, cond, List, [], ◌∷◌, bytes_eq, codes, option_map, option_and_then, sum_by, Option, Some, None, refl, sym, ap, ◌∙◌, arith, pow_mono}
use Rattle.std.proofs.lemmas.Nat.{pow-add}
use Rattle.std.proofs.lemmas.List.Sums.{sum_by-cons}
use Rattle.pud_defs.specs.StateMachine.Grammar.{split_at, number_within, fields_from, pointers_of, listed_map}
use Rattle.pud_defs.specs.Formats.TypeMap.{map_word}

-- the map word so far, with the pointers from `least` up that the remaining pieces name
unfoldable pub map_after : ℕ → ℕ → ℕ → List (List ℕ) → Option ℕ
map_after n least map pieces = option_map (λ fs. map + sum_by (λ f. 2 ^ f) fs) (fields_from n least pieces)

with_field : (map f : ℕ) (fs : Option (List ℕ)) → option_map (λ gs. map + sum_by (λ g. 2 ^ g) gs) (option_map (λ gs. f ∷ gs) fs) ≡ option_map (λ gs. (map + 2 ^ f) + sum_by (λ g. 2 ^ g) gs) fs
with_field map f None = refl
with_field map f (Some fs) = ap (λ n. Some n) (omega (arith, sum_by-cons (λ g. 2 ^ g) f fs))

-- taking the field of the first piece into the map word does not change the final map word
pub field_taken : (n least map f : ℕ) (piece : List ℕ) (pieces : List (List ℕ)) → number_within least n piece ≡ Some f
    → map_after n (f + 1) (map + 2 ^ f) pieces ≡ map_after n least map (piece ∷ pieces)
unfolding map_after fields_from
field_taken n least map f piece pieces e =
    let next : ℕ → Option (List ℕ) = λ g. option_map (λ fs. g ∷ fs) (fields_from n (g + 1) pieces) in
    sym (ap (λ o. option_map (λ gs. map + sum_by (λ g. 2 ^ g) gs) (option_and_then next o)) e ∙ with_field map f (fields_from n (f + 1) pieces))

-- there is no map word if the first piece is no field that may stand there
pub field_refused : (n least map : ℕ) (piece : List ℕ) (pieces : List (List ℕ)) → number_within least n piece ≡ None
    → map_after n least map (piece ∷ pieces) ≡ None
unfolding map_after fields_from
field_refused n least map piece pieces e =
    let next : ℕ → Option (List ℕ) = λ g. option_map (λ fs. g ∷ fs) (fields_from n (g + 1) pieces) in
    ap (λ o. option_map (λ gs. map + sum_by (λ g. 2 ^ g) gs) (option_and_then next o)) e

-- if no piece is left, the map word is the one so far
pub no_field_left : (n least map : ℕ) → Some map ≡ map_after n least map []
unfolding map_after fields_from
no_field_left n least map = ap (λ n. Some n) (omega arith)

-- the list `-` names no pointer
pub no_pointers : (n : ℕ) (list : List ℕ) → bytes_eq list (codes "-") ≡ true → Some (n * 2 ^ 32) ≡ listed_map n list
unfolding pointers_of
no_pointers n list e =
    let none : n * 2 ^ 32 ≡ map_word n [] = omega arith in
    ap (λ m. Some m) none ∙ sym (ap (λ b. option_map (map_word n) (cond b (Some []) (fields_from n 0 (split_at 44 list)))) e)

-- any other list names the pointers in its pieces
pub pointers_listed : (n : ℕ) (list : List ℕ) → bytes_eq list (codes "-") ≡ false → map_after n 0 (n * 2 ^ 32) (split_at 44 list) ≡ listed_map n list
unfolding map_after pointers_of
pointers_listed n list e =
    sym (ap (λ b. option_map (map_word n) (cond b (Some []) (fields_from n 0 (split_at 44 list)))) e)

-- the bit of the next field is above the field bits that are set: the map word's field bits stay below the bit after it
pub bit_fits : (n least map f : ℕ) → map < n * 2 ^ 32 + 2 ^ least → least ≤ f → map + 2 ^ f < n * 2 ^ 32 + 2 ^ (f + 1)
bit_fits n least map f h above =
    let larger : 2 ^ least ≤ 2 ^ f = pow_mono {i = least} {j = f} above in
    let doubled : 2 ^ (f + 1) ≡ 2 ^ f * 2 = pow-add 2 f 1 in
    omega arith

-- the lemmas that the loop over the list uses
pub ruleset fields_read = (field_taken, field_refused, no_field_left, no_pointers, pointers_listed)
