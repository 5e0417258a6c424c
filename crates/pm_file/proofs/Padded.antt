-- Lemmas on rows that were filled up with zeroes.
use Rattle.std.proofs.Common.{◌≡◌, ℕ, ◌-◌, ◌++◌, List, length, get_or, replicate, refl, sym, ◌∙◌, arith, inl, inr}
use Rattle.std.proofs.lemmas.Bool.{cases_lt}
use Rattle.std.proofs.lemmas.List.{get_or-replicate, get_or_past, get_or_append_left, get_or-append_right, length-replicate}
use Rattle.pm_rows.specs.Rows.{AreSame}

get_or-zeroes : (n k value : ℕ) → get_or (replicate n value) k value ≡ value
get_or-zeroes n k value =
    elim (cases_lt k n) [
      | inl lt ↦ get_or-replicate n k value value lt
      | inr past ↦ get_or_past (replicate n value) k value (omega (arith, length-replicate n value, past))
    ]

-- A row that continues with zeroes has the same words.
pub AreSame-padded : (row new : List ℕ) (n : ℕ) → new ≡ row ++ replicate n 0 → AreSame new row
AreSame-padded row new n is = record {
  each = λ word.
      rw is
      (elim (cases_lt word (length row)) [
        | inl lt ↦ get_or_append_left row (replicate n 0) 0 word lt
        | inr past ↦ get_or-append_right row (replicate n 0) (length row) word 0 refl past ∙ get_or-zeroes n (word - length row) 0 ∙ sym (get_or_past row word 0 past)
      ]);
}
