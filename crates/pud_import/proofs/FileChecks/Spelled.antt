-- Words that bytes spell: which bytes a word is spelled by, and how many words there are.
use Rattle.std.proofs.Common.{◌≡◌, ℕ, zero, suc, ◌+◌, ◌-◌, ◌*◌, ◌/◌, ◌≤◌, List, [], ◌∷◌, length, slice_index, take, drop, refl, ap₂, ◌∙◌, arith}
use Rattle.std.specs.Int.{from_le_bytes, w64}
use Rattle.std.specs.List.{slice_range}
use Rattle.pud_defs.specs.PoolGraphs.ExportFile.{words_in}

-- a word is spelled by its eight bytes
pub word_read : (xs : List ℕ) (k : ℕ) → 8 * k + 8 ≤ length xs → from_le_bytes w64 (slice_range xs (8 * k) (8 * k + 8)) ≡ slice_index (words_in xs) k
unfolding words_in
word_read (a ∷ b ∷ c ∷ d ∷ e ∷ f ∷ g ∷ h ∷ rest) zero within = refl
word_read (a ∷ b ∷ c ∷ d ∷ e ∷ f ∷ g ∷ h ∷ rest) (suc k) within =
    let at : 8 * suc k ≡ suc (suc (suc (suc (suc (suc (suc (suc (8 * k)))))))) = omega arith in
    let eight : 8 * suc k + 8 - 8 * suc k ≡ 8 * k + 8 - 8 * k = omega arith in
    ap₂ (λ n m. from_le_bytes w64 (take n (drop m (a ∷ b ∷ c ∷ d ∷ e ∷ f ∷ g ∷ h ∷ rest)))) eight at ∙ word_read rest k (omega arith)
word_read short k within = absurd (omega arith)

pub length-words_in : (xs : List ℕ) → length (words_in xs) ≡ length xs / 8
unfolding words_in
length-words_in (a ∷ b ∷ c ∷ d ∷ e ∷ f ∷ g ∷ h ∷ rest) = omega (arith, length-words_in rest)
length-words_in [] = refl
length-words_in (a ∷ []) = refl
length-words_in (a ∷ b ∷ []) = refl
length-words_in (a ∷ b ∷ c ∷ []) = refl
length-words_in (a ∷ b ∷ c ∷ d ∷ []) = refl
length-words_in (a ∷ b ∷ c ∷ d ∷ e ∷ []) = refl
length-words_in (a ∷ b ∷ c ∷ d ∷ e ∷ f ∷ []) = refl
length-words_in (a ∷ b ∷ c ∷ d ∷ e ∷ f ∷ g ∷ []) = refl
