-- Words that bytes spell, eight bytes for each word.
use Rattle.std.proofs.Common.{◌≡◌, ℕ, ◌+◌, ◌*◌, ◌^◌, ◌<◌, List, [], ◌∷◌, ◌++◌, length, refl, ap, arith, length-append}
use Rattle.std.specs.Int.{from_le_bytes, to_le_bytes, w64}
use Rattle.std.proofs.lemmas.Nat.{from_le_bytes-to_le_bytes_8}
use Rattle.pud_defs.specs.PoolGraphs.ExportFile.{words_in}

-- one more word
pub words_in-more : (xs : List ℕ) (v : ℕ) → length xs ≡ 8 * length (words_in xs) → v < 2 ^ 64 → words_in (xs ++ to_le_bytes w64 v) ≡ words_in xs ++ v ∷ []
unfolding words_in
words_in-more [] v whole below = ap (λ (w : ℕ). w ∷ []) (from_le_bytes-to_le_bytes_8 v below)
words_in-more (a ∷ b ∷ c ∷ d ∷ e ∷ f ∷ g ∷ h ∷ rest) v whole below =
    ap (λ (ws : List ℕ). from_le_bytes w64 (a ∷ b ∷ c ∷ d ∷ e ∷ f ∷ g ∷ h ∷ []) ∷ ws) (words_in-more rest v (omega arith) below)
words_in-more short v whole below = absurd (omega arith)

pub none_spelled : words_in [] ≡ []
unfolding words_in
none_spelled = refl

-- bytes that spell words and nothing else still do so with one more word
pub whole-more : (xs : List ℕ) (v : ℕ) → length xs ≡ 8 * length (words_in xs) → v < 2 ^ 64 → length (xs ++ to_le_bytes w64 v) ≡ 8 * length (words_in (xs ++ to_le_bytes w64 v))
whole-more xs v whole below =
    let more : length (words_in xs ++ v ∷ []) ≡ length (words_in xs) + 1 = length-append (words_in xs) (v ∷ []) in
    let bytes : length (xs ++ to_le_bytes w64 v) ≡ length xs + 8 = length-append xs (to_le_bytes w64 v) in
    let words = ap length (words_in-more xs v whole below) in
    omega arith

pub whole-none : 0 ≡ 8 * length (words_in [])
unfolding words_in
whole-none = refl
