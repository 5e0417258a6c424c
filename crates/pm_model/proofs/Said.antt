-- What does not change while bytes are printed.
use Rattle.std.proofs.Common.{◌≡◌, ℕ, List, [], ◌∷◌, ◌++◌, refl, sym, ◌∙◌, append_assoc}
use Rattle.std.proofs.lemmas.List.{append-nil}
use Rattle.pm_model.specs.Moments.{State, one_said, all_said}

pub words-all_said : (bytes : List ℕ) (s : State) → (all_said bytes s).now.words ≡ s.now.words
words-all_said [] s = refl
words-all_said (b ∷ bytes) s = words-all_said bytes (one_said b s)

pub said-all_said : (bytes : List ℕ) (s : State) → (all_said bytes s).now.said ≡ s.now.said ++ bytes
said-all_said [] s = sym (append-nil s.now.said)
said-all_said (b ∷ bytes) s = said-all_said bytes (one_said b s) ∙ append_assoc s.now.said (b ∷ []) bytes

pub script-all_said : (bytes : List ℕ) (s : State) → (all_said bytes s).script ≡ s.script
script-all_said [] s = refl
script-all_said (b ∷ bytes) s = script-all_said bytes (one_said b s)

pub shelf-all_said : (bytes : List ℕ) (s : State) → (all_said bytes s).shelf ≡ s.shelf
shelf-all_said [] s = refl
shelf-all_said (b ∷ bytes) s = shelf-all_said bytes (one_said b s)
