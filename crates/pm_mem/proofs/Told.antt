-- Lemmas on what a host tells if only a part of it changes.
use Rattle.std.proofs.Common.{◌≡◌, ℕ, List, [], ◌∷◌, refl}
use Rattle.pm_model.specs.Moments.{State, Shelf, one_said, all_said}
use Rattle.pm_mem.specs.MemHost.{told}

pub told-all_said : (bytes : List ℕ) (s : State) (script : List ℕ) (shelf : Shelf) → told (all_said bytes s) script shelf ≡ all_said bytes (told s script shelf)
told-all_said [] s script shelf = refl
told-all_said (b ∷ bytes) s script shelf = told-all_said bytes (one_said b s) script shelf
