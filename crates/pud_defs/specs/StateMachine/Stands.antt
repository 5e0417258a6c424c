-- Which world an image stands for while the lines of a run are answered.
use Rattle.std.specs.Prelude.{◌≡◌, ◌⊎◌, ℕ, zero, suc, List, [], ◌∷◌, Some}
use Rattle.pud_defs.specs.Formats.Image.{Image}
use Rattle.pud_defs.specs.StateMachine.World.{World, world_of, closed}
use Rattle.pud_defs.specs.StateMachine.Run.{Turn, newlines}

-- If `said` whole reply lines are printed, the image stands for the closed world after as many turns. If a further line
-- was taken, it may stand for the closed world that this line gives instead. There are never more reply lines than
-- turns.
abbrev pub StandsAfter : ℕ → World → List Turn → ℕ → Image → Type 0
StandsAfter size w [] zero image = world_of size image ≡ Some (closed w)
StandsAfter size w [] (suc said) image = ⊥
StandsAfter size w (t ∷ turns) zero image = (world_of size image ≡ Some (closed w)) ⊎ (world_of size image ≡ Some (closed t.under))
StandsAfter size w (t ∷ turns) (suc said) image = StandsAfter size t.next turns said image

-- the same, with these bytes printed in reply
abbrev pub StandsWith : ℕ → World → List Turn → List ℕ → Image → Type 0
StandsWith size w turns bytes image = StandsAfter size w turns (newlines bytes) image

-- The same, if the start first prints this many lines of its own. Until they are whole, the image stands for the world
-- before the run.
abbrev pub StandsAfterLines : (lines : ℕ) → ℕ → World → List Turn → ℕ → Image → Type 0
StandsAfterLines zero size w turns said image = StandsAfter size w turns said image
StandsAfterLines (suc lines) size w turns zero image = world_of size image ≡ Some (closed w)
StandsAfterLines (suc lines) size w turns (suc said) image = StandsAfterLines lines size w turns said image
