-- The frames of one pool placed in the frames of another pool, whose puddles have numbers of their own.
use Rattle.std.specs.Prelude.{◌≡◌, ℕ, ◌<◌, true, List, length, map, slice_get, Some}
use Rattle.pud_defs.specs.Formats.Geometry.{steps_of}
use Rattle.pud_defs.specs.declared.layout.TheConstants.{FRAME_WORDS}
use Rattle.pud_defs.specs.declared.records.Puddle.{Puddle}
use Rattle.pud_defs.specs.declared.space.TheConstants.{FRAME_NUMBER_WORD}
use Rattle.pud_defs.specs.PoolGraphs.Stored.{Stored}
use Rattle.pud_defs.specs.PoolGraphs.Graph.{pointee_at, headers_fit}

-- The second pool has as many puddles. Their frames have the same words, except for the numbers, which are those of its
-- own puddles. A pointer at any step stands for the same in both pools.
pub record ArePlacedFrames (file later : Stored) : Type 0 where
  pub classes : map (λ d. d.class) later.puddles ≡ map (λ d. d.class) file.puddles
  pub headers : headers_fit later ≡ true
  pub words : (o k : ℕ) → o < length file.puddles → k < FRAME_WORDS → (k ≡ FRAME_NUMBER_WORD → ⊥) → later.word o k ≡ file.word o k
  pub pointers : (o step v : ℕ) (d : Puddle) → slice_get file.puddles o ≡ Some d → step < steps_of d → pointee_at later.puddles o step v ≡ pointee_at file.puddles o step v

-- Each puddle has this frontier.
pub record AreFrontiers (frontier : ℕ) (puddles : List Puddle) : Type 0 where
  pub each : (o : ℕ) (d : Puddle) → slice_get puddles o ≡ Some d → d.frontier ≡ frontier

-- Each frontier of the later pool is at its end, and its bases are those of the other pool.
pub record AreAtEnd (puddles : List Puddle) : Type 0 where
  pub each : (o : ℕ) (d : Puddle) → slice_get puddles o ≡ Some d → d.frontier ≡ steps_of d

-- Each frontier of the later pool is at its end, and its classes and its bases are those of the other pool.
pub record KeepsBases (file later : List Puddle) : Type 0 where
  pub frontiers : AreAtEnd later
  pub classes : map (λ d. d.class) later ≡ map (λ d. d.class) file
  pub bases : map (λ d. d.base) later ≡ map (λ d. d.base) file

-- No step of the later pool is rewritten yet, and its old bases are the bases of the other pool.
pub record MovesBases (file later : List Puddle) : Type 0 where
  pub frontiers : AreFrontiers 0 later
  pub classes : map (λ d. d.class) later ≡ map (λ d. d.class) file
  pub bases : map (λ d. d.old_base) later ≡ map (λ d. d.base) file
