-- Batches of steps, one after the other, and the words that they write.
use Rattle.std.specs.Prelude.{◌≡◌, ◌≢◌, ◌⊎◌, ℕ, zero, suc, ◌+◌, ◌<◌, ◌≤◌, true, List, slice_get, Option, Some, None}
use Rattle.std.specs.List.{list_all}
use Rattle.pm_model.specs.declared.host.HostFault.{HostFault}
use Rattle.pm_model.specs.declared.host.HostFault.TheVariants.{Cut}
use Rattle.pm_model.specs.Words.{Words, reads}
use Rattle.pm_model.specs.Moments.{State}
use Rattle.pm_model.specs.Changes.{Footprint}
use Rattle.pud_defs.specs.declared.layout.TheConstants.{DAEMON_LOG, FRAME_WORDS}
use Rattle.pud_defs.specs.declared.records.Puddle.{Puddle}
use Rattle.pud_defs.specs.Formats.Geometry.{steps_of}
use Rattle.pud_defs.specs.Formats.Layout.{IsWithin}
use Rattle.pud_defs.specs.Formats.Frames.{frame_at}
use Rattle.pud_defs.specs.RegistryTables.Puddles.{frontier_word}
use Rattle.pud_defs.specs.Logging.Entries.{Entry}
use Rattle.pud_defs.specs.Logging.Replay.{IsInLog}
use Rattle.pud_defs.specs.RegistryTables.Registry.{is_loggable}
use Rattle.pud_defs.specs.RegistryTables.Types.{types_of}
use Rattle.graph_laws.specs.Steps.{steps_in, with_steps}
use Rattle.graph_read.specs.Bases.{HasLowBases}
use Rattle.batch.specs.Batches.{HasIdleGate, batch_write, word_count_of, committed, AreBatched, Commits}
use Rattle.lazy_rewrite.specs.declared.batches.TheConstants.{BATCH_STEPS, STEPS_WORDS}

-- ---- words

-- The word lies in the frame of a puddle, or is the puddle's frontier.
abbrev pub IsStepsWord : (F frame k : ℕ) → Type 0
IsStepsWord F frame k = IsWithin (frame_at F frame) (frame_at F frame + FRAME_WORDS) k ⊎ (k ≡ frontier_word frame)

-- The word belongs to a puddle of the pool whose frontier moves. The goal has the frontiers to reach, by ordinals.
pub record IsRewritten (F : ℕ) (at : List (ℕ × Puddle)) (goal : ℕ → ℕ) (k : ℕ) : Type 0 where
  pub ordinal : ℕ
  pub puddle : ℕ × Puddle
  pub here : slice_get at ordinal ≡ Some puddle
  pub moves : puddle.1.frontier < goal ordinal
  pub word : IsStepsWord F puddle.0 k

-- Any value may be written to the daemon log and to these words.
abbrev pub ByRewriting : (F : ℕ) → List (ℕ × Puddle) → (ℕ → ℕ) → Footprint
ByRewriting F at goal k v = IsInLog DAEMON_LOG k ⊎ IsRewritten F at goal k

-- ---- one batch

-- The promise holds if the daemon log counts nothing and the pool's bases are low, on a device of this size.
abbrev pub IfIdle : (size_now : ℕ) → Words → List (ℕ × Puddle) → (Promise : Type 0) → Type 0
IfIdle size_now words at Promise = (size : ℕ) → size ≡ size_now → HasIdleGate DAEMON_LOG words → HasLowBases at → Promise

-- The next steps of this puddle, of ordinal o, up to frontier m. There are some, at most ten, and none is past the goal
-- or the puddle's end. They come in order: each puddle of a lower ordinal has reached its goal, or its end.
pub record AreNextSteps (at : List (ℕ × Puddle)) (goal : ℕ → ℕ) (o m : ℕ) (e : ℕ × Puddle) : Type 0 where
  pub here : slice_get at o ≡ Some e
  pub some : e.1.frontier < m
  pub few : m ≤ e.1.frontier + BATCH_STEPS
  pub within : m ≤ goal o
  pub last : m ≤ steps_of e.1
  pub before : (q : ℕ) (d : ℕ × Puddle) → q < o → slice_get at q ≡ Some d → (goal q ≤ d.1.frontier) ⊎ (steps_of d.1 ≤ d.1.frontier)

-- A batch is committed that writes these steps, by what the device reads, and no more.
pub record CommitsSteps (F : ℕ) (at : List (ℕ × Puddle)) (o m : ℕ) (e : ℕ × Puddle) (fault : Option HostFault) (old new : State) : Type 0 where
  pub es : List Entry
  pub batched : AreBatched es
  pub few : word_count_of es ≤ STEPS_WORDS
  pub allowed : list_all (is_loggable F (committed es)) es ≡ true
  pub write : batch_write es ≡ steps_in F (types_of (reads old.now.words)) at (reads old.now.words) o m e
  pub commits : Commits DAEMON_LOG es fault old new

-- The pool after a batch: with the steps of the batch, or unchanged if the batch failed.
abbrev pub pool_after : Option HostFault → (later at : List (ℕ × Puddle)) → List (ℕ × Puddle)
pool_after None later at = later
pool_after (Some fault) later at = at

-- One batch of next steps is committed, or a read failed and nothing happened.
pub record RewritesOnce (F : ℕ) (goal : ℕ → ℕ) (at later : List (ℕ × Puddle)) (fault : Option HostFault) (old new : State) : Type 0 where
  pub ordinal : ℕ
  pub to : ℕ
  pub puddle : ℕ × Puddle
  pub next : AreNextSteps at goal ordinal to puddle
  pub pool : later ≡ pool_after fault (with_steps ordinal to puddle at) at
  pub does : ((new ≡ old) × ((fault ≢ None) × (fault ≢ Some Cut))) ⊎ CommitsSteps F at ordinal to puddle fault old new

-- ---- batches in turn

-- This many batches one after the other. The last one may have failed.
abbrev pub RewritesInTurn : (F : ℕ) → (ℕ → ℕ) → (batches : ℕ) → (at later : List (ℕ × Puddle)) → Option HostFault → State → State → Type 0
RewritesInTurn F goal zero at later fault old new = (later ≡ at) × ((fault ≡ None) × (new ≡ old))
RewritesInTurn F goal (suc batches) at later fault old new =
    (mid : State) × ((between : List (ℕ × Puddle)) × (RewritesInTurn F goal batches at between None old mid × RewritesOnce F goal between later fault mid new))

-- The pool moves on towards a goal by batches of next steps, one after the other, in the order of ordinals and then of
-- steps.
pub record Rewrites (F : ℕ) (goal : ℕ → ℕ) (at later : List (ℕ × Puddle)) (fault : Option HostFault) (old new : State) : Type 0 where
  pub batches : ℕ
  pub in_turn : RewritesInTurn F goal batches at later fault old new
