-- What does not change while the pointers of a pool are rewritten: the pool's graph in each image, and the world.
use Rattle.std.specs.Prelude.{◌≡◌, ℕ, ◌+◌, ◌<◌, ◌≤◌, true, false, List, map, slice_get, Option, Some, None}
use Rattle.pm_model.specs.declared.host.HostFault.{HostFault}
use Rattle.pm_model.specs.Words.{Words, HasOnly, reads, Picks}
use Rattle.pm_model.specs.Moments.{State}
use Rattle.pm_model.specs.Changes.{Write, Leaves, Silently}
use Rattle.pm_model.specs.Masks.{masked, masked_state, IsOff}
use Rattle.pud_defs.specs.declared.layout.TheConstants.{DAEMON_LOG, TYPE_TABLE, POOL_TABLE, FRAME_WORDS}
use Rattle.pud_defs.specs.declared.records.TheConstants.{POOL_RECORDS}
use Rattle.pud_defs.specs.declared.records.Puddle.{Puddle}
use Rattle.pud_defs.specs.declared.records.PoolRecord.{PoolRecord}
use Rattle.pud_defs.specs.Formats.Geometry.{steps_of, is_legal_frontier}
use Rattle.pud_defs.specs.Formats.Image.{Image}
use Rattle.pud_defs.specs.Formats.Frames.{frame_at}
use Rattle.pud_defs.specs.RegistryTables.Puddles.{moved_to}
use Rattle.pud_defs.specs.Logging.Replay.{is_in_log, settled_by}
use Rattle.pud_defs.specs.RegistryTables.Types.{types_of}
use Rattle.pud_defs.specs.RegistryTables.Tables.{tables_of, puddles_in_turn}
use Rattle.pud_defs.specs.PoolGraphs.Stored.{stored_in}
use Rattle.pud_defs.specs.PoolGraphs.Graph.{Graph, graph_of}
use Rattle.pud_defs.specs.StateMachine.World.{StoredWorld, idle_world_of}
use Rattle.graph_laws.specs.Changes.{AreBases}
use Rattle.batch.specs.Batches.{HasIdleGate}
use Rattle.batch.specs.Worlds.{IsQuiescent}
use Rattle.batch.specs.Tables.{HasDurableTables}
use Rattle.lazy_rewrite.specs.Batches.{IsRewritten, ByRewriting}

-- ---- graphs

-- The graph of the pool of a slot, as an image of F frames has it.
abbrev pub graph_at : (F slot : ℕ) → Image → Option Graph
graph_at F slot image = graph_of (types_of image) (stored_in F (puddles_in_turn (tables_of F image) slot) image)

-- Outside the daemon log and the words that are rewritten, the image is one of these words. With the daemon log
-- replayed, the pool has the same graph in both images, or it has none in both.
pub record KeepsGraphAt (F slot : ℕ) (at : List (ℕ × Puddle)) (goal : ℕ → ℕ) (words : Words) (image : Image) : Type 0 where
  pub before : Image
  pub picked : Picks words before
  pub outside : (k : ℕ) → is_in_log DAEMON_LOG k ≡ false → (IsRewritten F at goal k → ⊥) → image k ≡ before k
  pub same : graph_at F slot (settled_by DAEMON_LOG image) ≡ graph_at F slot (settled_by DAEMON_LOG before)

-- The pool of a slot has these puddles and this graph. The daemon log counts nothing. Each word of the tables has one
-- value, and so does each word of a frame in which steps are left.
pub record IsRewritable (F slot : ℕ) (at : List (ℕ × Puddle)) (g : Graph) (words : Words) : Type 0 where
  pub idle : HasIdleGate DAEMON_LOG words
  pub tables : HasDurableTables F words
  pub turn : puddles_in_turn (tables_of F (reads words)) slot ≡ at
  pub bases : AreBases (map (λ d. d.base) (map (λ e. e.1) at))
  pub graph : graph_of (types_of (reads words)) (stored_in F at (reads words)) ≡ Some g
  pub frames : (o : ℕ) (e : ℕ × Puddle) → slice_get at o ≡ Some e → e.1.frontier < steps_of e.1 → (k : ℕ) → k < FRAME_WORDS → HasOnly (words (frame_at F e.0 + k)) (words (frame_at F e.0 + k)).newest

-- Each image that may be left keeps the graph of the pool, whatever the slot of the pool that is rewritten.
abbrev pub KeepsGraph : (F : ℕ) → List (ℕ × Puddle) → (goal : ℕ → ℕ) → (old new : State) → Type 0
KeepsGraph F at goal old new =
    (slot : ℕ) (g : Graph) → IsRewritable F slot at g old.now.words → Leaves (Silently (KeepsGraphAt F slot at goal old.now.words)) old new

-- ---- worlds

-- Each frontier up to the goal is one that a sound device may have.
pub record MayStop (at : List (ℕ × Puddle)) (goal : ℕ → ℕ) : Type 0 where
  pub each : (o m : ℕ) (e : ℕ × Puddle) → slice_get at o ≡ Some e → e.1.frontier < m → m ≤ goal o → m ≤ steps_of e.1 → is_legal_frontier (moved_to m e.1) ≡ true

-- The same, and each image stands for a world, and each word of the pool's frames has one value.
pub record IsRewritableIn (size : ℕ) (s : StoredWorld) (slot : ℕ) (at : List (ℕ × Puddle)) (g : Graph) (words : Words) : Type 0 where
  pub settled : IsQuiescent size s words
  pub pool : IsRewritable s.frames slot at g words
  pub rec : PoolRecord
  pub below : slot < POOL_RECORDS
  pub used : (tables_of s.frames (reads words)).pools slot ≡ Some rec
  pub whole : (o : ℕ) (e : ℕ × Puddle) → slice_get at o ≡ Some e → (k : ℕ) → k < FRAME_WORDS → HasOnly (words (frame_at s.frames e.0 + k)) (words (frame_at s.frames e.0 + k)).newest

-- no word of the type table is masked
pub record IsOffTypes (mask : Write) : Type 0 where
  pub each : (k : ℕ) → TYPE_TABLE ≤ k → k < POOL_TABLE → mask k ≡ None

-- With words masked that these steps do not write, each image stands for a world and the pool may be rewritten.
pub record MayRewrite (size : ℕ) (s : StoredWorld) (slot : ℕ) (at : List (ℕ × Puddle)) (goal : ℕ → ℕ) (g : Graph) (mask : Write) (words : Words) : Type 0 where
  pub off : IsOff mask (ByRewriting s.frames at goal)
  pub types : IsOffTypes mask
  pub stop : MayStop at goal
  pub pool : IsRewritableIn size s slot at g (masked mask words)

-- Each image that may be left stands for the same world. Without a fault the device is quiescent, as it was before.
pub record KeepsWorld (size : ℕ) (s : StoredWorld) (fault : Option HostFault) (old new : State) : Type 0 where
  pub moments : Leaves (Silently (λ image. idle_world_of size image ≡ Some s)) old new
  pub settled : fault ≡ None → IsQuiescent size s new.now.words

-- Whatever words are masked that these steps do not write, each image that may be left stands for the same world.
abbrev pub KeepsEachWorld : (F size : ℕ) → List (ℕ × Puddle) → (goal : ℕ → ℕ) → Option HostFault → (old new : State) → Type 0
KeepsEachWorld F size at goal fault old new =
    (s : StoredWorld) → F ≡ s.frames → (slot : ℕ) (g : Graph) (mask : Write) → MayRewrite size s slot at goal g mask old.now.words
    → KeepsWorld size s fault (masked_state mask old) (masked_state mask new)
