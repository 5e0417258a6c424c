-- The world that lines change: what a device stands for, the clients that are present, the shelf of files beside it,
-- and the open transactions.
use Rattle.std.specs.Prelude.{◌≡◌, ◌<◌, ℕ, cond, List, [], Option, Some, None}
use Rattle.pud_defs.specs.declared.layout.TheConstants.{DEVICE_MAGIC, VERSION, MAGIC_WORD, VERSION_WORD, MACHINE_WORD, FRAMES_WORD, NEXT_NUMBER_WORD, DAEMON_LOG}
use Rattle.pud_defs.specs.Formats.Layout.{frames_at}
use Rattle.pud_defs.specs.Formats.Image.{Image}
use Rattle.pud_defs.specs.Logging.Replay.{settled_by}
use Rattle.pud_defs.specs.RegistryTables.Types.{types_of}
use Rattle.pud_defs.specs.PoolGraphs.Graph.{Graph}
use Rattle.pud_defs.specs.PoolGraphs.DeferredValues.{DeferredValue}
use Rattle.pud_defs.specs.PoolGraphs.Holdings.{holding_in}
use Rattle.pud_defs.specs.RegistryTables.Tables.{Pool, tables_of, pools_of}
use Rattle.pud_defs.specs.RegistryTables.Spaces.{Owner}
use Rattle.pud_defs.specs.Logging.Settled.{settled}
use Rattle.pud_defs.specs.RegistryTables.Registry.{frames_of, has_legal_log, is_registry, is_idle_registry}

-- What a device stands for: its number of frames, its machine id, the next UUID number, the map of each defined type by
-- ascending ids, and the pools by ascending names.
pub record StoredWorld : Type 0 where
  pub frames : ℕ
  pub machine : ℕ
  pub next_number : ℕ
  pub types : List (ℕ × ℕ)
  pub pools : List (List ℕ × Pool)

-- the pools of an image of a device with F frames, by these types
abbrev pub pools_in : List (ℕ × ℕ) → ℕ → Image → List (List ℕ × Pool)
pools_in types F image = pools_of (holding_in types F image) (tables_of F image)

-- what the words of an image with nothing to replay stand for, if it is sound
unfoldable pub stored_by : Image → StoredWorld
stored_by image = record {
  frames = frames_of image;
  machine = image MACHINE_WORD;
  next_number = image NEXT_NUMBER_WORD;
  types = types_of image;
  pools = pools_in (types_of image) (frames_of image) image;
}

-- what an image with nothing to replay stands for, on a device of `size` words: nothing exactly if it is no sound
-- registry
unfoldable pub registry_world : ℕ → Image → Option StoredWorld
registry_world size image = cond (is_registry size image) (Some (stored_by image)) None

-- what the image of a device of `size` words stands for: what a start leaves of it, with the daemon log replayed and
-- then each allowed log
unfoldable pub world_of : ℕ → Image → Option StoredWorld
world_of size image = cond (has_legal_log image) (registry_world size (settled (frames_of image) image)) None

-- the same as `registry_world`, if each registered log is closed; else nothing
unfoldable pub idle_registry : ℕ → Image → Option StoredWorld
idle_registry size image = cond (is_idle_registry size image) (Some (stored_by image)) None

-- what an image stands for, if each registered log is closed; so after the daemon log nothing else is to be replayed
unfoldable pub idle_world_of : ℕ → Image → Option StoredWorld
idle_world_of size image = cond (has_legal_log image) (idle_registry size (settled_by DAEMON_LOG image)) None

-- An open transaction: whose it is; its depth; how many units of its log it has used; the graph of its pool as its
-- client sees it; and its deferred values, oldest first, which are set when it is committed.
pub record Transaction : Type 0 where
  pub client : ℕ
  pub depth : ℕ
  pub units : ℕ
  pub now : Graph
  pub deferred : List DeferredValue

-- The world has four parts: the stored world; the clients that are present, by their numbers, and as whom each acts;
-- the shelf, with what its files store, by the bytes of their names; and the open transactions, by the names of their
-- pools. If a transaction is open on a pool, the stored world has the graph with which it began.
pub record World : Type 0 where
  pub stored : StoredWorld
  pub clients : ℕ → Option Owner
  pub shelf : List ℕ → Option (List ℕ)
  pub transactions : List ℕ → Option Transaction

-- the transaction that is open on the pool of the name, if there is one
abbrev pub open_on : List ℕ → World → Option Transaction
open_on name w = w.transactions name

-- no client is present
abbrev pub no_clients : ℕ → Option Owner
no_clients client = None

-- no transaction is open
abbrev pub nothing_open : List ℕ → Option Transaction
nothing_open name = None

-- what a device stands for once nothing is under way
abbrev pub closed : World → StoredWorld
closed w = w.stored

-- the world after a power loss and the start that follows: no client is present, and no transaction is open
abbrev pub restart : World → World
restart w = record { stored = closed w; clients = no_clients; shelf = w.shelf; transactions = nothing_open }

-- the world of a device that was just formatted
abbrev pub blank_world : ℕ → ℕ → StoredWorld
blank_world F machine = record { frames = F; machine = machine; next_number = 1; types = []; pools = [] }

-- an image of such a device: after the five words that describe it, all words are 0 up to the frames
pub record IsBlank (F id : ℕ) (image : Image) : Type 0 where
  pub magic : image MAGIC_WORD ≡ DEVICE_MAGIC
  pub version : image VERSION_WORD ≡ VERSION
  pub machine : image MACHINE_WORD ≡ id
  pub frames : image FRAMES_WORD ≡ F
  pub next_number : image NEXT_NUMBER_WORD ≡ 1
  pub rest : (k : ℕ) → NEXT_NUMBER_WORD < k → k < frames_at F → image k ≡ 0
