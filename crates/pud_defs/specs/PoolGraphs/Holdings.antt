-- What a pool stores: a graph, or words that are none.
use Rattle.std.specs.Prelude.{ℕ, List, Option, Some, None}
use Rattle.pud_defs.specs.declared.records.Puddle.{Puddle}
use Rattle.pud_defs.specs.Formats.Image.{Image}
use Rattle.pud_defs.specs.PoolGraphs.Stored.{Stored, stored_in}
use Rattle.pud_defs.specs.PoolGraphs.Graph.{Graph, graph_of}

-- A wild pool keeps what is stored. A type that is defined later may make it a graph.
pub data Holding : Type 0 where
  Sound : Graph → Holding
  Wild : Stored → Holding

abbrev pub held_as : Stored → Option Graph → Holding
held_as st None = Wild st
held_as st (Some g) = Sound g

-- what is stored, read by the types that are defined
abbrev pub held_by : List (ℕ × ℕ) → Stored → Holding
held_by types st = held_as st (graph_of types st)

-- the graph, if there is one
abbrev pub graph_held : Holding → Option Graph
graph_held (Sound g) = Some g
graph_held (Wild st) = None

-- the graph; or what is stored, read again by these types
abbrev pub read_again : List (ℕ × ℕ) → Holding → Holding
read_again types (Sound g) = Sound g
read_again types (Wild st) = held_by types st

-- what an image of a device with F frames stores in these puddles, which are given by their ordinals, each with its
-- frame
abbrev pub holding_in : List (ℕ × ℕ) → ℕ → Image → List (ℕ × Puddle) → Holding
holding_in types F image at = held_by types (stored_in F at image)
