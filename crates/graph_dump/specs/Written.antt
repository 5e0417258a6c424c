-- What a dump writes, whatever it read.
use Rattle.std.specs.Prelude.{◌≡◌, ℕ, Bool, List, ◌++◌, map}
use Rattle.pud_defs.specs.PoolGraphs.Graph.{Object}
use Rattle.pud_defs.specs.Output.DumpText.{joined, object_text}
use Rattle.graph_dump.specs.Spelled.{separator}

-- The text of some object with some serial was appended, after a comma if it is not the first.
pub record AppendsObject (is_first : Bool) (before after : List ℕ) : Type 0 where
  pub object : ℕ × Object
  pub is : after ≡ before ++ (separator is_first ++ object_text object)

-- The texts of some objects were appended, with commas between them.
pub record AppendsObjects (before after : List ℕ) : Type 0 where
  pub objects : List (ℕ × Object)
  pub is : after ≡ before ++ joined (map object_text objects)
