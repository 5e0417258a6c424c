-- What the mode `check` prints: which pools are sound, and how many objects and puddles they have.
use Rattle.std.specs.Prelude.{ℕ, List, ◌++◌, length, codes, decimal, flat_map}
use Rattle.pud_defs.specs.PoolGraphs.Holdings.{Holding}
use Rattle.pud_defs.specs.PoolGraphs.Holdings.Holding.{Sound, Wild}
use Rattle.pud_defs.specs.RegistryTables.Tables.{Pool}
use Rattle.pud_defs.specs.StateMachine.World.{StoredWorld}
use Rattle.pud_defs.specs.Output.Texts.{line_of}
use Rattle.pud_defs.specs.Output.Listing.{name_text}

-- the text about a pool with this many puddles: ` sound objects O puddles K`, or ` wild`
abbrev pub holding_text : Holding → ℕ → List ℕ
holding_text (Sound g) puddles = codes " sound objects " ++ decimal (length g.objects) ++ codes " puddles " ++ decimal puddles
holding_text (Wild st) puddles = codes " wild"

-- the line of a pool: its name and this text
unfoldable pub checked_line : List ℕ × Pool → List ℕ
checked_line e = line_of (name_text e.0 ++ holding_text e.1.holding (length e.1.classes))

-- `pools P`
abbrev pub count_line : ℕ → List ℕ
count_line pools = line_of (codes "pools " ++ decimal pools)

-- the lines of the pools by ascending names, and then how many there are
unfoldable pub check_text : StoredWorld → List ℕ
check_text s = flat_map checked_line s.pools ++ count_line (length s.pools)
