-- What an export of a pool has.
use Rattle.std.specs.Prelude.{◌≡◌, ℕ, ◌*◌, List, length, map}
use Rattle.pud_defs.specs.Formats.Image.{Image}
use Rattle.pud_defs.specs.RegistryTables.Tables.{tables_of, puddles_in_turn}
use Rattle.pud_defs.specs.PoolGraphs.Stored.{Stored, stored_in}
use Rattle.pud_defs.specs.PoolGraphs.Graph.{Graph}
use Rattle.pud_defs.specs.PoolGraphs.ExportFile.{FileContents, words_in, types_used}
use Rattle.pud_defs.specs.PoolGraphs.Exported.{exported_words}

-- The words that are exported of a pool with this graph, with the types that the graph's objects have.
abbrev pub words_of_export : (machine number : ℕ) → List (ℕ × ℕ) → Graph → Stored → List ℕ
words_of_export machine number types g st = exported_words machine number types (types_used types g) st

-- What a file with these words contains.
abbrev pub contents_of_export : List (ℕ × ℕ) → Graph → Stored → FileContents
contents_of_export types g st = record { types = types_used types g; classes = map (λ d. d.class) st.puddles; graph = g }

-- The promise holds if the bytes spell these words, and no more.
abbrev pub IfSpelled : (bytes words : List ℕ) → (Promise : Type 0) → Type 0
IfSpelled bytes words Promise = words_in bytes ≡ words → length bytes ≡ 8 * length (words_in bytes) → Promise

-- What an image of F frames stores of the pool of a slot.
abbrev pub stored_pool : (F slot : ℕ) → Image → Stored
stored_pool F slot image = stored_in F (puddles_in_turn (tables_of F image) slot) image
