-- The list of the pools, as a text.
use Rattle.std.specs.Prelude.{ℕ, ◌+◌, ◌/◌, ◌%◌, not, ◌==◌, List, [], ◌∷◌, ◌++◌, length, filter, flat_map, decimal}
use Rattle.pud_defs.specs.Formats.Identifiers.{puddle_uuid, uuid_text}
use Rattle.pud_defs.specs.RegistryTables.Spaces.{Owner}
use Rattle.pud_defs.specs.RegistryTables.Tables.{Pool}
use Rattle.pud_defs.specs.StateMachine.World.{StoredWorld}

-- a name without the zeros that fill it
abbrev pub name_text : List ℕ → List ℕ
name_text name = filter (λ b. not (b == 0)) name

-- the code of the lowest octal digit of a number
abbrev pub octal_digit : ℕ → ℕ
octal_digit n = 48 + n % 8

-- a mode as three octal digits, for the owner, the group and others
abbrev pub mode_text : ℕ → List ℕ
mode_text mode = octal_digit (mode / 64) ∷ octal_digit (mode / 8) ∷ octal_digit mode ∷ []

abbrev pub space : ℕ
space = 32

abbrev pub colon : ℕ
colon = 58

-- the text of one pool, on the machine with this id: ` name:uid:gid:mode:puddles:identifier`
unfoldable pub described : (id : ℕ) → List ℕ → Owner → (mode number puddles : ℕ) → List ℕ
described id name owner mode number puddles =
    space ∷ name_text name ++ colon ∷ decimal owner.uid ++ colon ∷ decimal owner.gid ++ colon ∷ mode_text mode ++ colon ∷ decimal puddles
    ++ colon ∷ uuid_text (puddle_uuid id number)

abbrev pub pool_text : ℕ → List ℕ × Pool → List ℕ
pool_text id e = described id e.0 e.1.owner e.1.mode e.1.number (length e.1.classes)

-- the texts of the pools by ascending names
unfoldable pub pools_text : StoredWorld → List ℕ
pools_text s = flat_map (λ e. pool_text s.machine e) s.pools
