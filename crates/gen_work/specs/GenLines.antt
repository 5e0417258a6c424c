-- The script for a seed and a number of objects: a list of lines, each without its newline.
use Rattle.std.specs.Prelude.{ℕ, zero, suc, ◌+◌, ◌*◌, ◌%◌, List, [], ◌∷◌, ◌++◌, codes, decimal, flat_map}
use Rattle.std.specs.List.{range_with_len}

-- the number that comes after x
abbrev pub next_number : ℕ → ℕ
next_number x = (25173 * x + 13849) % 65536

-- The number of object i. At 0 it is the seed. Each further number comes from the one before it.
unfoldable pub number_at : (seed i : ℕ) → ℕ
number_at seed zero = seed
number_at seed (suc i) = next_number (number_at seed i)

-- the lines before the objects
abbrev pub opening_lines : List (List ℕ)
opening_lines = codes "client 0 0 0" ∷ codes "type 1 2 0" ∷ codes "pool 0 gen 600" ∷ []

-- The lines of object i, whose number is x. Its first field names an object from 1 to i, and its second is x.
abbrev pub object_lines : (i x : ℕ) → List (List ℕ)
object_lines i x =
    codes "begin 0 gen"
    ∷ codes "new 0 gen 1"
    ∷ (codes "set 0 gen " ++ decimal i ++ codes ".0 @" ++ decimal (x % i + 1))
    ∷ (codes "set 0 gen " ++ decimal i ++ codes ".1 " ++ decimal x)
    ∷ codes "commit 0 gen"
    ∷ []

-- The lines after the objects. The first object becomes the root, and power is lost. Then the pool is copied, and the
-- copy's pointers are rewritten.
abbrev pub closing_lines : List (List ℕ)
closing_lines =
    codes "begin 0 gen"
    ∷ codes "root 0 gen 1"
    ∷ codes "commit 0 gen"
    ∷ codes "cut 0"
    ∷ codes "client 0 0 0"
    ∷ codes "export 0 gen gen"
    ∷ codes "import 0 copy gen 600"
    ∷ codes "rewrite copy 1008"
    ∷ []

-- all lines of the script for n objects
unfoldable pub gen_lines : (seed n : ℕ) → List (List ℕ)
gen_lines seed n = opening_lines ++ flat_map (λ i. object_lines i (number_at seed i)) (range_with_len 1 n) ++ closing_lines

-- how many lines the script for n objects has
abbrev pub line_count : ℕ → ℕ
line_count n = 5 * n + 11
