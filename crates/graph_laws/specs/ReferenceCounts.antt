-- The reference count of an object: how many pointers name it, the root included.
use Rattle.std.specs.Prelude.{◌≡◌, ℕ, ◌+◌, ◌==◌, cond, count_by, sum_by}
use Rattle.pud_defs.specs.declared.objects.FieldValue.{FieldValue}
use Rattle.pud_defs.specs.PoolGraphs.Graph.{Object, Graph, names_serial}

-- How often a value names the serial: once or not at all.
abbrev pub times_named_by : ℕ → FieldValue → ℕ
times_named_by s v = cond (names_serial s v) 1 0

-- How many fields of an object name the serial.
abbrev pub pointers_to : ℕ → Object → ℕ
pointers_to s o = count_by (names_serial s) o.fields

-- how many references the object of a serial has
unfoldable pub reference_count : ℕ → Graph → ℕ
reference_count s g = cond (g.root == s) 1 0 + sum_by (λ e. pointers_to s e.1) g.objects

-- The later graph has one reference fewer to serial q if the old value named it, and one more if the new value names it.
abbrev pub MovesReference : ℕ → (g later : Graph) → (was now : FieldValue) → Type 0
MovesReference q g later was now = reference_count q later + times_named_by q was ≡ reference_count q g + times_named_by q now
