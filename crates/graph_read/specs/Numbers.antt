-- The sum of the numbers in a pool, field by field and slot by slot, and the sum if all checks pass.
use Rattle.std.specs.Prelude.{ℕ, ◌%◌, ◌^◌, List, length, sum_by, Option, Some, None}
use Rattle.std.specs.Bool.{then_some}
use Rattle.std.specs.List.{range_with_len}
use Rattle.pud_defs.specs.declared.objects.FieldValue.{FieldValue}
use Rattle.pud_defs.specs.declared.objects.FieldValue.TheVariants.{Num, Ref}
use Rattle.pud_defs.specs.PoolGraphs.Graph.{Content, Object, Table, Graph, live}
use Rattle.pud_defs.specs.PoolGraphs.Graph.Content.{Number, Null, At, Nowhere}
use Rattle.pud_defs.specs.RegistryTables.Spaces.{all_below}
use Rattle.graph_read.specs.declared.checking.SlotCheck.{SlotCheck}
use Rattle.graph_read.specs.declared.judge.Totals.{Totals}
use Rattle.graph_read.specs.Checking.{passes, contents_pass, place_passes}

-- ---- of a graph

-- What a field adds to the sum. A number adds itself, and a pointer adds 0.
abbrev pub number_in_value : FieldValue → ℕ
number_in_value (Num v) = v
number_in_value (Ref s) = 0

-- the sum of the number fields of an object
abbrev pub numbers_of : Object → ℕ
numbers_of o = sum_by number_in_value o.fields

-- the sum of the number fields of all objects, modulo 2^64
abbrev pub number_sum : Graph → ℕ
number_sum g = sum_by (λ e. numbers_of e.1) g.objects % 2 ^ 64

-- how many objects a graph has, and the sum of their numbers
abbrev pub totals_of : Graph → Totals
totals_of g = record { objects = length g.objects; sum = number_sum g }

-- ---- of what is stored

-- What a field adds to the sum, by what its word stands for. A number adds itself, and a pointer adds 0.
abbrev pub number_in_content : Content → ℕ
number_in_content (Number v) = v
number_in_content Null = 0
number_in_content (At p) = 0
number_in_content Nowhere = 0

-- The sum of the number fields at a place, or 0 if its type is not defined.
abbrev pub contents_sum : Option (List Content) → ℕ
contents_sum None = 0
contents_sum (Some contents) = sum_by number_in_content contents

-- The sum of the number fields of an object under its serial, or 0 if there is none.
abbrev pub numbers_under : Option (ℕ × Object) → ℕ
numbers_under None = 0
numbers_under (Some e) = numbers_of e.1

-- The sum of the number fields of the object at a place, or 0 if the place is not live.
abbrev pub numbers_at : Table → ℕ → ℕ
numbers_at t p = numbers_under (live t p)

-- the sum of the number fields of the objects at the first n places
abbrev pub numbers_below : Table → ℕ → ℕ
numbers_below t n = sum_by (numbers_at t) (range_with_len 0 n)

-- ---- if all checks pass

-- What a field adds to the sum, if it passes.
abbrev pub value_number : SlotCheck → (ℕ → ℕ) → Content → Option ℕ
value_number check serial c = then_some (passes check serial c) (number_in_content c)

-- The sum of the number fields of a slot, modulo 2^64, if all of its fields pass.
abbrev pub fields_sum : SlotCheck → (ℕ → ℕ) → Option (List Content) → Option ℕ
fields_sum check serial contents = then_some (contents_pass check serial contents) (contents_sum contents % 2 ^ 64)

-- The sum of the number fields at a place, modulo 2^64, if the place is free or its slot passes.
abbrev pub place_sum : SlotCheck → Table → ℕ → Option ℕ
place_sum check t p = then_some (place_passes check t p) (numbers_at t p % 2 ^ 64)

-- The sum of the number fields at the first n places, modulo 2^64, if each of them is free or its slot passes.
abbrev pub places_sum : SlotCheck → Table → ℕ → Option ℕ
places_sum check t n = then_some (all_below n (place_passes check t)) (numbers_below t n % 2 ^ 64)
