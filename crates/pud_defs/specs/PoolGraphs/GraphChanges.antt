-- How graphs change: one more or one less object, another value of a field, another root.
use Rattle.std.specs.Prelude.{ℕ, ◌+◌, cond, map, set, Option, Some, None, option_map}
use Rattle.std.specs.Ordering.{nat_cmp}
use Rattle.std.specs.List.{range_with_len}
use Rattle.std.specs.FinMap.Entries.{put}
use Rattle.pud_defs.specs.declared.objects.FieldValue.{FieldValue}
use Rattle.pud_defs.specs.declared.objects.FieldValue.TheVariants.{Num, Ref}
use Rattle.pud_defs.specs.Formats.TypeMap.{is_pointer}
use Rattle.pud_defs.specs.RegistryTables.Keyed.{without}
use Rattle.pud_defs.specs.PoolGraphs.Graph.{field_count, Object, Graph, object_in}

-- ---- objects

-- the object with another value of field f
abbrev pub object_with : (f : ℕ) → FieldValue → Object → Object
object_with f x o = record o { fields = set o.fields f x }

abbrev pub blank_value : (map f : ℕ) → FieldValue
blank_value map f = cond (is_pointer map f) (Ref 0) (Num 0)

-- an object of a type with this map, in a puddle of a class; each of its fields is 0 or null
abbrev pub blank_object : (class type_id map : ℕ) → Object
blank_object class type_id m = record { type_id = type_id; class = class; fields = map (blank_value m) (range_with_len 0 (field_count m)) }

-- ---- graphs

-- the graph with this object under a serial
abbrev pub with_object : ℕ → Object → Graph → Graph
with_object s o g = record { next_serial = g.next_serial; root = g.root; objects = put nat_cmp s o g.objects }

-- the same, if there is an object; else the same graph
abbrev pub with_some_object : ℕ → Option Object → Graph → Graph
with_some_object s None g = g
with_some_object s (Some o) g = with_object s o g

-- the graph with another value of field f of the object of a serial, if there is such an object
abbrev pub with_field : (s f : ℕ) → FieldValue → Graph → Graph
with_field s f x g = with_some_object s (option_map (object_with f x) (object_in s g)) g

abbrev pub with_root : ℕ → Graph → Graph
with_root s g = record { next_serial = g.next_serial; root = s; objects = g.objects }

abbrev pub without_object : ℕ → Graph → Graph
without_object s g = record { next_serial = g.next_serial; root = g.root; objects = without nat_cmp s g.objects }

-- one more object, under the next serial
abbrev pub with_new : Object → Graph → Graph
with_new o g = record { next_serial = g.next_serial + 1; root = g.root; objects = put nat_cmp g.next_serial o g.objects }
