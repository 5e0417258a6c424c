-- When an index is the index of a pool, and how it is built.
use Rattle.std.specs.Prelude.{◌≡◌, ℕ, ◌+◌, ◌≤◌, not, ◌&&◌, ◌==◌, cond, count_by, sum_by, List, Option, Some, None, option_map, IfSome}
use Rattle.std.specs.List.{range_with_len}
use Rattle.pud_defs.specs.declared.records.Puddle.{Puddle}
use Rattle.pud_defs.specs.declared.objects.FieldValue.{FieldValue}
use Rattle.pud_defs.specs.declared.objects.FieldValue.TheVariants.{Num, Ref}
use Rattle.pud_defs.specs.Formats.Geometry.{ordinal_of, slot_of}
use Rattle.pud_defs.specs.Formats.Image.{Image}
use Rattle.pud_defs.specs.PoolGraphs.Stored.{stored_in}
use Rattle.pud_defs.specs.PoolGraphs.Graph.{Content, Table, Graph, named_by, names_serial, graph_of}
use Rattle.pud_defs.specs.PoolGraphs.GraphChanges.{without_object}
use Rattle.graph_laws.specs.ReferenceCounts.{reference_count}
use Rattle.graph_read.specs.declared.index.Kept.{Kept}
use Rattle.graph_read.specs.declared.index.Index.{Index}
use Rattle.graph_read.specs.Index.{kept_under, with_more_references, names_one}
use Rattle.graph_read.specs.Reading.{place_in_pool}

-- the ordinal and the slot of a place
abbrev pub slot_at_place : ℕ → ℕ × ℕ
slot_at_place p = (ordinal_of p, slot_of p)

-- What is kept about an object at a place, with n references.
abbrev pub kept_of : (n p : ℕ) → Kept
kept_of n p = record { ordinal = ordinal_of p; slot = slot_of p; references = n }

-- The index has exactly the serials that have a place, each with its place and its count.
pub record IsIndexBy (place : ℕ → Option ℕ) (count : ℕ → ℕ) (x : Index) : Type 0 where
  pub each : (q : ℕ) → kept_under x q ≡ option_map (kept_of (count q)) (place q)

-- The index is what a scan of the pool gives: the place of each object, and its reference count.
pub record IsIndexOf (F : ℕ) (at : List (ℕ × Puddle)) (types : List (ℕ × ℕ)) (image : Image) (x : Index) : Type 0 where
  pub graph : Graph
  pub is : graph_of types (stored_in F at image) ≡ Some graph
  pub index : IsIndexBy (place_in_pool F at image) (λ q. reference_count q graph) x

-- ---- an object that is freed

-- The serial that a value names, or 0 if it names none.
abbrev pub serial_named : FieldValue → ℕ
serial_named (Num v) = 0
serial_named (Ref s) = s

-- How many references the object of serial q has while another object is freed of which these fields are not released
-- yet.
abbrev pub references_left : Graph → (freed : ℕ) → List FieldValue → ℕ → ℕ
references_left g freed left q = reference_count q (without_object freed g) + count_by (names_serial q) left

-- ---- how it is built

-- What is kept about serial s after the slot at a place is listed, which has the serial `serial`.
abbrev pub after_list : (serial place s : ℕ) → Option Kept → Option Kept
after_list serial place s kept = cond (serial == s && not (s == 0)) (Some (kept_of 0 place)) kept

-- Each serial that is kept gains this many references.
pub record Gains (more : ℕ → ℕ) (old new : Index) : Type 0 where
  pub each : (q : ℕ) → kept_under new q ≡ option_map (with_more_references (more q)) (kept_under old q)

-- Each serial that is kept has at most n references.
pub record HasAtMost (n : ℕ) (x : Index) : Type 0 where
  pub each : (q : ℕ) → IfSome (kept_under x q) (λ k. k.references ≤ n)

-- how often these contents name a serial
abbrev pub contents_name : (ℕ → ℕ) → Option (List Content) → (s : ℕ) → ℕ
contents_name serial None s = 0
contents_name serial (Some contents) s = sum_by (λ c. names_one (named_by serial c) s) contents

-- How often the fields of the slot at a place name serial s. It is 0 if the slot is free.
abbrev pub place_names : Table → (place s : ℕ) → ℕ
place_names t p s = cond (t.serial p == 0) 0 (contents_name t.serial (t.contents p) s)

-- How often the live slots of the first n places name serial s.
abbrev pub places_name : Table → (n s : ℕ) → ℕ
places_name t n s = sum_by (λ p. place_names t p s) (range_with_len 0 n)
