-- Deferred values: values of fields that a transaction sets when it is committed.
use Rattle.std.specs.Prelude.{ℕ, Bool, ◌||◌, ◌==◌, List, [], ◌∷◌}
use Rattle.std.specs.List.{list_any}
use Rattle.pud_defs.specs.declared.objects.FieldValue.{FieldValue}
use Rattle.pud_defs.specs.PoolGraphs.Graph.{Graph, names_serial}
use Rattle.pud_defs.specs.PoolGraphs.GraphChanges.{with_field}

-- field f of the object of serial s is to get the value
pub record DeferredValue : Type 0 where
  pub s : ℕ
  pub f : ℕ
  pub x : FieldValue

-- the graph with the deferred value set
abbrev pub with_deferred_value : DeferredValue → Graph → Graph
with_deferred_value l g = with_field l.s l.f l.x g

-- with the values of a deferred set: all of them, in turn
abbrev pub with_deferred_set : List DeferredValue → Graph → Graph
with_deferred_set [] g = g
with_deferred_set (l ∷ ls) g = with_deferred_set ls (with_deferred_value l g)

-- the deferred value is for the object with this serial, or its value names that object
abbrev pub deferred_value_names : (s : ℕ) → DeferredValue → Bool
deferred_value_names s l = l.s == s || names_serial s l.x

-- one of the deferred values does this
abbrev pub deferred_set_names : (s : ℕ) → List DeferredValue → Bool
deferred_set_names s ls = list_any (deferred_value_names s) ls
