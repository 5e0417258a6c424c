-- How a table is read by its keys. Its records have places. Some are used, and each used one has a key. The list of
-- them is by ascending keys.
use Rattle.std.specs.Prelude.{ℕ, zero, suc, ◌+◌, Bool, true, not, ◌&&◌, cond, List, [], Option, Some, None, is_none}
use Rattle.std.specs.Ordering.{eq_by_cmp}
use Rattle.std.specs.declared.cmp.Ordering.{Ordering}
use Rattle.std.specs.Option.{option_or}
use Rattle.std.specs.FinMap.Entries.{put, where_key}

-- ---- without an order of the keys

-- the lowest free place among `count` places from a given one on
unfoldable pub first_free : {A : Type 0} → (ℕ → Option A) → ℕ → ℕ → Option ℕ
first_free at from zero = None
first_free at from (suc count) = let later = first_free at (from + 1) count in cond (is_none (at from)) (Some from) later

-- how many of `count` places from a given one on are used
unfoldable pub count_used : {A : Type 0} → (ℕ → Option A) → ℕ → ℕ → ℕ
count_used at from zero = 0
count_used at from (suc count) = let later = count_used at (from + 1) count in cond (is_none (at from)) later (later + 1)

module _ {K X : Type 0} (R : K → K → Ordering) where
  -- the list with what is at a place, if the place is used
  abbrev pub put_entry : Option (K × X) → List (K × X) → List (K × X)
  put_entry None others = others
  put_entry (Some e) others = put R e.0 e.1 others

  -- what is at `count` places from a given one on, by ascending keys; of two records with one key the first counts
  unfoldable pub keyed : (ℕ → Option (K × X)) → ℕ → ℕ → List (K × X)
  keyed at from zero = []
  keyed at from (suc count) = put_entry (at from) (keyed at (from + 1) count)

  -- what is at a place, if it has this key
  abbrev pub under : K → Option (K × X) → Option X
  under q None = None
  under q (Some e) = cond (eq_by_cmp R q e.0) (Some e.1) None

  -- the first of `count` records from a given place on that has this key
  unfoldable pub first_from : K → (ℕ → Option (K × X)) → ℕ → ℕ → Option X
  first_from q at from zero = None
  first_from q at from (suc count) = let later = first_from q at (from + 1) count in option_or (under q (at from)) later

  -- the place is free, or none of `count` records from another place on has its key
  abbrev pub is_apart : Option (K × X) → (ℕ → Option (K × X)) → ℕ → ℕ → Bool
  is_apart None at from count = true
  is_apart (Some e) at from count = is_none (first_from e.0 at from count)

  -- no two of `count` records from a given place on have the same key
  unfoldable pub are_distinct : (ℕ → Option (K × X)) → ℕ → ℕ → Bool
  are_distinct at from zero = true
  are_distinct at from (suc count) = is_apart (at from) at (from + 1) count && are_distinct at (from + 1) count

  -- the list with no entry under the key
  abbrev pub without : K → List (K × X) → List (K × X)
  without k entries = where_key R (λ x. not (eq_by_cmp R k x)) entries
