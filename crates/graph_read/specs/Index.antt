-- An index of a pool: what it keeps about each serial, and how its calls change that.
use Rattle.std.specs.Prelude.{◌≡◌, ℕ, ◌+◌, ◌-◌, ◌<◌, ◌≤◌, ◌^◌, not, ◌&&◌, ◌==◌, nat_eq, cond, Option, Some, None, option_map}
use Rattle.indexmap.specs.IndexMap.{get}
use Rattle.graph_read.specs.declared.index.Kept.{Kept}
use Rattle.graph_read.specs.declared.index.Index.{Index}

-- What is kept about a serial, if the serial is in the index.
abbrev pub kept_under : Index → ℕ → Option Kept
kept_under x s = get nat_eq x.map s

-- The index keeps this about one serial, and about each other serial what it kept before.
abbrev pub KeepsBut : (old new : Index) → (s : ℕ) → Option Kept → Type 0
KeepsBut old new s now = (q : ℕ) → kept_under new q ≡ cond (nat_eq s q) now (kept_under old q)

-- ---- what is kept about one serial

-- an object at this place that is not referenced yet
abbrev pub unreferenced_at : ℕ × ℕ → Kept
unreferenced_at place = record { ordinal = place.0; slot = place.1; references = 0 }

-- The ordinal and the slot of an object.
abbrev pub place_kept : Kept → ℕ × ℕ
place_kept k = (k.ordinal, k.slot)

-- How many references an object has, or 0 if nothing is kept.
abbrev pub references_kept : Option Kept → ℕ
references_kept None = 0
references_kept (Some k) = k.references

-- The same object at its place, with n references.
abbrev pub with_references : ℕ → Kept → Kept
with_references n k = record { ordinal = k.ordinal; slot = k.slot; references = n }

-- The object is kept, and it has a reference.
abbrev pub HasReference : Option Kept → Type 0
HasReference None = ⊥
HasReference (Some k) = 1 ≤ k.references

-- One more reference can be counted.
abbrev pub HasRoom : Kept → Type 0
HasRoom k = k.references + 1 < 2 ^ 32

-- The object is kept, and one more reference can be counted.
abbrev pub MayBeReferenced : Option Kept → Type 0
MayBeReferenced None = ⊥
MayBeReferenced (Some k) = HasRoom k

-- ---- retargets

-- How often a pointer to serial `named` names serial s: once if they are the same, otherwise not at all. Serial 0 is
-- null and is never named.
abbrev pub names_one : (named s : ℕ) → ℕ
names_one named s = cond (named == s && not (s == 0)) 1 0

-- The same object with n more references, and then with n fewer.
abbrev pub with_more_references : ℕ → Kept → Kept
with_more_references n k = with_references (k.references + n) k

abbrev pub with_fewer_references : ℕ → Kept → Kept
with_fewer_references n k = with_references (k.references - n) k

-- What is kept about serial s when a pointer no longer names `from`.
abbrev pub after_release : (from s : ℕ) → Option Kept → Option Kept
after_release from s kept = option_map (with_fewer_references (names_one from s)) kept

-- What is kept about serial s when one more pointer names `to`.
abbrev pub after_retain : (to s : ℕ) → Option Kept → Option Kept
after_retain to s kept = option_map (with_more_references (names_one to s)) kept

-- What is kept about serial s when a pointer names `to` and no longer `from`.
abbrev pub after_retarget : (from to s : ℕ) → Option Kept → Option Kept
after_retarget from to s kept = after_retain to s (after_release from s kept)
