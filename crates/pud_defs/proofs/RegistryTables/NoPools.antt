-- Tables without a used record are sound, and they stand for no pool.
use Rattle.std.proofs.Common.{◌≡◌, ℕ, zero, suc, ◌+◌, ◌<◌, ◌≤◌, Bool, true, false, nat_lt, cond, List, [], Option, None, nat_cmp, refl, ap, ◌∙◌}
use Rattle.std.proofs.lemmas.Bool.{and_from}
use Rattle.std.specs.declared.cmp.Ordering.{Ordering}
use Rattle.pud_defs.specs.declared.layout.TheConstants.{POOL_TABLE, SPACE_TABLE, PUDDLE_TABLE}
use Rattle.pud_defs.specs.declared.records.TheConstants.{POOL_RECORDS}
use Rattle.pud_defs.specs.Formats.Layout.{tables_end}
use Rattle.pud_defs.specs.Formats.Image.{Image}
use Rattle.pud_defs.specs.RegistryTables.Keyed.{keyed, are_distinct}
use Rattle.pud_defs.specs.RegistryTables.Pools.{pool_at, pool_by}
use Rattle.pud_defs.specs.RegistryTables.Puddles.{puddle_at, puddle_by}
use Rattle.pud_defs.specs.RegistryTables.Tables.{Tables, Reader, tables_of, pools_of}
use Rattle.pud_defs.specs.PoolGraphs.Holdings.{holding_in}
use Rattle.pud_defs.specs.RegistryTables.SoundTables.{are_sound_tables, has_legal_pools, has_distinct_names, has_legal_puddles, has_distinct_bases, has_distinct_old_bases, has_distinct_ordinals, has_counted_puddles}
use Rattle.pud_defs.proofs.RegistryTables.Spaces.{all_below-from}
use Rattle.pud_defs.proofs.RegistryTables.TablesOf.{tables_of-same}
use Rattle.pud_defs.proofs.StateMachine.Parts.{HasPools}

-- tables of this many frames in which no record is used
abbrev pub no_records : ℕ → Tables
no_records F = record { frames = F; pools = λ slot. None; puddles = λ frame. None }

none_either : {A : Type 0} (b : Bool) → let no : Option A = None in cond b no no ≡ no
none_either true = refl
none_either false = refl

all_zero : (F : ℕ) → tables_of F (λ k. 0) ≡ no_records F
unfolding tables_of pool_at puddle_at pool_by puddle_by
all_zero F = λ p. record { frames = F; pools = λ slot. none_either (nat_lt slot POOL_RECORDS) p; puddles = λ frame. none_either (nat_lt frame F) p }

-- if no place is used, no two keys are the same
distinct_none : {K : Type 0} (X : Type 0) (R : K → K → Ordering) (from count : ℕ) → are_distinct {X = X} R (λ place. None) from count ≡ true
unfolding are_distinct
distinct_none X R from zero = refl
distinct_none X R from (suc count) = distinct_none X R (from + 1) count

sound_none : (number F : ℕ) → are_sound_tables number (no_records F) ≡ true
unfolding are_sound_tables has_legal_pools has_distinct_names has_legal_puddles has_distinct_bases has_distinct_old_bases has_distinct_ordinals has_counted_puddles
sound_none number F =
    and_from _ _ (and_from _ _ (and_from _ _ (and_from _ _ (and_from _ _ (and_from _ _
    (all_below-from POOL_RECORDS _ (λ slot below. refl))
    (distinct_none _ _ 0 POOL_RECORDS))
    (all_below-from F _ (λ frame below. refl)))
    (distinct_none _ nat_cmp 0 F))
    (all_below-from POOL_RECORDS _ (λ slot below. distinct_none _ nat_cmp 0 F)))
    (all_below-from POOL_RECORDS _ (λ slot below. distinct_none _ nat_cmp 0 F)))
    (all_below-from POOL_RECORDS _ (λ slot below. refl))

no_pools : (hold : Reader) (F : ℕ) → pools_of hold (no_records F) ≡ []
unfolding pools_of keyed
no_pools hold F = refl

-- an image in which the words of both tables are 0 has no pools
pub empty_tables : (types : List (ℕ × ℕ)) (F number : ℕ) (image : Image) → ((k : ℕ) → POOL_TABLE ≤ k → k < SPACE_TABLE → image k ≡ 0) → ((k : ℕ) → PUDDLE_TABLE ≤ k → k < tables_end F → image k ≡ 0) → HasPools types F number [] image
empty_tables types F number image pools puddles =
    let none : tables_of F image ≡ no_records F = tables_of-same F image (λ k. 0) pools puddles ∙ all_zero F in
    record { pools = ap (pools_of (holding_in types F image)) none ∙ no_pools (holding_in types F image) F; sound = ap (are_sound_tables number) none ∙ sound_none number F }
