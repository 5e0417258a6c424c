-- The tables of an image by the words of their records.
use Rattle.std.proofs.Common.{◌≡◌, ℕ, ◌-◌, ◌<◌, ◌≤◌, Bool, true, false, not, ◌&&◌, cond, eqb, ltb, List, Option, Some, None, is_some, slice_index, refl, ap, ◌∙◌, sym, arith}
use Rattle.std.proofs.lemmas.Bool.{cond-true, eq-eqb, ne_eqb, lt-ltb}
use Rattle.pud_defs.specs.declared.records.TheConstants.{POOL_RECORDS, MAX_PUDDLES}
use Rattle.pud_defs.specs.declared.records.PoolRecord.{PoolRecord}
use Rattle.pud_defs.specs.Formats.Image.{Image}
use Rattle.pud_defs.specs.RegistryTables.Pools.{pool_at, pool_by, pool_record_at}
use Rattle.pud_defs.specs.RegistryTables.Puddles.{puddle_at, puddle_by, puddle_record_at, member_pool, is_legal_puddle}
use Rattle.pud_defs.specs.RegistryTables.Tables.{Tables, tables_of}
use Rattle.pud_defs.specs.RegistryTables.SoundTables.{is_pool, is_sound_puddle}
use Rattle.soundness.specs.Tables.{record_words, pool_by_words, puddle_by_words, member_of_words, is_legal_but_pool}
use Rattle.pud_defs.proofs.RegistryTables.TablesOf.{pools_beyond}

-- ---- which record a place of a table has

pub pool_here : (F : ℕ) (image : Image) (slot : ℕ) → slot < POOL_RECORDS → (tables_of F image).pools slot ≡ pool_by_words (record_words image (pool_record_at slot))
unfolding tables_of pool_at
pool_here F image slot known = cond-true _ _ _ (lt-ltb slot POOL_RECORDS known)

pub puddle_here : (F : ℕ) (image : Image) (frame : ℕ) → frame < F → (tables_of F image).puddles frame ≡ puddle_by_words (record_words image (puddle_record_at frame))
unfolding tables_of puddle_at
puddle_here F image frame known = cond-true _ _ _ (lt-ltb frame F known)

-- ---- whether a pool is there, by its slot plus 1

used_by : (b : Bool) (r : PoolRecord) → is_some (cond b None (Some r)) ≡ not b
used_by true r = refl
used_by false r = refl

pub pool_there : (F : ℕ) (image : Image) (pool : ℕ) → (pool ≡ 0 → ⊥) → pool ≤ POOL_RECORDS → is_pool (tables_of F image) pool ≡ not (eqb (image (pool_record_at (pool - 1))) 0)
unfolding pool_by
pool_there F image pool some few =
    ap (λ (b : Bool). not b && is_some ((tables_of F image).pools (pool - 1))) (ne_eqb pool 0 some)
    ∙ (ap (λ (o : Option PoolRecord). is_some o) (pool_here F image (pool - 1) (omega arith)) ∙ used_by (eqb (image (pool_record_at (pool - 1))) 0) _)

pub pool_zero : (F : ℕ) (image : Image) (pool : ℕ) → pool ≡ 0 → is_pool (tables_of F image) pool ≡ false
pool_zero F image pool zero = ap (λ (b : Bool). not b && is_some ((tables_of F image).pools (pool - 1))) (eq-eqb pool 0 zero)

pub pool_beyond : (F : ℕ) (image : Image) (pool : ℕ) → POOL_RECORDS < pool → is_pool (tables_of F image) pool ≡ false
pool_beyond F image pool beyond =
    ap (λ (b : Bool). not b && is_some ((tables_of F image).pools (pool - 1))) (ne_eqb pool 0 (λ zero. omega arith))
    ∙ ap (λ (o : Option PoolRecord). is_some o) (pools_beyond F image (pool - 1) (omega arith))

-- ---- a puddle record by its words

pub sound_free : (next : ℕ) (t : Tables) (ws : List ℕ) → slice_index ws 0 ≡ 0 → is_sound_puddle next t (puddle_by_words ws) ≡ true
unfolding puddle_by
sound_free next t ws free = ap (λ (b : Bool). is_sound_puddle next t (cond b None (Some (member_of_words ws)))) (eq-eqb (slice_index ws 0) 0 free)

sound_used : (next : ℕ) (t : Tables) (ws : List ℕ) → (slice_index ws 0 ≡ 0 → ⊥) → is_sound_puddle next t (puddle_by_words ws) ≡ is_sound_puddle next t (Some (member_of_words ws))
unfolding puddle_by
sound_used next t ws used = ap (λ (b : Bool). is_sound_puddle next t (cond b None (Some (member_of_words ws)))) (ne_eqb (slice_index ws 0) 0 used)

-- whether a puddle record is sound, by whether its pool exists
pub sound_by_pool : (next : ℕ) (t : Tables) (ws : List ℕ) (there : Bool) → (slice_index ws 0 ≡ 0 → ⊥) → there ≡ is_pool t (member_pool (slice_index ws 0)) → is_sound_puddle next t (puddle_by_words ws) ≡ (there && is_legal_but_pool next (member_of_words ws))
sound_by_pool next t ws there used is =
    let m = member_of_words ws in
    sound_used next t ws used
    ∙ (ap (λ (b : Bool). b && ltb m.ordinal MAX_PUDDLES && is_legal_puddle next m.puddle) (sym is)
    ∙ elim there as (λ b. (b && ltb m.ordinal MAX_PUDDLES && is_legal_puddle next m.puddle) ≡ (b && is_legal_but_pool next m)) [ true ↦ refl | false ↦ refl ])
