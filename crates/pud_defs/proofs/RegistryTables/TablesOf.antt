-- Reading the tables of an image, and what a change of a record's words makes of them.
use Rattle.std.proofs.Common.{◌≡◌, ◌⊎◌, inl, inr, ℕ, ◌+◌, ◌<◌, ◌≤◌, Bool, true, false, cond, ltb, eqb, Option, None, refl, sym, ap, ◌∙◌, arith, ne_eqb, eq-eqb}
use Rattle.std.proofs.lemmas.Bool.{cases_eq, cases_lt, cond-true, cond-false, lt-ltb, le-ltb}
use Rattle.pud_defs.specs.declared.layout.TheConstants.{POOL_TABLE, SPACE_TABLE, PUDDLE_TABLE}
use Rattle.pud_defs.specs.declared.records.TheConstants.{POOL_RECORDS}
use Rattle.pud_defs.specs.Formats.Image.{Image}
use Rattle.pud_defs.specs.Formats.Layout.{tables_end}
use Rattle.pud_defs.specs.RegistryTables.Pools.{pool_record_at, pool_by, pool_at}
use Rattle.pud_defs.specs.RegistryTables.Puddles.{Member, puddle_record_at, puddle_by, puddle_at}
use Rattle.pud_defs.specs.RegistryTables.Tables.{tables_of}
use Rattle.pud_defs.specs.RegistryTables.Puts.{changed_at, with_pool_at, with_puddle_at, is_of_pool, without_pool_at}

-- ---- what is masked

masked : {A : Type 0} (end i : ℕ) (x y : Option A) → (i < end → x ≡ y) → cond (ltb i end) x None ≡ cond (ltb i end) y None
masked end i x y same = elim (cases_lt i end) [
  | inl below ↦ cond-true (ltb i end) x None (lt-ltb i end below) ∙ same below ∙ sym (cond-true (ltb i end) y None (lt-ltb i end below))
  | inr beyond ↦ cond-false (ltb i end) x None (le-ltb i end beyond) ∙ sym (cond-false (ltb i end) y None (le-ltb i end beyond))
]

pub pools_below : (F : ℕ) (image : Image) (slot : ℕ) → slot < POOL_RECORDS → (tables_of F image).pools slot ≡ pool_at image slot
unfolding tables_of
pools_below F image slot below = cond-true (ltb slot POOL_RECORDS) (pool_at image slot) None (lt-ltb slot POOL_RECORDS below)

pub pools_beyond : (F : ℕ) (image : Image) (slot : ℕ) → POOL_RECORDS ≤ slot → (tables_of F image).pools slot ≡ None
unfolding tables_of
pools_beyond F image slot beyond = cond-false (ltb slot POOL_RECORDS) (pool_at image slot) None (le-ltb slot POOL_RECORDS beyond)

pub puddles_below : (F : ℕ) (image : Image) (frame : ℕ) → frame < F → (tables_of F image).puddles frame ≡ puddle_at image frame
unfolding tables_of
puddles_below F image frame below = cond-true (ltb frame F) (puddle_at image frame) None (lt-ltb frame F below)

pub puddles_beyond : (F : ℕ) (image : Image) (frame : ℕ) → F ≤ frame → (tables_of F image).puddles frame ≡ None
unfolding tables_of
puddles_beyond F image frame beyond = cond-false (ltb frame F) (puddle_at image frame) None (le-ltb frame F beyond)

pub frames_of_tables : (F : ℕ) (image : Image) → (tables_of F image).frames ≡ F
unfolding tables_of
frames_of_tables F image = refl

-- ---- images that agree

-- images that agree on the words of a record have the same record
pub pool_at-same : (i j : Image) (slot : ℕ) → ((k : ℕ) → pool_record_at slot ≤ k → k < pool_record_at (slot + 1) → i k ≡ j k) → pool_at i slot ≡ pool_at j slot
unfolding pool_at
pool_at-same i j slot same =
    let at = pool_record_at slot in
    let e0 = same at (omega arith) (omega arith) in
    let e1 = same (at + 1) (omega arith) (omega arith) in
    let e2 = same (at + 2) (omega arith) (omega arith) in
    let e3 = same (at + 3) (omega arith) (omega arith) in
    let e4 = same (at + 4) (omega arith) (omega arith) in
    λ p. pool_by (e0 p) (e1 p) (e2 p) (e3 p) (e4 p)

pub puddle_at-same : (i j : Image) (frame : ℕ) → ((k : ℕ) → puddle_record_at frame ≤ k → k < puddle_record_at (frame + 1) → i k ≡ j k) → puddle_at i frame ≡ puddle_at j frame
unfolding puddle_at
puddle_at-same i j frame same =
    let at = puddle_record_at frame in
    let e0 = same at (omega arith) (omega arith) in
    let e1 = same (at + 1) (omega arith) (omega arith) in
    let e2 = same (at + 2) (omega arith) (omega arith) in
    let e3 = same (at + 3) (omega arith) (omega arith) in
    let e4 = same (at + 4) (omega arith) (omega arith) in
    λ p. puddle_by (e0 p) (e1 p) (e2 p) (e3 p) (e4 p)

-- images that agree on the words of both tables have the same tables
pub tables_of-same : (F : ℕ) (i j : Image) → ((k : ℕ) → POOL_TABLE ≤ k → k < SPACE_TABLE → i k ≡ j k) → ((k : ℕ) → PUDDLE_TABLE ≤ k → k < tables_end F → i k ≡ j k) → tables_of F i ≡ tables_of F j
unfolding tables_of
tables_of-same F i j pools puddles =
    let each_pool : (slot : ℕ) → cond (ltb slot POOL_RECORDS) (pool_at i slot) None ≡ cond (ltb slot POOL_RECORDS) (pool_at j slot) None = λ slot.
    masked POOL_RECORDS slot (pool_at i slot) (pool_at j slot) (λ below. pool_at-same i j slot (λ k low high. pools k (omega arith) (omega arith))) in
    let each_puddle : (frame : ℕ) → cond (ltb frame F) (puddle_at i frame) None ≡ cond (ltb frame F) (puddle_at j frame) None = λ frame.
    masked F frame (puddle_at i frame) (puddle_at j frame) (λ below. puddle_at-same i j frame (λ k low high. puddles k (omega arith) (omega arith))) in
    λ p. record { frames = F; pools = λ slot. each_pool slot p; puddles = λ frame. each_puddle frame p }

-- ---- a record is changed

-- one place of a masked table is changed
changed_there : {A : Type 0} (end i at : ℕ) (x y : ℕ → Option A) → at < end → (i < end → (i ≡ at → ⊥) → x i ≡ y i) → cond (ltb i end) (x i) None ≡ changed_at at (x at) (λ k. cond (ltb k end) (y k) None) i
changed_there end i at x y below same = elim (cases_eq i at) [
  | inl e ↦
      let here : i < end = omega arith in
      cond-true (ltb i end) (x i) None (lt-ltb i end here) ∙ ap x e ∙ sym (cond-true (eqb i at) (x at) (cond (ltb i end) (y i) None) (eq-eqb i at e))
  | inr other ↦ masked end i (x i) (y i) (λ h. same h other) ∙ sym (cond-false (eqb i at) (x at) (cond (ltb i end) (y i) None) (ne_eqb i at other))
]

-- only words of one pool record change in the tables
pub tables_of-pool : (F : ℕ) (i j : Image) (slot : ℕ) → slot < POOL_RECORDS
    → ((k : ℕ) → POOL_TABLE ≤ k → k < SPACE_TABLE → (pool_record_at slot ≤ k → k < pool_record_at (slot + 1) → ⊥) → j k ≡ i k)
    → ((k : ℕ) → PUDDLE_TABLE ≤ k → k < tables_end F → j k ≡ i k) → tables_of F j ≡ with_pool_at slot (pool_at j slot) (tables_of F i)
unfolding tables_of
tables_of-pool F i j slot within pools puddles =
    let each_pool : (s : ℕ) → cond (ltb s POOL_RECORDS) (pool_at j s) None ≡ changed_at slot (pool_at j slot) (λ k. cond (ltb k POOL_RECORDS) (pool_at i k) None) s = λ s.
    changed_there POOL_RECORDS s slot (pool_at j) (pool_at i) within (λ below other. pool_at-same j i s (λ k low high. pools k (omega arith) (omega arith) (λ l h. absurd (omega arith)))) in
    let each_puddle : (frame : ℕ) → cond (ltb frame F) (puddle_at j frame) None ≡ cond (ltb frame F) (puddle_at i frame) None = λ frame.
    masked F frame (puddle_at j frame) (puddle_at i frame) (λ below. puddle_at-same j i frame (λ k low high. puddles k (omega arith) (omega arith))) in
    λ p. record { frames = F; pools = λ s. each_pool s p; puddles = λ frame. each_puddle frame p }

-- only words of one puddle record change in the tables
pub tables_of-puddle : (F : ℕ) (i j : Image) (frame : ℕ) → frame < F
    → ((k : ℕ) → POOL_TABLE ≤ k → k < SPACE_TABLE → j k ≡ i k)
    → ((k : ℕ) → PUDDLE_TABLE ≤ k → k < tables_end F → (puddle_record_at frame ≤ k → k < puddle_record_at (frame + 1) → ⊥) → j k ≡ i k)
    → tables_of F j ≡ with_puddle_at frame (puddle_at j frame) (tables_of F i)
unfolding tables_of
tables_of-puddle F i j frame within pools puddles =
    let each_pool : (s : ℕ) → cond (ltb s POOL_RECORDS) (pool_at j s) None ≡ cond (ltb s POOL_RECORDS) (pool_at i s) None = λ s.
    masked POOL_RECORDS s (pool_at j s) (pool_at i s) (λ below. pool_at-same j i s (λ k low high. pools k (omega arith) (omega arith))) in
    let each_puddle : (f : ℕ) → cond (ltb f F) (puddle_at j f) None ≡ changed_at frame (puddle_at j frame) (λ k. cond (ltb k F) (puddle_at i k) None) f = λ f.
    changed_there F f frame (puddle_at j) (puddle_at i) within (λ below other. puddle_at-same j i f (λ k low high. puddles k (omega arith) (omega arith) (λ l h. absurd (omega arith)))) in
    λ p. record { frames = F; pools = λ s. each_pool s p; puddles = λ f. each_puddle f p }

-- ---- a pool is dropped

pub pool_at-free : (image : Image) (slot : ℕ) → image (pool_record_at slot) ≡ 0 → pool_at image slot ≡ None
unfolding pool_at pool_by
pool_at-free image slot empty = cond-true _ _ _ (eq-eqb (image (pool_record_at slot)) 0 empty)

pub puddle_at-free : (image : Image) (frame : ℕ) → image (puddle_record_at frame) ≡ 0 → puddle_at image frame ≡ None
unfolding puddle_at puddle_by
puddle_at-free image frame empty = cond-true _ _ _ (eq-eqb (image (puddle_record_at frame)) 0 empty)

-- The record of the pool is free, and those of its puddles are. In each other record no word changes.
pub record IsDropped (F slot : ℕ) (i j : Image) : Type 0 where
  pub pools : (k : ℕ) → POOL_TABLE ≤ k → k < SPACE_TABLE → (pool_record_at slot ≤ k → k < pool_record_at (slot + 1) → ⊥) → j k ≡ i k
  pub freed : j (pool_record_at slot) ≡ 0
  pub kept : (frame : ℕ) → frame < F → is_of_pool slot (puddle_at i frame) ≡ false → (k : ℕ) → puddle_record_at frame ≤ k → k < puddle_record_at (frame + 1) → j k ≡ i k
  pub gone : (frame : ℕ) → frame < F → is_of_pool slot (puddle_at i frame) ≡ true → j (puddle_record_at frame) ≡ 0

true_or_false : (b : Bool) → (b ≡ true) ⊎ (b ≡ false)
true_or_false true = inl refl
true_or_false false = inr refl

puddle_dropped : (F slot : ℕ) (i j : Image) → IsDropped F slot i j → (frame : ℕ) → frame < F → puddle_at j frame ≡ cond (is_of_pool slot (puddle_at i frame)) None (puddle_at i frame)
puddle_dropped F slot i j h frame below = elim (true_or_false (is_of_pool slot (puddle_at i frame))) [
  | inl of ↦ puddle_at-free j frame (h.gone frame below of) ∙ sym (cond-true _ _ _ of)
  | inr other ↦ puddle_at-same j i frame (h.kept frame below other) ∙ sym (cond-false _ _ _ other)
]

-- a record may be masked before it is freed or after it
masked_out : (slot F frame : ℕ) (m : Option Member) → cond (ltb frame F) (cond (is_of_pool slot m) None m) None ≡ cond (is_of_pool slot (cond (ltb frame F) m None)) None (cond (ltb frame F) m None)
masked_out slot F frame m =
    elim (ltb frame F) as (λ b. cond b (cond (is_of_pool slot m) None m) None ≡ cond (is_of_pool slot (cond b m None)) None (cond b m None)) [ true ↦ refl | false ↦ refl ]

pub tables_of-dropped : (F slot : ℕ) (i j : Image) → slot < POOL_RECORDS → IsDropped F slot i j → tables_of F j ≡ without_pool_at slot (tables_of F i)
unfolding tables_of
tables_of-dropped F slot i j within h =
    let each_pool : (s : ℕ) → cond (ltb s POOL_RECORDS) (pool_at j s) None ≡ changed_at slot None (λ k. cond (ltb k POOL_RECORDS) (pool_at i k) None) s = λ s.
    changed_there POOL_RECORDS s slot (pool_at j) (pool_at i) within (λ below other. pool_at-same j i s (λ k low high. h.pools k (omega arith) (omega arith) (λ l r. absurd (omega arith))))
    ∙ ap (λ now. changed_at slot now (λ k. cond (ltb k POOL_RECORDS) (pool_at i k) None) s) (pool_at-free j slot h.freed) in
    let each_puddle : (f : ℕ) → cond (ltb f F) (puddle_at j f) None ≡ cond (is_of_pool slot (cond (ltb f F) (puddle_at i f) None)) None (cond (ltb f F) (puddle_at i f) None) = λ f.
    masked F f (puddle_at j f) (cond (is_of_pool slot (puddle_at i f)) None (puddle_at i f)) (puddle_dropped F slot i j h f) ∙ masked_out slot F f (puddle_at i f) in
    λ p. record { frames = F; pools = λ s. each_pool s p; puddles = λ f. each_puddle f p }
