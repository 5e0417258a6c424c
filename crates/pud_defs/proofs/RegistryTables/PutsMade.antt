-- What the words of a change make of the tables.
use Rattle.std.proofs.Common.{◌≡◌, inl, inr, ℕ, zero, suc, ◌+◌, ◌-◌, ◌^◌, ◌<◌, ◌≤◌, true, false, cond, ◌&&◌, ltb, eqb, List, ◌++◌, length, get_or, take, drop, Some, None, refl, sym, ap, ap₂, ◌∙◌, arith, ne_eqb, true≢false, length-drop}
use Rattle.std.specs.Int.{from_le_bytes, sum_through, byte_worth, w64}
use Rattle.std.proofs.lemmas.Bool.{cases_lt, cond-true, cond-false, lt-ltb, le-ltb, le-leb, lt-leb}
use Rattle.std.proofs.lemmas.List.{get_or-take, get_or-drop, take-append-drop, length-take-le}
use Rattle.std.proofs.lemmas.Nat.{le_bytes_8}
use Rattle.std.proofs.Math.ListN.{get_or-eq_default}
use Rattle.pud_defs.specs.declared.records.TheConstants.{POOL_RECORDS}
use Rattle.pud_defs.specs.declared.records.PoolRecord.{PoolRecord}
use Rattle.pud_defs.specs.declared.records.PuddleRecord.{PuddleRecord}
use Rattle.pud_defs.specs.declared.records.Put.{Put}
use Rattle.pud_defs.specs.Formats.Image.{Image}
use Rattle.pud_defs.specs.Formats.Names.{IsName, name_by, is_legal_name}
use Rattle.pud_defs.specs.RegistryTables.Pools.{IsEncodable, pool_record_at, pool_by, pool_at, owner_uid, owner_gid, owner_word, name_word, next_name_word}
use Rattle.pud_defs.specs.RegistryTables.Puddles.{Member, puddle_record_at, puddle_by, puddle_at, member_pool, member_ordinal, member_word, frontier_part, class_part, frontier_with_class}
use Rattle.pud_defs.specs.RegistryTables.Tables.{tables_of}
use Rattle.pud_defs.specs.RegistryTables.Puts.{with_put, pool_put, mode_put, free_pool_put, puddle_put, free_puddle_put, with_pool_at, with_puddle_at, with_mode, member_by}
use Rattle.pud_defs.proofs.RegistryTables.TablesOf.{pool_at-free, puddle_at-free, tables_of-pool, tables_of-puddle}

-- ---- a word of the image with a change

pub with_put-outside : (put : Put) (image : Image) (k : ℕ) → (put.w ≤ k → k < put.w + put.n → ⊥) → with_put put image k ≡ image k
with_put-outside put image k not = elim (cases_lt k put.w) [
  | inl before ↦ cond-false _ _ _ (ap (λ b. b && ltb k (put.w + put.n)) (lt-leb put.w k before))
  | inr from ↦ elim (cases_lt k (put.w + put.n)) [
    | inl within ↦ absurd (not from within)
    | inr following ↦ cond-false _ _ _ (ap₂ (λ a b. a && b) (le-leb put.w k from) (le-ltb k (put.w + put.n) following))
  ]
]

pub with_put-inside : (put : Put) (image : Image) (k j : ℕ) → k ≡ put.w + j → j < put.n → with_put put image k ≡ get_or put.vals j 0
with_put-inside put image k j e h =
    let place : k - put.w ≡ j = omega arith in
    cond-true _ _ _ (ap₂ (λ a b. a && b) (le-leb put.w k (omega arith)) (lt-ltb k (put.w + put.n) (omega arith))) ∙ ap (λ i. get_or put.vals i 0) place

-- ---- names and their words

sum_same : (f g : ℕ → ℕ) (k : ℕ) → ((i : ℕ) → i ≤ k → f i ≡ g i) → sum_through f k ≡ sum_through g k
sum_same f g zero same = same 0 (omega arith)
sum_same f g (suc k) same = ap₂ (λ a b. a + b) (sum_same f g k (λ i h. same i (omega arith))) (same (suc k) (omega arith))

first_eight : (name : List ℕ) → name_word name ≡ from_le_bytes w64 (take 8 name)
first_eight name = sum_same (λ i. byte_worth i (get_or name i 0)) (λ i. byte_worth i (get_or (take 8 name) i 0)) 7 (λ i h. ap (byte_worth i) (sym (get_or-take 8 name i 0 (omega arith))))

byte_of_front : (name : List ℕ) → IsName name → (i : ℕ) → get_or (take 8 name) i 0 < 256
byte_of_front name h i = elim (cases_lt i 8) [
  | inl within ↦ let e = get_or-take 8 name i 0 within in omega (arith, h.bytes i)
  | inr beyond ↦
      let n = h.sixteen in
      let front : length (take 8 name) ≡ 8 = length-take-le 8 name (omega arith) in
      let e : get_or (take 8 name) i 0 ≡ 0 = get_or-eq_default (take 8 name) 0 (omega arith) in
      omega arith
]

byte_after : (name : List ℕ) → IsName name → (i : ℕ) → get_or (drop 8 name) i 0 < 256
byte_after name h i = let e = get_or-drop 8 name i 0 in omega (arith, h.bytes (8 + i))

-- the two words of a name store it
pub name_by-words : (name : List ℕ) → IsName name → name_by (name_word name) (next_name_word name) ≡ name
unfolding name_by
name_by-words name h =
    let n = h.sixteen in
    ap₂ (λ a b. a ++ b)
    (le_bytes_8 (take 8 name) (name_word name) (length-take-le 8 name (omega arith)) (byte_of_front name h) (first_eight name))
    (le_bytes_8 (drop 8 name) (next_name_word name) (omega (arith, length-drop 8 name)) (byte_after name h) refl)
    ∙ take-append-drop 8 name

zero_word_is_illegal : (w : ℕ) → is_legal_name (name_by 0 w) ≡ false
unfolding name_by is_legal_name
zero_word_is_illegal w = refl

-- the first word of a legal name is not that of a free record
pub used_name : (name : List ℕ) → IsName name → is_legal_name name ≡ true → name_word name ≡ 0 → ⊥
used_name name h legal empty =
    let whole : name_by 0 (next_name_word name) ≡ name = ap (λ w. name_by w (next_name_word name)) (sym empty) ∙ name_by-words name h in
    true≢false (sym legal ∙ ap is_legal_name (sym whole) ∙ zero_word_is_illegal (next_name_word name))

-- ---- the record of a pool

uid_of : (uid gid : ℕ) → uid < 2 ^ 32 → owner_uid (owner_word uid gid) ≡ uid
uid_of uid gid h = omega arith

gid_of : (uid gid : ℕ) → uid < 2 ^ 32 → owner_gid (owner_word uid gid) ≡ gid
gid_of uid gid h = omega arith

-- the record with these five values
abbrev record_by : (name : List ℕ) (uid gid mode number : ℕ) → PoolRecord
record_by name uid gid mode number = record { name = name; uid = uid; gid = gid; mode = mode; number = number }

pool_by-words : (r : PoolRecord) → IsEncodable r → pool_by (name_word r.name) (next_name_word r.name) (owner_word r.uid r.gid) r.mode r.number ≡ Some r
unfolding pool_by
pool_by-words r h =
    let owner = owner_word r.uid r.gid in
    let whole : Some (record_by (name_by (name_word r.name) (next_name_word r.name)) (owner_uid owner) (owner_gid owner) r.mode r.number) ≡ Some r =
    λ p. Some (record_by (name_by-words r.name h.name p) (uid_of r.uid r.gid h.uid p) (gid_of r.uid r.gid h.uid p) r.mode r.number) in
    cond-false _ _ _ (ne_eqb (name_word r.name) 0 (used_name r.name h.name h.legal)) ∙ whole

pool_at-words : (image : Image) (slot w0 w1 w2 w3 w4 : ℕ) → image (pool_record_at slot) ≡ w0 → image (pool_record_at slot + 1) ≡ w1 → image (pool_record_at slot + 2) ≡ w2 → image (pool_record_at slot + 3) ≡ w3
    → image (pool_record_at slot + 4) ≡ w4 → pool_at image slot ≡ pool_by w0 w1 w2 w3 w4
unfolding pool_at
pool_at-words image slot w0 w1 w2 w3 w4 e0 e1 e2 e3 e4 = λ p. pool_by (e0 p) (e1 p) (e2 p) (e3 p) (e4 p)

with_mode_by : (w0 w1 w2 w3 w4 mode : ℕ) → pool_by w0 w1 w2 mode w4 ≡ with_mode mode (pool_by w0 w1 w2 w3 w4)
unfolding pool_by
with_mode_by w0 w1 w2 w3 w4 mode =
    elim (eqb w0 0) as (λ b. cond b None (Some (record_by (name_by w0 w1) (owner_uid w2) (owner_gid w2) mode w4))
    ≡ with_mode mode (cond b None (Some (record_by (name_by w0 w1) (owner_uid w2) (owner_gid w2) w3 w4)))) [ true ↦ refl | false ↦ refl ]

pool_at-itself : (image : Image) (slot : ℕ) → pool_at image slot ≡ pool_by (image (pool_record_at slot)) (image (pool_record_at slot + 1)) (image (pool_record_at slot + 2)) (image (pool_record_at slot + 3)) (image (pool_record_at slot + 4))
unfolding pool_at
pool_at-itself image slot = refl

module _ (F : ℕ) (image : Image) (slot : ℕ) (within : slot < POOL_RECORDS) where
  -- a change that lies within one record of the pool table
  in_record : (put : Put) → pool_record_at slot ≤ put.w → put.w + put.n ≤ pool_record_at (slot + 1) → tables_of F (with_put put image) ≡ with_pool_at slot (pool_at (with_put put image) slot) (tables_of F image)
  in_record put low high =
      tables_of-pool F image (with_put put image) slot within
      (λ k l h not. with_put-outside put image k (λ from to. not (omega arith) (omega arith)))
      (λ k l h. with_put-outside put image k (λ from to. omega arith))

  -- the words of a record put it into the slot
  pub pool_put_made : (r : PoolRecord) → IsEncodable r → tables_of F (with_put (pool_put slot r) image) ≡ with_pool_at slot (Some r) (tables_of F image)
  pool_put_made r h =
      let put = pool_put slot r in
      in_record put (omega arith) (omega arith)
      ∙ ap (λ now. with_pool_at slot now (tables_of F image))
      (pool_at-words (with_put put image) slot (name_word r.name) (next_name_word r.name) (owner_word r.uid r.gid) r.mode r.number
      (with_put-inside put image (pool_record_at slot) 0 (omega arith) (omega arith))
      (with_put-inside put image (pool_record_at slot + 1) 1 refl (omega arith))
      (with_put-inside put image (pool_record_at slot + 2) 2 refl (omega arith))
      (with_put-inside put image (pool_record_at slot + 3) 3 refl (omega arith))
      (with_put-inside put image (pool_record_at slot + 4) 4 refl (omega arith))
      ∙ pool_by-words r h)

  -- the words of a mode change only the mode
  pub mode_put_made : (mode : ℕ) → tables_of F (with_put (mode_put slot mode) image) ≡ with_pool_at slot (with_mode mode (pool_at image slot)) (tables_of F image)
  mode_put_made mode =
      let put = mode_put slot mode in
      let at = pool_record_at slot in
      in_record put (omega arith) (omega arith)
      ∙ ap (λ now. with_pool_at slot now (tables_of F image))
      (pool_at-words (with_put put image) slot (image at) (image (at + 1)) (image (at + 2)) mode (image (at + 4))
      (with_put-outside put image at (λ l h. omega arith))
      (with_put-outside put image (at + 1) (λ l h. omega arith))
      (with_put-outside put image (at + 2) (λ l h. omega arith))
      (with_put-inside put image (at + 3) 0 (omega arith) (omega arith))
      (with_put-outside put image (at + 4) (λ l h. omega arith))
      ∙ with_mode_by (image at) (image (at + 1)) (image (at + 2)) (image (at + 3)) (image (at + 4)) mode
      ∙ ap (with_mode mode) (sym (pool_at-itself image slot)))

  -- the word 0 frees the record
  pub free_pool_put_made : tables_of F (with_put (free_pool_put slot) image) ≡ with_pool_at slot None (tables_of F image)
  free_pool_put_made =
      let put = free_pool_put slot in
      in_record put (omega arith) (omega arith)
      ∙ ap (λ now. with_pool_at slot now (tables_of F image)) (pool_at-free (with_put put image) slot (with_put-inside put image (pool_record_at slot) 0 (omega arith) (omega arith)))

-- ---- the record of a puddle

member_used : (pool ordinal : ℕ) → pool < 2 ^ 32 → 0 < pool → member_word pool ordinal ≡ 0 → ⊥
member_used pool ordinal fits above none = omega arith

abbrev member_with : (pool ordinal : ℕ) → PuddleRecord → Member
member_with pool ordinal r = record { pool = pool; ordinal = ordinal; puddle = record { number = r.number; base = r.base; old_base = r.old_base; frontier = r.frontier; class = r.class } }

-- The numbers of a record fit into its words.
pub record FitsWords (r : PuddleRecord) : Type 0 where
  pub pool : r.pool + 1 < 2 ^ 32
  pub frontier : r.frontier < 2 ^ 32

puddle_by-words : (r : PuddleRecord) → FitsWords r → puddle_by (member_word (r.pool + 1) r.ordinal) r.number r.base r.old_base (frontier_with_class r.frontier r.class) ≡ Some (member_by r)
unfolding puddle_by
puddle_by-words r fits =
    let pool_fits = fits.pool in
    let frontier_fits = fits.frontier in
    let pool : member_pool (member_word (r.pool + 1) r.ordinal) ≡ r.pool + 1 = omega arith in
    let last = frontier_with_class r.frontier r.class in
    let frontier : frontier_part last ≡ r.frontier = omega arith in
    let class : class_part last ≡ r.class = omega arith in
    let ordinal : member_ordinal (member_word (r.pool + 1) r.ordinal) ≡ r.ordinal = omega arith in
    let at = member_word (r.pool + 1) r.ordinal in
    let whole : Some (member_with (member_pool at) (member_ordinal at) (record r { frontier = frontier_part last; class = class_part last })) ≡ Some (member_by r) =
    λ p. Some (member_with (pool p) (ordinal p) (record r { frontier = frontier p; class = class p })) in
    cond-false _ _ _ (ne_eqb at 0 (member_used (r.pool + 1) r.ordinal fits.pool (omega arith))) ∙ whole

puddle_at-words : (image : Image) (frame w0 w1 w2 w3 w4 : ℕ) → image (puddle_record_at frame) ≡ w0 → image (puddle_record_at frame + 1) ≡ w1 → image (puddle_record_at frame + 2) ≡ w2
    → image (puddle_record_at frame + 3) ≡ w3 → image (puddle_record_at frame + 4) ≡ w4 → puddle_at image frame ≡ puddle_by w0 w1 w2 w3 w4
unfolding puddle_at
puddle_at-words image frame w0 w1 w2 w3 w4 e0 e1 e2 e3 e4 = λ p. puddle_by (e0 p) (e1 p) (e2 p) (e3 p) (e4 p)

module _ (F : ℕ) (image : Image) (frame : ℕ) where
  -- a change that lies within one record of the puddle table
  in_puddle_record : (put : Put) → frame < F → puddle_record_at frame ≤ put.w → put.w + put.n ≤ puddle_record_at (frame + 1)
      → tables_of F (with_put put image) ≡ with_puddle_at frame (puddle_at (with_put put image) frame) (tables_of F image)
  in_puddle_record put within low high =
      tables_of-puddle F image (with_put put image) frame within
      (λ k l h. with_put-outside put image k (λ from to. omega arith))
      (λ k l h not. with_put-outside put image k (λ from to. not (omega arith) (omega arith)))

  -- the words of a record put it into the record of the frame
  pub puddle_put_made : (r : PuddleRecord) → frame < F → FitsWords r → tables_of F (with_put (puddle_put frame r) image) ≡ with_puddle_at frame (Some (member_by r)) (tables_of F image)
  puddle_put_made r within fits =
      let put = puddle_put frame r in
      in_puddle_record put within (omega arith) (omega arith)
      ∙ ap (λ now. with_puddle_at frame now (tables_of F image))
      (puddle_at-words (with_put put image) frame (member_word (r.pool + 1) r.ordinal) r.number r.base r.old_base (frontier_with_class r.frontier r.class)
      (with_put-inside put image (puddle_record_at frame) 0 (omega arith) (omega arith))
      (with_put-inside put image (puddle_record_at frame + 1) 1 refl (omega arith))
      (with_put-inside put image (puddle_record_at frame + 2) 2 refl (omega arith))
      (with_put-inside put image (puddle_record_at frame + 3) 3 refl (omega arith))
      (with_put-inside put image (puddle_record_at frame + 4) 4 refl (omega arith))
      ∙ puddle_by-words r fits)

  -- the word 0 frees the record
  pub free_puddle_put_made : frame < F → tables_of F (with_put (free_puddle_put frame) image) ≡ with_puddle_at frame None (tables_of F image)
  free_puddle_put_made within =
      let put = free_puddle_put frame in
      in_puddle_record put within (omega arith) (omega arith)
      ∙ ap (λ now. with_puddle_at frame now (tables_of F image)) (puddle_at-free (with_put put image) frame (with_put-inside put image (puddle_record_at frame) 0 (omega arith) (omega arith)))
