-- The words of several open transactions: a word that one masks has the value that this one gives, and any other has
-- none.
use Rattle.std.proofs.Common.{◌≡◌, ◌≢◌, inl, inr, ℕ, zero, suc, ◌+◌, ◌<◌, ◌≤◌, true, false, ◌||◌, Option, Some, None, refl, sym, ap, ◌∙◌, arith}
use Rattle.std.specs.Option.{option_or}
use Rattle.std.proofs.lemmas.Bool.{cases_eq, or_cases}
use Rattle.std.proofs.lemmas.Option.{none-some, same_Some}
use Rattle.pm_model.specs.Changes.{Write}
use Rattle.pud_defs.specs.declared.layout.TheConstants.{POOL_TABLE}
use Rattle.pud_defs.specs.declared.log_words.TheConstants.{CLOSED_GATE}
use Rattle.pud_defs.specs.Formats.Image.{Image}
use Rattle.pud_defs.specs.RegistryTables.Places.{first_some}
use Rattle.pud_defs.specs.Logging.Replay.{IsInLog, is_in_log}
use Rattle.pud_defs.specs.Logging.Settled.{ALL_LOGS, log_number_at}
use Rattle.pud_defs.specs.RegistryTables.Tables.{tables_of}
use Rattle.pud_defs.proofs.Logging.Replay.{within_log}
use Rattle.hybrid_tx.specs.PoolScopes.{pool_has_word, finished_of}
use Rattle.hybrid_tx.specs.Open.Masks.{is_open_record, open_mask}
use Rattle.hybrid_tx.specs.Open.ManyOpen.{OpenTransaction, Opens, mask_of, open_masks, IsMaskedBy, MasksAll, AreOpenPools, HasRecords, AreLeftOpen}
use Rattle.hybrid_tx.proofs.Open.OpenMasks.{open_record_place, mask_of_mine, mask_of_record, mask_of_gate, mask_of_log, mask_cases, mask_below}
use Rattle.hybrid_tx.proofs.Open.OpenPools.{open_on_device, open_puddles}
use Rattle.hybrid_tx.proofs.Open.OpenSettled.{IsOfNone, AreApart, other_log_apart, of_no_log, nothing_given}
use Rattle.hybrid_tx.proofs.Open.OwnEntries.{either_of}
use Rattle.hybrid_tx.proofs.PoolScope.{pool_has_word-each}
use Rattle.hybrid_tx.proofs.Open.PoolPlaces.{puddles_apart}

-- ---- the first of several that gives something

-- what is found is what one of them gives
first_some-each : {A : Type 0} (at : ℕ → Option A) (from count : ℕ) (x : A) → first_some at from count ≡ Some x → (k : ℕ) × (at k ≡ Some x)
unfolding first_some
first_some-each at from zero x is = absurd (none-some x is)
first_some-each at from (suc count) x is = elim (either_of (at from) (first_some at (from + 1) count) x is) [
  | inl here ↦ (from, here)
  | inr later ↦ first_some-each at (from + 1) count x later
]

agreed_or : {A : Type 0} (a b : Option A) (x : A) → ((y : A) → a ≡ Some y → y ≡ x) → b ≡ Some x → option_or a b ≡ Some x
agreed_or None b x agree is = is
agreed_or (Some y) b x agree is = ap Some (agree y refl)

-- if all that give something give the same, that is what is found
first_some-agreed : {A : Type 0} (at : ℕ → Option A) (from count k : ℕ) (x : A) → from ≤ k → k < from + count → at k ≡ Some x → ((j : ℕ) (y : A) → at j ≡ Some y → y ≡ x)
    → first_some at from count ≡ Some x
unfolding first_some
first_some-agreed at from zero k x low high is agree = absurd (omega arith)
first_some-agreed at from (suc count) k x low high is agree = elim (cases_eq k from) [
  | inl here ↦ ap (λ o. option_or o (first_some at (from + 1) count)) (ap at (sym here) ∙ is)
  | inr following ↦ agreed_or (at from) (first_some at (from + 1) count) x (agree from) (first_some-agreed at (from + 1) count k x (omega arith) (omega arith) is agree)
]

-- ---- the masks of all

-- this transaction gives the word the value, as a word of one of its records
pub record IsOfRecord (F : ℕ) (opens : Opens) (k v : ℕ) : Type 0 where
  pub number : ℕ
  pub transaction : OpenTransaction
  pub there : opens number ≡ Some transaction
  pub of : is_open_record transaction.pool k ≡ true
  pub is : transaction.before k ≡ v

module _ (F : ℕ) (opens : Opens) (mask : Write) (are : AreOpenPools F opens) (all : MasksAll F opens mask) where
  -- the words of one transaction
  module _ (n : ℕ) (o : OpenTransaction) (there : opens n ≡ Some o) where
    pub masks_of_gate : mask (log_number_at F n) ≡ Some CLOSED_GATE
    masks_of_gate = ap (λ (x : ℕ). mask (log_number_at F x)) (sym (are.number n o there)) ∙ all.has n o there (log_number_at F o.pool.log_number) CLOSED_GATE (mask_of_gate F o.pool o.before)

    pub masks_of_log : (k : ℕ) → is_in_log (log_number_at F n) k ≡ true → (v : ℕ) × (mask k ≡ Some v)
    masks_of_log k inside =
        let m = mask_of_log F o.pool o.before k (ap (λ (x : ℕ). is_in_log (log_number_at F x) k) (are.number n o there) ∙ inside) in
        (m.0, all.has n o there k m.0 m.1)

    pub masks_of_mine : (k : ℕ) → pool_has_word F (finished_of o.pool.puddles) k ≡ true → mask k ≡ Some (o.before k)
    masks_of_mine k mine = all.has n o there k (o.before k) (mask_of_mine F o.pool o.before k (are.pool n o there).known mine)

    pub masks_of_record : (k : ℕ) → is_open_record o.pool k ≡ true → mask k ≡ Some (o.before k)
    masks_of_record k of =
        let opened = are.pool n o there in
        all.has n o there k (o.before k) (mask_of_record F o.pool o.before k (open_record_place F o.pool k opened.slot opened.known (open_on_device F o.pool o.before opened) of).high of)

  -- a masked word that is in no log and no frame is one of a record
  pub masks_of_none : (k v : ℕ) → IsOfNone F opens k → mask k ≡ Some v → IsOfRecord F opens k v
  masks_of_none k v none is =
      let m = all.each k v is in
      let o = m.transaction in
      elim (mask_cases F o.pool o.before k v m.is) [
        | inl inside ↦ absurd (let it : true ≡ false = sym inside ∙ ap (λ (x : ℕ). is_in_log (log_number_at F x) k) (are.number m.number o m.there) ∙ none.log m.number o m.there in cc)
        | inr own ↦ elim (or_cases (pool_has_word F (finished_of o.pool.puddles) k) (is_open_record o.pool k) own.0) [
          | inl mine ↦ absurd (let it : true ≡ false = sym mine ∙ none.frames m.number o m.there in cc)
          | inr of ↦ record { number = m.number; transaction = o; there = m.there; of = of; is = own.1 }
        ]
      ]

  -- so a word that is in no record either is not masked
  pub masks_of_others : (k : ℕ) → IsOfNone F opens k → ((n : ℕ) (o : OpenTransaction) → opens n ≡ Some o → is_open_record o.pool k ≡ false) → mask k ≡ None
  masks_of_others k none beside = nothing_given (mask k) (λ v is.
      let m = masks_of_none k v none is in
      let it : true ≡ false = sym m.of ∙ beside m.number m.transaction m.there in cc)

  -- a word before the pool table is not masked
  pub masks_below : (k : ℕ) → k < POOL_TABLE → mask k ≡ None
  masks_below k below = nothing_given (mask k) (λ v is.
      let m = all.each k v is in
      let opened = are.pool m.number m.transaction m.there in
      let none = mask_below F m.transaction.pool m.transaction.before opened.slot opened.known (open_on_device F m.transaction.pool m.transaction.before opened) k below in
      let it : Some v ≡ None = sym m.is ∙ none in cc)

  -- a word of a log with which no transaction is open is not masked
  pub masks_beside_log : (number k : ℕ) → opens number ≡ None → number < ALL_LOGS → IsInLog (log_number_at F number) k → mask k ≡ None
  masks_beside_log number k free few inside = nothing_given (mask k) (λ v is.
      let low = inside.low in
      let m = masks_of_none k v (of_no_log F opens number k few free inside) is in
      let opened = are.pool m.number m.transaction m.there in
      let high = (open_record_place F m.transaction.pool k opened.slot opened.known (open_on_device F m.transaction.pool m.transaction.before opened) m.of).high in
      absurd (omega arith))

-- two masks of the words of all are the same
equal_by : (a b : Option ℕ) → ((v : ℕ) → a ≡ Some v → b ≡ Some v) → ((v : ℕ) → b ≡ Some v → a ≡ Some v) → a ≡ b
equal_by None b there back = sym (nothing_given b (λ v is. none-some v (back v is)))
equal_by (Some v) b there back = sym (there v refl)

pub masks_same : (F : ℕ) (opens : Opens) (a b : Write) → MasksAll F opens a → MasksAll F opens b → a ≡ b
masks_same F opens a b first second =
    let each : (k : ℕ) → a k ≡ b k = λ k. equal_by (a k) (b k)
    (λ v is. let m = first.each k v is in second.has m.number m.transaction m.there k v m.is)
    (λ v is. let m = second.each k v is in first.has m.number m.transaction m.there k v m.is) in
    λ i k. each k i

-- ---- in an image that has the records of each as they were at its beginning

pub left_records : (F : ℕ) (opens : Opens) (image : Image) → AreLeftOpen F opens image → HasRecords opens image
left_records F opens image left = record { each = λ n o there. (left.each n o there).records }

module _ (F : ℕ) (opens : Opens) (image : Image) (are : AreOpenPools F opens) (records : HasRecords opens image) where
  -- no two have a word of a frame in common
  pub opens_apart : AreApart F opens
  opens_apart = record {
    each = λ n m o q here there apart k mine.
        puddles_apart F (tables_of F image) o.pool.slot q.pool.slot (finished_of o.pool.puddles) (finished_of q.pool.puddles)
        (open_puddles F o.pool o.before image (are.pool n o here) (records.each n o here)).each
        (open_puddles F q.pool q.before image (are.pool m q there) (records.each m q there)).each
        (λ same. apart (are.slots n m o q here there same)) k mine;
  }

  module _ (n m : ℕ) (o q : OpenTransaction) (here : opens n ≡ Some o) (there : opens m ≡ Some q) (apart : n ≢ m) (k : ℕ) where
    -- a word of one's log is not masked by another
    pub log_or_own : is_in_log (log_number_at F o.pool.log_number) k ≡ true → (pool_has_word F (finished_of q.pool.puddles) k || is_open_record q.pool k) ≡ true → ⊥
    log_or_own inside own =
        let known = (are.pool n o here).known in
        let opened = are.pool m q there in
        let is = within_log (log_number_at F o.pool.log_number) k inside in
        let low = is.low in
        let high = is.high in
        elim (or_cases (pool_has_word F (finished_of q.pool.puddles) k) (is_open_record q.pool k) own) [
          | inl mine ↦ let l = (pool_has_word-each F (finished_of q.pool.puddles) k mine).low in absurd (omega arith)
          | inr of ↦ let h = (open_record_place F q.pool k opened.slot opened.known (open_on_device F q.pool q.before opened) of).high in absurd (omega arith)
        ]

    pub two_logs : is_in_log (log_number_at F o.pool.log_number) k ≡ true → is_in_log (log_number_at F q.pool.log_number) k ≡ true → ⊥
    two_logs inside its =
        let differ : o.pool.log_number ≡ q.pool.log_number → ⊥ = λ same. apart (sym (are.number n o here) ∙ same ∙ are.number m q there) in
        let it : true ≡ false = sym its ∙ other_log_apart F q.pool.log_number o.pool.log_number k differ (within_log (log_number_at F o.pool.log_number) k inside) in cc

    pub mine_or_record : pool_has_word F (finished_of o.pool.puddles) k ≡ true → is_open_record q.pool k ≡ true → ⊥
    mine_or_record mine of =
        let opened = are.pool m q there in
        let l = (pool_has_word-each F (finished_of o.pool.puddles) k mine).low in
        let h = (open_record_place F q.pool k opened.slot opened.known (open_on_device F q.pool q.before opened) of).high in
        absurd (omega arith)

  -- a word that two of them have, in frames or records, has the same value at the beginning of both
  own_agrees : (n m : ℕ) (o q : OpenTransaction) → opens n ≡ Some o → opens m ≡ Some q → n ≢ m → (k : ℕ)
      → (pool_has_word F (finished_of o.pool.puddles) k || is_open_record o.pool k) ≡ true → (pool_has_word F (finished_of q.pool.puddles) k || is_open_record q.pool k) ≡ true → o.before k ≡ q.before k
  own_agrees n m o q here there apart k own its = elim (or_cases (pool_has_word F (finished_of o.pool.puddles) k) (is_open_record o.pool k) own) [
    | inl mine ↦ elim (or_cases (pool_has_word F (finished_of q.pool.puddles) k) (is_open_record q.pool k) its) [
      | inl also ↦ absurd (let it : true ≡ false = sym also ∙ opens_apart.each n m o q here there apart k mine in cc)
      | inr of ↦ absurd (mine_or_record n m o q here there apart k mine of)
    ]
    | inr of ↦ elim (or_cases (pool_has_word F (finished_of q.pool.puddles) k) (is_open_record q.pool k) its) [
      | inl mine ↦ absurd (mine_or_record m n q o there here (λ same. apart (sym same)) k mine of)
      | inr also ↦ sym (records.each n o here k of) ∙ records.each m q there k also
    ]
  ]

  -- if two mask a word, they give it the same value
  masks_agree : (n m : ℕ) (o q : OpenTransaction) → opens n ≡ Some o → opens m ≡ Some q → (k v x : ℕ)
      → open_mask F o.pool o.before k ≡ Some v → open_mask F q.pool q.before k ≡ Some x → v ≡ x
  masks_agree n m o q here there k v x is also = elim (cases_eq n m) [
    | inl same ↦
        let one : o ≡ q = same_Some o q (sym here ∙ ap opens same ∙ there) in
        same_Some v x (sym is ∙ ap (λ (t : OpenTransaction). open_mask F t.pool t.before k) one ∙ also)
    | inr apart ↦ elim (mask_cases F o.pool o.before k v is) [
      | inl inside ↦ elim (mask_cases F q.pool q.before k x also) [
        | inl its ↦ absurd (two_logs n m o q here there apart k inside its)
        | inr own ↦ absurd (log_or_own n m o q here there apart k inside own.0)
      ]
      | inr own ↦ elim (mask_cases F q.pool q.before k x also) [
        | inl its ↦ absurd (log_or_own m n q o there here (λ same. apart (sym same)) k its own.0)
        | inr other ↦ sym own.1 ∙ own_agrees n m o q here there apart k own.0 other.0 ∙ other.1
      ]
    ]
  ]

  masked_under : (number k v : ℕ) (o : Option OpenTransaction) → opens number ≡ o → mask_of F o k ≡ Some v → IsMaskedBy F opens k v
  masked_under number k v None e is = absurd (none-some v is)
  masked_under number k v (Some o) e is = record { number = number; transaction = o; there = e; is = is }

  -- so each word has the value that the first of them gives
  pub open_masks_all : MasksAll F opens (open_masks F opens)
  unfolding open_masks
  open_masks_all = record {
    has = λ n o there k v is.
        let few : n < ALL_LOGS = omega (arith, are.number n o there, (are.pool n o there).known) in
        first_some-agreed (λ number. mask_of F (opens number) k) 0 ALL_LOGS n v (omega arith) (omega arith) (ap (λ x. mask_of F x k) there ∙ is)
        (λ j y also. let m = masked_under j k y (opens j) refl also in masks_agree m.number n m.transaction o m.there there k y v m.is is);
    each = λ k v is. let found = first_some-each (λ number. mask_of F (opens number) k) 0 ALL_LOGS v is in masked_under found.0 k v (opens found.0) refl found.1;
  }
