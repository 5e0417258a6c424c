-- An active transaction gets more own words, as more puddles of its pool are finished. The words that were its own stay
-- its own, with the values from their beginning. The others begin as they are read.
use Rattle.std.proofs.Common.{◌≡◌, ◌⊎◌, inl, inr, ℕ, ◌<◌, true, false, cond, ◌||◌, List, Option, Some, None, sym, ap, subst, ◌∙◌, arith}
use Rattle.std.specs.Prelude.{slice_get}
use Rattle.std.specs.List.{list_any}
use Rattle.std.proofs.lemmas.Bool.{cases_Bool, cond-true, cond-false, or_cases, or_parts, or_left, or_right}
use Rattle.pm_model.specs.Words.{Has, Cell, single, values, Words, HasOnly, reads}
use Rattle.pm_model.specs.Changes.{Write}
use Rattle.pm_model.specs.Masks.{masked_cell, masked}
use Rattle.pm_model.proofs.Masks.{masked-there, masked-elsewhere}
use Rattle.pud_defs.specs.declared.records.Puddle.{Puddle}
use Rattle.pud_defs.specs.Formats.Image.{Image}
use Rattle.pud_defs.specs.Formats.Layout.{frames_at, tables_end}
use Rattle.pud_defs.specs.Logging.Replay.{is_in_log}
use Rattle.pud_defs.specs.Logging.Settled.{client_of_log, log_number_at}
use Rattle.pud_defs.specs.RegistryTables.SoundTables.{HasSoundTables}
use Rattle.pud_defs.specs.RegistryTables.Spaces.{owner_of}
use Rattle.pud_defs.specs.RegistryTables.Tables.{Tables, tables_of, puddles_in_turn}
use Rattle.pud_defs.specs.StateMachine.World.{World}
use Rattle.pud_defs.proofs.RegistryTables.Spaces.{owner_of-same}
use Rattle.pud_defs.proofs.RegistryTables.TablesOf.{tables_of-same}
use Rattle.word_transaction.proofs.Growing.{IsWider}
use Rattle.hybrid_tx.specs.PoolScopes.{pool_has_word, pool_scope, ArePlacedPuddles, finished_of}
use Rattle.hybrid_tx.specs.Open.Masks.{OpenPool, is_in_pool_record, is_in_space_record, is_in_puddle_record, is_open_record, open_mask, ArePuddlesOf, IsOpenPool}
use Rattle.hybrid_tx.specs.Open.ManyOpen.{OpenTransaction}
use Rattle.hybrid_tx.proofs.FinishedPuddles.{finished_puddles}
use Rattle.hybrid_tx.proofs.PoolScope.{any_element, element_passes, pool_has_word-each, pool_has_word-from, pool_may_name-named, pool_may_name-from, pool_place-there}
use Rattle.hybrid_tx.proofs.Open.OpenMasks.{mine_after, open_record_place, mask_of_own, mask_of_mine, mask_of_record, mask_of_others}
use Rattle.hybrid_tx.proofs.Open.OpenPools.{open_on_device}
use Rattle.hybrid_tx.proofs.Open.PoolPlaces.{are_puddles_in_turn}
use Rattle.daemon_memory.specs.Memory.{ActiveTransaction}
use Rattle.daemon_memory.specs.ActiveTransactions.{open_pool_of, open_transaction_of, IsActive}
use Rattle.daemon_memory.proofs.Commands.Beside.{record_masked}
use Rattle.daemon_memory.proofs.PoolChanges.PoolsBeside.{used_still}

-- ---- masks

-- A word that the wider mask has, and the other mask has not, has the value that is read. Each other word is masked the
-- same.
abbrev pub IsMaskedMore : (mask wide : Write) → Words → ℕ → Type 0
IsMaskedMore mask wide words k = (wide k ≡ mask k) ⊎ ((mask k ≡ None) × (wide k ≡ Some (reads words k)))

-- Under the wider mask a word is the same as under the other, or it has only the value that is read.
wide_cell : (mask wide : Write) (words : Words) (k : ℕ) → IsMaskedMore mask wide words k → (masked wide words k ≡ masked mask words k) ⊎ ((masked mask words k ≡ words k) × (masked wide words k ≡ single (reads words k)))
wide_cell mask wide words k (inl same) = inl (ap (λ (o : Option ℕ). masked_cell o (words k)) same)
wide_cell mask wide words k (inr more) = inr (masked-elsewhere mask words k more.0, masked-there wide words k (reads words k) more.1)

-- Under the wider mask no word has a value that it did not have under the other.
pub masked_more : (mask wide : Write) (words : Words) (k v : ℕ) → IsMaskedMore mask wide words k → Has (values (masked wide words k)) v → Has (values (masked mask words k)) v
masked_more mask wide words k v more had = elim (wide_cell mask wide words k more) [
  | inl same ↦ subst (λ (c : Cell). Has (values c) v) same had
  | inr parts ↦ subst (λ (c : Cell). Has (values c) v) (sym parts.0) (elim (subst (λ (c : Cell). Has (values c) v) parts.1 had) [ inl newest ↦ inl newest | inr none ↦ absurd none ])
]

-- A word that had one value under the first mask has one value under the wider mask.
pub one_more : (mask wide : Write) (words : Words) (k : ℕ) → IsMaskedMore mask wide words k → HasOnly (masked mask words k) (masked mask words k).newest → HasOnly (masked wide words k) (masked wide words k).newest
one_more mask wide words k more one = elim (wide_cell mask wide words k more) [
  | inl same ↦ subst (λ (c : Cell). HasOnly c c.newest) (sym same) one
  | inr parts ↦ subst (λ (c : Cell). HasOnly c c.newest) (sym parts.1) (record { each = λ x had. elim had [ inl e ↦ e | inr none ↦ absurd none ] })
]

-- One open transaction becomes another. Its pool is an open pool, and its records are read as at its beginning. Its
-- masked words are those of the first, with their values, and more words with the values that are read.
pub record OpensAgain (F : ℕ) (first then : OpenTransaction) (words : Words) : Type 0 where
  pub pool : IsOpenPool F then.pool then.before
  pub records : (k : ℕ) → is_open_record then.pool k ≡ true → reads words k ≡ then.before k
  pub more : (k : ℕ) → IsMaskedMore (open_mask F first.pool first.before) (open_mask F then.pool then.before) words k

-- ---- the values of its beginning

-- The own words have the values of the beginning, and the other words have the values that are read.
abbrev pub begun : (F : ℕ) (own : List (ℕ × Puddle)) (before now : Image) → Image
begun F own before now k = cond (pool_has_word F (finished_of own) k) (before k) (now k)

module _ (F : ℕ) (own : List (ℕ × Puddle)) (before now : Image) where
  pub own_begun : (k : ℕ) → pool_has_word F (finished_of own) k ≡ true → begun F own before now k ≡ before k
  own_begun k mine = cond-true _ _ _ mine

  pub other_begun : (k : ℕ) → pool_has_word F (finished_of own) k ≡ false → begun F own before now k ≡ now k
  other_begun k other = cond-false _ _ _ other

  pub table_begun : (k : ℕ) → k < frames_at F → begun F own before now k ≡ now k
  table_begun k below = other_begun k (mine_after F (finished_of own) k below)

  pub tables_begun : tables_of F (begun F own before now) ≡ tables_of F now
  tables_begun = tables_of-same F (begun F own before now) now (λ k low high. table_begun k (omega arith)) (λ k low high. table_begun k (omega arith))

-- ---- its puddles

-- Each puddle that is finished in one list is in the other list, finished.
pub record FinishesMore (own at : List (ℕ × Puddle)) : Type 0 where
  pub each : (i : ℕ) (d : ℕ × Puddle) → slice_get (finished_of own) i ≡ Some d → (j : ℕ) × (slice_get (finished_of at) j ≡ Some d)

module _ (F : ℕ) (own at : List (ℕ × Puddle)) (later : FinishesMore own at) where
  pub mine_later : (k : ℕ) → pool_has_word F (finished_of own) k ≡ true → pool_has_word F (finished_of at) k ≡ true
  mine_later k mine =
      let from = pool_has_word-each F (finished_of own) k mine in
      let to = later.each from.ordinal from.puddle from.there in
      pool_has_word-from F (finished_of at) k (record { ordinal = to.0; puddle = from.puddle; there = to.1; low = from.low; high = from.high })

  pub wider_ground : ArePlacedPuddles F (finished_of own) → ArePlacedPuddles F (finished_of at) → IsWider (pool_scope F (finished_of own)) (pool_scope F (finished_of at))
  wider_ground was placed = record {
    may = λ address count may.
        let n = pool_may_name-named (finished_of own) address count may in
        let to = later.each n.ordinal n.puddle n.there in
        pool_may_name-from (finished_of at) address count (record { ordinal = to.0; puddle = n.puddle; there = to.1; low = n.low; high = n.high; aligned = n.aligned; some = n.some });
    place = λ address count may.
        let n = pool_may_name-named (finished_of own) address count may in
        let to = later.each n.ordinal n.puddle n.there in
        let low = n.low in
        let high = n.high in
        let least = n.some in
        pool_place-there F (finished_of at) to.0 n.puddle address placed.bases to.1 low (omega arith)
        ∙ sym (pool_place-there F (finished_of own) n.ordinal n.puddle address was.bases n.there low (omega arith));
    has_word = mine_later;
  }

-- ---- it is open with more own words

module _ (w : World) (active : ActiveTransaction) (mask : Write) (were words : Words) (is : IsActive w active mask were) (kept : (k : ℕ) → (mask k ≡ None → ⊥) → reads words k ≡ reads were k)
    (at : List (ℕ × Puddle)) (later : FinishesMore is.puddles at) where
  abbrev F : ℕ
  F = w.stored.frames

  abbrev now : Image
  now = reads words

  abbrev p : OpenPool
  p = open_pool_of active is.puddles is.rec is.own.who

  abbrev q : OpenPool
  q = open_pool_of active at is.rec is.own.who

  abbrev before : Image
  before = begun F is.puddles is.before now

  module _ (number : ℕ) (sound : HasSoundTables number (tables_of F now)) (same_pools : (tables_of F now).pools active.slot ≡ (tables_of F (reads were)).pools active.slot)
      (owners : owner_of now active.client ≡ w.clients active.client) (listed : puddles_in_turn (tables_of F now) active.slot ≡ at) where
    owner_there : owner_of before (client_of_log active.log_number) ≡ Some is.own.who
    owner_there =
        let whose = is.own.owner in
        let known = is.pool.known in
        owner_of-same before now (client_of_log active.log_number) (omega arith) (λ k low high. table_begun F is.puddles is.before now k (omega arith))
        ∙ ap (owner_of now) whose
        ∙ owners
        ∙ is.own.present

    its_pool : IsOpenPool F q before
    its_pool = record {
      known = is.pool.known;
      slot = is.pool.slot;
      used = ap (λ (t : Tables). t.pools active.slot) (tables_begun F is.puddles is.before now) ∙ same_pools ∙ used_still w active mask were is;
      puddles = subst (λ (t : Tables). ArePuddlesOf t active.slot (finished_of at)) (sym (tables_begun F is.puddles is.before now))
          (finished_puddles (tables_of F now) active.slot at (subst (λ (ps : List (ℕ × Puddle)). ArePuddlesOf (tables_of F now) active.slot ps) listed (are_puddles_in_turn number (tables_of F now) active.slot sound)));
      owned = owner_there;
      right = is.pool.right;
    }

    record_there : (k : ℕ) → is_open_record q k ≡ true → k < tables_end F
    record_there k of = (open_record_place F q k is.pool.slot is.pool.known (open_on_device F q before its_pool) of).high

    mask_outside : (k : ℕ) → is_in_log (log_number_at F active.log_number) k ≡ false → before k ≡ now k → open_mask F p is.before k ≡ None → IsMaskedMore (open_mask F p is.before) (open_mask F q before) words k
    mask_outside k outside other none = elim (cases_Bool (pool_has_word F (finished_of at) k || is_open_record q k)) [
      | inl own ↦ inr (none, mask_of_own F q before k outside own ∙ ap (λ (v : ℕ). Some v) other)
      | inr not ↦ let parts = or_parts (pool_has_word F (finished_of at) k) (is_open_record q k) not in inl (mask_of_others F q before k outside parts.0 parts.1 ∙ sym none)
    ]

    mask_in_log : (k : ℕ) → is_in_log (log_number_at F active.log_number) k ≡ true → open_mask F q before k ≡ open_mask F p is.before k
    unfolding open_mask
    mask_in_log k inside = cond-true _ _ _ inside ∙ sym (cond-true _ _ _ inside)

    -- A record on which it rested is one on which it still rests.
    record_before : (k : ℕ) → is_open_record p k ≡ true → is_open_record q k ≡ true
    unfolding is_open_record
    record_before k of = elim (or_cases (is_in_pool_record active.slot k || is_in_space_record (client_of_log active.log_number) k) (list_any (is_in_puddle_record k) (finished_of is.puddles)) of) [
      | inl first ↦ or_left _ _ first
      | inr puddle ↦
          let found = any_element (is_in_puddle_record k) (finished_of is.puddles) puddle in
          let to = later.each found.index found.element found.there in
          or_right (is_in_pool_record active.slot k || is_in_space_record (client_of_log active.log_number) k) _ (element_passes (is_in_puddle_record k) (finished_of at) to.0 found.element to.1 found.passes)
    ]

    mask_then : (k : ℕ) → IsMaskedMore (open_mask F p is.before) (open_mask F q before) words k
    mask_then k = elim (cases_Bool (is_in_log (log_number_at F active.log_number) k)) [
      | inl inside ↦ inl (mask_in_log k inside)
      | inr outside ↦ elim (cases_Bool (pool_has_word F (finished_of is.puddles) k)) [
        | inl own ↦
            inl (mask_of_mine F q before k is.pool.known (mine_later F is.puddles at later k own) ∙ ap (λ (v : ℕ). Some v) (own_begun F is.puddles is.before now k own) ∙ sym (mask_of_mine F p is.before k is.pool.known own))
        | inr other ↦ elim (cases_Bool (is_open_record p k)) [
          | inl of ↦
              let below = record_there k (record_before k of) in
              inl (mask_of_record F q before k below (record_before k of)
              ∙ ap (λ (v : ℕ). Some v) (table_begun F is.puddles is.before now k (omega (arith, below)) ∙ kept k (record_masked w active mask were is k of) ∙ is.records k of)
              ∙ sym (mask_of_record F p is.before k below of))
          | inr not ↦ mask_outside k outside (other_begun F is.puddles is.before now k other) (mask_of_others F p is.before k outside other not)
        ]
      ]
    ]

    pub comes_open : OpensAgain F (open_transaction_of active is.puddles is.rec is.own.who is.before) (open_transaction_of active at is.rec is.own.who before) words
    comes_open = record {
      pool = its_pool;
      records = λ k of. let below = record_there k of in sym (table_begun F is.puddles is.before now k (omega (arith, below)));
      more = mask_then;
    }
