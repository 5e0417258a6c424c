-- Which words a transaction's mask has, and with which values.
use Rattle.std.proofs.Common.{◌≡◌, ◌⊎◌, inl, inr, ℕ, ◌+◌, ◌<◌, ◌≤◌, Bool, true, false, ◌||◌, leb, ltb, eqb, cond, List, Some, None, refl, sym, ap, ◌∙◌, arith, eq-eqb}
use Rattle.std.specs.List.{list_any}
use Rattle.std.proofs.lemmas.Bool.{cases_Bool, cond-true, cond-false, and_parts, or_cases, or_left, or_right, leb-true, ltb-true, and_from, le-leb, lt-ltb}
use Rattle.std.proofs.lemmas.Option.{cond_some}
use Rattle.pud_defs.specs.declared.layout.TheConstants.{DAEMON_LOG, POOL_TABLE}
use Rattle.pud_defs.specs.declared.log_words.TheConstants.{CLOSED_GATE}
use Rattle.pud_defs.specs.declared.records.TheConstants.{POOL_RECORDS}
use Rattle.pud_defs.specs.declared.records.Puddle.{Puddle}
use Rattle.pud_defs.specs.Formats.Image.{Image}
use Rattle.pud_defs.specs.Formats.Layout.{tables_end, frames_at}
use Rattle.pud_defs.specs.RegistryTables.Pools.{pool_record_at}
use Rattle.pud_defs.specs.RegistryTables.Puddles.{puddle_record_at}
use Rattle.pud_defs.specs.Logging.Replay.{is_in_log}
use Rattle.pud_defs.specs.Logging.Settled.{ALL_LOGS, client_of_log, log_number_at}
use Rattle.pud_defs.specs.RegistryTables.Spaces.{space_record_at}
use Rattle.pud_defs.specs.PoolGraphs.Stored.{IsOnDevice}
use Rattle.pud_defs.proofs.Logging.Masked.{IsBesideLog}
use Rattle.pud_defs.proofs.Logging.Replay.{outside_log}
use Rattle.hybrid_tx.specs.PoolScopes.{pool_has_word, finished_of}
use Rattle.hybrid_tx.specs.Open.Masks.{OpenPool, is_in_pool_record, is_in_space_record, is_in_puddle_record, is_open_record, open_mask}
use Rattle.hybrid_tx.proofs.PoolScope.{any_element, all_there, pool_has_word-each}

not_so : (b : Bool) → (b ≡ true → ⊥) → b ≡ false
not_so true never = absurd (never refl)
not_so false never = refl

-- ---- where its words lie

-- no word before the frames is one of a frame
pub mine_after : (F : ℕ) (at : List (ℕ × Puddle)) (k : ℕ) → k < frames_at F → pool_has_word F at k ≡ false
mine_after F at k below = not_so (pool_has_word F at k) (λ mine. let m = pool_has_word-each F at k mine in let low = m.low in absurd (omega arith))

-- the word lies in the tables, from the pool table on
pub record IsOpenRecord (F k : ℕ) : Type 0 where
  pub low : POOL_TABLE ≤ k
  pub high : k < tables_end F

-- a word of a record lies there
pub open_record_place : (F : ℕ) (p : OpenPool) (k : ℕ) → p.slot < POOL_RECORDS → p.log_number < ALL_LOGS → IsOnDevice F (finished_of p.puddles) → is_open_record p k ≡ true → IsOpenRecord F k
unfolding is_open_record
open_record_place F p k slot known on_device is =
    elim (or_cases (is_in_pool_record p.slot k || is_in_space_record (client_of_log p.log_number) k) (list_any (is_in_puddle_record k) (finished_of p.puddles)) is) [
      | inl first ↦ elim (or_cases (is_in_pool_record p.slot k) (is_in_space_record (client_of_log p.log_number) k) first) [
        | inl pool ↦
            let parts = and_parts (leb (pool_record_at p.slot) k) (ltb k (pool_record_at (p.slot + 1))) pool in
            let low = leb-true _ _ parts.0 in
            let high = ltb-true _ _ parts.1 in
            record { low = omega arith; high = omega arith }
        | inr space ↦
            let parts = and_parts (leb (space_record_at (client_of_log p.log_number)) k) (ltb k (space_record_at (client_of_log p.log_number + 1))) space in
            let low = leb-true _ _ parts.0 in
            let high = ltb-true _ _ parts.1 in
            record { low = omega arith; high = omega arith }
      ]
      | inr puddle ↦
          let found = any_element (is_in_puddle_record k) (finished_of p.puddles) puddle in
          let frame = all_there (λ (e : ℕ × Puddle). e.0 < F) (finished_of p.puddles) found.index found.element on_device.frames found.there in
          let parts = and_parts (leb (puddle_record_at found.element.0) k) (ltb k (puddle_record_at (found.element.0 + 1))) found.passes in
          let low = leb-true _ _ parts.0 in
          let high = ltb-true _ _ parts.1 in
          record { low = omega arith; high = omega arith }
    ]

-- ---- the values of its words

module _ (F : ℕ) (p : OpenPool) (before : Image) where
  own_same : (after : Image) (k : ℕ) → ((pool_has_word F (finished_of p.puddles) k || is_open_record p k) ≡ true → after k ≡ before k) → (b : Bool) → (pool_has_word F (finished_of p.puddles) k || is_open_record p k) ≡ b
      → cond b (Some (after k)) None ≡ cond b (Some (before k)) None
  own_same after k same true own = ap (λ (v : ℕ). Some v) (same own)
  own_same after k same false own = refl

  pub mask_of_own : (k : ℕ) → is_in_log (log_number_at F p.log_number) k ≡ false → (pool_has_word F (finished_of p.puddles) k || is_open_record p k) ≡ true → open_mask F p before k ≡ Some (before k)
  unfolding open_mask
  mask_of_own k outside own = cond-false _ _ _ outside ∙ cond-true _ _ _ own

  pub mask_of_mine : (k : ℕ) → p.log_number < ALL_LOGS → pool_has_word F (finished_of p.puddles) k ≡ true → open_mask F p before k ≡ Some (before k)
  mask_of_mine k known mine =
      let m = pool_has_word-each F (finished_of p.puddles) k mine in
      let low = m.low in
      mask_of_own k (outside_log (log_number_at F p.log_number) k (inr (omega arith))) (or_left _ _ mine)

  pub mask_of_record : (k : ℕ) → k < tables_end F → is_open_record p k ≡ true → open_mask F p before k ≡ Some (before k)
  mask_of_record k below is = mask_of_own k (outside_log (log_number_at F p.log_number) k (inl (omega arith))) (or_right (pool_has_word F (finished_of p.puddles) k) _ is)

  pub mask_of_others : (k : ℕ) → is_in_log (log_number_at F p.log_number) k ≡ false → pool_has_word F (finished_of p.puddles) k ≡ false → is_open_record p k ≡ false → open_mask F p before k ≡ None
  unfolding open_mask
  mask_of_others k outside others beside = cond-false _ _ _ outside ∙ cond-false _ _ _ (ap (λ (b : Bool). b || is_open_record p k) others ∙ beside)

  pub mask_of_log : (k : ℕ) → is_in_log (log_number_at F p.log_number) k ≡ true → (v : ℕ) × (open_mask F p before k ≡ Some v)
  unfolding open_mask
  mask_of_log k inside = (cond (eqb k (log_number_at F p.log_number)) CLOSED_GATE 0, cond-true _ _ _ inside)

  pub mask_of_gate : open_mask F p before (log_number_at F p.log_number) ≡ Some CLOSED_GATE
  unfolding open_mask
  mask_of_gate =
      cond-true _ _ _ (and_from (leb (log_number_at F p.log_number) (log_number_at F p.log_number)) _ (le-leb _ _ (omega arith)) (lt-ltb _ _ (omega arith)))
      ∙ ap (λ (v : ℕ). Some v) (cond-true _ _ _ (eq-eqb (log_number_at F p.log_number) (log_number_at F p.log_number) refl))

  -- a masked word is one of the log, or one of the frames or of a record with its value from the beginning
  pub mask_cases : (k v : ℕ) → open_mask F p before k ≡ Some v
      → (is_in_log (log_number_at F p.log_number) k ≡ true) ⊎ (((pool_has_word F (finished_of p.puddles) k || is_open_record p k) ≡ true) × (before k ≡ v))
  unfolding open_mask
  mask_cases k v is = elim (cases_Bool (is_in_log (log_number_at F p.log_number) k)) [
    | inl inside ↦ inl inside
    | inr outside ↦ inr (cond_some (pool_has_word F (finished_of p.puddles) k || is_open_record p k) (before k) v (sym (cond-false _ _ _ outside) ∙ is))
  ]

  -- the mask depends only on the values of the words of frames and records
  pub open_mask-same : (after : Image) (k : ℕ) → ((pool_has_word F (finished_of p.puddles) k || is_open_record p k) ≡ true → after k ≡ before k) → open_mask F p after k ≡ open_mask F p before k
  unfolding open_mask
  open_mask-same after k same = elim (cases_Bool (is_in_log (log_number_at F p.log_number) k)) [
    | inl inside ↦ cond-true _ _ _ inside ∙ sym (cond-true _ _ _ inside)
    | inr outside ↦ cond-false _ _ _ outside ∙ own_same after k same (pool_has_word F (finished_of p.puddles) k || is_open_record p k) refl ∙ sym (cond-false _ _ _ outside)
  ]

  module _ (slot : p.slot < POOL_RECORDS) (known : p.log_number < ALL_LOGS) (on_device : IsOnDevice F (finished_of p.puddles)) where
    -- no word before the pool table is masked
    pub mask_below : (k : ℕ) → k < POOL_TABLE → open_mask F p before k ≡ None
    mask_below k below =
        mask_of_others k (outside_log (log_number_at F p.log_number) k (inl (omega arith))) (mine_after F (finished_of p.puddles) k (omega arith))
        (not_so (is_open_record p k) (λ is. let place = open_record_place F p k slot known on_device is in let low = place.low in absurd (omega arith)))

    -- no word of the daemon log is masked
    pub mask_beside_daemon : IsBesideLog DAEMON_LOG (open_mask F p before)
    mask_beside_daemon = record { each = λ k inside. let high = inside.high in mask_below k (omega arith) }
