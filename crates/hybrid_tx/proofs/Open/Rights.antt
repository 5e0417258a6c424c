-- The log of a transaction on a pool is allowed if its client may write the pool.
use Rattle.std.proofs.Common.{◌≡◌, inl, inr, ℕ, ◌+◌, ◌-◌, ◌/◌, ◌%◌, ◌≤◌, true, not, ◌||◌, leb, eqb, List, [], ◌∷◌, length, Some, refl, ap, ◌∙◌, arith, ne_eqb, eq-eqb}
use Rattle.std.specs.Prelude.{All}
use Rattle.std.specs.List.{list_all}
use Rattle.std.proofs.lemmas.Bool.{cases_Bool, and_from, or_left, or_right, le-leb}
use Rattle.std.proofs.lemmas.List.Elements.{All-head, All-tail}
use Rattle.pud_defs.specs.declared.layout.TheConstants.{FRAME_WORDS}
use Rattle.pud_defs.specs.declared.space.TheConstants.{WORD_BYTES}
use Rattle.pud_defs.specs.declared.records.PoolRecord.{PoolRecord}
use Rattle.pud_defs.specs.declared.records.Puddle.{Puddle}
use Rattle.pud_defs.specs.Logging.Allowed.{may_write_record, may_write_puddle, are_writable, is_allowed_entry, are_allowed_entries, is_allowed_log}
use Rattle.pud_defs.specs.Logging.Entries.{Entry, Log}
use Rattle.pud_defs.specs.RegistryTables.Places.{located}
use Rattle.pud_defs.specs.Logging.Replay.{is_in_range}
use Rattle.pud_defs.specs.Formats.Rights.{may_write}
use Rattle.pud_defs.specs.RegistryTables.SoundTables.{HasSoundTables}
use Rattle.pud_defs.specs.RegistryTables.Spaces.{Owner, owner}
use Rattle.pud_defs.specs.RegistryTables.Tables.{Tables}
use Rattle.hybrid_tx.specs.PoolScopes.{pool_scope}
use Rattle.hybrid_tx.specs.Open.Masks.{IsPuddleOf, ArePuddlesOf}
use Rattle.hybrid_tx.proofs.PoolScope.{IsNamed, pool_may_name-named}
use Rattle.hybrid_tx.proofs.Open.OwnEntries.{IsOwnInRange}
use Rattle.pud_defs.proofs.RegistryTables.PoolMembers.{located_of_member}
use Rattle.hybrid_tx.proofs.Open.PoolPlaces.{as_member}

-- The slot has a pool, and the mode of the pool lets this owner write it.
pub record MayWritePool (t : Tables) (slot : ℕ) (who : Owner) : Type 0 where
  pub rec : PoolRecord
  pub used : t.pools slot ≡ Some rec
  pub right : may_write rec.mode (owner rec.uid rec.gid) who ≡ true

module _ (next : ℕ) (t : Tables) (sound : HasSoundTables next t) (slot : ℕ) (at : List (ℕ × Puddle)) (are : ArePuddlesOf t slot at) (who : Owner) (may : MayWritePool t slot who) where
  -- so the owner may write each puddle of the pool
  may_write_one : (e : ℕ × Puddle) → IsPuddleOf t slot e → may_write_puddle t who (t.puddles e.0) ≡ true
  may_write_one e is =
      let pool = is.pool in
      let here : is.member.pool - 1 ≡ slot = omega arith in
      ap (may_write_puddle t who) is.used
      ∙ and_from (not (eqb is.member.pool 0)) (may_write_record who (t.pools (is.member.pool - 1)))
      (ap not (ne_eqb is.member.pool 0 (λ none. absurd (omega arith))))
      (ap (λ (s : ℕ). may_write_record who (t.pools s)) here ∙ ap (may_write_record who) may.used ∙ may.right)

  allowed_named : (e : Entry) → IsNamed at e.address (length e.vals) → is_allowed_entry t who e ≡ true
  allowed_named e named =
      let d = named.puddle in
      let is = are.each named.ordinal d named.there in
      let low = named.low in
      let high = named.high in
      let some = named.some in
      and_from (eqb (e.address % WORD_BYTES) 0) (are_writable t who (length e.vals) (located t e.address)) (eq-eqb (e.address % WORD_BYTES) 0 named.aligned)
      (ap (are_writable t who (length e.vals)) (located_of_member next t sound slot is.member.ordinal d (as_member t slot d is) e.address low (omega arith))
      ∙ and_from (leb ((e.address - d.1.base) / WORD_BYTES + length e.vals) FRAME_WORDS) (may_write_puddle t who (t.puddles d.0))
      (le-leb _ _ (let few : (e.address - d.1.base) / WORD_BYTES + length e.vals ≤ FRAME_WORDS = omega arith in few))
      (may_write_one d is))

  all_own_allowed : (F : ℕ) (log : Log) (es : List Entry) → All (IsOwnInRange (pool_scope F at) log) es → list_all (λ e. not (is_in_range log e) || is_allowed_entry t who e) es ≡ true
  all_own_allowed F log [] own = refl
  all_own_allowed F log (e ∷ es) own =
      and_from _ _
      (elim (cases_Bool (is_in_range log e)) [
        | inl inside ↦ or_right (not (is_in_range log e)) _ (allowed_named e (pool_may_name-named at e.address (length e.vals) (All-head (IsOwnInRange (pool_scope F at) log) e es own inside).may))
        | inr out ↦ or_left (not (is_in_range log e)) _ (ap not out)
      ])
      (all_own_allowed F log es (All-tail (IsOwnInRange (pool_scope F at) log) e es own))

  -- and a log is allowed if its entries in range are the transaction's
  pub own_log_allowed : (F : ℕ) (log : Log) (es : List Entry) → log.entries ≡ Some es → All (IsOwnInRange (pool_scope F at) log) es → is_allowed_log t who log ≡ true
  unfolding is_allowed_log
  own_log_allowed F log es spells own = ap (are_allowed_entries t who log) spells ∙ all_own_allowed F log es own
