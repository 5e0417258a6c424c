-- The session on a pool whose record was found in a slot, and the transaction that is open on that pool.
use Rattle.std.proofs.Common.{◌≡◌, ◌≢◌, inl, inr, ℕ, ◌<◌, List, Option, Some, None, option_map, refl, sym, ap, ◌∙◌, arith}
use Rattle.std.specs.Cmp.Lexicographic.{nat_list_cmp_total}
use Rattle.std.specs.FinMap.Entries.{find}
use Rattle.std.proofs.lemmas.Bool.{cases_lt}
use Rattle.std.proofs.lemmas.Option.{none-some, same_Some}
use Rattle.pm_model.specs.Words.{Words, reads}
use Rattle.pm_model.specs.Changes.{Write}
use Rattle.pm_model.specs.Moments.{State}
use Rattle.pud_defs.specs.declared.records.PoolRecord.{PoolRecord}
use Rattle.pud_defs.specs.declared.records.TheConstants.{POOL_RECORDS}
use Rattle.pud_defs.specs.Formats.Image.{Image}
use Rattle.pud_defs.specs.Formats.Names.{name_cmp}
use Rattle.pud_defs.specs.RegistryTables.SoundTables.{has_distinct_names, HasSoundTables}
use Rattle.pud_defs.specs.RegistryTables.Tables.{Tables, tables_of, named, records_of}
use Rattle.pud_defs.specs.StateMachine.World.{Transaction, World, open_on}
use Rattle.pud_defs.proofs.KeyedTables.Keyed.{HasDistinctKeys, distinct_keys, find-keyed_place}
use Rattle.pud_defs.proofs.RegistryTables.TablesOf.{pools_beyond}
use Rattle.nesting.specs.declared.Session.{Session}
use Rattle.nesting.specs.Sessions.{session_client, session_in, holder_in}
use Rattle.daemon_memory.specs.Memory.{ActiveTransaction, Memory, active_under}
use Rattle.daemon_memory.specs.ActiveTransactions.{AreActive, session_of, HasSessions}
use Rattle.daemon_memory.specs.OwnOnPool.{IsOwnTransactionOn}
use Rattle.daemon_memory.specs.Owning.{IsRecordSlot}
use Rattle.daemon_memory.specs.Ready.{IsReady}
use Rattle.daemon_memory.proofs.Commands.Beside.{active_is}
use Rattle.daemon_memory.proofs.PoolChanges.PoolsBeside.{used_still}
use Rattle.daemon_memory.proofs.PoolChanges.TablesBeside.{sound_read}

-- The session in the slot belongs to a transaction on the pool of the name, which is active under the session's number.
pub record IsSessionOf (w : World) (all : List (Option ActiveTransaction)) (name : List ℕ) (slot : ℕ) (session : Session) : Type 0 where
  pub active : ActiveTransaction
  pub is : active_under all session.log_number ≡ Some active
  pub slot_is : active.slot ≡ slot
  pub name_is : active.name ≡ name
  pub transaction : Transaction
  pub there : open_on name w ≡ Some transaction
  pub session_is : session ≡ session_of session.log_number transaction
  pub client : transaction.client ≡ active.client

-- If the session is the client's, so is the transaction.
pub own_on : (w : World) (active : List (Option ActiveTransaction)) (client : ℕ) (name : List ℕ) (slot : ℕ) (session : Session) (of : IsSessionOf w active name slot session) → session.client ≡ client
    → IsOwnTransactionOn client name slot session.log_number active
own_on w active client name slot session of whose = record {
  own = record { active = of.active; is = of.is; whose = sym of.client ∙ sym (ap session_client of.session_is) ∙ whose; pool = of.name_is };
  slot_is = of.slot_is;
}

-- ---- which pools they are

-- A slot whose record is used is one of the table's.
pub slot_within : (F slot : ℕ) (image : Image) (r : PoolRecord) → (tables_of F image).pools slot ≡ Some r → slot < POOL_RECORDS
slot_within F slot image r used = elim (cases_lt slot POOL_RECORDS) [
  | inl within ↦ within
  | inr beyond ↦ absurd (none-some r (sym (pools_beyond F image slot beyond) ∙ used))
]

module _ (next : ℕ) (t : Tables) (sound : HasSoundTables next t) where
  distinct : HasDistinctKeys name_cmp (named t) 0 POOL_RECORDS
  unfolding has_distinct_names
  distinct = distinct_keys name_cmp (named t) 0 POOL_RECORDS sound.names

  -- In sound tables a record is found under its name.
  found_at : (slot : ℕ) (r : PoolRecord) → slot < POOL_RECORDS → t.pools slot ≡ Some r → find name_cmp r.name (records_of t) ≡ Some (slot, r)
  unfolding records_of
  found_at slot r within used =
      find-keyed_place name_cmp nat_list_cmp_total (named t) 0 POOL_RECORDS slot (r.name, (slot, r)) distinct (omega arith) (omega arith) (ap (option_map (λ (x : PoolRecord). (x.name, (slot, x)))) used)

  -- So no two records have the same name.
  pub slot_by_name : (i j : ℕ) (r q : PoolRecord) → i < POOL_RECORDS → j < POOL_RECORDS → t.pools i ≡ Some r → t.pools j ≡ Some q → r.name ≡ q.name → i ≡ j
  slot_by_name i j r q low high here there same =
      let both : ◌≡◌ {A = Option (ℕ × PoolRecord)} (Some (i, r)) (Some (j, q)) =
      sym (found_at i r low here) ∙ ap (λ (n : List ℕ). find name_cmp n (records_of t)) same ∙ found_at j q high there in
      ap (λ (p : ℕ × PoolRecord). p.0) (same_Some {A = ℕ × PoolRecord} (i, r) (j, q) both)

module _ (w : World) (active : List (Option ActiveTransaction)) (mask : Write) (words : Words) (holds : AreActive w active mask words) where
  abbrev F : ℕ
  F = w.stored.frames

  abbrev t : Tables
  t = tables_of F (reads words)

  -- ---- the session of one transaction

  module _ (sessions : List (Option Session)) (has : HasSessions w active sessions) where
    pub session_active : (number : ℕ) (h : ActiveTransaction) (there : active_under active number ≡ Some h) → session_in sessions h.slot ≡ Some (session_of number (active_is w active mask words holds number h there).own.transaction)
    session_active number h there =
        let is = active_is w active mask words holds number h there in
        has.each number h is.own.transaction there is.own.is

    -- No transaction is active on a pool that has no session.
    pub none_active : (slot : ℕ) → session_in sessions slot ≡ None → (number : ℕ) (h : ActiveTransaction) → active_under active number ≡ Some h → h.slot ≢ slot
    none_active slot none number h there same =
        none-some (session_of number (active_is w active mask words holds number h there).own.transaction) (sym none ∙ ap (session_in sessions) (sym same) ∙ session_active number h there)

    -- The session on the pool of a name belongs to the transaction that is open on it.
    pub session_there : (name : List ℕ) (slot : ℕ) (r : PoolRecord) (s : Session) → t.pools slot ≡ Some r → r.name ≡ name → session_in sessions slot ≡ Some s → IsSessionOf w active name slot s
    session_there name slot r s used named there =
        let on = has.only slot s there in
        let is = active_is w active mask words holds s.log_number on.active on.is in
        let rec : is.rec ≡ r = same_Some is.rec r (sym (used_still w on.active mask words is) ∙ ap t.pools on.slot_is ∙ used) in
        let same : on.active.name ≡ name = sym is.name ∙ ap (λ (x : PoolRecord). x.name) rec ∙ named in
        record {
          active = on.active;
          is = on.is;
          slot_is = on.slot_is;
          name_is = same;
          transaction = is.own.transaction;
          there = ap w.transactions (sym same) ∙ is.own.is;
          session_is = same_Some s (session_of s.log_number is.own.transaction) (sym there ∙ ap (session_in sessions) (sym on.slot_is) ∙ session_active s.log_number on.active on.is);
          client = is.own.client;
        }

    shut_by : (next : ℕ) → HasSoundTables next t → (name : List ℕ) (slot : ℕ) (r : PoolRecord) → t.pools slot ≡ Some r → r.name ≡ name → session_in sessions slot ≡ None
        → (o : Option Transaction) → open_on name w ≡ o → o ≡ None
    shut_by next sound name slot r used named none None e = refl
    shut_by next sound name slot r used named none (Some x) e =
        let under = holds.known name x e in
        let is = active_is w active mask words holds under.number under.active under.is in
        let there = used_still w under.active mask words is in
        let here : under.active.slot ≡ slot =
        slot_by_name next t sound under.active.slot slot is.rec r is.pool.slot (slot_within F slot (reads words) r used) there used (is.name ∙ under.name_is ∙ sym named) in
        absurd (none_active slot none under.number under.active under.is here)

    -- No transaction is open on a pool that has no session.
    pub no_session : (next : ℕ) → HasSoundTables next t → (name : List ℕ) (slot : ℕ) (r : PoolRecord) → t.pools slot ≡ Some r → r.name ≡ name → session_in sessions slot ≡ None → open_on name w ≡ None
    no_session next sound name slot r used named none = shut_by next sound name slot r used named none (open_on name w) refl

-- ---- a daemon that is ready

module _ (size : ℕ) (w : World) (memory : Memory) (s : State) (ready : IsReady size w memory s) (name : List ℕ) (slot : ℕ) (at : IsRecordSlot w.stored.frames name (reads s.now.words) slot) where
  -- The session in the slot of the pool of the name belongs to that pool's transaction.
  pub session_open : (session : Session) → session_in memory.sessions slot ≡ Some session → IsSessionOf w memory.active name slot session
  session_open session there = session_there w memory.active ready.mask s.now.words ready.active memory.sessions ready.sessions name slot at.rec session at.used at.name_is there

  -- If there is no session, no transaction is open.
  pub session_shut : session_in memory.sessions slot ≡ None → open_on name w ≡ None
  session_shut none =
      no_session w memory.active ready.mask s.now.words ready.active memory.sessions ready.sessions w.stored.next_number (sound_read size w memory s ready) name slot at.rec at.used at.name_is none

  holder_by : (o : Option Session) → session_in memory.sessions slot ≡ o → holder_in memory.sessions slot ≡ option_map (λ t. t.client) (open_on name w)
  holder_by None e = ap (option_map session_client) e ∙ ap (option_map (λ (t : Transaction). t.client)) (sym (session_shut e))
  holder_by (Some session) e =
      let of = session_open session e in
      ap (option_map session_client) e ∙ ap (λ (x : Session). Some x.client) of.session_is ∙ ap (option_map (λ (t : Transaction). t.client)) (sym of.there)

  -- So the sessions tell whose transaction is open on the pool.
  pub holder_is : holder_in memory.sessions slot ≡ option_map (λ t. t.client) (open_on name w)
  holder_is = holder_by (session_in memory.sessions slot) refl
