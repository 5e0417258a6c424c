-- How many transactions a client has open: as many as it has sessions. If it has fewer sessions than logs, one of its
-- logs is closed.
use Rattle.std.proofs.Common.{◌≡◌, inl, inr, ℕ, zero, suc, ◌+◌, ◌*◌, ◌/◌, ◌%◌, ◌<◌, ◌≤◌, Bool, true, false, not, cond, ◌&&◌, ◌||◌, eqb, bytes_eq, List, length, get_or, drop, set, sum_by, Option, Some, None, option_map, refl, sym, ap, ap₂, ◌∙◌, arith, eq-eqb}
use Rattle.std.specs.Cmp.Lexicographic.{nat_list_cmp_total}
use Rattle.std.proofs.lemmas.Bool.{cases_lt, and_parts}
use Rattle.std.proofs.lemmas.List.{drop_all, get_or_past, get_or-set_other}
use Rattle.std.proofs.lemmas.List.Sums.{sum_by-drop_more}
use Rattle.std.proofs.lemmas.Option.{none-some, same_Some}
use Rattle.std.proofs.lemmas.Slice.Eq.{bytes_eq-Decides}
use Rattle.pm_model.specs.Masks.{masked}
use Rattle.pm_model.specs.Moments.{State}
use Rattle.pm_model.specs.Words.{Words, reads}
use Rattle.pm_model.proofs.Masks.{reads-masked, masked_image-elsewhere}
use Rattle.pud_defs.specs.declared.layout.TheConstants.{CLIENTS, CLIENT_LOGS}
use Rattle.pud_defs.specs.declared.records.TheConstants.{POOL_RECORDS}
use Rattle.pud_defs.specs.declared.records.PoolRecord.{PoolRecord}
use Rattle.pud_defs.specs.Logging.Entries.{Log, gate_lo, gate_hi}
use Rattle.pud_defs.specs.PoolGraphs.Holdings.{holding_in}
use Rattle.pud_defs.specs.Formats.Image.{Image}
use Rattle.pud_defs.specs.Formats.Layout.{log_at}
use Rattle.pud_defs.specs.Formats.Names.{name_cmp}
use Rattle.pud_defs.specs.Logging.Settled.{ALL_LOGS, client_of_log, log_number_at}
use Rattle.pud_defs.specs.RegistryTables.Spaces.{Owner, owner_of, is_closed_range, is_closed_log, are_closed_logs}
use Rattle.pud_defs.specs.StateMachine.Step.{open_elsewhere}
use Rattle.pud_defs.specs.RegistryTables.Tables.{Tables, Pool, Reader, tables_of, puddles_of, entries, pools_of}
use Rattle.pud_defs.specs.StateMachine.Transactions.{is_own}
use Rattle.pud_defs.specs.StateMachine.World.{Transaction, World, open_on}
use Rattle.pud_defs.proofs.Logging.Idle.{registered_is_closed}
use Rattle.pud_defs.proofs.StateMachine.Parts.Part.{Spaces}
use Rattle.pud_defs.proofs.RegistryTables.PoolsChanged.{entry_of, distinct_entries}
use Rattle.pud_defs.proofs.RegistryTables.PoolsCounted.{sum_places, sum_places-same, worth, sum-keyed}
use Rattle.pud_defs.proofs.RegistryTables.SoundChanged.{distinct_names}
use Rattle.pud_defs.proofs.RegistryTables.Spaces.{is_closed_log-same}
use Rattle.hybrid_tx.proofs.Open.ManyMasks.{masks_beside_log}
use Rattle.log_space.specs.FreeLogs.{first_from, first_closed, log_number, IsLogOf}
use Rattle.log_space.proofs.FirstFrom.{first_from-found, first_from-each}
use Rattle.nesting.specs.declared.Session.{Session}
use Rattle.nesting.specs.Sessions.{session_client, session_in, is_of_client, count_of}
use Rattle.nesting.proofs.Counts.{count_of-set_fewer}
use Rattle.daemon_memory.specs.Memory.{ActiveTransaction, Memory, active_under}
use Rattle.daemon_memory.specs.Ready.{IsReady}
use Rattle.daemon_memory.proofs.Commands.Beside.{active_is}
use Rattle.daemon_memory.proofs.PoolChanges.PoolsBeside.{one_slot, active_pool}
use Rattle.daemon_memory.proofs.OpenTransactions.Sessions.{session_active, holder_is}
use Rattle.daemon_memory.proofs.PoolChanges.TablesBeside.{standing, pools_read, sound_read, owner_under}

-- ---- a list and its places

module _ {A : Type 0} (f : A → ℕ) (xs : List A) (d : A) where
  -- A sum over a list is a sum over its places.
  sum_from : (count from : ℕ) → from + count ≡ length xs → sum_by f (drop from xs) ≡ sum_places (λ j. f (get_or xs j d)) from count
  unfolding sum_places
  sum_from zero from all = ap (sum_by f) (drop_all from xs (omega arith))
  sum_from (suc count) from all = sum_by-drop_more f xs from d (omega arith) ∙ ap (λ (n : ℕ). f (get_or xs from d) + n) (sum_from count (from + 1) (omega arith))

-- ---- as many transactions as sessions

abbrev number_of : Bool → ℕ
number_of b = cond b 1 0

same_owner : (client : ℕ) (s : Option Session) (o : Option Transaction) → option_map session_client s ≡ option_map (λ (t : Transaction). t.client) o → is_of_client client s ≡ is_own client o
same_owner client None None e = refl
same_owner client None (Some t) e = absurd (none-some t.client e)
same_owner client (Some s) None e = absurd (none-some s.client (sym e))
same_owner client (Some s) (Some t) e = ap (λ (n : ℕ). eqb n client) (same_Some s.client t.client e)

module _ (size : ℕ) (w : World) (memory : Memory) (s : State) (ready : IsReady size w memory s) (client : ℕ) (name : List ℕ) (shut : open_on name w ≡ None) where
  abbrev F : ℕ
  F = w.stored.frames

  abbrev t : Tables
  t = tables_of F (reads s.now.words)

  abbrev hold : Reader
  hold = holding_in w.stored.types F (reads (masked ready.mask s.now.words))

  -- What a pool adds to the count.
  abbrev counts : List ℕ × Pool → ℕ
  counts e = number_of (not (bytes_eq e.0 name) && is_own client (open_on e.0 w))

  abbrev session : (slot : ℕ) → Option Session
  session slot = session_in memory.sessions slot

  -- No transaction is open on the pool of the name, so leaving out that pool changes no count.
  own_elsewhere : (other : List ℕ) (here : Bool) → bytes_eq other name ≡ here → (not here && is_own client (open_on other w)) ≡ is_own client (open_on other w)
  own_elsewhere other true e = sym (ap (λ (n : List ℕ). is_own client (open_on n w)) ((bytes_eq-Decides other name).0 e) ∙ ap (is_own client) shut)
  own_elsewhere other false e = refl

  -- A slot without a pool has no session of the client.
  free_slot : (slot : ℕ) (o : Option Session) → t.pools slot ≡ None → session slot ≡ o → is_of_client client o ≡ false
  free_slot slot None free e = refl
  free_slot slot (Some x) free e =
      let on = ready.sessions.only slot x e in
      let pool = active_pool w memory.active ready.mask s.now.words ready.active x.log_number on.active on.is in
      absurd (none-some pool.rec (sym free ∙ ap t.pools (sym on.slot_is) ∙ pool.used))

  each_slot : (slot : ℕ) (r : Option PoolRecord) → t.pools slot ≡ r → worth name_cmp counts (entry_of hold (puddles_of t slot) r) ≡ number_of (is_of_client client (session slot))
  each_slot slot None free = ap number_of (sym (free_slot slot (session slot) free refl))
  each_slot slot (Some r) used =
      let here = holder_is size w memory s ready r.name slot (record { rec = r; used = used; name_is = refl }) in
      ap number_of (own_elsewhere r.name (bytes_eq r.name name) refl ∙ sym (same_owner client (session slot) (open_on r.name w) here))

  -- So the client has as many sessions as it has transactions on other pools.
  pub counted : length memory.sessions ≡ POOL_RECORDS → open_elsewhere w client name ≡ count_of client memory.sessions
  unfolding pools_of
  counted slots =
      let sound = sound_read size w memory s ready in
      ap (sum_by counts) (sym (pools_read size w memory s ready))
      ∙ sum-keyed name_cmp counts nat_list_cmp_total (entries hold t) 0 POOL_RECORDS (distinct_entries hold t (distinct_names w.stored.next_number t sound))
      ∙ sum_places-same (λ j. worth name_cmp counts (entries hold t j)) (λ j. number_of (is_of_client client (session j))) 0 POOL_RECORDS (λ j low high. each_slot j (t.pools j) refl)
      ∙ sym (sum_from (λ (o : Option Session). number_of (is_of_client client o)) memory.sessions None POOL_RECORDS 0 (sym slots))

-- ---- one transaction in each log

-- If this many different slots have a session of the client, the client has at least this many sessions.
each_counted : (client n : ℕ) (at : ℕ → ℕ) (sessions : List (Option Session)) → ((j : ℕ) → j < n → is_of_client client (session_in sessions (at j)) ≡ true)
    → ((i j : ℕ) → i < n → j < n → at i ≡ at j → i ≡ j) → n ≤ count_of client sessions
each_counted client zero at sessions own apart = omega arith
each_counted client (suc n) at sessions own apart =
    let here = own n (omega arith) in
    let within : at n < length sessions = elim (cases_lt (at n) (length sessions)) [
      | inl low ↦ low
      | inr past ↦ absurd (let it : true ≡ false = sym here ∙ ap (is_of_client client) (get_or_past sessions (at n) None past) in cc)
    ] in
    let rest = each_counted client n at (set sessions (at n) None)
    (λ j low. ap (is_of_client client) (get_or-set_other sessions (at n) (at j) None None (λ same. let e = apart j n (omega arith) (omega arith) same in absurd (omega arith))) ∙ own j (omega arith))
    (λ i j low high same. apart i j (omega arith) (omega arith) same) in
    omega (arith, rest, count_of-set_fewer client sessions (at n) None within here refl)

abbrev slot_of : Option ActiveTransaction → ℕ
slot_of None = 0
slot_of (Some h) = h.slot

module _ (size : ℕ) (w : World) (memory : Memory) (s : State) (ready : IsReady size w memory s) where
  abbrev words : Words
  words = s.now.words

  abbrev image : Image
  image = reads words

  -- A log in which a transaction is open is not closed.
  pub runs_not_closed : (number : ℕ) (h : ActiveTransaction) → active_under memory.active number ≡ Some h → is_closed_log image (log_number_at w.stored.frames number) ≡ true → ⊥
  runs_not_closed number h there closed =
      let under = ready.active.each number h there in
      let r = under.is.running.saving.running in
      let at : log_number_at w.stored.frames number ≡ h.tx.log.gate_at = ap (log_number_at w.stored.frames) (sym under.number_is) ∙ sym under.is.own.gate in
      let range = (and_parts (is_closed_range (image h.tx.log.gate_at)) _ (ap (is_closed_log image) (sym at) ∙ closed)).0 in
      let lo : gate_lo (image h.tx.log.gate_at) ≡ h.tx.log.lo = ap (λ (l : Log). l.lo) r.opened.says in
      let hi : gate_hi (image h.tx.log.gate_at) ≡ h.tx.log.hi = ap (λ (l : Log). l.hi) r.opened.says in
      let no : false ≡ true = ap₂ (λ (a b : ℕ). eqb a b && (eqb b 4 || eqb b 0)) (sym (lo ∙ r.lo)) (sym (hi ∙ r.hi)) ∙ range in
      cc

  module _ (client : ℕ) (who : Owner) (known : client < CLIENTS) (present : w.clients client ≡ Some who) where
    -- Each other log of a client that is present is closed.
    closed_unless : (number : ℕ) → number < ALL_LOGS → client_of_log number ≡ client → active_under memory.active number ≡ None → is_closed_log image (log_number_at w.stored.frames number) ≡ true
    closed_unless number few whose free =
        let F = w.stored.frames in
        let under = reads (masked ready.mask words) in
        let logs : are_closed_logs under F ≡ true = ((standing size w memory s ready).holds Spaces).logs in
        let owned : owner_of under (client_of_log number) ≡ Some who = ap (owner_of under) whose ∙ owner_under size w memory s ready client known ∙ ready.clients client known ∙ present in
        is_closed_log-same image under (log_number_at F number) (λ k inside.
        sym (ap (λ (i : Image). i k) (reads-masked ready.mask words)
        ∙ masked_image-elsewhere ready.mask image k (masks_beside_log F ready.active.opens ready.mask ready.active.are ready.active.masks number k (ready.active.none number free) few inside)))
        ∙ registered_is_closed F under number who logs few owned

    -- If each of the client's logs has an open transaction, the client has at least as many sessions as logs.
    module _ (each : (j : ℕ) → j < CLIENT_LOGS → (h : ActiveTransaction) × (active_under memory.active (CLIENT_LOGS * client + j) ≡ Some h)) where
      abbrev its_slot : ℕ → ℕ
      its_slot j = slot_of (active_under memory.active (CLIENT_LOGS * client + j))

      its_session : (j : ℕ) → j < CLIENT_LOGS → is_of_client client (session_in memory.sessions (its_slot j)) ≡ true
      its_session j low =
          let one = each j low in
          let is = active_is w memory.active ready.mask words ready.active (CLIENT_LOGS * client + j) one.0 one.1 in
          let whose : client_of_log (CLIENT_LOGS * client + j) ≡ client = omega arith in
          ap (λ (o : Option ActiveTransaction). is_of_client client (session_in memory.sessions (slot_of o))) one.1
          ∙ ap (is_of_client client) (session_active w memory.active ready.mask words ready.active memory.sessions ready.sessions (CLIENT_LOGS * client + j) one.0 one.1)
          ∙ eq-eqb is.own.transaction.client client (is.own.client ∙ sym is.own.owner ∙ ap client_of_log (ready.active.each (CLIENT_LOGS * client + j) one.0 one.1).number_is ∙ whose)

      its_own : (i j : ℕ) → i < CLIENT_LOGS → j < CLIENT_LOGS → its_slot i ≡ its_slot j → i ≡ j
      its_own i j low high same =
          let one = each i low in
          let other = each j high in
          let number =
          one_slot w memory.active ready.mask words ready.active (CLIENT_LOGS * client + i) (CLIENT_LOGS * client + j) one.0 other.0 one.1 other.1 (sym (ap slot_of one.1) ∙ same ∙ ap slot_of other.1) in
          omega arith

      all_counted : CLIENT_LOGS ≤ count_of client memory.sessions
      all_counted = each_counted client CLIENT_LOGS its_slot memory.sessions its_session its_own

    -- So if the client has fewer sessions, a closed log is found.
    module _ (frames : ℕ) (on : frames ≡ w.stored.frames) where
      log_place : (j : ℕ) → j < CLIENT_LOGS → log_at frames client j ≡ log_number_at w.stored.frames (CLIENT_LOGS * client + j)
      log_place j low =
          (λ p. log_at (on p) client j)
          ∙ ap₂ (λ (c k : ℕ). log_at w.stored.frames c k) (let e : client ≡ (CLIENT_LOGS * client + j) / CLIENT_LOGS = omega arith in e) (let e : j ≡ (CLIENT_LOGS * client + j) % CLIENT_LOGS = omega arith in e)

      active_by : (j : ℕ) → j < CLIENT_LOGS → first_from 0 CLIENT_LOGS (λ k. is_closed_log image (log_at frames client k)) ≡ None → (o : Option ActiveTransaction) → active_under memory.active (CLIENT_LOGS * client + j) ≡ o
          → (h : ActiveTransaction) × (active_under memory.active (CLIENT_LOGS * client + j) ≡ Some h)
      active_by j low missed None free = absurd (
          let shut = closed_unless (CLIENT_LOGS * client + j) (omega arith) (let e : (CLIENT_LOGS * client + j) / CLIENT_LOGS ≡ client = omega arith in e) free in
          let it : false ≡ true = sym (first_from-each 0 CLIENT_LOGS (λ k. is_closed_log image (log_at frames client k)) missed j (omega arith) (omega arith)) ∙ ap (is_closed_log image) (log_place j low) ∙ shut in
          cc)
      active_by j low missed (Some h) there = (h, there)

      missed_by : (o : Option ℕ) → None ≡ option_map (log_number client) o → o ≡ None
      missed_by None none = refl
      missed_by (Some k) none = absurd (none-some (log_number client k) none)

      pub log_found : count_of client memory.sessions < CLIENT_LOGS → None ≡ first_closed image frames client → ⊥
      log_found few none =
          let missed = missed_by (first_from 0 CLIENT_LOGS (λ k. is_closed_log image (log_at frames client k))) none in
          let all = all_counted (λ j low. active_by j low missed (active_under memory.active (CLIENT_LOGS * client + j)) refl) in
          omega (arith, few, all)

  -- A log that is found closed has no active transaction.
  module _ (client frames number : ℕ) (on : frames ≡ w.stored.frames) (of : IsLogOf client number) where
    found_by : (o : Option ℕ) → o ≡ first_from 0 CLIENT_LOGS (λ k. is_closed_log image (log_at frames client k)) → Some number ≡ option_map (log_number client) o
        → is_closed_log image (log_number_at w.stored.frames number) ≡ true
    found_by None e is = absurd (none-some number (sym is))
    found_by (Some k) e is =
        let low = of.low in
        let high = of.high in
        let same = same_Some number (log_number client k) is in
        let place : log_number_at w.stored.frames number ≡ log_at frames client k =
        ap₂ (λ (c j : ℕ). log_at w.stored.frames c j) (let e : number / CLIENT_LOGS ≡ client = omega arith in e) (let e : number % CLIENT_LOGS ≡ k = omega arith in e) ∙ ap (λ (n : ℕ). log_at n client k) (sym on) in
        ap (is_closed_log image) place ∙ first_from-found 0 CLIENT_LOGS (λ k. is_closed_log image (log_at frames client k)) k (sym e)

    free_by : is_closed_log image (log_number_at w.stored.frames number) ≡ true → (o : Option ActiveTransaction) → active_under memory.active number ≡ o → o ≡ None
    free_by closed None e = refl
    free_by closed (Some h) e = absurd (runs_not_closed number h e closed)

    pub log_free : Some number ≡ first_closed image frames client → active_under memory.active number ≡ None
    log_free found =
        free_by (found_by (first_from 0 CLIENT_LOGS (λ k. is_closed_log image (log_at frames client k))) refl found) (active_under memory.active number) refl
