-- A change of one active transaction that changes only how often it was begun: no word changes, and its session gets
-- the same number.
use Rattle.std.proofs.Common.{◌≡◌, ◌≢◌, inl, inr, ℕ, ◌+◌, ◌<◌, bytes_eq, List, length, Option, Some, None, refl, sym, ap, ap₂, subst, ◌∙◌}
use Rattle.std.specs.Prelude.{set}
use Rattle.std.proofs.lemmas.Bool.{cases_Bool, cases_eq, cases_lt}
use Rattle.std.proofs.lemmas.List.{get_or_past, get_or-set_same, get_or-set_other}
use Rattle.std.proofs.lemmas.Option.{none-some, same_Some}
use Rattle.std.proofs.lemmas.Slice.Eq.{bytes_eq-Decides}
use Rattle.pm_model.specs.Moments.{State}
use Rattle.pud_defs.specs.declared.machine.Command.TheVariants as commands
use Rattle.pud_defs.specs.PoolGraphs.Graph.{Graph}
use Rattle.pud_defs.specs.PoolGraphs.DeferredValues.{DeferredValue}
use Rattle.pud_defs.specs.StateMachine.Step.{graph_at_begin, after}
use Rattle.pud_defs.specs.StateMachine.Transactions.{with_open, open_after_begin}
use Rattle.pud_defs.specs.StateMachine.World.{Transaction, World, open_on}
use Rattle.hybrid_tx.specs.Objects.Transactions.{IsOpenOn}
use Rattle.nesting.specs.declared.Session.{Session}
use Rattle.nesting.specs.Sessions.{session_in, session_log, session_depth, entered}
use Rattle.daemon_memory.specs.Memory.{ActiveTransaction, Memory, active_under}
use Rattle.daemon_memory.specs.ActiveTransactions.{IsActive, IsActiveUnder, IsOpenUnder, AreActive, session_of, HasSessions}
use Rattle.daemon_memory.specs.OwnOnPool.{IsOwnTransactionOn}
use Rattle.daemon_memory.specs.Ready.{IsReady}
use Rattle.daemon_memory.proofs.OpenTransactions.OpenNames.{open_there, open_elsewhere}
use Rattle.daemon_memory.proofs.PoolChanges.PoolsBeside.{one_slot}

module _ (size : ℕ) (w : World) (memory : Memory) (s : State) (ready : IsReady size w memory s) (number : ℕ) (active : ActiveTransaction) (there : active_under memory.active number ≡ Some active) where
  abbrev pub its : IsActiveUnder w ready.active.opens ready.mask s.now.words number active
  its = ready.active.each number active there

  abbrev pub t : Transaction
  t = its.is.own.transaction

  pub its_session : session_in memory.sessions active.slot ≡ Some (session_of number t)
  its_session = ready.sessions.each number active t there its.is.own.is

  session_within : active.slot < length memory.sessions
  session_within = elim (cases_lt active.slot (length memory.sessions)) [
    | inl within ↦ within
    | inr past ↦ absurd (none-some (session_of number t) (sym (get_or_past memory.sessions active.slot None past) ∙ its_session))
  ]

  -- Each other active transaction is on another pool.
  other_name : (m : ℕ) (h : ActiveTransaction) → active_under memory.active m ≡ Some h → m ≢ number → h.name ≢ active.name
  other_name m h is apart same = apart (ready.active.names m number h active is there same)

  other_slot : (m : ℕ) (h : ActiveTransaction) → active_under memory.active m ≡ Some h → m ≢ number → h.slot ≢ active.slot
  other_slot m h is apart same = apart (one_slot w memory.active ready.mask s.now.words ready.active m number h active is there same)

  -- What holds for this transaction and for each other one holds for each.
  each_of : (P : ℕ → ActiveTransaction → Type 0) → P number active → ((m : ℕ) (h : ActiveTransaction) → active_under memory.active m ≡ Some h → m ≢ number → P m h) → (m : ℕ) (h : ActiveTransaction) → active_under memory.active m ≡ Some h → P m h
  each_of P own others m h is = elim (cases_eq m number) [
    | inl same ↦ subst (λ (i : ℕ). P i h) (sym same) (subst (λ (g : ActiveTransaction). P number g) (same_Some active h (sym there ∙ ap (active_under memory.active) (sym same) ∙ is)) own)
    | inr apart ↦ others m h is apart
  ]

  module _ (depth : ℕ) where
    abbrev pub next : World
    next = record w { transactions = with_open active.name (Some (record t { depth = depth })) w.transactions }

    -- A transaction is still active if the next world has it with the same client, units, `now` and `deferred`.
    under_as : (m : ℕ) (h : ActiveTransaction) (u : IsActiveUnder w ready.active.opens ready.mask s.now.words m h) (x : Transaction) → open_on h.name next ≡ Some x → x.client ≡ u.is.own.transaction.client
        → x.units ≡ u.is.own.transaction.units → u.is.own.transaction.now ≡ x.now → u.is.own.transaction.deferred ≡ x.deferred → IsActiveUnder next ready.active.opens ready.mask s.now.words m h
    under_as m h u x is client units now deferred =
        let i : IsActive w h ready.mask s.now.words = u.is in
        record {
          is = record {
            rec = i.rec;
            own = record {
              who = i.own.who;
              transaction = x;
              is = is;
              client = client ∙ i.own.client;
              units = units ∙ i.own.units;
              present = i.own.present;
              owner = i.own.owner;
              gate = i.own.gate;
            };
            puddles = i.puddles;
            before = i.before;
            graph_before = i.graph_before;
            name = i.name;
            stored = i.stored;
            pool = i.pool;
            records = i.records;
            running = subst (λ (ls : List DeferredValue). IsOpenOn w.stored.frames i.puddles w.stored.types h.tx.log i.before i.graph_before x.now ls s.now.words) deferred
                (subst (λ (g : Graph). IsOpenOn w.stored.frames i.puddles w.stored.types h.tx.log i.before i.graph_before g i.own.transaction.deferred s.now.words) now i.running);
            masked = i.masked;
          };
          number_is = u.number_is;
          opened = u.opened;
        }

    known_still : (name : List ℕ) (x : Transaction) → open_on name next ≡ Some x → IsOpenUnder memory.active name
    known_still name x is = elim (cases_Bool (bytes_eq name active.name)) [
      | inl same ↦ record { number = number; active = active; is = there; name_is = sym ((bytes_eq-Decides name active.name).0 same) }
      | inr other ↦
          let differs : name ≢ active.name = λ e. let no = sym other ∙ (bytes_eq-Decides name active.name).1 e in cc in
          ready.active.known name x (sym (open_elsewhere active.name w.transactions (Some (record t { depth = depth })) name differs) ∙ is)
    ]

    abbrev holds_at : AreActive next memory.active ready.mask s.now.words
    holds_at = record {
      opens = ready.active.opens;
      are = ready.active.are;
      masks = ready.active.masks;
      each = each_of (IsActiveUnder next ready.active.opens ready.mask s.now.words)
          (under_as number active its (record t { depth = depth }) (open_there active.name w.transactions (Some (record t { depth = depth }))) refl refl refl refl)
          (λ m h is apart.
          let u = ready.active.each m h is in
          under_as m h u u.is.own.transaction (open_elsewhere active.name w.transactions (Some (record t { depth = depth })) h.name (other_name m h is apart) ∙ u.is.own.is) refl refl refl refl);
      none = ready.active.none;
      known = known_still;
      names = ready.active.names;
    }

    -- The sessions, with this depth in the transaction's own session.
    abbrev pub sessions_at : List (Option Session)
    sessions_at = set memory.sessions active.slot (Some (session_of number (record t { depth = depth })))

    has_sessions_at : HasSessions next memory.active sessions_at
    has_sessions_at = record {
      each = λ m h x is there. each_of (λ i g. open_on g.name next ≡ Some x → session_in sessions_at g.slot ≡ Some (session_of i x))
          (λ on.
          let one : record t { depth = depth } ≡ x = same_Some (record t { depth = depth }) x (sym (open_there active.name w.transactions (Some (record t { depth = depth }))) ∙ on) in
          get_or-set_same memory.sessions active.slot (Some (session_of number (record t { depth = depth }))) None session_within ∙ ap (λ (y : Transaction). Some (session_of number y)) one)
          (λ i g was apart on.
          get_or-set_other memory.sessions active.slot g.slot (Some (session_of number (record t { depth = depth }))) None (other_slot i g was apart)
          ∙ ready.sessions.each i g x was (sym (open_elsewhere active.name w.transactions (Some (record t { depth = depth })) g.name (other_name i g was apart)) ∙ on))
          m h is there;
      only = λ slot session is. elim (cases_eq slot active.slot) [
        | inl same ↦
            let one : session_of number (record t { depth = depth }) ≡ session = same_Some (session_of number (record t { depth = depth })) session
            (sym (get_or-set_same memory.sessions active.slot (Some (session_of number (record t { depth = depth }))) None session_within) ∙ ap (session_in sessions_at) (sym same) ∙ is) in
            record { active = active; is = ap (active_under memory.active) (sym (ap session_log one)) ∙ there; slot_is = sym same }
        | inr apart ↦ ready.sessions.only slot session (sym (get_or-set_other memory.sessions active.slot slot (Some (session_of number (record t { depth = depth }))) None apart) ∙ is)
      ];
    }

    -- The daemon is ready in the world in which the transaction was begun this often.
    pub ready_at : (sessions : List (Option Session)) → sessions ≡ sessions_at → IsReady size next (record memory { sessions = sessions }) s
    ready_at sessions is = record {
      mask = ready.mask;
      settled = ready.settled;
      tables = ready.tables;
      clients = ready.clients;
      frames = ready.frames;
      shelf = ready.shelf;
      active = holds_at;
      sessions = subst (λ (o : List (Option Session)). HasSessions next memory.active o) (sym is) has_sessions_at;
      rest = ready.rest;
      logs = ready.logs;
      knows = ready.knows;
    }

  -- The transaction is begun once more.
  deeper_world : (client : ℕ) → after w (commands.Begin client active.name) ≡ next (t.depth + 1)
  unfolding after
  deeper_world client =
      ap (λ (o : Option Transaction). record w { transactions = with_open active.name (open_after_begin client (graph_at_begin w active.name) o) w.transactions }) its.is.own.is

  deeper_sessions : (client : ℕ) → client ≡ t.client → entered client active.slot number memory.sessions ≡ sessions_at (t.depth + 1)
  deeper_sessions client whose =
      ap₂ (λ (c : ℕ) (o : Option Session). set memory.sessions active.slot (Some (record { client = c; log_number = number; depth = session_depth o + 1 }))) whose its_session

  pub ready_deeper : (client : ℕ) → client ≡ active.client → IsReady size (after w (commands.Begin client active.name)) (record memory { sessions = entered client active.slot number memory.sessions }) s
  ready_deeper client whose =
      subst (λ (v : World). IsReady size v (record memory { sessions = entered client active.slot number memory.sessions }) s) (sym (deeper_world client))
      (ready_at (t.depth + 1) (entered client active.slot number memory.sessions) (deeper_sessions client (whose ∙ sym its.is.own.client)))

-- The client's own transaction is begun once more.
pub ready_begun_again : (size : ℕ) (w : World) (memory : Memory) (s : State) (client : ℕ) (name : List ℕ) (slot number : ℕ) → IsReady size w memory s → IsOwnTransactionOn client name slot number memory.active
    → IsReady size (after w (commands.Begin client name)) (record memory { sessions = entered client slot number memory.sessions }) s
ready_begun_again size w memory s client name slot number ready own =
    let mine = own.own.active in
    subst (λ (n : List ℕ). IsReady size (after w (commands.Begin client n)) (record memory { sessions = entered client slot number memory.sessions }) s) own.own.pool
    (subst (λ (i : ℕ). IsReady size (after w (commands.Begin client mine.name)) (record memory { sessions = entered client i number memory.sessions }) s) own.slot_is
    (ready_deeper size w memory s ready number mine own.own.is client (sym own.own.whose)))
