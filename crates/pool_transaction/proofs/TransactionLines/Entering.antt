-- Why the session of a client that may write the pool does not begin, or does not become one deeper. The line is
-- refused then, and otherwise it is not.
use Rattle.std.proofs.Common.{◌≡◌, inl, inr, ℕ, ◌<◌, ◌≤◌, true, false, cond, ◌&&◌, not, leb, eqb, List, Option, Some, None, is_some, Result, Err, refl, sym, ap, subst, ◌∙◌, arith, eq-eqb}
use Rattle.std.specs.Option.{option_or}
use Rattle.std.specs.Prelude.{unwrap_or}
use Rattle.std.proofs.lemmas.Bool.{cases_lt, le-leb, lt-leb}
use Rattle.std.proofs.lemmas.Option.{none-some}
use Rattle.pm_model.specs.Words.{reads}
use Rattle.pm_model.specs.Moments.{State}
use Rattle.pud_defs.specs.declared.layout.TheConstants.{CLIENTS, CLIENT_LOGS, MAX_DEPTH}
use Rattle.pud_defs.specs.declared.machine.Command.TheVariants.{Begin}
use Rattle.pud_defs.specs.declared.machine.Refusal.{Refusal}
use Rattle.pud_defs.specs.declared.machine.Refusal.TheVariants as refusals
use Rattle.pud_defs.specs.declared.records.Puddle.{Puddle}
use Rattle.pud_defs.specs.declared.records.TheConstants.{POOL_RECORDS}
use Rattle.pud_defs.specs.StateMachine.Step.{open_elsewhere, refusal_of}
use Rattle.pud_defs.specs.RegistryTables.Tables.{tables_of}
use Rattle.pud_defs.specs.StateMachine.World.{Transaction, World, open_on}
use Rattle.log_space.specs.FreeLogs.{first_closed}
use Rattle.nesting.specs.declared.EnterFault.{EnterFault}
use Rattle.nesting.specs.declared.EnterFault.TheVariants.{Deep, Logs}
use Rattle.nesting.specs.Sessions.{session_in, session_depth, depth_in, count_of, AreSessions}
use Rattle.pool_transaction.specs.Lifetime.{MayBeginIn}
use Rattle.daemon_memory.specs.Beginning.{MayBegin}
use Rattle.daemon_memory.specs.ActiveTransactions.{session_of}
use Rattle.daemon_memory.specs.OwnOnPool.{IsOwnTransactionOn}
use Rattle.daemon_memory.specs.PoolKnowledge.{known_puddles_in}
use Rattle.daemon_memory.specs.Memory.{Memory}
use Rattle.daemon_memory.specs.Ready.{IsReady}
use Rattle.daemon_memory.specs.declared.finding.Need.TheVariants as needs
use Rattle.daemon_memory.specs.Finding.{refusal_to, refusal_to_enter}
use Rattle.daemon_memory.proofs.OpenTransactions.AtDepth.{its_session}
use Rattle.daemon_memory.proofs.OpenTransactions.Counting.{counted, log_found}
use Rattle.daemon_memory.proofs.OpenTransactions.Sessions.{session_shut}
use Rattle.daemon_memory.proofs.PoolsFound.Needs.{entering_refusal, refusal_of-begin}

-- If the client's own transaction is as deep as it may be, the line is refused.
deep_refused : (client elsewhere : ℕ) (t : Transaction) → t.client ≡ client → t.depth ≡ MAX_DEPTH → entering_refusal client (Some t) elsewhere ≡ Some refusals.Deep
deep_refused client elsewhere t whose deep =
    (λ p. cond (eq-eqb t.client client whose p && le-leb MAX_DEPTH t.depth (omega arith) p) (Some refusals.Deep) (cond (not (eqb t.client client) && leb CLIENT_LOGS elsewhere) (Some refusals.Logs) None))

-- If it is not, the line is not refused.
own_free : (client elsewhere : ℕ) (t : Transaction) → t.client ≡ client → t.depth < MAX_DEPTH → entering_refusal client (Some t) elsewhere ≡ None
own_free client elsewhere t whose low =
    (λ p. cond (eq-eqb t.client client whose p && lt-leb MAX_DEPTH t.depth low p) (Some refusals.Deep) (cond (not (eq-eqb t.client client whose p) && leb CLIENT_LOGS elsewhere) (Some refusals.Logs) None))

module _ (size : ℕ) (w : World) (memory : Memory) (s : State) (ready : IsReady size w memory s) (client : ℕ) (name : List ℕ) (free : refusal_to w needs.Write client name ≡ None) where
  by_entering : refusal_of w (Begin client name) ≡ entering_refusal client (open_on name w) (open_elsewhere w client name)
  by_entering = refusal_of-begin w client name ∙ ap (λ (r : Option Refusal). option_or r (entering_refusal client (open_on name w) (open_elsewhere w client name))) free

  -- ---- the client's own transaction is open

  module _ (slot number : ℕ) (own : IsOwnTransactionOn client name slot number memory.active) where
    abbrev running : Transaction
    running = (ready.active.each number own.own.active own.own.is).is.own.transaction

    there : open_on name w ≡ Some running
    there = ap w.transactions (sym own.own.pool) ∙ (ready.active.each number own.own.active own.own.is).is.own.is

    whose : running.client ≡ client
    whose = (ready.active.each number own.own.active own.own.is).is.own.client ∙ own.own.whose

    session_is : session_in memory.sessions slot ≡ Some (session_of number running)
    session_is = ap (session_in memory.sessions) (sym own.slot_is) ∙ its_session size w memory s ready number own.own.active own.own.is

    begun : depth_in memory.sessions slot ≡ running.depth
    begun = ap session_depth session_is

    by_running : refusal_of w (Begin client name) ≡ entering_refusal client (Some running) (open_elsewhere w client name)
    by_running = by_entering ∙ ap (λ (t : Option Transaction). entering_refusal client t (open_elsewhere w client name)) there

    -- The machine refuses for the reason that the beginning of the session answers.
    pub refused_deeper : (fault : EnterFault) (result : Result (Unit {0}) EnterFault) → result ≡ Err fault → (result ≡ Err Deep → depth_in memory.sessions slot ≡ MAX_DEPTH)
        → (result ≡ Err Logs → (session_in memory.sessions slot ≡ None) × (CLIENT_LOGS ≤ count_of client memory.sessions)) → refusal_of w (Begin client name) ≡ Some (refusal_to_enter fault)
    refused_deeper Deep result is deep logs = by_running ∙ deep_refused client (open_elsewhere w client name) running whose (sym begun ∙ deep is)
    refused_deeper Logs result is deep logs = absurd (none-some (session_of number running) (sym (logs is).0 ∙ session_is))

    -- If it was begun before, and not as often as it may be, the line is not refused.
    pub begun_again : AreSessions memory.sessions → (depth_in memory.sessions slot ≡ MAX_DEPTH → ⊥) → refusal_of w (Begin client name) ≡ None
    begun_again are apart =
        let most = (are.each slot (session_of number running) session_is).few in
        let low : running.depth < MAX_DEPTH = elim (cases_lt running.depth MAX_DEPTH) [ inl low ↦ low | inr high ↦ absurd (apart (omega (arith, begun, most, high))) ] in
        by_running ∙ own_free client (open_elsewhere w client name) running whose low

  -- ---- no transaction is open

  module _ (slot : ℕ) (at : List (ℕ × Puddle)) (may : MayBegin memory.frames client name (reads s.now.words) slot at) (none : session_in memory.sessions slot ≡ None) (are : AreSessions memory.sessions) where
    pub shut : open_on name w ≡ None
    shut =
        session_shut size w memory s ready name slot
        (record { rec = may.rec; used = (λ p. (tables_of (sym ready.frames p) (reads s.now.words)).pools slot) ∙ may.used; name_is = may.name_is }) none

    by_count : refusal_of w (Begin client name) ≡ cond (leb CLIENT_LOGS (count_of client memory.sessions)) (Some refusals.Logs) None
    by_count =
        by_entering ∙ ap (λ (t : Option Transaction). entering_refusal client t (open_elsewhere w client name)) shut
        ∙ ap (λ (n : ℕ). cond (leb CLIENT_LOGS n) (Some refusals.Logs) None) (counted size w memory s ready client name shut are.slots)

    many : CLIENT_LOGS ≤ count_of client memory.sessions → refusal_of w (Begin client name) ≡ Some refusals.Logs
    many all = by_count ∙ ap (λ b. cond b (Some refusals.Logs) None) (le-leb CLIENT_LOGS (count_of client memory.sessions) all)

    few : count_of client memory.sessions < CLIENT_LOGS → refusal_of w (Begin client name) ≡ None
    few less = by_count ∙ ap (λ b. cond b (Some refusals.Logs) None) (lt-leb CLIENT_LOGS (count_of client memory.sessions) less)

    -- If no log of the client is closed, the line is refused.
    pub refused_without_log : client < CLIENTS → None ≡ first_closed (reads s.now.words) memory.frames client → refusal_of w (Begin client name) ≡ Some refusals.Logs
    refused_without_log known missed = elim (cases_lt (count_of client memory.sessions) CLIENT_LOGS) [
      | inl less ↦ absurd (log_found size w memory s ready client may.who known (sym (ready.clients client known) ∙ may.owned) memory.frames ready.frames less missed)
      | inr all ↦ many all
    ]

    -- The machine refuses for the reason that the beginning of the session answers.
    pub refused_to_begin : (fault : EnterFault) (result : Result (Unit {0}) EnterFault) → result ≡ Err fault → (result ≡ Err Deep → depth_in memory.sessions slot ≡ MAX_DEPTH)
        → (result ≡ Err Logs → (session_in memory.sessions slot ≡ None) × (CLIENT_LOGS ≤ count_of client memory.sessions)) → refusal_of w (Begin client name) ≡ Some (refusal_to_enter fault)
    refused_to_begin Deep result is deep logs = absurd (let no : session_depth None ≡ MAX_DEPTH = sym (ap session_depth none) ∙ deep is in omega arith)
    refused_to_begin Logs result is deep logs = many (logs is).1

    -- If a log is left, the line is not refused.
    pub begins_free : ((session_in memory.sessions slot ≡ None) × (CLIENT_LOGS ≤ count_of client memory.sessions) → ⊥) → refusal_of w (Begin client name) ≡ None
    begins_free apart = elim (cases_lt (count_of client memory.sessions) CLIENT_LOGS) [ inl less ↦ few less | inr all ↦ absurd (apart (none, all)) ]

-- The line is not refused, and its transaction may begin in the log of this number.
pub record Begins (size : ℕ) (w : World) (memory : Memory) (s : State) (client : ℕ) (name : List ℕ) (slot number : ℕ) : Type 0 where
  pub free : refusal_of w (Begin client name) ≡ None
  pub shut : open_on name w ≡ None
  pub ready : IsReady size w memory s
  pub may : MayBeginIn memory (reads s.now.words) client name slot number

-- This holds after calls that only read, if a log is left and this is the lowest closed one.
pub begins_in : (size : ℕ) (w : World) (memory view : Memory) (s mid : State) → IsReady size w memory s → (client : ℕ) (name : List ℕ) → refusal_to w needs.Write client name ≡ None → (slot : ℕ) (at : List (ℕ × Puddle))
    → MayBegin memory.frames client name (reads s.now.words) slot at → session_in memory.sessions slot ≡ None → AreSessions memory.sessions → memory ≡ view → mid ≡ s → known_puddles_in memory.known_pools slot ≡ Some at
    → ((session_in view.sessions slot ≡ None) × (CLIENT_LOGS ≤ count_of client view.sessions) → ⊥) → (number : ℕ) → Some number ≡ first_closed (reads s.now.words) view.frames client
    → slot < POOL_RECORDS → Begins size w view mid client name slot number
begins_in size w memory view s mid ready client name free slot at may none are same stays known apart number lowest within =
    let then : IsReady size w view s = subst (λ (m : Memory). IsReady size w m s) same ready in
    let might = subst (λ (m : Memory). MayBegin m.frames client name (reads s.now.words) slot at) same may in
    let there = subst (λ (m : Memory). AreSessions m.sessions) same are in
    let shut_in = subst (λ (m : Memory). session_in m.sessions slot ≡ None) same none in
    subst (λ (x : State). Begins size w view x client name slot number) (sym stays) (record {
      free = begins_free size w view s then client name free slot at might shut_in there apart;
      shut = shut size w view s then client name free slot at might shut_in there;
      ready = then;
      may = record { lowest = lowest; unheld = shut_in; at = at; known = subst (λ (m : Memory). known_puddles_in m.known_pools slot ≡ Some at) same known; may = might; fits = omega (arith, there.slots, within) };
    })

-- An option that has a value is this value.
pub there_is : {A : Type 0} (o : Option A) (d : A) → true ≡ is_some o → o ≡ Some (unwrap_or o d)
there_is None d there = absurd (let no : true ≡ false = there in cc)
there_is (Some x) d there = refl
