-- A client is removed that may have active transactions: each is undone, then the client's logs are closed and its
-- record is freed.
use Rattle.std.proofs.Common.{◌≡◌, ◌≢◌, inl, inr, ⊎_elim, ℕ, ◌+◌, ◌*◌, ◌<◌, ◌≤◌, Bool, true, false, cond, List, [], bytes_eq, Option, Some, None, is_some, refl, sym, ap, subst, ◌∙◌, arith, eq-eqb}
use Rattle.std.specs.Prelude.{set}
use Rattle.std.proofs.lemmas.Bool.{cases_Bool, cases_eq, cond-true, cond-false}
use Rattle.std.proofs.lemmas.List.{append-nil}
use Rattle.std.proofs.lemmas.Option.{none-some}
use Rattle.std.proofs.lemmas.Slice.Eq.{bytes_eq-Decides}
use Rattle.pm_model.specs.declared.host.HostFault.{HostFault}
use Rattle.pm_model.specs.declared.host.HostFault.TheVariants.{Cut}
use Rattle.pm_model.specs.Words.{reads}
use Rattle.pm_model.specs.Moments.{State}
use Rattle.pm_model.specs.Changes.{Changes, Silently}
use Rattle.pm_model.proofs.Changes.{Changes-still, Changes-then}
use Rattle.pm_model.proofs.Leaves.{Leaves-weaker, Leaves-then}
use Rattle.pud_defs.specs.declared.layout.TheConstants.{CLIENTS, CLIENT_LOGS}
use Rattle.pud_defs.specs.declared.machine.Command.TheVariants.{Leave}
use Rattle.pud_defs.specs.Formats.Image.{Image}
use Rattle.pud_defs.specs.declared.machine.Command.{Command}
use Rattle.pud_defs.specs.Logging.Settled.{client_of_log}
use Rattle.pud_defs.specs.RegistryTables.Spaces.{owner_of}
use Rattle.pud_defs.specs.StateMachine.Step.{after, refusal_of, unless_refused, world_by}
use Rattle.pud_defs.specs.StateMachine.Transactions.{OpenTransactions, is_own, with_open, without_client}
use Rattle.pud_defs.specs.StateMachine.World.{Transaction, World, closed, open_on}
use Rattle.daemon_memory.specs.Memory.{ActiveTransaction, Memory, active_under}
use Rattle.daemon_memory.specs.ActiveTransactions.{IsActive, AreOfOtherClients}
use Rattle.daemon_memory.specs.Leaving.{world_without, world_without_log, AfterTables}
use Rattle.daemon_memory.specs.Moves.{Stays}
use Rattle.daemon_memory.specs.Ready.{IsReady, StandsBetween, Applies, IsClosedIfNamed, ClosesBefore}
use Rattle.daemon_memory.proofs.Commands.Applying.{Applies-idle, Applies-closed}
use Rattle.daemon_memory.proofs.Commands.Beside.{active_is}
use Rattle.daemon_memory.proofs.Commands.Coming.{presence_read, ClosesBefore-changes}
use Rattle.daemon_memory.proofs.PoolChanges.PuddlesLeft.{Joins-stays, LeavesPuddles-then, settled_ready}
use Rattle.daemon_memory.proofs.OpenTransactions.ActiveUnder.{nothing_there, active_there}
use Rattle.daemon_memory.proofs.OpenTransactions.Others.{without_others}

-- ---- the client's own transactions

none_is_own : (client : ℕ) (o : Option Transaction) → is_own client o ≡ true → cond (is_own client o) None o ≡ None
none_is_own client o own = cond-true _ _ _ own

closed_by : (client : ℕ) (here : Bool) (o : Option Transaction) → (here ≡ true → is_own client o ≡ true)
    → cond (is_own client (cond here None o)) None (cond here None o) ≡ cond (is_own client o) None o
closed_by client true o own = sym (none_is_own client o (own refl))
closed_by client false o own = refl

-- Closing one of the client's transactions leaves the same transactions of others.
closed_one : (client : ℕ) (name : List ℕ) (t : Transaction) (opened : OpenTransactions) → opened name ≡ Some t → t.client ≡ client → without_client client (with_open name None opened) ≡ without_client client opened
closed_one client name t opened is own =
    let each : (other : List ℕ) → without_client client (with_open name None opened) other ≡ without_client client opened other = λ other. closed_by client (bytes_eq other name) (opened other)
    (λ here. ap (is_own client) (ap opened ((bytes_eq-Decides other name).0 here) ∙ is) ∙ eq-eqb t.client client own) in
    λ i other. each other i

-- A transaction that is left is another client's.
left_by : (client : ℕ) (o : Option Transaction) (t : Transaction) → cond (is_own client o) None o ≡ Some t → t.client ≢ client
left_by client o t is = λ own. elim (cases_Bool (is_own client o)) [
  | inl gone ↦ none-some t (sym (none_is_own client o gone) ∙ is)
  | inr other ↦
      let same : o ≡ Some t = sym (cond-false _ _ _ other) ∙ is in
      let it : true ≡ false = sym (eq-eqb t.client client own) ∙ ap (is_own client) (sym same) ∙ other in cc
]

-- In the world without the client's transactions each active transaction is another client's.
pub others_left : (size : ℕ) (w : World) (client : ℕ) (memory : Memory) (s : State) → IsReady size (world_without client w) memory s → AreOfOtherClients client memory.active
others_left size w client memory s ready = record {
  each = λ number h there own.
      let is : IsActive (world_without client w) h ready.mask s.now.words = active_is (world_without client w) memory.active ready.mask s.now.words ready.active number h there in
      left_by client (open_on h.name w) is.own.transaction is.own.is (is.own.client ∙ own);
}

-- ---- one call after another

-- The first call left the stored world as it was.
pub Applies-then : (size : ℕ) (w next : World) (ts : OpenTransactions) (first following : Memory) (fault : Option HostFault) (a b c : State) → Applies size w (record w { transactions = ts }) first None a b
    → (IsReady size (record w { transactions = ts }) first b → Applies size (record w { transactions = ts }) next following fault b c) → Applies size w next following fault a c
Applies-then size w next ts first following fault a b c p then =
    let q = then (p.ready refl) in
    let P = Silently (StandsBetween size w next) in
    record {
      moments = Leaves-then P P P [] a b c (p.quiet ∙ sym (append-nil a.now.said)) (λ front image m. m) (λ more image m. m)
          (Leaves-weaker (Silently (StandsBetween size w (record w { transactions = ts }))) P a b (λ bytes image m. (m.0, (inl (⊎_elim (λ was. was) (λ now. now) m.1.0), m.1.1))) p.moments) q.moments;
      puddles = LeavesPuddles-then w.stored.frames Stays Stays Stays a b c (Joins-stays Stays (λ m now is. is)) p.quiet (settled_ready size (record w { transactions = ts }) first b (p.ready refl)) p.puddles q.puddles;
      quiet = q.quiet ∙ p.quiet;
      ready = q.ready;
      rests = q.rests;
      script = q.script ∙ p.script;
    }

-- The first call failed.
pub Applies-cut_short : (size : ℕ) (w next : World) (ts : OpenTransactions) (following : Memory) (fault : HostFault) (a b : State) → Applies size w (record w { transactions = ts }) following (Some fault) a b
    → Applies size w next following (Some fault) a b
Applies-cut_short size w next ts following fault a b p = record {
  moments = Leaves-weaker (Silently (StandsBetween size w (record w { transactions = ts }))) (Silently (StandsBetween size w next)) a b
      (λ bytes image m. (m.0, (inl (⊎_elim (λ was. was) (λ now. now) m.1.0), m.1.1))) p.moments;
  puddles = p.puddles;
  quiet = p.quiet;
  ready = λ none. absurd (let it : None ≡ Some fault = sym none in cc);
  rests = p.rests;
  script = p.script;
}

-- ---- transactions undone one after another

-- A transaction that is open after another one was closed was open before.
open_before : (here : Bool) (o : Option Transaction) (t : Transaction) → cond here None o ≡ Some t → o ≡ Some t
open_before true o t is = absurd (none-some t is)
open_before false o t is = is

-- The client's transactions that were active under some of its numbers are undone. Each transaction that is open now
-- was open before. Without the client's own, the same are open as before.
pub record IsUndone (size : ℕ) (w : World) (client : ℕ) (memory : Memory) (old new : State) : Type 0 where
  pub left : OpenTransactions
  pub fewer : (name : List ℕ) (t : Transaction) → left name ≡ Some t → open_on name w ≡ Some t
  pub same : without_client client left ≡ without_client client w.transactions
  pub applies : Applies size w (record w { transactions = left }) memory None old new
  pub after_tables : Changes (AfterTables w.stored.frames) None old new

-- None is undone yet.
pub IsUndone-start : (size : ℕ) (w : World) (client : ℕ) (memory : Memory) (s : State) → IsReady size w memory s → IsUndone size w client memory s s
IsUndone-start size w client memory s ready = record {
  left = w.transactions;
  fewer = λ name t is. is;
  same = refl;
  applies = Applies-idle size w memory s s ready refl;
  after_tables = Changes-still (AfterTables w.stored.frames) None s s (λ cut. absurd (let no : None ≡ Some Cut = cut in cc)) refl;
}

-- Nothing is active under the client's numbers below this one.
pub record AreUndone (client upto : ℕ) (active : List (Option ActiveTransaction)) : Type 0 where
  pub each : (number : ℕ) → CLIENT_LOGS * client ≤ number → number < upto → active_under active number ≡ None

-- Nothing is active under this one either, after it is undone.
pub AreUndone-more : (client number : ℕ) (active next : List (Option ActiveTransaction)) → next ≡ set active number None → AreUndone client number active → AreUndone client (number + 1) next
AreUndone-more client number active next is none = record {
  each = λ other low high. ap (λ (l : List (Option ActiveTransaction)). active_under l other) is ∙ elim (cases_eq other number) [
    | inl same ↦ ap (active_under (set active number None)) same ∙ nothing_there active number
    | inr apart ↦ active_there active number None other apart ∙ none.each other low (omega arith)
  ];
}

module _ (size : ℕ) (w : World) (client number : ℕ) (memory following : Memory) (a b c : State) (u : IsUndone size w client memory a b) where
  abbrev mid : World
  mid = record w { transactions = u.left }

  mid_ready : IsReady size mid memory b
  mid_ready = u.applies.ready refl

  -- One more is undone.
  left_then : client_of_log number ≡ client → (o : Option ActiveTransaction) → active_under memory.active number ≡ o → Applies size mid (world_without_log o mid) following None b c → Changes (AfterTables w.stored.frames) None b c
      → IsUndone size w client following a c
  left_then own None e applies changes = record {
    left = u.left;
    fewer = u.fewer;
    same = u.same;
    applies = Applies-then size w mid u.left memory following None a b c u.applies (λ ready. applies);
    after_tables = Changes-then (AfterTables w.stored.frames) None a b c u.after_tables changes;
  }
  left_then own (Some h) e applies changes =
      let under = mid_ready.active.each number h e in
      let its : under.is.own.transaction.client ≡ client = under.is.own.client ∙ sym under.is.own.owner ∙ ap client_of_log under.number_is ∙ own in
      record {
        left = with_open h.name None u.left;
        fewer = λ name t is. u.fewer name t (open_before (bytes_eq name h.name) (u.left name) t is);
        same = closed_one client h.name under.is.own.transaction u.left under.is.own.is its ∙ u.same;
        applies = Applies-then size w (record w { transactions = with_open h.name None u.left }) u.left memory following None a b c u.applies (λ ready. applies);
        after_tables = Changes-then (AfterTables w.stored.frames) None a b c u.after_tables changes;
      }

  pub IsUndone-more : client_of_log number ≡ client → Applies size mid (world_without_log (active_under memory.active number) mid) following None b c → Changes (AfterTables w.stored.frames) None b c
      → IsUndone size w client following a c
  IsUndone-more own applies changes = left_then own (active_under memory.active number) refl applies changes

  same_stored : (o : Option ActiveTransaction) → closed (world_without_log o mid) ≡ closed (world_without client w)
  same_stored None = refl
  same_stored (Some h) = refl

  -- A call that undoes one of them failed.
  pub Applies-interrupted : (stop : HostFault) → Applies size mid (world_without_log (active_under memory.active number) mid) following (Some stop) b c → Applies size w (world_without client w) following (Some stop) a c
  Applies-interrupted stop applies =
      Applies-then size w (world_without client w) u.left memory following (Some stop) a b c u.applies
      (λ ready. Applies-closed size mid (world_without_log (active_under memory.active number) mid) (world_without client w) following following stop b c (same_stored (active_under memory.active number)) applies)

-- All are undone.
pub Applies-all : (size : ℕ) (w : World) (client : ℕ) (memory : Memory) (a b : State) → IsUndone size w client memory a b → AreUndone client (CLIENT_LOGS * client + CLIENT_LOGS) memory.active
    → Applies size w (world_without client w) memory None a b
Applies-all size w client memory a b u none =
    let mid : World = record w { transactions = u.left } in
    let ready = u.applies.ready refl in
    let others : AreOfOtherClients client memory.active = record {
      each = λ number h there own.
          let under = ready.active.each number h there in
          let whose : client_of_log number ≡ client = ap client_of_log (sym under.number_is) ∙ under.is.own.owner ∙ own in
          none-some h (sym (none.each number (omega arith) (omega arith)) ∙ there);
    } in
    subst (λ (ts : OpenTransactions). Applies size w (record w { transactions = ts }) memory None a b) (sym (without_others mid memory.active ready.mask b.now.words client ready.active others) ∙ u.same) u.applies

-- ---- the world that it leaves

once_more_by : (client : ℕ) (o : Option Transaction) (own : Bool) → is_own client o ≡ own → cond (is_own client (cond own None o)) None (cond own None o) ≡ cond own None o
once_more_by client o true is = refl
once_more_by client o false is = ap (λ (b : Bool). cond b None o) is

-- Closing the client's transaction twice is closing it once.
once_more : (client : ℕ) (o : Option Transaction) → cond (is_own client (cond (is_own client o) None o)) None (cond (is_own client o) None o) ≡ cond (is_own client o) None o
once_more client o = once_more_by client o (is_own client o) refl

-- Removing the client gives the same world if its transactions were closed before.
pub gone_world : (w : World) (client : ℕ) → after (world_without client w) (Leave client) ≡ after w (Leave client)
unfolding after
gone_world w client =
    let each : (name : List ℕ) → without_client client (without_client client w.transactions) name ≡ without_client client w.transactions name = λ name. once_more client (open_on name w) in
    ap (λ (o : OpenTransactions). record (after w (Leave client)) { transactions = o }) (λ p name. each name p)

-- ---- the client is removed

-- The table that is read tells whether the client is present, if it is asked with the client's number.
pub presence_of : (size : ℕ) (w : World) (memory : Memory) (s : State) (client asked : ℕ) (registered : Bool) → asked ≡ client → client < CLIENTS → IsReady size w memory s
    → registered ≡ is_some (owner_of (reads s.now.words) asked) → registered ≡ is_some (w.clients client)
presence_of size w memory s client asked registered same known ready told =
    presence_read size w memory s client registered known ready (told ∙ ap (λ (n : ℕ). is_some (owner_of (reads s.now.words) n)) same)

-- The client's logs are closed before its record is freed, also if calls come first that leave the tables as they are.
pub ClosesBefore-then : (size : ℕ) (w : World) (memory : Memory) (slot : ℕ) (a b c : State) → slot < CLIENTS → true ≡ is_some (w.clients slot) → IsReady size w memory a
    → Changes (AfterTables w.stored.frames) None a b → b.now.said ≡ a.now.said → ClosesBefore w.stored.frames slot b c → ClosesBefore w.stored.frames slot a c
ClosesBefore-then size w memory slot a b c known present ready changes quiet closes =
    let P : List ℕ → Image → Type 0 = λ bytes image. IsClosedIfNamed w.stored.frames slot image in
    Leaves-then P P P [] a b c (quiet ∙ sym (append-nil a.now.said)) (λ front image m. m) (λ more image m. m)
    (ClosesBefore-changes size w memory slot known present (AfterTables w.stored.frames) None a b ready (λ k v below may. absurd (omega arith)) changes) closes

-- A command that is not refused, after calls that changed nothing. It may leave another memory.
pub Applies-accepted_by : (size : ℕ) (w : World) (memory following : Memory) (c : Command) (fault : Option HostFault) (a b d : State) → refusal_of w c ≡ None → b ≡ a
    → (IsReady size w memory b → Applies size w (after w c) following fault b d) → IsReady size w memory a → Applies size w (world_by w (Some c)) following fault a d
Applies-accepted_by size w memory following c fault a b d none same applies ready =
    subst (λ (v : World). Applies size w v following fault a d) (sym (ap (λ o. unless_refused o w (after w c)) none))
    (subst (λ (s : State). Applies size w (after w c) following fault s d) same (applies (subst (λ (s : State). IsReady size w memory s) (sym same) ready)))
