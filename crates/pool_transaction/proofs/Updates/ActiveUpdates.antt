-- A line that updates an active transaction: the puddle that it writes is rewritten to its end, and then the update is
-- made.
use Rattle.std.proofs.Common.{◌≡◌, ℕ, ◌+◌, List, set, Option, Some, None, Result, refl, sym, ap, subst, ◌∙◌}
use Rattle.std.specs.Prelude.{IfOk}
use Rattle.std.proofs.lemmas.Option.{same_Some}
use Rattle.pm_model.specs.declared.host.HostFault.{HostFault}
use Rattle.pm_model.specs.Counts.{fault_of}
use Rattle.pm_model.specs.Words.{reads}
use Rattle.pm_model.specs.Moments.{State}
use Rattle.pud_defs.specs.declared.layout.TheConstants.{DAEMON_LOG, SET_UNITS}
use Rattle.pud_defs.specs.declared.records.Puddle.{Puddle}
use Rattle.pud_defs.specs.PoolGraphs.Graph.{Graph, graph_of}
use Rattle.pud_defs.specs.Formats.Image.{Image}
use Rattle.pud_defs.specs.PoolGraphs.DeferredValues.{DeferredValue}
use Rattle.pud_defs.specs.StateMachine.Step.{refusal_of, after}
use Rattle.pud_defs.specs.PoolGraphs.Stored.{stored_in}
use Rattle.pud_defs.specs.RegistryTables.Types.{types_of}
use Rattle.pud_defs.specs.StateMachine.World.{Transaction, World}
use Rattle.log_store.specs.Store.{OpenLog}
use Rattle.graph_read.specs.Bases.{HasLowBases}
use Rattle.batch.specs.Batches.{HasIdleGate}
use Rattle.lazy_rewrite.proofs.Spared.{place_in_pool-spared}
use Rattle.lazy_rewrite.specs.Batches.{Rewrites}
use Rattle.lazy_rewrite.specs.Frontiers.{finished_at, frontier_at}
use Rattle.hybrid_tx.specs.PoolScopes.{ArePlacedPuddles, IsRewrittenAt}
use Rattle.hybrid_tx.specs.Objects.Transactions.{OpenTx, IsOpenOn, KeepsOpenOn}
use Rattle.pool_transaction.specs.declared.changing.FoundUpdate.{FoundUpdate}
use Rattle.pool_transaction.specs.declared.changing.Update.{Update}
use Rattle.pool_transaction.specs.Changing.{IsActiveWith, with_known, command_of_update, changed_by, MayChange, IsFoundBy, IsFoundWithin, IsReadOf, SparesSerials, FollowsUpdate, ordinal_written}
use Rattle.daemon_memory.specs.PoolKnowledge.{puddles_known, known_pool_in}
use Rattle.daemon_memory.specs.Memory.{ActiveTransaction, Memory}
use Rattle.daemon_memory.specs.ActiveTransactions.{IsActive}
use Rattle.daemon_memory.specs.Moves.{led_in}
use Rattle.daemon_memory.specs.Ready.{IsReady, Applies}
use Rattle.daemon_memory.proofs.PoolChanges.InTurn.{active_known}
use Rattle.daemon_memory.proofs.PoolChanges.TablesBeside.{types_read}
use Rattle.pool_transaction.proofs.Updates.FieldsTyped.{may_change_unrefused}
use Rattle.pool_transaction.proofs.Updates.KnownFollows.{IsKnown-followed, followed_after}
use Rattle.pool_transaction.specs.Finishing.{end_in}
use Rattle.daemon_memory.specs.Arriving.{AppliesTo}
use Rattle.daemon_memory.proofs.PuddlesRewritten.Arriving.{AreEnds}
use Rattle.pool_transaction.proofs.PuddlesFinished.Leading.{ends_finished}
use Rattle.daemon_memory.proofs.PuddlesRewritten.StepsMoved.{upto}
use Rattle.known_pool.specs.Known.{Known, IsKnown, by_puddles, with_puddles}
use Rattle.known_pool.proofs.KnownKept.{IsKnown-puddles}
use Rattle.std.proofs.lemmas.List.{set-set}
use Rattle.daemon_memory.proofs.PoolsKnown.Known.{known_kept_there}
use Rattle.daemon_memory.proofs.PoolsKnown.KnownOpen.{known_within}
use Rattle.pool_transaction.proofs.Lifetimes.ActiveRuns.{with_tx, is_active}
use Rattle.pool_transaction.proofs.Updates.ActiveSets.{after_line, same_stored, owed, Applies-line}
use Rattle.pool_transaction.proofs.PuddlesFinished.FinishedPools.{IsRewrittenAt-finished}
use Rattle.pool_transaction.proofs.PuddlesFinished.FoundAfter.{found_after, found_within_after}
use Rattle.pool_transaction.proofs.PuddlesFinished.ActiveFinishes.{its_placed, its_frontiers, Applies-unfinished, ready_finished, known_finished, spared_finished, Applies-after}

-- What the call that makes the found update owes.
abbrev pub CarriesOut : (F : ℕ) → List (ℕ × Puddle) → FoundUpdate → (log now : OpenLog) → Option HostFault → State → State → Type 0
CarriesOut F at found log now fault old new =
    (types : List (ℕ × ℕ)) (before : Image) (graph_before : Graph) (t : Transaction) (update : Update) → ArePlacedPuddles F at → IsRewrittenAt at (ordinal_written found)
    → IsOpenOn F at types log before graph_before t.now t.deferred old.now.words → MayChange types t update → IsFoundBy F at (reads old.now.words) update found
    → KeepsOpenOn F at types now before graph_before (changed_by update t).now (changed_by update t).deferred fault old new

-- What it owes about the units.
abbrev pub CountsOut : (F : ℕ) → List (ℕ × Puddle) → (tx now : OpenTx) → Result Unit HostFault → State → Type 0
CountsOut F at tx now done old =
    (types : List (ℕ × ℕ)) (before : Image) (graph_before : Graph) (seen : Graph) (deferred : List DeferredValue) → IsOpenOn F at types tx.log before graph_before seen deferred old.now.words
    → IfOk done (λ _. now.units ≡ tx.units + SET_UNITS)

module _ (size : ℕ) (w : World) (memory : Memory) (active : ActiveTransaction) (old : State) (F : ℕ) (known : Known) (its : IsActiveWith F active known memory) (ready : IsReady size w memory old)
    (update : Update) (o : ℕ) (later : List (ℕ × Puddle)) (mid : State) where
  on : F ≡ w.stored.frames
  on = sym its.frames ∙ ready.frames

  abbrev at : List (ℕ × Puddle)
  at = known.puddles

  abbrev goal : ℕ → ℕ
  goal = frontier_at o (finished_at o at)

  abbrev next : World
  next = after w (command_of_update update active.client active.name)

  abbrev then : Memory
  then = record memory { known_pools = set memory.known_pools active.slot (Some (with_puddles later known)) }

  -- What the call that rewrites the puddle with the ordinal owes.
  abbrev pub Finishes : Option HostFault → Type 0
  Finishes fault = HasIdleGate DAEMON_LOG old.now.words → HasLowBases at → Rewrites F goal at later fault old mid

  its_ends : AreEnds at (finished_at o at) (upto goal) (end_in at o)
  its_ends = ends_finished at o (its_frontiers size w memory active old active.log_number its.there ready F on known its.known)

  -- If that call failed, what is owed for the line holds.
  pub Applies-unfinished_update : (found : FoundUpdate) → o ≡ ordinal_written found → (following : Memory) (fault : HostFault) → Finishes (Some fault)
      → AppliesTo (led_in active.slot (end_in at (ordinal_written found))) size w next following (Some fault) old mid
  Applies-unfinished_update found is following fault finishes =
      subst (λ (n : ℕ). AppliesTo (led_in active.slot (end_in at n)) size w next following (Some fault) old mid) is
      (Applies-unfinished size w memory active old active.log_number its.there ready F on known its.known goal later (finished_at o at) (end_in at o) its_ends fault mid finishes next following
      (same_stored w active.client active.name update))

  -- Otherwise the update is made after it.
  module _ (found : FoundUpdate) (is : o ≡ ordinal_written found) (finished : later ≡ finished_at o at) (finishes : Finishes None) (lent : List (ℕ × Puddle)) (same : lent ≡ later) where
    still_ready : IsReady size w then mid
    still_ready = ready_finished size w memory active old active.log_number its.there ready F on known its.known goal later mid finishes

    known_then : known_pool_in then.known_pools active.slot ≡ Some (with_puddles later known)
    known_then = known_finished size w memory active old active.log_number its.there ready F on known its.known goal later mid finishes

    rewritten_lent : IsRewrittenAt lent (ordinal_written found)
    rewritten_lent =
        subst (λ (n : ℕ). IsRewrittenAt lent n) is
        (subst (λ (ds : List (ℕ × Puddle)). IsRewrittenAt ds o) (sym (same ∙ finished)) (IsRewrittenAt-finished at o (its_frontiers size w memory active old active.log_number its.there ready F on known its.known)))

    found_lent : IsFoundBy F at (reads old.now.words) update found → IsFoundBy F lent (reads mid.now.words) update found
    found_lent by =
        let spares = spared_finished size w memory active old active.log_number its.there ready F on known its.known goal later mid finishes in
        subst (λ (ds : List (ℕ × Puddle)). IsFoundBy F ds (reads mid.now.words) update found) (sym same) (found_after F at later (reads old.now.words) (reads mid.now.words) spares update found by)

    module _ (tx : OpenTx) (new : State) (gate : tx.log.gate_at ≡ active.tx.log.gate_at) (done : Result Unit HostFault) (free : refusal_of w (command_of_update update active.client active.name) ≡ None)
        (by : IsFoundBy F at (reads old.now.words) update found) (runs : CarriesOut F lent found active.tx.log tx.log (fault_of done) mid new) (counts : CountsOut F lent active.tx tx done mid) where
      abbrev one : IsActive w active still_ready.mask mid.now.words
      one = is_active size w then active mid active.log_number its.there still_ready

      same_mid : later ≡ (is_active size w then active mid active.log_number its.there still_ready).puddles
      same_mid = sym (active_known size w then mid still_ready active.log_number active its.there later (ap puddles_known known_then))

      -- The line is carried out, if this is known about the pool afterwards.
      Applies-lent : (kept : Known) → kept.puddles ≡ later → (fault_of done ≡ None → IsKnown w.stored.frames (reads new.now.words) kept)
          → Applies size w next (with_known active.log_number active.slot (with_tx tx active) kept then) (fault_of done) mid new
      Applies-lent kept puddles so =
          Applies-line size w then active mid active.log_number its.there still_ready F lent on (same ∙ same_mid) tx new gate kept (puddles ∙ same_mid) update done free
          (λ may placed running. runs w.stored.types one.before one.graph_before one.own.transaction update placed rewritten_lent running may (found_lent by))
          (λ placed running. counts w.stored.types one.before one.graph_before one.own.transaction.now one.own.transaction.deferred running) so

      -- What follows the update is known about the pool.
      module _ (serials : fault_of done ≡ None → ArePlacedPuddles F lent → SparesSerials F lent found (reads mid.now.words) (reads new.now.words)) (g : Graph) (stored : graph_of (types_of (reads old.now.words)) (stored_in F at (reads old.now.words)) ≡ Some g)
          (within : IsFoundWithin at found) (read : IsReadOf g update found) (more : Known) (follows : FollowsUpdate F at (reads old.now.words) g found known more) where
        known_updated : fault_of done ≡ None → IsKnown F (reads new.now.words) (with_puddles later more)
        known_updated none =
            let ready_new = (Applies-lent (by_puddles later) refl (λ none. IsKnown-puddles w.stored.frames later (reads new.now.words))).ready none in
            let was : IsActive w active ready.mask old.now.words = is_active size w memory active old active.log_number its.there ready in
            let same_old : at ≡ was.puddles = sym (active_known size w memory old ready active.log_number active its.there at (ap puddles_known its.known)) in
            let types_mid = (types_read size w then mid still_ready).types in
            let types_old = (types_read size w memory old ready).types in
            let types_new = (types_read size next (with_known active.log_number active.slot (with_tx tx active) (by_puddles later) then) new ready_new).types ∙ ap (λ (v : World). v.stored.types) (after_line w active.client active.name update) in
            let graph_mid : graph_of (types_of (reads mid.now.words)) (stored_in F later (reads mid.now.words)) ≡ Some one.own.transaction.now =
            (λ p. graph_of (types_mid p) (stored_in (on p) (same_mid p) (reads mid.now.words))) ∙ one.running.is in
            let graph_old : graph_of (types_of (reads old.now.words)) (stored_in F at (reads old.now.words)) ≡ Some was.own.transaction.now =
            (λ p. graph_of (types_old p) (stored_in (on p) (same_old p) (reads old.now.words))) ∙ was.running.is in
            let its_graph : was.own.transaction.now ≡ g = same_Some was.own.transaction.now g (sym graph_old ∙ stored) in
            let one_graph : one.own.transaction.now ≡ g = ap (λ (t : Transaction). t.now) (same_Some one.own.transaction was.own.transaction (sym one.own.is ∙ was.own.is)) ∙ its_graph in
            let spares = spared_finished size w memory active old active.log_number its.there ready F on known its.known goal later mid finishes in
            let known_mid = subst (λ (n : ℕ). IsKnown n (reads mid.now.words) (with_puddles later known)) (sym on) (still_ready.knows.known_pools.known active.slot (with_puddles later known) known_then) in
            let may = may_change_unrefused w active.client active.name update (stored_in w.stored.frames one.puddles (reads mid.now.words)) one.own.transaction one.own.is one.running.is free in
            let ran = owed size w then active mid active.log_number its.there still_ready F lent on (same ∙ same_mid) tx new gate (changed_by update) (fault_of done)
            (λ placed running. runs w.stored.types one.before one.graph_before one.own.transaction update placed rewritten_lent running may (found_lent by)) in
            let after_then : graph_of (types_of (reads mid.now.words)) (stored_in F later (reads new.now.words)) ≡ Some (changed_by update one.own.transaction).now =
            (λ p. graph_of (types_mid p) (stored_in (on p) (same_mid p) (reads new.now.words))) ∙ ran.is none in
            IsKnown-followed F (with_puddles later known) (reads mid.now.words) (reads new.now.words) g (graph_mid ∙ ap (λ (k : Graph). Some k) one_graph) (types_new ∙ sym types_mid) known_mid update one.own.transaction one_graph after_then (with_puddles later more) found (found_within_after at later found spares.moved within) read
            (found_after F at later (reads old.now.words) (reads mid.now.words) spares update found by)
            (subst (λ (ps : List (ℕ × Puddle)). SparesSerials F ps found (reads mid.now.words) (reads new.now.words)) same (serials none (subst (ArePlacedPuddles F) (sym same) (its_placed size w then active mid active.log_number its.there still_ready F on (with_puddles later known) known_then))))
            (followed_after F at later (reads old.now.words) (reads mid.now.words) g (place_in_pool-spared F at later (reads old.now.words) (reads mid.now.words) spares) known more found follows)

        pub Applies-update : AppliesTo (led_in active.slot (end_in at (ordinal_written found))) size w next (with_known active.log_number active.slot (with_tx tx active) (with_puddles later more) memory) (fault_of done) old new
        Applies-update =
            let following = with_known active.log_number active.slot (with_tx tx active) (with_puddles later more) memory in
            subst (λ (n : ℕ). AppliesTo (led_in active.slot (end_in at n)) size w next following (fault_of done) old new) is
            (Applies-after size w memory active old active.log_number its.there ready F on known its.known goal later (finished_at o at) (end_in at o) its_ends mid finishes next following (fault_of done) new
            (same_stored w active.client active.name update)
            (known_kept_there memory.known_pools active.slot (with_puddles later more) (known_within memory.known_pools active.slot at (ap puddles_known its.known)) ∙ ap (λ (ds : List (ℕ × Puddle)). Some ds) finished)
            (subst (λ (js : List (Option Known)). Applies size w next (record following { known_pools = js }) (fault_of done) mid new) (set-set memory.known_pools active.slot (Some (with_puddles later known)) (Some (with_puddles later more)))
            (Applies-lent (with_puddles later more) refl (λ none. subst (λ (n : ℕ). IsKnown n (reads new.now.words) (with_puddles later more)) on (known_updated none)))))
