-- The line that updates an active transaction, after its update was found: what it owes by the calls that rewrite a
-- puddle to its end and make the update.
use Rattle.std.proofs.Common.{◌≡◌, ℕ, List, Option, Some, None, Result, Err, refl, sym, ap, subst, ◌∙◌}
use Rattle.std.specs.Prelude.{IfOk}
use Rattle.pm_model.specs.declared.host.HostFault.{HostFault}
use Rattle.pm_model.specs.Counts.{fault_of}
use Rattle.pm_model.specs.Words.{reads}
use Rattle.pm_model.specs.Moments.{State}
use Rattle.pm_model.specs.Changes.{Changes}
use Rattle.pud_defs.specs.declared.layout.TheConstants.{DAEMON_LOG}
use Rattle.pud_defs.specs.declared.machine.Command.{Command}
use Rattle.pud_defs.specs.declared.machine.Reply.{Reply}
use Rattle.pud_defs.specs.declared.machine.Reply.TheVariants as replies
use Rattle.pud_defs.specs.declared.records.Puddle.{Puddle}
use Rattle.pud_defs.specs.StateMachine.Step.{refusal_of, after, world_by}
use Rattle.pud_defs.specs.StateMachine.World.{World}
use Rattle.graph_read.specs.Bases.{HasLowBases}
use Rattle.batch.specs.Batches.{HasIdleGate}
use Rattle.lazy_rewrite.specs.Batches.{Rewrites}
use Rattle.lazy_rewrite.specs.Frontiers.{finished_at, frontier_at}
use Rattle.hybrid_tx.specs.PoolScopes.{ArePlacedPuddles}
use Rattle.hybrid_tx.specs.Objects.Transactions.{OpenTx}
use Rattle.known_pool.specs.Known.{Known, with_puddles}
use Rattle.daemon_memory.specs.Memory.{ActiveTransaction, Memory}
use Rattle.daemon_memory.specs.Moves.{led_in}
use Rattle.pool_transaction.specs.declared.changing.FoundUpdate.{FoundUpdate}
use Rattle.pool_transaction.specs.declared.changing.Update.{Update}
use Rattle.pool_transaction.specs.Changing.{RunsWith, with_known, command_of_update, IsUpdate, SparesSerials, FollowsUpdate, ordinal_written}
use Rattle.pool_transaction.specs.Finishing.{end_in, FinishesFor, FinishesUnless, AppliesFinishing}
use Rattle.daemon_memory.specs.Arriving.{AppliesTo}
use Rattle.pool_transaction.specs.Writing.{ByUpdate, Updates, DoesUnless}
use Rattle.pool_transaction.proofs.Lifetimes.ActiveRuns.{with_tx}
use Rattle.pool_transaction.proofs.PuddlesFinished.Leading.{AppliesTo-after_reads, finishes_found, finishing_free}
use Rattle.pool_transaction.proofs.Updates.ActiveUpdates.{CarriesOut, CountsOut, Applies-unfinished_update, Applies-update}
use Rattle.pool_transaction.specs.Premises.{DoesUpdate}
use Rattle.pool_transaction.proofs.Updates.ChangeAnswers.{change_answer, reply_as}
use Rattle.pool_transaction.proofs.WordsWritten.OpenLogs.{does_free}
use Rattle.pool_transaction.proofs.WordsWritten.UpdatesWritten.{unfinished_update, written_update, line_written}

-- What the line owes.
abbrev pub OwesLine : (F : ℕ) → ActiveTransaction → Known → Update → (size : ℕ) → World → Memory → Option HostFault → (old new : State) → Type 0
OwesLine F active known update size w following fault old new =
    AppliesFinishing active.slot (FinishesUnless (refusal_of w (command_of_update update active.client active.name)) (FinishesFor F known.puddles (reads old.now.words) update)) size w
    (world_by w (Some (command_of_update update active.client active.name))) following fault old new

-- What the call that rewrites the puddle with an ordinal owes, on the puddles that are lent to it.
abbrev pub Rewritten : (F o : ℕ) → (lent later : List (ℕ × Puddle)) → Option HostFault → (from mid : State) → Type 0
Rewritten F o lent later fault from mid = HasIdleGate DAEMON_LOG from.now.words → HasLowBases lent → Rewrites F (frontier_at o (finished_at o lent)) lent later fault from mid

module _ (F words : ℕ) (active : ActiveTransaction) (known : Known) (size : ℕ) (w : World) (memory : Memory) (old : State) (runs : RunsWith F words active known size w memory old) (update : Update) (found : FoundUpdate)
    (u : IsUpdate F active known w (reads old.now.words) update found) (o : ℕ) (is : o ≡ ordinal_written found) (lent later : List (ℕ × Puddle)) (same : lent ≡ known.puddles) (from mid : State) (still : from ≡ old) where
  abbrev line : Command
  line = command_of_update update active.client active.name

  abbrev goal : ℕ → ℕ
  goal = end_in known.puddles (ordinal_written found)

  rewritten : (fault : Option HostFault) → Rewritten F o lent later fault from mid → Rewritten F o known.puddles later fault old mid
  rewritten fault owes = subst (λ (ps : List (ℕ × Puddle)). Rewritten F o ps later fault old mid) same (subst (λ (s : State). Rewritten F o lent later fault s mid) still owes)

  led_so : (following : Memory) (fault : Option HostFault) (new : State) → AppliesTo (led_in active.slot goal) size w (after w line) following fault old new → OwesLine F active known update size w following fault old new
  led_so following fault new applies =
      finishing_free active.slot (FinishesFor F known.puddles (reads old.now.words) update) (refusal_of w line) u.free goal (finishes_found F known.puddles (reads old.now.words) update found u.within u.by) size w
      (world_by w (Some line)) following fault old new (AppliesTo-after_reads active.slot goal size w following line fault old old new u.free refl applies)

  -- If the puddle was not rewritten to its end, what the line owes holds.
  pub line_unfinished : (now : ActiveTransaction) (left : Known) (fault : HostFault) → Rewritten F o lent later (Some fault) from mid → DoesUpdate F active now known left update size w memory (Err fault) old mid
  line_unfinished now left fault owes =
      let following = with_known active.log_number active.slot now left memory in
      record {
        reply = tt;
        applies = led_so following (Some fault) mid (Applies-unfinished_update size w memory active old F known runs.its runs.ready update o later mid found is following fault (rewritten (Some fault) owes));
        writes = does_free (Updates F active.client update known.puddles) (refusal_of w line) (Some fault) u.free
            (line_written F active known memory runs.its size w old runs.ready update found u.within u.by later (Some fault) mid
            (unfinished_update F active known memory runs.its size w old runs.ready found o is later mid fault (rewritten (Some fault) owes)));
      }

  -- The puddle was rewritten to its end, and then the update is made.
  module _ (whole : later ≡ finished_at o lent) (owes : Rewritten F o lent later None from mid) (slice : List (ℕ × Puddle)) (listed : slice ≡ later) (new : State) where
    finished : later ≡ finished_at o known.puddles
    finished = whole ∙ ap (finished_at o) same

    line_applied : (followed more : Known) → more ≡ followed → FollowsUpdate F known.puddles (reads old.now.words) u.g found known followed → (tx : OpenTx) → tx.log.gate_at ≡ active.tx.log.gate_at → (done : Result Unit HostFault)
        → CarriesOut F slice found active.tx.log tx.log (fault_of done) mid new → CountsOut F slice active.tx tx done mid
        → (fault_of done ≡ None → ArePlacedPuddles F slice → SparesSerials F slice found (reads mid.now.words) (reads new.now.words))
        → OwesLine F active known update size w (with_known active.log_number active.slot (with_tx tx active) (with_puddles later more) memory) (fault_of done) old new
    line_applied followed more viewed follows tx gate done carries counts serials =
        subst (λ (k : Known). OwesLine F active known update size w (with_known active.log_number active.slot (with_tx tx active) (with_puddles later k) memory) (fault_of done) old new) (sym viewed)
        (led_so (with_known active.log_number active.slot (with_tx tx active) (with_puddles later followed) memory) (fault_of done) new
        (Applies-update size w memory active old F known runs.its runs.ready update o later mid found is finished (rewritten None owes) slice listed tx new gate done u.free u.by carries counts serials u.g u.stored u.within u.read followed follows))

    writes_made : (fault : Option HostFault) → Changes (ByUpdate F active.tx.log.gate_at slice found) fault mid new → DoesUnless (refusal_of w line) (Updates F active.client update known.puddles) fault old new
    writes_made fault puts =
        does_free (Updates F active.client update known.puddles) (refusal_of w line) fault u.free
        (line_written F active known memory runs.its size w old runs.ready update found u.within u.by later fault new
        (written_update F active known memory runs.its size w old runs.ready found o is later mid (rewritten None owes) finished slice listed active.tx.log.gate_at refl fault new puts))

    -- What is kept of the pool followed the update before.
    pub line_made : (followed more : Known) → more ≡ followed → FollowsUpdate F known.puddles (reads old.now.words) u.g found known followed → (tx : OpenTx) → tx.log.gate_at ≡ active.tx.log.gate_at → (done : Result Unit HostFault)
        → CarriesOut F slice found active.tx.log tx.log (fault_of done) mid new → CountsOut F slice active.tx tx done mid
        → (fault_of done ≡ None → ArePlacedPuddles F slice → SparesSerials F slice found (reads mid.now.words) (reads new.now.words)) → Changes (ByUpdate F active.tx.log.gate_at slice found) (fault_of done) mid new
        → (said : Result Reply HostFault) → fault_of done ≡ fault_of said → IfOk said (λ reply. reply ≡ replies.Ok) → DoesUpdate F active (with_tx tx active) known (with_puddles later more) update size w memory said old new
    line_made followed more viewed follows tx gate done carries counts serials puts said same told = record {
      reply = reply_as said told (change_answer active.client active.name w update u.free);
      applies = subst (λ (f : Option HostFault). OwesLine F active known update size w (with_known active.log_number active.slot (with_tx tx active) (with_puddles later more) memory) f old new) same
          (line_applied followed more viewed follows tx gate done carries counts serials);
      writes = writes_made (fault_of said) (subst (λ (f : Option HostFault). Changes (ByUpdate F active.tx.log.gate_at slice found) f mid new) same puts);
    }
