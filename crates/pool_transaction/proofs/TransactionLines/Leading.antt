-- Where a change in a transaction leads the frontiers of its pool.
use Rattle.std.proofs.Common.{◌≡◌, inl, inr, ℕ, List, Option, Some, None, refl, ap, ◌∙◌}
use Rattle.pm_model.specs.declared.host.HostFault.{HostFault}
use Rattle.pm_model.specs.declared.host.HostFault.TheVariants.{Failed}
use Rattle.pm_model.specs.Words.{reads}
use Rattle.pm_model.specs.Moments.{State}
use Rattle.pud_defs.specs.declared.machine.Command.{Command}
use Rattle.pud_defs.specs.declared.machine.Refusal.{Refusal}
use Rattle.pud_defs.specs.declared.records.Puddle.{Puddle}
use Rattle.pud_defs.specs.RegistryTables.Tables.{tables_of, puddles_in_turn}
use Rattle.pud_defs.specs.StateMachine.Step.{refusal_of}
use Rattle.pud_defs.specs.StateMachine.World.{World}
use Rattle.daemon_memory.specs.Arriving.{UnlessFailed}
use Rattle.daemon_memory.specs.Leading.{LeadsUnless, AppliesWith}
use Rattle.daemon_memory.specs.Memory.{Memory}
use Rattle.daemon_memory.specs.Moves.{still, led_in}
use Rattle.daemon_memory.specs.Owning.{IsRecordSlot}
use Rattle.pool_transaction.specs.declared.changing.Change.{Change}
use Rattle.pool_transaction.specs.Changing.{command_of_change}
use Rattle.pool_transaction.specs.Ending.{LeadsChange}
use Rattle.pool_transaction.specs.Finishing.{Finishes, FinishesUnless, AppliesFinishing}
use Rattle.pool_transaction.proofs.PuddlesFinished.Leading.{led_none}

module _ (size : ℕ) (w next : World) (client : ℕ) (name : List ℕ) (change : Change) (memory : Memory) (fault : Option HostFault) (old new : State) (slot : ℕ)
    (at : IsRecordSlot w.stored.frames name (reads old.now.words) slot) where
  abbrev line : Command
  line = command_of_change change client name

  -- its pool's puddles, as they are read
  abbrev puddles : List (ℕ × Puddle)
  puddles = puddles_in_turn (tables_of w.stored.frames (reads old.now.words)) slot

  -- its goals, unless it is refused
  change_goals : (why : Option Refusal) (goal : ℕ → ℕ) → FinishesUnless why (Finishes w.stored.frames puddles (reads old.now.words) change) goal
      → LeadsUnless why (LeadsChange w.stored.frames name change (reads old.now.words)) (led_in slot goal)
  change_goals None goal so = record { slot = slot; is = at; by = goal; goals_are = so; goal_is = refl }
  change_goals (Some why) goal so = ap (led_in slot) so ∙ led_none slot

  -- they are known, or no frontier moved
  leads_change : (a : AppliesFinishing slot (FinishesUnless (refusal_of w line) (Finishes w.stored.frames puddles (reads old.now.words) change)) size w next memory fault old new)
      → UnlessFailed (fault ≡ Some Failed) (LeadsUnless (refusal_of w line) (LeadsChange w.stored.frames name change (reads old.now.words)) (led_in slot a.goal)) (led_in slot a.goal ≡ still)
  leads_change a = elim a.finishing [
    | inl so ↦ inl (change_goals (refusal_of w line) a.goal so)
    | inr not_known ↦ inr (not_known.0, ap (led_in slot) not_known.1 ∙ led_none slot)
  ]

  -- it leads them there
  pub AppliesWith-change : AppliesFinishing slot (FinishesUnless (refusal_of w line) (Finishes w.stored.frames puddles (reads old.now.words) change)) size w next memory fault old new
      → AppliesWith (LeadsChange w.stored.frames name change) size w next line memory fault old new
  AppliesWith-change a = record { goal = led_in slot a.goal; leads = leads_change a; applies = a.applies }
