-- Where a line leads frontiers: nowhere if it is refused or only reads.
use Rattle.std.proofs.Common.{◌≡◌, inl, inr, ℕ, Option, Some, None, refl, sym, subst}
use Rattle.pm_model.specs.declared.host.HostFault.{HostFault}
use Rattle.pm_model.specs.declared.host.HostFault.TheVariants.{Cut, Failed}
use Rattle.pm_model.specs.Words.{reads}
use Rattle.pm_model.specs.Moments.{State}
use Rattle.pud_defs.specs.declared.machine.Command.{Command}
use Rattle.pud_defs.specs.declared.machine.Refusal.{Refusal}
use Rattle.pud_defs.specs.Formats.Image.{Image}
use Rattle.pud_defs.specs.RegistryTables.Puddles.{Member}
use Rattle.pud_defs.specs.StateMachine.Step.{refusal_of}
use Rattle.pud_defs.specs.StateMachine.World.{World}
use Rattle.daemon_memory.specs.Arriving.{Arrives, UnlessFailed}
use Rattle.daemon_memory.specs.Leading.{LeadsUnless, AppliesLed, AppliesWith}
use Rattle.daemon_memory.specs.Memory.{Memory}
use Rattle.daemon_memory.specs.Moves.{Stays, MovesTo, still}
use Rattle.daemon_memory.specs.Ready.{Applies}
use Rattle.daemon_memory.proofs.Commands.Applying.{AppliesBy-weaker}
use Rattle.daemon_memory.proofs.PoolChanges.Goals.{stays_still, failed_alone}
use Rattle.daemon_memory.proofs.PuddlesRewritten.Arriving.{became}

module _ (Leads : (Member → Option ℕ) → Type 0) where
  -- a line whose goals are those of no move moves none, refused or not
  pub leads_still : (why : Option Refusal) → Leads still → LeadsUnless why Leads still
  leads_still None leads = leads
  leads_still (Some r) leads = refl

  -- nor does one that is refused
  pub leads_refused : (why : Option Refusal) (r : Refusal) → why ≡ Some r → LeadsUnless why Leads still
  leads_refused why r refused = subst (λ (o : Option Refusal). LeadsUnless o Leads still) (sym refused) refl

  -- one that is not refused has its goals
  pub leads_free : (why : Option Refusal) → why ≡ None → (goal : Member → Option ℕ) → Leads goal → LeadsUnless why Leads goal
  leads_free why free goal leads = subst (λ (o : Option Refusal). LeadsUnless o Leads goal) (sym free) leads

module _ (size : ℕ) (w next : World) (memory : Memory) (fault : Option HostFault) (old new : State) where
  -- each record is where it was
  pub arrives_still : Applies size w next memory fault old new → fault ≡ None → Arrives w.stored.frames still (reads old.now.words) (reads new.now.words)
  arrives_still a done = record {
    each = λ frame m used. became Stays size w next memory old new (subst (λ (f : Option HostFault). Applies size w next memory f old new) done a) frame m used;
    come = λ frame m used. refl;
  }

  pub AppliesLed-still : (Leads : (Member → Option ℕ) → Type 0) → UnlessFailed (fault ≡ Some Failed) (Leads still) (still ≡ still) → Applies size w next memory fault old new → AppliesLed Leads size w next memory fault old new
  AppliesLed-still Leads leads a = record {
    goal = still;
    leads = leads;
    applies = record { applies = AppliesBy-weaker Stays (MovesTo still) stays_still size w next memory fault old new a; arrives = arrives_still a };
  }

  module _ (Leads : Image → (Member → Option ℕ) → Type 0) (c : Command) where
    pub AppliesWith-still : Leads (reads old.now.words) still → Applies size w next memory fault old new → AppliesWith Leads size w next c memory fault old new
    AppliesWith-still leads a =
        AppliesLed-still (LeadsUnless (refusal_of w c) (Leads (reads old.now.words))) (inl (leads_still (Leads (reads old.now.words)) (refusal_of w c) leads)) a

    pub AppliesWith-refused : (r : Refusal) → refusal_of w c ≡ Some r → Applies size w next memory fault old new → AppliesWith Leads size w next c memory fault old new
    AppliesWith-refused r refused a =
        AppliesLed-still (LeadsUnless (refusal_of w c) (Leads (reads old.now.words))) (inl (leads_refused (Leads (reads old.now.words)) (refusal_of w c) r refused)) a

-- a reading failed before the goals were known
pub AppliesLed-failed : (Leads : (Member → Option ℕ) → Type 0) (size : ℕ) (w next : World) (memory : Memory) (fault : HostFault) (old new : State) → (Some fault ≡ Some Cut → ⊥) → Applies size w next memory (Some fault) old new
    → AppliesLed Leads size w next memory (Some fault) old new
AppliesLed-failed Leads size w next memory fault old new never_cut a = AppliesLed-still size w next memory (Some fault) old new Leads (inr (failed_alone fault never_cut, refl)) a
