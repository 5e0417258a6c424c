-- Lines that make and drop a pool: what each does on the device, by what its call did.
use Rattle.std.proofs.Common.{◌≡◌, ◌≤◌, ℕ, List, Option, Some, None, Result, refl, sym, subst, ◌∙◌}
use Rattle.std.proofs.lemmas.Option.{none-some}
use Rattle.pm_model.specs.declared.host.HostFault.{HostFault}
use Rattle.pm_model.specs.Counts.{fault_of}
use Rattle.pm_model.specs.Moments.{State}
use Rattle.pm_model.specs.Words.{reads}
use Rattle.pud_defs.specs.declared.layout.TheConstants.{DAEMON_LOG, NEXT_NUMBER_WORD}
use Rattle.pud_defs.specs.declared.machine.Command.{Command}
use Rattle.pud_defs.specs.declared.machine.Command.TheVariants as commands
use Rattle.pud_defs.specs.declared.records.Puddle.{Puddle}
use Rattle.pud_defs.specs.declared.records.TheConstants.{MAX_PUDDLES}
use Rattle.pud_defs.specs.RegistryTables.Keyed.{count_used}
use Rattle.pud_defs.specs.RegistryTables.Spaces.{owner}
use Rattle.pud_defs.specs.RegistryTables.Tables.{tables_of, members}
use Rattle.pud_defs.specs.StateMachine.Step.{refusal_of}
use Rattle.pud_defs.specs.StateMachine.World.{World}
use Rattle.batch.specs.Batches.{HasIdleGate}
use Rattle.registry.specs.declared.making.MakeFault.{MakeFault}
use Rattle.registry.specs.Places.{make_fault, make_refusal}
use Rattle.registry.specs.Pools.{dropping, OrStill, CommitsPuts, MakesSomewhere}
use Rattle.daemon_memory.specs.Memory.{Memory}
use Rattle.daemon_memory.specs.Owning.{reply_of_making, IsRecordSlot}
use Rattle.daemon_memory.specs.Ready.{IsReady}
use Rattle.daemon_memory.proofs.Commands.Beneath.{ready_gate}
use Rattle.daemon_memory.proofs.PoolChanges.Pooling.{IsActing, allowed_made, refused_made, fault_of_making, few}
use Rattle.daemon_memory.specs.declared.line_answer.LineAnswer.{LineAnswer}
use Rattle.daemon_memory.specs.LineAnswers.{as_line_answer}
use Rattle.daemon_memory.proofs.Commands.Acting.{acts_refused, acts_or_still, OnPool-after, fault_of_answer}
use Rattle.daemon_memory.specs.Doing.{ActsWith}
use Rattle.pool_lines.specs.Effects.{MakesPool, DropsPool}

module _ (size : ℕ) (w : World) (memory : Memory) (client uid gid mode : ℕ) (name : List ℕ) (done : Result (Unit {0}) MakeFault) (old new : State) (ready : IsReady size w memory old) (who : IsActing w client uid gid) where
  abbrev pool_line : Command
  pool_line = commands.Pool client name mode

  abbrev next_number : ℕ
  next_number = reads old.now.words NEXT_NUMBER_WORD

  -- Why the pool is not made, on this many frames.
  abbrev refused_on : ℕ → Option MakeFault
  refused_on n = make_refusal (tables_of n (reads old.now.words)) next_number name

  -- What the call does.
  abbrev Makes : ℕ → Option HostFault → State → State → Type 0
  Makes n fault a b = MakesSomewhere (tables_of n (reads old.now.words)) next_number name uid gid mode fault a b

  abbrev Made : ℕ → Type 0
  Made n = HasIdleGate DAEMON_LOG old.now.words → refused_on n ≡ None → OrStill (Makes n) (make_fault done) old new

  abbrev answer_made : Result LineAnswer HostFault
  answer_made = as_line_answer (reply_of_making done)

  made_by : (r : Option MakeFault) → refused_on w.stored.frames ≡ r → Made w.stored.frames → ((refused_on w.stored.frames ≡ None → ⊥) → new ≡ old) → ActsWith (MakesPool w client name mode) w pool_line answer_made old new
  made_by None is makes still =
      acts_or_still w pool_line _ answer_made (Makes w.stored.frames) old new (allowed_made size w memory old ready client uid gid mode name who is)
      (subst (λ (fault : Option HostFault). OrStill (Makes w.stored.frames) fault old new) (sym (fault_of_answer (reply_of_making done) ∙ fault_of_making done)) (makes (ready_gate size w memory old ready) is))
      (λ made. record { who = owner uid gid; is = who.is; does = made })
  made_by (Some r) is makes still =
      let refused = refused_made size w memory old ready client uid gid mode name who r is in
      acts_refused w pool_line _ refused.0 answer_made refused.1 (still (λ none. none-some r (sym none ∙ is)))

  -- The pool is made by one batch, after its frame is filled; or nothing is done.
  pub acts_making : (F : ℕ) → F ≡ w.stored.frames → Made F → ((refused_on F ≡ None → ⊥) → new ≡ old) → ActsWith (MakesPool w client name mode) w pool_line answer_made old new
  acts_making F frames =
      subst (λ (n : ℕ). Made n → ((refused_on n ≡ None → ⊥) → new ≡ old) → ActsWith (MakesPool w client name mode) w pool_line answer_made old new) (sym frames) (made_by (refused_on w.stored.frames) refl)

module _ (size : ℕ) (w : World) (memory : Memory) (client slot : ℕ) (name : List ℕ) (done : Result LineAnswer HostFault) (a b d : State) (same : b ≡ a) (ready : IsReady size w memory b)
    (free : refusal_of w (commands.Drop client name) ≡ None) (at : IsRecordSlot w.stored.frames name (reads a.now.words) slot) where
  -- What the call does, on this many frames.
  abbrev Drops : ℕ → Type 0
  Drops n =
      HasIdleGate DAEMON_LOG b.now.words → count_used (members (tables_of n (reads b.now.words)) slot) 0 n ≤ MAX_PUDDLES
      → OrStill (CommitsPuts (dropping (tables_of n (reads b.now.words)) slot)) (fault_of done) b d

  there : IsRecordSlot w.stored.frames name (reads b.now.words) slot
  there = subst (λ (s : State). IsRecordSlot w.stored.frames name (reads s.now.words) slot) (sym same) at

  dropped_there : Drops w.stored.frames → ActsWith (DropsPool w name) w (commands.Drop client name) done a d
  dropped_there drops =
      subst (λ (s : State). ActsWith (DropsPool w name) w (commands.Drop client name) done s d) same
      (acts_or_still w (commands.Drop client name) _ done (CommitsPuts (dropping (tables_of w.stored.frames (reads b.now.words)) slot)) b d free
      (drops (ready_gate size w memory b ready) (few size w memory client slot name (fault_of done) b d ready free there))
      (λ commits. OnPool-after w.stored.frames name (λ (s : ℕ) (ps : List (ℕ × Puddle)) (x y : State). CommitsPuts (dropping (tables_of w.stored.frames (reads x.now.words)) s) (fault_of done) x y) slot b b d refl there commits))

  -- The pool's records are freed by one batch, from the state as it was; or nothing is done.
  pub acts_dropping : (F : ℕ) → F ≡ w.stored.frames → Drops F → ActsWith (DropsPool w name) w (commands.Drop client name) done a d
  acts_dropping F frames = subst (λ (n : ℕ). Drops n → ActsWith (DropsPool w name) w (commands.Drop client name) done a d) (sym frames) dropped_there
