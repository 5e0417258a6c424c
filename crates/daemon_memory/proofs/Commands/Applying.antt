-- A command that changes nothing, and one that is not refused.
use Rattle.std.proofs.Common.{◌≡◌, ◌⊎◌, inl, inr, ℕ, List, [], set, Option, Some, None, refl, sym, ap, subst, ◌∙◌}
use Rattle.std.proofs.lemmas.List.{append-nil}
use Rattle.pm_model.specs.declared.host.HostFault.{HostFault}
use Rattle.pm_model.specs.declared.host.HostFault.TheVariants.{Cut}
use Rattle.pm_model.specs.Words.{IsRested, reads}
use Rattle.pm_model.specs.Moments.{State}
use Rattle.pm_model.specs.Changes.{Silently}
use Rattle.pm_model.proofs.Leaves.{Leaves-still, Leaves-weaker, Leaves-then}
use Rattle.pud_defs.specs.declared.machine.Command.{Command}
use Rattle.pud_defs.specs.declared.machine.Refusal.{Refusal}
use Rattle.pud_defs.specs.declared.layout.TheConstants.{DAEMON_LOG}
use Rattle.pud_defs.specs.Formats.Image.{Image}
use Rattle.pud_defs.specs.RegistryTables.Puddles.{Member}
use Rattle.pud_defs.specs.Logging.Replay.{settled_by}
use Rattle.pud_defs.specs.RegistryTables.Tables.{tables_of}
use Rattle.pud_defs.specs.StateMachine.World.{StoredWorld, World, world_of, closed}
use Rattle.pud_defs.specs.StateMachine.Step.{refusal_of, after, unless_refused, world_by}
use Rattle.pud_defs.proofs.StateMachine.Steps.{done_world}
use Rattle.known_pool.specs.Known.{Known, IsKnown}
use Rattle.daemon_memory.specs.Memory.{Memory}
use Rattle.daemon_memory.specs.PoolKnowledge.{known_puddles_in}
use Rattle.daemon_memory.specs.KnownPools.{KnowsPools}
use Rattle.daemon_memory.specs.Moves.{Stays, LeavesPuddles}
use Rattle.daemon_memory.specs.Ready.{IsReady, StandsBetween, AppliesBy, Applies}
use Rattle.daemon_memory.proofs.Commands.Beside.{ready_stands}
use Rattle.daemon_memory.proofs.PoolsKnown.KnownOpen.{KnowsPools-again}
use Rattle.daemon_memory.proofs.PoolChanges.PuddlesLeft.{Joins, Joins-stays, LeavesPuddles-still, LeavesPuddles-then, LeavesPuddles-weaker, settled_ready}

-- Nothing happened.
pub Applies-still : (size : ℕ) (w : World) (memory : Memory) (fault : Option HostFault) (old new : State) → IsReady size w memory old → new ≡ old → (fault ≡ Some Cut → IsRested new.now.words)
    → Applies size w w memory fault old new
Applies-still size w memory fault old new ready same rests = record {
  moments = Leaves-still _ old new (λ image picked. let stands = ready_stands size w memory old ready image picked in (refl, (inl stands.0, stands.1))) same;
  puddles = LeavesPuddles-still size w memory old ready new same;
  quiet = ap (λ (s : State). s.now.said) same;
  ready = λ _. subst (λ (n : State). IsReady size w memory n) (sym same) ready;
  rests = rests;
  script = ap (λ (s : State). s.script) same;
}

pub Applies-idle : (size : ℕ) (w : World) (memory : Memory) (old new : State) → IsReady size w memory old → new ≡ old → Applies size w w memory None old new
Applies-idle size w memory old new ready same = Applies-still size w memory None old new ready same (λ no. absurd (let it : None ≡ Some Cut = no in cc))

-- A refused command leaves everything as it was.
pub Applies-refused : (size : ℕ) (w : World) (memory : Memory) (c : Command) (r : Refusal) (old new : State) → IsReady size w memory old → refusal_of w c ≡ Some r → new ≡ old
    → Applies size w (world_by w (Some c)) memory None old new
Applies-refused size w memory c r old new ready e same =
    subst (λ (v : World). Applies size w v memory None old new) (sym (ap (λ o. unless_refused o w (after w c)) e)) (Applies-idle size w memory old new ready same)

-- A command that is not refused gives its own world, also after calls that changed nothing.
pub Applies-accepted : {becomes : Member → Option Member → Type 0} (size : ℕ) (w : World) (memory : Memory) (c : Command) (fault : Option HostFault) (a b d : State) → refusal_of w c ≡ None → b ≡ a
    → (IsReady size w memory b → AppliesBy becomes size w (after w c) memory fault b d) → IsReady size w memory a → AppliesBy becomes size w (world_by w (Some c)) memory fault a d
Applies-accepted {becomes} size w memory c fault a b d none same applies ready =
    subst (λ (v : World). AppliesBy becomes size w v memory fault a d) (sym (ap (λ o. unless_refused o w (after w c)) none))
    (subst (λ (s : State). AppliesBy becomes size w (after w c) memory fault s d) same (applies (subst (λ (s : State). IsReady size w memory s) (sym same) ready)))

-- A fault that is no power loss came before anything was changed.
pub Applies-failed : (size : ℕ) (w next : World) (memory : Memory) (fault : HostFault) (old new : State) → IsReady size w memory old → new ≡ old → (Some fault ≡ Some Cut → ⊥)
    → Applies size w next memory (Some fault) old new
Applies-failed size w next memory fault old new ready same never_cut = record {
  moments = Leaves-still _ old new (λ image picked. let stands = ready_stands size w memory old ready image picked in (refl, (inl stands.0, stands.1))) same;
  puddles = LeavesPuddles-still size w memory old ready new same;
  quiet = ap (λ (s : State). s.now.said) same;
  ready = λ none. absurd (let it : None ≡ Some fault = sym none in cc);
  rests = λ cut. absurd (never_cut cut);
  script = ap (λ (s : State). s.script) same;
}

-- A fault came after calls that changed nothing. It may be a power loss.
pub Applies-stopped : (size : ℕ) (w next : World) (memory following : Memory) (fault : HostFault) (old new : State) → IsReady size w memory old → new ≡ old → (Some fault ≡ Some Cut → IsRested new.now.words)
    → Applies size w next following (Some fault) old new
Applies-stopped size w next memory following fault old new ready same rests = record {
  moments = Leaves-still _ old new (λ image picked. let stands = ready_stands size w memory old ready image picked in (refl, (inl stands.0, stands.1))) same;
  puddles = LeavesPuddles-still size w memory old ready new same;
  quiet = ap (λ (s : State). s.now.said) same;
  ready = λ none. absurd (let it : None ≡ Some fault = sym none in cc);
  rests = rests;
  script = ap (λ (s : State). s.script) same;
}

between_closed : (size : ℕ) (w mid next : World) → closed mid ≡ closed next → (image : Image) → (world_of size image ≡ Some (closed w)) ⊎ (world_of size image ≡ Some (closed mid))
    → (world_of size image ≡ Some (closed w)) ⊎ (world_of size image ≡ Some (closed next))
between_closed size w mid next same image (inl before) = inl before
between_closed size w mid next same image (inr after) = inr (after ∙ ap (λ (s : StoredWorld). Some s) same)

-- The same calls, for another world that has the same closed world, if a fault came.
pub Applies-closed : {becomes : Member → Option Member → Type 0} (size : ℕ) (w mid next : World) (memory following : Memory) (fault : HostFault) (old new : State) → closed mid ≡ closed next
    → AppliesBy becomes size w mid memory (Some fault) old new → AppliesBy becomes size w next following (Some fault) old new
Applies-closed size w mid next memory following fault old new same a = record {
  moments = Leaves-weaker (Silently (StandsBetween size w mid)) (Silently (StandsBetween size w next)) old new (λ bytes image m. (m.0, (between_closed size w mid next same image m.1.0, m.1.1))) a.moments;
  puddles = a.puddles;
  quiet = a.quiet;
  ready = λ none. absurd (let it : None ≡ Some fault = sym none in cc);
  rests = a.rests;
  script = a.script;
}

puddles_joined : (F size : ℕ) (mid : World) (first : Memory) (early late becomes : Member → Option Member → Type 0) → Joins early late becomes → (a b c : State) → F ≡ mid.stored.frames → b.now.said ≡ a.now.said
    → IsReady size mid first b → LeavesPuddles F early a b → LeavesPuddles mid.stored.frames late b c → LeavesPuddles F becomes a c
puddles_joined F size mid first early late becomes joins a b c frames quiet ready p q =
    LeavesPuddles-then F early late becomes a b c joins quiet
    (subst (λ (n : ℕ). tables_of n (settled_by DAEMON_LOG (reads b.now.words)) ≡ tables_of n (reads b.now.words)) (sym frames) (settled_ready size mid first b ready)) p
    (subst (λ (n : ℕ). LeavesPuddles n late b c) (sym frames) q)

-- These calls and then those, if the world in between has the same closed world as the last one.
pub AppliesBy-then : (early late becomes : Member → Option Member → Type 0) → Joins early late becomes → (size : ℕ) (w mid next : World) (first following : Memory) (fault : Option HostFault) (a b c : State)
    → closed mid ≡ closed next → w.stored.frames ≡ mid.stored.frames → AppliesBy early size w mid first None a b → AppliesBy late size mid next following fault b c → AppliesBy becomes size w next following fault a c
AppliesBy-then early late becomes joins size w mid next first following fault a b c same frames p q = record {
  moments = Leaves-then (Silently (StandsBetween size w mid)) (Silently (StandsBetween size mid next)) (Silently (StandsBetween size w next)) [] a b c (p.quiet ∙ sym (append-nil a.now.said))
      (λ front image m. (m.0, (between_closed size w mid next same image m.1.0, m.1.1)))
      (λ more image m. (m.0, (elim m.1.0 [ inl before ↦ inr (before ∙ ap (λ (s : StoredWorld). Some s) same) | inr after ↦ inr after ], m.1.1)))
      p.moments q.moments;
  puddles = puddles_joined w.stored.frames size mid first early late becomes joins a b c frames p.quiet (p.ready refl) p.puddles q.puddles;
  quiet = q.quiet ∙ p.quiet;
  ready = q.ready;
  rests = q.rests;
  script = q.script ∙ p.script;
}

-- The same, if no frontier moves in either.
pub Applies-then : (size : ℕ) (w mid next : World) (first following : Memory) (fault : Option HostFault) (a b c : State) → closed mid ≡ closed next → w.stored.frames ≡ mid.stored.frames
    → Applies size w mid first None a b → Applies size mid next following fault b c → Applies size w next following fault a c
Applies-then = AppliesBy-then Stays Stays Stays (Joins-stays Stays (λ m now is. is))

-- Less may be stated about what becomes of the records.
pub AppliesBy-weaker : (early becomes : Member → Option Member → Type 0) → ((m : Member) (now : Option Member) → early m now → becomes m now)
    → (size : ℕ) (w next : World) (memory : Memory) (fault : Option HostFault) (old new : State) → AppliesBy early size w next memory fault old new → AppliesBy becomes size w next memory fault old new
AppliesBy-weaker early becomes weaker size w next memory fault old new a = record {
  moments = a.moments;
  puddles = LeavesPuddles-weaker w.stored.frames early becomes old new weaker a.puddles;
  quiet = a.quiet;
  ready = a.ready;
  rests = a.rests;
  script = a.script;
}

-- Only what is known about pools changes.
pub IsReady-beside : (size : ℕ) (w : World) (memory next : Memory) (s : State) → next.frames ≡ memory.frames → next.active ≡ memory.active → next.sessions ≡ memory.sessions → (ready : IsReady size w memory s)
    → KnowsPools w.stored.frames next.known_pools ready.active.opens (reads s.now.words) → IsReady size w next s
IsReady-beside size w memory next s frames active same ready knows = subst (λ (m : Memory). IsReady size w m s) (λ i. record { frames = sym frames i; active = sym active i; sessions = sym same i; known_pools = next.known_pools }) (record {
  mask = ready.mask;
  settled = ready.settled;
  tables = ready.tables;
  clients = ready.clients;
  frames = ready.frames;
  shelf = ready.shelf;
  active = ready.active;
  sessions = ready.sessions;
  rest = ready.rest;
  logs = ready.logs;
  knows = knows;
})

-- More or less is known about a pool, and its puddles are still known.
pub IsReady-again : (size : ℕ) (w : World) (memory : Memory) (s : State) (slot : ℕ) (known : Known) → IsReady size w memory s → known_puddles_in memory.known_pools slot ≡ Some known.puddles → IsKnown w.stored.frames (reads s.now.words) known
    → IsReady size w (record memory { known_pools = set memory.known_pools slot (Some known) }) s
IsReady-again size w memory s slot known ready was is =
    IsReady-beside size w memory (record memory { known_pools = set memory.known_pools slot (Some known) }) s refl refl refl ready
    (KnowsPools-again w.stored.frames slot memory.known_pools ready.active.opens known (reads s.now.words) was is ready.knows)

-- What is known may be replaced by what it equals.
pub Applies-known : {becomes : Member → Option Member → Type 0} (size : ℕ) (w next : World) (memory : Memory) (fault : Option HostFault) (old new : State) (known_pools known : List (Option Known)) → known_pools ≡ known
    → AppliesBy becomes size w next (record memory { known_pools = known_pools }) fault old new → AppliesBy becomes size w next (record memory { known_pools = known }) fault old new
Applies-known {becomes} size w next memory fault old new known_pools known same = subst (λ (js : List (Option Known)). AppliesBy becomes size w next (record memory { known_pools = js }) fault old new) same

-- The command is not refused, and it is carried out after calls that only read.
pub Applies-after_reads : {becomes : Member → Option Member → Type 0} (size : ℕ) (w : World) (memory : Memory) (c : Command) (fault : Option HostFault) (a b d : State) → refusal_of w c ≡ None → b ≡ a
    → AppliesBy becomes size w (after w c) memory fault b d → AppliesBy becomes size w (world_by w (Some c)) memory fault a d
Applies-after_reads {becomes} size w memory c fault a b d free same applies =
    subst (λ (v : World). AppliesBy becomes size w v memory fault a d) (sym (done_world w c free)) (subst (λ (s : State). AppliesBy becomes size w (after w c) memory fault s d) same applies)
