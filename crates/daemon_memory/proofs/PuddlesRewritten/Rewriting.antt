-- Frontiers of a pool move on beside active transactions, also beside one on the pool itself. The world stays the same.
use Rattle.std.proofs.Common.{◌≡◌, ◌≢◌, inl, inr, ℕ, zero, suc, ◌<◌, List, Option, Some, None, refl, sym, ap, subst, ◌∙◌, arith}
use Rattle.std.specs.Prelude.{set}
use Rattle.std.proofs.lemmas.List.{set-get_or, set-set}
use Rattle.std.proofs.lemmas.Option.{none-some, same_Some}
use Rattle.pm_model.specs.declared.host.HostFault.{HostFault}
use Rattle.pm_model.specs.declared.host.HostFault.TheVariants.{Cut}
use Rattle.pm_model.specs.Words.{HasOnly, reads}
use Rattle.pm_model.specs.Moments.{State}
use Rattle.pm_model.specs.Changes.{Write}
use Rattle.pm_model.proofs.Changes.{Changes-said}
use Rattle.pm_model.proofs.Words.{HasOnly-own, HasOnly-newest}
use Rattle.pud_defs.specs.declared.layout.TheConstants.{DAEMON_LOG}
use Rattle.pud_defs.specs.declared.records.Puddle.{Puddle}
use Rattle.pud_defs.specs.declared.records.PoolRecord.{PoolRecord}
use Rattle.pud_defs.specs.declared.records.TheConstants.{POOL_RECORDS}
use Rattle.pud_defs.specs.Formats.Image.{Image}
use Rattle.pud_defs.specs.RegistryTables.Puddles.{Member}
use Rattle.pud_defs.specs.RegistryTables.SoundTables.{HasSoundTables}
use Rattle.pud_defs.specs.RegistryTables.Spaces.{owner_of}
use Rattle.pud_defs.specs.RegistryTables.Tables.{Tables, tables_of, puddles_in_turn}
use Rattle.pud_defs.specs.RegistryTables.Types.{types_of}
use Rattle.pud_defs.specs.StateMachine.World.{World, closed}
use Rattle.pud_defs.proofs.Logging.Replay.{outside_log}
use Rattle.graph_laws.specs.Steps.{with_steps}
use Rattle.lazy_rewrite.specs.Batches.{AreNextSteps, CommitsSteps, RewritesOnce, RewritesInTurn, Rewrites}
use Rattle.lazy_rewrite.proofs.Stepped.{member_of_pool}
use Rattle.hybrid_tx.specs.PoolScopes.{ArePlacedPuddles}
use Rattle.hybrid_tx.specs.Open.Masks.{open_mask}
use Rattle.hybrid_tx.specs.Open.ManyOpen.{with_transaction}
use Rattle.hybrid_tx.specs.Objects.Transactions.{RestsAs}
use Rattle.hybrid_tx.proofs.PoolScope.{pool_has_word-each}
use Rattle.known_pool.specs.Known.{Known, with_puddles}
use Rattle.daemon_memory.specs.PoolKnowledge.{puddles_known, known_pool_in, known_puddles_in}
use Rattle.daemon_memory.specs.KnownPools.{KnowsPools}
use Rattle.daemon_memory.specs.Memory.{ActiveTransaction, Memory, active_under}
use Rattle.daemon_memory.specs.ActiveTransactions.{open_pool_of, open_transaction_of, IsActive, KeepsActive, ByOthers}
use Rattle.daemon_memory.specs.Moves.{Stays, MovesTo, led_in}
use Rattle.daemon_memory.specs.Ready.{IsReady, AppliesMasked, AppliesBy}
use Rattle.daemon_memory.proofs.Commands.Applying.{Applies-still, Applies-stopped, AppliesBy-then, AppliesBy-weaker, Applies-known}
use Rattle.daemon_memory.proofs.PoolChanges.Goals.{led_stays, Joins-led}
use Rattle.daemon_memory.proofs.Commands.Beside.{active_is, opens_apart_from, moments_beside, durable_frames_still, Applies-beside}
use Rattle.daemon_memory.proofs.PoolChanges.InTurn.{active_there_known, known_in_turn, active_known}
use Rattle.daemon_memory.proofs.PoolsKnown.KnownKept.{HasGraphIn, KeepsPools}
use Rattle.daemon_memory.proofs.PoolsKnown.KnownOpen.{IsShut, known_within, AreKnownPools-own, KnowsPools-grown}
use Rattle.daemon_memory.proofs.PoolsKnown.Known.{pool_kept, known_other}
use Rattle.daemon_memory.proofs.PoolChanges.PoolsBeside.{one_slot, used_still}
use Rattle.daemon_memory.proofs.PoolChanges.RestBeside.{active_graph, rest_beside}
use Rattle.daemon_memory.proofs.PoolChanges.TablesBeside.{types_read, sound_read}
use Rattle.daemon_memory.proofs.PuddlesRewritten.ActiveAgain.{opens_again, was_one, then_one, wide, holds_again, settled_again, rest_again, logs_again}
use Rattle.daemon_memory.proofs.PuddlesRewritten.ActiveStepped.{before, comes_stepped, active_stepped}
use Rattle.daemon_memory.proofs.PuddlesRewritten.StepsBeside.{IsClosedIn, cases_active, known_placed, steps_apply}
use Rattle.daemon_memory.proofs.PuddlesRewritten.OwnMore.{OpensAgain}
use Rattle.daemon_memory.proofs.PuddlesRewritten.Arriving.{pool_used}
use Rattle.daemon_memory.proofs.PuddlesRewritten.StepsMoved.{upto, LeavesPuddles-steps}
use Rattle.daemon_memory.proofs.PuddlesRewritten.StepsKept.{listed_then, graph_then, known_then, tables_then, sound_then, KeepsPools-steps}

-- Keeping what is already known changes nothing.
set-known : (known_pools : List (Option Known)) (slot : ℕ) (known : Known) → known_pool_in known_pools slot ≡ Some known → set known_pools slot (Some known) ≡ known_pools
set-known known_pools slot known is = ap (set known_pools slot) (sym is) ∙ set-get_or known_pools slot None

-- A world keeps all that is active in it.
keeps_world : (w : World) (active : List (Option ActiveTransaction)) → KeepsActive w w active
keeps_world w active = record { frames = refl; transactions = refl; present = λ n h there. refl; stored = λ n h there. refl; types = λ id m is. is; graphs = λ st g is. is }

-- ---- one batch

module _ (size : ℕ) (w : World) (memory : Memory) (slot : ℕ) (kept : Known) (old new : State) (ready : IsReady size w memory old) (is_kept : known_pool_in memory.known_pools slot ≡ Some kept)
    (goal : ℕ → ℕ) (o m : ℕ) (e : ℕ × Puddle) (next : AreNextSteps kept.puddles goal o m e) (rec : PoolRecord) (low : slot < POOL_RECORDS)
    (used : (tables_of w.stored.frames (reads old.now.words)).pools slot ≡ Some rec) where
  abbrev F : ℕ
  F = w.stored.frames

  abbrev at : List (ℕ × Puddle)
  at = kept.puddles

  known : known_puddles_in memory.known_pools slot ≡ Some at
  known = ap puddles_known is_kept

  abbrev image : Image
  image = reads old.now.words

  abbrev now : Image
  now = reads new.now.words

  abbrev with_them : List (ℕ × Puddle)
  with_them = with_steps o m e at

  abbrev following : Memory
  following = record memory { known_pools = set memory.known_pools slot (Some (with_puddles with_them kept)) }

  -- If the batch failed, no more is owed.
  pub Applies-failed_steps : (fault : HostFault) (then : Memory) → CommitsSteps F at o m e (Some fault) old new → AppliesBy (MovesTo (led_in slot (upto goal))) size w w then (Some fault) old new
  Applies-failed_steps fault then c =
      let a = steps_apply size w memory slot at old ready known goal o m e next rec low used (Some fault) new c in
      record {
        moments = moments_beside size w w memory (Some fault) old new ready refl a;
        puddles = LeavesPuddles-steps size w memory slot at old new ready known goal o m e next (Some fault) c;
        quiet = Changes-said (ByOthers ready.mask) (Some fault) old new a.beside.changes;
        ready = λ done. absurd (none-some fault (sym done));
        rests = a.beside.changes.rests;
        script = a.beside.changes.script;
      }

  module _ (c : CommitsSteps F at o m e None old new) where
    done : AppliesMasked size w w ready.mask None old new
    done = steps_apply size w memory slot at old ready known goal o m e next rec low used None new c

    graph_then_is : HasGraphIn F slot now with_them
    graph_then_is = graph_then size w memory slot at old new ready known goal o m e next c

    -- ---- no transaction is active on the pool

    Applies-shut : IsClosedIn memory.active slot → AppliesBy (MovesTo (led_in slot (upto goal))) size w w following None old new
    Applies-shut shut =
        let keeps = KeepsPools-steps size w memory slot at old new ready known goal o m e next c in
        Applies-beside size w w memory None old new ready (keeps_world w memory.active) done (MovesTo (led_in slot (upto goal)))
        (LeavesPuddles-steps size w memory slot at old new ready known goal o m e next None c) following refl refl refl
        (λ _. record {
          known_pools = AreKnownPools-own F slot memory.known_pools (with_puddles with_them kept) image now keeps graph_then_is
              (known_then size w memory slot at old new ready known goal o m e next c kept refl (ready.knows.known_pools.known slot kept is_kept)) ready.knows.known_pools;
          open_pools = λ number x there.
              known_other memory.known_pools slot x.pool.slot (Some (with_puddles with_them kept)) (opens_apart_from w memory.active ready.mask old.now.words ready.active slot shut.each number x there)
              ∙ ready.knows.open_pools number x there;
        })
        (λ _. rest_beside size w memory old ready (Some slot) new (λ number h there same. shut.each number h there (sym (same_Some slot h.slot same))) keeps (done.beside.single refl))

-- ---- one batch, with a transaction active on the pool

module _ (size : ℕ) (w : World) (memory : Memory) (old new : State) (ready : IsReady size w memory old) (number : ℕ) (active : ActiveTransaction) (there : active_under memory.active number ≡ Some active) (kept : Known)
    (is_kept : known_pool_in memory.known_pools active.slot ≡ Some kept) where
  abbrev its : IsActive w active ready.mask old.now.words
  its = active_is w memory.active ready.mask old.now.words ready.active number active there

  abbrev known_its : known_puddles_in memory.known_pools active.slot ≡ Some its.puddles
  known_its = active_there_known size w memory old ready number active there

  same_puddles : kept.puddles ≡ its.puddles
  same_puddles = same_Some kept.puddles its.puddles (sym (ap puddles_known is_kept) ∙ known_its)

  module _ (goal : ℕ → ℕ) (o m : ℕ) (e : ℕ × Puddle) (next : AreNextSteps its.puddles goal o m e) (c : CommitsSteps w.stored.frames its.puddles o m e None old new) where
    abbrev n : ℕ
    n = w.stored.frames

    abbrev stepped_its : List (ℕ × Puddle)
    stepped_its = with_steps o m e its.puddles

    applied : AppliesMasked size w w ready.mask None old new
    applied =
        steps_apply size w memory active.slot its.puddles old ready known_its goal o m e next its.rec its.pool.slot (used_still w active ready.mask old.now.words its) None new c

    keeps_others : KeepsPools n (Some active.slot) (reads old.now.words) (reads new.now.words)
    keeps_others = KeepsPools-steps size w memory active.slot its.puddles old new ready known_its goal o m e next c

    -- The words of others that rest still rest.
    rest_others : (i : ℕ) (h : ActiveTransaction) (has : active_under memory.active i ≡ Some h) → i ≢ number → RestsAs n (ready.active.each i h has).is.puddles (ready.active.each i h has).is.before new.now.words
    rest_others i h has apart =
        let other = active_is w memory.active ready.mask old.now.words ready.active i h has in
        record {
          each = λ k mine none.
              let from = (pool_has_word-each n other.puddles k mine).low in
              let was = other.running.rests.each k mine none in
              let same = keeps_others.words h.slot other.puddles
              (λ it. apart (one_slot w memory.active ready.mask old.now.words ready.active i number h active has there (sym (same_Some active.slot h.slot it)))) (active_graph size w memory old ready i h has) k mine in
              subst (λ (v : ℕ). HasOnly (new.now.words k) v) (same ∙ HasOnly-newest (old.now.words k) (other.before k) was)
              ((applied.beside.single refl).each k (outside_log DAEMON_LOG k (inr (omega arith))) (HasOnly-own (old.now.words k) (other.before k) was));
        }

    types_were : types_of (reads old.now.words) ≡ w.stored.types
    types_were = (types_read size w memory old ready).types

    owner_then : owner_of (reads new.now.words) active.client ≡ w.clients active.client
    owner_then = let whose = its.own.owner in let few = its.pool.known in applied.clients refl active.client (omega (arith, whose, few))

    sound_after : HasSoundTables w.stored.next_number (tables_of n (reads new.now.words))
    sound_after = sound_then size w memory active.slot its.puddles old new ready known_its goal o m e next c

    same_pools : (tables_of n (reads new.now.words)).pools active.slot ≡ (tables_of n (reads old.now.words)).pools active.slot
    same_pools = ap (λ (t : Tables). t.pools active.slot) (tables_then size w memory active.slot its.puddles old new ready known_its goal o m e next c)

    placed_its : ArePlacedPuddles n its.puddles
    placed_its = known_placed size w memory active.slot its.puddles old ready known_its

    listed_its : puddles_in_turn (tables_of n (reads new.now.words)) active.slot ≡ stepped_its
    listed_its = listed_then size w memory active.slot its.puddles old new ready known_its goal o m e next c

    abbrev was_before : Image
    was_before = before w active ready.mask old new its goal o m e next c types_were applied.beside.changes (applied.beside.single refl)

    its_opened : OpensAgain n (open_transaction_of active its.puddles its.rec its.own.who its.before) (open_transaction_of active stepped_its its.rec its.own.who was_before) new.now.words
    its_opened = comes_stepped w active ready.mask old new its goal o m e next c types_were applied.beside.changes (applied.beside.single refl) w.stored.next_number sound_after same_pools owner_then placed_its listed_its

    abbrev its_again : (renewed : Write) → ((k v : ℕ) → open_mask n (open_pool_of active stepped_its its.rec its.own.who) was_before k ≡ Some v → renewed k ≡ Some v)
        → (h : IsActive w active renewed new.now.words) × (open_transaction_of active h.puddles h.rec h.own.who h.before ≡ open_transaction_of active stepped_its its.rec its.own.who was_before)
    its_again renewed masks =
        (active_stepped w active ready.mask old new its goal o m e next c types_were applied.beside.changes (applied.beside.single refl) w.stored.next_number sound_after same_pools owner_then placed_its listed_its renewed masks, refl)

    -- No other transaction is open on its pool.
    shut_others : IsShut (with_transaction number None ready.active.opens) active.slot
    shut_others i x here same =
        let it = open_transaction_of active its.puddles its.rec its.own.who its.before in
        let was = was_one w memory.active ready.mask old new ready.active active number there applied.beside.changes its_opened in
        let elsewhere : i ≢ number = λ at_it. none-some x (sym was.none ∙ ap (with_transaction number None ready.active.opens) (sym at_it) ∙ here) in
        elsewhere (ready.active.are.slots i number x it (was.same i elsewhere ∙ here) (ready.active.each number active there).opened same)

    knows_then : KnowsPools n (set memory.known_pools active.slot (Some (with_puddles stepped_its kept)))
        (opens_again w memory.active ready.mask old new ready.active active number there applied.beside.changes its_opened) (reads new.now.words)
    knows_then =
        KnowsPools-grown n memory.known_pools number (open_transaction_of active its.puddles its.rec its.own.who its.before) (open_transaction_of active stepped_its its.rec its.own.who was_before) (with_transaction number None ready.active.opens) ready.active.opens
        (opens_again w memory.active ready.mask old new ready.active active number there applied.beside.changes its_opened) (with_puddles stepped_its kept) (reads old.now.words) (reads new.now.words)
        (was_one w memory.active ready.mask old new ready.active active number there applied.beside.changes its_opened)
        (then_one w memory.active ready.mask old new ready.active active number there applied.beside.changes its_opened) refl refl shut_others keeps_others
        (graph_then size w memory active.slot its.puddles old new ready known_its goal o m e next c) (known_then size w memory active.slot its.puddles old new ready known_its goal o m e next c kept same_puddles (ready.knows.known_pools.known active.slot kept is_kept)) ready.knows

    ready_then : IsReady size w (record memory { known_pools = set memory.known_pools active.slot (Some (with_puddles stepped_its kept)) }) new
    ready_then = record {
      mask = wide w memory.active ready.mask old new ready.active active number there applied.beside.changes its_opened;
      settled = settled_again w memory.active ready.mask old new ready.active active number there applied.beside.changes its_opened size (closed w) (applied.settled refl);
      tables = applied.tables refl;
      clients = applied.clients refl;
      frames = ready.frames;
      shelf = applied.beside.changes.shelf ∙ ready.shelf;
      active = holds_again w memory.active ready.mask old new ready.active active number there applied.beside.changes its_opened its_again rest_others;
      sessions = ready.sessions;
      rest = rest_again w memory.active ready.mask old new ready.active active number there applied.beside.changes its_opened
          (durable_frames_still n ready.mask old new (applied.beside.single refl) ready.rest);
      logs = logs_again w memory.active ready.mask old new ready.active active number there applied.beside.changes its_opened n w.clients (applied.logs refl);
      knows = knows_then;
    }

    pub Applies-active : AppliesBy (MovesTo (led_in active.slot (upto goal))) size w w (record memory { known_pools = set memory.known_pools active.slot (Some (with_puddles stepped_its kept)) }) None old new
    Applies-active = record {
      moments = moments_beside size w w memory None old new ready refl applied;
      puddles = LeavesPuddles-steps size w memory active.slot its.puddles old new ready known_its goal o m e next None c;
      quiet = Changes-said (ByOthers ready.mask) None old new applied.beside.changes;
      ready = λ _. ready_then;
      rests = applied.beside.changes.rests;
      script = applied.beside.changes.script;
    }

-- ---- batches in turn

module _ (size : ℕ) (w : World) (slot : ℕ) (low : slot < POOL_RECORDS) (goal : ℕ → ℕ) where
  -- The memory in which this is known about the pool.
  abbrev knowing : Memory → Known → Memory
  knowing memory known = record memory { known_pools = set memory.known_pools slot (Some known) }

  -- What becomes of the records meanwhile.
  abbrev Led : Member → Option Member → Type 0
  Led = MovesTo (led_in slot (upto goal))

  -- The pool of a puddle is in the table.
  used_of : (memory : Memory) (at : List (ℕ × Puddle)) (o m : ℕ) (e : ℕ × Puddle) (old : State) (ready : IsReady size w memory old) → known_puddles_in memory.known_pools slot ≡ Some at → AreNextSteps at goal o m e
      → (rec : PoolRecord) × ((tables_of w.stored.frames (reads old.now.words)).pools slot ≡ Some rec)
  used_of memory at o m e old ready known next =
      let of = member_of_pool w.stored.frames slot at (reads old.now.words) (known_in_turn size w memory old ready slot at known) o e next.here in
      pool_used w.stored.next_number (tables_of w.stored.frames (reads old.now.words)) (sound_read size w memory old ready) slot low e.0 of.member of.below of.used of.pool

  -- A batch is carried out, whatever transaction is active on the pool, and if none is.
  Applies-batch : (memory : Memory) (kept : Known) (o m : ℕ) (e : ℕ × Puddle) (old new : State) (ready : IsReady size w memory old) → known_pool_in memory.known_pools slot ≡ Some kept → AreNextSteps kept.puddles goal o m e
      → CommitsSteps w.stored.frames kept.puddles o m e None old new → AppliesBy Led size w w (knowing memory (with_puddles (with_steps o m e kept.puddles) kept)) None old new
  Applies-batch memory kept o m e old new ready is_kept next c = elim (cases_active size w memory slot kept.puddles old ready (ap puddles_known is_kept)) [
    | inr shut ↦
        let used = used_of memory kept.puddles o m e old ready (ap puddles_known is_kept) next in
        Applies-shut size w memory slot kept old new ready is_kept goal o m e next used.0 low used.1 c shut
    | inl on ↦
        let active = on.1 in
        let is = active_is w memory.active ready.mask old.now.words ready.active on.0.log_number active.active active.is in
        let here : known_pool_in memory.known_pools active.active.slot ≡ Some kept = ap (known_pool_in memory.known_pools) active.slot_is ∙ is_kept in
        let same : kept.puddles ≡ is.puddles = sym (active_known size w memory old ready on.0.log_number active.active active.is kept.puddles (ap puddles_known here)) in
        subst (λ (ps : List (ℕ × Puddle)). AppliesBy Led size w w (knowing memory (with_puddles (with_steps o m e ps) kept)) None old new) (sym same)
        (subst (λ (i : ℕ). AppliesBy (MovesTo (led_in i (upto goal))) size w w (record memory { known_pools = set memory.known_pools i (Some (with_puddles (with_steps o m e is.puddles) kept)) }) None old new) active.slot_is
        (Applies-active size w memory old new ready on.0.log_number active.active active.is kept here goal o m e
        (subst (λ (ps : List (ℕ × Puddle)). AreNextSteps ps goal o m e) same next) (subst (λ (ps : List (ℕ × Puddle)). CommitsSteps w.stored.frames ps o m e None old new) same c)))
  ]

  Applies-once : (memory : Memory) (kept : Known) (later : List (ℕ × Puddle)) (fault : Option HostFault) (old new : State) → IsReady size w memory old → known_pool_in memory.known_pools slot ≡ Some kept
      → RewritesOnce w.stored.frames goal kept.puddles later fault old new → AppliesBy Led size w w (knowing memory (with_puddles later kept)) fault old new
  Applies-once memory kept later None old new ready is_kept one = elim one.does [
    | inl still ↦ absurd (still.1.0 refl)
    | inr c ↦
        subst (λ (ps : List (ℕ × Puddle)). AppliesBy Led size w w (knowing memory (with_puddles ps kept)) None old new) (sym one.pool)
        (Applies-batch memory kept one.ordinal one.to one.puddle old new ready is_kept one.next c)
  ]
  Applies-once memory kept later (Some fault) old new ready is_kept one = elim one.does [
    | inl still ↦
        AppliesBy-weaker Stays Led (led_stays slot (upto goal)) size w w (knowing memory (with_puddles later kept)) (Some fault) old new
        (Applies-stopped size w w memory (knowing memory (with_puddles later kept)) fault old new ready still.0 (λ cut. absurd (still.1.1 cut)))
    | inr c ↦
        let used = used_of memory kept.puddles one.ordinal one.to one.puddle old ready (ap puddles_known is_kept) one.next in
        Applies-failed_steps size w memory slot kept old new ready is_kept goal one.ordinal one.to one.puddle one.next used.0 low used.1 fault (knowing memory (with_puddles later kept)) c
  ]

  Applies-turns : (batches : ℕ) (memory : Memory) (kept : Known) (later : List (ℕ × Puddle)) (fault : Option HostFault) (old new : State) → IsReady size w memory old → known_pool_in memory.known_pools slot ≡ Some kept
      → RewritesInTurn w.stored.frames goal batches kept.puddles later fault old new → AppliesBy Led size w w (knowing memory (with_puddles later kept)) fault old new
  Applies-turns zero memory kept later fault old new ready is_kept turns =
      let same : memory.known_pools ≡ set memory.known_pools slot (Some (with_puddles later kept)) =
      sym (set-known memory.known_pools slot (with_puddles later kept) (is_kept ∙ ap (λ (ps : List (ℕ × Puddle)). Some (with_puddles ps kept)) (sym turns.0))) in
      Applies-known size w w memory fault old new memory.known_pools (set memory.known_pools slot (Some (with_puddles later kept))) same
      (AppliesBy-weaker Stays Led (led_stays slot (upto goal)) size w w memory fault old new
      (Applies-still size w memory fault old new ready turns.1.1 (λ cut. absurd (let no : None ≡ Some Cut = sym turns.1.0 ∙ cut in cc))))
  Applies-turns (suc batches) memory kept later fault old new ready is_kept turns =
      let mid = turns.0 in
      let between = turns.1.0 in
      let first = Applies-turns batches memory kept between None old mid ready is_kept turns.1.1.0 in
      let then = knowing memory (with_puddles between kept) in
      let now : known_pool_in then.known_pools slot ≡ Some (with_puddles between kept) = pool_kept memory.known_pools slot (Some (with_puddles between kept)) (known_within memory.known_pools slot kept.puddles (ap puddles_known is_kept)) in
      AppliesBy-then Led Led Led (Joins-led slot (upto goal)) size w w w then (knowing memory (with_puddles later kept)) fault old mid new refl refl first
      (Applies-known size w w memory fault mid new (set (set memory.known_pools slot (Some (with_puddles between kept))) slot (Some (with_puddles later kept))) (set memory.known_pools slot (Some (with_puddles later kept)))
      (set-set memory.known_pools slot (Some (with_puddles between kept)) (Some (with_puddles later kept)))
      (Applies-once then (with_puddles between kept) later fault mid new (first.ready refl) now turns.1.1.1))

-- After the batches the daemon is ready. What it knows about the pool holds, with the puddles that the batches made.
pub Applies-rewrites : (size : ℕ) (w : World) (memory : Memory) (slot : ℕ) (kept : Known) (later : List (ℕ × Puddle)) (goal : ℕ → ℕ) (fault : Option HostFault) (old new : State)
    → IsReady size w memory old → slot < POOL_RECORDS → known_pool_in memory.known_pools slot ≡ Some kept → Rewrites w.stored.frames goal kept.puddles later fault old new
    → AppliesBy (MovesTo (led_in slot (upto goal))) size w w (record memory { known_pools = set memory.known_pools slot (Some (with_puddles later kept)) }) fault old new
Applies-rewrites size w memory slot kept later goal fault old new ready low is_kept r = Applies-turns size w slot low goal r.batches memory kept later fault old new ready is_kept r.in_turn
