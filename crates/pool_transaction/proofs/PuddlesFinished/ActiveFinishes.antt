-- Puddles of an active transaction's pool are rewritten to their ends before the transaction writes to them.
use Rattle.std.proofs.Common.{◌≡◌, ℕ, ◌<◌, ◌≤◌, true, ◌&&◌, List, set, Option, Some, None, refl, sym, ap, ◌∙◌, subst, arith}
use Rattle.std.proofs.lemmas.Bool.{and_parts, leb-true}
use Rattle.std.proofs.lemmas.List.{length-map}
use Rattle.std.proofs.lemmas.Option.{none-some}
use Rattle.pm_model.specs.declared.host.HostFault.{HostFault}
use Rattle.pm_model.specs.Words.{reads}
use Rattle.pm_model.specs.Moments.{State}
use Rattle.pud_defs.specs.declared.layout.TheConstants.{DAEMON_LOG}
use Rattle.pud_defs.specs.declared.records.Puddle.{Puddle}
use Rattle.pud_defs.specs.declared.records.Slot.{Slot}
use Rattle.pud_defs.specs.Formats.Geometry.{steps_of, is_legal_class, is_legal_frontier}
use Rattle.pud_defs.specs.Formats.Image.{Image}
use Rattle.pud_defs.specs.RegistryTables.Puddles.{Member, is_legal_puddle}
use Rattle.pud_defs.specs.RegistryTables.SoundTables.{is_sound_puddle, is_legal_member, HasSoundTables}
use Rattle.pud_defs.specs.PoolGraphs.Stored.{stored_in, IsFreePlace}
use Rattle.pud_defs.specs.RegistryTables.Tables.{Tables, tables_of}
use Rattle.pud_defs.specs.StateMachine.World.{StoredWorld, World, closed}
use Rattle.pud_defs.proofs.RegistryTables.PoolMembers.{HasMembers, members_in_turn}
use Rattle.pud_defs.proofs.RegistryTables.SoundChanged.{legal_puddle}
use Rattle.graph_laws.specs.Slots.{IsLowestFreeSlot}
use Rattle.puddle_header.specs.Places.{place_of_slot}
use Rattle.graph_read.specs.Bases.{HasLowBases}
use Rattle.batch.specs.Batches.{HasIdleGate}
use Rattle.lazy_rewrite.specs.Frontiers.{frontiers_of}
use Rattle.lazy_rewrite.specs.Batches.{Rewrites}
use Rattle.lazy_rewrite.proofs.Spared.{AreFrames, SparesObjects, Rewrites-spare}
use Rattle.hybrid_tx.specs.PoolScopes.{ArePlacedPuddles, IsRewrittenAt}
use Rattle.hybrid_tx.proofs.PoolScope.{all_there}
use Rattle.daemon_memory.specs.Memory.{ActiveTransaction, Memory, active_under}
use Rattle.daemon_memory.specs.ActiveTransactions.{IsActive}
use Rattle.known_pool.specs.Known.{Known, with_puddles}
use Rattle.daemon_memory.specs.PoolKnowledge.{puddles_known, known_pool_in, known_puddles_in}
use Rattle.daemon_memory.specs.Moves.{Stays, MovesTo, led_in}
use Rattle.daemon_memory.specs.Ready.{IsReady, AppliesBy, Applies}
use Rattle.daemon_memory.proofs.Commands.Applying.{Applies-closed, AppliesBy-then}
use Rattle.daemon_memory.proofs.Commands.Beneath.{ready_gate}
use Rattle.daemon_memory.proofs.PoolChanges.Goals.{Joins-led_stays}
use Rattle.daemon_memory.proofs.PoolChanges.InTurn.{active_known, known_in_turn}
use Rattle.daemon_memory.proofs.PoolsKnown.KnownOpen.{known_within}
use Rattle.daemon_memory.proofs.PoolsKnown.Known.{pool_kept}
use Rattle.daemon_memory.proofs.PoolChanges.TablesBeside.{sound_read}
use Rattle.pool_transaction.specs.Changing.{both_finished}
use Rattle.daemon_memory.specs.Arriving.{AppliesTo}
use Rattle.daemon_memory.proofs.PuddlesRewritten.Arriving.{AreEnds, AppliesBy-used, narrowed, AppliesTo-known}
use Rattle.pool_transaction.proofs.PuddlesFinished.FinishedPools.{HasLegalFrontiers, HasNoneLeft, first_finished, other_finished, both_finished-none, Rewrites-none_left}
use Rattle.pool_transaction.proofs.Lifetimes.ActiveRuns.{is_active, active_placed}
use Rattle.daemon_memory.proofs.PuddlesRewritten.Rewriting.{Applies-rewrites}
use Rattle.daemon_memory.proofs.PuddlesRewritten.StepsMoved.{upto}
use Rattle.daemon_memory.proofs.PuddlesRewritten.StepsBeside.{low_of_placed}

-- ---- what sound tables state about puddles

legal_by_member : (next : ℕ) (t : Tables) (m : Member) → is_legal_member next t m ≡ true → m.puddle.frontier ≤ steps_of m.puddle
legal_by_member next t m legal =
    let puddle = (and_parts _ (is_legal_puddle next m.puddle) legal).1 in
    leb-true m.puddle.frontier (steps_of m.puddle) (and_parts (is_legal_class m.puddle) (is_legal_frontier m.puddle) (and_parts _ (is_legal_class m.puddle && is_legal_frontier m.puddle) puddle).1).1

-- No frontier is past the end of its puddle.
legal_of_members : (next : ℕ) (t : Tables) (slot : ℕ) (at : List (ℕ × Puddle)) → HasSoundTables next t → HasMembers t slot at → HasLegalFrontiers at
legal_of_members next t slot at sound has = record {
  each = λ o e there.
      let is = has.each o e there in
      subst (λ (d : Puddle). d.frontier ≤ steps_of d) is.puddle (legal_by_member next t is.member (sym (ap (is_sound_puddle next t) is.used) ∙ legal_puddle next t sound e.0 is.below));
}

-- ---- a ready daemon with the transaction active

-- An object may be made in the slot: its puddle and the first one are finished, and the slot is free.
pub record MayMakeAt (F : ℕ) (at : List (ℕ × Puddle)) (image : Image) (slot : Slot) : Type 0 where
  pub first : IsRewrittenAt at 0
  pub its : IsRewrittenAt at slot.ordinal
  pub free : IsFreePlace (stored_in F at image) (place_of_slot slot)

module _ (size : ℕ) (w : World) (memory : Memory) (active : ActiveTransaction) (old : State) (number : ℕ) (there : active_under memory.active number ≡ Some active) (ready : IsReady size w memory old)
    (F : ℕ) (same : F ≡ w.stored.frames) (kept : Known) (known : known_pool_in memory.known_pools active.slot ≡ Some kept) where
  abbrev at : List (ℕ × Puddle)
  at = kept.puddles

  abbrev is : IsActive w active ready.mask old.now.words
  is = is_active size w memory active old number there ready

  pub its_puddles : at ≡ is.puddles
  its_puddles = sym (active_known size w memory old ready number active there at (ap puddles_known known))

  pub its_placed : ArePlacedPuddles F at
  its_placed = subst (ArePlacedPuddles F) (sym its_puddles) (subst (λ (n : ℕ). ArePlacedPuddles n is.puddles) (sym same) (active_placed size w memory active old number there ready))

  its_frames : AreFrames F at
  its_frames = record { distinct = its_placed.frames; below = λ o e here. all_there (λ (d : ℕ × Puddle). d.0 < F) at o e its_placed.below here }

  pub its_frontiers : HasLegalFrontiers at
  its_frontiers =
      let t = tables_of w.stored.frames (reads old.now.words) in
      legal_of_members w.stored.next_number t active.slot at (sound_read size w memory old ready)
      (subst (λ (puddles : List (ℕ × Puddle)). HasMembers t active.slot puddles) (known_in_turn size w memory old ready active.slot at (ap puddles_known known)) (members_in_turn t active.slot))

  -- If the first puddle and this one are finished, nothing is left to do for both.
  pub none_left : (o : ℕ) (later : List (ℕ × Puddle)) (fault : Option HostFault) (mid : State)
      → (HasIdleGate DAEMON_LOG old.now.words → HasLowBases at → Rewrites F (frontiers_of (both_finished o at)) at later fault old mid) → IsRewrittenAt at 0 → IsRewrittenAt at o → HasNoneLeft at later fault old mid
  none_left o later fault mid owes first other =
      Rewrites-none_left F at later fault old mid
      (subst (λ (ds : List (ℕ × Puddle)). Rewrites F (frontiers_of ds) at later fault old mid) (both_finished-none o at first other) (owes (ready_gate size w memory old ready) (low_of_placed F at its_placed)))

  module _ (goal : ℕ → ℕ) (later : List (ℕ × Puddle)) where
    -- What the batches owe.
    abbrev pub OwesRewrites : Option HostFault → State → Type 0
    OwesRewrites fault mid = HasIdleGate DAEMON_LOG old.now.words → HasLowBases at → Rewrites F goal at later fault old mid

    -- The memory after the batches.
    abbrev pub memory_finished : Memory
    memory_finished = record memory { known_pools = set memory.known_pools active.slot (Some (with_puddles later kept)) }

    module _ (fault : Option HostFault) (mid : State) (owes : OwesRewrites fault mid) where
      does : Rewrites F goal at later fault old mid
      does = owes (ready_gate size w memory old ready) (low_of_placed F at its_placed)

      -- Only frontiers of its pool move, towards these.
      Applies-finished : AppliesBy (MovesTo (led_in active.slot (upto goal))) size w w memory_finished fault old mid
      Applies-finished = Applies-rewrites size w memory active.slot kept later goal fault old mid ready is.pool.slot known (subst (λ (n : ℕ). Rewrites n goal at later fault old mid) same does)

    -- The frontiers move to ends that are goals.
    module _ (final : List (ℕ × Puddle)) (target : ℕ → ℕ) (ends : AreEnds at final (upto goal) target) where
      Applies-led : (fault : Option HostFault) (mid : State) → OwesRewrites fault mid → AppliesBy (MovesTo (led_in active.slot target)) size w w memory_finished fault old mid
      Applies-led fault mid owes =
          AppliesBy-used (MovesTo (led_in active.slot (upto goal))) (MovesTo (led_in active.slot target)) size w w memory_finished fault old mid
          (narrowed size w memory old ready active.slot is.pool.slot at (ap puddles_known known) target final ends.reached (upto goal) ends.near) (Applies-finished fault mid owes)

      -- If a batch failed, what is owed holds for a line that leaves the stored world as it is.
      pub Applies-unfinished : (fault : HostFault) (mid : State) → OwesRewrites (Some fault) mid → (next : World) (following : Memory) → closed w ≡ closed next
          → AppliesTo (led_in active.slot target) size w next following (Some fault) old mid
      Applies-unfinished fault mid owes next following stored = record {
        applies = Applies-closed size w w next memory_finished following fault old mid stored (Applies-led (Some fault) mid owes);
        arrives = λ done. absurd (none-some fault (sym done));
      }

      -- Otherwise the line goes on with the puddles that are known, and what is owed holds.
      pub Applies-after : (mid : State) → OwesRewrites None mid → (next : World) (following : Memory) (fault : Option HostFault) (new : State) → closed w ≡ closed next → known_puddles_in following.known_pools active.slot ≡ Some final
          → Applies size w next following fault mid new → AppliesTo (led_in active.slot target) size w next following fault old new
      Applies-after mid owes next following fault new stored after later_does =
          AppliesTo-known size w memory old ready active.slot is.pool.slot at (ap puddles_known known) target final ends.reached next following fault new (ap (λ (v : StoredWorld). v.frames) (sym stored)) (λ done. after)
          (AppliesBy-then (MovesTo (led_in active.slot target)) Stays (MovesTo (led_in active.slot target)) (Joins-led_stays active.slot target) size w w next memory_finished following fault old mid new stored refl
          (Applies-led None mid owes) later_does)

    module _ (mid : State) (owes : OwesRewrites None mid) where
      pub ready_finished : IsReady size w memory_finished mid
      ready_finished = (Applies-finished None mid owes).ready refl

      -- The pool is known by its puddles as they are then.
      pub known_finished : known_pool_in memory_finished.known_pools active.slot ≡ Some (with_puddles later kept)
      known_finished = pool_kept memory.known_pools active.slot (Some (with_puddles later kept)) (known_within memory.known_pools active.slot at (ap puddles_known known))

      pub spared_finished : SparesObjects F at later (reads old.now.words) (reads mid.now.words)
      spared_finished = Rewrites-spare F goal at later old mid (does None mid owes) its_frames

      -- A free slot is still free.
      pub may_make_at : (slot : Slot) → later ≡ both_finished slot.ordinal at → IsLowestFreeSlot slot.class (stored_in F at (reads old.now.words)) (place_of_slot slot) → MayMakeAt F later (reads mid.now.words) slot
      may_make_at slot is_both lowest = record {
        first = subst (λ (ds : List (ℕ × Puddle)). IsRewrittenAt ds 0) (sym is_both) (first_finished slot.ordinal at its_frontiers);
        its = subst (λ (ds : List (ℕ × Puddle)). IsRewrittenAt ds slot.ordinal) (sym is_both) (other_finished slot.ordinal at its_frontiers);
        free = spared_finished.serials (place_of_slot slot) (omega (arith, lowest.within, length-map at (λ (e : ℕ × Puddle). e.1))) ∙ lowest.free;
      }
