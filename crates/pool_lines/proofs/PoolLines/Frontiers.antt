-- Where the lines lead frontiers that drop a pool or do its steps.
use Rattle.std.proofs.Common.{◌≡◌, inl, inr, ℕ, zero, suc, ◌+◌, ◌<◌, ◌≤◌, Bool, true, false, eqb, cond, List, [], ◌∷◌, Option, Some, None, refl, sym, ap, ◌∙◌, arith}
use Rattle.std.specs.Prelude.{◌-◌, min, slice_get}
use Rattle.std.proofs.lemmas.Bool.{cases_Bool, cond-true, cond-false}
use Rattle.std.proofs.lemmas.Option.{none-some, same_Some}
use Rattle.pm_model.specs.declared.host.HostFault.{HostFault}
use Rattle.pm_model.specs.Words.{reads}
use Rattle.pm_model.specs.Moments.{State}
use Rattle.pud_defs.specs.declared.machine.Command.TheVariants.{Drop, Rewrite}
use Rattle.pud_defs.specs.declared.records.Puddle.{Puddle}
use Rattle.pud_defs.specs.declared.records.TheConstants.{POOL_RECORDS}
use Rattle.pud_defs.specs.Formats.Image.{Image}
use Rattle.pud_defs.specs.RegistryTables.Puddles.{Member}
use Rattle.pud_defs.specs.StateMachine.Step.{refusal_of, world_by}
use Rattle.pud_defs.specs.RegistryTables.Puts.{is_of_pool, without_pool_at}
use Rattle.pud_defs.specs.RegistryTables.Tables.{Tables, tables_of}
use Rattle.pud_defs.specs.StateMachine.World.{World}
use Rattle.lazy_rewrite.specs.Frontiers.{steps_left, steps_from, frontier_in, frontiers_of}
use Rattle.daemon_memory.specs.Arriving.{IsAt, Arrives}
use Rattle.daemon_memory.proofs.PuddlesRewritten.Arriving.{HaveReached, AppliesTo-known}
use Rattle.daemon_memory.specs.PoolKnowledge.{known_puddles_in}
use Rattle.daemon_memory.specs.Memory.{Memory}
use Rattle.daemon_memory.specs.Moves.{MovesTo, still, freed_in, led_in}
use Rattle.daemon_memory.specs.Owning.{IsRecordSlot}
use Rattle.daemon_memory.specs.Ready.{IsReady, AppliesBy}
use Rattle.daemon_memory.proofs.PoolChanges.InTurn.{known_in_turn}
use Rattle.daemon_memory.specs.Leading.{FreesPool, AppliesWith}
use Rattle.daemon_memory.proofs.Commands.Leading.{leads_free}
use Rattle.pool_lines.specs.Effects.{LeadsBySteps}

-- What is then read of the tables has each other record as it was, and none of the pool's own.
at_freed : (own : Bool) (m : Member) (now : Option Member) → now ≡ cond own None (Some m) → IsAt (cond own None (still m)) m now
at_freed true m now is = is
at_freed false m now is = is

come_of : (slot : ℕ) (was : Option Member) (m : Member) → cond (is_of_pool slot was) None was ≡ Some m → IsAt (freed_in slot m) m (Some m)
come_of slot None m is = absurd (none-some m is)
come_of slot (Some d) m is = elim (cases_Bool (eqb d.pool (slot + 1))) [
  | inl own ↦ absurd (none-some m (sym (cond-true _ _ _ own) ∙ is))
  | inr other ↦
      let same : d ≡ m = same_Some d m (sym (cond-false _ _ _ other) ∙ is) in
      let apart : eqb m.pool (slot + 1) ≡ false = ap (λ (x : Member). eqb x.pool (slot + 1)) (sym same) ∙ other in
      at_freed (eqb m.pool (slot + 1)) m (Some m) (sym (cond-false _ _ _ apart))
]

arrives_dropped : (F slot : ℕ) (before after : Image) → tables_of F after ≡ without_pool_at slot (tables_of F before) → Arrives F (freed_in slot) before after
arrives_dropped F slot before after less = record {
  each = λ frame m used.
      at_freed (eqb m.pool (slot + 1)) m ((tables_of F after).puddles frame) (ap (λ (t : Tables). t.puddles frame) less ∙ ap (λ (d : Option Member). cond (is_of_pool slot d) None d) used);
  come = λ frame m used. come_of slot ((tables_of F before).puddles frame) m (sym (ap (λ (t : Tables). t.puddles frame) less) ∙ used);
}

pub AppliesWith-drop : (size : ℕ) (w : World) (client : ℕ) (name : List ℕ) (following : Memory) (fault : Option HostFault) (old new : State) (slot : ℕ) → refusal_of w (Drop client name) ≡ None
    → IsRecordSlot w.stored.frames name (reads old.now.words) slot → (fault ≡ None → tables_of w.stored.frames (reads new.now.words) ≡ without_pool_at slot (tables_of w.stored.frames (reads old.now.words)))
    → AppliesBy (MovesTo (freed_in slot)) size w (world_by w (Some (Drop client name))) following fault old new
    → AppliesWith (FreesPool w.stored.frames name) size w (world_by w (Some (Drop client name))) (Drop client name) following fault old new
AppliesWith-drop size w client name following fault old new slot free at less a =
    record {
      goal = freed_in slot;
      leads = inl (leads_free (FreesPool w.stored.frames name (reads old.now.words)) (refusal_of w (Drop client name)) free (freed_in slot) (record { slot = slot; is = at; goal_is = refl }));
      applies = record { applies = a; arrives = λ done. arrives_dropped w.stored.frames slot (reads old.now.words) (reads new.now.words) (less done) };
    }

-- Steps lead no frontier back.
no_lower : (at : List (ℕ × Puddle)) (o : ℕ) (e : ℕ × Puddle) → slice_get at o ≡ Some e → (n : ℕ) → e.1.frontier ≤ frontiers_of (steps_from n at) o
unfolding steps_from
no_lower [] o e here n = absurd (none-some e here)
no_lower (x ∷ at) zero e here n = let same = ap (λ (d : ℕ × Puddle). d.1.frontier) (same_Some x e here) in omega (arith, same)
no_lower (x ∷ at) (suc o) e here n = no_lower at o e here (n - min n (steps_left x.1))

reached_steps : (n : ℕ) (at : List (ℕ × Puddle)) → HaveReached at (steps_from n at) (frontiers_of (steps_from n at))
reached_steps n at = record {
  each = λ o e here. let least = no_lower at o e here n in omega (arith, least);
  none_after = λ o e here. let is = ap frontier_in here in omega (arith, is);
}

pub AppliesWith-rewrite : (size : ℕ) (w : World) (memory following : Memory) (name : List ℕ) (n slot : ℕ) (at : List (ℕ × Puddle)) (fault : Option HostFault) (old new : State) → IsReady size w memory old → slot < POOL_RECORDS
    → known_puddles_in memory.known_pools slot ≡ Some at → refusal_of w (Rewrite name n) ≡ None → world_by w (Some (Rewrite name n)) ≡ w → IsRecordSlot w.stored.frames name (reads old.now.words) slot
    → (fault ≡ None → known_puddles_in following.known_pools slot ≡ Some (steps_from n at))
    → AppliesBy (MovesTo (led_in slot (frontiers_of (steps_from n at)))) size w (world_by w (Some (Rewrite name n))) following fault old new
    → AppliesWith (LeadsBySteps w.stored.frames name n) size w (world_by w (Some (Rewrite name n))) (Rewrite name n) following fault old new
AppliesWith-rewrite size w memory following name n slot at fault old new ready low known free same is after_known a =
    let turn = known_in_turn size w memory old ready slot at known in
    let by = frontiers_of (steps_from n at) in
    let next = world_by w (Some (Rewrite name n)) in
    record {
      goal = led_in slot by;
      leads = inl (leads_free (LeadsBySteps w.stored.frames name n (reads old.now.words)) (refusal_of w (Rewrite name n)) free (led_in slot by)
          (record { slot = slot; is = is; by = by; goals_are = ap (λ (ps : List (ℕ × Puddle)). frontiers_of (steps_from n ps)) (sym turn); goal_is = refl }));
      applies = AppliesTo-known size w memory old ready slot low at known by (steps_from n at) (reached_steps n at) next following fault new (ap (λ (v : World). v.stored.frames) same) after_known a;
    }
