-- What is left if power is lost at once.
use Rattle.std.proofs.Common.{◌≡◌, inl, inr, ⊎_elim, ℕ, Some, None, refl, sym, ap, subst}
use Rattle.pm_model.specs.declared.host.HostFault.TheVariants.{Failed, Cut}
use Rattle.pm_model.specs.Words.{Has, values, Picks, IsRested}
use Rattle.pm_model.specs.Moments.{State}
use Rattle.pm_model.specs.Calls.{LosesPower, LosesAtOnce}
use Rattle.pm_model.specs.Changes.{Footprint, Changes, Leaves, Silently}
use Rattle.pm_model.proofs.Changes.{Changes-fence, Changes-said, Changes-now}
use Rattle.pm_model.proofs.Leaves.{Leaves-changes, Leaves-still, Leaves-weaker}
use Rattle.pud_defs.specs.declared.layout.TheConstants.{DAEMON_LOG}
use Rattle.pud_defs.specs.Formats.Image.{Image}
use Rattle.pud_defs.specs.Logging.Replay.{settled_by}
use Rattle.pud_defs.specs.RegistryTables.Tables.{tables_of}
use Rattle.pud_defs.specs.StateMachine.World.{World, world_of, closed, restart}
use Rattle.daemon_memory.specs.Memory.{Memory}
use Rattle.daemon_memory.specs.Moves.{Stays}
use Rattle.daemon_memory.specs.Ready.{KeepsRest, RefusesNone, IsReady, Applies}
use Rattle.daemon_memory.proofs.Commands.Beside.{ready_stands}
use Rattle.daemon_memory.proofs.PoolChanges.PuddlesLeft.{ready_puddles}

-- No value may be written to any word.
abbrev Nothing : Footprint
Nothing k v = ⊥

-- What a power loss leaves: each word has one of its values, nothing was printed, and the rest stays.
pub record IsLost (a b : State) : Type 1 where
  pub rested : IsRested b.now.words
  pub within : (k v : ℕ) → Has (values (b.now.words k)) v → Has (values (a.now.words k)) v
  pub moments : (P : Image → Type 0) → ((image : Image) → Picks a.now.words image → P image) → Leaves (Silently P) a b
  pub quiet : b.now.said ≡ a.now.said
  pub script : b.script ≡ a.script
  pub shelf : b.shelf ≡ a.shelf

changes_of : (a b : State) → LosesPower a b → Changes Nothing (Some Cut) a b
changes_of a b lost = Changes-fence Nothing (Some Cut) a b (record {
  done = λ none. absurd (let it : Some Cut ≡ None = none in cc);
  failed = λ failed. absurd (let it : Some Cut ≡ Some Failed = failed in cc);
  cut = λ _. lost;
})

pub lost_at_once : (a b : State) → LosesAtOnce a b → IsLost a b
lost_at_once a b (inl lost) =
    let c = changes_of a b lost in
    record {
      rested = c.rests refl;
      within = λ k v had. ⊎_elim (λ was. was) (λ new. absurd new) (Changes-now Nothing (Some Cut) a b c k v had);
      moments = λ P each. Leaves-changes P Nothing (Some Cut) a b
          (λ before image picked from. each image (record {
            each = λ k. subst (λ (v : ℕ). Has (values (a.now.words k)) v) (sym (⊎_elim (λ same. same) (λ new. absurd new) (from.each k))) (picked.each k);
          })) c;
      quiet = Changes-said Nothing (Some Cut) a b c;
      script = c.script;
      shelf = c.shelf;
    }
lost_at_once a b (inr still) = record {
  rested = subst (λ (s : State). IsRested s.now.words) (sym still.1) still.0;
  within = λ k v had. subst (λ (s : State). Has (values (s.now.words k)) v) still.1 had;
  moments = λ P each. Leaves-still (Silently P) a b (λ image picked. (refl, each image picked)) still.1;
  quiet = ap (λ (s : State). s.now.said) still.1;
  script = ap (λ (s : State). s.script) still.1;
  shelf = ap (λ (s : State). s.shelf) still.1;
}

-- The device of a ready daemon then stands for the restarted world.
pub Applies-lost : (size : ℕ) (w : World) (memory : Memory) (a b : State) → IsReady size w memory a → LosesAtOnce a b → Applies size w (restart w) memory (Some Cut) a b
Applies-lost size w memory a b ready loses =
    let lost = lost_at_once a b loses in
    record {
      moments = Leaves-weaker _ _ a b (λ bytes image m. (m.0, (inl m.1.0, m.1.1))) (lost.moments (λ (image : Image). (world_of size image ≡ Some (closed w)) × RefusesNone image) (ready_stands size w memory a ready));
      puddles = record {
        each = λ frame m used.
            lost.moments (λ (image : Image). Stays m ((tables_of w.stored.frames (settled_by DAEMON_LOG image)).puddles frame)) (ready_puddles size w memory a ready frame m used);
      };
      quiet = lost.quiet;
      ready = λ none. absurd (let no : Some Cut ≡ None = none in cc);
      rests = λ _. lost.rested;
      script = lost.script;
    }

pub KeepsRest-lost : (a b : State) → LosesAtOnce a b → KeepsRest a b
KeepsRest-lost a b loses =
    let lost = lost_at_once a b loses in
    record { quiet = lost.quiet; script = lost.script; shelf = lost.shelf }
