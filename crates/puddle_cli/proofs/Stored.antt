-- Lemmas on what a device stores after lines of which none left a transaction open.
use Rattle.std.proofs.Common.{◌≡◌, ℕ, List, [], ◌∷◌, Option, Some, None, unwrap_or, inl, inr, refl, sym, ap, ap₂, ◌∙◌}
use Rattle.std.proofs.lemmas.Option.{none-some}
use Rattle.pm_model.specs.Words.{reads}
use Rattle.pm_model.specs.Masks.{masked}
use Rattle.pm_model.proofs.Masks.{reads-masked}
use Rattle.pm_model.specs.Moments.{State}
use Rattle.pud_defs.specs.declared.machine.Command.{Command}
use Rattle.pud_defs.specs.StateMachine.Gives.{Gives, StepBy}
use Rattle.pud_defs.specs.StateMachine.Grammar.{command_of}
use Rattle.pud_defs.specs.StateMachine.Run.{Turn, IsTurn, IsRun, last_world}
use Rattle.pud_defs.specs.StateMachine.Step.{Answer}
use Rattle.pud_defs.specs.StateMachine.World.{World, pools_in, stored_by, closed, nothing_open}
use Rattle.daemon_memory.specs.Memory.{Memory, ActiveTransaction, active_under}
use Rattle.daemon_memory.specs.Ready.{IsReady}
use Rattle.puddled.proofs.LinesDone.LinesCarriedOut.{frames_by}
use Rattle.daemon_memory.proofs.PoolChanges.TablesBeside.{header_read, types_read, world_under}

-- ---- a run keeps the number of frames

frames_given : (w : World) (c : Option Command) (next : World) → Gives w c next → next.stored.frames ≡ w.stored.frames
frames_given w c next given = ap (λ (v : World). v.stored.frames) given.rest ∙ frames_by w c

frames_step : (w : World) (c : Option Command) (said : Answer) (next : World) → StepBy w c said next → next.stored.frames ≡ w.stored.frames
frames_step w c said next (inl done) = frames_given w c next done.gives
frames_step w c said next (inr out) = ap (λ (v : World). v.stored.frames) out.stays

frames_turn : (w : World) (t : Turn) → IsTurn w t → t.next.stored.frames ≡ w.stored.frames
frames_turn w t (inl turn) = ap (λ (v : World). v.stored.frames) turn.goes_on ∙ frames_step w (command_of t.line) t.answer t.under turn.step
frames_turn w t (inr turn) = elim turn.goes_on [
  | inl before ↦ ap (λ (v : World). v.stored.frames) before
  | inr following ↦ ap (λ (v : World). v.stored.frames) following ∙ frames_given w (command_of t.line) t.under turn.given
]

pub frames_kept : (w : World) (turns : List Turn) → IsRun w turns → (last_world w turns).stored.frames ≡ w.stored.frames
frames_kept w [] run = refl
frames_kept w (t ∷ turns) run = frames_kept t.next turns run.1 ∙ frames_turn w t run.0

-- ---- a daemon that is ready, with nothing open

module _ (size : ℕ) (w : World) (memory : Memory) (s : State) (ready : IsReady size w memory s) (idle : w.transactions ≡ nothing_open) where
  none_open : (number : ℕ) (active : Option ActiveTransaction) → active_under memory.active number ≡ active → ready.active.opens number ≡ None
  none_open number None is = ready.active.none number is
  none_open number (Some h) is =
      let there = ready.active.each number h is in
      absurd (none-some there.is.own.transaction (sym (ap (λ opened. opened h.name) idle) ∙ there.is.own.is))

  none_masked : (k : ℕ) (o : Option ℕ) → ready.mask k ≡ o → ready.mask k ≡ None
  none_masked k None is = is
  none_masked k (Some v) is =
      let by = ready.active.masks.each k v is in
      absurd (none-some by.transaction (sym (none_open by.number (active_under memory.active by.number) refl) ∙ by.there))

  -- Nothing is masked.
  read_plain : reads (masked ready.mask s.now.words) ≡ reads s.now.words
  read_plain = reads-masked ready.mask s.now.words ∙ (λ i k. unwrap_or (none_masked k (ready.mask k) refl i) (reads s.now.words k))

  -- So what is read is what the world has stored.
  pub ready_stored : stored_by (reads s.now.words) ≡ closed w
  unfolding stored_by
  ready_stored =
      let header = header_read size w memory s ready in
      let kept = types_read size w memory s ready in
      let all : pools_in w.stored.types w.stored.frames (reads s.now.words) ≡ w.stored.pools =
      ap (pools_in w.stored.types w.stored.frames) (sym read_plain) ∙ (world_under size w memory s ready).pools in
      λ p. record {
        frames = header.frames p;
        machine = header.machine p;
        next_number = header.next_number p;
        types = kept.types p;
        pools = (ap₂ (λ (ts : List (ℕ × ℕ)) (n : ℕ). pools_in ts n (reads s.now.words)) kept.types header.frames ∙ all) p;
      }
