-- A batch that names no masked word, stated about the device with these words masked.
use Rattle.std.proofs.Common.{◌≡◌, ◌⊎◌, inl, inr, ℕ, true, List, Option, Some, None, unwrap_or, refl, sym, ap, subst, ◌∙◌, arith}
use Rattle.pm_model.specs.declared.host.HostFault.{HostFault}
use Rattle.pm_model.specs.Words.{Has, Cell, values, Words, Image, Picks}
use Rattle.pm_model.specs.Moments.{State}
use Rattle.pm_model.specs.Changes.{Write, Silently}
use Rattle.pm_model.specs.Masks.{masked, masked_state, masked_image, no_mask, IsOff}
use Rattle.pm_model.proofs.Leaves.{Leaves-weaker}
use Rattle.pm_model.proofs.Masks.{IsOff-none, Picks-masked, masked-elsewhere, masked_image-elsewhere, HasOnly-masked, unmasked, Changes-masked, Leaves-masked}
use Rattle.pud_defs.specs.Logging.Entries.{Entry, Log, log_of, is_idle_gate}
use Rattle.pud_defs.specs.Logging.Replay.{device_word, new_value, overwritten, settled_by, IsInLog}
use Rattle.pud_defs.proofs.Logging.Masked.{swapped, IsBesideLog, log_of-masked, settled_by-masked, settled_by-masked_idle}
use Rattle.batch.specs.Batches.{batch_write, committed, AreBatched, IsFree, ByBatch, IsBatched, Commits}
use Rattle.pud_defs.specs.StateMachine.World.{StoredWorld}
use Rattle.batch.specs.Worlds.{Moves}
use Rattle.batch.proofs.Writes.{new_value-committed}

module _ (mask : Write) (at : ℕ) (es : List Entry) (off : IsOff mask (ByBatch at es)) where
  log_off : (k : ℕ) → IsInLog at k → mask k ≡ None
  log_off k inside = IsOff-none mask (ByBatch at es) k 0 off (inl inside)

  pub beside : IsBesideLog at mask
  beside = record { each = log_off }

  gate_off : mask at ≡ None
  gate_off = log_off at (record { low = omega arith; high = omega arith })

  pub batch_off : (k v : ℕ) → batch_write es k ≡ Some v → mask k ≡ None
  batch_off k v is = IsOff-none mask (ByBatch at es) k v off (inr (record { value = v; is = is }))

  none_of : (o p : Option ℕ) → ((v : ℕ) → p ≡ Some v → o ≡ None) → (x : ℕ) → o ≡ Some x → p ≡ None
  none_of o None off x is = refl
  none_of o (Some v) off x is = absurd (let no : None ≡ Some x = sym (off v refl) ∙ is in cc)

  -- A masked word is not written.
  pub not_written : (k x : ℕ) → mask k ≡ Some x → batch_write es k ≡ None
  not_written k x is = none_of (mask k) (batch_write es k) (λ v e. batch_off k v e) x is

  -- The batch's words and the masked words may be put over an image in either order.
  pub batch-masked : (image : Image) → overwritten (batch_write es) (masked_image mask image) ≡ masked_image mask (overwritten (batch_write es) image)
  batch-masked image = λ i k. swapped (mask k) (batch_write es k) (image k) (λ x is. not_written k x is) i

  module _ (words : Words) (batched : AreBatched es) (idle : (v : ℕ) → Has (values (words at)) v → is_idle_gate v ≡ true) where
    -- The same with the log replayed.
    settled_before : (image : Image) → Picks words image → settled_by at (masked_image mask image) ≡ masked_image mask (settled_by at image)
    settled_before image picked = settled_by-masked_idle at mask beside image (idle (image at) (picked.each at))

    settled_left : (image : Image) → (is_idle_gate (image at) ≡ true) ⊎ (log_of image at ≡ committed es) → settled_by at (masked_image mask image) ≡ masked_image mask (settled_by at image)
    settled_left image (inl counts_nothing) = settled_by-masked_idle at mask beside image counts_nothing
    settled_left image (inr log) =
        settled_by-masked at mask beside image (λ k x is. ap (λ (l : Log). new_value device_word l k) log ∙ new_value-committed es k batched ∙ not_written k x is)

    outside_masked : (before image : Image) (k : ℕ) → image k ≡ before k → masked_image mask image k ≡ masked_image mask before k
    outside_masked before image k same = ap (unwrap_or (mask k)) same

    pub IsBatched-masked : (image : Image) → IsBatched words at es image → IsBatched (masked mask words) at es (masked_image mask image)
    IsBatched-masked image b =
        let from = sym (settled_before b.before b.picked) in
        record {
          before = masked_image mask b.before;
          picked = Picks-masked mask words b.before b.picked;
          outside = λ k apart none. outside_masked b.before image k (b.outside k apart none);
          settled = elim b.settled [
            | inl same ↦ inl (settled_left image b.log ∙ ap (masked_image mask) same ∙ from)
            | inr all ↦ inr (settled_left image b.log ∙ ap (masked_image mask) all ∙ sym (batch-masked (settled_by at b.before)) ∙ ap (overwritten (batch_write es)) from)
          ];
          log = elim b.log [
            | inl counts_nothing ↦ inl (ap is_idle_gate (masked_image-elsewhere mask image at gate_off) ∙ counts_nothing)
            | inr log ↦ inr (log_of-masked at mask beside image ∙ log)
          ];
        }

  pub Commits-masked : (fault : Option HostFault) (old new : State) → AreBatched es → ((v : ℕ) → Has (values (old.now.words at)) v → is_idle_gate v ≡ true)
      → Commits at es fault old new → Commits at es fault (masked_state mask old) (masked_state mask new)
  Commits-masked fault old new batched idle c =
      let P = Silently (IsBatched (masked mask old.now.words) at es) in
      record {
        changes = Changes-masked mask (ByBatch at es) fault old new c.changes;
        moments = Leaves-masked mask P old new
            (Leaves-weaker (Silently (IsBatched old.now.words at es)) (λ bytes image. P bytes (masked_image mask image)) old new
            (λ bytes image p. (p.0, IsBatched-masked old.now.words batched idle image p.1)) c.moments);
        durable = λ e k v is. HasOnly-masked mask new.now.words k v (batch_off k v is) (c.durable e k v is);
        closed = λ e. HasOnly-masked mask new.now.words at _ gate_off (c.closed e);
      }

  -- The gate has the same values, masked or not.
  pub gate-masked : (words : Words) → masked mask words at ≡ words at
  gate-masked words = masked-elsewhere mask words at gate_off

  pub IsFree-unmasked : (size : ℕ) (words : Words) → IsFree size at es (masked mask words) → IsFree size at es words
  IsFree-unmasked size words free = record {
    idle = λ v has. free.idle v (subst (λ (c : Cell). Has (values c) v) (sym (gate-masked words)) has);
    apart = free.apart;
  }

-- If no word is masked, the world of the device itself moves.
pub unmasked_moves : (size : ℕ) (s next : StoredWorld) (es : List Entry) (fault : Option HostFault) (a b : State) → Moves size s next es fault (masked_state no_mask a) (masked_state no_mask b)
    → Moves size s next es fault a b
unmasked_moves size s next es fault a b m = unmasked (λ (x y : State). Moves size s next es fault x y) a b m
