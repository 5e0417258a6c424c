-- A transaction on words begins: its log is opened, and no log was open before.
use Rattle.std.proofs.Common.{◌≡◌, inl, inr, ℕ, ◌+◌, true, false, [], Option, Some, None, refl, sym, ap, subst, ◌∙◌, arith}
use Rattle.std.proofs.lemmas.List.Elements.{All-nil}
use Rattle.pm_model.specs.declared.host.HostFault.{HostFault}
use Rattle.pm_model.specs.Words.{Picks, HasOnly}
use Rattle.pm_model.specs.Moments.{State}
use Rattle.pm_model.specs.Changes.{IsFrom, Persists, only, written}
use Rattle.pm_model.proofs.Words.{HasOnly-own, only_at}
use Rattle.pm_model.proofs.OneWord.{one_word}
use Rattle.pm_model.proofs.Changes.{Changes-wider, HasOnly-kept}
use Rattle.pm_model.proofs.Leaves.{Leaves-changes}
use Rattle.pud_defs.specs.declared.layout.TheConstants.{LOG_HEADER_WORDS}
use Rattle.pud_defs.specs.declared.log_words.TheConstants.{RUNNING_GATE}
use Rattle.pud_defs.specs.Formats.Image.{Image}
use Rattle.pud_defs.specs.Logging.Entries.{log_of}
use Rattle.pud_defs.specs.Logging.Replay.{IsInLog, is_in_log}
use Rattle.pud_defs.specs.RegistryTables.Spaces.{is_closed_log}
use Rattle.pud_defs.proofs.Logging.Entries.{words_from-none, entries_in-nothing}
use Rattle.pud_defs.proofs.Logging.Replay.{undo_value-none, not_inside}
use Rattle.log_store.specs.Store.{saying}
use Rattle.log_store.proofs.Open.{log_of-is, IsOpen-running}
use Rattle.word_transaction.specs.Scope.{Scope, IsScope, IsInScope, running_range, saved}
use Rattle.word_transaction.specs.Running.{IsRunning, IsIdle, no_write, begun_log, RecoversTo, ByTransaction, KeepsRunning}
use Rattle.word_transaction.proofs.Saved.{some_not_none}
use Rattle.word_transaction.proofs.Images.{RecoversTo-running, RecoversTo-closed}
use Rattle.word_transaction.proofs.Calls.{not_cut}

-- Without entries no word is saved.
nothing_saved : (g : Scope) (before : Image) (k v : ℕ) → saved g.place [] k ≡ Some v → v ≡ before k
nothing_saved g before k v is = absurd (some_not_none (saved g.place [] k) v is (undo_value-none g.place running_range k))

-- The gate of a log that has just begun makes it a running log without entries.
log_of-begun_log : (at : ℕ) (image : Image) → image at ≡ RUNNING_GATE → log_of image at ≡ saying (begun_log at) []
log_of-begun_log at image gate =
    log_of-is image (begun_log at) [] [] (record { lo_fits = omega arith; hi_fits = omega arith; used_within = omega arith }) gate
    (words_from-none image (at + LOG_HEADER_WORDS) 0 refl) (entries_in-nothing [] refl)

module _ (size at : ℕ) (g : Scope) (before : Image) (fault : Option HostFault) (s t : State) (scope : IsScope size at g) (idle : IsIdle g at before s.now.words)
    (p : Persists (only at RUNNING_GATE) fault s t) where
  in_log : IsInLog at at
  in_log = record { low = omega arith; high = omega arith }

  other : (k : ℕ) → is_in_log at k ≡ false → k ≡ at → ⊥
  other k out here = not_inside at k out (subst (λ (n : ℕ). IsInLog at n) (sym here) in_log)

  gate_alone : (k : ℕ) → is_in_log at k ≡ false → (v : ℕ) → written (only at RUNNING_GATE) k v → ⊥
  gate_alone k out v may = other k out (only_at at RUNNING_GATE k v may)

  single : (k : ℕ) → g.has_word k ≡ true → HasOnly (t.now.words k) (before k)
  single k mine = HasOnly-kept (written (only at RUNNING_GATE)) fault s t k (before k) p.changes (gate_alone k (scope.apart k mine)) (idle.single k mine)

  moment : (was image : Image) → Picks s.now.words was → IsFrom (written (only at RUNNING_GATE)) was image → RecoversTo g at before image
  moment was image picked from =
      let same : (k : ℕ) → g.has_word k ≡ true → was k ≡ before k = λ k mine. (idle.single k mine).each (was k) (picked.each k) in
      elim (one_word at RUNNING_GATE was image from) [
        | inl still ↦ RecoversTo-closed g at before image (ap (λ (i : Image). is_closed_log i at) still ∙ idle.closed was picked) (λ k mine. ap (λ (i : Image). i k) still ∙ same k mine)
        | inr runs ↦ RecoversTo-running g (begun_log at) [] before image refl refl (All-nil (IsInScope g)) (log_of-begun_log at image runs.there)
            (λ k v mine is. nothing_saved g before k v is) (λ k mine none. runs.others k (other k (scope.apart k mine)) ∙ same k mine)
      ]

  running : fault ≡ None → IsRunning g (begun_log at) [] before t.now.words
  running none =
      record {
        opened = IsOpen-running at s t (subst (λ (f : Option HostFault). Persists (only at RUNNING_GATE) f s t) none p);
        lo = refl;
        hi = refl;
        own = All-nil (IsInScope g);
        saves = nothing_saved g before;
        single = λ k mine _. single k mine;
        marked = λ k mine. inr (HasOnly-own (t.now.words k) (before k) (single k mine));
      }

  pub KeepsRunning-begun : KeepsRunning g (begun_log at) [] before no_write fault s t
  KeepsRunning-begun =
      record {
        changes = Changes-wider (written (only at RUNNING_GATE)) (ByTransaction g at) fault s t
            (λ k v may. inl (let here = only_at at RUNNING_GATE k v may in record { low = omega arith; high = omega arith })) p.changes;
        moments = Leaves-changes (RecoversTo g at before) (written (only at RUNNING_GATE)) fault s t moment p.changes;
        running = running;
        now = λ none k out. (p.changes.keeps (not_cut fault none) k (gate_alone k out)).newest;
      }
