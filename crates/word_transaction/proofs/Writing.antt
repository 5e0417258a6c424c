-- Values are written to words of a transaction that are saved.
use Rattle.std.proofs.Common.{◌≡◌, ◌⊎◌, inl, inr, ℕ, true, List, [], Option, Some, None, refl, sym, ◌∙◌, arith}
use Rattle.pm_model.specs.declared.host.HostFault.{HostFault}
use Rattle.pm_model.specs.Words.{reads, Picks, HasOnly}
use Rattle.pm_model.specs.Moments.{State}
use Rattle.pm_model.specs.Changes.{Write, IsFrom, Writes, written}
use Rattle.pm_model.proofs.Changes.{Changes-wider, HasOnly-kept}
use Rattle.pm_model.proofs.Leaves.{Leaves-changes}
use Rattle.pud_defs.specs.Formats.Image.{Image}
use Rattle.pud_defs.specs.Logging.Entries.{Entry}
use Rattle.pud_defs.specs.Logging.Replay.{overwritten, IsInLog}
use Rattle.pud_defs.proofs.Logging.Replay.{overwritten-stays, overwritten-there, not_inside}
use Rattle.log_store.specs.Store.{OpenLog}
use Rattle.log_store.proofs.Open.{IsOpen-fits, IsOpen-kept, IsOpen-log_by}
use Rattle.word_transaction.specs.Scope.{Scope, IsScope}
use Rattle.word_transaction.specs.Running.{IsRunning, IsCovered, RecoversTo, ByTransaction, KeepsRunning}
use Rattle.word_transaction.proofs.Saved.{some_not_none}
use Rattle.word_transaction.proofs.Images.{RecoversTo-running}
use Rattle.word_transaction.proofs.Calls.{not_cut, marked_still}

-- ---- words that are covered are written

module _ (size : ℕ) (g : Scope) (log : OpenLog) (es : List Entry) (before : Image) (write : Write) (fault : Option HostFault) (s t : State)
    (scope : IsScope size log.gate_at g) (r : IsRunning g log es before s.now.words) (covered : IsCovered g es write) (w : Writes write fault s t) where
  -- None of the words is a word of the log.
  beside_log : (k v : ℕ) → IsInLog log.gate_at k → written write k v → ⊥
  beside_log k v inside may = not_inside log.gate_at k (scope.apart k (covered.has_word k v may)) inside

  none_comes : (k : ℕ) → write k ≡ None → (v : ℕ) → written write k v → ⊥
  none_comes k none v may = some_not_none (write k) v may none

  moment : (was image : Image) → Picks s.now.words was → IsFrom (written write) was image → RecoversTo g log.gate_at before image
  moment was image picked from =
      let used = (IsOpen-fits log es s.now.words r.opened).used_within in
      let in_log : (k : ℕ) → IsInLog log.gate_at k → image k ≡ was k = λ k inside. elim (from.each k) [ inl same ↦ same | inr new ↦ absurd (beside_log k (image k) inside new) ] in
      RecoversTo-running g log es before image r.lo r.hi r.own
      (IsOpen-log_by log es s.now.words image r.opened
      (in_log log.gate_at (record { low = omega arith; high = omega arith }) ∙ r.opened.gate.each (was log.gate_at) (picked.each log.gate_at))
      (λ k low high. in_log k (record { low = omega arith; high = omega arith }) ∙ (r.opened.counted k low high).each (was k) (picked.each k)))
      (λ k v mine is. r.saves k v is)
      (λ k mine none. (let it : image k ≡ was k = elim (from.each k) [ inl same ↦ same | inr new ↦ absurd (covered.kept k (image k) new none) ] in it)
      ∙ (r.single k mine none).each (was k) (picked.each k))

  marked_by : fault ≡ None → (k : ℕ) → g.has_word k ≡ true → (o : Option ℕ) → write k ≡ o → ((t.now.words k).kept ≡ []) ⊎ HasOnly (t.now.words k) (t.now.words k).newest
  marked_by none k mine (Some v) is = inl (w.marked none k v is)
  marked_by none k mine None is = marked_still (written write) fault s t k w.changes (none_comes k is) (r.marked k mine)

  running : fault ≡ None → IsRunning g log es before t.now.words
  running none =
      record {
        opened = IsOpen-kept (written write) fault s t log es w.changes beside_log r.opened;
        lo = r.lo;
        hi = r.hi;
        own = r.own;
        saves = r.saves;
        single = λ k mine free. HasOnly-kept (written write) fault s t k (before k) w.changes (λ v may. covered.kept k v may free) (r.single k mine free);
        marked = λ k mine. marked_by none k mine (write k) refl;
      }

  now_by : fault ≡ None → (k : ℕ) → (o : Option ℕ) → write k ≡ o → reads t.now.words k ≡ overwritten write (reads s.now.words) k
  now_by none k (Some v) is = w.newest none k v is ∙ sym (overwritten-there write (reads s.now.words) k v is)
  now_by none k None is = (w.changes.keeps (not_cut fault none) k (none_comes k is)).newest ∙ sym (overwritten-stays write (reads s.now.words) k is)

  pub KeepsRunning-written : KeepsRunning g log es before write fault s t
  KeepsRunning-written =
      record {
        changes = Changes-wider (written write) (ByTransaction g log.gate_at) fault s t (λ k v may. inr (covered.has_word k v may)) w.changes;
        moments = Leaves-changes (RecoversTo g log.gate_at before) (written write) fault s t moment w.changes;
        running = running;
        now = λ none k out. now_by none k (write k) refl;
      }
