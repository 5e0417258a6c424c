-- A transaction is undone to a place in its log: the later entries are undone, which is made durable, and then cut off.
use Rattle.std.proofs.Common.{◌≡◌, ◌⊎◌, inl, inr, ℕ, true, List, [], ◌∷◌, ◌++◌, length, get_or, Option, Some, None, refl, sym, ap, subst, ◌∙◌, arith}
use Rattle.std.specs.Prelude.{All, unwrap_or}
use Rattle.std.specs.Option.{option_or}
use Rattle.std.proofs.lemmas.List.Elements.{All-nil, All-cons, All-head, All-tail}
use Rattle.pm_model.specs.declared.host.HostFault.{HostFault}
use Rattle.pm_model.specs.Words.{reads, Picks, HasOnly}
use Rattle.pm_model.specs.Moments.{State}
use Rattle.pm_model.specs.Changes.{Write, IsFrom, Changes, Silently, Persists, only, written}
use Rattle.pm_model.proofs.Words.{HasOnly-own, only_at}
use Rattle.pm_model.proofs.Changes.{Changes-wider, HasOnly-kept}
use Rattle.pm_model.proofs.Leaves.{Leaves-changes, Leaves-weaker}
use Rattle.pud_defs.specs.Formats.Image.{Image}
use Rattle.pud_defs.specs.Logging.Entries.{Entry, Log, log_of}
use Rattle.pud_defs.specs.Logging.Replay.{undo_value, over, IsInLog}
use Rattle.pud_defs.specs.RegistryTables.Tables.{tables_of}
use Rattle.pud_defs.specs.Logging.Allowed.{puddle_word}
use Rattle.pud_defs.proofs.Logging.Replay.{not_inside}
use Rattle.log_store.specs.Store.{OpenLog, InLog, saying, cut_to, with_those, HasShrunk, Cuts}
use Rattle.log_store.proofs.Open.{IsOpen-fits, IsOpen-kept, IsOpen-log, IsOpen-log_by}
use Rattle.log_replay.specs.declared.Target.TheVariants.{Puddles}
use Rattle.log_replay.specs.Replaying.{Named, old_values, Undoes}
use Rattle.log_replay.proofs.Past.{All-back, Undoes-same}
use Rattle.word_transaction.specs.Scope.{Scope, IsScope, IsInScope, running_range, saved}
use Rattle.word_transaction.specs.Running.{IsRunning, no_write, RecoversTo, ByTransaction, KeepsRunning, HasPlaces}
use Rattle.word_transaction.specs.Marks.{undone_image, BeginsUndone}
use Rattle.word_transaction.proofs.Saved.{some_not_none, undo_value-range, saved_is_mine, saved-append, saved-none_more}
use Rattle.word_transaction.proofs.Images.{RecoversTo-running}
use Rattle.word_transaction.proofs.Growing.{undo_value-places}
use Rattle.word_transaction.proofs.Calls.{not_cut, marked_still, KeepsRunning-then, KeepsRunning-writes, KeepsRunning-failed}

-- What is true of all entries is true of the first ones.
pub All-front : (P : Entry → Type 0) (front back : List Entry) → All P (front ++ back) → All P front
All-front P [] back all = All-nil P
All-front P (e ∷ front) back all = All-cons P e front (All-head P e (front ++ back) all) (All-front P front back (All-tail P e (front ++ back) all))

-- ---- the later entries are undone

module _ (size : ℕ) (g : Scope) (log : OpenLog) (front back : List Entry) (before : Image) (fault : Option HostFault) (s t : State)
    (scope : IsScope size log.gate_at g) (r : IsRunning g log (front ++ back) before s.now.words) (u : Undoes (saved g.place back) fault s t) where
  abbrev write : Write
  write = saved g.place back

  mine : (k v : ℕ) → write k ≡ Some v → g.has_word k ≡ true
  mine k v is = saved_is_mine size log.gate_at g back k v scope (All-back (IsInScope g) front back r.own) is

  -- A word that no entry saves is not written.
  unnamed : (k : ℕ) → saved g.place (front ++ back) k ≡ None → (v : ℕ) → Named write k v → ⊥
  unnamed k none v named = some_not_none (write k) named.value named.is (saved-none_more g.place front back k none)

  outside_log : (k v : ℕ) → IsInLog log.gate_at k → Named write k v → ⊥
  outside_log k v inside named = not_inside log.gate_at k (scope.apart k (mine k named.value named.is)) inside

  -- At every moment the whole log still gives the values from the beginning.
  moment : (was image : Image) → Picks s.now.words was → IsFrom (Named write) was image → RecoversTo g log.gate_at before image
  moment was image picked from =
      let used = (IsOpen-fits log (front ++ back) s.now.words r.opened).used_within in
      let in_log : (k : ℕ) → IsInLog log.gate_at k → image k ≡ was k = λ k inside. elim (from.each k) [ inl same ↦ same | inr named ↦ absurd (outside_log k (image k) inside named) ] in
      RecoversTo-running g log (front ++ back) before image r.lo r.hi r.own
      (IsOpen-log_by log (front ++ back) s.now.words image r.opened
      (in_log log.gate_at (record { low = omega arith; high = omega arith }) ∙ r.opened.gate.each (was log.gate_at) (picked.each log.gate_at))
      (λ k low high. in_log k (record { low = omega arith; high = omega arith }) ∙ (r.opened.counted k low high).each (was k) (picked.each k)))
      (λ k v own is. r.saves k v is)
      (λ k own none. (let it : image k ≡ was k = elim (from.each k) [ inl same ↦ same | inr named ↦ absurd (unnamed k none (image k) named) ] in it)
      ∙ (r.single k own none).each (was k) (picked.each k))

  marked_by : fault ≡ None → (k : ℕ) → g.has_word k ≡ true → (o : Option ℕ) → write k ≡ o → ((t.now.words k).kept ≡ []) ⊎ HasOnly (t.now.words k) (t.now.words k).newest
  marked_by none k own (Some v) is = inr (HasOnly-own (t.now.words k) v (u.durable none k v is))
  marked_by none k own None is = marked_still (Named write) fault s t k u.changes (λ v named. some_not_none (write k) named.value named.is is) (r.marked k own)

  running : fault ≡ None → IsRunning g log (front ++ back) before t.now.words
  running none =
      record {
        opened = IsOpen-kept (Named write) fault s t log (front ++ back) u.changes outside_log r.opened;
        lo = r.lo;
        hi = r.hi;
        own = r.own;
        saves = r.saves;
        single = λ k own free. HasOnly-kept (Named write) fault s t k (before k) u.changes (λ v named. unnamed k free v named) (r.single k own free);
        marked = λ k own. marked_by none k own (write k) refl;
      }

  pub KeepsRunning-undone : KeepsRunning g log (front ++ back) before (saved g.place back) fault s t
  KeepsRunning-undone =
      record {
        changes = Changes-wider (Named write) (ByTransaction g log.gate_at) fault s t (λ k v named. inr (mine k named.value named.is)) u.changes;
        moments = Leaves-changes (RecoversTo g log.gate_at before) (Named write) fault s t moment u.changes;
        running = running;
        now = λ none k out. u.reads_so none k;
      }

  -- After that each own word that the first entries do not save has its value from the beginning and no other.
  by_back : fault ≡ None → (k : ℕ) → g.has_word k ≡ true → saved g.place front k ≡ None → undone_image g back (reads s.now.words) k ≡ before k → (o : Option ℕ) → write k ≡ o → HasOnly (t.now.words k) (before k)
  by_back none k own free begun (Some v) is =
      let value : v ≡ before k = sym (ap (λ (o : Option ℕ). unwrap_or o (reads s.now.words k)) is) ∙ begun in
      subst (λ (x : ℕ). HasOnly (t.now.words k) x) value (u.durable none k v is)
  by_back none k own free begun None is =
      let gone : saved g.place (front ++ back) k ≡ None = saved-append g.place front back k ∙ ap (λ (o : Option ℕ). option_or o (write k)) free ∙ is in
      HasOnly-kept (Named write) fault s t k (before k) u.changes (λ v named. unnamed k gone v named) (r.single k own gone)

  pub single_then : fault ≡ None → BeginsUndone g front back before s.now.words
      → (k : ℕ) → g.has_word k ≡ true → saved g.place front k ≡ None → HasOnly (t.now.words k) (before k)
  single_then none begun k own free = by_back none k own free (begun k own free) (write k) refl

-- ---- the later entries are cut off

module _ (size : ℕ) (g : Scope) (log : OpenLog) (front back : List Entry) (before : Image) (used : ℕ) (fault : Option HostFault) (s t : State)
    (scope : IsScope size log.gate_at g) (r : IsRunning g log (front ++ back) before s.now.words)
    (single : (k : ℕ) → g.has_word k ≡ true → saved g.place front k ≡ None → HasOnly (s.now.words k) (before k)) (changes : Changes (InLog log.gate_at) fault s t) (cuts : Cuts log used front fault s t) where
  own_front : All (IsInScope g) front
  own_front = All-front (IsInScope g) front back r.own

  saves_front : (k v : ℕ) → saved g.place front k ≡ Some v → v ≡ before k
  saves_front k v is = r.saves k v (saved-append g.place front back k ∙ ap (λ (o : Option ℕ). option_or o (saved g.place back k)) is)

  -- An image with the log as it was, or with only the first entries.
  cut_moment : (image : Image) → HasShrunk s.now.words log.gate_at front image → RecoversTo g log.gate_at before image
  cut_moment image shrunk =
      let was : log_of shrunk.before log.gate_at ≡ saying log (front ++ back) = IsOpen-log log (front ++ back) s.now.words shrunk.before r.opened shrunk.picked in
      let as_it_was = λ (k : ℕ) (own : g.has_word k ≡ true). shrunk.outside k (not_inside log.gate_at k (scope.apart k own)) in
      elim shrunk.log [
        | inl still ↦ RecoversTo-running g log (front ++ back) before image r.lo r.hi r.own (still ∙ was) (λ k v own is. r.saves k v is)
            (λ k own none. as_it_was k own ∙ (r.single k own none).each (shrunk.before k) (shrunk.picked.each k))
        | inr shorter ↦ RecoversTo-running g (cut_to used log) front before image r.lo r.hi own_front (shorter ∙ ap (with_those front) was) (λ k v own is. saves_front k v is)
            (λ k own none. as_it_was k own ∙ (single k own none).each (shrunk.before k) (shrunk.picked.each k))
      ]

  outside : (k : ℕ) → g.has_word k ≡ true → (v : ℕ) → InLog log.gate_at k v → ⊥
  outside k own v inside = not_inside log.gate_at k (scope.apart k own) inside

  pub KeepsRunning-cut : KeepsRunning g (cut_to used log) front before no_write fault s t
  KeepsRunning-cut =
      record {
        changes = Changes-wider (InLog log.gate_at) (ByTransaction g log.gate_at) fault s t (λ k v inside. inl inside) changes;
        moments = Leaves-weaker (Silently (HasShrunk s.now.words log.gate_at front)) (Silently (RecoversTo g log.gate_at before)) s t (λ bytes image p. (p.0, cut_moment image p.1)) cuts.moments;
        running = λ none. record {
          opened = cuts.done none;
          lo = r.lo;
          hi = r.hi;
          own = own_front;
          saves = saves_front;
          single = λ k own free. HasOnly-kept (InLog log.gate_at) fault s t k (before k) changes (outside k own) (single k own free);
          marked = λ k own. marked_still (InLog log.gate_at) fault s t k changes (outside k own) (r.marked k own);
        };
        now = λ none k out. (changes.keeps (not_cut fault none) k (λ v inside. not_inside log.gate_at k out inside)).newest;
      }

-- ---- both, one after the other

-- The later entries are undone, and then the log is cut back to the first ones. At each moment the log of an image gives
-- the values from the beginning.
pub KeepsRunning-undone_to : (size : ℕ) (g : Scope) (log : OpenLog) (front back : List Entry) (before : Image) (used : ℕ) (fault : Option HostFault) (a b c : State) → IsScope size log.gate_at g
    → IsRunning g log (front ++ back) before a.now.words → BeginsUndone g front back before a.now.words
    → Undoes (saved g.place back) None a b → Changes (InLog log.gate_at) fault b c → Cuts log used front fault b c
    → KeepsRunning g (cut_to used log) front before (saved g.place back) fault a c
KeepsRunning-undone_to size g log front back before used fault a b c scope r begun u changes cuts =
    let undone = KeepsRunning-undone size g log front back before None a b scope r u in
    KeepsRunning-writes g (cut_to used log) front before (over (saved g.place back) no_write) (saved g.place back) fault a c (λ k. refl)
    (KeepsRunning-then g log (cut_to used log) (front ++ back) front before (saved g.place back) no_write fault a b c refl undone
    (KeepsRunning-cut size g log front back before used fault b c scope (undone.running refl) (single_then size g log front back before None a b scope r u refl begun) changes cuts))

-- The undoing failed.
pub KeepsRunning-undone_short : (size : ℕ) (g : Scope) (log : OpenLog) (front back : List Entry) (before : Image) (used : ℕ) (fault : HostFault) (a b : State) → IsScope size log.gate_at g
    → IsRunning g log (front ++ back) before a.now.words → Undoes (saved g.place back) (Some fault) a b → KeepsRunning g (cut_to used log) front before (saved g.place back) (Some fault) a b
KeepsRunning-undone_short size g log front back before used fault a b scope r u =
    KeepsRunning-failed g log (cut_to used log) (front ++ back) front before (saved g.place back) (saved g.place back) fault a b refl (KeepsRunning-undone size g log front back before (Some fault) a b scope r u)

-- What the later entries of the log give by the puddle table is what they save.
pub Undoes-saved : (F at : ℕ) (g : Scope) (log : OpenLog) (front back : List Entry) (before : Image) (fault : Option HostFault) (a b : State) → at ≡ log.gate_at → IsRunning g log (front ++ back) before a.now.words
    → HasPlaces g (puddle_word (tables_of F (reads a.now.words))) → Undoes (old_values (Puddles F) at back (reads a.now.words)) fault a b → Undoes (saved g.place back) fault a b
Undoes-saved F at g log front back before fault a b here r places u =
    let place = puddle_word (tables_of F (reads a.now.words)) in
    let own = All-back (IsInScope g) front back r.own in
    Undoes-same (undo_value place (log_of (reads a.now.words) at) back) (saved g.place back) fault a b
    (λ k. sym (
    ap (λ (n : ℕ). undo_value place (log_of (reads a.now.words) n) back k) here
    ∙ ap (λ (l : Log). undo_value place l back k) r.opened.says
    ∙ undo_value-range place (saying log (front ++ back)) running_range back k r.lo r.hi
    ∙ undo_value-places g.place place running_range back k (λ n d below. places.each (get_or back n d).address (length (get_or back n d).vals) (own n d below).may))) u

-- When the log is cut back, only its gate is written.
pub in_gate : (log : OpenLog) (gate : ℕ) (fault : Option HostFault) (s t : State) → Persists (only log.gate_at gate) fault s t → Changes (InLog log.gate_at) fault s t
in_gate log gate fault s t p =
    Changes-wider (written (only log.gate_at gate)) (InLog log.gate_at) fault s t (λ k v may. let here = only_at log.gate_at gate k v may in record { low = omega arith; high = omega arith }) p.changes
