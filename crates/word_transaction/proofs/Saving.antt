-- Entries of a transaction are appended to its log under one gate: values of words that are to be saved, or deferred
-- values.
use Rattle.std.proofs.Common.{◌≡◌, inl, inr, ℕ, ◌+◌, true, List, [], ◌∷◌, ◌++◌, length, Option, Some, None, Ok, Err, Result, refl, sym, ap, ap₂, ◌∙◌}
use Rattle.std.specs.Prelude.{All}
use Rattle.std.specs.Option.{option_or}
use Rattle.std.proofs.lemmas.List.Elements.{All-nil, All-cons, All-append, All-head, All-tail}
use Rattle.pm_model.specs.declared.host.HostFault.{HostFault}
use Rattle.pm_model.specs.Words.{Words, reads}
use Rattle.pm_model.specs.Moments.{State}
use Rattle.pm_model.specs.Changes.{Changes, Leaves, Silently, placed}
use Rattle.pm_model.proofs.Changes.{Changes-wider, HasOnly-kept}
use Rattle.pm_model.proofs.Leaves.{Leaves-weaker}
use Rattle.pud_defs.specs.declared.log_words.TheConstants.{UNDO_ORDER}
use Rattle.pud_defs.specs.Formats.Image.{Image}
use Rattle.pud_defs.specs.Logging.Entries.{Entry, log_of, words_from}
use Rattle.pud_defs.specs.Logging.Replay.{value_from, given_by}
use Rattle.pud_defs.proofs.Logging.Entries.{words_from-length, words_from-step, words_from-none}
use Rattle.pud_defs.proofs.Logging.Replay.{not_inside, or_none, undo_value-first, undo_value-none}
use Rattle.log_store.specs.Store.{OpenLog, undo_entry, with_entries, saying, InLog, IsOpen, with_last, HasGrown, Appends, append_fault}
use Rattle.log_store.specs.declared.AppendFault.{AppendFault}
use Rattle.log_store.specs.declared.AppendFault.TheVariants.{Host, TooBig}
use Rattle.log_store.proofs.Open.{IsOpen-log}
use Rattle.word_transaction.specs.Scope.{Scope, IsScope, IsUndo, IsInScope, redo_entry, running_range, saved}
use Rattle.word_transaction.specs.Running.{IsRunning, MayAppend, no_write, RecoversTo, ByTransaction, KeepsRunning}
use Rattle.word_transaction.proofs.Saved.{some_not_none, either_some, value_of_given, saved_is_mine, saved-append, saved-none_first, saved-redo, placed_words}
use Rattle.word_transaction.proofs.Images.{RecoversTo-running}
use Rattle.word_transaction.proofs.Calls.{some_fault, marked_still}

-- ---- entries that may be appended

module _ (size : ℕ) (g : Scope) (log : OpenLog) (es : List Entry) (before : Image) (count : ℕ) (more : List Entry) (s : State)
    (scope : IsScope size log.gate_at g) (r : IsRunning g log es before s.now.words) (may : MayAppend g es before more) where
  abbrev longer_log : OpenLog
  longer_log = with_entries count more log

  own_more : All (IsInScope g) (es ++ more)
  own_more = All-append (IsInScope g) es more r.own may.own

  -- An image with the log as it was, or with the entries at its end.
  moment : (image : Image) → HasGrown s.now.words log.gate_at more image → RecoversTo g log.gate_at before image
  moment image grown =
      let was : log_of grown.before log.gate_at ≡ saying log es = IsOpen-log log es s.now.words grown.before r.opened grown.picked in
      let same : (k : ℕ) → g.has_word k ≡ true → saved g.place es k ≡ None → image k ≡ before k = λ k mine none.
      grown.outside k (not_inside log.gate_at k (scope.apart k mine)) ∙ (r.single k mine none).each (grown.before k) (grown.picked.each k) in
      elim grown.log [
        | inl still ↦ RecoversTo-running g log es before image r.lo r.hi r.own (still ∙ was) (λ k v mine is. r.saves k v is) same
        | inr grew ↦ RecoversTo-running g log (es ++ more) before image r.lo r.hi own_more (grew ∙ ap (with_last more) was)
            (λ k v mine is. may.saves k v is) (λ k mine none. same k mine (saved-none_first g.place es more k none))
      ]

  outside : (k : ℕ) → g.has_word k ≡ true → (v : ℕ) → InLog log.gate_at k v → ⊥
  outside k mine v inside = not_inside log.gate_at k (scope.apart k mine) inside

  running : (t : State) → Changes (InLog log.gate_at) None s t → IsOpen longer_log (es ++ more) t.now.words → IsRunning g longer_log (es ++ more) before t.now.words
  running t changes opened =
      record {
        opened = opened;
        lo = r.lo;
        hi = r.hi;
        own = own_more;
        saves = may.saves;
        single = λ k mine none. HasOnly-kept (InLog log.gate_at) None s t k (before k) changes (outside k mine) (r.single k mine (saved-none_first g.place es more k none));
        marked = λ k mine. marked_still (InLog log.gate_at) None s t k changes (outside k mine) (r.marked k mine);
      }

  grown_left : (t : State) → Leaves (Silently (HasGrown s.now.words log.gate_at more)) s t → Leaves (Silently (RecoversTo g log.gate_at before)) s t
  grown_left t moments = Leaves-weaker (Silently (HasGrown s.now.words log.gate_at more)) (Silently (RecoversTo g log.gate_at before)) s t (λ bytes image p. (p.0, moment image p.1)) moments

  by_log : (fault : Option HostFault) (t : State) → Changes (InLog log.gate_at) fault s t → Changes (ByTransaction g log.gate_at) fault s t
  by_log fault t changes = Changes-wider (InLog log.gate_at) (ByTransaction g log.gate_at) fault s t (λ k v inside. inl inside) changes

  -- The entries were not appended.
  pub KeepsRunning-unappended : (fault : HostFault) (t : State) → Changes (InLog log.gate_at) (Some fault) s t → Appends log es count more (Err (Host fault)) s t
      → KeepsRunning g longer_log (es ++ more) before no_write (Some fault) s t
  KeepsRunning-unappended fault t changes a =
      record {
        changes = by_log (Some fault) t changes;
        moments = grown_left t a.moments;
        running = λ none. absurd (some_fault fault none);
        now = λ none. absurd (some_fault fault none);
      }

  -- The entries were appended.
  pub KeepsRunning-appended : (t : State) → Changes (InLog log.gate_at) None s t → Appends log es count more (Ok tt) s t → KeepsRunning g longer_log (es ++ more) before no_write None s t
  KeepsRunning-appended t changes a =
      record {
        changes = by_log None t changes;
        moments = grown_left t a.moments;
        running = λ _. running t changes a.done;
        now = λ _ k out. (changes.keeps (λ cut. cc) k (λ v inside. not_inside log.gate_at k out inside)).newest;
      }

pub KeepsRunning-append : (size : ℕ) (g : Scope) (log : OpenLog) (es : List Entry) (before : Image) (count : ℕ) (more : List Entry) (result : Result (Unit {0}) AppendFault) (s t : State)
    → IsScope size log.gate_at g → IsRunning g log es before s.now.words → MayAppend g es before more → (result ≡ Err TooBig → ⊥)
    → Changes (InLog log.gate_at) (append_fault result) s t → Appends log es count more result s t → KeepsRunning g (with_entries count more log) (es ++ more) before no_write (append_fault result) s t
KeepsRunning-append size g log es before count more (Ok tt) s t scope r may room changes a = KeepsRunning-appended size g log es before count more s scope r may t changes a
KeepsRunning-append size g log es before count more (Err TooBig) s t scope r may room changes a = absurd (room refl)
KeepsRunning-append size g log es before count more (Err (Host fault)) s t scope r may room changes a = KeepsRunning-unappended size g log es before count more s scope r may fault t changes a

-- ---- the values of words

-- an undo entry with the values that own words have in this image, from the word of its address on
pub record IsRead (g : Scope) (image : Image) (e : Entry) : Type 0 where
  pub undo : IsUndo e
  pub may : g.may_name e.address (length e.vals) ≡ true
  pub first : ℕ
  pub place : g.place e.address ≡ Some first
  pub vals : e.vals ≡ words_from image first (length e.vals)

pub IsRead-held : (g : Scope) (image : Image) (address first count : ℕ) (vals : List ℕ) → g.may_name address count ≡ true → g.place address ≡ Some first → vals ≡ words_from image first count
    → IsRead g image (undo_entry address vals)
IsRead-held g image address first count vals may place are =
    let size : length vals ≡ count = ap length are ∙ words_from-length image first count in
    record {
      undo = record { seq = refl; order = refl };
      may = ap (g.may_name address) size ∙ may;
      first = first;
      place = place;
      vals = are ∙ ap (words_from image first) (sym size);
    }

-- Such an entry of one word.
pub IsRead-word : (g : Scope) (image : Image) (address first v : ℕ) → g.may_name address 1 ≡ true → g.place address ≡ Some first → v ≡ image first → IsRead g image (undo_entry address (v ∷ []))
IsRead-word g image address first v may place is =
    IsRead-held g image address first 1 (v ∷ []) may place
    (ap₂ (λ (x : ℕ) (xs : List ℕ). x ∷ xs) is (sym (words_from-none image (first + 1) 0 refl)) ∙ sym (words_from-step image first 1 0 refl))

IsRead-own : (g : Scope) (image : Image) (e : Entry) → IsRead g image e → IsInScope g e
IsRead-own g image e read = record { may = read.may; kind = inl read.undo }

-- Each value that such entries save is that of the image.
pub saved-read : (g : Scope) (image : Image) (more : List Entry) (k v : ℕ) → All (IsRead g image) more → saved g.place more k ≡ Some v → v ≡ image k
saved-read g image [] k v read is = absurd (some_not_none _ v is (undo_value-none g.place running_range k))
saved-read g image (e ∷ more) k v read is =
    elim (either_some (given_by g.place running_range UNDO_ORDER e k) (saved g.place more k) v (sym (undo_value-first g.place running_range e more k) ∙ is)) [
      | inl here ↦
          let it = All-head (IsRead g image) e more read in
          placed_words image it.first (length e.vals) k v
          (ap (λ (vs : List ℕ). placed it.first vs k) (sym it.vals) ∙ sym (ap (λ (o : Option ℕ). value_from o e.vals k) it.place) ∙ value_of_given g.place running_range UNDO_ORDER e k v here)
      | inr later ↦ saved-read g image more k v (All-tail (IsRead g image) e more read) later.1
    ]

-- Such entries may be appended: a word that is saved only now has its value from the beginning.
pub MayAppend-read : (size : ℕ) (g : Scope) (log : OpenLog) (es more : List Entry) (before : Image) (words : Words) → IsScope size log.gate_at g → IsRunning g log es before words
    → All (IsRead g (reads words)) more → MayAppend g es before more
MayAppend-read size g log es more before words scope r read =
    let own : All (IsInScope g) more = λ n d below. IsRead-own g (reads words) _ (read n d below) in
    record {
      own = own;
      saves = λ k v is. elim (either_some (saved g.place es k) (saved g.place more k) v (sym (saved-append g.place es more k) ∙ is)) [
        | inl first_time ↦ r.saves k v first_time
        | inr here ↦
            let mine = saved_is_mine size log.gate_at g (es ++ more) k v scope (All-append (IsInScope g) es more r.own own) is in
            saved-read g (reads words) more k v read here.1 ∙ (r.single k mine here.0).each (reads words k) (inl refl)
      ];
    }

-- ---- deferred values

-- A redo entry may be appended: it saves nothing more.
pub MayAppend-redo : (g : Scope) (log : OpenLog) (es : List Entry) (before : Image) (address : ℕ) (vals : List ℕ) (words : Words) → g.may_name address (length vals) ≡ true
    → IsRunning g log es before words → MayAppend g es before (redo_entry address vals ∷ [])
MayAppend-redo g log es before address vals words may r =
    record {
      own = All-cons (IsInScope g) (redo_entry address vals) [] (record { may = may; kind = inr (record { seq = refl; order = refl }) }) (All-nil (IsInScope g));
      saves = λ k v is. r.saves k v
          (or_none (saved g.place es k) ∙ ap (option_or (saved g.place es k)) (sym (saved-redo g.place address k vals)) ∙ sym (saved-append g.place es (redo_entry address vals ∷ []) k) ∙ is);
    }
