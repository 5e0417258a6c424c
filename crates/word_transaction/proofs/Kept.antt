-- What a call within a transaction saves, whether words are saved already or not, and what is written after that.
use Rattle.std.proofs.Common.{◌≡◌, ◌⊎◌, inl, inr, ℕ, true, List, [], ◌∷◌, ◌++◌, length, Option, Some, None, Result, Ok, Err, refl, sym, ap, ap₂, subst, ◌∙◌, arith}
use Rattle.std.specs.Option.{option_or}
use Rattle.std.proofs.lemmas.List.{append-nil}
use Rattle.std.specs.Prelude.{All, IfOk, OnErr}
use Rattle.pm_model.specs.declared.host.HostFault.{HostFault}
use Rattle.pm_model.specs.declared.host.HostFault.TheVariants.{Cut}
use Rattle.pm_model.specs.Words.{reads}
use Rattle.pm_model.specs.Moments.{State}
use Rattle.pm_model.specs.Counts.{fault_of}
use Rattle.pm_model.specs.Changes.{Write, placed}
use Rattle.pm_persist.proofs.Ranges.{placed_within}
use Rattle.pud_defs.specs.Formats.Image.{Image}
use Rattle.pud_defs.specs.Logging.Entries.{Entry}
use Rattle.pud_defs.specs.Logging.Replay.{AddressMap, over}
use Rattle.pud_defs.proofs.Logging.Replay.{undo_value-none}
use Rattle.log_store.specs.Store.{OpenLog, undo_entry, with_entries}
use Rattle.word_transaction.specs.Scope.{Scope, IsScope, running_range, saved, deferred_entries}
use Rattle.word_transaction.specs.Marks.{Mark, AreMarks}
use Rattle.word_transaction.specs.Running.{IsRunning, IsCovered, IsOneOf, MayAppend, no_write, KeepsRunning, SavesWords, SavesAndWrites}
use Rattle.word_transaction.proofs.Saved.{some_not_none, saved-append, saved-none_first, saved-none_more, saved_by_one}
use Rattle.word_transaction.proofs.MarksKept.{AreMarks-kept}
use Rattle.word_transaction.proofs.Calls.{some_fault, KeepsRunning-still, KeepsRunning-failed, KeepsRunning-after, KeepsRunning-then}
use Rattle.word_transaction.proofs.Saving.{IsRead, MayAppend-read, saved-read}

-- ---- what entries save

-- Two undo entries, of which the second has one value, save each of their words.
pub saved_by_two : (place : AddressMap) (address first address2 second k word : ℕ) (vals : List ℕ) → place address ≡ Some first → place address2 ≡ Some second
    → IsOneOf first (length vals) k ⊎ (k ≡ second) → saved place (undo_entry address vals ∷ undo_entry address2 (word ∷ []) ∷ []) k ≡ None → ⊥
saved_by_two place address first address2 second k word vals is also one none =
    let e = undo_entry address vals in
    let f = undo_entry address2 (word ∷ []) in
    elim one [
      | inl here ↦ saved_by_one place address first k vals is here (saved-none_first place (e ∷ []) (f ∷ []) k none)
      | inr there ↦ saved_by_one place address2 second k (word ∷ []) also (omega arith, omega arith) (saved-none_more place (e ∷ []) (f ∷ []) k none)
    ]

-- ---- calls that save

-- Nothing was done: all that was to be saved is saved already, or the call failed.
pub SavesWords-still : (g : Scope) (log : OpenLog) (es back : List Entry) (before : Image) (which : ℕ → Type 0) (fault : Option HostFault) (old new : State) → (fault ≡ Some Cut → ⊥) → new ≡ old
    → IsRunning g log (es ++ back) before old.now.words → (fault ≡ None → (k : ℕ) → which k → saved g.place back k ≡ None → ⊥) → SavesWords g log es back before which fault old new
SavesWords-still g log es back before which fault old new uncut same r kept =
    record {
      more = [];
      runs = subst (λ (xs : List Entry). KeepsRunning g log xs before no_write fault old new) (sym (append-nil (es ++ back))) (KeepsRunning-still g log (es ++ back) before fault old new uncut same r);
      defers = refl;
      values = λ k v is. absurd (some_not_none (saved g.place [] k) v is (undo_value-none g.place running_range k));
      kept = λ none k is gone. kept none k is (ap (λ (xs : List Entry). saved g.place xs k) (sym (append-nil back)) ∙ gone);
    }

-- The log after a call, whatever the call returned.
pub KeepsRunning-now : (g : Scope) (log longer now : OpenLog) (es : List Entry) (before : Image) (result : Result (Unit {0}) HostFault) (old new : State) → longer.gate_at ≡ log.gate_at
    → IfOk result (λ _. now ≡ longer) → OnErr result (now ≡ log) → KeepsRunning g longer es before no_write (fault_of result) old new → KeepsRunning g now es before no_write (fault_of result) old new
KeepsRunning-now g log longer now es before (Ok x) old new at ok err r = subst (λ (l : OpenLog). KeepsRunning g l es before no_write None old new) (sym ok) r
KeepsRunning-now g log longer now es before (Err fault) old new at ok err r =
    KeepsRunning-failed g longer now es es before no_write no_write fault old new (ap (λ (l : OpenLog). l.gate_at) err ∙ sym at) r

-- The values of own words were read, and then entries of them were appended.
pub SavesWords-appended : (size : ℕ) (g : Scope) (log now : OpenLog) (es back : List Entry) (before : Image) (which : ℕ → Type 0) (count : ℕ) (more : List Entry) (result : Result (Unit {0}) HostFault) (s b t : State)
    → IsScope size log.gate_at g → IsRunning g log (es ++ back) before s.now.words → b ≡ s → All (IsRead g (reads s.now.words)) more → deferred_entries more ≡ [] → ((k : ℕ) → which k → saved g.place more k ≡ None → ⊥)
    → IfOk result (λ _. now ≡ with_entries count more log) → OnErr result (now ≡ log)
    → (IsRunning g log (es ++ back) before b.now.words → MayAppend g (es ++ back) before more → KeepsRunning g (with_entries count more log) ((es ++ back) ++ more) before no_write (fault_of result) b t)
    → SavesWords g now es back before which (fault_of result) s t
SavesWords-appended size g log now es back before which count more result s b t scope r same read none saves ok err appends =
    let all = es ++ back in
    let runs = appends (subst (λ (x : State). IsRunning g log all before x.now.words) (sym same) r) (MayAppend-read size g log all more before s.now.words scope r read) in
    record {
      more = more;
      runs = subst (λ (x : State). KeepsRunning g now (all ++ more) before no_write (fault_of result) x t) same (KeepsRunning-now g log (with_entries count more log) now (all ++ more) before result b t refl ok err runs);
      defers = none;
      values = λ k v is. saved-read g (reads s.now.words) more k v read is;
      kept = λ _ k is gone. saves k is (saved-none_more g.place back more k gone);
    }

-- A call after one that did nothing.
pub SavesWords-from : (g : Scope) (log now : OpenLog) (es back : List Entry) (before : Image) (which : ℕ → Type 0) (fault : Option HostFault) (s b t : State) → b ≡ s → IsRunning g log (es ++ back) before s.now.words
    → (IsRunning g log (es ++ back) before b.now.words → SavesWords g now es back before which fault b t) → SavesWords g now es back before which fault s t
SavesWords-from g log now es back before which fault s b t same r keeps =
    subst (λ (x : State). SavesWords g now es back before which fault x t) same (keeps (subst (λ (x : State). IsRunning g log (es ++ back) before x.now.words) (sym same) r))

-- Some of the words were saved before.
pub SavesWords-beside : (g : Scope) (now : OpenLog) (es back : List Entry) (before : Image) (which also all : ℕ → Type 0) (fault : Option HostFault) (old new : State)
    → ((k : ℕ) → all k → which k ⊎ also k) → ((k : ℕ) → also k → saved g.place back k ≡ None → ⊥) → SavesWords g now es back before which fault old new → SavesWords g now es back before all fault old new
SavesWords-beside g now es back before which also all fault old new either was keeps =
    record {
      more = keeps.more;
      runs = keeps.runs;
      defers = keeps.defers;
      values = keeps.values;
      kept = λ none k is gone. elim (either k is) [ inl here ↦ keeps.kept none k here gone | inr there ↦ was k there (saved-none_first g.place back keeps.more k gone) ];
    }

-- ---- words written after that

-- only own words are written, and only some of those that are saved
pub record WritesKept (g : Scope) (which : ℕ → Type 0) (write : Write) : Type 0 where
  pub has_word : (k v : ℕ) → write k ≡ Some v → g.has_word k ≡ true
  pub kept : (k v : ℕ) → write k ≡ Some v → which k

-- This holds for values written from the word of an address on, if the words there are saved.
pub WritesKept-placed : (size at : ℕ) (g : Scope) (address first : ℕ) (vals : List ℕ) → IsScope size at g → g.may_name address (length vals) ≡ true → g.place address ≡ Some first
    → WritesKept g (IsOneOf first (length vals)) (placed first vals)
WritesKept-placed size at g address first vals scope may place =
    let spans = scope.named address (length vals) may in
    let here : Some spans.first ≡ Some first = sym spans.placed ∙ place in
    let same : spans.first ≡ first = cc in
    record {
      has_word = λ k v is. let within = placed_within first k v vals is in spans.own k (omega arith) (omega arith);
      kept = λ k v is. let within = placed_within first k v vals is in (within.0, within.1);
    }

-- It also holds if more words are saved.
pub WritesKept-among : (g : Scope) (which all : ℕ → Type 0) (write : Write) → ((k : ℕ) → which k → all k) → WritesKept g which write → WritesKept g all write
WritesKept-among g which all write more writes = record { has_word = writes.has_word; kept = λ k v is. more k (writes.kept k v is) }

-- If all entries together do not save a word, the later ones do not save it.
unsaved_later : (g : Scope) (es back more : List Entry) (k : ℕ) → saved g.place ((es ++ back) ++ more) k ≡ None → saved g.place (back ++ more) k ≡ None
unsaved_later g es back more k none =
    saved-append g.place back more k
    ∙ ap₂ option_or (saved-none_more g.place es back k (saved-none_first g.place (es ++ back) more k none)) (saved-none_more g.place (es ++ back) more k none)

covered_by : (g : Scope) (log : OpenLog) (es back : List Entry) (before : Image) (which : ℕ → Type 0) (write : Write) (old new : State) → (keeps : SavesWords g log es back before which None old new) → WritesKept g which write
    → IsCovered g ((es ++ back) ++ keeps.more) write
covered_by g log es back before which write old new keeps writes = record { has_word = writes.has_word; kept = λ k v is none. keeps.kept refl k (writes.kept k v is) (unsaved_later g es back keeps.more k none) }

-- The words were not saved, and so they were not written.
pub SavesAndWrites-unkept : (g : Scope) (log now : OpenLog) (es back : List Entry) (before : Image) (which : ℕ → Type 0) (write : Write) (fault : HostFault) (old new : State) → now.gate_at ≡ log.gate_at
    → SavesWords g log es back before which (Some fault) old new → SavesAndWrites g now es back before write (Some fault) old new
SavesAndWrites-unkept g log now es back before which write fault old new at keeps =
    let all = (es ++ back) ++ keeps.more in
    record {
      more = keeps.more;
      runs = KeepsRunning-failed g log now all all before no_write write fault old new at keeps.runs;
      defers = keeps.defers;
      values = keeps.values;
      kept = λ none. absurd (some_fault fault none);
    }

-- The words were saved, and then written.
pub SavesAndWrites-written : (g : Scope) (log : OpenLog) (es back : List Entry) (before : Image) (which : ℕ → Type 0) (write : Write) (fault : Option HostFault) (a b c : State)
    → SavesWords g log es back before which None a b → WritesKept g which write
    → ((entries : List Entry) → IsRunning g log entries before b.now.words → IsCovered g entries write → KeepsRunning g log entries before write fault b c) → SavesAndWrites g log es back before write fault a c
SavesAndWrites-written g log es back before which write fault a b c keeps writes runs =
    let all = (es ++ back) ++ keeps.more in
    record {
      more = keeps.more;
      runs = KeepsRunning-after g log log all all before write fault a b c refl keeps.runs (runs all (keeps.runs.running refl) (covered_by g log es back before which write a b keeps writes));
      defers = keeps.defers;
      values = keeps.values;
      kept = λ none k v is gone. keeps.kept refl k (writes.kept k v is) gone;
    }

-- The words were saved, then some of them were written, and then others.
pub SavesAndWrites-both : (g : Scope) (log : OpenLog) (es back : List Entry) (before : Image) (which : ℕ → Type 0) (first later : Write) (fault : Option HostFault) (a b c d : State)
    → SavesWords g log es back before which None a b → WritesKept g which first → WritesKept g which later
    → ((entries : List Entry) → IsRunning g log entries before b.now.words → IsCovered g entries first → KeepsRunning g log entries before first None b c)
    → ((entries : List Entry) → IsRunning g log entries before c.now.words → IsCovered g entries later → KeepsRunning g log entries before later fault c d) → SavesAndWrites g log es back before (over first later) fault a d
SavesAndWrites-both g log es back before which first later fault a b c d keeps writes_first writes_later runs_first runs_later =
    let all = (es ++ back) ++ keeps.more in
    let one = runs_first all (keeps.runs.running refl) (covered_by g log es back before which first a b keeps writes_first) in
    let two = runs_later all (one.running refl) (covered_by g log es back before which later a b keeps writes_later) in
    record {
      more = keeps.more;
      runs = KeepsRunning-after g log log all all before (over first later) fault a b d refl keeps.runs (KeepsRunning-then g log log all all before first later fault b c d refl one two);
      defers = keeps.defers;
      values = keeps.values;
      kept = λ none k v is gone. keeps.kept refl k (one_of k v (later k) refl is) gone;
    }
  where
    one_of : (k v : ℕ) (o : Option ℕ) → later k ≡ o → over first later k ≡ Some v → which k
    one_of k v None there is = writes_first.kept k v (ap (λ (o : Option ℕ). option_or o (first k)) (sym there) ∙ is)
    one_of k v (Some x) there is = writes_later.kept k x there

-- The first of them were not all written.
pub SavesAndWrites-half : (g : Scope) (log : OpenLog) (es back : List Entry) (before : Image) (first later : Write) (fault : HostFault) (old new : State) → SavesAndWrites g log es back before first (Some fault) old new
    → SavesAndWrites g log es back before (over first later) (Some fault) old new
SavesAndWrites-half g log es back before first later fault old new puts =
    let all = (es ++ back) ++ puts.more in
    record {
      more = puts.more;
      runs = KeepsRunning-failed g log log all all before first (over first later) fault old new refl puts.runs;
      defers = puts.defers;
      values = puts.values;
      kept = λ none. absurd (some_fault fault none);
    }

-- ---- marks

-- They stay after a call that saves words and writes them.
pub AreMarks-written : (g : Scope) (log : OpenLog) (size : ℕ) (es back : List Entry) (before : Image) (write : Write) (old new : State) (marks : List Mark) → IsScope size log.gate_at g
    → (puts : SavesAndWrites g log es back before write None old new) → AreMarks g es back before old.now.words marks → AreMarks g es (back ++ puts.more) before new.now.words marks
AreMarks-written g log size es back before write old new marks scope puts are =
    AreMarks-kept g es back puts.more before old.now.words new.now.words write marks puts.values (puts.kept refl) (λ k mine. puts.runs.now refl k (scope.apart k mine)) are
