-- What an image recovers to, by the words of the log and the transaction's own words.
use Rattle.std.proofs.Common.{◌≡◌, ℕ, ◌+◌, ◌≤◌, true, false, ◌&&◌, List, [], get_or, Option, Some, None, is_some, refl, sym, ap, ap₂, subst, ◌∙◌, arith}
use Rattle.std.specs.Prelude.{All, unwrap_or}
use Rattle.std.proofs.lemmas.Bool.{and_parts}
use Rattle.std.proofs.lemmas.List.Elements.{All-nil}
use Rattle.pm_model.specs.Words.{Words, Picks}
use Rattle.pud_defs.specs.declared.log_words.TheConstants.{RUNNING_LO, RUNNING_HI, CLOSED_GATE}
use Rattle.pud_defs.specs.Formats.Image.{Image}
use Rattle.pud_defs.specs.Logging.Entries.{Entry, Log, log_of, gate_lo, gate_hi, entries_of, is_idle_gate}
use Rattle.pud_defs.specs.Logging.Replay.{is_in_range, new_value, IsInLog}
use Rattle.pud_defs.specs.RegistryTables.Spaces.{is_closed_range, is_closed_log}
use Rattle.pud_defs.proofs.Logging.Entries.{log_of-same, used_within}
use Rattle.pud_defs.proofs.Logging.Replay.{closed_range, replayed-none, empty_range_of, entries_of-idle}
use Rattle.log_store.specs.Store.{OpenLog, saying}
use Rattle.log_store.proofs.Open.{IsOpen-log, log_of-closed}
use Rattle.word_transaction.specs.Scope.{Scope, IsInScope, saved}
use Rattle.word_transaction.specs.Running.{IsRunning, RecoversTo}
use Rattle.word_transaction.proofs.Saved.{new_value-running}
use Rattle.pud_defs.proofs.KeyedTables.Keyed.{some_there}
use Rattle.pud_defs.proofs.Logging.Idle.{closed_gate}

-- Only those words determine it.
pub RecoversTo-local : (g : Scope) (at : ℕ) (values i j : Image) → ((k : ℕ) → IsInLog at k → j k ≡ i k) → ((k : ℕ) → g.has_word k ≡ true → j k ≡ i k) → RecoversTo g at values i → RecoversTo g at values j
RecoversTo-local g at values i j in_log own s =
    let used = used_within i at s.es s.spells in
    let same : log_of j at ≡ log_of i at =
    sym (log_of-same i j at (sym (in_log at (record { low = omega arith; high = omega arith }))) (λ k low high. sym (in_log k (record { low = omega arith; high = omega arith })))) in
    record {
      es = s.es;
      spells = ap (λ (l : Log). l.entries) same ∙ s.spells;
      own = subst (λ (l : Log). All (λ (e : Entry). is_in_range l e ≡ true → IsInScope g e) s.es) (sym same) s.own;
      settled = λ k mine. ap₂ (λ (l : Log) (v : ℕ). unwrap_or (new_value g.place l k) v) same (own k mine) ∙ s.settled k mine;
    }

-- ---- images with a running log

unwrapped : (o : Option ℕ) (x y : ℕ) → ((v : ℕ) → o ≡ Some v → v ≡ y) → (o ≡ None → x ≡ y) → unwrap_or o x ≡ y
unwrapped None x y some none = none refl
unwrapped (Some v) x y some none = some v refl

-- An image recovers to these values if the log gives own words their values, and each own word to which it gives none
-- has its value already.
pub RecoversTo-given : (g : Scope) (log : OpenLog) (es : List Entry) (write : ℕ → Option ℕ) (values image : Image) → All (IsInScope g) es → log_of image log.gate_at ≡ saying log es
    → ((k : ℕ) → new_value g.place (saying log es) k ≡ write k) → ((k v : ℕ) → g.has_word k ≡ true → write k ≡ Some v → v ≡ values k)
    → ((k : ℕ) → g.has_word k ≡ true → write k ≡ None → image k ≡ values k) → RecoversTo g log.gate_at values image
RecoversTo-given g log es write values image own says given gives stays =
    record {
      es = es;
      spells = ap (λ (l : Log). l.entries) says;
      own = λ n d below counts. own n d below;
      settled = λ k mine.
          ap (λ (o : Option ℕ). unwrap_or o (image k)) (ap (λ (l : Log). new_value g.place l k) says ∙ given k)
          ∙ unwrapped (write k) (image k) (values k) (λ v. gives k v mine) (stays k mine);
    }

-- The same with a running log: what is saved has its value from the beginning, and each own word that is not saved has
-- it already.
pub RecoversTo-running : (g : Scope) (log : OpenLog) (es : List Entry) (before image : Image) → log.lo ≡ RUNNING_LO → log.hi ≡ RUNNING_HI → All (IsInScope g) es → log_of image log.gate_at ≡ saying log es
    → ((k v : ℕ) → g.has_word k ≡ true → saved g.place es k ≡ Some v → v ≡ before k) → ((k : ℕ) → g.has_word k ≡ true → saved g.place es k ≡ None → image k ≡ before k) → RecoversTo g log.gate_at before image
RecoversTo-running g log es before image lo hi own says saves single =
    RecoversTo-given g log es (saved g.place es) before image own says (λ k. new_value-running g g.place (saying log es) es k lo hi refl own) saves single

-- Each image that may be left while a transaction is open recovers to the values from its beginning.
pub IsRunning-recovers : (g : Scope) (log : OpenLog) (es : List Entry) (before image : Image) (words : Words) → IsRunning g log es before words → Picks words image → RecoversTo g log.gate_at before image
IsRunning-recovers g log es before image words r picked =
    RecoversTo-running g log es before image r.lo r.hi r.own (IsOpen-log log es words image r.opened picked)
    (λ k v mine is. r.saves k v is) (λ k mine none. (r.single k mine none).each (image k) (picked.each k))

-- With a log that counts nothing an image recovers to the values that the own words have.
pub RecoversTo-idle : (g : Scope) (at : ℕ) (before image : Image) → is_idle_gate (image at) ≡ true → ((k : ℕ) → g.has_word k ≡ true → image k ≡ before k) → RecoversTo g at before image
RecoversTo-idle g at before image idle same =
    record {
      es = [];
      spells = entries_of-idle image at idle;
      own = All-nil (λ (e : Entry). is_in_range (log_of image at) e ≡ true → IsInScope g e);
      settled = λ k mine. ap (λ (i : Image). i k) (replayed-none g.place (log_of image at) image (empty_range_of (image at) idle)) ∙ same k mine;
    }

-- ---- images with a closed log

-- None of the log's entries is in range, and an image recovers to the values that the own words have.
pub RecoversTo-closed : (g : Scope) (at : ℕ) (before image : Image) → is_closed_log image at ≡ true → ((k : ℕ) → g.has_word k ≡ true → image k ≡ before k) → RecoversTo g at before image
RecoversTo-closed g at before image closed same =
    let parts = and_parts (is_closed_range (image at)) (is_some (entries_of image at)) closed in
    let range : gate_hi (image at) ≤ gate_lo (image at) + 1 = closed_gate (image at) parts.0 in
    let entries = some_there (entries_of image at) parts.1 in
    record {
      es = entries.0;
      spells = entries.1;
      own = λ n d below counts. absurd (let it : true ≡ false = sym counts ∙ closed_range (log_of image at) (get_or entries.0 n d) range in cc);
      settled = λ k mine. ap (λ (i : Image). i k) (replayed-none g.place (log_of image at) image range) ∙ same k mine;
    }

-- A log is closed if its gate is that of a closed log that counts no word.
pub closed_by_gate : (at : ℕ) (image : Image) → image at ≡ CLOSED_GATE → is_closed_log image at ≡ true
closed_by_gate at image gate = ap₂ (λ (v : ℕ) (l : Log). is_closed_range v && is_some l.entries) gate (log_of-closed at image gate)
