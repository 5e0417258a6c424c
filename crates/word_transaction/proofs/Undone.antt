-- A transaction is undone: its log is replayed as a running log, or closed if it has no entry.
use Rattle.std.proofs.Common.{◌≡◌, ℕ, ◌+◌, List, [], Option, Some, refl, sym, ap, ◌∙◌}
use Rattle.pm_model.specs.declared.host.HostFault.{HostFault}
use Rattle.pm_model.specs.Words.{Words, reads}
use Rattle.pm_model.specs.Moments.{State}
use Rattle.pm_model.specs.Changes.{Persists, only}
use Rattle.pud_defs.specs.declared.layout.TheConstants.{LOG_HEADER_WORDS}
use Rattle.pud_defs.specs.declared.log_words.TheConstants.{CLOSED_GATE}
use Rattle.pud_defs.specs.Formats.Image.{Image}
use Rattle.pud_defs.specs.Logging.Entries.{Entry, entries_in, words_from}
use Rattle.pud_defs.proofs.Logging.Entries.{words_from-none, entries_in-nothing}
use Rattle.pud_defs.proofs.Logging.Replay.{undo_value-none}
use Rattle.log_store.specs.Store.{OpenLog, saying}
use Rattle.log_store.proofs.Open.{IsOpen-words}
use Rattle.word_transaction.specs.Scope.{Scope, IsScope, running_range, saved}
use Rattle.word_transaction.specs.Running.{IsRunning, AbortsTransaction}
use Rattle.word_transaction.proofs.Saved.{new_value-running, saved_is_mine}
use Rattle.word_transaction.proofs.Images.{IsRunning-recovers}
use Rattle.word_transaction.proofs.Growing.{undo_value-places}
use Rattle.word_transaction.proofs.Committed.{AbortsTransaction-shut}
use Rattle.word_transaction.proofs.Settled.{Gives}

no_words : (es : List Entry) (image : Image) (at used : ℕ) → used ≡ 0 → entries_in 0 (words_from image at used) ≡ Some es → es ≡ []
no_words es image at used none is = let it : Some [] ≡ Some es = sym (entries_in-nothing (words_from image at used) (words_from-none image at used none)) ∙ is in cc

-- A log without an entry is closed.
pub AbortsTransaction-empty : (size : ℕ) (log : OpenLog) (es : List Entry) (g : Scope) (before : Image) (fault : Option HostFault) (a b : State) → IsScope size log.gate_at g
    → IsRunning g log es before a.now.words → log.used ≡ 0 → Persists (only log.gate_at CLOSED_GATE) fault a b → AbortsTransaction g log.gate_at before fault a b
AbortsTransaction-empty size log es g before fault a b scope r none p =
    let empty = no_words es (reads a.now.words) (log.gate_at + LOG_HEADER_WORDS) log.used none (IsOpen-words log es a.now.words r.opened) in
    AbortsTransaction-shut size log.gate_at g scope before fault a b (λ image picked. IsRunning-recovers g log es before image a.now.words r picked)
    (λ k mine. r.single k mine (ap (λ (fs : List Entry). saved g.place fs k) empty ∙ undo_value-none g.place running_range k)) p

-- A running log gives the values that are saved.
pub Gives-running : (size : ℕ) (g : Scope) (log : OpenLog) (es : List Entry) (before : Image) (words : Words) → IsScope size log.gate_at g → IsRunning g log es before words
    → Gives g log es (saved g.place es) before words
Gives-running size g log es before words scope r =
    record {
      opened = r.opened;
      own = r.own;
      given = λ place same k. new_value-running g place (saying log es) es k r.lo r.hi refl r.own ∙ undo_value-places g.place place running_range es k same;
      has_word = λ k v is. saved_is_mine size log.gate_at g es k v scope r.own is;
      saves = r.saves;
      single = r.single;
    }
