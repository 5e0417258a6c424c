-- Which calls keep durable tables durable, and what is read after them.
use Rattle.std.proofs.Common.{◌≡◌, ◌⊎◌, inl, inr, ⊎_elim, ℕ, ◌<◌, ◌≤◌, List, Option, Some, None, refl, sym, ◌∙◌, arith}
use Rattle.pm_model.specs.declared.host.HostFault.{HostFault}
use Rattle.pm_model.specs.declared.host.HostFault.TheVariants.{Cut}
use Rattle.pm_model.specs.Words.{Words, HasOnly, IsRested, reads}
use Rattle.pm_model.specs.Moments.{State}
use Rattle.pm_model.specs.Changes.{Footprint, Write, Changes, written, Persists}
use Rattle.pm_model.proofs.Words.{HasOnly-own, HasOnly-newest}
use Rattle.pm_model.proofs.Changes.{HasOnly-kept}
use Rattle.pud_defs.specs.declared.layout.TheConstants.{DAEMON_LOG, TYPE_TABLE}
use Rattle.pud_defs.specs.Formats.Layout.{tables_end}
use Rattle.pud_defs.specs.Logging.Entries.{Entry}
use Rattle.pud_defs.specs.Logging.Replay.{overwritten}
use Rattle.pud_defs.proofs.Logging.Replay.{overwritten-there, overwritten-stays}
use Rattle.batch.specs.Batches.{batch_write, ByBatch}
use Rattle.batch.specs.Tables.{HasDurableTables}

-- A rested device has durable tables.
pub HasDurableTables-rested : (F : ℕ) (words : Words) → IsRested words → HasDurableTables F words
HasDurableTables-rested F words rested = record { each = λ k outside below. rested.each k }

-- no value may be written to the word, or it has only one value now
abbrev pub StaysDurable : Footprint → State → ℕ → Type 0
StaysDurable may now k = ((v : ℕ) → may k v → ⊥) ⊎ HasOnly (now.now.words k) (now.now.words k).newest

-- Calls keep the tables durable if after them each word of the tables has only one value, or if they write none of it.
pub HasDurableTables-changed : (F : ℕ) (may : Footprint) (fault : Option HostFault) (a b : State) → Changes may fault a b
    → ((k : ℕ) → (k < DAEMON_LOG) ⊎ (TYPE_TABLE ≤ k) → k < tables_end F → StaysDurable may b k) → HasDurableTables F a.now.words → HasDurableTables F b.now.words
HasDurableTables-changed F may fault a b c told had = record {
  each = λ k outside below. ⊎_elim
      (λ none. HasOnly-own (b.now.words k) (reads a.now.words k) (HasOnly-kept may fault a b k (reads a.now.words k) c none (had.each k outside below)))
      (λ one. one)
      (told k outside below);
}

-- So do calls that write only after the tables, such as those on the clients' logs and on the frames.
pub HasDurableTables-kept : (F : ℕ) (may : Footprint) (fault : Option HostFault) (a b : State) → Changes may fault a b → ((k v : ℕ) → k < tables_end F → may k v → ⊥)
    → HasDurableTables F a.now.words → HasDurableTables F b.now.words
HasDurableTables-kept F may fault a b c following had = HasDurableTables-changed F may fault a b c (λ k outside below. inl (λ v. following k v below)) had

persisted_word : (write : Write) (a b : State) (k : ℕ) (o : Option ℕ) → write k ≡ o → Persists write None a b → StaysDurable (written write) b k
persisted_word write a b k None is p = inl (λ v may. absurd (let it : None ≡ Some v = sym is ∙ may in cc))
persisted_word write a b k (Some v) is p = inr (HasOnly-own (b.now.words k) v (p.durable refl k v is))

-- So does a durable write, whatever words it names.
pub HasDurableTables-persisted : (F : ℕ) (write : Write) (a b : State) → Persists write None a b → HasDurableTables F a.now.words → HasDurableTables F b.now.words
HasDurableTables-persisted F write a b p had =
    HasDurableTables-changed F (written write) None a b p.changes (λ k outside below. persisted_word write a b k (write k) refl p) had

-- A batch writes no value to a word of the tables that it does not name.
unnamed : (es : List Entry) (k v : ℕ) → batch_write es k ≡ None → (k < DAEMON_LOG) ⊎ (TYPE_TABLE ≤ k) → ByBatch DAEMON_LOG es k v → ⊥
unnamed es k v none outside (inl log) = let from = log.low in let to = log.high in ⊎_elim (λ low. absurd (omega arith)) (λ high. absurd (omega arith)) outside
unnamed es k v none outside (inr named) = absurd (let it : None ≡ Some named.value = sym none ∙ named.is in cc)

-- the words of this batch were made durable
abbrev pub IsCommitted : List Entry → State → Type 0
IsCommitted es now = (k v : ℕ) → batch_write es k ≡ Some v → HasOnly (now.now.words k) v

committed_word : (es : List Entry) (b : State) (k : ℕ) (o : Option ℕ) → batch_write es k ≡ o → (k < DAEMON_LOG) ⊎ (TYPE_TABLE ≤ k) → IsCommitted es b → StaysDurable (ByBatch DAEMON_LOG es) b k
committed_word es b k None none outside done = inl (λ v may. unnamed es k v none outside may)
committed_word es b k (Some v) is outside done = inr (HasOnly-own (b.now.words k) v (done k v is))

-- A batch keeps them durable, whatever it writes.
pub HasDurableTables-committed : (F : ℕ) (es : List Entry) (fault : Option HostFault) (a b : State) → Changes (ByBatch DAEMON_LOG es) fault a b → IsCommitted es b
    → HasDurableTables F a.now.words → HasDurableTables F b.now.words
HasDurableTables-committed F es fault a b c done had =
    HasDurableTables-changed F (ByBatch DAEMON_LOG es) fault a b c (λ k outside below. committed_word es b k (batch_write es k) refl outside done) had

-- ---- what is read

-- A word to which no value may be written reads as before.
pub reads_kept : (may : Footprint) (a b : State) (k : ℕ) → Changes may None a b → ((v : ℕ) → may k v → ⊥) → reads b.now.words k ≡ reads a.now.words k
reads_kept may a b k c none = (c.keeps (λ cut. let no : None ≡ Some Cut = cut in cc) k none).newest

read_word : (es : List Entry) (a b : State) (k : ℕ) (o : Option ℕ) → batch_write es k ≡ o → (k < DAEMON_LOG) ⊎ (TYPE_TABLE ≤ k) → Changes (ByBatch DAEMON_LOG es) None a b → IsCommitted es b
    → reads b.now.words k ≡ overwritten (batch_write es) (reads a.now.words) k
read_word es a b k None none outside c done = reads_kept (ByBatch DAEMON_LOG es) a b k c (λ v may. unnamed es k v none outside may) ∙ sym (overwritten-stays (batch_write es) (reads a.now.words) k none)
read_word es a b k (Some v) is outside c done = HasOnly-newest (b.now.words k) v (done k v is) ∙ sym (overwritten-there (batch_write es) (reads a.now.words) k v is)

-- After a batch the device reads the batch's words, and the other words as before.
pub reads_committed : (es : List Entry) (a b : State) (k : ℕ) → (k < DAEMON_LOG) ⊎ (TYPE_TABLE ≤ k) → Changes (ByBatch DAEMON_LOG es) None a b → IsCommitted es b
    → reads b.now.words k ≡ overwritten (batch_write es) (reads a.now.words) k
reads_committed es a b k outside c done = read_word es a b k (batch_write es k) refl outside c done
