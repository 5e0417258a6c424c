-- Pools that have a graph keep it, and their puddles, if a client is registered or removed, and if a type is defined.
use Rattle.std.proofs.Common.{◌≡◌, ◌⊎◌, inl, inr, ℕ, ◌+◌, ◌<◌, ◌≤◌, Bool, true, false, cond, leb-true, List, length, Option, Some, None, is_some, unwrap_or, eqb, refl, sym, ap, ◌∙◌, arith}
use Rattle.std.specs.Ordering.{nat_cmp}
use Rattle.std.proofs.lemmas.Bool.{cases_lt, and_parts}
use Rattle.pm_model.specs.Words.{reads}
use Rattle.pm_model.specs.Moments.{State}
use Rattle.pm_model.specs.Changes.{Write, written, Persists}
use Rattle.pm_model.proofs.Words.{HasOnly-newest}
use Rattle.pud_defs.specs.declared.layout.TheConstants.{DAEMON_LOG, PUDDLE_TABLE, CLIENTS, SPACE_RECORD_WORDS, TYPE_TABLE, POOL_TABLE, TYPE_RECORDS}
use Rattle.pud_defs.specs.Formats.Image.{Image}
use Rattle.pud_defs.specs.Logging.Replay.{overwritten}
use Rattle.pud_defs.specs.RegistryTables.Spaces.{space_record_at}
use Rattle.pud_defs.specs.Formats.TypeMap.{is_legal_type_id}
use Rattle.pud_defs.specs.RegistryTables.Types.{type_record_at, type_at, types_of, free_type, map_of, with_type}
use Rattle.pud_defs.specs.PoolGraphs.Graph.{graph_of}
use Rattle.pud_defs.specs.RegistryTables.Tables.{member_of}
use Rattle.pud_defs.proofs.Formats.Images.{written_there, written_other}
use Rattle.pud_defs.proofs.KeyedTables.Keyed.{keyed-same, first_free_some}
use Rattle.pud_defs.proofs.Logging.Replay.{overwritten-there, overwritten-stays}
use Rattle.pud_defs.proofs.PoolGraphs.TypeMore.{graph_of-more}
use Rattle.pud_defs.proofs.RegistryTables.TypeTable.{free_word, type_at-map_written, types_of-written}
use Rattle.batch.specs.Batches.{batch_write, ByBatch, Commits}
use Rattle.batch.proofs.Tables.{reads_kept}
use Rattle.log_space.specs.Closed.{ByClosing, ClosesGates}
use Rattle.log_space.specs.Records.{record_batch}
use Rattle.log_space.proofs.Writing.{writes_elsewhere}
use Rattle.type_maps.specs.Define.{place_for, record_write, half_defined, defined, Defines}
use Rattle.daemon_memory.proofs.PoolsKnown.KnownKept.{KeepsGraphs, KeepsPools, SparesTables, KeepsPools-each, KeepsPools-then, KeepsPools-apart, types_same, puddles_same, own_word}

-- ---- a client is registered or removed

-- Closing the client's logs writes to neither table.
gates_spare : (F client : ℕ) → SparesTables F (ByClosing F client)
gates_spare F client = record {
  types = λ k v low high gate. let is = gate.0.is in absurd (omega arith);
  puddles = λ k v low high gate. let is = gate.0.is in absurd (omega arith);
}

pub KeepsPools-closing : (F client : ℕ) (old new : State) → client < CLIENTS → ClosesGates F client None old new → KeepsPools F None (reads old.now.words) (reads new.now.words)
KeepsPools-closing F client old new known closes =
    KeepsPools-apart F (ByClosing F client) old new closes.changes (gates_spare F client)
    (λ k v low gate. let is = gate.0.is in let below = gate.0.below in absurd (omega arith))

-- The batch that writes the client's record writes words before the type table or words of that record.
record_within : (client k v : ℕ) (vals : List ℕ) → length vals ≤ SPACE_RECORD_WORDS → ByBatch DAEMON_LOG (record_batch client vals) k v
    → (k < TYPE_TABLE) ⊎ ((space_record_at client ≤ k) × (k < space_record_at (client + 1)))
record_within client k v vals few (inl log) = let high = log.high in inl (omega arith)
record_within client k v vals few (inr named) =
    let nothing : batch_write (record_batch client vals) k ≡ None → ⊥ = λ none. let it : None ≡ Some named.value = sym none ∙ named.is in cc in
    elim (cases_lt k (space_record_at client)) [
      | inl before ↦ absurd (nothing (writes_elsewhere client k vals (inl before)))
      | inr from ↦ elim (cases_lt k (space_record_at client + length vals)) [
        | inl within ↦ inr (from, (omega arith))
        | inr following ↦ absurd (nothing (writes_elsewhere client k vals (inr following)))
      ]
    ]

record_spares : (F client k v : ℕ) (vals : List ℕ) → client < CLIENTS → length vals ≤ SPACE_RECORD_WORDS → TYPE_TABLE ≤ k → (k < POOL_TABLE) ⊎ (PUDDLE_TABLE ≤ k)
    → ByBatch DAEMON_LOG (record_batch client vals) k v → ⊥
record_spares F client k v vals known few low place may = elim (record_within client k v vals few may) [
  | inl before ↦ absurd (omega arith)
  | inr record_word ↦ let from = record_word.0 in let to = record_word.1 in elim place [ inl types ↦ absurd (omega arith) | inr following ↦ absurd (omega arith) ]
]

pub KeepsPools-record : (F client : ℕ) (vals : List ℕ) (old new : State) → client < CLIENTS → length vals ≤ SPACE_RECORD_WORDS → Commits DAEMON_LOG (record_batch client vals) None old new
    → KeepsPools F None (reads old.now.words) (reads new.now.words)
KeepsPools-record F client vals old new known few commits =
    KeepsPools-apart F (ByBatch DAEMON_LOG (record_batch client vals)) old new commits.changes
    (record {
      types = λ k v low high may. record_spares F client k v vals known few low (inl high) may;
      puddles = λ k v low high may. record_spares F client k v vals known few (omega arith) (inr low) may;
    })
    (λ k v low may. record_spares F client k v vals known few (omega arith) (inr (omega arith)) may)

-- Both, one after the other.
pub KeepsPools-client : (F client : ℕ) (vals : List ℕ) (a b c : State) → client < CLIENTS → length vals ≤ SPACE_RECORD_WORDS → ClosesGates F client None a b
    → Commits DAEMON_LOG (record_batch client vals) None b c → KeepsPools F None (reads a.now.words) (reads c.now.words)
KeepsPools-client F client vals a b c known few closes commits =
    KeepsPools-then F None (reads a.now.words) (reads b.now.words) (reads c.now.words) (KeepsPools-closing F client a b known closes) (KeepsPools-record F client vals b c known few commits)

-- ---- a type is defined

persisted_by : (write : Write) (old new : State) (k : ℕ) (o : Option ℕ) → write k ≡ o → Persists write None old new → reads new.now.words k ≡ overwritten write (reads old.now.words) k
persisted_by write old new k None none p =
    reads_kept (written write) old new k p.changes (λ v may. absurd (let it : None ≡ Some v = sym none ∙ may in cc)) ∙ sym (overwritten-stays write (reads old.now.words) k none)
persisted_by write old new k (Some v) is p = HasOnly-newest (new.now.words k) v (p.durable refl k v is) ∙ sym (overwritten-there write (reads old.now.words) k v is)

word_by_test : (one two : Bool) (id map x : ℕ) → unwrap_or (cond one (Some id) (cond two (Some map) None)) x ≡ cond one id (cond two map x)
word_by_test true two id map x = refl
word_by_test false true id map x = refl
word_by_test false false id map x = refl

-- What is then read is the image with the type defined.
defined_read : (r id map : ℕ) (old new : State) → Defines r id map None old new → (k : ℕ) → reads new.now.words k ≡ defined r id map (reads old.now.words) k
defined_read r id map old new d k =
    persisted_by (record_write r id map) old new k (record_write r id map k) refl d.persists
    ∙ word_by_test (eqb k (type_record_at r)) (eqb k (type_record_at r + 1)) id map (reads old.now.words k)

-- The record is the lowest free one, and the type is new.
place_parts : (image : Image) (id r : ℕ) (found : Option ℕ) → map_of id (types_of image) ≡ found → cond (is_some found) None (free_type image) ≡ Some r → (map_of id (types_of image) ≡ None) × (free_type image ≡ Some r)
place_parts image id r None none free = (none, free)
place_parts image id r (Some other) none free = absurd (let no : None ≡ Some r = free in cc)

module _ (r id map : ℕ) (old new : State) (place : place_for (reads old.now.words) id ≡ Some r) (legal : is_legal_type_id id ≡ true) (d : Defines r id map None old new) where
  abbrev before : Image
  before = reads old.now.words

  abbrev half : Image
  half = half_defined r map before

  parts : (map_of id (types_of before) ≡ None) × (free_type before ≡ Some r)
  parts = place_parts before id r (map_of id (types_of before)) refl place

  within : r < TYPE_RECORDS
  within = let free = first_free_some (type_at before) 0 TYPE_RECORDS r parts.1 in let high = free.high in omega arith

  free : before (type_record_at r) ≡ 0
  free = free_word before r (first_free_some (type_at before) 0 TYPE_RECORDS r parts.1).free

  half_types : types_of half ≡ types_of before
  half_types = keyed-same nat_cmp (type_at half) (type_at before) 0 TYPE_RECORDS (λ n low high. type_at-map_written before r map n free)

  types_defined : types_of (reads new.now.words) ≡ with_type id map (types_of before)
  types_defined =
      types_same (defined r id map before) (reads new.now.words) (λ k low high. defined_read r id map old new d k)
      ∙ types_of-written half r id map within (leb-true 1 id ((and_parts _ _ legal).0)) (written_other (type_record_at r + 1) map before (type_record_at r) (λ e. absurd (omega arith)) ∙ free)
      (written_there (type_record_at r + 1) map before) (ap (map_of id) half_types ∙ parts.0)
      ∙ ap (with_type id map) half_types

  -- A pool that has a graph still has it with one more type.
  pub KeepsGraphs-defined : KeepsGraphs before (reads new.now.words)
  KeepsGraphs-defined = record { each = λ st g is. ap (λ types. graph_of types st) types_defined ∙ graph_of-more id map (types_of before) st g parts.0 is }

  -- No word after the type table is written.
  after_types : (k : ℕ) → POOL_TABLE ≤ k → reads new.now.words k ≡ before k
  after_types k low =
      let below = within in
      defined_read r id map old new d k
      ∙ written_other (type_record_at r) id half k (λ e. absurd (omega arith))
      ∙ written_other (type_record_at r + 1) map before k (λ e. absurd (omega arith))

  pub KeepsPools-defined : (F : ℕ) → KeepsPools F None before (reads new.now.words)
  KeepsPools-defined F =
      KeepsPools-each F None before (reads new.now.words) KeepsGraphs-defined
      (λ slot at apart has. record {
        puddles = λ frame below. ap (member_of slot frame) (puddles_same F before (reads new.now.words) (λ k low high. after_types k (omega arith)) frame below);
        words = λ k mine. let own = own_word F slot before k mine in let low = own.low in after_types k (omega arith);
      })
