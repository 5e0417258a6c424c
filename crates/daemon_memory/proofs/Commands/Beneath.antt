-- What calls that know nothing about transactions do on a device on which some may be open.
use Rattle.std.proofs.Common.{◌≡◌, inl, inr, ℕ, ◌<◌, ◌≤◌, true, false, List, [], Option, Some, None, refl, sym, ap, subst, ◌∙◌, arith}
use Rattle.std.proofs.lemmas.Bool.{or_cases}
use Rattle.std.proofs.lemmas.List.{append-nil}
use Rattle.pm_model.specs.declared.host.HostFault.{HostFault}
use Rattle.pm_model.specs.Words.{Has, Cell, values, Words, reads, HasOnly}
use Rattle.pm_model.specs.Moments.{State}
use Rattle.pm_model.specs.Changes.{Write, Footprint, written, Persists, Changes, Leaves, Silently}
use Rattle.pm_model.specs.Masks.{masked, masked_image, IsOff}
use Rattle.pm_model.proofs.Changes.{Changes-said, Changes-now, Changes-then, Changes-wider, HasOnly-kept}
use Rattle.pm_model.proofs.Words.{HasOnly-own}
use Rattle.pm_model.proofs.Leaves.{Leaves-changes, Leaves-weaker, Leaves-then}
use Rattle.pm_model.proofs.Masks.{IsOff-none, masked-elsewhere, masked_image-there, masked_image-elsewhere, reads-masked}
use Rattle.pud_defs.specs.declared.layout.TheConstants.{DAEMON_LOG, NEXT_NUMBER_WORD}
use Rattle.pud_defs.specs.Formats.Image.{Image}
use Rattle.pud_defs.specs.Formats.Layout.{tables_end, frames_at, log_at}
use Rattle.pud_defs.specs.RegistryTables.Spaces.{Owner}
use Rattle.pud_defs.specs.Logging.Entries.{Entry, Log, is_idle_gate}
use Rattle.pud_defs.specs.Logging.Replay.{device_word, new_value, is_in_log}
use Rattle.pud_defs.specs.Logging.Settled.{log_number_at}
use Rattle.pud_defs.specs.StateMachine.World.{World}
use Rattle.pud_defs.proofs.Logging.Replay.{outside_log, not_inside}
use Rattle.pud_defs.proofs.RegistryTables.TablesOf.{tables_of-same}
use Rattle.batch.specs.Batches.{batch_write, AreBatched, HasIdleGate, ByBatch, IsBatched, Commits}
use Rattle.batch.proofs.Masked.{not_written}
use Rattle.batch.proofs.Tables.{StaysDurable, reads_kept}
use Rattle.batch.proofs.Writes.{new_value-committed}
use Rattle.registry.specs.Pools.{KeepsTables}
use Rattle.hybrid_tx.specs.PoolScopes.{pool_has_word, finished_of}
use Rattle.hybrid_tx.specs.Open.Masks.{is_open_record}
use Rattle.hybrid_tx.proofs.Open.OpenMasks.{mine_after, mask_cases}
use Rattle.daemon_memory.specs.Memory.{ActiveTransaction, Memory}
use Rattle.daemon_memory.specs.ActiveTransactions.{AreActive, HasIdleLogs, ByOthers, NamesNone, StaysSingle, LeavesMasked}
use Rattle.daemon_memory.specs.Ready.{IsReady}
use Rattle.daemon_memory.proofs.Commands.Beside.{records_all, daemon_log_unmasked, names_none_idle}

-- ---- the daemon log counts nothing

-- It counts nothing on a device that is ready.
pub ready_gate : (size : ℕ) (w : World) (memory : Memory) (s : State) → IsReady size w memory s → HasIdleGate DAEMON_LOG s.now.words
ready_gate size w memory s ready =
    let none : ready.mask DAEMON_LOG ≡ None = daemon_log_unmasked w memory.active ready.mask s.now.words ready.active in
    record { each = λ v had. ready.settled.idle v (subst (λ (c : Cell). Has (values c) v) (sym (masked-elsewhere ready.mask s.now.words DAEMON_LOG none)) had) }

-- A log that counts nothing still counts nothing if its gate got only values that count nothing.
pub idle_kept : (at : ℕ) (may : Footprint) (fault : Option HostFault) (old new : State) → Changes may fault old new → ((v : ℕ) → may at v → is_idle_gate v ≡ true) → HasIdleGate at old.now.words
    → HasIdleGate at new.now.words
idle_kept at may fault old new c told idle = record {
  each = λ v had. elim (Changes-now may fault old new c at v had) [
    | inl was ↦ idle.each v was
    | inr wrote ↦ told v wrote
  ];
}

-- So does the daemon log if its gate was not written.
pub gate_kept : (may : Footprint) (fault : Option HostFault) (old new : State) → Changes may fault old new → ((v : ℕ) → may DAEMON_LOG v → ⊥) → HasIdleGate DAEMON_LOG old.now.words
    → HasIdleGate DAEMON_LOG new.now.words
gate_kept may fault old new c apart idle = idle_kept DAEMON_LOG may fault old new c (λ v wrote. absurd (apart v wrote)) idle

-- So does each log of a client.
pub logs_kept : (F : ℕ) (clients : ℕ → Option Owner) (may : Footprint) (fault : Option HostFault) (old new : State) → Changes may fault old new
    → ((k v : ℕ) → tables_end F ≤ k → k < frames_at F → may k v → ⊥) → HasIdleLogs F clients old.now.words → HasIdleLogs F clients new.now.words
logs_kept F clients may fault old new c apart idle = record {
  each = λ client number low few present.
      idle_kept (log_at F client number) may fault old new c (λ v wrote. absurd (apart (log_at F client number) v (omega arith) (omega arith) wrote)) (idle.each client number low few present);
}

-- ---- the daemon log names no masked word

-- It names none while its gate is not written.
pub names_none-changes : (mask : Write) (may : Footprint) (fault : Option HostFault) (old new : State) → ((v : ℕ) → may DAEMON_LOG v → ⊥) → HasIdleGate DAEMON_LOG old.now.words
    → Changes may fault old new → Leaves (Silently (NamesNone mask)) old new
names_none-changes mask may fault old new apart idle c =
    Leaves-changes (NamesNone mask) may fault old new
    (λ before image picked from.
    names_none_idle mask image (elim (from.each DAEMON_LOG) [
      | inl same ↦ ap is_idle_gate same ∙ idle.each (before DAEMON_LOG) (picked.each DAEMON_LOG)
      | inr wrote ↦ absurd (apart (image DAEMON_LOG) wrote)
    ])) c

names_none_batched : (mask : Write) (es : List Entry) (words : Words) (image : Image) → IsOff mask (ByBatch DAEMON_LOG es) → AreBatched es → IsBatched words DAEMON_LOG es image → NamesNone mask image
names_none_batched mask es words image off batched b = elim b.log [
  | inl idle ↦ names_none_idle mask image idle
  | inr log ↦ record {
    each = λ k v is. ap (λ (l : Log). new_value device_word l k) log ∙ new_value-committed es k batched ∙ not_written mask DAEMON_LOG es off k v is;
  }
]

-- It names none while a batch is committed that writes no masked word.
pub names_none-commits : (mask : Write) (es : List Entry) (fault : Option HostFault) (old new : State) → IsOff mask (ByBatch DAEMON_LOG es) → AreBatched es → Commits DAEMON_LOG es fault old new
    → Leaves (Silently (NamesNone mask)) old new
names_none-commits mask es fault old new off batched c =
    Leaves-weaker (Silently (IsBatched old.now.words DAEMON_LOG es)) (Silently (NamesNone mask)) old new
    (λ bytes image m. (m.0, names_none_batched mask es old.now.words image off batched m.1)) c.moments

-- ---- calls beside the active transactions

-- No word that may be written is masked.
pub IsOff-each : (mask : Write) (may : Footprint) → ((k v : ℕ) → may k v → mask k ≡ None) → IsOff mask may
IsOff-each mask may each = record { apart = λ k x v is m. absurd (let no : None ≡ Some x = sym (each k v m) ∙ is in cc) }

-- Others may write the words that are not masked.
pub by_others : (mask : Write) (may : Footprint) (fault : Option HostFault) (old new : State) → IsOff mask may → Changes may fault old new → Changes (ByOthers mask) fault old new
by_others mask may fault old new off c = Changes-wider may (ByOthers mask) fault old new (λ k v m. IsOff-none mask may k v off m) c

-- Words that have one value still have one after calls that give each word one value, or do not write it.
pub single_changes : (may : Footprint) (fault : Option HostFault) (old new : State) → Changes may fault old new → ((k : ℕ) → is_in_log DAEMON_LOG k ≡ false → StaysDurable may new k) → StaysSingle old new
single_changes may fault old new c told = record {
  each = λ k outside one. elim (told k outside) [
    | inl none ↦ HasOnly-own (new.now.words k) (old.now.words k).newest (HasOnly-kept may fault old new k (old.now.words k).newest c none one)
    | inr now ↦ now
  ];
}

-- Words were written, and the daemon log's gate was not.
pub LeavesMasked-changes : (mask : Write) (may : Footprint) (fault : Option HostFault) (old new : State) → IsOff mask may → ((v : ℕ) → may DAEMON_LOG v → ⊥) → HasIdleGate DAEMON_LOG old.now.words
    → (fault ≡ None → (k : ℕ) → StaysDurable may new k) → Changes may fault old new → LeavesMasked mask fault old new
LeavesMasked-changes mask may fault old new off apart idle told c = record {
  changes = by_others mask may fault old new off c;
  names = names_none-changes mask may fault old new apart idle c;
  single = λ none. single_changes may fault old new c (λ k outside. told none k);
}

single_by : (write : Write) (new : State) (k : ℕ) (o : Option ℕ) → write k ≡ o → ((v : ℕ) → write k ≡ Some v → HasOnly (new.now.words k) v) → StaysDurable (written write) new k
single_by write new k None is durable = inl (λ v may. absurd (let it : None ≡ Some v = sym is ∙ may in cc))
single_by write new k (Some v) is durable = inr (HasOnly-own (new.now.words k) v (durable v is))

-- Words that are made durable have one value each.
pub persisted_single : (write : Write) (fault : Option HostFault) (old new : State) → Persists write fault old new → fault ≡ None → (k : ℕ) → StaysDurable (written write) new k
persisted_single write fault old new p none k = single_by write new k (write k) refl (p.durable none k)

-- So do the words of a batch.
committed_single : (es : List Entry) (new : State) (k : ℕ) (o : Option ℕ) → batch_write es k ≡ o → is_in_log DAEMON_LOG k ≡ false → ((v : ℕ) → batch_write es k ≡ Some v → HasOnly (new.now.words k) v)
    → StaysDurable (ByBatch DAEMON_LOG es) new k
committed_single es new k None none outside done = inl (λ v may. elim may [ inl inside ↦ not_inside DAEMON_LOG k outside inside | inr named ↦ absurd (let it : None ≡ Some named.value = sym none ∙ named.is in cc) ])
committed_single es new k (Some v) is outside done = inr (HasOnly-own (new.now.words k) v (done v is))

-- A batch was committed.
pub LeavesMasked-commits : (mask : Write) (es : List Entry) (fault : Option HostFault) (old new : State) → IsOff mask (ByBatch DAEMON_LOG es) → AreBatched es → Commits DAEMON_LOG es fault old new
    → LeavesMasked mask fault old new
LeavesMasked-commits mask es fault old new off batched c = record {
  changes = by_others mask (ByBatch DAEMON_LOG es) fault old new off c.changes;
  names = names_none-commits mask es fault old new off batched c;
  single = λ none. single_changes (ByBatch DAEMON_LOG es) fault old new c.changes (λ k outside. committed_single es new k (batch_write es k) refl outside (c.durable none k));
}

-- These calls and then those.
pub LeavesMasked-then : (mask : Write) (fault : Option HostFault) (a b c : State) → LeavesMasked mask None a b → LeavesMasked mask fault b c → LeavesMasked mask fault a c
LeavesMasked-then mask fault a b c p q =
    let P = Silently (NamesNone mask) in
    record {
      changes = Changes-then (ByOthers mask) fault a b c p.changes q.changes;
      names = Leaves-then P P P [] a b c (Changes-said (ByOthers mask) None a b p.changes ∙ sym (append-nil a.now.said)) (λ front image m. m) (λ more image m. m) p.names q.names;
      single = λ none. record { each = λ k outside one. (q.single none).each k outside ((p.single refl).each k outside one) };
    }

-- ---- what is read from the tables

-- A masked word before the clients' logs is a word of a record, which is read as it was.
module _ (w : World) (active : List (Option ActiveTransaction)) (mask : Write) (words : Words) (holds : AreActive w active mask words) (k : ℕ) (below : k < tables_end w.stored.frames) where
  abbrev F : ℕ
  F = w.stored.frames

  masked_reads : (v : ℕ) → mask k ≡ Some v → reads words k ≡ v
  masked_reads v given =
      let m = holds.masks.each k v given in
      let o = m.transaction in
      elim (mask_cases F o.pool o.before k v m.is) [
        | inl inside ↦ absurd (let it : true ≡ false = sym inside ∙ outside_log (log_number_at F o.pool.log_number) k (inl (omega arith)) in cc)
        | inr own ↦ elim (or_cases (pool_has_word F (finished_of o.pool.puddles) k) (is_open_record o.pool k) own.0) [
          | inl mine ↦ absurd (let it : true ≡ false = sym mine ∙ mine_after F (finished_of o.pool.puddles) k (omega arith) in cc)
          | inr of ↦ (records_all w active mask words holds).each m.number o m.there k of ∙ own.1
        ]
      ]

  reads_by : (o : Option ℕ) → mask k ≡ o → masked_image mask (reads words) k ≡ reads words k
  reads_by None none = masked_image-elsewhere mask (reads words) k none
  reads_by (Some v) is = masked_image-there mask (reads words) k v is ∙ sym (masked_reads v is)

-- So these words read the same, masked or not.
pub table_reads : (w : World) (active : List (Option ActiveTransaction)) (mask : Write) (words : Words) → AreActive w active mask words → (k : ℕ) → k < tables_end w.stored.frames → masked_image mask (reads words) k ≡ reads words k
table_reads w active mask words holds k below = reads_by w active mask words holds k below (mask k) refl

pub read_masked : (w : World) (active : List (Option ActiveTransaction)) (mask : Write) (words : Words) → AreActive w active mask words → (k : ℕ) → k < tables_end w.stored.frames → reads (masked mask words) k ≡ reads words k
read_masked w active mask words holds k below = ap (λ (image : Image). image k) (reads-masked mask words) ∙ table_reads w active mask words holds k below

-- They also do after calls that write no masked word.
kept_reads : (mask : Write) (old new : State) (k : ℕ) (o : Option ℕ) → mask k ≡ o → Changes (ByOthers mask) None old new → masked_image mask (reads old.now.words) k ≡ reads old.now.words k
    → masked_image mask (reads new.now.words) k ≡ reads new.now.words k
kept_reads mask old new k None none c was = masked_image-elsewhere mask (reads new.now.words) k none
kept_reads mask old new k (Some v) is c was =
    masked_image-there mask (reads new.now.words) k v is
    ∙ sym (masked_image-there mask (reads old.now.words) k v is)
    ∙ was
    ∙ sym (reads_kept (ByOthers mask) old new k c (λ x none. absurd (let no : Some v ≡ None = sym is ∙ none in cc)))

pub table_reads-kept : (w : World) (active : List (Option ActiveTransaction)) (mask : Write) (old new : State) → AreActive w active mask old.now.words → Changes (ByOthers mask) None old new → (k : ℕ) → k < tables_end w.stored.frames
    → masked_image mask (reads new.now.words) k ≡ reads new.now.words k
table_reads-kept w active mask old new holds c k below = kept_reads mask old new k (mask k) refl c (table_reads w active mask old.now.words holds k below)

pub read_masked-kept : (w : World) (active : List (Option ActiveTransaction)) (mask : Write) (old new : State) → AreActive w active mask old.now.words → Changes (ByOthers mask) None old new → (k : ℕ) → k < tables_end w.stored.frames
    → reads (masked mask new.now.words) k ≡ reads new.now.words k
read_masked-kept w active mask old new holds c k below = ap (λ (image : Image). image k) (reads-masked mask new.now.words) ∙ table_reads-kept w active mask old new holds c k below

-- The tables read the same, masked or not.
pub keeps_tables : (w : World) (active : List (Option ActiveTransaction)) (mask : Write) (words : Words) → AreActive w active mask words → KeepsTables w.stored.frames mask (reads words)
keeps_tables w active mask words holds = record {
  tables = tables_of-same w.stored.frames (masked_image mask (reads words)) (reads words)
      (λ k low high. table_reads w active mask words holds k (omega arith))
      (λ k low high. table_reads w active mask words holds k high);
  number = table_reads w active mask words holds NEXT_NUMBER_WORD (omega arith);
}
