-- Records of puddles that stay while a command is carried out, and how two such calls compose.
use Rattle.std.proofs.Common.{◌≡◌, inl, inr, ℕ, ◌+◌, ◌<◌, ◌≤◌, ◌&&◌, leb, ltb, cond, [], Option, Some, None, refl, sym, ap, subst, ◌∙◌, arith}
use Rattle.std.specs.Prelude.{unwrap_or}
use Rattle.std.proofs.lemmas.Bool.{cases_Bool, cases_lt, cond-true, cond-false, and_from, and_parts, le-leb, lt-ltb, leb-true, ltb-true}
use Rattle.std.proofs.lemmas.List.{append-nil}
use Rattle.std.proofs.lemmas.Option.{none-some}
use Rattle.pm_model.specs.declared.host.HostFault.{HostFault}
use Rattle.pm_model.specs.Words.{Words, reads, Picks}
use Rattle.pm_model.specs.Moments.{State}
use Rattle.pm_model.specs.Changes.{Write, Footprint, Changes, Leaves, Silently}
use Rattle.pm_model.specs.Masks.{IsOff}
use Rattle.pm_model.proofs.Words.{Picks-reads}
use Rattle.pm_model.proofs.Leaves.{HasOrigin, Leaves-still, Leaves-weaker, Leaves-then, Leaves-now}
use Rattle.pud_defs.specs.declared.layout.TheConstants.{DAEMON_LOG, PUDDLE_TABLE}
use Rattle.pud_defs.specs.Formats.Image.{Image}
use Rattle.pud_defs.specs.Formats.Layout.{tables_end}
use Rattle.pud_defs.specs.RegistryTables.Puddles.{Member, puddle_record_at}
use Rattle.pud_defs.specs.Logging.Replay.{settled_by}
use Rattle.pud_defs.specs.RegistryTables.Tables.{Tables, tables_of}
use Rattle.pud_defs.proofs.Logging.Replay.{outside_log, settled_by-outside, settled_by-idle}
use Rattle.pud_defs.proofs.RegistryTables.TablesOf.{puddles_below, puddles_beyond, puddle_at-same}
use Rattle.pud_defs.specs.StateMachine.World.{World}
use Rattle.batch.specs.Batches.{HasIdleGate}
use Rattle.batch.specs.Tables.{HasDurableTables}
use Rattle.registry.proofs.Moved.{tables_picked}
use Rattle.daemon_memory.specs.ActiveTransactions.{ByOthers, NamesNone, LeavesMasked}
use Rattle.daemon_memory.specs.Memory.{Memory}
use Rattle.daemon_memory.specs.Moves.{Stays, LeavesPuddles}
use Rattle.daemon_memory.specs.Ready.{IsReady}
use Rattle.daemon_memory.proofs.Commands.Beside.{Leaves-from}
use Rattle.daemon_memory.proofs.Commands.Beneath.{by_others, names_none-changes, ready_gate}

-- ---- the words of one record

-- Each word of a frame's record, as it is in the image.
abbrev pub record_mask : (frame : ℕ) → Image → Write
record_mask frame image k = cond (leb (puddle_record_at frame) k && ltb k (puddle_record_at (frame + 1))) (Some (image k)) None

pub record_masked : (frame : ℕ) (image : Image) (k : ℕ) → puddle_record_at frame ≤ k → k < puddle_record_at (frame + 1) → record_mask frame image k ≡ Some (image k)
record_masked frame image k low high = cond-true _ _ _ (and_from _ _ (le-leb _ k low) (lt-ltb k _ high))

-- The mask has no other word.
pub record IsRecordWord (frame k : ℕ) : Type 0 where
  pub low : puddle_record_at frame ≤ k
  pub high : k < puddle_record_at (frame + 1)

pub masked_record : (frame : ℕ) (image : Image) (k x : ℕ) → record_mask frame image k ≡ Some x → IsRecordWord frame k
masked_record frame image k x is = elim (cases_Bool (leb (puddle_record_at frame) k && ltb k (puddle_record_at (frame + 1)))) [
  | inl inside ↦
      let parts = and_parts (leb (puddle_record_at frame) k) (ltb k (puddle_record_at (frame + 1))) inside in
      record { low = leb-true (puddle_record_at frame) k parts.0; high = ltb-true k (puddle_record_at (frame + 1)) parts.1 }
  | inr outside ↦ absurd (none-some x (sym (cond-false _ _ _ outside) ∙ is))
]

-- Calls that write none of these words stay off the mask.
pub IsOff-record : (frame : ℕ) (image : Image) (may : Footprint) → ((k v : ℕ) → puddle_record_at frame ≤ k → k < puddle_record_at (frame + 1) → may k v → ⊥) → IsOff (record_mask frame image) may
IsOff-record frame image may apart = record { apart = λ k x v is wrote. let word = masked_record frame image k x is in apart k v word.low word.high wrote }

-- A word outside the record is not in its mask.
pub unmasked_record : (frame : ℕ) (image : Image) (k : ℕ) → (puddle_record_at frame ≤ k → k < puddle_record_at (frame + 1) → ⊥) → record_mask frame image k ≡ None
unmasked_record frame image k apart = elim (cases_Bool (leb (puddle_record_at frame) k && ltb k (puddle_record_at (frame + 1)))) [
  | inl inside ↦
      let parts = and_parts (leb (puddle_record_at frame) k) (ltb k (puddle_record_at (frame + 1))) inside in
      absurd (apart (leb-true (puddle_record_at frame) k parts.0) (ltb-true k (puddle_record_at (frame + 1)) parts.1))
  | inr outside ↦ cond-false _ _ _ outside
]

-- ---- one record that is used

-- The record's frame is one of the device's.
pub used_below : (F : ℕ) (image : Image) (frame : ℕ) (m : Member) → (tables_of F image).puddles frame ≡ Some m → frame < F
used_below F image frame m used = elim (cases_lt frame F) [
  | inl below ↦ below
  | inr beyond ↦ absurd (none-some m (sym (puddles_beyond F image frame beyond) ∙ used))
]

module _ (F : ℕ) (words : Words) (tables : HasDurableTables F words) (frame : ℕ) (m : Member) (used : (tables_of F (reads words)).puddles frame ≡ Some m) where
  below : frame < F
  below = used_below F (reads words) frame m used

  -- An image with the record's words has the record.
  pub same_record : (image : Image) → ((k : ℕ) → puddle_record_at frame ≤ k → k < puddle_record_at (frame + 1) → image k ≡ reads words k) → Stays m ((tables_of F image).puddles frame)
  same_record image same = puddles_below F image frame below ∙ puddle_at-same image (reads words) frame same ∙ sym (puddles_below F (reads words) frame below) ∙ used

  -- Each of these words has one value.
  one_value : (before : Image) → Picks words before → (k : ℕ) → puddle_record_at frame ≤ k → k < puddle_record_at (frame + 1) → before k ≡ reads words k
  one_value before picked k low high = let known = below in (tables.each k (inr (omega arith)) (omega arith)).each (before k) (picked.each k)

  -- Each image that may be left has the record, if the daemon log counts nothing.
  pub stays_picked : HasIdleGate DAEMON_LOG words → (image : Image) → Picks words image → Stays m ((tables_of F (settled_by DAEMON_LOG image)).puddles frame)
  stays_picked idle image picked =
      same_record (settled_by DAEMON_LOG image)
      (λ k low high. settled_by-idle DAEMON_LOG image k (idle.each (image DAEMON_LOG) (picked.each DAEMON_LOG)) (outside_log DAEMON_LOG k (inr (omega arith))) ∙ one_value image picked k low high)

  -- So does each image that is left by calls beside it.
  stays_from : (image : Image) → NamesNone (record_mask frame (reads words)) image → HasOrigin (ByOthers (record_mask frame (reads words))) words image
      → Stays m ((tables_of F (settled_by DAEMON_LOG image)).puddles frame)
  stays_from image names origin =
      same_record (settled_by DAEMON_LOG image)
      (λ k low high.
      let there = record_masked frame (reads words) k low high in
      settled_by-outside DAEMON_LOG image k (outside_log DAEMON_LOG k (inr (omega arith)))
      ∙ ap (λ (o : Option ℕ). unwrap_or o (image k)) (names.each k (reads words k) there)
      ∙ elim (origin.from.each k) [ inl same ↦ same | inr none ↦ absurd (none-some (reads words k) (sym none ∙ there)) ]
      ∙ one_value origin.before origin.picked k low high)

-- ---- calls beside it

-- Calls leave the record if they write no word of it, and the daemon log names none meanwhile.
pub stays_meanwhile : (F : ℕ) (fault : Option HostFault) (old new : State) → HasDurableTables F old.now.words → (frame : ℕ) (m : Member) → (tables_of F (reads old.now.words)).puddles frame ≡ Some m
    → Changes (ByOthers (record_mask frame (reads old.now.words))) fault old new → Leaves (Silently (NamesNone (record_mask frame (reads old.now.words)))) old new
    → Leaves (Silently (λ image. Stays m ((tables_of F (settled_by DAEMON_LOG image)).puddles frame))) old new
stays_meanwhile F fault old new tables frame m used changes names =
    let mask = record_mask frame (reads old.now.words) in
    Leaves-weaker (Silently (λ image. NamesNone mask image × HasOrigin (ByOthers mask) old.now.words image)) (Silently (λ image. Stays m ((tables_of F (settled_by DAEMON_LOG image)).puddles frame))) old new
    (λ bytes image p. (p.0, stays_from F old.now.words tables frame m used image p.1.0 p.1.1)) (Leaves-from (NamesNone mask) (ByOthers mask) fault old new changes names)

pub stays_beside : (F : ℕ) (fault : Option HostFault) (old new : State) → HasDurableTables F old.now.words → (frame : ℕ) (m : Member) → (tables_of F (reads old.now.words)).puddles frame ≡ Some m
    → LeavesMasked (record_mask frame (reads old.now.words)) fault old new → Leaves (Silently (λ image. Stays m ((tables_of F (settled_by DAEMON_LOG image)).puddles frame))) old new
stays_beside F fault old new tables frame m used beside = stays_meanwhile F fault old new tables frame m used beside.changes beside.names

-- Each record stays if everything that is done is done beside each record.
pub LeavesPuddles-beside : (F : ℕ) (fault : Option HostFault) (old new : State) → HasDurableTables F old.now.words
    → ((frame : ℕ) (m : Member) → (tables_of F (reads old.now.words)).puddles frame ≡ Some m → LeavesMasked (record_mask frame (reads old.now.words)) fault old new) → LeavesPuddles F Stays old new
LeavesPuddles-beside F fault old new tables each = record { each = λ frame m used. stays_beside F fault old new tables frame m used (each frame m used) }

-- They also stay if words are written that are neither of the puddle table nor the gate of the daemon log.
pub LeavesPuddles-changes : (F : ℕ) (may : Footprint) (fault : Option HostFault) (old new : State) → Changes may fault old new → ((k v : ℕ) → PUDDLE_TABLE ≤ k → k < tables_end F → may k v → ⊥)
    → ((v : ℕ) → may DAEMON_LOG v → ⊥) → HasDurableTables F old.now.words → HasIdleGate DAEMON_LOG old.now.words → LeavesPuddles F Stays old new
LeavesPuddles-changes F may fault old new changes apart gate tables idle = record {
  each = λ frame m used.
      let mask = record_mask frame (reads old.now.words) in
      let known = used_below F (reads old.now.words) frame m used in
      let off = IsOff-record frame (reads old.now.words) may (λ k v low high. apart k v (omega arith) (omega arith)) in
      stays_meanwhile F fault old new tables frame m used (by_others mask may fault old new off changes) (names_none-changes mask may fault old new gate idle changes);
}

-- They also stay if only words after the tables are written.
pub LeavesPuddles-after : (F : ℕ) (may : Footprint) (fault : Option HostFault) (old new : State) → Changes may fault old new → ((k v : ℕ) → k < tables_end F → may k v → ⊥) → HasDurableTables F old.now.words
    → HasIdleGate DAEMON_LOG old.now.words → LeavesPuddles F Stays old new
LeavesPuddles-after F may fault old new changes following tables idle =
    LeavesPuddles-changes F may fault old new changes (λ k v low high. following k v high) (λ v. following DAEMON_LOG v (omega arith)) tables idle

-- ---- a daemon that is ready

module _ (size : ℕ) (w : World) (memory : Memory) (s : State) (ready : IsReady size w memory s) where
  -- After a replay of the daemon log the tables are those that are read.
  pub settled_ready : tables_of w.stored.frames (settled_by DAEMON_LOG (reads s.now.words)) ≡ tables_of w.stored.frames (reads s.now.words)
  settled_ready = tables_picked w.stored.frames s.now.words (reads s.now.words) (ready_gate size w memory s ready) ready.tables (Picks-reads s.now.words)

  -- Each image that may be left has each record.
  pub ready_puddles : (frame : ℕ) (m : Member) → (tables_of w.stored.frames (reads s.now.words)).puddles frame ≡ Some m → (image : Image) → Picks s.now.words image
      → Stays m ((tables_of w.stored.frames (settled_by DAEMON_LOG image)).puddles frame)
  ready_puddles frame m used = stays_picked w.stored.frames s.now.words ready.tables frame m used (ready_gate size w memory s ready)

  -- If nothing happened, the records stay.
  pub LeavesPuddles-still : (new : State) → new ≡ s → LeavesPuddles w.stored.frames Stays s new
  LeavesPuddles-still new same = record { each = λ frame m used. Leaves-still _ s new (λ image picked. (refl, ready_puddles frame m used image picked)) same }

-- ---- what becomes of them

-- Less may be stated about what becomes of each record.
pub LeavesPuddles-weaker : (F : ℕ) (p q : Member → Option Member → Type 0) (old new : State) → ((m : Member) (now : Option Member) → p m now → q m now) → LeavesPuddles F p old new → LeavesPuddles F q old new
LeavesPuddles-weaker F p q old new weaker l = record {
  each = λ frame m used.
      Leaves-weaker (Silently (λ image. p m ((tables_of F (settled_by DAEMON_LOG image)).puddles frame))) (Silently (λ image. q m ((tables_of F (settled_by DAEMON_LOG image)).puddles frame))) old new
      (λ bytes image is. (is.0, weaker m ((tables_of F (settled_by DAEMON_LOG image)).puddles frame) is.1)) (l.each frame m used);
}

-- If the first calls brought the record this far, the rest of its way goes on from there.
pub record GoesOn (q r : Member → Option Member → Type 0) (m : Member) (now : Option Member) : Type 0 where
  pub then : Member
  pub is : now ≡ Some then
  pub on : (later : Option Member) → q then later → r m later

-- What becomes of each record by the first calls, and then by those after them.
pub record Joins (p q r : Member → Option Member → Type 0) : Type 0 where
  pub early : (m : Member) (now : Option Member) → p m now → r m now
  pub late : (m : Member) (now : Option Member) → p m now → GoesOn q r m now

-- A record that stays goes on as it was.
pub Joins-stays : (q : Member → Option Member → Type 0) → ((m : Member) (now : Option Member) → Stays m now → q m now) → Joins Stays q q
Joins-stays q stays = record { early = stays; late = λ m now is. record { then = m; is = is; on = λ later so. so } }

-- The first calls end with tables that are the same after a replay of the daemon log.
pub LeavesPuddles-then : (F : ℕ) (p q r : Member → Option Member → Type 0) (a b c : State) → Joins p q r → b.now.said ≡ a.now.said
    → tables_of F (settled_by DAEMON_LOG (reads b.now.words)) ≡ tables_of F (reads b.now.words) → LeavesPuddles F p a b → LeavesPuddles F q b c → LeavesPuddles F r a c
LeavesPuddles-then F p q r a b c joins quiet read first later = record {
  each = λ frame m used.
      let at : Image → Option Member = λ image. (tables_of F (settled_by DAEMON_LOG image)).puddles frame in
      let said = quiet ∙ sym (append-nil a.now.said) in
      let now = (Leaves-now (Silently (λ image. p m (at image))) [] a b said (first.each frame m used) (reads b.now.words) (Picks-reads b.now.words)).1 in
      let goes = joins.late m (at (reads b.now.words)) now in
      let there : (tables_of F (reads b.now.words)).puddles frame ≡ Some goes.then = sym (ap (λ (t : Tables). t.puddles frame) read) ∙ goes.is in
      Leaves-then (Silently (λ image. p m (at image))) (Silently (λ image. q goes.then (at image))) (Silently (λ image. r m (at image))) [] a b c said
      (λ front image is. (is.0, joins.early m (at image) is.1)) (λ more image is. (is.0, goes.on (at image) is.1)) (first.each frame m used) (later.each frame goes.then there);
}

-- What has become of each record at the end.
pub puddles_then : (size : ℕ) (next : World) (memory : Memory) (F : ℕ) (becomes : Member → Option Member → Type 0) (old new : State) → F ≡ next.stored.frames → new.now.said ≡ old.now.said → IsReady size next memory new
    → LeavesPuddles F becomes old new → (frame : ℕ) (m : Member) → (tables_of F (reads old.now.words)).puddles frame ≡ Some m → becomes m ((tables_of F (reads new.now.words)).puddles frame)
puddles_then size next memory F becomes old new same quiet ready l frame m used =
    let read : tables_of F (settled_by DAEMON_LOG (reads new.now.words)) ≡ tables_of F (reads new.now.words) =
    subst (λ (n : ℕ). tables_of n (settled_by DAEMON_LOG (reads new.now.words)) ≡ tables_of n (reads new.now.words)) (sym same) (settled_ready size next memory new ready) in
    subst (λ (t : Tables). becomes m (t.puddles frame)) read
    (Leaves-now (Silently (λ image. becomes m ((tables_of F (settled_by DAEMON_LOG image)).puddles frame))) [] old new (quiet ∙ sym (append-nil old.now.said)) (l.each frame m used) (reads new.now.words) (Picks-reads new.now.words)).1
