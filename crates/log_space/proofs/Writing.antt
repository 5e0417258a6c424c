-- One batch writes a client's record: each image left stands for the same world, and its table has the record as it was
-- or changed.
use Rattle.std.proofs.Common.{◌≡◌, ◌⊎◌, inl, inr, ℕ, ◌+◌, ◌<◌, ◌≤◌, true, ◌&&◌, ◌||◌, leb, eqb, List, [], ◌∷◌, length, Option, Some, None, refl, ap, subst, ◌∙◌, arith, eq-eqb}
use Rattle.std.specs.Prelude.{slice_get}
use Rattle.std.proofs.lemmas.Bool.{and_from, or_left, or_right, le-leb}
use Rattle.pm_model.specs.declared.host.HostFault.{HostFault}
use Rattle.pm_model.specs.Words.{Words, Picks, reads}
use Rattle.pm_model.specs.Moments.{State}
use Rattle.pm_model.specs.Changes.{Changes, Silently}
use Rattle.pm_model.proofs.Leaves.{Leaves-weaker}
use Rattle.pud_defs.specs.declared.layout.TheConstants.{DAEMON_LOG, CLIENTS, SPACE_RECORD_WORDS, MAX_OWNER_ID}
use Rattle.pud_defs.specs.Formats.Image.{Image}
use Rattle.pud_defs.specs.Logging.Entries.{is_idle_gate}
use Rattle.pud_defs.specs.Logging.Replay.{overwritten, settled_by}
use Rattle.pud_defs.specs.RegistryTables.Registry.{is_loggable}
use Rattle.pud_defs.specs.RegistryTables.Spaces.{Owner, space_record_at, owner_by, owner_of, is_space, is_legal_space, has_closed_logs, owner, with_owner}
use Rattle.pud_defs.specs.StateMachine.World.{StoredWorld}
use Rattle.pud_defs.proofs.Logging.Replay.{settled_by-idle, outside_log, overwritten-stays, overwritten-there, value_at-there, value_at-apart}
use Rattle.pud_defs.proofs.Logging.Logged.{may_be_logged-table, is_loggable-there}
use Rattle.pud_defs.proofs.RegistryTables.Spaces.{owner_of-same, has_closed_logs-same}
use Rattle.pud_defs.proofs.StateMachine.IdleWorlds.{standing_of_idle_world, idle_registry_standing}
use Rattle.batch.specs.Batches.{batch_entry, batch_write, committed, ByBatch}
use Rattle.batch.specs.Worlds.{IsQuiescent, with_batch, MovesBy, IsBetween, Moves}
use Rattle.batch.proofs.Writes.{batch_write-single}
use Rattle.batch.proofs.Worlds.{stands_still}
use Rattle.batch.proofs.Tables.{reads_committed}
use Rattle.log_space.specs.Records.{record_batch, registration, unregistration, HasClosedLogs, MayHaveOwner, ChangesOwner, Registers, Unregisters}
use Rattle.log_space.proofs.Tables.{IsBeside, owner_of-changed, standing_changed, has_closed_logs-changed}

-- ---- what the batch writes

-- The words of the record with these numbers get the values.
pub writes_there : (slot k n : ℕ) (vals : List ℕ) → k ≡ space_record_at slot + n → batch_write (record_batch slot vals) k ≡ slice_get vals n
writes_there slot k n vals here = batch_write-single (batch_entry (space_record_at slot) vals) k ∙ value_at-there (space_record_at slot) n k vals here

-- No other word gets a value.
pub writes_elsewhere : (slot k : ℕ) (vals : List ℕ) → (k < space_record_at slot) ⊎ (space_record_at slot + length vals ≤ k) → batch_write (record_batch slot vals) k ≡ None
writes_elsewhere slot k vals apart = batch_write-single (batch_entry (space_record_at slot) vals) k ∙ value_at-apart (space_record_at slot) k vals apart

is_beside : (slot : ℕ) (vals : List ℕ) (image : Image) → length vals ≤ SPACE_RECORD_WORDS → IsBeside slot image (overwritten (batch_write (record_batch slot vals)) image)
is_beside slot vals image few = record {
  same = λ k apart. overwritten-stays (batch_write (record_batch slot vals)) image k (writes_elsewhere slot k vals (let beyond : (k < space_record_at slot) ⊎ (space_record_at slot + length vals ≤ k) = elim apart [
    | inl before ↦ inl before
    | inr following ↦ inr (omega arith)
  ] in beyond));
}

-- ---- the world stays the same, and the table changes wholly or not at all

-- With these values in the record, the table has this owner for the client, and the record is legal. If the record is
-- used, the client's logs are closed.
pub record GivesOwner (s : StoredWorld) (slot : ℕ) (now : Option Owner) (vals : List ℕ) (words : Words) : Type 0 where
  pub known : slot < CLIENTS
  pub few : length vals ≤ SPACE_RECORD_WORDS
  pub gives : (image : Image) → owner_of (overwritten (batch_write (record_batch slot vals)) image) ≡ with_owner slot now (owner_of image)
  pub legal : (image : Image) → is_legal_space (overwritten (batch_write (record_batch slot vals)) image) slot ≡ true
  pub closed : (image : Image) → Picks words image →
      (eqb (with_batch (record_batch slot vals) image (space_record_at slot)) 0 || has_closed_logs (with_batch (record_batch slot vals) image) s.frames slot) ≡ true

module _ (size : ℕ) (s : StoredWorld) (slot : ℕ) (now : Option Owner) (vals : List ℕ) (words : Words) (g : GivesOwner s slot now vals words) where
  pub MovesBy-record : IsQuiescent size s words → MovesBy size s s (record_batch slot vals) words
  MovesBy-record settled = record {
    allowed =
        let e = batch_entry (space_record_at slot) vals in
        let known = g.known in
        let few = g.few in
        let allowed : is_loggable s.frames (committed (record_batch slot vals)) e ≡ true =
        is_loggable-there s.frames (committed (record_batch slot vals)) e (may_be_logged-table s.frames (space_record_at slot) (length vals) (omega arith) (omega arith)) in
        and_from (is_loggable s.frames (committed (record_batch slot vals)) e) true allowed refl;
    stands = λ image picked.
        let old = settled_by DAEMON_LOG image in
        let was = standing_of_idle_world size image s (settled.stands image picked) in
        idle_registry_standing size (with_batch (record_batch slot vals) image) s
        (standing_changed slot old (with_batch (record_batch slot vals) image) (is_beside slot vals old g.few) size s g.known was (g.legal old) (g.closed image picked));
  }

  may_have_owner : (image : Image) → IsBetween size s s (record_batch slot vals) words image → MayHaveOwner size s slot now (record_batch slot vals) words image
  may_have_owner image b = record {
    stands = stands_still size s (record_batch slot vals) words image b;
    before = b.batched.before;
    picked = b.batched.picked;
    outside = b.batched.outside;
    after_pools = λ k high.
        let known = g.known in
        let few = g.few in
        b.batched.outside k (outside_log DAEMON_LOG k (inr (omega arith))) (writes_elsewhere slot k vals (inr (omega arith)));
    table = elim b.stands [
      | inl same ↦ inl (ap owner_of same.0)
      | inr all ↦ inr (ap owner_of all.0 ∙ g.gives (settled_by DAEMON_LOG b.batched.before))
    ];
  }

-- A batch that moves the world with such a record changes the client's owner.
ChangesOwner-moves : (size : ℕ) (s : StoredWorld) (slot : ℕ) (now : Option Owner) (vals : List ℕ) (fault : Option HostFault) (a b : State) → GivesOwner s slot now vals a.now.words
    → Moves size s s (record_batch slot vals) fault a b → ChangesOwner size s slot now (record_batch slot vals) fault a b
ChangesOwner-moves size s slot now vals fault a b g m = record {
  changes = m.commits.changes;
  moments = Leaves-weaker (Silently (IsBetween size s s (record_batch slot vals) a.now.words)) (Silently (MayHaveOwner size s slot now (record_batch slot vals) a.now.words)) a b
      (λ bytes image p. (p.0, may_have_owner size s slot now vals a.now.words g image p.1)) m.moments;
  settled = m.settled;
  done = λ none image picked.
      let h = m.done none image picked in
      record { before = h.before; picked = h.picked; outside = h.outside; table = ap owner_of h.settled ∙ g.gives (settled_by DAEMON_LOG h.before) };
  durable = m.commits.durable;
  read = λ none client known.
      let changes = subst (λ (f : Option HostFault). Changes (ByBatch DAEMON_LOG (record_batch slot vals)) f a b) none m.commits.changes in
      owner_of-same (reads b.now.words) (overwritten (batch_write (record_batch slot vals)) (reads a.now.words)) client known
      (λ k low high. reads_committed (record_batch slot vals) a b k (inr (omega arith)) changes (m.commits.durable none))
      ∙ ap (λ (table : ℕ → Option Owner). table client) (g.gives (reads a.now.words));
}

-- ---- a registration

module _ (slot uid gid : ℕ) (image : Image) where
  registered_word : (k n v : ℕ) → k ≡ space_record_at slot + n → slice_get (1 ∷ uid ∷ gid ∷ []) n ≡ Some v → overwritten (batch_write (registration slot uid gid)) image k ≡ v
  registered_word k n v here is = overwritten-there (batch_write (registration slot uid gid)) image k v (writes_there slot k n (1 ∷ uid ∷ gid ∷ []) here ∙ is)

  first_word : overwritten (batch_write (registration slot uid gid)) image (space_record_at slot) ≡ 1
  first_word = registered_word (space_record_at slot) 0 1 (omega arith) refl

  second_word : overwritten (batch_write (registration slot uid gid)) image (space_record_at slot + 1) ≡ uid
  second_word = registered_word (space_record_at slot + 1) 1 uid refl refl

  third_word : overwritten (batch_write (registration slot uid gid)) image (space_record_at slot + 2) ≡ gid
  third_word = registered_word (space_record_at slot + 2) 2 gid refl refl

  -- With a registration written the table has that owner for the client, and the other owners as before.
  pub owner_of-registered : owner_of (overwritten (batch_write (registration slot uid gid)) image) ≡ with_owner slot (Some (owner uid gid)) (owner_of image)
  owner_of-registered =
      let new = overwritten (batch_write (registration slot uid gid)) image in
      let here : owner_of new slot ≡ owner_by 1 uid gid = λ p. owner_by (first_word p) (second_word p) (third_word p) in
      owner_of-changed slot image new (is_beside slot (1 ∷ uid ∷ gid ∷ []) image (omega arith)) (Some (owner uid gid)) here

  is_legal_space-registered : uid ≤ MAX_OWNER_ID → gid ≤ MAX_OWNER_ID → is_legal_space (overwritten (batch_write (registration slot uid gid)) image) slot ≡ true
  is_legal_space-registered uid_fits gid_fits =
      let is : is_legal_space (overwritten (batch_write (registration slot uid gid)) image) slot ≡ (true && leb uid MAX_OWNER_ID && leb gid MAX_OWNER_ID) =
      λ p. is_space (first_word p) (second_word p) (third_word p) in
      is ∙ and_from (leb uid MAX_OWNER_ID) (leb gid MAX_OWNER_ID) (le-leb uid MAX_OWNER_ID uid_fits) (le-leb gid MAX_OWNER_ID gid_fits)

pub GivesOwner-registration : (size : ℕ) (s : StoredWorld) (slot uid gid : ℕ) (words : Words) → IsQuiescent size s words → slot < CLIENTS → uid ≤ MAX_OWNER_ID → gid ≤ MAX_OWNER_ID
    → HasClosedLogs s.frames slot words → GivesOwner s slot (Some (owner uid gid)) (1 ∷ uid ∷ gid ∷ []) words
GivesOwner-registration size s slot uid gid words settled known uid_fits gid_fits logs = record {
  known = known;
  few = omega arith;
  gives = λ image. owner_of-registered slot uid gid image;
  legal = λ image. is_legal_space-registered slot uid gid image uid_fits gid_fits;
  closed = λ image picked.
      let old = settled_by DAEMON_LOG image in
      let new = overwritten (batch_write (registration slot uid gid)) old in
      let gate : is_idle_gate (image DAEMON_LOG) ≡ true = settled.idle (image DAEMON_LOG) (picked.each DAEMON_LOG) in
      let same : has_closed_logs old s.frames slot ≡ has_closed_logs image s.frames slot =
      has_closed_logs-same old image s.frames slot known (λ k low high. settled_by-idle DAEMON_LOG image k gate (outside_log DAEMON_LOG k (inr (omega arith)))) in
      or_right (eqb (new (space_record_at slot)) 0) (has_closed_logs new s.frames slot)
      (has_closed_logs-changed slot old new (is_beside slot (1 ∷ uid ∷ gid ∷ []) old (omega arith)) s.frames slot known known ∙ same ∙ logs.each image picked);
}

pub Registers-moves : (size : ℕ) (s : StoredWorld) (slot uid gid : ℕ) (fault : Option HostFault) (a b : State) → GivesOwner s slot (Some (owner uid gid)) (1 ∷ uid ∷ gid ∷ []) a.now.words
    → Moves size s s (registration slot uid gid) fault a b → Registers size s slot uid gid fault a b
Registers-moves size s slot uid gid fault a b gives m =
    let vals = 1 ∷ uid ∷ gid ∷ [] in
    let at = space_record_at slot in
    record {
      table = ChangesOwner-moves size s slot (Some (owner uid gid)) vals fault a b gives m;
      used_word = λ none. m.commits.durable none at 1 (writes_there slot at 0 vals (omega arith));
      uid_word = λ none. m.commits.durable none (at + 1) uid (writes_there slot (at + 1) 1 vals refl);
      gid_word = λ none. m.commits.durable none (at + 2) gid (writes_there slot (at + 2) 2 vals refl);
    }

-- ---- a record freed

freed_word : (slot : ℕ) (image : Image) → overwritten (batch_write (unregistration slot)) image (space_record_at slot) ≡ 0
freed_word slot image = overwritten-there (batch_write (unregistration slot)) image (space_record_at slot) 0 (writes_there slot (space_record_at slot) 0 (0 ∷ []) (omega arith))

-- With a record freed the table has no owner for the client, and the other owners as before.
pub owner_of-unregistered : (slot : ℕ) (image : Image) → owner_of (overwritten (batch_write (unregistration slot)) image) ≡ with_owner slot None (owner_of image)
owner_of-unregistered slot image =
    let new = overwritten (batch_write (unregistration slot)) image in
    let here : owner_of new slot ≡ None = ap (λ (used : ℕ). owner_by used (new (space_record_at slot + 1)) (new (space_record_at slot + 2))) (freed_word slot image) in
    owner_of-changed slot image new (is_beside slot (0 ∷ []) image (omega arith)) None here

pub GivesOwner-unregistration : (s : StoredWorld) (slot : ℕ) (words : Words) → slot < CLIENTS → GivesOwner s slot None (0 ∷ []) words
GivesOwner-unregistration s slot words known = record {
  known = known;
  few = omega arith;
  gives = λ image. owner_of-unregistered slot image;
  legal = λ image.
      let new = overwritten (batch_write (unregistration slot)) image in
      or_left (eqb (new (space_record_at slot)) 0) (eqb (new (space_record_at slot)) 1 && leb (new (space_record_at slot + 1)) MAX_OWNER_ID && leb (new (space_record_at slot + 2)) MAX_OWNER_ID)
      (eq-eqb (new (space_record_at slot)) 0 (freed_word slot image));
  closed = λ image picked.
      let new = overwritten (batch_write (unregistration slot)) (settled_by DAEMON_LOG image) in
      or_left (eqb (new (space_record_at slot)) 0) (has_closed_logs new s.frames slot) (eq-eqb (new (space_record_at slot)) 0 (freed_word slot (settled_by DAEMON_LOG image)));
}

pub Unregisters-moves : (size : ℕ) (s : StoredWorld) (slot : ℕ) (fault : Option HostFault) (a b : State) → GivesOwner s slot None (0 ∷ []) a.now.words → Moves size s s (unregistration slot) fault a b
    → Unregisters size s slot fault a b
Unregisters-moves size s slot fault a b gives m = record {
  table = ChangesOwner-moves size s slot None (0 ∷ []) fault a b gives m;
  used_word = λ none. m.commits.durable none (space_record_at slot) 0 (writes_there slot (space_record_at slot) 0 (0 ∷ []) (omega arith));
}
