-- A transaction is committed: its words are made durable, the range moves, and its log is closed.
use Rattle.std.proofs.Common.{◌≡◌, ◌⊎◌, inl, inr, ℕ, true, false, List, [], ◌∷◌, ◌++◌, Option, Some, None, refl, sym, ap, subst, ◌∙◌, append_assoc, arith}
use Rattle.std.proofs.lemmas.List.{append-nil}
use Rattle.pm_model.specs.declared.host.HostFault.{HostFault}
use Rattle.pm_model.specs.Words.{Cell, reads, Picks, HasOnly, fenced, after_fence}
use Rattle.pm_model.specs.Moments.{Moment, State}
use Rattle.pm_model.specs.Calls.{Steps}
use Rattle.pm_model.specs.Changes.{Footprint, Changes, Leaves, Silently, Persists, IsFrom, only, written}
use Rattle.pm_model.proofs.Has.{Has-append_right}
use Rattle.pm_model.proofs.Words.{HasOnly-newest, HasOnly-fenced, values-fenced, only_at}
use Rattle.pm_model.proofs.Changes.{now_among, Changes-fence, Changes-then, Changes-wider, Changes-said, HasOnly-kept}
use Rattle.pm_model.proofs.Leaves.{Leaves-changes, Leaves-then}
use Rattle.pm_model.proofs.OneWord.{one_word, value_of_only}
use Rattle.pud_defs.specs.declared.log_words.TheConstants.{COMMITTING_LO, COMMITTING_HI, CLOSED_GATE}
use Rattle.pud_defs.specs.Formats.Image.{Image}
use Rattle.pud_defs.specs.Logging.Entries.{Entry, Log, log_of, gate_lo, gate_hi, gate_word, is_idle_gate}
use Rattle.pud_defs.specs.Logging.Replay.{overwritten}
use Rattle.pud_defs.proofs.Logging.Entries.{gate_lo-of, gate_hi-of}
use Rattle.pud_defs.proofs.Logging.Replay.{not_inside, overwritten-stays}
use Rattle.log_store.specs.Store.{OpenLog, IsOpen, defers, saying, committing}
use Rattle.log_store.proofs.Open.{IsOpen-fits, IsOpen-log, IsOpen-kept, IsOpen-moved, log_of-moving, only_here}
use Rattle.word_transaction.specs.Scope.{Scope, IsScope, pending}
use Rattle.word_transaction.specs.Running.{IsRunning, RecoversTo, HasGateRange, RecoversByRange, ByTransaction, ByCommit, AbortsTransaction, MovesRange, CommitsTransaction}
use Rattle.word_transaction.proofs.Images.{RecoversTo-running, RecoversTo-idle, IsRunning-recovers}
use Rattle.word_transaction.proofs.Calls.{some_fault, not_cut}
use Rattle.word_transaction.proofs.Pending.{pending-none, RecoversTo-committing}
use Rattle.word_transaction.proofs.Ended.{reads_beside}

-- ---- words of the log, and the transaction's own

-- No own word is the gate.
pub mine_apart : (size at : ℕ) (g : Scope) (k : ℕ) → IsScope size at g → g.has_word k ≡ true → k ≡ at → ⊥
mine_apart size at g k scope mine here = absurd (not_inside at k (scope.apart k mine) (record { low = omega arith; high = omega arith }))

-- A value written to the gate is one written to a word of the log.
pub gate_by : (g : Scope) (at gate k v : ℕ) → written (only at gate) k v → ByTransaction g at k v
gate_by g at gate k v new = let here = only_at at gate k v new in inl (record { low = omega arith; high = omega arith })

-- A write of one word writes only this word, and only its value.
written_gate : {A : Type 0} → (w x k v : ℕ) → written (only w x) k v → (k ≡ w → v ≡ x → A) → A
written_gate w x k v new make =
    let here = only_at w x k v new in
    make here (value_of_only w x v (subst (λ (n : ℕ). only w x n ≡ Some v) here new))

-- ---- the log is closed

-- An image left while the log is being closed. Its own words recover to these values, and its gate is as it was or that
-- of a closed log.
pub record IsShut (g : Scope) (at was : ℕ) (values image : Image) : Type 0 where
  pub recovers : RecoversTo g at values image
  pub gate : (image at ≡ was) ⊎ (image at ≡ CLOSED_GATE)

-- the log is closed with these values, and each image left meanwhile is such an image
pub record Shuts (g : Scope) (at was : ℕ) (values : Image) (fault : Option HostFault) (old new : State) : Type 0 where
  pub closes : AbortsTransaction g at values fault old new
  pub moments : Leaves (Silently (IsShut g at was values)) old new

-- ---- the log is closed, and each own word has only one value

module _ (size at : ℕ) (g : Scope) (scope : IsScope size at g) (values : Image) (fault : Option HostFault) (c d : State)
    (recovers : (image : Image) → Picks c.now.words image → RecoversTo g at values image) (single : (k : ℕ) → g.has_word k ≡ true → HasOnly (c.now.words k) (values k))
    (p : Persists (only at CLOSED_GATE) fault c d) where
  shut_image : (before image : Image) → Picks c.now.words before → IsFrom (written (only at CLOSED_GATE)) before image → RecoversTo g at values image
  shut_image before image picked from = elim (one_word at CLOSED_GATE before image from) [
    | inl same ↦ subst (λ (i : Image). RecoversTo g at values i) (sym same) (recovers before picked)
    | inr shut ↦ RecoversTo-idle g at values image (ap is_idle_gate shut.there)
        (λ k mine. shut.others k (mine_apart size at g k scope mine) ∙ (single k mine).each (before k) (picked.each k))
  ]

  pub AbortsTransaction-shut : AbortsTransaction g at values fault c d
  AbortsTransaction-shut =
      record {
        changes = Changes-wider (written (only at CLOSED_GATE)) (ByTransaction g at) fault c d (gate_by g at CLOSED_GATE) p.changes;
        moments = Leaves-changes (RecoversTo g at values) (written (only at CLOSED_GATE)) fault c d shut_image p.changes;
        durable = λ none k mine.
            HasOnly-kept (written (only at CLOSED_GATE)) fault c d k (values k) p.changes (λ x new. mine_apart size at g k scope mine (only_at at CLOSED_GATE k x new)) (single k mine);
        closed = λ none. p.durable none at CLOSED_GATE (only_here at CLOSED_GATE);
      }

  -- The gate of an image is the one that the log had, or that of a closed log.
  module _ (was : ℕ) (one : HasOnly (c.now.words at) was) where
    shut_gate : (before image : Image) → Picks c.now.words before → IsFrom (written (only at CLOSED_GATE)) before image → (image at ≡ was) ⊎ (image at ≡ CLOSED_GATE)
    shut_gate before image picked from = elim (one_word at CLOSED_GATE before image from) [
      | inl same ↦ inl (ap (λ (i : Image). i at) same ∙ one.each (before at) (picked.each at))
      | inr shut ↦ inr shut.there
    ]

    pub Shuts-shut : Shuts g at was values fault c d
    Shuts-shut =
        record {
          closes = AbortsTransaction-shut;
          moments = Leaves-changes (IsShut g at was values) (written (only at CLOSED_GATE)) fault c d
              (λ before image picked from. record { recovers = shut_image before image picked from; gate = shut_gate before image picked from }) p.changes;
        }

-- ---- a fence

-- no value may be written to any word
abbrev Nowhere : Footprint
Nowhere k v = ⊥

fenced_by : (c : Cell) → (c.kept ≡ []) ⊎ HasOnly c c.newest → HasOnly (fenced c) c.newest
fenced_by c (inl kept) = HasOnly-fenced c c.newest refl kept
fenced_by c (inr one) = record { each = λ x h. one.each x (values-fenced c x h) }

-- ---- what is written: only the gate

-- the gate of the log with its range moved
abbrev pub moved_gate : OpenLog → ℕ
moved_gate log = gate_word COMMITTING_LO COMMITTING_HI log.used

-- a fence, and then the range moves
pub record Moves (log : OpenLog) (fault : Option HostFault) (a b c : State) : Type 0 where
  pub fence : Steps after_fence None a b
  pub move : Persists (only log.gate_at (moved_gate log)) fault b c

pub gate_moves : (log : OpenLog) (fault : Option HostFault) (a b c : State) → Moves log fault a b c → Changes (ByCommit log) fault a c
gate_moves log fault a b c m =
    Changes-then (ByCommit log) fault a b c (Changes-fence (ByCommit log) None a b m.fence)
    (Changes-wider (written (only log.gate_at (moved_gate log))) (ByCommit log) fault b c (λ k v new. written_gate log.gate_at (moved_gate log) k v new (λ here is. record { gate = here; value = inl is }))
    m.move.changes)

pub gate_closes : (log : OpenLog) (fault : Option HostFault) (a b c d : State) → Moves log None a b c → Persists (only log.gate_at CLOSED_GATE) fault c d → Changes (ByCommit log) fault a d
gate_closes log fault a b c d m p =
    Changes-then (ByCommit log) fault a c d (gate_moves log None a b c m)
    (Changes-wider (written (only log.gate_at CLOSED_GATE)) (ByCommit log) fault c d (λ k v new. written_gate log.gate_at CLOSED_GATE k v new (λ here is. record { gate = here; value = inr is })) p.changes)

-- ---- the moments of an open transaction

module _ (size : ℕ) (log : OpenLog) (es : List Entry) (g : Scope) (before : Image) (a : State) (scope : IsScope size log.gate_at g) (r : IsRunning g log es before a.now.words) where
  -- what its own words have at the end: what they have now, with the deferred values written over it
  abbrev after : Image
  after = overwritten (pending g.place es) (reads a.now.words)

  -- what an image recovers to, the values at the start or those at the end, as its range tells
  abbrev ByRange : Image → Type 0
  ByRange = RecoversByRange g log.gate_at before after

  -- If the log has the range that it had, the image recovers to the values at the start.
  unmoved : (image : Image) → log_of image log.gate_at ≡ saying log es → RecoversTo g log.gate_at before image → ByRange image
  unmoved image says recovers = inl (record { range = record { lo_is = ap (λ (l : Log). l.lo) says ∙ r.lo; hi_is = ap (λ (l : Log). l.hi) says ∙ r.hi }; recovers = recovers })

  start_image : (image : Image) → Picks a.now.words image → ByRange image
  start_image image picked = unmoved image (IsOpen-log log es a.now.words image r.opened picked) (IsRunning-recovers g log es before image a.now.words r picked)

  -- With this gate the log has the range of a committing log.
  moved_range : (image : Image) → image log.gate_at ≡ moved_gate log → HasGateRange COMMITTING_LO COMMITTING_HI log.gate_at image
  moved_range image is =
      let few = (IsOpen-fits log es a.now.words r.opened).used_within in
      record {
        lo_is = ap gate_lo is ∙ gate_lo-of COMMITTING_LO COMMITTING_HI log.used (omega arith) (omega arith) (omega arith);
        hi_is = ap gate_hi is ∙ gate_hi-of COMMITTING_LO COMMITTING_HI log.used (omega arith) (omega arith) (omega arith);
      }

  -- With this gate, or with that of a closed log, the image recovers to the values at the end.
  moved : (image : Image) → IsShut g log.gate_at (moved_gate log) after image → ByRange image
  moved image s = inr (record { range = elim s.gate [ inl gate ↦ inl (moved_range image gate) | inr shut ↦ inr shut ]; recovers = s.recovers })

  fence_image : (was image : Image) → Picks a.now.words was → IsFrom Nowhere was image → ByRange image
  fence_image was image picked from =
      let each : (k : ℕ) → image k ≡ was k = λ k. elim (from.each k) [ inl is ↦ is | inr new ↦ absurd new ] in
      let same : image ≡ was = λ i k. each k i in
      subst (λ (i : Image). ByRange i) (sym same) (start_image was picked)

  fence_left : (fault : Option HostFault) (b : State) → Steps after_fence fault a b → Leaves (Silently ByRange) a b
  fence_left fault b step = Leaves-changes ByRange Nowhere fault a b fence_image (Changes-fence Nowhere fault a b step)

  -- After the fence each own word has only one value.
  fence_single : (b : State) → Steps after_fence None a b → (k : ℕ) → g.has_word k ≡ true → HasOnly (b.now.words k) (reads a.now.words k)
  fence_single b step k mine = subst (λ (s : State). HasOnly (s.now.words k) (reads a.now.words k)) (sym (step.done refl)) (fenced_by (a.now.words k) (r.marked k mine))

  fence_open : (b : State) → Steps after_fence None a b → IsOpen log es b.now.words
  fence_open b step = IsOpen-kept Nowhere None a b log es (Changes-fence Nowhere None a b step) (λ k v inside new. new) r.opened

  -- ---- the range is moved

  moved_own : (b c : State) (fault : Option HostFault) (m : Moves log fault a b c) (was image : Image) → Picks b.now.words was → IsFrom (written (only log.gate_at (moved_gate log))) was image
      → (k : ℕ) → g.has_word k ≡ true → image k ≡ reads a.now.words k
  moved_own b c fault m was image picked from k mine = elim (from.each k) [
    | inl same ↦ same ∙ (fence_single b m.fence k mine).each (was k) (picked.each k)
    | inr new ↦ absurd (mine_apart size log.gate_at g k scope mine (only_at log.gate_at (moved_gate log) k (image k) new))
  ]

  moved_image : (b c : State) (fault : Option HostFault) (m : Moves log fault a b c) (was image : Image) → Picks b.now.words was
      → IsFrom (written (only log.gate_at (moved_gate log))) was image → ByRange image
  moved_image b c fault m was image picked from =
      let own = moved_own b c fault m was image picked from in
      elim (log_of-moving COMMITTING_LO COMMITTING_HI log es b.now.words was image (omega arith) (omega arith) (fence_open b m.fence) picked from) [
        | inl says ↦ unmoved image says (RecoversTo-running g log es before image r.lo r.hi r.own says (λ k v mine is. r.saves k v is)
            (λ k mine kept. own k mine ∙ HasOnly-newest (a.now.words k) (before k) (r.single k mine kept)))
        | inr says ↦ inr (record {
          range = inl (record { lo_is = ap (λ (l : Log). l.lo) says; hi_is = ap (λ (l : Log). l.hi) says });
          recovers = RecoversTo-committing g log es (reads a.now.words) image r.own says own;
        })
      ]

  moved_left : (b c : State) (fault : Option HostFault) (m : Moves log fault a b c) → Leaves (Silently ByRange) a c
  moved_left b c fault m =
      let P = Silently ByRange in
      let said = Changes-said Nowhere None a b (Changes-fence Nowhere None a b m.fence) in
      Leaves-then P P P [] a b c (said ∙ sym (append-nil a.now.said)) (λ front image p. p) (λ more image p. p) (fence_left None b m.fence)
      (Leaves-changes ByRange (written (only log.gate_at (moved_gate log))) fault b c (moved_image b c fault m) m.move.changes)

  -- After the move each own word has only one value, and the log has the range of redo entries.
  pub moved_single : (b c : State) (m : Moves log None a b c) → (k : ℕ) → g.has_word k ≡ true → HasOnly (c.now.words k) (reads a.now.words k)
  moved_single b c m k mine =
      HasOnly-kept (written (only log.gate_at (moved_gate log))) None b c k (reads a.now.words k) m.move.changes
      (λ x new. mine_apart size log.gate_at g k scope mine (only_at log.gate_at (moved_gate log) k x new)) (fence_single b m.fence k mine)

  pub moved_open : (b c : State) (m : Moves log None a b c) → IsOpen (committing log) es c.now.words
  moved_open b c m = IsOpen-moved COMMITTING_LO COMMITTING_HI log es b c (omega arith) (omega arith) (fence_open b m.fence) m.move

  -- So each image recovers to the values at the end.
  moved_settles : (b c : State) (m : Moves log None a b c) (image : Image) → Picks c.now.words image → RecoversTo g log.gate_at after image
  moved_settles b c m image picked =
      RecoversTo-committing g log es (reads a.now.words) image r.own (IsOpen-log (committing log) es c.now.words image (moved_open b c m) picked)
      (λ k mine. (moved_single b c m k mine).each (image k) (picked.each k))

  -- ---- the call

  own_gate : (k v : ℕ) → ByCommit log k v → ByTransaction g log.gate_at k v
  own_gate k v by = let here = by.gate in inl (record { low = omega arith; high = omega arith })

  pub CommitsTransaction-fence : (fault : HostFault) (b : State) → Steps after_fence (Some fault) a b → CommitsTransaction g log.gate_at before after (Some fault) a b
  CommitsTransaction-fence fault b step =
      record {
        changes = Changes-fence (ByTransaction g log.gate_at) (Some fault) a b step;
        moments = fence_left (Some fault) b step;
        moves = λ e. absurd (some_fault fault e);
        durable = λ e. absurd (some_fault fault e);
        closed = λ e. absurd (some_fault fault e);
        stays = λ e. absurd (some_fault fault e);
      }

  pub CommitsTransaction-move : (fault : HostFault) (b c : State) → Moves log (Some fault) a b c → CommitsTransaction g log.gate_at before after (Some fault) a c
  CommitsTransaction-move fault b c m =
      record {
        changes = Changes-wider (ByCommit log) (ByTransaction g log.gate_at) (Some fault) a c own_gate (gate_moves log (Some fault) a b c m);
        moments = moved_left b c (Some fault) m;
        moves = λ e. absurd (some_fault fault e);
        durable = λ e. absurd (some_fault fault e);
        closed = λ e. absurd (some_fault fault e);
        stays = λ e. absurd (some_fault fault e);
      }

  -- After the move the range is that of a committing log, and all that was written is durable.
  range_moves : (b c d : State) (fault : Option HostFault) (may : Footprint) → Moves log None a b c → Changes may fault c d → MovesRange g log.gate_at a d
  range_moves b c d fault may m changes =
      let moves = gate_moves log None a b c m in
      record {
        added = changes.added ++ moves.added;
        history = changes.history ∙ ap (λ (l : List Moment). changes.added ++ l) moves.history ∙ sym (append_assoc changes.added moves.added (a.now ∷ a.past));
        moment = c.now;
        among = elim (now_among a c moves.added moves.history) [ inl same ↦ inl same | inr h ↦ inr (Has-append_right changes.added moves.added c.now h) ];
        range = λ image picked. moved_range image ((moved_open b c m).gate.each (image log.gate_at) (picked.each log.gate_at));
        durable = moved_single b c m;
      }

  -- The log is closed, and all words are as at the end.
  pub CommitsTransaction-closes : (fault : Option HostFault) (b c d : State) → Moves log None a b c → Shuts g log.gate_at (moved_gate log) after fault c d → CommitsTransaction g log.gate_at before after fault a d
  CommitsTransaction-closes fault b c d m shuts =
      let closes = shuts.closes in
      let moves = gate_moves log None a b c m in
      let changes = Changes-then (ByTransaction g log.gate_at) fault a c d (Changes-wider (ByCommit log) (ByTransaction g log.gate_at) None a c own_gate moves) closes.changes in
      record {
        changes = changes;
        moments = Leaves-then (Silently ByRange) (Silently (IsShut g log.gate_at (moved_gate log) after)) (Silently ByRange) [] a c d
            (Changes-said (ByCommit log) None a c moves ∙ sym (append-nil a.now.said)) (λ front image p. p) (λ more image p. (p.0, moved image p.1)) (moved_left b c None m) shuts.moments;
        moves = λ none. range_moves b c d fault (ByTransaction g log.gate_at) m closes.changes;
        durable = closes.durable;
        closed = closes.closed;
        stays = λ e k outside other. reads_beside g log.gate_at fault a d changes (not_cut fault e) k outside other;
      }

  -- If nothing is deferred, the log is closed at once.
  pub CommitsTransaction-close : (fault : Option HostFault) (b c d : State) → defers es ≡ false → Moves log None a b c → Persists (only log.gate_at CLOSED_GATE) fault c d → CommitsTransaction g log.gate_at before after fault a d
  CommitsTransaction-close fault b c d none m p =
      CommitsTransaction-closes fault b c d m
      (Shuts-shut size log.gate_at g scope after fault c d (moved_settles b c m)
      (λ k mine. subst (λ (v : ℕ). HasOnly (c.now.words k) v) (sym (overwritten-stays (pending g.place es) (reads a.now.words) k (pending-none g.place es k none))) (moved_single b c m k mine)) p
      (moved_gate log) (moved_open b c m).gate)
