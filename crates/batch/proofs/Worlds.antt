-- From a committed batch to the worlds that the images left stand for.
use Rattle.std.proofs.Common.{◌≡◌, inl, inr, ℕ, ◌≤◌, true, false, List, [], ◌∷◌, length, Option, Some, None, refl, sym, ap, subst, ◌∙◌, arith}
use Rattle.std.specs.Prelude.{All}
use Rattle.std.specs.List.{list_all}
use Rattle.std.proofs.lemmas.Bool.{and_parts, cases_Bool}
use Rattle.std.proofs.lemmas.List.{append-nil}
use Rattle.std.proofs.lemmas.List.Elements.{All-head, All-tail, All-nil, All-cons}
use Rattle.pm_model.specs.declared.host.HostFault.{HostFault}
use Rattle.pm_model.specs.Words.{Words, reads, Picks}
use Rattle.pm_model.specs.Moments.{State}
use Rattle.pm_model.specs.Changes.{Silently}
use Rattle.pm_model.proofs.Words.{Picks-reads}
use Rattle.pm_model.proofs.Changes.{Changes-said}
use Rattle.pm_model.proofs.Leaves.{Leaves-weaker, Leaves-now}
use Rattle.pud_defs.specs.declared.layout.TheConstants.{DAEMON_LOG, FRAMES_WORD}
use Rattle.pud_defs.specs.Formats.Image.{Image}
use Rattle.pud_defs.specs.Formats.Layout.{device_words}
use Rattle.pud_defs.specs.Logging.Entries.{Entry, is_idle_gate}
use Rattle.pud_defs.specs.Logging.Replay.{device_word, overwritten, is_in_log, settled_by}
use Rattle.pud_defs.specs.RegistryTables.Registry.{frames_of, may_be_logged, is_loggable, has_legal_log}
use Rattle.pud_defs.specs.StateMachine.World.{StoredWorld, idle_registry, idle_world_of}
use Rattle.pud_defs.proofs.Logging.Replay.{overwritten-stays, overwritten-there, settled_by-idle, outside_log, within_log}
use Rattle.pud_defs.proofs.Logging.Logged.{IsUnlogged, unlogged, lies_apart, allowed_in_range, new_value-allowed, has_legal_log-of}
use Rattle.pud_defs.proofs.StateMachine.Parts.Part.{Header}
use Rattle.pud_defs.proofs.StateMachine.IdleWorlds.{standing_of_idle_world, legal_log_of_idle_world, legal_log_idle, idle_world_of_legal, frames_of_idle_world}
use Rattle.log_replay.specs.Replaying.{NamesApart}
use Rattle.batch.specs.Batches.{batch_write, committed, IsBatchEntry, AreBatched, IsFree, ByBatch, IsBatched, Commits}
use Rattle.batch.specs.Worlds.{IsQuiescent, with_batch, MovesBy, IsBetween, HasBatch, Moves}
use Rattle.batch.proofs.Writes.{new_value-committed, batch_write-apart, counts}

-- ---- entries that lie where the daemon log may write

-- They name words of the device, apart from that log.
pub names_apart : (F size : ℕ) (e : Entry) → device_words F ≤ size → may_be_logged F e.address (length e.vals) ≡ true → NamesApart device_word size DAEMON_LOG e
names_apart F size e room may =
    let lies = lies_apart F size e.address (length e.vals) room may in
    record { first = e.address; placed = refl; within = lies.within; apart = lies.apart }

all_apart : (F size : ℕ) (all es : List Entry) → device_words F ≤ size → AreBatched es → list_all (is_loggable F (committed all)) es ≡ true → All (NamesApart device_word size DAEMON_LOG) es
all_apart F size all [] room batched allowed = All-nil (NamesApart device_word size DAEMON_LOG)
all_apart F size all (e ∷ es) room batched allowed =
    let parts = and_parts (is_loggable F (committed all) e) (list_all (is_loggable F (committed all)) es) allowed in
    let may = allowed_in_range F (committed all) e parts.0 (counts all e (All-head IsBatchEntry e es batched)) in
    All-cons (NamesApart device_word size DAEMON_LOG) e es (names_apart F size e room may) (all_apart F size all es room (All-tail IsBatchEntry e es batched) parts.1)

-- ---- a batch that has all that is needed

module _ (size : ℕ) (s next : StoredWorld) (es : List Entry) (a : State) (batched : AreBatched es) (settled : IsQuiescent size s a.now.words) (m : MovesBy size s next es a.now.words) where
  apart : All (NamesApart device_word size DAEMON_LOG) es
  apart = all_apart s.frames size es es ((standing_of_idle_world size (reads a.now.words) s (settled.stands (reads a.now.words) (Picks-reads a.now.words))).holds Header).room batched m.allowed

  pub IsFree-moves : IsFree size DAEMON_LOG es a.now.words
  IsFree-moves = record { idle = settled.idle; apart = apart }

  not_written : (w : ℕ) → IsUnlogged s.frames w → batch_write es w ≡ None
  not_written w none = sym (new_value-committed es w batched) ∙ new_value-allowed s.frames w (committed es) es refl m.allowed none

  -- ---- at each moment

  frames_stay : (image : Image) → IsBatched a.now.words DAEMON_LOG es image → frames_of image ≡ s.frames
  frames_stay image b =
      b.outside FRAMES_WORD (outside_log DAEMON_LOG FRAMES_WORD (inl (omega arith))) (not_written FRAMES_WORD (unlogged s.frames FRAMES_WORD (λ e. absurd (omega arith)) (inl (omega arith)) (omega arith)))
      ∙ frames_of_idle_world size b.before s (settled.stands b.before b.picked)

  legal : (image : Image) → IsBatched a.now.words DAEMON_LOG es image → has_legal_log image ≡ true
  legal image b = elim b.log [
    | inl idle ↦ legal_log_idle image idle
    | inr log ↦ has_legal_log-of image s.frames (committed es) (frames_stay image b) log m.allowed
  ]

  between : (image : Image) → IsBatched a.now.words DAEMON_LOG es image → IsBetween size s next es a.now.words image
  between image b =
      let stood = settled.stands b.before b.picked in
      record {
        batched = b;
        stands = elim b.settled [
          | inl same ↦ inl (same, idle_world_of_legal size image (legal image b) ∙ ap (idle_registry size) same ∙ sym (idle_world_of_legal size b.before (legal_log_of_idle_world size b.before s stood)) ∙ stood)
          | inr all ↦ inr (all, idle_world_of_legal size image (legal image b) ∙ ap (idle_registry size) all ∙ m.stands b.before b.picked)
        ];
      }

  -- ---- without a fault

  module _ (b : State) (c : Commits DAEMON_LOG es None a b) (image : Image) (picked : Picks b.now.words image) where
    outside_batch : (k v : ℕ) → batch_write es k ≡ Some v → is_in_log DAEMON_LOG k ≡ false
    outside_batch k v some = elim (cases_Bool (is_in_log DAEMON_LOG k)) [
      | inl inside ↦ absurd (let it : None ≡ Some v = sym (batch_write-apart es size DAEMON_LOG k apart (within_log DAEMON_LOG k inside)) ∙ some in cc)
      | inr outside ↦ outside
    ]

    word_written : (k : ℕ) (o : Option ℕ) → batch_write es k ≡ o → with_batch es image k ≡ settled_by DAEMON_LOG image k
    word_written k None none = overwritten-stays (batch_write es) (settled_by DAEMON_LOG image) k none
    word_written k (Some v) some =
        overwritten-there (batch_write es) (settled_by DAEMON_LOG image) k v some
        ∙ sym ((c.durable refl k v some).each (image k) (picked.each k))
        ∙ sym (settled_by-idle DAEMON_LOG image k (ap is_idle_gate ((c.closed refl).each (image DAEMON_LOG) (picked.each DAEMON_LOG))) (outside_batch k v some))

    -- The batch's words are there, so to write them again changes nothing.
    again : with_batch es image ≡ settled_by DAEMON_LOG image
    again = λ p k. word_written k (batch_write es k) refl p

    has_batch : IsBatched a.now.words DAEMON_LOG es image → HasBatch es a.now.words image
    has_batch left = record {
      before = left.before;
      picked = left.picked;
      outside = left.outside;
      settled = elim left.settled [
        | inl same ↦ sym again ∙ ap (overwritten (batch_write es)) same
        | inr all ↦ all
      ];
    }

    at_end : IsBatched a.now.words DAEMON_LOG es image
    at_end = (Leaves-now (Silently (IsBatched a.now.words DAEMON_LOG es)) [] a b (Changes-said (ByBatch DAEMON_LOG es) None a b c.changes ∙ sym (append-nil a.now.said)) c.moments image picked).1

    pub HasBatch-commits : HasBatch es a.now.words image
    HasBatch-commits = has_batch at_end

    pub next_stands : idle_world_of size image ≡ Some next
    next_stands =
        idle_world_of_legal size image (legal image at_end)
        ∙ ap (idle_registry size) HasBatch-commits.settled
        ∙ m.stands HasBatch-commits.before HasBatch-commits.picked

  -- A committed batch moves the world.
  pub Moves-commits : (fault : Option HostFault) (b : State) → Commits DAEMON_LOG es fault a b → Moves size s next es fault a b
  Moves-commits fault b c =
      let whole : fault ≡ None → Commits DAEMON_LOG es None a b = λ none. subst (λ (f : Option HostFault). Commits DAEMON_LOG es f a b) none c in
      record {
        commits = c;
        moments = Leaves-weaker (Silently (IsBatched a.now.words DAEMON_LOG es)) (Silently (IsBetween size s next es a.now.words)) a b (λ bytes image p. (p.0, between image p.1)) c.moments;
        settled = λ none. record {
          stands = λ image picked. next_stands b (whole none) image picked;
          idle = λ v has. ap is_idle_gate ((c.closed none).each v has);
        };
        done = λ none image picked. HasBatch-commits b (whole none) image picked;
      }

-- ---- for the callers

-- If a batch moves a world to the same world, each image left stands for it.
pub stands_still : (size : ℕ) (s : StoredWorld) (es : List Entry) (words : Words) (image : Image) → IsBetween size s s es words image → idle_world_of size image ≡ Some s
stands_still size s es words image b = elim b.stands [ inl before ↦ before.1 | inr after ↦ after.1 ]
