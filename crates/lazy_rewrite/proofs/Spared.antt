-- What batches of steps do not change: where objects stand, the next serial, and the puddles except for their
-- frontiers.
use Rattle.std.proofs.Common.{◌≡◌, inl, inr, ℕ, zero, suc, ◌+◌, ◌<◌, ◌≤◌, List, length, ltb, cond, Option, Some, None, option_map, nat_cmp, refl, sym, ap, ap₂, ◌∙◌, subst, arith}
use Rattle.std.specs.Prelude.{slice_get, slice_index_or}
use Rattle.std.proofs.lemmas.Bool.{cases_eq}
use Rattle.std.proofs.lemmas.List.{length-set, length-map}
use Rattle.std.proofs.lemmas.Option.{same_Some, slice_get-map, slice_get-get_or, slice_get_within}
use Rattle.pm_model.specs.Words.{reads}
use Rattle.pm_model.specs.Moments.{State}
use Rattle.pud_defs.specs.declared.space.TheConstants.{SLOT_SERIAL_WORD, NEXT_SERIAL_WORD}
use Rattle.pud_defs.specs.declared.records.Puddle.{Puddle}
use Rattle.pud_defs.specs.Formats.Geometry.{class_slots, class_slot_at, ordinal_of, slot_of}
use Rattle.pud_defs.specs.Formats.Image.{Image}
use Rattle.pud_defs.specs.Formats.Frames.{frame_at}
use Rattle.pud_defs.specs.RegistryTables.Puddles.{moved_to}
use Rattle.pud_defs.specs.Logging.Replay.{overwritten}
use Rattle.pud_defs.specs.RegistryTables.Types.{types_of}
use Rattle.pud_defs.specs.RegistryTables.Keyed.{first_from, under}
use Rattle.pud_defs.specs.PoolGraphs.Stored.{Stored, stored_in, class_of, class_at, slot_state, place_serial}
use Rattle.pud_defs.specs.PoolGraphs.Graph.{under_serial, next_serial_of}
use Rattle.pud_defs.proofs.KeyedTables.Keyed.{first_from_same}
use Rattle.puddle_header.specs.Places.{places_in}
use Rattle.graph_laws.specs.Reads.{HasDistinctFrames}
use Rattle.graph_laws.specs.Rewriting.{advanced}
use Rattle.graph_laws.specs.Steps.{with_passed, with_steps}
use Rattle.graph_laws.proofs.RewritingSteps.Rewritten.{slice_get-set_there, slice_get-set_other}
use Rattle.graph_laws.proofs.RewritingSteps.PassedWords.{RewritesSteps-passed}
use Rattle.graph_laws.proofs.SameReads.StoredImages.{stored_in-same}
use Rattle.graph_laws.proofs.RewritingSteps.StepsStored.{stored_in-steps}
use Rattle.graph_read.specs.Reading.{place_in_pool}
use Rattle.graph_read.proofs.Pointed.{no_puddle}
use Rattle.batch.specs.Batches.{batch_write}
use Rattle.lazy_rewrite.specs.Batches.{AreNextSteps, CommitsSteps, RewritesOnce, RewritesInTurn, Rewrites}
use Rattle.lazy_rewrite.proofs.Kept.{read_after}
use Rattle.lazy_rewrite.proofs.Turns.{ComesFrom, turns_come}

-- ---- the puddles

-- The puddle of the ordinal is the same, except for a frontier that is not lower.
pub record HasMoved (later : List (ℕ × Puddle)) (o : ℕ) (e : ℕ × Puddle) : Type 0 where
  pub frontier : ℕ
  pub there : slice_get later o ≡ Some (e.0, moved_to frontier e.1)
  pub no_lower : e.1.frontier ≤ frontier

-- There are as many puddles, and each is the same except for its frontier.
pub record HaveMoved (at later : List (ℕ × Puddle)) : Type 0 where
  pub count : length later ≡ length at
  pub each : (o : ℕ) (e : ℕ × Puddle) → slice_get at o ≡ Some e → HasMoved later o e

pub HaveMoved-same : (at : List (ℕ × Puddle)) → HaveMoved at at
HaveMoved-same at = record { count = refl; each = λ o e there. record { frontier = e.1.frontier; there = there; no_lower = omega arith } }

pub HaveMoved-then : (a b c : List (ℕ × Puddle)) → HaveMoved a b → HaveMoved b c → HaveMoved a c
HaveMoved-then a b c first later = record {
  count = later.count ∙ first.count;
  each = λ o e there.
      let m = first.each o e there in
      let n = later.each o (e.0, moved_to m.frontier e.1) m.there in
      record { frontier = n.frontier; there = n.there; no_lower = omega (arith, m.no_lower, n.no_lower) };
}

pub HaveMoved-steps : (at : List (ℕ × Puddle)) (goal : ℕ → ℕ) (o m : ℕ) (e : ℕ × Puddle) → AreNextSteps at goal o m e → HaveMoved at (with_steps o m e at)
HaveMoved-steps at goal o m e next = record {
  count = length-set at o (e.0, moved_to m e.1);
  each = λ i d there. elim (cases_eq i o) [
    | inl same ↦
        let is : d ≡ e = same_Some d e (sym there ∙ ap (slice_get at) same ∙ next.here) in
        record {
          frontier = m;
          there = ap (slice_get (with_steps o m e at)) same ∙ slice_get-set_there at o (e.0, moved_to m e.1) (slice_get_within at o e next.here) ∙ ap (λ (x : ℕ × Puddle). Some (x.0, moved_to m x.1)) (sym is);
          no_lower = omega (arith, next.some, ap (λ (x : ℕ × Puddle). x.1.frontier) is);
        }
    | inr other ↦ record { frontier = d.1.frontier; there = slice_get-set_other at o i (e.0, moved_to m e.1) other ∙ there; no_lower = omega arith }
  ];
}

-- So each place lies in a puddle of the same class.
pub class_moved : (F : ℕ) (at later : List (ℕ × Puddle)) (i j : Image) → HaveMoved at later → (p : ℕ) → p < places_in at → class_at (stored_in F later j) p ≡ class_at (stored_in F at i) p
class_moved F at later i j moved p below =
    let o = ordinal_of p in
    let puddle = λ (d : ℕ × Puddle). d.1 in
    let e = slice_index_or at o no_puddle in
    let here = slice_get-get_or at o no_puddle (omega arith) in
    let there = (moved.each o e here).there in
    ap class_of (slice_get-map puddle later o ∙ ap (option_map puddle) there) ∙ sym (ap class_of (slice_get-map puddle at o ∙ ap (option_map puddle) here))

-- The frames of the puddles are distinct, and each is a frame of the device.
pub record AreFrames (F : ℕ) (at : List (ℕ × Puddle)) : Type 0 where
  pub distinct : HasDistinctFrames at
  pub below : (o : ℕ) (e : ℕ × Puddle) → slice_get at o ≡ Some e → e.0 < F

pub AreFrames-from : (F : ℕ) (at later : List (ℕ × Puddle)) → ComesFrom at later → AreFrames F at → AreFrames F later
AreFrames-from F at later comes frames = record {
  distinct = record {
    each = λ i j d x first second same.
        let a = comes.each i d first in
        let b = comes.each j x second in
        frames.distinct.each i j a.puddle b.puddle a.here b.here (a.frame ∙ same ∙ sym b.frame);
  };
  below = λ o e there. let a = comes.each o e there in let low = frames.below o a.puddle a.here in subst (λ (frame : ℕ). frame < F) a.frame low;
}

-- ---- where objects stand

-- The slots have the serials that they had, and the header has the next serial that it had. The puddles are the same,
-- except for their frontiers.
pub record SparesObjects (F : ℕ) (at later : List (ℕ × Puddle)) (i j : Image) : Type 0 where
  pub serials : (p : ℕ) → p < places_in at → place_serial (stored_in F later j) p ≡ place_serial (stored_in F at i) p
  pub next : next_serial_of (stored_in F later j) ≡ next_serial_of (stored_in F at i)
  pub moved : HaveMoved at later

pub SparesObjects-same : (F : ℕ) (at : List (ℕ × Puddle)) (i : Image) → SparesObjects F at at i i
SparesObjects-same F at i = record { serials = λ p below. refl; next = refl; moved = HaveMoved-same at }

pub SparesObjects-then : (F : ℕ) (a b c : List (ℕ × Puddle)) (i j k : Image) → SparesObjects F a b i j → SparesObjects F b c j k → SparesObjects F a c i k
SparesObjects-then F a b c i j k first later =
    let same = first.moved.count in
    record {
      serials = λ p below. later.serials p (omega (arith, below, same)) ∙ first.serials p below;
      next = later.next ∙ first.next;
      moved = HaveMoved-then a b c first.moved later.moved;
    }

-- Then an object stands where it stood.
pub place_in_pool-spared : (F : ℕ) (at later : List (ℕ × Puddle)) (i j : Image) → SparesObjects F at later i j → (s : ℕ) → place_in_pool F later j s ≡ place_in_pool F at i s
place_in_pool-spared F at later i j spares s =
    let before = λ (p : ℕ). place_serial (stored_in F at i) p in
    let following = λ (p : ℕ). place_serial (stored_in F later j) p in
    let same = spares.moved.count in
    let all : places_in later ≡ places_in at = omega (arith, same) in
    ap (λ (n : ℕ). first_from nat_cmp s (under_serial following (λ (p : ℕ). p)) 0 n) all
    ∙ first_from_same nat_cmp s (under_serial following (λ (p : ℕ). p)) (under_serial before (λ (p : ℕ). p)) 0 (places_in at)
    (λ p low high. ap (λ (x : ℕ). under nat_cmp s (cond (slot_state x).is_live (Some (x, p)) None)) (spares.serials p (omega arith)))

-- ---- one batch

module _ (F : ℕ) (at : List (ℕ × Puddle)) (goal : ℕ → ℕ) (o m : ℕ) (e : ℕ × Puddle) (old new : State) (next : AreNextSteps at goal o m e) (c : CommitsSteps F at o m e None old new) (frames : AreFrames F at) where
  abbrev image : Image
  image = reads old.now.words

  abbrev st : Stored
  st = stored_in F at image

  abbrev with_them : List (ℕ × Puddle)
  with_them = with_steps o m e at

  abbrev passed : ℕ → ℕ → ℕ
  passed = with_passed (types_of image) st o e.1.frontier m

  -- What is stored after the batch.
  pub stored_moved : stored_in F with_them (reads new.now.words) ≡ advanced o m passed st
  stored_moved =
      stored_in-same F with_them (overwritten (batch_write c.es) image) (reads new.now.words) (record { each = λ i k d there low. read_after F at goal o m e old new next c (frame_at F d.0 + k) (inr (omega arith)) })
      ∙ ap (λ (w : ℕ → Option ℕ). stored_in F with_them (overwritten w image)) c.write
      ∙ stored_in-steps F (types_of image) at image o m e frames.distinct next.here (frames.below o e next.here)

  pub batch_spares : SparesObjects F at with_them image (reads new.now.words)
  batch_spares =
      let laws = RewritesSteps-passed (types_of image) st o e.1.frontier m in
      record {
        serials = λ p below.
            ap₂ (λ (c : ℕ) (word : ℕ → ℕ → ℕ). cond (ltb (slot_of p) (class_slots c)) (word (ordinal_of p) (class_slot_at c (slot_of p) + SLOT_SERIAL_WORD)) 0) (class_moved F at with_them image (reads new.now.words) (HaveMoved-steps at goal o m e next) p below) (ap (λ (s : Stored). s.word) stored_moved)
            ∙ laws.serials p (omega (arith, below, length-map at (λ (d : ℕ × Puddle). d.1)));
        next = ap (λ (s : Stored). next_serial_of s) stored_moved ∙ laws.headers 0 NEXT_SERIAL_WORD (omega arith) (λ first root. omega arith);
        moved = HaveMoved-steps at goal o m e next;
      }

-- ---- batches in turn

module _ (F : ℕ) (goal : ℕ → ℕ) where
  once_spares : (at later : List (ℕ × Puddle)) (old new : State) → RewritesOnce F goal at later None old new → AreFrames F at → SparesObjects F at later (reads old.now.words) (reads new.now.words)
  once_spares at later old new one frames = elim one.does [
    | inl still ↦ absurd (still.1.0 refl)
    | inr c ↦
        subst (λ (ds : List (ℕ × Puddle)). SparesObjects F at ds (reads old.now.words) (reads new.now.words)) (sym one.pool)
        (batch_spares F at goal one.ordinal one.to one.puddle old new one.next c frames)
  ]

  turns_spare : (batches : ℕ) (at later : List (ℕ × Puddle)) (old new : State) → RewritesInTurn F goal batches at later None old new → AreFrames F at → SparesObjects F at later (reads old.now.words) (reads new.now.words)
  turns_spare zero at later old new turns frames =
      subst (λ (ds : List (ℕ × Puddle)). SparesObjects F at ds (reads old.now.words) (reads new.now.words)) (sym turns.0)
      (subst (λ (s : State). SparesObjects F at at (reads old.now.words) (reads s.now.words)) (sym turns.1.1) (SparesObjects-same F at (reads old.now.words)))
  turns_spare (suc batches) at later old new turns frames =
      let mid = turns.0 in
      let between = turns.1.0 in
      let front = turns.1.1.0 in
      SparesObjects-then F at between later (reads old.now.words) (reads mid.now.words) (reads new.now.words) (turns_spare batches at between old mid front frames)
      (once_spares between later mid new turns.1.1.1 (AreFrames-from F at between (turns_come F goal batches at between None old mid front) frames))

  -- After all batches objects stand where they stood.
  pub Rewrites-spare : (at later : List (ℕ × Puddle)) (old new : State) → Rewrites F goal at later None old new → AreFrames F at → SparesObjects F at later (reads old.now.words) (reads new.now.words)
  Rewrites-spare at later old new r frames = turns_spare r.batches at later old new r.in_turn frames
