use Rattle.std.proofs.Common.{◌≡◌, ℕ, ◌+◌, ◌-◌, ◌≤◌, ◌++◌, [], ◌∷◌, map, refl, sym, ap, subst, ◌∙◌, arith}
use Rattle.std.specs.Prelude.{slice_index_or}
use Rattle.std.proofs.lemmas.Bool.{and_from, le-leb, lt-ltb}
use Rattle.std.proofs.lemmas.Option.{slice_get-get_or, get_or_from_slice_get}
use Rattle.pm_model.proofs.Reading.{OnlyReads-then, still_reads}
use Rattle.pud_defs.specs.declared.space.TheConstants.{FRAME_HEADER_WORDS}
use Rattle.pud_defs.specs.declared.records.Puddle.{Puddle}
use Rattle.pud_defs.specs.Formats.Geometry.{class_slot_at, class_slot_words}
use Rattle.pud_defs.specs.Formats.Frames.{frame_at}
use Rattle.pud_defs.specs.RegistryTables.Puddles.{frontier_word, frontier_with_class}
use Rattle.pud_defs.specs.RegistryTables.Types.{types_of}
use Rattle.pud_defs.specs.PoolGraphs.Stored.{stored_in}
use Rattle.graph_read.proofs.Pointed.{no_puddle}
use Rattle.graph_laws.specs.Steps.{slot_pointer}
use Rattle.batch.specs.Batches.{batch_entry, word_count_of}
use Rattle.lazy_rewrite.specs.Entries.{words_batch, IsToRewrite, rewritten_words}
use Rattle.lazy_rewrite.proofs.Gathered.{HasGathered, HasGathered-start, HasGathered-more, HasGathered-room, HasGathered-end, before_slot, first_below}
use Rattle.lazy_rewrite.proofs.batches.gather.Goals as goal

pub loop-slot-init : goal.loop-slot-init
loop-slot-init g c = record {
  only_reads = c.in_ok-add_header.ensures.only_reads;
  from = omega (arith, c.first_slot-slot.ensures);
  gathered = λ t image same h few e here.
      let F = c.args.frames in
      let header = words_batch (frame_at F e.0) (rewritten_words F c.args.pool.now image e.1.class c.args.ordinal c.args.from c.args.to) 0 FRAME_HEADER_WORDS in
      let added = c.in_ok-add_header.ensures.added t image same h (omega (arith, ap word_count_of c.new-batch.ensures)) e here c.args.to c.requires.some ∙ ap (λ es. es ++ header) c.new-batch.ensures in
      subst (λ (slot : ℕ). HasGathered F c.args.pool.now image c.args.ordinal c.args.from c.args.to slot e c.add_header.new.batch) (sym c.first_slot-slot.ensures)
      (HasGathered-start F c.args.pool.now image c.args.ordinal c.args.from c.args.to e c.add_header.new.batch added);
}

pub add_slot-requires-clause-within : goal.add_slot-requires-clause-within
add_slot-requires-clause-within g c =
    let below = c.loop-slot-test.true in
    let last = c.requires.last (slice_index_or c.args.pool.now c.args.ordinal no_puddle) (slice_get-get_or c.args.pool.now c.args.ordinal no_puddle c.requires.within) in
    record {
      puddle = (slice_index_or c.args.pool.now c.args.ordinal no_puddle).1;
      there = slice_get-get_or c.args.pool.now c.args.ordinal no_puddle c.requires.within;
      alike = refl;
      below = omega arith;
    }

pub loop-slot-preserved : goal.loop-slot-preserved
loop-slot-preserved g c = record {
  only_reads = OnlyReads-then c.loop-slot.invariant.only_reads c.in_ok-add_slot.ensures.only_reads;
  from = omega (arith, c.loop-slot.invariant.from);
  gathered = λ t image same h few e here.
      let F = c.args.frames in
      let pool = c.args.pool.now in
      let o = c.args.ordinal in
      let n = c.args.from in
      let m = c.args.to in
      let slot = c.loop-slot.slot in
      let first = c.loop-slot.invariant.from in
      let before = still_reads c.loop-slot.invariant.only_reads t same in
      let was = c.loop-slot.invariant.gathered t image same h few e here in
      let step : n ≤ slot + 1 = before_slot n slot first in
      let to_rewrite : IsToRewrite pool o (slot + 1) = record { bases = h.bases; old = λ d there. let low = h.old d there in omega arith } in
      let room = HasGathered-room F pool image o n m e slot c.loop-slot.batch few (omega arith) was in
      let same_puddle = get_or_from_slice_get pool o e no_puddle here in
      let words = λ (d : ℕ × Puddle). slot_pointer (types_of image) (map (λ x. x.1) pool) d.1.class ((stored_in F pool image).word o) slot in
      HasGathered-more F pool image o n m e slot c.loop-slot.batch c.add_slot.new.batch first (and_from _ _ (le-leb n (slot + 1) step) (lt-ltb (slot + 1) m (omega arith))) was
      (c.in_ok-add_slot.ensures.added t image before to_rewrite room ∙ ap (λ d. c.loop-slot.batch ++ words_batch (frame_at F d.0 + class_slot_at d.1.class slot) (words d) 0 (class_slot_words d.1.class)) same_puddle);
}

pub returns-clause-batch : goal.returns-clause-batch
returns-clause-batch g c = λ t image same h few e here.
    let pool = c.args.pool.now in
    let o = c.args.ordinal in
    let most : c.first_slot-slot.result ≤ c.args.to - 1 = omega (arith, c.first_slot-slot.ensures, first_below c.args.from c.args.to c.requires.some) in
    let all : c.loop-slot.slot ≡ c.args.to - 1 = omega (arith, most) in
    let same_puddle = get_or_from_slice_get pool o e no_puddle here in
    HasGathered-end c.args.frames pool image o c.args.from c.args.to e c.loop-slot.batch c.add_word.new.batch few
    (subst (λ (slot : ℕ). HasGathered c.args.frames pool image o c.args.from c.args.to slot e c.loop-slot.batch) all (c.loop-slot.invariant.gathered t image same h few e here))
    (λ room. (rw (c.puddle_record_at.ensures, c.frontier_with_class.ensures.word) at c.add_word.ensures) room ∙ (λ i. c.loop-slot.batch ++ batch_entry (frontier_word (same_puddle i).0) (frontier_with_class c.args.to (same_puddle i).1.class ∷ []) ∷ []))
