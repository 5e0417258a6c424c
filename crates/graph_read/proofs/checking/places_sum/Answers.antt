use Rattle.std.proofs.Common.{◌≡◌, ℕ, ◌+◌, ◌%◌, ◌^◌, true, refl, slice_index, sym, ap, ◌∙◌, arith}
use Rattle.pud_defs.specs.Formats.Geometry.{class_slots, places_among}
use Rattle.pud_defs.specs.RegistryTables.Spaces.{all_below}
use Rattle.pud_defs.proofs.RegistryTables.Spaces.{all_below-more, all_below-none}
use Rattle.puddle_header.specs.Places.{places_in}
use Rattle.graph_read.specs.Checking.{place_passes, with_serials}
use Rattle.graph_read.specs.Numbers.{numbers_below}
use Rattle.graph_read.specs.Reading.{class_in, table_in}
use Rattle.graph_read.proofs.Numbers.{numbers_below-more, numbers_below-free, place_summed, places_sum-all, places_sum-refused}
use Rattle.graph_read.proofs.Passing.{place_passes-free}
use Rattle.graph_read.proofs.Slots.{slot_here, to_next_puddle}
use Rattle.pm_model.proofs.Reading.{OnlyReads-none, OnlyReads-then, still_reads}
use Rattle.graph_read.proofs.checking.places_sum.Goals as goal

pub loop-ordinal-init : goal.loop-ordinal-init
loop-ordinal-init g c = record {
  only_reads = OnlyReads-none;
  passed = λ t image same. all_below-none _;
  summed = λ t image same. refl;
}

pub loop-place-init : goal.loop-place-init
loop-place-init g c = record {
  only_reads = c.loop-ordinal.invariant.only_reads;
  passed = λ t image same.
      let table = with_serials (slice_index c.args.serials.now) (table_in c.args.frames c.args.pool.now image) in
      ap (λ n. all_below n (place_passes c.args.check table)) c.places_among-place.ensures ∙ c.loop-ordinal.invariant.passed t image same;
  summed = λ t image same.
      let table = with_serials (slice_index c.args.serials.now) (table_in c.args.frames c.args.pool.now image) in
      c.loop-ordinal.invariant.summed t image same ∙ ap (λ (n : ℕ). numbers_below table n % 2 ^ 64) (sym c.places_among-place.ensures);
}

pub place_sum-requires-clause-slot : goal.place_sum-requires-clause-slot
place_sum-requires-clause-slot g c =
    let first = c.places_among-place.ensures in
    let end = c.slots_end-place-end.ensures.end in
    let low = c.loop-place.auto.place in
    let high = c.loop-place-test.true in
    slot_here c.args.pool.now c.loop-ordinal.ordinal c.loop-place.place (omega (arith, first, low)) (omega (arith, end, high))

pub returns-in_default-clause-sum : goal.returns-in_default-clause-sum
returns-in_default-clause-sum g c = λ t image same.
    let table = with_serials (slice_index c.args.serials.now) (table_in c.args.frames c.args.pool.now image) in
    let before = still_reads c.loop-place.invariant.only_reads t same in
    places_sum-refused c.args.check table (places_in c.args.pool.now) c.loop-place.place _ (omega arith) (c.in_ok-numbers.ensures.sum t image before) c.in_default.is

pub loop-place-preserved : goal.loop-place-preserved
loop-place-preserved g c = record {
  only_reads = OnlyReads-then c.loop-place.invariant.only_reads c.in_ok-numbers.ensures.only_reads;
  passed = λ t image same.
      let table = with_serials (slice_index c.args.serials.now) (table_in c.args.frames c.args.pool.now image) in
      let before = still_reads c.loop-place.invariant.only_reads t same in
      let here = place_summed c.args.check table c.loop-place.place c.in-Some.numbers _ (c.in_ok-numbers.ensures.sum t image before) c.in-Some.is in
      all_below-more c.loop-place.place (place_passes c.args.check table) (c.loop-place.invariant.passed t image same) here.0;
  summed = λ t image same.
      let table = with_serials (slice_index c.args.serials.now) (table_in c.args.frames c.args.pool.now image) in
      let before = still_reads c.loop-place.invariant.only_reads t same in
      let here = place_summed c.args.check table c.loop-place.place c.in-Some.numbers _ (c.in_ok-numbers.ensures.sum t image before) c.in-Some.is in
      numbers_below-more table c.loop-place.place c.loop-place.sum c.in-Some.numbers (c.loop-place.invariant.summed t image same) (sym here.1);
}

pub loop-ordinal-preserved : goal.loop-ordinal-preserved
loop-ordinal-preserved g c =
    let first = c.places_among-place.ensures in
    let end = c.slots_end-place-end.ensures.end in
    let stop = c.loop-place.auto.place-end (omega (arith, first, end)) in
    let done = c.loop-place-test.false in
    let is : c.loop-place.place ≡ places_among c.loop-ordinal.ordinal + class_slots (class_in c.args.pool.now c.loop-ordinal.ordinal) = omega (arith, first, end, stop, done) in
    record {
      only_reads = c.loop-place.invariant.only_reads;
      passed = λ t image same.
          let table = with_serials (slice_index c.args.serials.now) (table_in c.args.frames c.args.pool.now image) in
          to_next_puddle (λ k. all_below k (place_passes c.args.check table) ≡ true) c.args.pool.now c.loop-ordinal.ordinal c.loop-place.place is
          (λ k below none so_far. all_below-more k (place_passes c.args.check table) so_far (place_passes-free c.args.check table k (c.requires.slots.none k none)))
          (c.loop-place.invariant.passed t image same);
      summed = λ t image same.
          let table = with_serials (slice_index c.args.serials.now) (table_in c.args.frames c.args.pool.now image) in
          to_next_puddle (λ k. c.loop-place.sum ≡ numbers_below table k % 2 ^ 64) c.args.pool.now c.loop-ordinal.ordinal c.loop-place.place is
          (λ k below none so_far. so_far ∙ ap (λ (n : ℕ). n % 2 ^ 64) (sym (numbers_below-free table k (c.requires.slots.none k none))))
          (c.loop-place.invariant.summed t image same);
    }

pub returns-clause-sum : goal.returns-clause-sum
returns-clause-sum g c = λ t image same.
    let table = with_serials (slice_index c.args.serials.now) (table_in c.args.frames c.args.pool.now image) in
    places_sum-all c.args.check table (places_in c.args.pool.now) (places_among c.loop-ordinal.ordinal) c.loop-ordinal.sum (omega arith) (c.loop-ordinal.invariant.passed t image same) (c.loop-ordinal.invariant.summed t image same)
