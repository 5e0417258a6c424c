use Rattle.std.proofs.Common.{◌≡◌, ◌+◌, sym, ap, ◌∙◌, arith}
use Rattle.pud_defs.specs.Formats.Geometry.{class_slots, places_among}
use Rattle.puddle_header.specs.Places.{places_in}
use Rattle.graph_read.specs.Reading.{class_in, table_in, place_in_pool}
use Rattle.graph_read.proofs.Found.{place_from, place_from-start, place_from-here, place_from-other, place_from-end, place_of_serial-zero}
use Rattle.graph_read.proofs.Slots.{slot_here, no_serial, to_next_puddle}
use Rattle.pm_model.proofs.Reading.{OnlyReads-none, OnlyReads-then, still_reads}
use Rattle.graph_read.proofs.places.find_place.Goals as goal

pub returns-then-s-eq0-clause-found : goal.returns-then-s-eq0-clause-found
returns-then-s-eq0-clause-found g c = λ t image same.
    sym (ap (λ s. place_in_pool c.args.frames c.args.pool.now image s) c.if-s-eq0.true ∙ place_of_serial-zero (table_in c.args.frames c.args.pool.now image) (places_in c.args.pool.now))

pub returns-then-branch-s-clause-found : goal.returns-then-branch-s-clause-found
returns-then-branch-s-clause-found g c = λ t image same.
    let table = table_in c.args.frames c.args.pool.now image in
    let before = still_reads c.loop-place.invariant.only_reads t same in
    let here : table.serial c.loop-place.place ≡ c.args.s = sym (c.in_ok-serial_at.ensures.serial t image before) ∙ c.if-branch-s.true in
    sym (c.loop-place.invariant.found t image same ∙ place_from-here table (places_in c.args.pool.now) c.args.s c.loop-place.place (omega arith) (omega arith) here)

pub returns-then-branch-s-clause-slot : goal.returns-then-branch-s-clause-slot
returns-then-branch-s-clause-slot g c =
    let first = c.places_among-place.ensures in
    let end = c.slots_end-place-end.ensures.end in
    let low = c.loop-place.auto.place in
    let high = c.loop-place-test.true in
    slot_here c.args.pool.now c.loop-ordinal.ordinal c.loop-place.place (omega (arith, first, low)) (omega (arith, end, high))

pub loop-ordinal-init : goal.loop-ordinal-init
loop-ordinal-init g c = record {
  only_reads = OnlyReads-none;
  found = λ t image same. place_from-start (table_in c.args.frames c.args.pool.now image) (places_in c.args.pool.now) c.args.s;
}

pub loop-place-init : goal.loop-place-init
loop-place-init g c = record {
  only_reads = c.loop-ordinal.invariant.only_reads;
  found = λ t image same.
      c.loop-ordinal.invariant.found t image same ∙ ap (place_from (table_in c.args.frames c.args.pool.now image) (places_in c.args.pool.now) c.args.s) (sym c.places_among-place.ensures);
}

pub loop-place-preserved : goal.loop-place-preserved
loop-place-preserved g c = record {
  only_reads = OnlyReads-then c.loop-place.invariant.only_reads c.in_ok-serial_at.ensures.only_reads;
  found = λ t image same.
      let table = table_in c.args.frames c.args.pool.now image in
      let before = still_reads c.loop-place.invariant.only_reads t same in
      c.loop-place.invariant.found t image same
      ∙ place_from-other table (places_in c.args.pool.now) c.args.s c.loop-place.place (omega arith) (λ here. c.if-branch-s.false (c.in_ok-serial_at.ensures.serial t image before ∙ here));
}

pub loop-ordinal-preserved : goal.loop-ordinal-preserved
loop-ordinal-preserved g c =
    let first = c.places_among-place.ensures in
    let end = c.slots_end-place-end.ensures.end in
    let stop = c.loop-place.auto.place-end (omega (arith, first, end)) in
    let done = c.loop-place-test.false in
    let is : c.loop-place.place ≡ places_among c.loop-ordinal.ordinal + class_slots (class_in c.args.pool.now c.loop-ordinal.ordinal) = omega (arith, first, end, stop, done) in
    let within = c.loop-ordinal-test.true in
    record {
      only_reads = c.loop-place.invariant.only_reads;
      found = λ t image same.
          let table = table_in c.args.frames c.args.pool.now image in
          let n = places_in c.args.pool.now in
          to_next_puddle (λ k. place_in_pool c.args.frames c.args.pool.now image c.args.s ≡ place_from table n c.args.s k) c.args.pool.now c.loop-ordinal.ordinal c.loop-place.place is
          (λ k below none so_far. so_far ∙ place_from-other table n c.args.s k (omega (arith, below, within)) (λ here. c.if-s-eq0.false (sym here ∙ no_serial c.args.frames c.args.pool.now image k none)))
          (c.loop-place.invariant.found t image same);
    }

pub returns-clause-found : goal.returns-clause-found
returns-clause-found g c = λ t image same.
    sym (c.loop-ordinal.invariant.found t image same ∙ place_from-end (table_in c.args.frames c.args.pool.now image) (places_in c.args.pool.now) c.args.s (places_among c.loop-ordinal.ordinal) (omega arith))
