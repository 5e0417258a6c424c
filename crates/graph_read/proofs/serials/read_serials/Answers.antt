use Rattle.std.proofs.Common.{◌≡◌, ℕ, ◌+◌, length-set, refl, sym, subst, ◌∙◌, arith}
use Rattle.pud_defs.specs.Formats.Geometry.{class_slots, places_among}
use Rattle.pud_defs.specs.PoolGraphs.Stored.{stored_in}
use Rattle.graph_read.specs.declared.serials.TheConstants.{PLACES}
use Rattle.graph_read.specs.Checking.{serials_in}
use Rattle.graph_read.specs.Reading.{class_in}
use Rattle.graph_read.proofs.SerialsRead.{IsReadTo, IsReadTo-start, IsReadTo-more, IsReadTo-none, IsReadTo-end, HasSerialsInSlots-start, HasSerialsInSlots-more, no_serial_after}
use Rattle.graph_read.proofs.Slots.{slot_here, no_serial, to_next_puddle}
use Rattle.pm_model.proofs.Reading.{OnlyReads-none, OnlyReads-then, still_reads}
use Rattle.graph_read.proofs.serials.read_serials.Goals as goal

pub loop-ordinal-init : goal.loop-ordinal-init
loop-ordinal-init g c = record {
  only_reads = OnlyReads-none;
  whole = refl;
  slots = HasSerialsInSlots-start c.args.pool.now PLACES;
  read = λ t image same. IsReadTo-start (serials_in (stored_in c.args.frames c.args.pool.now image)) PLACES;
}

pub loop-place-init : goal.loop-place-init
loop-place-init g c = record {
  only_reads = c.loop-ordinal.invariant.only_reads;
  whole = c.loop-ordinal.invariant.whole;
  slots = c.loop-ordinal.invariant.slots;
  read = λ t image same. subst (λ (n : ℕ). IsReadTo (serials_in (stored_in c.args.frames c.args.pool.now image)) n c.loop-ordinal.serials) (sym c.places_among-place.ensures) (c.loop-ordinal.invariant.read t image same);
}

pub loop-place-preserved : goal.loop-place-preserved
loop-place-preserved g c =
    let first = c.places_among-place.ensures in
    let end = c.slots_end-place-end.ensures.end in
    let low = c.loop-place.auto.place in
    let high = c.loop-place-test.true in
    let slot = slot_here c.args.pool.now c.loop-ordinal.ordinal c.loop-place.place (omega (arith, first, low)) (omega (arith, end, high)) in
    record {
      only_reads = OnlyReads-then c.loop-place.invariant.only_reads c.in_ok-serials.ensures.only_reads;
      whole = length-set c.loop-place.serials c.loop-place.place c.in_ok-serials.field-0 ∙ c.loop-place.invariant.whole;
      slots = HasSerialsInSlots-more c.args.pool.now c.loop-place.serials c.loop-place.place c.in_ok-serials.field-0 slot c.loop-place.invariant.slots;
      read = λ t image same.
          let before = still_reads c.loop-place.invariant.only_reads t same in
          IsReadTo-more (serials_in (stored_in c.args.frames c.args.pool.now image)) c.loop-place.place c.in_ok-serials.field-0 c.loop-place.serials (omega arith)
          (c.in_ok-serials.ensures.serial t image before) (c.loop-place.invariant.read t image same);
    }

pub loop-ordinal-preserved : goal.loop-ordinal-preserved
loop-ordinal-preserved g c =
    let first = c.places_among-place.ensures in
    let end = c.slots_end-place-end.ensures.end in
    let stop = c.loop-place.auto.place-end (omega (arith, first, end)) in
    let done = c.loop-place-test.false in
    let is : c.loop-place.place ≡ places_among c.loop-ordinal.ordinal + class_slots (class_in c.args.pool.now c.loop-ordinal.ordinal) = omega (arith, first, end, stop, done) in
    record {
      only_reads = c.loop-place.invariant.only_reads;
      whole = c.loop-place.invariant.whole;
      slots = c.loop-place.invariant.slots;
      read = λ t image same.
          let serial = serials_in (stored_in c.args.frames c.args.pool.now image) in
          to_next_puddle (λ k. IsReadTo serial k c.loop-place.serials) c.args.pool.now c.loop-ordinal.ordinal c.loop-place.place is
          (λ k below none so_far. IsReadTo-none serial k c.loop-place.serials (no_serial c.args.frames c.args.pool.now image k none) so_far)
          (c.loop-place.invariant.read t image same);
    }

pub returns-clause-serials : goal.returns-clause-serials
returns-clause-serials g c = λ t image same.
    IsReadTo-end (serials_in (stored_in c.args.frames c.args.pool.now image)) (places_among c.loop-ordinal.ordinal) c.loop-ordinal.serials
    (λ k following. no_serial_after c.args.frames c.args.pool.now image k (omega arith))
    (c.loop-ordinal.invariant.read t image same)

pub returns-clause-slots : goal.returns-clause-slots
returns-clause-slots g c = c.loop-ordinal.invariant.slots
