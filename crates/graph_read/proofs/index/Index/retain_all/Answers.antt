use Rattle.std.proofs.Common.{◌≡◌, ℕ, ◌+◌, ◌*◌, slice_index, refl, sym, subst, arith}
use Rattle.pm_model.proofs.Reading.{OnlyReads-none, OnlyReads-then, still_reads}
use Rattle.pud_defs.specs.declared.layout.TheConstants.{MAX_FIELDS}
use Rattle.pud_defs.specs.Formats.Geometry.{class_slots, places_among}
use Rattle.graph_read.specs.Checking.{with_serials}
use Rattle.graph_read.specs.Indexed.{Gains, HasAtMost, place_names, places_name}
use Rattle.graph_read.specs.Reading.{class_in, table_in}
use Rattle.graph_read.proofs.IndexBuilt.{Gains-none, Gains-then, Gains-same, HasAtMost-more, places_name-more, places_name-free}
use Rattle.graph_read.proofs.Slots.{slot_here, to_next_puddle}
use Rattle.graph_read.proofs.index.Index.retain_all.Goals as goal

pub loop-ordinal-init : goal.loop-ordinal-init
loop-ordinal-init g c = record {
  only_reads = OnlyReads-none;
  most = c.requires.most;
  held = λ t image same. Gains-none _ _ (λ q. refl);
}

pub loop-place-init : goal.loop-place-init
loop-place-init g c =
    let first = c.places_among-place.ensures in
    record {
      only_reads = c.loop-ordinal.invariant.only_reads;
      most = subst (λ (n : ℕ). HasAtMost (MAX_FIELDS * n) c.loop-ordinal.self) (sym first) c.loop-ordinal.invariant.most;
      held = λ t image same.
          let table = with_serials (slice_index c.args.serials.now) (table_in c.args.frames c.args.pool.now image) in
          subst (λ (n : ℕ). Gains (places_name table n) c.args.self.now c.loop-ordinal.self) (sym first) (c.loop-ordinal.invariant.held t image same);
    }

pub retain_place-requires-clause-slot : goal.retain_place-requires-clause-slot
retain_place-requires-clause-slot g c =
    let first = c.places_among-place.ensures in
    let end = c.slots_end-place-end.ensures.end in
    let low = c.loop-place.auto.place in
    let high = c.loop-place-test.true in
    slot_here c.args.pool.now c.loop-ordinal.ordinal c.loop-place.place (omega (arith, first, low)) (omega (arith, end, high))

pub loop-place-preserved : goal.loop-place-preserved
loop-place-preserved g c = record {
  only_reads = OnlyReads-then c.loop-place.invariant.only_reads c.in_ok-retain_place.ensures.only_reads;
  most = c.in_ok-retain_place.ensures.most;
  held = λ t image same.
      let table = with_serials (slice_index c.args.serials.now) (table_in c.args.frames c.args.pool.now image) in
      let place = c.loop-place.place in
      let before = still_reads c.loop-place.invariant.only_reads t same in
      Gains-then (places_name table place) (place_names table place) (places_name table (place + 1)) c.args.self.now c.loop-place.self c.retain_place.new.self (c.loop-place.invariant.held t image same)
      (c.in_ok-retain_place.ensures.holds t image before) (λ q. places_name-more table place q);
}

pub loop-ordinal-preserved : goal.loop-ordinal-preserved
loop-ordinal-preserved g c =
    let first = c.places_among-place.ensures in
    let end = c.slots_end-place-end.ensures.end in
    let stop = c.loop-place.auto.place-end (omega (arith, first, end)) in
    let done = c.loop-place-test.false in
    let is : c.loop-place.place ≡ places_among c.loop-ordinal.ordinal + class_slots (class_in c.args.pool.now c.loop-ordinal.ordinal) = omega (arith, first, end, stop, done) in
    record {
      only_reads = c.loop-place.invariant.only_reads;
      most = to_next_puddle (λ k. HasAtMost (MAX_FIELDS * k) c.loop-place.self) c.args.pool.now c.loop-ordinal.ordinal c.loop-place.place is
          (λ k below none few. HasAtMost-more (MAX_FIELDS * k) (MAX_FIELDS * (k + 1)) c.loop-place.self (omega arith) few)
          c.loop-place.invariant.most;
      held = λ t image same.
          let table = with_serials (slice_index c.args.serials.now) (table_in c.args.frames c.args.pool.now image) in
          to_next_puddle (λ k. Gains (places_name table k) c.args.self.now c.loop-place.self) c.args.pool.now c.loop-ordinal.ordinal c.loop-place.place is
          (λ k below none so_far. Gains-same (places_name table k) (places_name table (k + 1)) c.args.self.now c.loop-place.self (λ q. places_name-free table k q (c.requires.slots.none k none)) so_far)
          (c.loop-place.invariant.held t image same);
    }
