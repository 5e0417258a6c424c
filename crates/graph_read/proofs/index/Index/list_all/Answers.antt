use Rattle.std.proofs.Common.{◌≡◌, ℕ, ◌+◌, ◌-◌, option_map, nat_cmp, slice_index, sym, ap, subst, ◌∙◌, arith}
use Rattle.pud_defs.specs.Formats.Geometry.{places_among}
use Rattle.pud_defs.specs.PoolGraphs.Graph.{under_serial}
use Rattle.pud_defs.specs.RegistryTables.Keyed.{first_from}
use Rattle.pud_defs.proofs.KeyedTables.Keyed.{first_from_end}
use Rattle.puddle_header.specs.Places.{places_in}
use Rattle.graph_read.specs.Index.{kept_under}
use Rattle.graph_read.specs.Indexed.{kept_of}
use Rattle.graph_read.proofs.IndexBuilt.{listed_more, listed_none}
use Rattle.graph_read.proofs.Slots.{from_next_puddle}
use Rattle.graph_read.proofs.index.Index.list_all.Goals as goal

pub loop-ordinal-init : goal.loop-ordinal-init
loop-ordinal-init c = record {
  listed = λ q. c.new-index.ensures q ∙ sym (ap (option_map (kept_of 0)) (first_from_end nat_cmp q (under_serial (slice_index c.args.serials.now) (λ p. p)) (places_in c.args.pool.now) (places_in c.args.pool.now) (omega arith)));
}

pub loop-place-init : goal.loop-place-init
loop-place-init c =
    let f = slice_index c.args.serials.now in
    let n = places_in c.args.pool.now in
    let o = c.loop-ordinal.ordinal in
    let some = c.loop-ordinal-test.true in
    let within = c.loop-ordinal.auto.ordinal in
    let back : o - 1 + 1 ≡ o = omega (arith, some) in
    let first = c.places_among-place-start.ensures in
    let end = c.slots_end-place.ensures.end in
    record {
      low = omega (arith, first, end);
      listed = λ q.
          let listed_from : ℕ → Type 0 = λ k. kept_under c.loop-ordinal.index q ≡ option_map (kept_of 0) (first_from nat_cmp q (under_serial f (λ p. p)) k (n - k)) in
          from_next_puddle listed_from c.args.pool.now (o - 1) c.slots_end-place.result c.slots_end-place.ensures.end
          (λ k below none so_far. listed_none f k n q (kept_under c.loop-ordinal.index q) (omega (arith, below, within, some)) (c.requires.slots.none k none) so_far)
          (subst (λ (i : ℕ). listed_from (places_among i)) (sym back) (c.loop-ordinal.invariant.listed q));
    }

pub loop-place-preserved : goal.loop-place-preserved
loop-place-preserved c = record {
  low = let some = c.loop-place-test.true in omega (arith, some);
  listed = λ q.
      let some = c.loop-place-test.true in
      let last = c.loop-ordinal-test.true in
      let high = c.loop-place.auto.place in
      let within = c.loop-ordinal.auto.ordinal in
      let end = c.slots_end-place.ensures.most in
      listed_more (slice_index c.args.serials.now) c.loop-place.place (places_in c.args.pool.now) q (kept_under c.loop-place.index q) (kept_under c.list.new.self q) (omega (arith, some)) (omega (arith, high, within, end, last)) (c.loop-place.invariant.listed q)
      (c.list.ensures c.if-not-list.false q);
}

pub loop-ordinal-preserved : goal.loop-ordinal-preserved
loop-ordinal-preserved c =
    let f = slice_index c.args.serials.now in
    let n = places_in c.args.pool.now in
    let first = c.places_among-place-start.ensures in
    let low = c.loop-place.invariant.low in
    let done = c.loop-place-test.false in
    let is : c.loop-place.place ≡ places_among (c.loop-ordinal.ordinal - 1) = omega (arith, first, low, done) in
    record { listed = λ q. subst (λ (k : ℕ). kept_under c.loop-place.index q ≡ option_map (kept_of 0) (first_from nat_cmp q (under_serial f (λ p. p)) k (n - k))) is (c.loop-place.invariant.listed q) }
