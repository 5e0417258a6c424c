use Rattle.std.proofs.Common.{◌≡◌, ℕ, ◌-◌, sym, ap, ◌∙◌, subst, arith}
use Rattle.pm_model.specs.Words.{reads}
use Rattle.pm_model.specs.Moments.{State}
use Rattle.pud_defs.specs.Formats.Image.{Image}
use Rattle.pud_defs.specs.RegistryTables.Puddles.{puddle_record_at}
use Rattle.puddle_table.specs.Placed.{Placed}
use Rattle.puddle_table.proofs.Placing.{HoldsFrom, few_used, HoldsFrom-start, HoldsFrom-next, HoldsPlaces-end}
use Rattle.pm_model.proofs.Reading.{OnlyReads-none, OnlyReads-then}
use Rattle.puddle_table.proofs.places.find_places.Goals as goal

pub loop-frame-init : goal.loop-frame-init
loop-frame-init g c =
    let none = c.no_places-found.ensures in
    let used = ap (λ (p : Placed). p.used) none in
    let image = reads (g.H.Host.state c.args.h.now).now.words in
    record {
      count = ap (λ (p : Placed). p.count) none;
      few = omega (arith, used);
      only_reads = OnlyReads-none;
      placed = λ t. subst (HoldsFrom c.args.frames image c.args.frames) (sym none) (HoldsFrom-start c.args.frames image);
    }

pub loop-frame-preserved : goal.loop-frame-preserved
loop-frame-preserved g c =
    let next = c.loop-frame.frame in
    let some = c.loop-frame-test.true in
    record {
      count = c.put.ensures.count ∙ c.loop-frame.invariant.count;
      few = few_used c.args.frames next c.in_ok-member.member c.loop-frame.found c.put.new.self (omega (arith, some)) c.put.ensures c.loop-frame.invariant.few;
      only_reads = OnlyReads-then c.loop-frame.invariant.only_reads c.in_ok-member.ensures.only_reads;
      placed = λ t.
          let image = reads (g.H.Host.state c.args.h.now).now.words in
          let word : c.in_ok-member.member ≡ image (puddle_record_at (next - 1)) =
          c.in_ok-member.ensures.value t ∙ ap (λ (s : State). reads s.now.words c.puddle_record_at.result) (c.loop-frame.invariant.only_reads.stays t) ∙ ap image c.puddle_record_at.ensures in
          HoldsFrom-next c.args.frames image next c.in_ok-member.member c.loop-frame.found c.put.new.self (omega (arith, some)) c.loop-frame.auto.frame word c.put.ensures (c.loop-frame.invariant.placed t);
    }

pub returns-clause-places : goal.returns-clause-places
returns-clause-places g c = λ t image e.
    let last : c.loop-frame.frame ≡ 0 = omega (arith, c.loop-frame-test.false) in
    HoldsPlaces-end c.args.frames image c.loop-frame.found
    (subst (λ (w : Image). HoldsFrom c.args.frames w 0 c.loop-frame.found) e
    (subst (λ (n : ℕ). HoldsFrom c.args.frames (reads (g.H.Host.state c.args.h.now).now.words) n c.loop-frame.found) last (c.loop-frame.invariant.placed t)))
