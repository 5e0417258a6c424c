use Rattle.std.proofs.Common.{rules, arith}
use Rattle.pm_file.proofs.Told.{Consumes-none, Consumes-more, take-read, take-read_none}
use Rattle.pm_file.proofs.reading.fill.Goals as goal

pub loop-filled-init : goal.loop-filled-init
loop-filled-init g c = record { within = omega arith; taken = Consumes-none _ }

pub returns-then-count-eq0 : goal.returns-then-count-eq0
returns-then-count-eq0 g c =
    let read = c.in_ok-count.ensures in
    let within = c.loop-filled.invariant.within in
    record {
      within = search rules;
      taken =
          rw (take-read_none _ _ _ _ _ within read.within c.if-count-eq0.true c.clear_from.ensures.before)
          (Consumes-more _ _ _ _ _ c.loop-filled.invariant.taken read.bytes.0);
      ended = λ _. read.bytes.1 c.if-count-eq0.true (search rules);
      zeroes = c.clear_from.ensures.zeroes;
    }

pub loop-filled-preserved : goal.loop-filled-preserved
loop-filled-preserved g c = record {
  within = search rules;
  taken =
      rw (take-read _ _ _ _ c.loop-filled.invariant.within c.in_ok-count.ensures.within)
      (Consumes-more _ _ _ _ _ c.loop-filled.invariant.taken c.in_ok-count.ensures.bytes.0);
}
