use Rattle.std.proofs.Common.{◌≡◌, None, get_or, take}
use Rattle.pm_model.specs.Calls.{Says}
use Rattle.pool_list.specs.Listed.{records_text}
use Rattle.pool_list.proofs.say_each.Given as goal

abbrev pub invariant-loop-slot : goal.invariant-loop-slot
invariant-loop-slot g l = record {
  counts : g.H.Host.counts l.h ≡ g.H.Host.counts l.initial.h;
  says : g.H.Host.tells → Says (records_text l.id (λ slot. get_or l.counts slot 0) (take l.slot-index l.records)) None (g.H.Host.state l.initial.h) (g.H.Host.state l.h);
}
