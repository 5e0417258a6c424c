use Rattle.std.proofs.Common.{None, ◌≡◌, ◌<◌, IfSome}
use Rattle.pm_model.specs.Words.{reads}
use Rattle.pud_defs.specs.declared.layout.TheConstants.{TYPE_RECORDS}
use Rattle.type_maps.specs.Define.{lookup_of}
use Rattle.type_maps.proofs.Lookups.{place_from}
use Rattle.pm_model.specs.Reads.{OnlyReads}
use Rattle.type_maps.proofs.look_up.Given as goal

abbrev pub invariant-loop-record : goal.invariant-loop-record
invariant-loop-record g l = record {
  within : IfSome l.free (λ r. r < TYPE_RECORDS);
  only_reads : OnlyReads g.H.Loads.tells g.H.Loads.state g.H.Loads.counts None l.initial.h l.h;
  place : g.H.Loads.tells → lookup_of (reads (g.H.Loads.state l.initial.h).now.words) l.id ≡ place_from (reads (g.H.Loads.state l.initial.h).now.words) l.id l.free l.record;
}
