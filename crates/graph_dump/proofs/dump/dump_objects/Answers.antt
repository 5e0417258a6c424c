use Rattle.std.proofs.Common.{◌≡◌, ◌++◌, ◌∷◌, map, ap, rules}
use Rattle.std.proofs.lemmas.List.Elements.{All-tail}
use Rattle.std.proofs.lemmas.Map.Iter.{rest_more}
use Rattle.std.specs.Map.{values_of}
use Rattle.std.specs.Map.Iter.{deref_pair}
use Rattle.pud_defs.specs.Output.DumpText.{joined}
use Rattle.graph_dump.specs.Read.{entry_text, IsSlotPlace}
use Rattle.graph_dump.proofs.Joining.{joined_from-more}
use Rattle.graph_dump.proofs.Written.{HasAppended-more, HasAppended-end}
use Rattle.pm_model.proofs.Reading.{still_reads}
use Rattle.graph_dump.proofs.dump.dump_objects.Goals as goal

pub loop-serial-preserved : goal.loop-serial-preserved
loop-serial-preserved g c =
    let left : c.loop-serial.serial-iterator ≡ (c.in-Some.serial.now, c.in-Some.place.now) ∷ c.next.new.self = rest_more deref_pair _ _ _ (c.in-Some.serial, c.in-Some.place) c.in-Some.is c.next.ensures.steps in
    record {
      text = λ t image same.
          let before = still_reads c.loop-serial.invariant.only_reads t same in
          let what = entry_text c.args.frames c.args.pool.now image in
          joined_from-more c.loop-serial.is_first c.loop-serial.text.items c.dump_object.new.text.items (what (c.in-Some.serial.now, c.in-Some.place.now)) (map what c.loop-serial.serial-iterator) (map what c.next.new.self)
          (c.args.text.now.items ++ joined (map what c.args.places.now.entries)) (c.in_ok-dump_object.ensures.text t image before) (ap (map what) left) (c.loop-serial.invariant.text t image same);
      some = HasAppended-more c.loop-serial.is_first c.args.text.now.items c.loop-serial.text.items c.dump_object.new.text.items c.loop-serial.invariant.some c.in_ok-dump_object.ensures.some;
      within = All-tail (IsSlotPlace c.args.pool.now) c.in-Some.place.now (values_of c.next.new.self) (rw left at c.loop-serial.invariant.within);
      only_reads = search rules;
    }

pub returns-clause-some : goal.returns-clause-some
returns-clause-some g c = HasAppended-end c.loop-serial.is_first c.args.text.now.items c.loop-serial.text.items c.loop-serial.invariant.some
