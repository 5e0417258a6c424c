use Rattle.std.proofs.Common.{◌<◌, length, map, ap, sym, ◌∙◌, arith, ℕ}
use Rattle.pud_defs.specs.declared.space.TheConstants.{NEXT_SERIAL_WORD, ROOT_WORD}
use Rattle.pud_defs.specs.RegistryTables.Types.{types_of}
use Rattle.pud_defs.specs.PoolGraphs.Graph.{pointee_at, named_by}
use Rattle.graph_read.specs.Reading.{table_in}
use Rattle.graph_read.proofs.Referenced.{none_held}
use Rattle.graph_read.proofs.Judging.{first_word, positive_length}
use Rattle.graph_dump.proofs.Dumped.{dumped}
use Rattle.graph_dump.proofs.Written.{in_one_line-written}
use Rattle.pm_model.proofs.Reading.{still_reads}
use Rattle.graph_dump.proofs.dump.dump_json.Goals as goal

pub returns-then-is_empty-clause-text : goal.returns-then-is_empty-clause-text
returns-then-is_empty-clause-text g c = λ t image same graph stored. absurd (none_held (types_of image) c.args.frames c.args.pool.now image graph (sym c.is_empty.ensures ∙ c.if-is_empty.true) stored)

pub returns-clause-text : goal.returns-clause-text
returns-clause-text g c = λ t image same graph stored.
    let F = c.args.frames in
    let at = c.args.pool.now in
    let some : 0 < length at = positive_length at (sym c.is_empty.ensures ∙ c.if-is_empty.false) in
    let second = still_reads c.next_serial.ensures.only_reads t same in
    let third = still_reads c.root_value.ensures.only_reads t second in
    let fourth = still_reads c.pointed_serial.ensures.only_reads t third in
    let fifth = still_reads c.live_places.ensures.only_reads t fourth in
    dumped F at image graph c.in_ok-next.next c.in_ok-root-2.root c.in_ok-places.places.entries c.in_ok-text.text.items c.dump_objects.new.text.items c.put_root.new.text.items stored
    (c.in_ok-next.ensures.word t image same ∙ first_word F at image NEXT_SERIAL_WORD some (omega arith))
    (c.in_ok-root-2.ensures.serial t image third
    ∙ ap (λ (v : ℕ). named_by (table_in F at image).serial (pointee_at (map (λ e. e.1) at) 0 0 v)) (c.in_ok-root.ensures.word t image second ∙ first_word F at image ROOT_WORD some (omega arith)))
    (c.in_ok-places.ensures.places t image fourth) c.in_ok-text.ensures (c.in_ok-dump_objects.ensures.text t image fifth) c.in_ok-put_root.ensures

pub returns-clause-one_line : goal.returns-clause-one_line
returns-clause-one_line g c =
    in_one_line-written c.in_ok-next.next c.in_ok-root-2.root c.in_ok-text.text.items c.dump_objects.new.text.items c.put_root.new.text.items c.in_ok-text.ensures c.in_ok-dump_objects.ensures.some c.in_ok-put_root.ensures
