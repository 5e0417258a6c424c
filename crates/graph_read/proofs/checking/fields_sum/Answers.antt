use Rattle.std.proofs.Common.{◌≡◌, ◌%◌, ◌^◌, ◌<◌, ℕ, slice_index, refl, sym, ap, ap₂, ◌∙◌, arith}
use Rattle.std.specs.Bool.{then_some}
use Rattle.pud_defs.specs.PoolGraphs.Graph.{field_count}
use Rattle.pud_defs.specs.RegistryTables.Spaces.{all_below}
use Rattle.pud_defs.specs.PoolGraphs.Stored.{stored_in}
use Rattle.pud_defs.proofs.RegistryTables.Spaces.{all_below-more, all_below-fails, all_below-none}
use Rattle.graph_read.proofs.Numbers.{fields_counted, fields_counted-more, value_passed, value_refused}
use Rattle.graph_read.proofs.Passing.{field_passes, field_count-least, fields_pass-each}
use Rattle.pm_model.proofs.Reading.{OnlyReads-none, OnlyReads-then, still_reads}
use Rattle.graph_read.proofs.checking.fields_sum.Goals as goal

pub loop-f-init : goal.loop-f-init
loop-f-init g c = record {
  only_reads = OnlyReads-none;
  passed = λ t image same. all_below-none _;
  counted = λ t image same. refl;
}

pub returns-in_default-clause-sum : goal.returns-in_default-clause-sum
returns-in_default-clause-sum g c = λ t image same.
    let st = stored_in c.args.frames c.args.pool.now image in
    let serial = slice_index c.args.serials.now in
    let before = still_reads c.loop-f.invariant.only_reads t same in
    let here = value_refused c.args.check serial st c.args.place c.args.type_map c.loop-f.f c.in_ok-v.v c.value_number.result (c.in_ok-v.ensures.word t image before) c.value_number.ensures c.in_default.is in
    let count = field_count-least c.args.type_map in
    let below : c.loop-f.f < field_count c.args.type_map = omega arith in
    ap (λ b. then_some b (fields_counted st c.args.place c.args.type_map (field_count c.args.type_map) % 2 ^ 64)) (sym (fields_pass-each c.args.check serial st c.args.place c.args.type_map
    ∙ all_below-fails (field_count c.args.type_map) c.loop-f.f (field_passes c.args.check serial st c.args.place c.args.type_map) below here))

pub loop-f-preserved : goal.loop-f-preserved
loop-f-preserved g c = record {
  only_reads = OnlyReads-then c.loop-f.invariant.only_reads c.in_ok-v.ensures.only_reads;
  passed = λ t image same.
      let st = stored_in c.args.frames c.args.pool.now image in
      let serial = slice_index c.args.serials.now in
      let before = still_reads c.loop-f.invariant.only_reads t same in
      let here = value_passed c.args.check serial st c.args.place c.args.type_map c.loop-f.f c.in_ok-v.v c.in-Some.number c.value_number.result (c.in_ok-v.ensures.word t image before) c.value_number.ensures c.in-Some.is in
      all_below-more c.loop-f.f (field_passes c.args.check serial st c.args.place c.args.type_map) (c.loop-f.invariant.passed t image same) here.0;
  counted = λ t image same.
      let st = stored_in c.args.frames c.args.pool.now image in
      let serial = slice_index c.args.serials.now in
      let before = still_reads c.loop-f.invariant.only_reads t same in
      let here = value_passed c.args.check serial st c.args.place c.args.type_map c.loop-f.f c.in_ok-v.v c.in-Some.number c.value_number.result (c.in_ok-v.ensures.word t image before) c.value_number.ensures c.in-Some.is in
      fields_counted-more st c.args.place c.args.type_map c.loop-f.f c.loop-f.sum c.in-Some.number (c.loop-f.invariant.counted t image same) (sym here.1);
}

pub returns-clause-sum : goal.returns-clause-sum
returns-clause-sum g c = λ t image same.
    let st = stored_in c.args.frames c.args.pool.now image in
    let serial = slice_index c.args.serials.now in
    let count = field_count-least c.args.type_map in
    let all : c.loop-f.f ≡ field_count c.args.type_map = omega arith in
    ap₂ (λ b n. then_some b n)
    (sym (fields_pass-each c.args.check serial st c.args.place c.args.type_map
    ∙ ap (λ n. all_below n (field_passes c.args.check serial st c.args.place c.args.type_map)) (sym all) ∙ c.loop-f.invariant.passed t image same))
    (c.loop-f.invariant.counted t image same ∙ ap (λ (n : ℕ). fields_counted st c.args.place c.args.type_map n % 2 ^ 64) all)
