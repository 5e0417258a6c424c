use Rattle.std.proofs.Common.{◌≡◌, ◌+◌, ◌*◌, ℕ, slice_index, ap, subst, ◌∙◌, arith}
use Rattle.pm_model.proofs.Reading.{OnlyReads-then, still_reads}
use Rattle.pud_defs.specs.declared.layout.TheConstants.{MAX_FIELDS}
use Rattle.pud_defs.specs.PoolGraphs.Graph.{content, field_count, named_by}
use Rattle.pud_defs.specs.PoolGraphs.Stored.{stored_in}
use Rattle.graph_read.specs.Index.{names_one}
use Rattle.graph_read.specs.Indexed.{Gains}
use Rattle.graph_read.proofs.IndexBuilt.{Gains-then, HasAtMost-held, fields_name, fields_name-more}
use Rattle.graph_read.proofs.Numbers.{field_content}
use Rattle.graph_read.proofs.Passing.{field_count-least}
use Rattle.graph_read.proofs.index.Index.retain_fields.Goals as goal

pub loop-f-preserved : goal.loop-f-preserved
loop-f-preserved g c = record {
  only_reads = OnlyReads-then c.loop-f.invariant.only_reads c.in_ok-v.ensures.only_reads;
  most =
      HasAtMost-held c.serial_in_field.result (MAX_FIELDS * c.args.place + c.loop-f.f) (MAX_FIELDS * c.args.place + (c.loop-f.f + 1)) c.loop-f.self c.retain.new.self c.loop-f.invariant.most c.retain.ensures (omega arith);
  held = λ t image same.
      let st = stored_in c.args.frames c.args.pool.now image in
      let serial = slice_index c.args.serials.now in
      let m = c.args.type_map in
      let before = still_reads c.loop-f.invariant.only_reads t same in
      let named : c.serial_in_field.result ≡ named_by serial (field_content st c.args.place m c.loop-f.f) =
      c.serial_in_field.ensures ∙ ap (λ (v : ℕ). named_by serial (content st.puddles m c.args.place c.loop-f.f v)) (c.in_ok-v.ensures.word t image before) in
      Gains-then (fields_name serial st c.args.place m c.loop-f.f) (names_one c.serial_in_field.result) (fields_name serial st c.args.place m (c.loop-f.f + 1)) c.args.self.now c.loop-f.self c.retain.new.self
      (c.loop-f.invariant.held t image same) (record { each = c.retain.ensures }) (λ q. fields_name-more serial st c.args.place m c.loop-f.f c.serial_in_field.result q named);
}

pub returns-clause-holds : goal.returns-clause-holds
returns-clause-holds g c = λ t image same.
    let st = stored_in c.args.frames c.args.pool.now image in
    let count = field_count-least c.args.type_map in
    let all : c.loop-f.f ≡ field_count c.args.type_map = omega arith in
    let held = subst (λ (n : ℕ). Gains (fields_name (slice_index c.args.serials.now) st c.args.place c.args.type_map n) c.args.self.now c.loop-f.self) all (c.loop-f.invariant.held t image same) in
    record { each = λ q. held.each q }
