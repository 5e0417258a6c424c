use Rattle.std.proofs.Common.{ℕ, ◌+◌, List, map, slice_index, sym, ap, ap₂, ◌∙◌}
use Rattle.std.specs.Bool.{then_some}
use Rattle.std.proofs.lemmas.Bool.{cond-true}
use Rattle.pud_defs.specs.declared.records.Puddle.{Puddle}
use Rattle.pud_defs.specs.Formats.Geometry.{ordinal_of, slot_of}
use Rattle.pud_defs.specs.PoolGraphs.Graph.{pointee_at}
use Rattle.graph_read.specs.Checking.{content_of, passes}
use Rattle.graph_read.specs.Reading.{pointee_of}
use Rattle.graph_read.proofs.Numbers.{number_in_content-pointer}
use Rattle.graph_read.proofs.Passing.{pointee_read}
use Rattle.graph_read.proofs.checking.value_number.Goals as goal

pub returns : goal.returns
returns c =
    let puddles : List Puddle = map (λ (e : ℕ × Puddle). e.1) c.args.pool.now in
    let pointer = sym c.map_is_pointer.ensures ∙ c.if-not-map_is_pointer.false in
    let passed = c.passes.ensures
    ∙ ap (λ p. passes c.args.check (slice_index c.args.serials.now) (content_of p)) c.read_pointer-pointee.ensures.pointee
    ∙ ap₂ (λ o s. passes c.args.check (slice_index c.args.serials.now) (content_of (pointee_of (pointee_at puddles o (s + 1) c.args.v)))) c.ordinal_of.ensures c.slot_of.ensures
    ∙ ap (passes c.args.check (slice_index c.args.serials.now)) (pointee_read puddles (ordinal_of c.args.place) (slot_of c.args.place + 1) c.args.v ∙ sym (cond-true _ _ _ pointer)) in
    c.then_some.ensures ∙ ap₂ (λ b n. then_some b n) passed (sym (number_in_content-pointer puddles c.args.type_map c.args.place c.args.f c.args.v pointer))
