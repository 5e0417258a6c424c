use Rattle.std.proofs.Common.{ℕ, ◌+◌, map, sym, ap, ap₂, ◌∙◌, arith}
use Rattle.std.proofs.lemmas.Bool.{cond-true}
use Rattle.std.proofs.lemmas.Option.{slice_get_within}
use Rattle.pud_defs.specs.PoolGraphs.Exported.{address_of}
use Rattle.pud_defs.specs.PoolGraphs.Graph.{pointee_at}
use Rattle.pud_defs.proofs.Formats.Geometry.{few_slots}
use Rattle.puddle_header.proofs.Placed.{place_ordinal, place_slot}
use Rattle.graph_read.specs.Checking.{content_of}
use Rattle.graph_read.proofs.Passing.{pointee_read}
use Rattle.pud_export.proofs.slots.exported_value.Goals as goal

pub overflow_add-at : goal.overflow_add-at
overflow_add-at c = let few = few_slots c.requires.within.puddle.class in let below = c.requires.within.below in omega arith

pub read_pointer-requires-clause-known : goal.read_pointer-requires-clause-known
read_pointer-requires-clause-known c = slice_get_within c.args.pool.now c.args.at.now.ordinal _ c.requires.within.there

pub returns : goal.returns
returns c = λ low.
    let puddles = map (λ e. e.1) c.args.pool.now in
    let at = c.args.at.now in
    let of = c.requires.within in
    let v = c.args.v in
    c.address_of.ensures low
    ∙ ap (λ pointee. address_of puddles (content_of pointee)) c.read_pointer.ensures.pointee
    ∙ ap (address_of puddles) (pointee_read puddles at.ordinal (at.slot + 1) v)
    ∙ ap₂ (λ (o s : ℕ). address_of puddles (pointee_at puddles o (s + 1) v)) (sym (place_ordinal at.ordinal at.slot of.puddle of.below)) (sym (place_slot at.ordinal at.slot of.puddle of.below))
    ∙ sym (cond-true _ _ _ (sym c.map_is_pointer.ensures ∙ c.if-not-map_is_pointer.false))
