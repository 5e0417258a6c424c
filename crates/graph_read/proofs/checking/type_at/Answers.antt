use Rattle.std.proofs.Common.{◌≡◌, ℕ, ◌∙◌, ap, subst, IfOk, arith}
use Rattle.pud_defs.specs.declared.space.TheConstants.{SLOT_TYPE_WORD}
use Rattle.pud_defs.proofs.Formats.Geometry.{some_words}
use Rattle.pud_defs.specs.PoolGraphs.Stored.{stored_in, place_word}
use Rattle.puddle_header.proofs.Placed.{slot_at_place}
use Rattle.graph_read.proofs.checking.type_at.Goals as goal

pub returns-clause-id : goal.returns-clause-id
returns-clause-id g c = λ t image same.
    let at = c.slot_at_place-at in
    let some = some_words at.ensures.within.puddle.class in
    let stored = stored_in c.args.frames c.args.pool.now image in
    subst (λ (v : ℕ). IfOk c.slot_type.result (λ r. r ≡ v))
    (slot_at_place c.args.frames c.args.pool.now image SLOT_TYPE_WORD at.result at.ensures.within (omega arith) ∙ ap (λ (p : ℕ). place_word stored p SLOT_TYPE_WORD) at.ensures.place)
    (c.slot_type.ensures.word t image same)
