use Rattle.std.proofs.Common.{◌≡◌, ℕ, ◌+◌, ◌<◌, ◌∙◌, sym, ap, subst, IfOk}
use Rattle.pud_defs.specs.declared.space.TheConstants.{SLOT_FIELDS_WORD}
use Rattle.pud_defs.specs.Formats.Geometry.{class_slot_words, ordinal_of}
use Rattle.pud_defs.specs.PoolGraphs.Stored.{stored_in, place_word}
use Rattle.puddle_header.proofs.Placed.{slot_at_place}
use Rattle.graph_read.specs.Reading.{class_in}
use Rattle.graph_read.proofs.Slots.{slot_class}
use Rattle.graph_read.proofs.checking.field_word.Goals as goal

pub slot_field-requires-clause-field : goal.slot_field-requires-clause-field
slot_field-requires-clause-field g c =
    let at = c.slot_at_place-at in
    let class = slot_class c.args.pool.now at.result at.ensures.within ∙ ap (λ (p : ℕ). class_in c.args.pool.now (ordinal_of p)) at.ensures.place in
    subst (λ (k : ℕ). SLOT_FIELDS_WORD + c.args.f < class_slot_words k) (sym class) c.requires.field

pub returns-clause-word : goal.returns-clause-word
returns-clause-word g c = λ t image same.
    let at = c.slot_at_place-at in
    let k = SLOT_FIELDS_WORD + c.args.f in
    let stored = stored_in c.args.frames c.args.pool.now image in
    let class = sym at.ensures.within.alike ∙ slot_class c.args.pool.now at.result at.ensures.within ∙ ap (λ (p : ℕ). class_in c.args.pool.now (ordinal_of p)) at.ensures.place in
    let room = subst (λ (i : ℕ). k < class_slot_words i) (sym class) c.requires.field in
    subst (λ (v : ℕ). IfOk c.slot_field.result (λ r. r ≡ v))
    (slot_at_place c.args.frames c.args.pool.now image k at.result at.ensures.within room ∙ ap (λ (p : ℕ). place_word stored p k) at.ensures.place)
    (c.slot_field.ensures.word t image same)
