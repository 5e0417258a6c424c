use Rattle.std.proofs.Common.{◌≡◌, ℕ, ◌+◌, ◌<◌, ◌∙◌, ap, sym, subst, arith}
use Rattle.std.specs.Prelude.{map}
use Rattle.std.proofs.lemmas.Bool.{cond-true, cond-false}
use Rattle.std.proofs.lemmas.Option.{slice_get_within}
use Rattle.pud_defs.specs.declared.space.TheConstants.{SLOT_FIELDS_WORD}
use Rattle.pud_defs.specs.declared.objects.FieldValue.TheVariants.{Num, Ref}
use Rattle.pud_defs.specs.Formats.Geometry.{class_slot_words}
use Rattle.pud_defs.proofs.Formats.Geometry.{few_slots}
use Rattle.pud_defs.specs.PoolGraphs.Stored.{stored_in, place_word}
use Rattle.pud_defs.specs.PoolGraphs.Graph.{pointee_at, named_by}
use Rattle.puddle_header.specs.Places.{place_of_slot}
use Rattle.graph_read.specs.Reading.{table_in}
use Rattle.puddle_header.proofs.Placed.{slot_at_place}
use Rattle.graph_read.proofs.Fielded.{value_at-slot}
use Rattle.pm_model.proofs.Reading.{still_reads}
use Rattle.graph_read.proofs.fields.value_at.Goals as goal

pub overflow_add-at : goal.overflow_add-at
overflow_add-at g c = let below = c.requires.within.below in let few = few_slots c.requires.within.puddle.class in omega (arith, below, few)

pub pointed_serial-requires-clause-within : goal.pointed_serial-requires-clause-within
pointed_serial-requires-clause-within g c = slice_get_within c.args.pool.now c.args.at.now.ordinal _ c.requires.within.there

pub returns-in_ok-serial-clause-value : goal.returns-in_ok-serial-clause-value
returns-in_ok-serial-clause-value g c = λ t image same.
    let at = c.args.at.now in
    let pool = c.args.pool.now in
    let puddles = map (λ e. e.1) pool in
    let serial = (table_in c.args.frames pool image).serial in
    let word = place_word (stored_in c.args.frames pool image) (place_of_slot at) (SLOT_FIELDS_WORD + c.args.f) in
    let room = subst (λ (k : ℕ). SLOT_FIELDS_WORD + c.args.f < class_slot_words k) c.requires.within.alike c.requires.field in
    let read = still_reads c.slot_field.ensures.only_reads t same in
    let value : c.in_ok-value.value ≡ word = c.in_ok-value.ensures.word t image same ∙ slot_at_place c.args.frames pool image (SLOT_FIELDS_WORD + c.args.f) at c.requires.within room in
    ap (λ s. Ref s) (c.in_ok-serial.ensures.serial t image read)
    ∙ ap (λ v. Ref (named_by serial (pointee_at puddles at.ordinal (at.slot + 1) v))) value
    ∙ sym (value_at-slot serial puddles c.args.map_word c.args.f word at c.requires.within.puddle c.requires.within.below ∙ cond-true _ _ _ (sym c.map_is_pointer.ensures ∙ c.if-map_is_pointer.true))

pub returns-else-map_is_pointer-clause-value : goal.returns-else-map_is_pointer-clause-value
returns-else-map_is_pointer-clause-value g c = λ t image same.
    let at = c.args.at.now in
    let pool = c.args.pool.now in
    let puddles = map (λ e. e.1) pool in
    let serial = (table_in c.args.frames pool image).serial in
    let word = place_word (stored_in c.args.frames pool image) (place_of_slot at) (SLOT_FIELDS_WORD + c.args.f) in
    let room = subst (λ (k : ℕ). SLOT_FIELDS_WORD + c.args.f < class_slot_words k) c.requires.within.alike c.requires.field in
    let value : c.in_ok-value.value ≡ word = c.in_ok-value.ensures.word t image same ∙ slot_at_place c.args.frames pool image (SLOT_FIELDS_WORD + c.args.f) at c.requires.within room in
    ap (λ v. Num v) value ∙ sym (value_at-slot serial puddles c.args.map_word c.args.f word at c.requires.within.puddle c.requires.within.below ∙ cond-false _ _ _ (sym c.map_is_pointer.ensures ∙ c.if-map_is_pointer.false))
