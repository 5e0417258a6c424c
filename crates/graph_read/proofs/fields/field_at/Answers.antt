use Rattle.std.proofs.Common.{◌≡◌, ℕ, true, Option, IfSome, ◌∙◌, ap, ap₂, sym, subst, arith}
use Rattle.pud_defs.specs.declared.space.TheConstants.{SLOT_TYPE_WORD}
use Rattle.pud_defs.specs.RegistryTables.Types.{types_of, map_of}
use Rattle.pud_defs.proofs.Formats.Geometry.{some_words}
use Rattle.pud_defs.specs.PoolGraphs.Graph.{fits_class, fitting}
use Rattle.graph_read.specs.declared.fields.FieldRead.TheVariants.{Value}
use Rattle.puddle_header.specs.Places.{place_of_slot}
use Rattle.puddle_header.proofs.Placed.{slot_at_place}
use Rattle.graph_read.proofs.Fielded.{field-no_type, field-past, field-there, room_for_one}
use Rattle.graph_read.proofs.Slots.{slot_class}
use Rattle.pm_model.proofs.Reading.{still_reads}
use Rattle.graph_read.proofs.fields.field_at.Goals as goal

pub value_at-requires-clause-field : goal.value_at-requires-clause-field
value_at-requires-clause-field g c =
    let more = c.if-f-map_fields.true in
    let fits = subst (λ (o : Option ℕ). IfSome o (λ m. fits_class c.args.at.now.class m ≡ true)) c.in-Some.is c.in_ok-map.ensures.fits in
    room_for_one c.args.at.now.class c.in-Some.map c.args.f fits c.requires.field (omega (arith, c.map_fields.ensures, more))

pub returns-in_ok-value-in-Some-clause-read : goal.returns-in_ok-value-in-Some-clause-read
returns-in_ok-value-in-Some-clause-read g c = λ t image same.
    let at = c.args.at.now in
    let pool = c.args.pool.now in
    let some = some_words c.requires.within.puddle.class in
    let first = still_reads c.slot_type.ensures.only_reads t same in
    let second = still_reads c.find_fitting.ensures.only_reads t first in
    let id = c.in_ok-id.ensures.word t image same ∙ slot_at_place c.args.frames pool image SLOT_TYPE_WORD at c.requires.within (omega arith) in
    let defined = sym (ap₂ (λ (k i : ℕ). fitting k (map_of i (types_of image))) (slot_class pool at c.requires.within) id) ∙ sym (c.in_ok-map.ensures.map t image first) ∙ c.in-Some.is in
    let more = c.if-f-map_fields.true in
    ap (λ v. Value v) (c.in_ok-value-in-Some.ensures.value t image second)
    ∙ sym (field-there c.args.frames pool image (place_of_slot at) c.args.f c.in-Some.map defined c.requires.field (omega (arith, c.map_fields.ensures, more)))

pub returns-in_default-clause-read : goal.returns-in_default-clause-read
returns-in_default-clause-read g c = λ t image same.
    let at = c.args.at.now in
    let pool = c.args.pool.now in
    let some = some_words c.requires.within.puddle.class in
    let first = still_reads c.slot_type.ensures.only_reads t same in
    let id = c.in_ok-id.ensures.word t image same ∙ slot_at_place c.args.frames pool image SLOT_TYPE_WORD at c.requires.within (omega arith) in
    let defined = sym (ap₂ (λ (k i : ℕ). fitting k (map_of i (types_of image))) (slot_class pool at c.requires.within) id) ∙ sym (c.in_ok-map.ensures.map t image first) ∙ c.in-Some.is in
    let past = c.if-f-map_fields.false in
    sym (field-past c.args.frames pool image (place_of_slot at) c.args.f c.in-Some.map defined c.requires.field (omega (arith, c.map_fields.ensures, past)))

pub returns-in_default-2-clause-read : goal.returns-in_default-2-clause-read
returns-in_default-2-clause-read g c = λ t image same.
    let at = c.args.at.now in
    let pool = c.args.pool.now in
    let some = some_words c.requires.within.puddle.class in
    let first = still_reads c.slot_type.ensures.only_reads t same in
    let id = c.in_ok-id.ensures.word t image same ∙ slot_at_place c.args.frames pool image SLOT_TYPE_WORD at c.requires.within (omega arith) in
    let undefined = sym (ap₂ (λ (k i : ℕ). fitting k (map_of i (types_of image))) (slot_class pool at c.requires.within) id) ∙ sym (c.in_ok-map.ensures.map t image first) ∙ c.in_default.is in
    sym (field-no_type c.args.frames pool image (place_of_slot at) c.args.f undefined)
