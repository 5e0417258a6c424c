use Rattle.std.proofs.Common.{ℕ, not, sym, ap, ◌∙◌, arith}
use Rattle.pud_defs.specs.declared.space.TheConstants.{MAX_SLOTS}
use Rattle.pud_defs.specs.Formats.Geometry.{class_slots, place_at}
use Rattle.pud_defs.proofs.Formats.Geometry.{few_slots}
use Rattle.pud_defs.proofs.RegistryTables.Spaces.{all_below-more, all_below-fails, all_below-none}
use Rattle.pud_import.specs.Sized.{stored_of, class_in}
use Rattle.pud_import.proofs.FileChecks.ByPuddles.{all_of_puddle}
use Rattle.pud_import.proofs.FileChecks.SlotsOfFile.{of_type_none}
use Rattle.pud_import.proofs.FileChecks.UsedPlaces.{is_other, used_by-scanned}
use Rattle.pud_import.proofs.sized_file.SizedFile.is_used_by.Goals as goal

pub loop-slot-init : goal.loop-slot-init
loop-slot-init c = all_below-none _

pub returns-then-is_of_type : goal.returns-then-is_of_type
returns-then-is_of_type c =
    let st = stored_of c.args.self.now in
    let few = few_slots c.class.result in
    let other = λ (s : ℕ). is_other st c.args.id (place_at c.args.ordinal s) in
    sym (used_by-scanned st c.args.id c.args.ordinal
    ∙ ap not (all_below-fails MAX_SLOTS c.loop-slot.slot other (omega (arith, c.loop-slot-test.true, c.class_slots-slot-end.ensures)) (ap not (sym c.is_of_type.ensures ∙ c.if-is_of_type.true))))

pub loop-slot-preserved : goal.loop-slot-preserved
loop-slot-preserved c =
    all_below-more c.loop-slot.slot (λ s. is_other (stored_of c.args.self.now) c.args.id (place_at c.args.ordinal s)) c.loop-slot.invariant (ap not (sym c.is_of_type.ensures ∙ c.if-is_of_type.false))

pub returns : goal.returns
returns c =
    let f = c.args.self.now in
    let st = stored_of f in
    let o = c.args.ordinal in
    let count = c.class_slots-slot-end.ensures ∙ ap class_slots c.class.ensures in
    let past = c.loop-slot-test.false in
    sym (used_by-scanned st c.args.id o
    ∙ ap not (all_of_puddle (is_other st c.args.id) o (class_slots (class_in f o)) c.loop-slot.slot (omega arith) c.loop-slot.invariant (λ s high below. ap not (of_type_none st o s high below c.args.id))))
