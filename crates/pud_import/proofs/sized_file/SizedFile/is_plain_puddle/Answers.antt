use Rattle.std.proofs.Common.{ℕ, sym, ap, ◌∙◌, arith}
use Rattle.pud_defs.specs.declared.space.TheConstants.{MAX_SLOTS}
use Rattle.pud_defs.specs.Formats.Geometry.{class_slots, place_at}
use Rattle.pud_defs.specs.PoolGraphs.ExportFile.{is_plain_place}
use Rattle.pud_defs.proofs.Formats.Geometry.{few_slots}
use Rattle.pud_defs.proofs.RegistryTables.Spaces.{all_below-more, all_below-fails, all_below-none}
use Rattle.pud_import.specs.Sized.{types_in, stored_of, class_in}
use Rattle.pud_import.proofs.FileChecks.ByPuddles.{all_of_puddle}
use Rattle.pud_import.proofs.FileChecks.SlotsOfFile.{plain_none}
use Rattle.pud_import.proofs.sized_file.SizedFile.is_plain_puddle.Goals as goal

pub loop-slot-init : goal.loop-slot-init
loop-slot-init c = all_below-none _

pub returns-then-not-is_plain_slot : goal.returns-then-not-is_plain_slot
returns-then-not-is_plain_slot c =
    let f = c.args.self.now in
    let test = λ (s : ℕ). is_plain_place (types_in f) (stored_of f) (place_at c.args.ordinal s) in
    let few = few_slots c.class.result in
    sym (all_below-fails MAX_SLOTS c.loop-slot.slot test (omega (arith, c.loop-slot-test.true, c.class_slots-slot-end.ensures)) (sym c.is_plain_slot.ensures ∙ c.if-not-is_plain_slot.true))

pub loop-slot-preserved : goal.loop-slot-preserved
loop-slot-preserved c =
    let f = c.args.self.now in
    all_below-more c.loop-slot.slot (λ s. is_plain_place (types_in f) (stored_of f) (place_at c.args.ordinal s)) c.loop-slot.invariant (sym c.is_plain_slot.ensures ∙ c.if-not-is_plain_slot.false)

pub returns : goal.returns
returns c =
    let f = c.args.self.now in
    let o = c.args.ordinal in
    let count = c.class_slots-slot-end.ensures ∙ ap class_slots c.class.ensures in
    let past = c.loop-slot-test.false in
    sym (all_of_puddle (is_plain_place (types_in f) (stored_of f)) o (class_slots (class_in f o)) c.loop-slot.slot (omega arith) c.loop-slot.invariant (λ s high below. plain_none (stored_of f) o s high below (types_in f)))
