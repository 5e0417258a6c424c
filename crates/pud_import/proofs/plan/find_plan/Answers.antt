use Rattle.std.proofs.Common.{None, refl, arith}
use Rattle.std.proofs.lemmas.Result.{err_from_is_err_and}
use Rattle.pm_model.proofs.Reading.{OnlyReads-then, still_reads}
use Rattle.pud_import.proofs.FilesPlaced.Imported.{types_of_file}
use Rattle.pud_import.proofs.FilesPlaced.Refusals.{refused_by_types, refused_by_slot, refused_by_number, refused_by_space}
use Rattle.pud_import.proofs.plan.find_plan.Goals as goal

pub returns-in_err-types-clause-refusal : goal.returns-in_err-types-clause-refusal
returns-in_err-types-clause-refusal g c =
    let p = err_from_is_err_and c.from_residual.result c.from_residual.ensures.1 in
    rw (p.1, p.2) (λ t image same none file held absent.
    refused_by_types c.args.frames image file (types_of_file c.args.view.now file held) c.in_err-types.field-0.0 (c.in_err-types.ensures.refusal t image same none))

pub returns-in_err-slot-clause-refusal : goal.returns-in_err-slot-clause-refusal
returns-in_err-slot-clause-refusal g c =
    let p = err_from_is_err_and c.from_residual-in_err-slot.result c.from_residual-in_err-slot.ensures.1 in
    rw (p.1, p.2) (λ t image same none file held absent.
    refused_by_slot c.args.frames image file (types_of_file c.args.view.now file held) (c.in_ok-types.ensures.refusal t image same refl) c.in_err-slot.field-0.0
    (c.in_err-slot.ensures.refusal t image (still_reads {fault = None} c.in_ok-types.ensures.only_reads t same) c.args.frames none absent))

pub returns-in_err-number-clause-refusal : goal.returns-in_err-number-clause-refusal
returns-in_err-number-clause-refusal g c =
    let p = err_from_is_err_and c.from_residual-in_err-number.result c.from_residual-in_err-number.ensures.1 in
    rw (p.1, p.2) (λ t image same none file held absent.
    let slot_read = still_reads {fault = None} c.in_ok-types.ensures.only_reads t same in
    refused_by_number c.args.frames image file (types_of_file c.args.view.now file held) (c.in_ok-types.ensures.refusal t image same refl) (c.in_ok-slot.ensures.refusal t image slot_read c.args.frames refl absent)
    c.puddles.ensures.counted c.in_err-number.field-0.0 (c.in_err-number.ensures.refusal t image (still_reads {fault = None} c.in_ok-slot.ensures.only_reads t slot_read) none))

pub returns-in_err-puddles-clause-refusal : goal.returns-in_err-puddles-clause-refusal
returns-in_err-puddles-clause-refusal g c =
    let p = err_from_is_err_and c.from_residual-in_err-puddles.result c.from_residual-in_err-puddles.ensures.1 in
    rw (p.1, p.2) (λ t image same none file held absent.
    let slot_read = still_reads {fault = None} c.in_ok-types.ensures.only_reads t same in
    let number_read = still_reads {fault = None} c.in_ok-slot.ensures.only_reads t slot_read in
    refused_by_space c.args.frames image file (types_of_file c.args.view.now file held) (c.in_ok-types.ensures.refusal t image same refl) (c.in_ok-slot.ensures.refusal t image slot_read c.args.frames refl absent)
    c.puddles.ensures.counted _ (c.in_ok-number.ensures.refusal t image number_read refl) (c.in_err-puddles.ensures.refusal t image (still_reads {fault = None} c.in_ok-number.ensures.only_reads t number_read) none))

pub returns-clause-refusal : goal.returns-clause-refusal
returns-clause-refusal g c = λ t image same none file held absent.
    let slot_read = still_reads {fault = None} c.in_ok-types.ensures.only_reads t same in
    let number_read = still_reads {fault = None} c.in_ok-slot.ensures.only_reads t slot_read in
    refused_by_space c.args.frames image file (types_of_file c.args.view.now file held) (c.in_ok-types.ensures.refusal t image same refl) (c.in_ok-slot.ensures.refusal t image slot_read c.args.frames refl absent)
    c.puddles.ensures.counted _ (c.in_ok-number.ensures.refusal t image number_read refl) (c.in_ok-puddles.ensures.refusal t image (still_reads {fault = None} c.in_ok-number.ensures.only_reads t number_read) refl)

pub returns-clause-placed : goal.returns-clause-placed
returns-clause-placed g c = λ t image same absent uid gid mode.
    let slot_read = still_reads {fault = None} c.in_ok-types.ensures.only_reads t same in
    let number_read = still_reads {fault = None} c.in_ok-slot.ensures.only_reads t slot_read in
    let members = c.in_ok-puddles.ensures.members in
    record {
      slot_is = c.in_ok-slot.ensures.slot t image slot_read c.args.frames;
      absent = absent;
      number = c.in_ok-number.ensures.number t image number_read;
      enough = omega (arith, c.in_ok-number.ensures.left, c.in_ok-puddles.ensures.count, c.puddles.ensures.counted);
      types_are = c.in_ok-types.ensures.types t image same;
      records = c.in_ok-types.ensures.records t image same;
      placed = c.in_ok-puddles.ensures.placed t image (still_reads {fault = None} c.in_ok-number.ensures.only_reads t number_read);
      members = λ o a is. let member = members.each o a is in (member.pool, member.is_ordinal);
    }

pub returns-in_err-types-clause-only_reads : goal.returns-in_err-types-clause-only_reads
returns-in_err-types-clause-only_reads g c =
    let p = err_from_is_err_and c.from_residual.result c.from_residual.ensures.1 in
    rw (p.1, p.2) (c.in_err-types.ensures.only_reads)

pub returns-in_err-slot-clause-only_reads : goal.returns-in_err-slot-clause-only_reads
returns-in_err-slot-clause-only_reads g c =
    let p = err_from_is_err_and c.from_residual-in_err-slot.result c.from_residual-in_err-slot.ensures.1 in
    rw (p.1, p.2) (OnlyReads-then c.in_ok-types.ensures.only_reads c.in_err-slot.ensures.only_reads)

pub returns-in_err-number-clause-only_reads : goal.returns-in_err-number-clause-only_reads
returns-in_err-number-clause-only_reads g c =
    let p = err_from_is_err_and c.from_residual-in_err-number.result c.from_residual-in_err-number.ensures.1 in
    rw (p.1, p.2) (OnlyReads-then (OnlyReads-then {fault = None} c.in_ok-types.ensures.only_reads c.in_ok-slot.ensures.only_reads) c.in_err-number.ensures.only_reads)

pub returns-in_err-puddles-clause-only_reads : goal.returns-in_err-puddles-clause-only_reads
returns-in_err-puddles-clause-only_reads g c =
    let p = err_from_is_err_and c.from_residual-in_err-puddles.result c.from_residual-in_err-puddles.ensures.1 in
    rw (p.1, p.2) (OnlyReads-then (OnlyReads-then {fault = None} (OnlyReads-then {fault = None} c.in_ok-types.ensures.only_reads c.in_ok-slot.ensures.only_reads) c.in_ok-number.ensures.only_reads) c.in_err-puddles.ensures.only_reads)

pub returns-clause-only_reads : goal.returns-clause-only_reads
returns-clause-only_reads g c = OnlyReads-then {fault = None} (OnlyReads-then {fault = None} (OnlyReads-then {fault = None} c.in_ok-types.ensures.only_reads c.in_ok-slot.ensures.only_reads) c.in_ok-number.ensures.only_reads) c.in_ok-puddles.ensures.only_reads

pub returns-clause-number : goal.returns-clause-number
returns-clause-number g c = λ t image same.
    let slot_read = still_reads {fault = None} c.in_ok-types.ensures.only_reads t same in
    c.in_ok-number.ensures.number t image (still_reads {fault = None} c.in_ok-slot.ensures.only_reads t slot_read)
