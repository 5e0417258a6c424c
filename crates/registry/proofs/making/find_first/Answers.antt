use Rattle.std.proofs.Common.{Err, refl, ap, ◌∙◌}
use Rattle.std.proofs.lemmas.Result.{err_from_is_err_and}
use Rattle.pud_defs.specs.declared.layout.TheConstants.{NEXT_NUMBER_WORD}
use Rattle.pud_defs.specs.Formats.Image.{Image}
use Rattle.registry.proofs.Placed.{refused_for_space, makes_first, first_is}
use Rattle.pm_model.proofs.Reading.{still_reads}
use Rattle.registry.proofs.making.find_first.Goals as goal

pub returns-in_err-find_place-clause-refusal : goal.returns-in_err-find_place-clause-refusal
returns-in_err-find_place-clause-refusal g c =
    let p = err_from_is_err_and c.from_residual-in_err-find_place.result c.from_residual-in_err-find_place.ensures.1 in
    rw (p.1, p.2) (λ t image same none.
    let slot_read = still_reads c.free_slot.ensures.only_reads t same in
    let number_read = still_reads c.load.ensures.only_reads t slot_read in
    let found = c.in_ok-slot.ensures.slot t image same c.args.frames refl in
    let number = c.in_ok-number.ensures.value t ∙ ap (λ (i : Image). i NEXT_NUMBER_WORD) slot_read in
    refused_for_space c.args.frames image c.args.name c.in_ok-slot.slot c.in_ok-number.number found number c.if-number.false c.in_err-find_place.field-0.0 none (λ is. c.in_err-find_place.ensures.no_space t image number_read (ap (λ f. Err f) is)))

pub returns-clause-refusal : goal.returns-clause-refusal
returns-clause-refusal g c = λ t image same none.
    let slot_read = still_reads c.free_slot.ensures.only_reads t same in
    let number_read = still_reads c.load.ensures.only_reads t slot_read in
    let found = c.in_ok-slot.ensures.slot t image same c.args.frames refl in
    let number = c.in_ok-number.ensures.value t ∙ ap (λ (i : Image). i NEXT_NUMBER_WORD) slot_read in
    makes_first c.args.frames image c.args.name c.in_ok-slot.slot c.in_ok-number.number found number c.if-number.false c.in_ok-find_place.field-0 (c.in_ok-find_place.ensures.place t image number_read)

pub returns-clause-first : goal.returns-clause-first
returns-clause-first g c = λ t image same.
    let slot_read = still_reads c.free_slot.ensures.only_reads t same in
    let number_read = still_reads c.load.ensures.only_reads t slot_read in
    let found = c.in_ok-slot.ensures.slot t image same c.args.frames refl in
    let number = c.in_ok-number.ensures.value t ∙ ap (λ (i : Image). i NEXT_NUMBER_WORD) slot_read in
    first_is c.args.frames image c.args.name c.in_ok-slot.slot c.in_ok-number.number found number c.if-number.false c.in_ok-find_place.field-0 (c.in_ok-find_place.ensures.place t image number_read) c.in_ok-find_place.ensures.of_class
