use Rattle.std.proofs.Common.{ℕ, Err, sym, ap, subst, ◌∙◌}
use Rattle.pud_defs.specs.declared.layout.TheConstants.{NEXT_NUMBER_WORD}
use Rattle.pud_defs.specs.Formats.Image.{Image}
use Rattle.pud_defs.specs.RegistryTables.Tables.{tables_of}
use Rattle.registry.specs.Adding.{IsNewPuddle}
use Rattle.registry.specs.Growth.{has_room_to_grow}
use Rattle.registry.proofs.Placed.{refused_full, refused_space, not_refused}
use Rattle.pm_model.proofs.Reading.{still_reads}
use Rattle.registry.proofs.growing.find_growth.Goals as goal

pub returns-then-not-has_room-clause-refusal : goal.returns-then-not-has_room-clause-refusal
returns-then-not-has_room-clause-refusal g c = λ t image same.
    let number = c.in_ok-number.ensures.value t ∙ ap (λ (i : Image). i NEXT_NUMBER_WORD) same in
    refused_full (tables_of c.args.frames image) (image NEXT_NUMBER_WORD) c.args.puddles c.in_ok-number.number number (sym c.if-not-has_room.ensures)

pub returns-in-Ok-clause-refusal : goal.returns-in-Ok-clause-refusal
returns-in-Ok-clause-refusal g c = λ t image same.
    let read = still_reads c.load.ensures.only_reads t same in
    let number = c.in_ok-number.ensures.value t ∙ ap (λ (i : Image). i NEXT_NUMBER_WORD) same in
    let new = c.in-Ok.ensures.place t image read in
    not_refused (tables_of c.args.frames image) (image NEXT_NUMBER_WORD) c.args.puddles c.in_ok-number.number number (sym c.if-not-has_room.ensures) c.in-Ok.added.frame new.frame

pub returns-in-Ok-clause-growth : goal.returns-in-Ok-clause-growth
returns-in-Ok-clause-growth g c = λ t image same.
    let read = still_reads c.load.ensures.only_reads t same in
    let number = c.in_ok-number.ensures.value t ∙ ap (λ (i : Image). i NEXT_NUMBER_WORD) same in
    record {
      puddle = subst (λ (n : ℕ). IsNewPuddle (tables_of c.args.frames image) c.args.slot c.args.puddles n c.in-Ok.added) number (c.in-Ok.ensures.place t image read);
      room = ap (has_room_to_grow c.args.puddles) (sym number) ∙ sym c.if-not-has_room.ensures;
    }

pub returns-in-Err-NoSpace-clause-refusal : goal.returns-in-Err-NoSpace-clause-refusal
returns-in-Err-NoSpace-clause-refusal g c = λ t image same.
    let read = still_reads c.load.ensures.only_reads t same in
    let number = c.in_ok-number.ensures.value t ∙ ap (λ (i : Image). i NEXT_NUMBER_WORD) same in
    refused_space (tables_of c.args.frames image) (image NEXT_NUMBER_WORD) c.args.puddles c.in_ok-number.number number (sym c.if-not-has_room.ensures) (c.in-Err-NoSpace.ensures.no_space t image read (ap (λ f. Err f) c.in-Err-NoSpace.field-0-is))
