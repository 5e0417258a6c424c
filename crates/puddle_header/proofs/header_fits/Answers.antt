use Rattle.std.proofs.Common.{◌≡◌, ℕ, ◌+◌, Bool, IfOk, sym, ap, subst, ◌∙◌, eq-eqb, ne_eqb}
use Rattle.pud_defs.specs.declared.space.TheConstants.{FRAME_MAGIC_WORD, FRAME_NUMBER_WORD, FRAME_ORDINAL_WORD}
use Rattle.pud_defs.specs.Formats.Frames.{frame_word}
use Rattle.pud_defs.specs.Formats.Headers.{is_header}
use Rattle.puddle_header.proofs.Fits.{no_header, header_by_record}
use Rattle.pm_model.proofs.Reading.{still_reads}
use Rattle.puddle_header.proofs.header_fits.Goals as goal

pub returns-then-member-eq0-clause-fits : goal.returns-then-member-eq0-clause-fits
returns-then-member-eq0-clause-fits g c = λ t image same.
    sym (no_header c.args.frames c.args.frame image c.in_ok-member.member (c.in_ok-member.ensures.value t ∙ (λ x. same x (c.puddle_record_at-record.ensures x)))
    (eq-eqb _ _ c.if-member-eq0.true))

pub returns-clause-fits : goal.returns-clause-fits
returns-clause-fits g c = λ t image same.
    let first = still_reads c.load_word.ensures.only_reads t same in
    let second = still_reads c.load_word-2.ensures.only_reads t first in
    let is = c.in_ok-member.ensures.value t ∙ (λ x. same x (c.puddle_record_at-record.ensures x)) in
    let is_number = c.in_ok-number.ensures.value t ∙ (λ x. first x (c.puddle_record_at-record.ensures x + 1)) in
    let asked =
    ap (λ (o : ℕ). is_header c.in_ok-number.number o (frame_word c.args.frames c.args.frame FRAME_MAGIC_WORD image) (frame_word c.args.frames c.args.frame FRAME_NUMBER_WORD image) (frame_word c.args.frames c.args.frame FRAME_ORDINAL_WORD image))
    c.member_ordinal.ensures
    ∙ sym (header_by_record c.args.frames c.args.frame image c.in_ok-member.member c.in_ok-number.number is is_number (ne_eqb _ _ c.if-member-eq0.false)) in
    subst (λ (b : Bool). IfOk c.has_header.result (λ fits. fits ≡ b)) asked (c.has_header.ensures.fits t image second)
