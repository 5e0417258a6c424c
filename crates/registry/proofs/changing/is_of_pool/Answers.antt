use Rattle.std.proofs.Common.{nat_eq, ◌+◌, ap, ◌∙◌}
use Rattle.registry.proofs.Gathered.{of_read}
use Rattle.registry.proofs.changing.is_of_pool.Goals as goal

pub returns-clause-of : goal.returns-clause-of
returns-clause-of g c = λ t image same.
    let read = c.in_ok-member.ensures.value t ∙ (λ x. same x (c.puddle_record_at.ensures x)) in
    ap (λ w. nat_eq w (c.args.slot + 1)) c.member_pool.ensures ∙ of_read image c.args.slot c.args.frame c.in_ok-member.member read
