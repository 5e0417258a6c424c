use Rattle.std.proofs.Common.{rules, ℕ, ◌∷◌, ◌++◌, [], List, sym, ap, subst, ◌∙◌}
use Rattle.pm_model.specs.Moments.{State}
use Rattle.pm_mem.specs.declared.event.Event.TheVariants.{Said}
use Rattle.pm_mem.specs.Rows.{AreOf, AreSingle}
use Rattle.pm_mem.proofs.Events.{told_after}
use Rattle.pm_mem.proofs.device.Device.say_one.Goals as goal

pub invariant_of-self-clause-follows : goal.invariant_of-self-clause-follows
invariant_of-self-clause-follows c =
    let d = c.args.self.now in
    let e = told_after d.initial.items d.events.items c.push_reserved-2.new.self.items (Said c.args.byte) c.push_reserved-2.ensures.items in
    subst (λ (s : State). AreOf d.rows.newest.items d.rows.marked.items d.rows.durable.items s.now.words) (sym e) d.follows

pub invariant_of-self-clause-replies : goal.invariant_of-self-clause-replies
invariant_of-self-clause-replies c =
    let d = c.args.self.now in
    let e = told_after d.initial.items d.events.items c.push_reserved-2.new.self.items (Said c.args.byte) c.push_reserved-2.ensures.items in
    c.push_reserved.ensures.items ∙ ap (λ (said : List ℕ). said ++ c.args.byte ∷ []) d.replies ∙ sym (ap (λ (s : State). s.now.said) e)

pub returns : goal.returns
returns c =
    let d = c.args.self.now in
    record { told = told_after d.initial.items d.events.items c.push_reserved-2.new.self.items (Said c.args.byte) c.push_reserved-2.ensures.items; moved_is = search rules; words = search rules; events = search rules; said = search rules; moment_room = search rules; reply_room = search rules }

pub invariant_of-self-clause-single : goal.invariant_of-self-clause-single
invariant_of-self-clause-single c =
    let d = c.args.self.now in
    let e = told_after d.initial.items d.events.items c.push_reserved-2.new.self.items (Said c.args.byte) c.push_reserved-2.ensures.items in
    λ still. subst (λ (s : State). AreSingle s.now.words) (sym e) (d.single still)
