use Rattle.std.proofs.Common.{rules, sym, ap, subst, ◌∙◌}
use Rattle.pm_model.specs.Moments.{State}
use Rattle.pm_mem.specs.declared.event.Event.TheVariants.{Lost}
use Rattle.pm_mem.specs.Events.{told_events}
use Rattle.pm_mem.specs.Rows.{AreOf, AreSingle}
use Rattle.pm_mem.proofs.Events.{told_after}
use Rattle.pm_mem.proofs.Followed.{AreOf-lost, AreSingle-lost}
use Rattle.pm_mem.proofs.device.Device.lose.Goals as goal

pub invariant_of-self-clause-follows : goal.invariant_of-self-clause-follows
invariant_of-self-clause-follows c =
    let d = c.args.self.now in
    let e = told_after d.initial.items d.events.items c.push_reserved.new.self.items (Lost c.args.pick) c.push_reserved.ensures.items in
    let rows = c.forget_settled.new.self in
    let chosen = c.choose.new.self in
    let taken = c.take_marked.ensures in
    let forgot = c.forget_settled.ensures in
    subst (λ (s : State). AreOf rows.newest.items rows.marked.items rows.durable.items s.now.words) (sym e)
    (rw (forgot.newest, forgot.marked, forgot.durable, taken.newest, taken.marked)
    (AreOf-lost d.rows.newest.items d.rows.marked.items d.rows.durable.items chosen.newest.items chosen.marked.items c.take_marked.new.self.durable.items (told_events d.initial.items d.events.items).now.words c.args.pick
    c.choose.ensures.newest c.choose.ensures.marked taken.durable d.follows))

pub invariant_of-self-clause-replies : goal.invariant_of-self-clause-replies
invariant_of-self-clause-replies c =
    let d = c.args.self.now in
    let e = told_after d.initial.items d.events.items c.push_reserved.new.self.items (Lost c.args.pick) c.push_reserved.ensures.items in
    d.replies ∙ sym (ap (λ (s : State). s.now.said) e)

pub returns : goal.returns
returns c =
    let d = c.args.self.now in
    record { told = told_after d.initial.items d.events.items c.push_reserved.new.self.items (Lost c.args.pick) c.push_reserved.ensures.items; moved_is = search rules; words = search rules; events = search rules; said = search rules; moment_room = search rules; reply_room = search rules }

pub invariant_of-self-clause-single : goal.invariant_of-self-clause-single
invariant_of-self-clause-single c =
    let d = c.args.self.now in
    let e = told_after d.initial.items d.events.items c.push_reserved.new.self.items (Lost c.args.pick) c.push_reserved.ensures.items in
    λ _. subst (λ (s : State). AreSingle s.now.words) (sym e) (AreSingle-lost _ (told_events d.initial.items d.events.items).now.words)
