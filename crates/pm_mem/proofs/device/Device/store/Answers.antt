use Rattle.std.proofs.Common.{rules, arith, sym, ap, subst, ◌∙◌}
use Rattle.pm_model.specs.Moments.{State}
use Rattle.pm_mem.specs.declared.event.Event.TheVariants.{Store}
use Rattle.pm_mem.specs.Events.{told_events}
use Rattle.pm_mem.specs.Rows.{AreOf}
use Rattle.pm_mem.proofs.Events.{told_after}
use Rattle.pm_mem.proofs.Followed.{AreOf-store}
use Rattle.pm_mem.proofs.device.Device.store.Goals as goal

pub invariant_of-self-clause-follows : goal.invariant_of-self-clause-follows
invariant_of-self-clause-follows c =
    let d = c.args.self.now in
    let e = told_after d.initial.items d.events.items c.push_reserved.new.self.items (Store c.args.word c.args.value) c.push_reserved.ensures.items in
    let rows = c.store.new.self in
    subst (λ (s : State). AreOf rows.newest.items rows.marked.items rows.durable.items s.now.words) (sym e)
    (rw (c.store.ensures.newest, c.store.ensures.marked, c.store.ensures.durable)
    (AreOf-store d.rows.newest.items d.rows.marked.items d.rows.durable.items (told_events d.initial.items d.events.items).now.words c.args.word c.args.value (omega (arith, c.requires.within, d.lines, d.rows.newest_len, d.rows.newest.ok.0)) d.follows))

pub invariant_of-self-clause-replies : goal.invariant_of-self-clause-replies
invariant_of-self-clause-replies c =
    let d = c.args.self.now in
    let e = told_after d.initial.items d.events.items c.push_reserved.new.self.items (Store c.args.word c.args.value) c.push_reserved.ensures.items in
    d.replies ∙ sym (ap (λ (s : State). s.now.said) e)

pub returns : goal.returns
returns c =
    let d = c.args.self.now in
    record { told = told_after d.initial.items d.events.items c.push_reserved.new.self.items (Store c.args.word c.args.value) c.push_reserved.ensures.items; moved_is = search rules; words = search rules; events = search rules; said = search rules; moment_room = search rules; reply_room = search rules }
