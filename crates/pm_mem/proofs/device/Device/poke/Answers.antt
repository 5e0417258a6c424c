use Rattle.std.proofs.Common.{rules, arith, ◌∙◌, sym, ap, subst}
use Rattle.pm_model.specs.Moments.{State}
use Rattle.pm_mem.specs.Rows.{AreOf, AreSingle}
use Rattle.pm_mem.specs.Events.{told_events}
use Rattle.pm_mem.proofs.Poked.{told_events-blanked, AreOf-poked, AreSingle-poked}
use Rattle.pm_mem.proofs.device.Device.poke.Goals as goal

pub invariant_of-self-clause-follows : goal.invariant_of-self-clause-follows
invariant_of-self-clause-follows c =
    let d = c.args.self.now in
    let e = told_events-blanked d.initial.items d.events.items c.blank.new.events.items c.args.word c.args.value (omega arith) c.blank.ensures.items in
    let rows = c.poke.new.self in
    subst (λ (s : State). AreOf rows.newest.items rows.marked.items rows.durable.items s.now.words) (sym e)
    (rw (c.poke.ensures.newest, c.poke.ensures.marked, c.poke.ensures.durable)
    (AreOf-poked d.rows.newest.items d.rows.marked.items d.rows.durable.items (told_events d.initial.items d.events.items).now.words c.args.word c.args.value
    (omega (arith, c.requires, d.lines, d.rows.newest_len, d.rows.newest.ok.0)) (omega (arith, c.requires, d.lines, d.rows.marked_len, d.rows.marked.ok.0)) (omega (arith, c.requires, d.lines, d.rows.durable_len, d.rows.durable.ok.0)) d.follows))

pub invariant_of-self-clause-replies : goal.invariant_of-self-clause-replies
invariant_of-self-clause-replies c =
    let d = c.args.self.now in
    let e = told_events-blanked d.initial.items d.events.items c.blank.new.events.items c.args.word c.args.value (omega arith) c.blank.ensures.items in
    d.replies ∙ sym (ap (λ (s : State). s.now.said) e)

pub invariant_of-self-clause-single : goal.invariant_of-self-clause-single
invariant_of-self-clause-single c =
    let d = c.args.self.now in
    let e = told_events-blanked d.initial.items d.events.items c.blank.new.events.items c.args.word c.args.value (omega arith) c.blank.ensures.items in
    λ still. subst (λ (s : State). AreSingle s.now.words) (sym e) (AreSingle-poked (told_events d.initial.items d.events.items).now.words c.args.word c.args.value (d.single still))

pub returns : goal.returns
returns c =
    let d = c.args.self.now in
    record {
      told = told_events-blanked d.initial.items d.events.items c.blank.new.events.items c.args.word c.args.value (omega arith) c.blank.ensures.items;
      moved_is = search rules;
      words = search rules;
      events = search rules;
      said = search rules;
      moment_room = search rules;
      reply_room = search rules;
    }
