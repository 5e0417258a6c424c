use Rattle.std.proofs.Common.{Option, refl, sym, ap, subst}
use Rattle.gen_work.specs.GenLines.{gen_lines}
use Rattle.command_line.specs.declared.modes.Mode.{Mode}
use Rattle.puddle_cli.specs.declared.show.View.TheVariants as views
use Rattle.puddle_cli.specs.Status.{status_fault}
use Rattle.puddle_cli.specs.Views.{text_of}
use Rattle.puddle_cli.specs.Modes.{RunsScript, RunsGenerated, Shows, DoesBy}
use Rattle.puddle_cli.proofs.Statuses.{done_by}
use Rattle.puddle_cli.proofs.top.puddle_main.Goals as goal

pub returns-in-Ok-Run-clause-does : goal.returns-in-Ok-Run-clause-does
returns-in-Ok-Run-clause-does g c = λ t told.
    let runs = c.run.ensures in
    let does : RunsScript c.run.result (g.H.Host.counts c.args.host.now) (g.H.Host.counts c.run.new.h) (g.H.Host.state c.args.host.now) (g.H.Host.state c.run.new.h) = record {
      takes = runs.takes t;
      says = runs.speaks t;
      not_usable = runs.not_usable t;
      not_sound = runs.not_sound t;
      stays = runs.unchanged t;
      stays_counted = runs.stays_counted t;
      completes = λ rested sound none. runs.completes t rested sound none.faults none.cuts;
      headline = runs.headline t;
    } in
    subst (λ (m : Option Mode). DoesBy m c.run.result (g.H.Host.counts c.args.host.now) (g.H.Host.counts c.run.new.h) (g.H.Host.state c.args.host.now) (g.H.Host.state c.run.new.h))
    (sym (rw c.in-Ok-Run.field-0-is at c.in-Ok-Run.ensures.ok)) does

pub returns-in-Ok-Layout-clause-does : goal.returns-in-Ok-Layout-clause-does
returns-in-Ok-Layout-clause-does g c = λ t told.
    let shows = c.show.ensures in
    let does : Shows (text_of views.Layout) c.show.result (g.H.Host.counts c.args.host.now) (g.H.Host.counts c.show.new.h) (g.H.Host.state c.args.host.now) (g.H.Host.state c.show.new.h) = record {
      not_usable = shows.not_usable t;
      stays = shows.unchanged t;
      completes = λ sound none. done_by _ _ _ shows.status shows.never_too_long shows.cause none.faults none.cuts (λ refused. sound ((shows.not_usable t (ap status_fault refused)).0 refused));
      says = shows.says t;
      in_the_end = shows.in_the_end t;
      moments = λ rested s world. shows.moments t _ refl rested s world;
      tables = λ rested s world. shows.tables t _ refl rested s world;
      in_start = λ rested s world. shows.in_start t _ refl rested s world;
      does = λ rested s world. shows.does t _ refl rested s world;
      rest = shows.rest t;
    } in
    subst (λ (m : Option Mode). DoesBy m c.show.result (g.H.Host.counts c.args.host.now) (g.H.Host.counts c.show.new.h) (g.H.Host.state c.args.host.now) (g.H.Host.state c.show.new.h))
    (sym (rw c.in-Ok-Layout.field-0-is at c.in-Ok-Layout.ensures.ok)) does

pub returns-in-Ok-Check-clause-does : goal.returns-in-Ok-Check-clause-does
returns-in-Ok-Check-clause-does g c = λ t told.
    let shows = c.show-in-Ok-Check.ensures in
    let does : Shows (text_of views.Check) c.show-in-Ok-Check.result (g.H.Host.counts c.args.host.now) (g.H.Host.counts c.show-in-Ok-Check.new.h) (g.H.Host.state c.args.host.now) (g.H.Host.state c.show-in-Ok-Check.new.h) = record {
      not_usable = shows.not_usable t;
      stays = shows.unchanged t;
      completes = λ sound none. done_by _ _ _ shows.status shows.never_too_long shows.cause none.faults none.cuts (λ refused. sound ((shows.not_usable t (ap status_fault refused)).0 refused));
      says = shows.says t;
      in_the_end = shows.in_the_end t;
      moments = λ rested s world. shows.moments t _ refl rested s world;
      tables = λ rested s world. shows.tables t _ refl rested s world;
      in_start = λ rested s world. shows.in_start t _ refl rested s world;
      does = λ rested s world. shows.does t _ refl rested s world;
      rest = shows.rest t;
    } in
    subst (λ (m : Option Mode). DoesBy m c.show-in-Ok-Check.result (g.H.Host.counts c.args.host.now) (g.H.Host.counts c.show-in-Ok-Check.new.h) (g.H.Host.state c.args.host.now) (g.H.Host.state c.show-in-Ok-Check.new.h))
    (sym (rw c.in-Ok-Check.field-0-is at c.in-Ok-Check.ensures.ok)) does

pub returns-in-Ok-Gen-clause-does : goal.returns-in-Ok-Gen-clause-does
returns-in-Ok-Gen-clause-does g c = λ t told.
    let runs = c.generate.ensures in
    let does : RunsGenerated (gen_lines c.in-Ok-Gen.seed c.in-Ok-Gen.count) c.generate.result (g.H.Host.counts c.args.host.now) (g.H.Host.counts c.generate.new.h) (g.H.Host.state c.args.host.now) (g.H.Host.state c.generate.new.h) = record {
      keeps = runs.rest t;
      says = runs.speaks t;
      not_usable = runs.not_usable t;
      not_sound = runs.not_sound t;
      stays = runs.unchanged t;
      stays_counted = runs.stays_counted t;
      completes = λ rested sound none. runs.completes t rested sound none.faults none.cuts;
      runs = runs.runs t;
    } in
    subst (λ (m : Option Mode). DoesBy m c.generate.result (g.H.Host.counts c.args.host.now) (g.H.Host.counts c.generate.new.h) (g.H.Host.state c.args.host.now) (g.H.Host.state c.generate.new.h))
    (sym (rw c.in-Ok-Gen.field-0-is at c.in-Ok-Gen.ensures.ok)) does
