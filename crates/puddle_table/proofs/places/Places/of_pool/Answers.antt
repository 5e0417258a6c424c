use Rattle.std.proofs.Common.{◌≡◌, ℕ, ◌+◌, ◌<◌, ◌≤◌, List, All, Some, None, slice_index_or, length, sym, ap, ◌∙◌, subst}
use Rattle.pud_defs.specs.declared.records.Puddle.{Puddle}
use Rattle.pud_defs.specs.RegistryTables.Tables.{tables_of}
use Rattle.puddle_table.specs.Placed.{Placed, frame_of_puddle}
use Rattle.puddle_table.proofs.Turning.{ReadsOn, ReadsOn-none, ReadsOn-more, ReadsOn-end, frame_below, frames_more, one_more}
use Rattle.pm_model.proofs.Reading.{OnlyReads-then, still_reads}
use Rattle.puddle_table.proofs.places.Places.of_pool.Goals as goal

pub returns-in-None-clause-found : goal.returns-in-None-clause-found
returns-in-None-clause-found g c = λ t image e holds.
    let ordinal = c.loop-ordinal.ordinal in
    let here : frame_of_puddle c.args.self.now.frames c.args.pool ordinal ≡ None =
    ap (λ (p : Placed). frame_of_puddle p.frames c.args.pool ordinal) (sym c.self.view_is) ∙ ap (λ (i : ℕ). slice_index_or c.self.inside.frames i None) (sym c.place.ensures.place) ∙ c.in-None.is in
    ReadsOn-none c.args.self.now.count image c.args.self.now holds c.args.pool ordinal c.requires.pool c.loop-ordinal-test.true c.loop-ordinal.found here (c.loop-ordinal.invariant.found t image e holds)

pub loop-ordinal-preserved : goal.loop-ordinal-preserved
loop-ordinal-preserved g c =
    let ordinal = c.loop-ordinal.ordinal in
    let frame = c.in-Some.frame in
    record {
      few = subst (λ (es : List (ℕ × Puddle)). length es ≤ ordinal + 1) (sym c.push.ensures) (one_more (frame, c.in_ok-read_puddle-in-Some.field-0) c.loop-ordinal.found ordinal c.loop-ordinal.invariant.few);
      frames =
          let below : frame < c.args.self.now.count = subst (λ (n : ℕ). frame < n) (ap (λ (p : Placed). p.count) c.self.view_is) (frame_below c.self.inside.count c.self.inside.frames c.place.result frame c.self.invariant.2 c.in-Some.is) in
          subst (λ (es : List (ℕ × Puddle)). All (λ e. e.0 < c.args.self.now.count) es) (sym c.push.ensures)
          (frames_more c.args.self.now.count frame c.in_ok-read_puddle-in-Some.field-0 c.loop-ordinal.found below c.loop-ordinal.invariant.frames);
      only_reads = OnlyReads-then c.loop-ordinal.invariant.only_reads c.in_ok-read_puddle-in-Some.ensures.only_reads;
      found = λ t image e holds.
          let here : frame_of_puddle c.args.self.now.frames c.args.pool ordinal ≡ Some frame =
          ap (λ (p : Placed). frame_of_puddle p.frames c.args.pool ordinal) (sym c.self.view_is) ∙ ap (λ (i : ℕ). slice_index_or c.self.inside.frames i None) (sym c.place.ensures.place) ∙ c.in-Some.is in
          let read = c.in_ok-read_puddle-in-Some.ensures.puddle t image (still_reads c.loop-ordinal.invariant.only_reads t e) in
          subst (ReadsOn (tables_of c.args.self.now.count image) c.args.pool (ordinal + 1)) (sym c.push.ensures)
          (ReadsOn-more c.args.self.now.count image c.args.self.now holds c.args.pool ordinal c.requires.pool c.loop-ordinal-test.true c.loop-ordinal.found frame c.in_ok-read_puddle-in-Some.field-0 here read
          (c.loop-ordinal.invariant.found t image e holds));
    }

pub returns-clause-found : goal.returns-clause-found
returns-clause-found g c = λ t image e holds.
    ReadsOn-end (tables_of c.args.self.now.count image) c.args.pool c.loop-ordinal.ordinal c.loop-ordinal.found c.loop-ordinal-test.false (c.loop-ordinal.invariant.found t image e holds)
