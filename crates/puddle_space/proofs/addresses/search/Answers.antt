use Rattle.std.proofs.Common.{◌≡◌, ℕ, ◌-◌, ◌/◌, Option, Some, refl, ap, sym, subst, ◌∙◌, arith}
use Rattle.pud_defs.specs.declared.space.TheConstants.{WORD_BYTES}
use Rattle.pud_defs.specs.RegistryTables.Tables.{tables_of}
use Rattle.pud_defs.specs.Formats.Image.{Image}
use Rattle.pud_defs.specs.RegistryTables.Puddles.{puddle_at}
use Rattle.pud_defs.specs.RegistryTables.Places.{first_some, place_in_puddle}
use Rattle.puddle_space.specs.Nearby.{AreNeighbours}
use Rattle.puddle_space.proofs.Located.{located_by_records, first_some-passed, first_some-found, first_some-none, placed_by_base, nowhere_by_base, unplaced_by_base}
use Rattle.pm_model.proofs.Reading.{OnlyReads-none, OnlyReads-then, still_reads}
use Rattle.puddle_space.proofs.addresses.search.Goals as goal

abbrev places : Image → ℕ → ℕ → Option (ℕ × ℕ)
places image address k = place_in_puddle address k (puddle_at image k)

pub loop-frame-init : goal.loop-frame-init
loop-frame-init g c =
    let count : c.args.frames ≡ c.args.frames - 0 = omega arith in
    record {
      stays = refl;
      only_reads = OnlyReads-none;
      passed = λ t image same. located_by_records c.args.frames image c.args.address ∙ ap (first_some (places image c.args.address) 0) count;
      around = λ t image same x inside. located_by_records c.args.frames image x ∙ ap (first_some (places image x) 0) count;
    }

pub returns-in_err-base-clause-neighbours : goal.returns-in_err-base-clause-neighbours
returns-in_err-base-clause-neighbours g c = λ t image same near. subst (AreNeighbours (tables_of c.args.frames image)) (sym c.loop-frame.invariant.stays) near

pub loop-frame-preserved-in_default : goal.loop-frame-preserved-in_default
loop-frame-preserved-in_default g c =
    let l = c.loop-frame in
    let within = c.loop-frame-test.true in
    record {
      stays = l.invariant.stays;
      only_reads = OnlyReads-then l.invariant.only_reads c.in_ok-base.ensures.only_reads;
      passed = λ t image same.
          let base = sym c.in_default.is ∙ c.in_ok-base.ensures.base t image (still_reads l.invariant.only_reads t same) in
          l.invariant.passed t image same
          ∙ first_some-passed (places image c.args.address) l.frame c.args.frames (omega arith) (unplaced_by_base c.args.address l.frame (puddle_at image l.frame) base);
      around = λ t image same x inside.
          let base = sym c.in_default.is ∙ c.in_ok-base.ensures.base t image (still_reads l.invariant.only_reads t same) in
          l.invariant.around t image same x inside
          ∙ first_some-passed (places image x) l.frame c.args.frames (omega arith) (unplaced_by_base x l.frame (puddle_at image l.frame) base);
    }

pub loop-frame-preserved : goal.loop-frame-preserved
loop-frame-preserved g c =
    let l = c.loop-frame in
    let within = c.loop-frame-test.true in
    record {
      stays = l.invariant.stays;
      only_reads = OnlyReads-then l.invariant.only_reads c.in_ok-base.ensures.only_reads;
      passed = λ t image same.
          let base = sym c.in-Some.is ∙ c.in_ok-base.ensures.base t image (still_reads l.invariant.only_reads t same) in
          l.invariant.passed t image same
          ∙ first_some-passed (places image c.args.address) l.frame c.args.frames (omega arith)
          (nowhere_by_base c.args.address l.frame c.in-Some.base (puddle_at image l.frame) base (sym c.word_in.ensures.word ∙ c.in_default-word_in.is));
      around = λ t image same x inside.
          let base = sym c.in-Some.is ∙ c.in_ok-base.ensures.base t image (still_reads l.invariant.only_reads t same) in
          let left = c.beside-gap.ensures x inside in
          l.invariant.around t image same x left.0
          ∙ first_some-passed (places image x) l.frame c.args.frames (omega arith) (nowhere_by_base x l.frame c.in-Some.base (puddle_at image l.frame) base left.1);
    }

pub returns-in-Some-word_in-clause-located : goal.returns-in-Some-word_in-clause-located
returns-in-Some-word_in-clause-located g c = λ t image same.
    let l = c.loop-frame in
    let within = c.loop-frame-test.true in
    let base = sym c.in-Some.is ∙ c.in_ok-base.ensures.base t image (still_reads l.invariant.only_reads t same) in
    sym (l.invariant.passed t image same
    ∙ first_some-found (places image c.args.address) l.frame c.args.frames (l.frame, c.in-Some-word_in.word) (omega arith)
    (placed_by_base c.args.address l.frame c.in-Some.base c.in-Some-word_in.word (puddle_at image l.frame) base (sym c.word_in.ensures.word ∙ c.in-Some-word_in.is)))

pub returns-in-Some-word_in-clause-neighbours : goal.returns-in-Some-word_in-clause-neighbours
returns-in-Some-word_in-clause-neighbours g c = λ t image same near.
    let l = c.loop-frame in
    let within = c.loop-frame-test.true in
    let base = sym c.in-Some.is ∙ c.in_ok-base.ensures.base t image (still_reads l.invariant.only_reads t same) in
    record {
      each = λ x low high.
          let word = (x - c.inside.result.base) / WORD_BYTES in
          let there = c.inside.ensures.each x low high in
          l.invariant.around t image same x there.0
          ∙ first_some-found (places image x) l.frame c.args.frames (l.frame, word) (omega arith) (placed_by_base x l.frame c.in-Some.base word (puddle_at image l.frame) base there.1)
          ∙ ap (λ (frame : ℕ). Some (frame, word)) (sym c.inside.ensures.frame);
    }

pub returns-clause-located : goal.returns-clause-located
returns-clause-located g c = λ t image same.
    let past = c.loop-frame-test.false in
    sym (c.loop-frame.invariant.passed t image same ∙ first_some-none (places image c.args.address) c.loop-frame.frame c.args.frames (omega arith))

pub returns-clause-neighbours : goal.returns-clause-neighbours
returns-clause-neighbours g c = λ t image same near. subst (AreNeighbours (tables_of c.args.frames image)) (sym c.loop-frame.invariant.stays) near
