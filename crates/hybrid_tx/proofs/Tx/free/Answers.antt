use Rattle.std.proofs.Common.{option_map, sym, ap, refl, ◌∙◌}
use Rattle.std.proofs.lemmas.Option.{none-some}
use Rattle.std.proofs.lemmas.Result.{err_from_is_err_and}
use Rattle.pm_model.specs.Words.{reads}
use Rattle.pm_model.proofs.Reading.{still_reads, Changes-read}
use Rattle.puddle_header.specs.Places.{place_of_slot}
use Rattle.hybrid_tx.proofs.Objects.FieldsSet.{placed_if_live}
use Rattle.hybrid_tx.proofs.Objects.FieldPut.{KeepsOpenOn-stopped}
use Rattle.hybrid_tx.proofs.Tx.free.Goals as goal

pub returns-in_err-at-clause-changes : goal.returns-in_err-at-clause-changes
returns-in_err-at-clause-changes g c =
    let p = err_from_is_err_and c.from_residual.result c.from_residual.ensures.1 in
    rw (p.1, p.2) (λ t. Changes-read c.in_err-at.ensures.only_reads t)

pub returns-in_err-at-clause-runs : goal.returns-in_err-at-clause-runs
returns-in_err-at-clause-runs g c =
    let p = err_from_is_err_and c.from_residual.result c.from_residual.ensures.1 in
    rw (p.1, p.2) (λ t types before graph_before now deferred placed rewritten is_open may unnamed.
    KeepsOpenOn-stopped _ _ types c.args.self.now.log _ before graph_before now deferred _ _ _ refl c.in_err-at.ensures.only_reads t is_open)

pub returns-in-Some-clause-runs : goal.returns-in-Some-clause-runs
returns-in-Some-clause-runs g c = λ t.
    rw (← c.in_ok-at.ensures.only_reads.stays t) (λ types before graph_before now deferred placed rewritten is_open may unnamed.
    c.free_at.ensures.runs t types before graph_before now deferred c.args.s placed rewritten is_open may unnamed
    (sym (c.in_ok-at.ensures.found t _ (sym (still_reads c.in_ok-at.ensures.only_reads t refl))) ∙ ap (option_map place_of_slot) c.in-Some.is))

pub returns-in-Some-clause-nothing : goal.returns-in-Some-clause-nothing
returns-in-Some-clause-nothing g c = λ t none.
    absurd (none-some _ (sym none ∙ sym (c.in_ok-at.ensures.found t _ refl) ∙ ap (option_map place_of_slot) c.in-Some.is))

pub returns-in-None-clause-changes : goal.returns-in-None-clause-changes
returns-in-None-clause-changes g c = λ t. Changes-read c.in_ok-at.ensures.only_reads t

pub returns-in-None-clause-runs : goal.returns-in-None-clause-runs
returns-in-None-clause-runs g c = λ t types before graph_before now deferred placed rewritten is_open may unnamed.
    let image = reads (g.H.Host.state c.args.h.now).now.words in
    absurd (placed_if_live types c.args.frames c.args.pool.now image now is_open.is c.args.s may.object may.live (sym (c.in_ok-at.ensures.found t image refl) ∙ ap (option_map place_of_slot) c.in-None.is))

pub returns-in-None-clause-counts : goal.returns-in-None-clause-counts
returns-in-None-clause-counts g c = λ t types before graph_before now deferred is_open may.
    let image = reads (g.H.Host.state c.args.h.now).now.words in
    absurd (placed_if_live types c.args.frames c.args.pool.now image now is_open.is c.args.s may.object may.live (sym (c.in_ok-at.ensures.found t image refl) ∙ ap (option_map place_of_slot) c.in-None.is))
