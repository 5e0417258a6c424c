use Rattle.std.proofs.Common.{sym, refl, ◌∙◌}
use Rattle.std.proofs.lemmas.Result.{err_from_is_err_and}
use Rattle.pm_model.specs.Words.{reads}
use Rattle.pm_model.proofs.Reading.{still_reads, Changes-read}
use Rattle.hybrid_tx.proofs.Objects.FieldsSet.{word_if_named}
use Rattle.hybrid_tx.proofs.Objects.FieldPut.{KeepsOpenOn-stopped}
use Rattle.hybrid_tx.proofs.Tx.root.Goals as goal

pub returns-in_err-word-clause-changes : goal.returns-in_err-word-clause-changes
returns-in_err-word-clause-changes g c =
    let p = err_from_is_err_and c.from_residual.result c.from_residual.ensures.1 in
    rw (p.1, p.2) (λ t. Changes-read c.in_err-word.ensures.only_reads t)

pub returns-in_err-word-clause-runs : goal.returns-in_err-word-clause-runs
returns-in_err-word-clause-runs g c =
    let p = err_from_is_err_and c.from_residual.result c.from_residual.ensures.1 in
    rw (p.1, p.2) (λ t types before graph_before now deferred placed rewritten is_open may.
    KeepsOpenOn-stopped _ _ types c.args.self.now.log _ before graph_before now deferred _ _ _ refl c.in_err-word.ensures.only_reads t is_open)

pub returns-in-Some-clause-runs : goal.returns-in-Some-clause-runs
returns-in-Some-clause-runs g c = λ t.
    rw (← c.in_ok-word.ensures.only_reads.stays t) (λ types before graph_before now deferred placed rewritten is_open may.
    c.root_at.ensures.runs t types before graph_before now deferred c.args.s placed rewritten is_open (sym (c.in_ok-word.ensures.word t placed.legal _ (sym (still_reads c.in_ok-word.ensures.only_reads t refl))) ∙ c.in-Some.is))

pub returns-in-Some-clause-counts : goal.returns-in-Some-clause-counts
returns-in-Some-clause-counts g c = λ t.
    rw (← c.in_ok-word.ensures.only_reads.stays t) (λ types before graph_before now deferred placed is_open may. c.root_at.ensures.counts t types before graph_before now deferred is_open)

pub returns-in-None-clause-changes : goal.returns-in-None-clause-changes
returns-in-None-clause-changes g c = λ t. Changes-read c.in_ok-word.ensures.only_reads t

pub returns-in-None-clause-runs : goal.returns-in-None-clause-runs
returns-in-None-clause-runs g c = λ t types before graph_before now deferred placed rewritten is_open may.
    let image = reads (g.H.Host.state c.args.h.now).now.words in
    absurd (word_if_named types c.args.frames c.args.pool.now image now is_open.is c.args.s may (sym (c.in_ok-word.ensures.word t placed.legal image refl) ∙ c.in-None.is))

pub returns-in-None-clause-counts : goal.returns-in-None-clause-counts
returns-in-None-clause-counts g c = λ t types before graph_before now deferred placed is_open may.
    let image = reads (g.H.Host.state c.args.h.now).now.words in
    absurd (word_if_named types c.args.frames c.args.pool.now image now is_open.is c.args.s may (sym (c.in_ok-word.ensures.word t placed.legal image refl) ∙ c.in-None.is))
