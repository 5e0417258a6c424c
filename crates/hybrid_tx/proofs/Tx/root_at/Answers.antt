use Rattle.std.proofs.Common.{◌≡◌, ◌<◌, length, sym, refl, ◌∙◌, arith}
use Rattle.std.proofs.lemmas.Bool.{eqb-true}
use Rattle.std.proofs.lemmas.Option.{slice_get-get_or, slice_get_within}
use Rattle.pm_model.specs.Words.{reads}
use Rattle.pm_model.specs.Counts.{fault_of}
use Rattle.graph_read.proofs.Referenced.{none_held}
use Rattle.graph_read.proofs.Judging.{entry, positive_length}
use Rattle.hybrid_tx.proofs.Objects.RootPut.{KeepsOpenOn-root}
use Rattle.hybrid_tx.proofs.Tx.root_at.Goals as goal

pub returns-then-is_empty-clause-runs : goal.returns-then-is_empty-clause-runs
returns-then-is_empty-clause-runs g c = λ t types before graph_before now deferred s placed rewritten is_open word.
    absurd (none_held types c.args.frames c.args.pool.now (reads (g.H.Host.state c.args.h.now).now.words) now (sym c.is_empty.ensures ∙ c.if-is_empty.true) is_open.is)

pub returns-then-is_empty-clause-counts : goal.returns-then-is_empty-clause-counts
returns-then-is_empty-clause-counts g c = λ t types before graph_before now deferred is_open.
    absurd (none_held types c.args.frames c.args.pool.now (reads (g.H.Host.state c.args.h.now).now.words) now (sym c.is_empty.ensures ∙ c.if-is_empty.true) is_open.is)

pub returns-then-is_empty-clause-puts : goal.returns-then-is_empty-clause-puts
returns-then-is_empty-clause-puts g c = λ t e there.
    let none : length c.args.pool.now ≡ 0 = eqb-true (length c.args.pool.now) 0 (sym c.is_empty.ensures ∙ c.if-is_empty.true) in
    let some = slice_get_within c.args.pool.now 0 e there in
    absurd (omega (arith, none, some))

pub returns-clause-runs : goal.returns-clause-runs
returns-clause-runs g c = λ t types before graph_before now deferred s placed rewritten is_open word.
    let some : 0 < length c.args.pool.now = positive_length c.args.pool.now (sym c.is_empty.ensures ∙ c.if-is_empty.false) in
    KeepsOpenOn-root c.args.frames c.args.pool.now types c.args.self.now.log _ before graph_before now deferred (g.H.Host.state c.args.h.now) is_open _ s c.args.word (entry c.args.pool.now 0) (fault_of c.put_in_frame.result) _ _
    (slice_get-get_or c.args.pool.now 0 _ some) placed rewritten c.requires.device c.requires.place c.put_in_frame.ensures.at refl word (c.put_in_frame.ensures.saves t placed)
