use Rattle.std.proofs.Common.{ℕ, ◌+◌, ap, refl}
use Rattle.std.proofs.lemmas.Option.{slice_get_within}
use Rattle.pm_model.specs.Counts.{fault_of}
use Rattle.hybrid_tx.proofs.Objects.FieldPut.{KeepsOpenOn-later}
use Rattle.hybrid_tx.proofs.Tx.later_at.Goals as goal

pub defer_in_frame-requires-clause-there : goal.defer_in_frame-requires-clause-there
defer_in_frame-requires-clause-there g c = slice_get_within c.args.pool.now c.args.at.now.ordinal (c.args.at.now.frame, c.requires.within.puddle) c.requires.within.there

pub returns-clause-runs : goal.returns-clause-runs
returns-clause-runs g c = λ t types before graph_before now deferred s x placed rewritten is_open may place word.
    KeepsOpenOn-later c.args.frames c.args.pool.now types c.args.self.now.log _ before graph_before now deferred s c.args.f x (g.H.Host.state c.args.h.now) is_open may
    _ _ c.args.at.now c.args.word (fault_of c.defer_in_frame.result) _ _ placed rewritten c.requires.device c.requires.place c.defer_in_frame.ensures.at
    refl c.requires.within place word (ap (λ (k : ℕ). k + 2 + c.args.f) c.slot_begins.ensures) (c.defer_in_frame.ensures.defers t c.args.frames placed c.requires.device c.requires.place)
