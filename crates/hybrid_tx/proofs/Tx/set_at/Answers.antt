use Rattle.std.proofs.Common.{ℕ, ◌+◌, [], ◌∷◌, ap, refl, subst}
use Rattle.std.proofs.lemmas.Option.{slice_get_within}
use Rattle.pm_model.specs.Counts.{fault_of}
use Rattle.pm_model.specs.Changes.{Changes}
use Rattle.pud_defs.specs.Formats.Frames.{frame_at}
use Rattle.hybrid_tx.specs.Objects.Stores.{ByPut}
use Rattle.hybrid_tx.proofs.Objects.FieldPut.{KeepsOpenOn-set}
use Rattle.hybrid_tx.proofs.Tx.set_at.Goals as goal

pub put_in_frame-requires-clause-there : goal.put_in_frame-requires-clause-there
put_in_frame-requires-clause-there g c = slice_get_within c.args.pool.now c.args.at.now.ordinal (c.args.at.now.frame, c.requires.within.puddle) c.requires.within.there

pub returns-clause-runs : goal.returns-clause-runs
returns-clause-runs g c = λ t types before graph_before now deferred s x placed rewritten is_open may place word.
    KeepsOpenOn-set c.args.frames c.args.pool.now types c.args.self.now.log _ before graph_before now deferred s c.args.f x (g.H.Host.state c.args.h.now) is_open may
    _ _ c.args.at.now c.args.word (fault_of c.put_in_frame.result) _ _ placed rewritten c.requires.device c.requires.place c.put_in_frame.ensures.at
    refl c.requires.within place word (ap (λ (k : ℕ). k + 2 + c.args.f) c.slot_begins.ensures) (c.put_in_frame.ensures.saves t placed)

pub returns-clause-puts : goal.returns-clause-puts
returns-clause-puts g c = λ t.
    let at = c.args.at.now in
    subst (λ (k : ℕ). Changes (ByPut c.args.self.now.log.gate_at (frame_at c.args.frames at.frame + k) (c.args.word ∷ [])) (fault_of c.put_in_frame.result) (g.H.Host.state c.args.h.now) (g.H.Host.state c.put_in_frame.new.h))
    (ap (λ (k : ℕ). k + 2 + c.args.f) c.slot_begins.ensures) (c.put_in_frame.ensures.puts t (at.frame, c.requires.within.puddle) c.requires.within.there)
