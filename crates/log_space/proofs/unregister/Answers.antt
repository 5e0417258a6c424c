use Rattle.std.proofs.Common.{[], ◌∷◌, None}
use Rattle.pm_model.specs.Counts.{fault_of}
use Rattle.pm_model.specs.Masks.{masked, masked_state}
use Rattle.log_space.proofs.Writing.{GivesOwner-unregistration, MovesBy-record, Unregisters-moves}
use Rattle.log_space.proofs.unregister.Goals as goal

pub returns-clause-unregisters : goal.returns-clause-unregisters
returns-clause-unregisters g c = λ t size same s mask off settled.
    let slot = c.args.slot in
    let a = g.H.Host.state c.args.h.now in
    let gives = GivesOwner-unregistration s slot (masked mask a.now.words) c.requires.known in
    Unregisters-moves size s slot (fault_of c.write_record.result) (masked_state mask a) (masked_state mask (g.H.Host.state c.write_record.new.h)) gives
    (c.write_record.ensures.moves t size same s s mask off settled (MovesBy-record size s slot None (0 ∷ []) (masked mask a.now.words) gives settled))
