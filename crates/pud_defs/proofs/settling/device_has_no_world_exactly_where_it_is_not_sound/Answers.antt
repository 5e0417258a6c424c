use Rattle.pud_defs.proofs.StateMachine.Worlds.{unsound_of_none, world_of-unsound}
use Rattle.pud_defs.proofs.settling.device_has_no_world_exactly_where_it_is_not_sound.Goals as goal

pub returns : goal.returns
returns c = λ size image. (unsound_of_none size image, world_of-unsound size image)
