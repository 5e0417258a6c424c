-- What the modes print that show a device.
use Rattle.std.specs.Prelude.{ℕ, List, Option}
use Rattle.pm_model.specs.declared.host.HostFault.{HostFault}
use Rattle.pm_model.specs.Moments.{State}
use Rattle.pm_model.specs.Calls.{Says}
use Rattle.pud_defs.specs.Formats.Image.{Image}
use Rattle.pud_defs.specs.Output.LayoutText.{layout_text}
use Rattle.pud_defs.specs.Output.CheckText.{check_text}
use Rattle.pud_defs.specs.StateMachine.World.{stored_by}
use Rattle.puddle_cli.specs.declared.show.View.{View}
use Rattle.puddle_cli.specs.declared.show.View.TheVariants.{Layout, Check}

-- What a view shows of a device that has this image, with nothing to replay.
abbrev pub text_of : View → Image → List ℕ
text_of Layout image = layout_text image
text_of Check image = check_text (stored_by image)

-- Some text was printed, or with a fault a prefix of it. Nothing else happened.
pub record SaysSome (fault : Option HostFault) (old new : State) : Type 0 where
  pub text : List ℕ
  pub says : Says text fault old new
