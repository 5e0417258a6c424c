-- A state that stands for the content of a host that tells none.
use Rattle.std.specs.Prelude.{[], None}
use Rattle.pm_model.specs.Words.{single}
use Rattle.pm_model.specs.Moments.{State}

abbrev pub silent : State
silent = record {
  now = record { said = []; words = λ word. single 0 };
  past = [];
  script = [];
  shelf = λ name. None;
}
