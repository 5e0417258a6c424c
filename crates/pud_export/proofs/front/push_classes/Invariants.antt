use Rattle.std.proofs.Common.{◌≡◌, ◌++◌, map, take}
use Rattle.pud_export.proofs.front.push_classes.Given as goal

abbrev pub invariant-loop-puddle : goal.invariant-loop-puddle
invariant-loop-puddle l = l.words ≡ l.initial.words ++ map (λ e. e.1.class) (take l.puddle-index l.pool)
