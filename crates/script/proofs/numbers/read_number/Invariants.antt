use Rattle.std.proofs.Common.{◌≡◌, ◌^◌, ◌<◌, drop}
use Rattle.pud_defs.specs.StateMachine.Grammar.{decimal_of}
use Rattle.script.proofs.Digits.{word_of, number_after}
use Rattle.script.proofs.numbers.read_number.Given as goal

abbrev pub invariant-loop-digit : goal.invariant-loop-digit
invariant-loop-digit l = record { same : number_after l.value (drop l.digit-index l.digits) ≡ word_of (decimal_of l.digits); fits : l.value < 2 ^ 64 }
