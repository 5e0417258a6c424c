use Rattle.std.proofs.Common.{◌≡◌, ◌≤◌, ℕ, ◌+◌, ◌*◌, ◌^◌, ◌<◌, length, List, Option, Some, None, Bor}
use Rattle.pud_defs.specs.StateMachine.Grammar.{listed_map}
use Rattle.script.specs.Pieces.{pieces_of}
use Rattle.script.proofs.FieldLists.{map_after}
use Rattle.script.proofs.fields.read_map.Given as goal

-- the number of bytes that are left, and one more for their last piece
abbrev pub left_of : Option (Bor (List ℕ)) → ℕ
left_of None = 0
left_of (Some bytes) = length bytes.now + 1

abbrev pub invariant-loop-rest : goal.invariant-loop-rest
invariant-loop-rest l = record {
  same : map_after l.fields l.least l.map (pieces_of 44 l.rest) ≡ listed_map l.fields l.fn.list;
  ascending : l.least ≤ l.fields;
  fits : l.map < l.fields * 2 ^ 32 + 2 ^ l.least;
}

abbrev pub decreases-loop-rest : goal.decreases-loop-rest
decreases-loop-rest l = left_of l.rest
