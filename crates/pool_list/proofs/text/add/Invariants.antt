use Rattle.std.proofs.Common.{◌≡◌, ◌++◌, take}
use Rattle.pool_list.proofs.text.add.Given as goal

abbrev pub invariant-loop-byte : goal.invariant-loop-byte
invariant-loop-byte l = l.text.items ≡ l.initial.text.items ++ take l.byte-index l.bytes
