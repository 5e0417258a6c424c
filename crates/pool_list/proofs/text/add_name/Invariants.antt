use Rattle.std.proofs.Common.{◌≡◌, ◌+◌, ◌≤◌, ◌++◌, length, take}
use Rattle.pud_defs.specs.Output.Listing.{name_text}
use Rattle.pool_list.proofs.text.add_name.Given as goal

abbrev pub invariant-loop-byte : goal.invariant-loop-byte
invariant-loop-byte l = record {
  name : l.text.items ≡ l.initial.text.items ++ name_text (take l.byte-index l.name);
  within : length l.text.items ≤ length l.initial.text.items + l.byte-index;
}
