use Rattle.std.proofs.Common.{◌≡◌, map, take}
use Rattle.registry.specs.Placing.{type_of}
use Rattle.pud_import.proofs.new_types.in_records.Given as goal

abbrev pub invariant-loop-i : goal.invariant-loop-i
invariant-loop-i l = record {
  types : map type_of l.new.items ≡ take l.i l.types;
  records : map (λ t. t.record_number) l.new.items ≡ take l.i l.records;
}
