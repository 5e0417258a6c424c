-- The totals of small graphs.
use Rattle.std.proofs.Common.{◌≡◌, ◌-◌, ◌^◌, [], ◌∷◌, refl}
use Rattle.pud_defs.specs.declared.space.TheConstants.{LARGE}
use Rattle.pud_defs.specs.declared.objects.FieldValue.TheVariants.{Num, Ref}
use Rattle.pud_defs.specs.PoolGraphs.Graph.{Graph, empty_graph}
use Rattle.graph_read.specs.Numbers.{number_sum, totals_of}

-- Two objects that name each other, with numbers whose sum is 2^64 + 2.
abbrev pub ring : Graph
ring = record {
  next_serial = 3;
  root = 1;
  objects = (1, record { type_id = 1; class = LARGE; fields = Ref 2 ∷ Num (2 ^ 64 - 1) ∷ [] }) ∷ (2, record { type_id = 1; class = LARGE; fields = Ref 1 ∷ Num 3 ∷ [] }) ∷ [];
}

numbers_wrap_around : number_sum ring ≡ 2
numbers_wrap_around = refl

-- A number in each number field, with the highest sum that there is.
all_numbers : number_sum (record ring { objects = (7, record { type_id = 2; class = LARGE; fields = Num (2 ^ 63) ∷ Num (2 ^ 63 - 1) ∷ Ref 7 ∷ [] }) ∷ [] }) ≡ 2 ^ 64 - 1
all_numbers = refl

-- The totals have the number of objects beside the sum.
ring_totals : totals_of ring ≡ record { objects = 2; sum = 2 }
ring_totals = refl

no_totals : totals_of empty_graph ≡ record { objects = 0; sum = 0 }
no_totals = refl
