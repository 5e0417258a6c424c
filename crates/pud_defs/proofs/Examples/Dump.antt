-- Small graphs and their texts.
use Rattle.std.proofs.Common.{◌≡◌, [], ◌∷◌, codes, refl}
use Rattle.pud_defs.specs.declared.objects.FieldValue.TheVariants.{Num}
use Rattle.pud_defs.specs.PoolGraphs.Graph.{empty_graph}
use Rattle.pud_defs.specs.Output.DumpText.{dump_text}
use Rattle.pud_defs.proofs.Examples.Opened.{opened}
use Rattle.pud_defs.proofs.Examples.Graph.{object}

nothing_made : dump_text empty_graph ≡ codes "{\"next\":1,\"objects\":[],\"root\":null}"
unfolding opened
nothing_made = refl

-- one object, which names none and is not the root
one_alone : dump_text (record { next_serial = 2; root = 0; objects = (1, object 10 0) ∷ [] }) ≡ codes "{\"next\":2,\"objects\":[{\"fields\":[10,null],\"serial\":1,\"type\":1}],\"root\":null}"
unfolding opened
one_alone = refl

-- two objects that name each other
pair : dump_text (record { next_serial = 3; root = 1; objects = (1, object 10 2) ∷ (2, object 0 1) ∷ [] })
    ≡ codes "{\"next\":3,\"objects\":[{\"fields\":[10,\"@2\"],\"serial\":1,\"type\":1},{\"fields\":[0,\"@1\"],\"serial\":2,\"type\":1}],\"root\":\"@1\"}"
unfolding opened
pair = refl

-- the greatest number and the greatest serial
greatest : dump_text (record {
  next_serial = 9223372036854775808;
  root = 9223372036854775807;
  objects = (9223372036854775807, record { type_id = 65535; class = 0; fields = Num 18446744073709551615 ∷ [] }) ∷ [];
}) ≡ codes "{\"next\":9223372036854775808,\"objects\":[{\"fields\":[18446744073709551615],\"serial\":9223372036854775807,\"type\":65535}],\"root\":\"@9223372036854775807\"}"
unfolding opened
greatest = refl
