-- Lines that read fields, and what the mode `check` prints, for pools with a graph and pools without one.
use Rattle.std.proofs.Common.{◌≡◌, ℕ, ◌+◌, List, [], ◌∷◌, replicate, codes, refl}
use Rattle.pud_defs.specs.declared.space.TheConstants.{FRAME_MAGIC, FRAME_MAGIC_WORD, FRAME_NUMBER_WORD, FRAME_ORDINAL_WORD, NEXT_SERIAL_WORD, SLOT_SERIAL_WORD, SLOT_TYPE_WORD, SLOT_FIELDS_WORD}
use Rattle.pud_defs.specs.declared.objects.FieldValue.TheVariants.{Num, Ref}
use Rattle.pud_defs.specs.Formats.Image.{Image, image_with}
use Rattle.pud_defs.specs.RegistryTables.Spaces.{owner}
use Rattle.pud_defs.specs.Formats.Bases.{base_at}
use Rattle.pud_defs.specs.Formats.Geometry.{class_slot_at}
use Rattle.pud_defs.specs.PoolGraphs.Stored.{Stored}
use Rattle.pud_defs.specs.PoolGraphs.Graph.{Graph}
use Rattle.pud_defs.specs.PoolGraphs.Holdings.{Holding}
use Rattle.pud_defs.specs.PoolGraphs.Holdings.Holding.{Sound, Wild}
use Rattle.pud_defs.specs.RegistryTables.Tables.{Pool}
use Rattle.pud_defs.specs.StateMachine.World.{World, blank_world}
use Rattle.pud_defs.specs.Output.CheckText.{check_text}
use Rattle.pud_defs.proofs.Examples.Opened.{opened}
use Rattle.pud_defs.proofs.Examples.Pools.{blank_of, said, after_lines, lines_said}

-- the root is object 1, which stores 10 and names object 2; object 2 stores 0 and names none
abbrev pub two_objects : Graph
two_objects = record {
  next_serial = 3;
  root = 1;
  objects = (1, record { type_id = 1; class = 0; fields = Num 10 ∷ Ref 2 ∷ [] }) ∷ (2, record { type_id = 1; class = 0; fields = Num 0 ∷ Ref 0 ∷ [] }) ∷ [];
}

-- the frame of a puddle with one object in slot 0, of type 2, whose first two fields store 10 and 0
abbrev pub frame : Image
frame =
    image_with (class_slot_at 0 0 + SLOT_FIELDS_WORD) 10 (image_with (class_slot_at 0 0 + SLOT_TYPE_WORD) 2 (image_with (class_slot_at 0 0 + SLOT_SERIAL_WORD) 1
    (image_with NEXT_SERIAL_WORD 2 (image_with FRAME_ORDINAL_WORD 0 (image_with FRAME_NUMBER_WORD 4 (image_with FRAME_MAGIC_WORD FRAME_MAGIC (λ _. 0)))))))

-- what a pool of one puddle stores in this frame
abbrev pub one_object : Stored
one_object = record { puddles = record { number = 4; base = base_at 1; old_base = base_at 1; frontier = 63; class = 0 } ∷ []; word = λ _. frame }

-- a pool of one puddle, owned by user 5 and group 5
abbrev pub pool_holding : (mode number : ℕ) → Holding → Pool
pool_holding mode number holding = record { owner = owner 5 5; mode = mode; number = number; classes = 0 ∷ []; holding = holding }

-- Type 1 is defined and type 2 is not. So pool a, with mode 640, has a graph, and pool b, with mode 600, is wild.
abbrev pub sound_and_wild : World
sound_and_wild = record (blank_of 4) {
  stored = record (blank_world 4 7) {
    next_number = 5;
    types = (1, 8589934594) ∷ [];
    pools = (97 ∷ replicate 15 0, pool_holding 416 1 (Sound two_objects)) ∷ (98 ∷ replicate 15 0, pool_holding 384 3 (Wild one_object)) ∷ [];
  };
}

-- the same with three clients: the owner, a user of the owner's group, and another user
abbrev with_three_clients : World
with_three_clients = after_lines sound_and_wild (codes "client 0 5 5" ∷ codes "client 1 6 5" ∷ codes "client 2 6 6" ∷ [])

-- ---- what `check` prints

no_pools : check_text (blank_world 4 7) ≡ lines_said (codes "pools 0" ∷ [])
unfolding opened
no_pools = refl

new_pool : check_text (after_lines (blank_of 4) (codes "client 0 5 5" ∷ codes "pool 0 a_1 600" ∷ [])).stored ≡ lines_said (codes "a_1 sound objects 0 puddles 1" ∷ codes "pools 1" ∷ [])
unfolding opened after_lines
new_pool = refl

sound_and_wild_pools : check_text sound_and_wild.stored ≡ lines_said (codes "a sound objects 2 puddles 1" ∷ codes "b wild" ∷ codes "pools 2" ∷ [])
unfolding opened
sound_and_wild_pools = refl

-- an imported pool may have several puddles
several_puddles : check_text (record sound_and_wild.stored { pools = (97 ∷ replicate 15 0, record (pool_holding 416 1 (Sound two_objects)) { classes = replicate 16 0 }) ∷ [] }) ≡ lines_said (codes "a sound objects 2 puddles 16" ∷ codes "pools 1" ∷ [])
unfolding opened
several_puddles = refl

-- ---- fields that are read

-- a number, a pointer to an object, a null pointer
fields_read : said with_three_clients (codes "get 0 a 1.0" ∷ codes "get 0 a 1.1" ∷ codes "get 0 a 2.0" ∷ codes "get 0 a 2.1" ∷ []) ≡ lines_said (codes "ok 10" ∷ codes "ok @2" ∷ codes "ok 0" ∷ codes "ok @0" ∷ [])
unfolding opened said after_lines
fields_read = refl

-- reading changes nothing
nothing_changed : after_lines with_three_clients (codes "get 0 a 1.0" ∷ codes "get 0 b 1.0" ∷ []) ≡ with_three_clients
unfolding opened after_lines
nothing_changed = refl

-- after a power loss no client is present, and the pools store what they stored
read_after_a_cut : said with_three_clients (codes "cut 1" ∷ codes "get 0 a 1.0" ∷ codes "client 0 5 5" ∷ codes "get 0 a 1.0" ∷ []) ≡ lines_said (codes "ok" ∷ codes "no client" ∷ codes "ok" ∷ codes "ok 10" ∷ [])
unfolding opened said after_lines
read_after_a_cut = refl

-- ---- refusals, each on a line to which later causes apply too

bad_first : said sound_and_wild (codes "get 8 z 3.30" ∷ codes "get 0 z 0.2" ∷ []) ≡ lines_said (codes "no bad" ∷ codes "no bad" ∷ [])
unfolding opened said
bad_first = refl

no_client : said sound_and_wild (codes "get 2 z 3.2" ∷ codes "get 2 b 3.2" ∷ codes "get 2 a 3.2" ∷ []) ≡ lines_said (codes "no client" ∷ codes "no client" ∷ codes "no client" ∷ [])
unfolding opened said
no_client = refl

no_pool : said with_three_clients (codes "get 2 z 3.2" ∷ []) ≡ lines_said (codes "no pool" ∷ [])
unfolding opened said after_lines
no_pool = refl

wild_before_denied : said with_three_clients (codes "get 2 b 3.2" ∷ codes "get 0 b 1.0" ∷ []) ≡ lines_said (codes "no wild" ∷ codes "no wild" ∷ [])
unfolding opened said after_lines
wild_before_denied = refl

denied_before_object : said with_three_clients (codes "get 2 a 3.2" ∷ codes "get 2 a 1.0" ∷ []) ≡ lines_said (codes "no denied" ∷ codes "no denied" ∷ [])
unfolding opened said after_lines
denied_before_object = refl

object_before_field : said with_three_clients (codes "get 0 a 3.2" ∷ codes "get 0 a 18446744073709551615.0" ∷ []) ≡ lines_said (codes "no object" ∷ codes "no object" ∷ [])
unfolding opened said after_lines
object_before_field = refl

no_field : said with_three_clients (codes "get 0 a 1.2" ∷ codes "get 0 a 2.29" ∷ []) ≡ lines_said (codes "no field" ∷ codes "no field" ∷ [])
unfolding opened said after_lines
no_field = refl

-- ---- rights: the digit of the one class that fits decides

-- a change of the mode, and then a reading by each of the three clients
abbrev read_under : List ℕ → List (List ℕ)
read_under change = change ∷ codes "get 0 a 1.0" ∷ codes "get 1 a 1.0" ∷ codes "get 2 a 1.0" ∷ []

owner_alone : said with_three_clients (read_under (codes "chmod 0 a 422")) ≡ lines_said (codes "ok" ∷ codes "ok 10" ∷ codes "no denied" ∷ codes "no denied" ∷ [])
unfolding opened said after_lines
owner_alone = refl

group_alone : said with_three_clients (read_under (codes "chmod 0 a 060")) ≡ lines_said (codes "ok" ∷ codes "no denied" ∷ codes "ok 10" ∷ codes "no denied" ∷ [])
unfolding opened said after_lines
group_alone = refl

others_alone : said with_three_clients (read_under (codes "chmod 0 a 004")) ≡ lines_said (codes "ok" ∷ codes "no denied" ∷ codes "no denied" ∷ codes "ok 10" ∷ [])
unfolding opened said after_lines
others_alone = refl

-- the owner is still the owner in another group
owner_of_another_group : said with_three_clients (codes "client 3 5 6" ∷ codes "get 3 a 1.0" ∷ codes "chmod 3 a 066" ∷ codes "get 3 a 1.0" ∷ []) ≡ lines_said (codes "ok" ∷ codes "ok 10" ∷ codes "ok" ∷ codes "no denied" ∷ [])
unfolding opened said after_lines
owner_of_another_group = refl

-- ---- a wild pool

-- once the missing type is defined, what is stored is a graph
type_makes_it_readable : said with_three_clients (codes "get 0 b 1.0" ∷ codes "type 2 2 1" ∷ codes "get 0 b 1.0" ∷ codes "get 0 b 1.1" ∷ codes "get 2 b 1.0" ∷ codes "get 0 b 1.2" ∷ [])
    ≡ lines_said (codes "no wild" ∷ codes "ok" ∷ codes "ok 10" ∷ codes "ok @0" ∷ codes "no denied" ∷ codes "no field" ∷ [])
unfolding opened said after_lines
type_makes_it_readable = refl

both_are_sound : check_text (after_lines sound_and_wild (codes "type 2 2 1" ∷ [])).stored ≡ lines_said (codes "a sound objects 2 puddles 1" ∷ codes "b sound objects 1 puddles 1" ∷ codes "pools 2" ∷ [])
unfolding opened after_lines
both_are_sound = refl

-- another type does not make it one, and what is stored does not change
another_type : (after_lines sound_and_wild (codes "type 3 2 1" ∷ [])).stored ≡ record sound_and_wild.stored { types = (1, 8589934594) ∷ (3, 8589934594) ∷ [] }
unfolding opened after_lines
another_type = refl

-- if the map makes the field that stores 10 a pointer, the pool stays wild for good
wild_for_good : said with_three_clients (codes "type 2 1 0" ∷ codes "get 0 b 1.0" ∷ codes "type 2 2 1" ∷ codes "get 0 b 1.0" ∷ []) ≡ lines_said (codes "ok" ∷ codes "no wild" ∷ codes "no clash" ∷ codes "no wild" ∷ [])
unfolding opened said after_lines
wild_for_good = refl

-- a wild pool's mode can be changed, and the pool can be dropped, like any other pool's
wild_pools_go : said with_three_clients (codes "chmod 0 b 640" ∷ codes "get 0 b 1.0" ∷ codes "drop 0 b" ∷ codes "get 0 b 1.0" ∷ []) ≡ lines_said (codes "ok" ∷ codes "no wild" ∷ codes "ok" ∷ codes "no pool" ∷ [])
unfolding opened said after_lines
wild_pools_go = refl
