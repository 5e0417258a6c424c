-- A file of one puddle is placed on devices of four frames: on one where its base is free, and on one where it is
-- taken. Also what a file adds to a world.
use Rattle.std.proofs.Common.{◌≡◌, inl, inr, ℕ, zero, suc, ◌+◌, ◌<◌, true, false, [], ◌∷◌, Some, refl, ap, subst, arith}
use Rattle.std.specs.Prelude.{slice_get}
use Rattle.std.proofs.lemmas.Option.{same_Some, none-some}
use Rattle.pud_defs.specs.declared.records.Puddle.{Puddle}
use Rattle.pud_defs.specs.Formats.Geometry.{class_slots}
use Rattle.pud_defs.specs.Formats.Bases.{base_at, is_legal_base}
use Rattle.pud_defs.specs.RegistryTables.Spaces.{owner}
use Rattle.pud_defs.specs.PoolGraphs.Holdings.Holding.{Sound}
use Rattle.pud_defs.specs.RegistryTables.Places.{is_free_base, IsLowestBase}
use Rattle.pud_defs.specs.RegistryTables.Placement.{is_taken_base, placed_frontier, ArePlaced}
use Rattle.pud_defs.specs.StateMachine.Imports.{types_missing, with_types_defined, is_full_for_file, lacks_frames_for_file, with_imported_pool}
use Rattle.pud_defs.specs.RegistryTables.Tables.{Tables, tables_of}
use Rattle.pud_defs.specs.StateMachine.World.{StoredWorld, blank_world}
use Rattle.pud_defs.proofs.Examples.Opened.{opened}
use Rattle.pud_defs.proofs.Examples.Files.{contents}
use Rattle.pud_defs.proofs.Examples.Graph.{types}
use Rattle.pud_defs.proofs.Examples.Tables.{opened_tables, one_pool, short}

-- ---- where its puddle is placed

-- the tables of a device without a pool, and those of a device whose frame 0 has a puddle in the first range of the
-- space
abbrev blank : Tables
blank = tables_of 4 (λ _. 0)

abbrev used : Tables
used = tables_of 4 one_pool

taken : (is_taken_base blank [] (base_at 0) ≡ false) × (is_taken_base used [] (base_at 0) ≡ true) × (is_taken_base blank (base_at 0 ∷ []) (base_at 0) ≡ true)
unfolding opened_tables
taken = (refl, refl, refl)

in_first_range : (lower : ℕ) → is_legal_base lower ≡ true → lower < base_at 1 → lower ≡ base_at 0
in_first_range lower legal below = grind (arith)

second_is_lowest : IsLowestBase used [] (base_at 1)
unfolding opened_tables
second_is_lowest = record { legal = refl; free = refl; lowest = λ lower legal below. ap (is_free_base used []) (in_first_range lower legal below) }

-- what holds for the one puddle of a list holds for each puddle of the list
alone : (P : ℕ → ℕ × Puddle → Type 0) (e : ℕ × Puddle) → P 0 e → (o : ℕ) (d : ℕ × Puddle) → slice_get (e ∷ []) o ≡ Some d → P o d
alone P e here zero d there = subst (P 0) (same_Some e d there) here
alone P e here (suc o) d there = absurd (none-some d there)

-- it keeps its base, and all its pointers stand over that base
abbrev kept : ℕ × Puddle
kept = (0, record { number = 2; base = base_at 0; old_base = base_at 0; frontier = 63; class = 0 })

kept_there : ArePlaced blank 1 (base_at 0 ∷ []) (0 ∷ []) (kept ∷ [])
unfolding opened_tables class_slots
kept_there = record {
  turn = (refl, inl (refl, refl), refl, tt);
  alike = refl;
  frontier = alone (λ o e. e.1.frontier ≡ placed_frontier (base_at 0 ∷ []) (kept ∷ []) e.1) kept refl;
  number = alone (λ o e. e.1.number ≡ 2 + o) kept refl;
}

-- it moves to the second range and into the next frame, and no pointer is rewritten yet
abbrev moved : ℕ × Puddle
moved = (1, record { number = 6; base = 0x100000004000; old_base = base_at 0; frontier = 0; class = 0 })

moved_there : ArePlaced used 5 (base_at 0 ∷ []) (0 ∷ []) (moved ∷ [])
unfolding opened_tables class_slots
moved_there = record {
  turn = (refl, inr (refl, second_is_lowest), refl, tt);
  alike = refl;
  frontier = alone (λ o e. e.1.frontier ≡ placed_frontier (base_at 0 ∷ []) (moved ∷ []) e.1) moved refl;
  number = alone (λ o e. e.1.number ≡ 6 + o) moved refl;
}

-- ---- what it adds to a world

abbrev with_types : StoredWorld
with_types = record { frames = 4; machine = 7; next_number = 1; types = types; pools = [] }

missing : (types_missing [] types ≡ types) × (types_missing types types ≡ []) × (types_missing types ((1, 8589934594) ∷ (2, 1) ∷ []) ≡ (2, 1) ∷ [])
unfolding opened
missing = (refl, refl, refl)

-- its pool, and the types that were not defined; two UUID numbers are drawn
imported : with_imported_pool (short 97) (owner 5 5) 384 contents (blank_world 4 7)
    ≡ record { frames = 4; machine = 7; next_number = 3; types = types; pools = (short 97, record { owner = owner 5 5; mode = 384; number = 1; classes = 0 ∷ []; holding = Sound contents.graph }) ∷ [] }
unfolding opened with_types_defined with_imported_pool
imported = refl

imported_beside_types : with_imported_pool (short 97) (owner 5 5) 384 contents with_types ≡ with_imported_pool (short 97) (owner 5 5) 384 contents (blank_world 4 7)
unfolding opened with_types_defined with_imported_pool
imported_beside_types = refl

room : (is_full_for_file (blank_world 4 7) contents ≡ false) × (lacks_frames_for_file (blank_world 4 7) contents ≡ false) × (lacks_frames_for_file (blank_world 0 7) contents ≡ true)
unfolding opened
room = (refl, refl, refl)
