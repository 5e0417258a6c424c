-- The types that a placed pool brings: what their records make of an image, and of the world that it stands for.
use Rattle.std.proofs.Common.{◌≡◌, inr, ℕ, ◌+◌, ◌-◌, ◌<◌, ◌≤◌, List, [], ◌∷◌, ◌++◌, map, Option, refl, sym, ◌∙◌, arith}
use Rattle.std.specs.Prelude.{All, ⊤}
use Rattle.std.proofs.lemmas.List.Elements.{All-head, All-tail}
use Rattle.std.proofs.lemmas.Bool.{and_parts}
use Rattle.pud_defs.specs.declared.layout.TheConstants.{TYPE_RECORDS, TYPE_TABLE, POOL_TABLE}
use Rattle.pud_defs.specs.declared.records.Put.{Put}
use Rattle.pud_defs.specs.Formats.Image.{Image}
use Rattle.pud_defs.specs.RegistryTables.Types.{type_record_at, type_at}
use Rattle.pud_defs.specs.Formats.TypeMap.{is_legal_map, is_legal_type_id}
use Rattle.pud_defs.specs.RegistryTables.Tables.{tables_of}
use Rattle.pud_defs.specs.RegistryTables.Puts.{with_put}
use Rattle.pud_defs.specs.StateMachine.PoolChanges.{with_type_defined}
use Rattle.pud_defs.specs.StateMachine.Imports.{with_types_defined}
use Rattle.pud_defs.specs.StateMachine.World.{StoredWorld}
use Rattle.pud_defs.proofs.KeyedTables.Keyed.{first_free_some}
use Rattle.pud_defs.proofs.StateMachine.Parts.{StandsFor}
use Rattle.pud_defs.proofs.RegistryTables.PutsMade.{with_put-outside}
use Rattle.pud_defs.proofs.RegistryTables.TablesOf.{tables_of-same}
use Rattle.pud_defs.proofs.RegistryTables.TypeTable.{type_at-same}
use Rattle.pud_defs.proofs.RegistryTables.TypesDefined.{AreNewTypes, standing-type_put, first_free-same}
use Rattle.type_maps.specs.FreeRecords.{AreFreeRecords}
use Rattle.registry.specs.declared.placing.NewType.{NewType}
use Rattle.registry.specs.Puts.{with_puts, AreOfTables}
use Rattle.registry.specs.Placing.{new_type_put, type_of, HasFreeRecords}

-- ---- lists of changes

pub with_puts-append : (first later : List Put) (i : Image) → with_puts (first ++ later) i ≡ with_puts later (with_puts first i)
unfolding with_puts
with_puts-append [] later i = refl
with_puts-append (put ∷ first) later i = with_puts-append first later (with_put put i)

pub AreOfTables-append : (F : ℕ) (first later : List Put) → AreOfTables F first → AreOfTables F later → AreOfTables F (first ++ later)
AreOfTables-append F [] later of others = others
AreOfTables-append F (put ∷ first) later of others = (of.0, AreOfTables-append F first later of.1 others)

-- ---- records of the table

-- their records are records of the type table
abbrev pub AreRecords : List NewType → Type 0
AreRecords [] = ⊤
AreRecords (t ∷ types) = (t.record_number < TYPE_RECORDS) × AreRecords types

pub records_each : (types : List NewType) → All (λ t. t.record_number < TYPE_RECORDS) types → AreRecords types
records_each [] all = tt
records_each (t ∷ types) all =
    (All-head (λ (t : NewType). t.record_number < TYPE_RECORDS) t types all, records_each types (All-tail (λ (t : NewType). t.record_number < TYPE_RECORDS) t types all))

pub records_free : (at : ℕ → Option (ℕ × ℕ)) (from : ℕ) (types : List NewType) → HasFreeRecords at from types → AreRecords types
records_free at from [] free = tt
records_free at from (t ∷ types) free =
    let is = first_free_some at from (TYPE_RECORDS - from) t.record_number free.0 in
    let low = is.low in let high = is.high in
    (omega arith, records_free at (t.record_number + 1) types free.1)

pub types_of_table : (F : ℕ) (types : List NewType) → AreRecords types → AreOfTables F (map new_type_put types)
types_of_table F [] within = tt
types_of_table F (t ∷ types) within = let below = within.0 in (inr (record { low = omega arith; high = omega arith; some = omega arith; fits = omega arith }), types_of_table F types within.1)

-- no word outside the type table changes
pub types_stay : (types : List NewType) (i : Image) (k : ℕ) → AreRecords types → (TYPE_TABLE ≤ k → k < POOL_TABLE → ⊥) → with_puts (map new_type_put types) i k ≡ i k
unfolding with_puts
types_stay [] i k within other = refl
types_stay (t ∷ types) i k within other =
    let below = within.0 in
    types_stay types (with_put (new_type_put t) i) k within.1 other ∙ with_put-outside (new_type_put t) i k (λ low high. other (omega arith) (omega arith))

-- so the tables of pools and puddles do not change
pub types_keep_tables : (F : ℕ) (types : List NewType) (i : Image) → AreRecords types → tables_of F (with_puts (map new_type_put types) i) ≡ tables_of F i
types_keep_tables F types i within =
    tables_of-same F (with_puts (map new_type_put types) i) i
    (λ k low high. types_stay types i k within (λ from to. omega arith)) (λ k low high. types_stay types i k within (λ from to. omega arith))

-- records that are free in turn are free records for the types
pub HasFreeRecords-records : (at : ℕ → Option (ℕ × ℕ)) (from : ℕ) (types : List NewType) → AreFreeRecords at from (map (λ t. t.record_number) types) → HasFreeRecords at from types
HasFreeRecords-records at from [] free = tt
HasFreeRecords-records at from (t ∷ types) free = (free.0, HasFreeRecords-records at (t.record_number + 1) types free.1)

-- ---- the world

-- free records of one table are free in another that has the same records from there on
pub HasFreeRecords-same : (f g : ℕ → Option (ℕ × ℕ)) (from : ℕ) (types : List NewType) → ((n : ℕ) → from ≤ n → n < TYPE_RECORDS → f n ≡ g n) → HasFreeRecords f from types → HasFreeRecords g from types
HasFreeRecords-same f g from [] same free = tt
HasFreeRecords-same f g from (t ∷ types) same free =
    let is = first_free_some f from (TYPE_RECORDS - from) t.record_number free.0 in
    let above = is.low in (
      sym (first_free-same f g from (TYPE_RECORDS - from) (λ j low high. same j low (omega arith))) ∙ free.0,
      HasFreeRecords-same f g (t.record_number + 1) types (λ n low high. same n (omega arith) high) free.1,
    )

-- an image that stands for a world stands, with new types in free records, for the world with these types
pub standing_with_new_types : (size : ℕ) (types : List NewType) (from : ℕ) (i : Image) (s : StoredWorld) → StandsFor size i s → HasFreeRecords (type_at i) from types → AreNewTypes s.types (map type_of types)
    → StandsFor size (with_puts (map new_type_put types) i) (with_types_defined (map type_of types) s)
unfolding with_puts with_types_defined with_type_defined
standing_with_new_types size [] from i s stands free new = stands
standing_with_new_types size (t ∷ types) from i s stands free new =
    let is = first_free_some (type_at i) from (TYPE_RECORDS - from) t.record_number free.0 in
    let low = is.low in let high = is.high in
    let legal = and_parts (is_legal_type_id t.id) (is_legal_map t.map) new.0 in
    let below : t.record_number < TYPE_RECORDS = omega arith in
    let j = with_put (new_type_put t) i in
    let then = standing-type_put size i s t.record_number t.id t.map stands below is.free legal.0 legal.1 new.1 in
    let free_then = HasFreeRecords-same (type_at i) (type_at j) (t.record_number + 1) types
    (λ n from to. sym (type_at-same i j n (with_put-outside (new_type_put t) i (type_record_at n) (λ a b. omega arith)) (with_put-outside (new_type_put t) i (type_record_at n + 1) (λ a b. omega arith)))) free.1 in
    standing_with_new_types size types (t.record_number + 1) j (with_type_defined t.id t.map s) then free_then new.2
