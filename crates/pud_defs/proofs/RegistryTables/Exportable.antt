-- The pools of sound tables can be exported: their types and bases are legal in a file, and are no more than a file may
-- have.
use Rattle.std.proofs.Common.{◌≡◌, ℕ, ◌<◌, ◌≤◌, true, List, map, length, get_or, Option, Some, None, option_map, nat_cmp, refl, sym, ap, ◌∙◌, arith, ne_eqb}
use Rattle.std.specs.Prelude.{slice_get}
use Rattle.std.specs.List.{list_all}
use Rattle.std.proofs.lemmas.Bool.{and_parts, and_from}
use Rattle.std.proofs.lemmas.Cmp.{nat_cmp_total}
use Rattle.std.proofs.lemmas.List.{length-map}
use Rattle.std.proofs.lemmas.List.Elements.{All-from_recursion, All-from_get_or}
use Rattle.std.proofs.lemmas.List.Folds.{list_all-map}
use Rattle.std.proofs.lemmas.List.Sums.{list_all-from_AllPass}
use Rattle.std.proofs.lemmas.Option.{slice_get-map, slice_get-get_or}
use Rattle.pud_defs.specs.declared.layout.TheConstants.{TYPE_RECORDS, NEXT_NUMBER_WORD}
use Rattle.pud_defs.specs.declared.records.TheConstants.{POOL_RECORDS}
use Rattle.pud_defs.specs.declared.records.Puddle.{Puddle}
use Rattle.pud_defs.specs.declared.records.PoolRecord.{PoolRecord}
use Rattle.pud_defs.specs.Formats.Image.{Image}
use Rattle.pud_defs.specs.Formats.Bases.{is_legal_base}
use Rattle.pud_defs.specs.Formats.Geometry.{is_legal_class}
use Rattle.pud_defs.specs.RegistryTables.Spaces.{all_below}
use Rattle.pud_defs.specs.RegistryTables.Types.{type_at, types_of, is_sound_type, are_legal_types}
use Rattle.pud_defs.specs.RegistryTables.Keyed.{under, are_distinct}
use Rattle.pud_defs.specs.RegistryTables.Registry.{frames_of, is_registry}
use Rattle.pud_defs.specs.RegistryTables.SoundTables.{are_sound_tables, HasSoundTables}
use Rattle.pud_defs.specs.PoolGraphs.Stored.{stored_in}
use Rattle.pud_defs.specs.RegistryTables.Tables.{Tables, tables_of, puddles_of, puddles_in_turn}
use Rattle.pud_defs.specs.StateMachine.World.{stored_by}
use Rattle.pud_defs.specs.PoolGraphs.ExportFile.{are_file_types, under_base, are_file_bases, are_file_classes}
use Rattle.pud_defs.specs.PoolGraphs.Exported.{IsExportable}
use Rattle.pud_defs.proofs.RegistryTables.Spaces.{all_below-each}
use Rattle.pud_defs.proofs.RegistryTables.TypeLists.{same_test, same_number, true_when}
use Rattle.pud_defs.proofs.RegistryTables.TypeTable.{length-types_of}
use Rattle.pud_defs.proofs.KeyedTables.Keyed.{are_distinct_keys, is_sorted-keyed, count_used_most, under_apart, option_map_parts}
use Rattle.pud_defs.proofs.KeyedTables.KeyedEach.{each-keyed}
use Rattle.pud_defs.proofs.RegistryTables.PoolMembers.{HasMembers, members_in_turn, legal_of_member, class_of_member, one_ordinal, one_frame}
use Rattle.pud_defs.proofs.RegistryTables.PoolsCounted.{few_members}
use Rattle.pud_defs.proofs.RegistryTables.PuddlesListed.{puddles_in_turn-listed}
use Rattle.pud_defs.proofs.RegistryTables.SoundChanged.{sound_from}
use Rattle.pud_defs.proofs.StateMachine.Worlds.{holding_by}

-- ---- types

module _ (image : Image) (legal : are_legal_types (type_at image) ≡ true) where
  few_types : length (types_of image) ≤ TYPE_RECORDS
  few_types = omega (arith, length-types_of image legal, count_used_most (type_at image) 0 TYPE_RECORDS)

  pub types_of-legal : are_file_types (types_of image) ≡ true
  types_of-legal =
      let sound = λ (t : ℕ × ℕ). is_sound_type (Some t) in
      let records = and_parts (all_below TYPE_RECORDS (λ i. is_sound_type (type_at image i))) (are_distinct nat_cmp (type_at image) 0 TYPE_RECORDS) legal in
      let each = each-keyed nat_cmp same_number (λ t. sound t ≡ true) (type_at image) 0 TYPE_RECORDS
      (λ i low high t is. ap is_sound_type (sym is) ∙ all_below-each TYPE_RECORDS (λ k. is_sound_type (type_at image k)) records.0 i (omega arith)) in
      and_from _ _
      (list_all-from_AllPass sound (types_of image) (All-from_recursion (λ t. sound t ≡ true) (types_of image) each))
      (true_when _ (is_sorted-keyed nat_cmp nat_cmp_total (type_at image) 0 TYPE_RECORDS))

-- ---- bases

module _ (next : ℕ) (t : Tables) (sound : HasSoundTables next t) (slot : ℕ) (at : List (ℕ × Puddle)) (members : HasMembers t slot at) where
  abbrev puddles : List Puddle
  puddles = map (λ e. e.1) at

  each_legal : list_all (λ d. is_legal_base d.base) puddles ≡ true
  each_legal =
      let legal = λ (e : ℕ × Puddle). is_legal_base e.1.base in
      let none : ℕ × Puddle = (0, record { number = 0; base = 0; old_base = 0; frontier = 0; class = 0 }) in
      list_all-map (λ (d : Puddle). is_legal_base d.base) (λ (e : ℕ × Puddle). e.1) at
      ∙ list_all-from_AllPass legal at
      (All-from_get_or (λ e. legal e ≡ true) at none (λ o below. legal_of_member next t sound slot o (get_or at o none) (members.each o (get_or at o none) (slice_get-get_or at o none below))))

  pub classes_legal : are_file_classes puddles ≡ true
  classes_legal =
      let legal = λ (e : ℕ × Puddle). is_legal_class e.1 in
      let none : ℕ × Puddle = (0, record { number = 0; base = 0; old_base = 0; frontier = 0; class = 0 }) in
      list_all-map is_legal_class (λ (e : ℕ × Puddle). e.1) at
      ∙ list_all-from_AllPass legal at
      (All-from_get_or (λ e. legal e ≡ true) at none (λ o below. class_of_member next t sound slot o (get_or at o none) (members.each o (get_or at o none) (slice_get-get_or at o none below))))

  -- two puddles with the same base are one puddle
  one_place : (i j : ℕ) (d e : Puddle) → slice_get puddles i ≡ Some d → slice_get puddles j ≡ Some e → d.base ≡ e.base → i ≡ j
  one_place i j d e first second same =
      let puddle = λ (x : ℕ × Puddle). x.1 in
      let one = option_map_parts puddle (slice_get at i) d (sym (slice_get-map puddle at i) ∙ first) in
      let other = option_map_parts puddle (slice_get at j) e (sym (slice_get-map puddle at j) ∙ second) in
      let a = members.each i one.value one.is in
      let b = members.each j other.value other.is in
      let base = λ (x : Puddle). x.base in
      one_ordinal next t sound slot i j one.value other.value a b
      (one_frame next t sound slot i j one.value other.value a b (ap base one.gives ∙ same ∙ sym (ap base other.gives)))

  -- the ordinal of a puddle, under the puddle's base
  abbrev keyed_by_base : (o : ℕ) → Puddle → ℕ × ℕ
  keyed_by_base o d = (d.base, o)

  apart : (i j : ℕ) (e : ℕ × ℕ) (later : Option Puddle) → i < j → under_base puddles i ≡ Some e → slice_get puddles j ≡ later → under nat_cmp e.0 (option_map (keyed_by_base j) later) ≡ None
  apart i j e None less here there = refl
  apart i j e (Some d) less here there =
      let first = option_map_parts (keyed_by_base i) (slice_get puddles i) e here in
      under_apart nat_cmp e.0 (d.base, j)
      (same_test e.0 d.base ∙ ne_eqb e.0 d.base (λ same. let one = one_place i j first.value d first.is there (ap (λ (x : ℕ × ℕ). x.0) first.gives ∙ same) in absurd (omega arith)))

  pub members_legal : are_file_bases puddles ≡ true
  members_legal =
      and_from _ _ each_legal
      (are_distinct_keys nat_cmp (under_base puddles) 0 (length puddles) (record { apart = λ i j low less high e is. apart i j e (slice_get puddles j) less is refl }))

-- ---- a pool

pub exportable : (next : ℕ) (image : Image) (F slot : ℕ) (r : PoolRecord) → are_legal_types (type_at image) ≡ true → HasSoundTables next (tables_of F image) → slot < POOL_RECORDS → (tables_of F image).pools slot ≡ Some r
    → IsExportable (types_of image) (stored_in F (puddles_in_turn (tables_of F image) slot) image)
exportable next image F slot r legal sound below used =
    let t = tables_of F image in
    let at = puddles_in_turn t slot in
    let few = few_members next t sound slot r below used in
    let count : length (map (λ (e : ℕ × Puddle). e.1) at) ≡ length (puddles_of t slot) =
    length-map at (λ (e : ℕ × Puddle). e.1) ∙ ap length (puddles_in_turn-listed next t slot r sound below used) ∙ length-map (puddles_of t slot) (λ (e : ℕ × (ℕ × Puddle)). e.1) in
    let some = few.some in
    let most = few.few in
    record {
      few_types = few_types image legal;
      legal_types = types_of-legal image legal;
      some = omega arith;
      few = omega arith;
      legal_bases = members_legal next t sound slot at (members_in_turn t slot);
      legal_classes = classes_legal next t sound slot at (members_in_turn t slot);
    }

-- a pool of a sound registry
pub exportable_of_registry : (size : ℕ) (image : Image) (F slot : ℕ) (r : PoolRecord) → is_registry size image ≡ true → F ≡ frames_of image → slot < POOL_RECORDS → (tables_of F image).pools slot ≡ Some r
    → IsExportable (types_of image) (stored_in F (puddles_in_turn (tables_of F image) slot) image)
unfolding stored_by
exportable_of_registry size image F slot r registry frames below used =
    let world = holding_by size image registry in
    exportable (image NEXT_NUMBER_WORD) image F slot r world.types.legal
    (sound_from (image NEXT_NUMBER_WORD) (tables_of F image) (ap (λ n. are_sound_tables (image NEXT_NUMBER_WORD) (tables_of n image)) frames ∙ world.pools.sound))
    below used
