-- A pool that is placed for a file may be placed: its puddles stand apart, and the types that it brings are new.
use Rattle.std.proofs.Common.{◌≡◌, ◌≢◌, ℕ, zero, suc, ◌+◌, ◌-◌, ◌<◌, ◌≤◌, Bool, true, false, ◌||◌, cond, eqb, ltb, List, [], ◌∷◌, ◌++◌, map, length, nat_cmp, Some, None, option_map, is_none, refl, sym, ap, subst, ◌∙◌, arith, le-leb, eq-eqb, true≢false, T}
use Rattle.std.specs.Prelude.{slice_get, bytes_eq}
use Rattle.std.specs.List.{list_any, list_all}
use Rattle.std.specs.FinMap.Entries.{is_sorted, is_sorted-where_key}
use Rattle.std.proofs.lemmas.Bool.{and_parts, and_from, cond-true}
use Rattle.std.proofs.lemmas.List.Elements.{All-get_or}
use Rattle.std.proofs.lemmas.List.Sums.{AllPass-from_list_all}
use Rattle.std.proofs.lemmas.Option.{slice_get-map, none-some, same_Some, slice_get_within, get_or_from_slice_get}
use Rattle.pud_defs.specs.declared.records.TheConstants.{POOL_RECORDS}
use Rattle.pud_defs.specs.declared.space.TheConstants.{CLASSES}
use Rattle.pud_defs.specs.declared.records.PoolRecord.{PoolRecord}
use Rattle.pud_defs.specs.declared.records.Puddle.{Puddle}
use Rattle.pud_defs.specs.Formats.Geometry.{class_steps, steps_of}
use Rattle.pud_defs.specs.Formats.Image.{Image}
use Rattle.pud_defs.specs.Formats.Bases.{is_legal_base}
use Rattle.pud_defs.specs.PoolGraphs.ExportFile.{are_file_types}
use Rattle.pud_defs.specs.RegistryTables.Placement.{has_another_base, ArePlacedFrom, placed_frontier}
use Rattle.pud_defs.specs.RegistryTables.Tables.{Tables, tables_of}
use Rattle.pud_defs.specs.RegistryTables.Types.{map_of, types_of, is_sound_type}
use Rattle.pud_defs.specs.StateMachine.Imports.{types_missing, numbers_drawn}
use Rattle.pud_defs.proofs.KeyedTables.Keyed.{first_free_some}
use Rattle.pud_defs.proofs.RegistryTables.PuddlesPlaced.{AreDistinctBases, base_given, IsPlacedAt, placed_each}
use Rattle.pud_defs.proofs.RegistryTables.TypeLists.{true_when}
use Rattle.registry.specs.declared.adding.NewPuddle.{NewPuddle}
use Rattle.registry.specs.declared.placing.NewType.{NewType}
use Rattle.registry.specs.Placing.{puddle_of_added, IsPlacedFor, MayComeTo, ShareNothing, MayBePlaced}
use Rattle.registry.proofs.NewPuddles.{given}
use Rattle.pud_import.proofs.FilesPlaced.PlacedPuddles.{placed_rise}

-- ---- types

abbrev sound : ℕ × ℕ → Bool
sound t = is_sound_type (Some t)

module _ (types : List (ℕ × ℕ)) where
  missing_sound : (file : List (ℕ × ℕ)) → list_all sound file ≡ true → list_all sound (types_missing types file) ≡ true
  missing_sound [] all = refl
  missing_sound (t ∷ file) all =
      let parts = and_parts (sound t) (list_all sound file) all in
      let later = missing_sound file parts.1 in
      elim (is_none (map_of t.0 types)) as (λ b. list_all sound (cond b (t ∷ types_missing types file) (types_missing types file)) ≡ true) [ true ↦ and_from (sound t) _ parts.0 later | false ↦ later ]

  -- the types of a file that are not defined are legal, and stand by ascending ids
  missing_legal : (file : List (ℕ × ℕ)) → are_file_types file ≡ true → are_file_types (types_missing types file) ≡ true
  missing_legal file legal =
      let parts = and_parts (list_all sound file) (is_sorted nat_cmp file) legal in
      and_from _ _ (missing_sound file parts.0) (true_when _ (is_sorted-where_key nat_cmp (λ id. is_none (map_of id types)) file (subst T (sym parts.1) tt)))

  missing_more : (t : ℕ × ℕ) (rest : List (ℕ × ℕ)) → types_missing types rest ≡ rest → (b : Bool) → is_none (map_of t.0 types) ≡ b → types_missing types (cond b (t ∷ rest) rest) ≡ cond b (t ∷ rest) rest
  missing_more t rest same true is = cond-true _ _ _ is ∙ ap (λ (ts : List (ℕ × ℕ)). t ∷ ts) same
  missing_more t rest same false is = same

  -- and all of them are missing among the defined types
  missing_again : (file : List (ℕ × ℕ)) → types_missing types (types_missing types file) ≡ types_missing types file
  missing_again [] = refl
  missing_again (t ∷ file) = missing_more t (types_missing types file) (missing_again file) (is_none (map_of t.0 types)) refl

-- ---- frames

-- each frame is a free one of the device
pub free_placed : (t : Tables) (frame : ℕ) (taken wanted : List ℕ) (at : List (ℕ × Puddle)) → ArePlacedFrom t frame taken wanted at → (o : ℕ) (e : ℕ × Puddle) → slice_get at o ≡ Some e → (e.0 < t.frames) × (t.puddles e.0 ≡ None)
free_placed t frame taken [] [] placed o e is = absurd (none-some e is)
free_placed t frame taken [] (x ∷ at) placed o e is = absurd placed
free_placed t frame taken (base ∷ wanted) [] placed o e is = absurd placed
free_placed t frame taken (base ∷ wanted) (x ∷ at) placed zero e is =
    let lowest = first_free_some t.puddles frame (t.frames - frame) x.0 placed.0 in
    let low = lowest.low in
    let high = lowest.high in
    let same : x ≡ e = same_Some x e is in
    subst (λ (e : ℕ × Puddle). (e.0 < t.frames) × (t.puddles e.0 ≡ None)) same (omega arith, lowest.free)
free_placed t frame taken (base ∷ wanted) (x ∷ at) placed (suc o) e is = free_placed t (x.0 + 1) (taken ++ x.1.base ∷ []) wanted at placed.3 o e is

-- ---- bases

or_either : (b first later : Bool) → (first ≡ true → later ≡ true) → (b || first) ≡ true → (b || later) ≡ true
or_either true first later then is = refl
or_either false first later then is = then is

or_second : (b c : Bool) → c ≡ true → (b || c) ≡ true
or_second true c is = refl
or_second false c is = is

among_longer : (base : ℕ) (bases more : List ℕ) → list_any (λ other. eqb other base) bases ≡ true → list_any (λ other. eqb other base) (bases ++ more) ≡ true
among_longer base [] more is = absurd (true≢false (sym is))
among_longer base (x ∷ bases) more is = or_either (eqb x base) _ _ (among_longer base bases more) is

among_last : (base : ℕ) (bases : List ℕ) → list_any (λ other. eqb other base) (bases ++ base ∷ []) ≡ true
among_last base [] = ap (λ (b : Bool). b || false) (eq-eqb base base refl)
among_last base (x ∷ bases) = or_second (eqb x base) _ (among_last base bases)

module _ (t : Tables) where
  -- no puddle of the device has the base of one that is placed
  unused : (frame : ℕ) (taken wanted : List ℕ) (puddles : List NewPuddle) → ArePlacedFrom t frame taken wanted (map puddle_of_added puddles) → (o : ℕ) (a : NewPuddle) → slice_get puddles o ≡ Some a
      → (f : ℕ) → f < t.frames → has_another_base a.puddle.base (t.puddles f) ≡ true
  unused frame taken [] [] placed o a there = absurd (none-some a there)
  unused frame taken (w ∷ wanted) [] placed o a there = absurd placed
  unused frame taken [] (x ∷ puddles) placed o a there = absurd placed
  unused frame taken (w ∷ wanted) (x ∷ puddles) placed zero a there =
      subst (λ (a : NewPuddle). (f : ℕ) → f < t.frames → has_another_base a.puddle.base (t.puddles f) ≡ true) (same_Some x a there) (base_given t taken w x.puddle.base placed.1).others
  unused frame taken (w ∷ wanted) (x ∷ puddles) placed (suc o) a there = unused (x.frame + 1) (taken ++ x.puddle.base ∷ []) wanted puddles placed.3 o a there

  -- no placed puddle has one of the bases that were taken before
  not_taken : (frame : ℕ) (taken wanted : List ℕ) (puddles : List NewPuddle) → ArePlacedFrom t frame taken wanted (map puddle_of_added puddles) → (base : ℕ) → list_any (λ other. eqb other base) taken ≡ true
      → (o : ℕ) (a : NewPuddle) → slice_get puddles o ≡ Some a → base ≢ a.puddle.base
  not_taken frame taken [] [] placed base is o a there = absurd (none-some a there)
  not_taken frame taken (w ∷ wanted) [] placed base is o a there = absurd placed
  not_taken frame taken [] (x ∷ puddles) placed base is o a there = absurd placed
  not_taken frame taken (w ∷ wanted) (x ∷ puddles) placed base is zero a there = λ same.
      let here : base ≡ x.puddle.base = same ∙ ap (λ (a : NewPuddle). a.puddle.base) (sym (same_Some x a there)) in
      true≢false (sym is ∙ ap (λ (b : ℕ). list_any (λ other. eqb other b) taken) here ∙ (base_given t taken w x.puddle.base placed.1).given)
  not_taken frame taken (w ∷ wanted) (x ∷ puddles) placed base is (suc o) a there =
      not_taken (x.frame + 1) (taken ++ x.puddle.base ∷ []) wanted puddles placed.3 base (among_longer base taken (x.puddle.base ∷ []) is) o a there

  -- so no two placed puddles have the same base
  bases_apart : (frame : ℕ) (taken wanted : List ℕ) (puddles : List NewPuddle) → ArePlacedFrom t frame taken wanted (map puddle_of_added puddles) → (i o : ℕ) (a b : NewPuddle) → i < o → slice_get puddles i ≡ Some a
      → slice_get puddles o ≡ Some b → a.puddle.base ≢ b.puddle.base
  bases_apart frame taken [] [] placed i o a b less one other = absurd (none-some a one)
  bases_apart frame taken (w ∷ wanted) [] placed i o a b less one other = absurd placed
  bases_apart frame taken [] (x ∷ puddles) placed i o a b less one other = absurd placed
  bases_apart frame taken (w ∷ wanted) (x ∷ puddles) placed i zero a b less one other = absurd (omega arith)
  bases_apart frame taken (w ∷ wanted) (x ∷ puddles) placed zero (suc o) a b less one other =
      subst (λ (a : NewPuddle). a.puddle.base ≢ b.puddle.base) (same_Some x a one)
      (not_taken (x.frame + 1) (taken ++ x.puddle.base ∷ []) wanted puddles placed.3 x.puddle.base (among_last x.puddle.base taken) o b other)
  bases_apart frame taken (w ∷ wanted) (x ∷ puddles) placed (suc i) (suc o) a b less one other = bases_apart (x.frame + 1) (taken ++ x.puddle.base ∷ []) wanted puddles placed.3 i o a b (omega arith) one other

-- ---- the pool

frontier_within : (wanted : List ℕ) (at : List (ℕ × Puddle)) (d : Puddle) → placed_frontier wanted at d ≤ steps_of d
frontier_within wanted at d = elim (bytes_eq (map (λ (e : ℕ × Puddle). e.1.base) at) wanted) as (λ b. cond b (steps_of d) 0 ≤ steps_of d) [ true ↦ omega arith | false ↦ omega arith ]

module _ (F : ℕ) (image : Image) (file : List (ℕ × ℕ)) (wanted classes : List ℕ) (slot : ℕ) (r : PoolRecord) (types : List NewType) (puddles : List NewPuddle) (is : IsPlacedFor F image file wanted classes slot r types puddles)
    (distinct : AreDistinctBases wanted) (known : list_all (λ class. ltb class CLASSES) classes ≡ true) (low : 1 ≤ r.number) where
  abbrev t : Tables
  t = tables_of F image

  abbrev at : List (ℕ × Puddle)
  at = map puddle_of_added puddles

  abbrev next : ℕ
  next = r.number + numbers_drawn (length puddles)

  entry_there : (o : ℕ) (a : NewPuddle) → slice_get puddles o ≡ Some a → slice_get at o ≡ Some (puddle_of_added a)
  entry_there o a there = slice_get-map puddle_of_added puddles o ∙ ap (option_map puddle_of_added) there

  class_known : (o : ℕ) (a : NewPuddle) → slice_get puddles o ≡ Some a → ltb a.puddle.class CLASSES ≡ true
  class_known o a there =
      let class = λ (e : ℕ × Puddle). e.1.class in
      let here : slice_get classes o ≡ Some a.puddle.class = ap (λ (cs : List ℕ). slice_get cs o) (sym is.placed.alike) ∙ slice_get-map class at o ∙ ap (option_map class) (entry_there o a there) in
      let all = AllPass-from_list_all (λ (c : ℕ). ltb c CLASSES) classes known in
      ap (λ (c : ℕ). ltb c CLASSES) (sym (get_or_from_slice_get classes o a.puddle.class 0 here)) ∙ All-get_or (λ c. ltb c CLASSES ≡ true) classes o 0 (slice_get_within classes o a.puddle.class here) all

  placed_at : (o : ℕ) (a : NewPuddle) → slice_get puddles o ≡ Some a → IsPlacedAt t wanted o (puddle_of_added a)
  placed_at o a there = placed_each t wanted at 0 [] distinct.legal is.placed.turn o (puddle_of_added a) (entry_there o a there)

  stands : (o : ℕ) (a : NewPuddle) → slice_get puddles o ≡ Some a → MayComeTo t slot o (r.number + 1 + o) next a
  stands o a there =
      let one = placed_at o a there in
      let entry = entry_there o a there in
      let of = is.members o a there in
      let number = is.placed.number o (puddle_of_added a) entry in
      let below = slice_get_within puddles o a there in
      record {
        frame = one.frame;
        free = (free_placed t 0 [] wanted at is.placed.turn o (puddle_of_added a) entry).1;
        slot_is = of.0;
        ordinal_is = of.1;
        number_is = number;
        legal = and_from _ _ (and_from _ _ (and_from _ _ (given next a.puddle.number (omega arith) (omega arith)) one.legal) (ap is_legal_base one.wanted_is ∙ distinct.legal o one.within))
            (and_from _ _ (class_known o a there) (le-leb a.puddle.frontier (class_steps a.puddle.class) (omega (arith, is.placed.frontier o (puddle_of_added a) entry, frontier_within wanted at (puddle_of_added a).1))));
        base = unused t 0 [] wanted puddles is.placed.turn o a there;
      }

  stand_apart : (i o : ℕ) (a b : NewPuddle) → i < o → slice_get puddles i ≡ Some a → slice_get puddles o ≡ Some b → ShareNothing a b
  stand_apart i o a b less one other =
      let first = placed_at i a one in
      let second = placed_at o b other in
      let rise = (placed_rise F image file wanted classes slot r types puddles is).each i o a b less one other in
      record {
        frame = λ same. absurd (omega arith);
        base = bases_apart t 0 [] wanted puddles is.placed.turn i o a b less one other;
        old_base = λ same. distinct.apart i o less second.within (sym first.wanted_is ∙ same ∙ second.wanted_is);
      }

  -- the pool may be placed
  pub MayBePlaced-file : are_file_types file ≡ true → MayBePlaced F image slot r types puddles
  MayBePlaced-file legal =
      let free = first_free_some t.pools 0 POOL_RECORDS slot is.slot_is in
      let high = free.high in
      record {
        slot_below = omega arith;
        slot_free = free.free;
        absent = is.absent;
        number = is.number;
        enough = is.enough;
        each = stands;
        apart = stand_apart;
        legal_types = ap are_file_types is.types_are ∙ missing_legal (types_of image) file legal;
        new_types = ap (types_missing (types_of image)) is.types_are ∙ missing_again (types_of image) file ∙ sym is.types_are;
        records = is.records;
      }
