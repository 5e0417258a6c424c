-- What an index that is known to be a pool's answers about the pool.
use Rattle.std.proofs.Common.{◌≡◌, ℕ, ◌<◌, true, true≢false, ltb, Option, Some, None, option_map, is_none, is_some, IfSome, refl, sym, ap, subst, ◌∙◌}
use Rattle.std.proofs.lemmas.Option.{none-some, same_Some}
use Rattle.pud_defs.specs.declared.objects.FieldValue.{FieldValue}
use Rattle.pud_defs.specs.Formats.Image.{Image}
use Rattle.pud_defs.specs.PoolGraphs.Stored.{stored_in}
use Rattle.pud_defs.specs.RegistryTables.Types.{types_of}
use Rattle.pud_defs.specs.PoolGraphs.Graph.{Graph, graph_of, is_referenced}
use Rattle.graph_laws.specs.ReferenceCounts.{reference_count}
use Rattle.graph_laws.proofs.SameReads.Words.{live_in_slot, place_of_serial-some}
use Rattle.puddle_header.specs.Places.{places_in, is_slot_in}
use Rattle.graph_read.specs.declared.index.Index.{Index}
use Rattle.graph_read.specs.Index.{kept_under, place_kept, references_kept, HasReference, MayBeReferenced}
use Rattle.graph_read.specs.Indexed.{slot_at_place, IsIndexOf, serial_named}
use Rattle.graph_read.specs.Reading.{table_in, place_in_pool}
use Rattle.graph_read.proofs.IndexKept.{found_by, held_by_index}
use Rattle.known_pool.specs.Known.{Known, IsKnown, index_entries, place_under}
use Rattle.known_pool.specs.Indexes.{MayMove}
use Rattle.known_pool.proofs.KnownKept.{same_kept, IsIndexOf-entries}

-- Mapping gives none exactly if there was none.
pub none_mapped : {A B : Type 0} (f : A → B) (o : Option A) → is_none o ≡ is_none (option_map f o)
none_mapped f None = refl
none_mapped f (Some x) = refl

-- The index that is kept has these entries.
pub some_entries : (o : Option Index) (x : Index) → option_map index_entries o ≡ Some (index_entries x) → (y : Index) × ((o ≡ Some y) × (index_entries y ≡ index_entries x))
some_entries None x none = absurd (none-some (index_entries x) none)
some_entries (Some y) x same = (y, (refl, same_Some (index_entries y) (index_entries x) same))

pub some_mapped : (o : Option Index) → is_some o ≡ true → is_some (option_map index_entries o) ≡ true
some_mapped None some = absurd (true≢false (sym some))
some_mapped (Some x) some = refl

-- What may be counted in one index may be counted in another with the same entries.
pub MayMove-entries : (was now : FieldValue) (x y : Index) → index_entries y ≡ index_entries x → MayMove was now x → MayMove was now y
MayMove-entries was now x y same may = record {
  held = λ some. subst HasReference (sym (same_kept x y same (serial_named was))) (may.held some);
  room = λ some. subst MayBeReferenced (sym (same_kept x y same (serial_named now))) (may.room some);
}

-- What is kept is still true with an index that a scan of the pool gives.
pub IsKnown-built : (F : ℕ) (known : Known) (image : Image) (x : Index) → IsIndexOf F known.puddles (types_of image) image x → IsKnown F image known
    → IsKnown F image (record known { index = Some (index_entries x); placed = Some (index_entries x) })
IsKnown-built F known image x is k = record {
  indexed = λ y kept. IsIndexOf-entries F known.puddles (types_of image) image x y (sym (same_Some (index_entries x) (index_entries y) kept)) is;
  placed = λ y kept.
      let of = IsIndexOf-entries F known.puddles (types_of image) image x y (sym (same_Some (index_entries x) (index_entries y) kept)) is in
      record { each = found_by (place_in_pool F known.puddles image) (λ q. reference_count q of.graph) y of.index };
  within = k.within;
  full = k.full;
}

module _ (F : ℕ) (image : Image) (known : Known) (k : IsKnown F image known) (s : ℕ) where
  abbrev place : Option ℕ
  place = place_in_pool F known.puddles image s

  within_by : (o : Option ℕ) → place ≡ o → IfSome o (λ p. p < places_in known.puddles)
  within_by None none = tt
  within_by (Some p) there = (place_of_serial-some (table_in F known.puddles image) (places_in known.puddles) s p there).within

  pub place_within : IfSome place (λ p. p < places_in known.puddles)
  place_within = within_by place refl

  slots_by : (o : Option ℕ) → place ≡ o → IfSome o (λ p. is_slot_in known.puddles p ≡ true)
  slots_by None none = tt
  slots_by (Some p) there = live_in_slot (stored_in F known.puddles image) p (place_of_serial-some (table_in F known.puddles image) (places_in known.puddles) s p there).used

  pub place_is_slot : IfSome place (λ p. is_slot_in known.puddles p ≡ true)
  place_is_slot = slots_by place refl

  pub found_place : (x : Index) → known.placed ≡ Some (index_entries x) → place_under x s ≡ option_map slot_at_place place
  found_place x is = (k.placed x is).each s

  module _ (x : Index) (is : known.index ≡ Some (index_entries x)) where
    index_is : IsIndexOf F known.puddles (types_of image) image x
    index_is = k.indexed x is

    counted_place : option_map place_kept (kept_under x s) ≡ option_map slot_at_place place
    counted_place = found_by (place_in_pool F known.puddles image) (λ q. reference_count q index_is.graph) x index_is.index s

    held_by : (g : Graph) → graph_of (types_of image) (stored_in F known.puddles image) ≡ Some g → (o : Option ℕ) → place ≡ o → is_some (option_map slot_at_place o) ≡ true → ltb 0 (references_kept (kept_under x s)) ≡ is_referenced s g
    held_by g stored None none some = absurd (true≢false (sym some))
    held_by g stored (Some p) there some = sym (held_by_index F known.puddles (types_of image) image g stored x index_is s p there)

    -- About an object that it has, the index tells whether it is referenced.
    pub referenced_there : (g : Graph) → graph_of (types_of image) (stored_in F known.puddles image) ≡ Some g → is_some (option_map place_kept (kept_under x s)) ≡ true → ltb 0 (references_kept (kept_under x s)) ≡ is_referenced s g
    referenced_there g stored some = held_by g stored place refl (sym (ap is_some counted_place) ∙ some)
