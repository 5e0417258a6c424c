-- What is known about a pool stays true while its graph and its places stay.
use Rattle.std.proofs.Common.{◌≡◌, ℕ, zero, suc, ◌+◌, ◌<◌, ◌≤◌, Bool, true, false, nat_lt, cond, eqb, List, [], ◌∷◌, length, Some, None, option_map, nat_cmp, refl, sym, ap, ◌∙◌, arith}
use Rattle.std.specs.Prelude.{slice_get}
use Rattle.std.specs.Map.{lookup}
use Rattle.std.proofs.lemmas.Option.{none-some}
use Rattle.pud_defs.specs.declared.records.Puddle.{Puddle}
use Rattle.pud_defs.specs.declared.space.TheConstants.{SLOT_SERIAL_WORD}
use Rattle.pud_defs.specs.Formats.Geometry.{class_slots, ordinal_of, slot_of, places_among}
use Rattle.pud_defs.specs.Formats.Image.{Image}
use Rattle.pud_defs.specs.RegistryTables.Keyed.{under, first_from}
use Rattle.pud_defs.specs.PoolGraphs.Stored.{Stored, stored_in, class_at, is_slot, place_serial, place_begins, word_in_frame, slot_state, IsLivePlace}
use Rattle.pud_defs.specs.RegistryTables.Types.{types_of}
use Rattle.pud_defs.specs.PoolGraphs.Graph.{Graph, under_serial, graph_of}
use Rattle.pud_defs.proofs.KeyedTables.Keyed.{first_from_same}
use Rattle.graph_laws.specs.ReferenceCounts.{reference_count}
use Rattle.graph_laws.specs.Slots.{IsSlotOfClass}
use Rattle.puddle_header.specs.Places.{places_in}
use Rattle.graph_read.specs.Indexed.{slot_at_place, IsIndexOf}
use Rattle.graph_read.specs.Reading.{place_in_pool}
use Rattle.graph_read.proofs.IndexKept.{IsIndexBy-same, by_graph}
use Rattle.graph_read.specs.declared.index.Index.{Index}
use Rattle.graph_read.specs.declared.index.Kept.{Kept}
use Rattle.graph_read.specs.Index.{kept_under}
use Rattle.known_pool.specs.Searches.{none_full, full_of}
use Rattle.known_pool.specs.Known.{Known, IsKnown, index_entries, by_puddles, with_puddles, without_counts}
use Rattle.known_pool.specs.Serials.{serial_in, KeepsSerials}
use Rattle.known_pool.proofs.FullPlaces.{full_of-none}

at_most : (n end : ℕ) → n ≡ 0 → n ≤ end
at_most n end none = omega (arith, none)

none_below : (p n : ℕ) → n ≡ 0 → p < n → ⊥
none_below p n none below = absurd (omega (arith, none, below))

-- What is known about puddles alone is always true.
pub IsKnown-puddles : (F : ℕ) (at : List (ℕ × Puddle)) (image : Image) → IsKnown F image (by_puddles at)
IsKnown-puddles F at image = record {
  indexed = λ x none. absurd (none-some (index_entries x) none);
  placed = λ x none. absurd (none-some (index_entries x) none);
  within = λ class. at_most (full_of class none_full) (places_in at) (full_of-none class);
  full = λ class. record { each = λ p below. absurd (none_below p (full_of class none_full) (full_of-none class) below) };
}

-- ---- places

-- The serials stay if the same is stored.
pub KeepsSerials-stored : (F : ℕ) (at : List (ℕ × Puddle)) (before after : Image) → stored_in F at after ≡ stored_in F at before → KeepsSerials F at at before after
KeepsSerials-stored F at before after same = record { count = refl; classes = λ p below. refl; each = λ p below. ap (λ (st : Stored). place_serial st p) same }

-- One change after another.
pub KeepsSerials-then : (F : ℕ) (a b c : List (ℕ × Puddle)) (i j k : Image) → KeepsSerials F a b i j → KeepsSerials F b c j k → KeepsSerials F a c i k
KeepsSerials-then F a b c i j k first later = record {
  count = later.count ∙ first.count;
  classes = λ p below. let same = first.count in later.classes p (omega (arith, below, same)) ∙ first.classes p below;
  each = λ p below. let same = first.count in later.each p (omega (arith, below, same)) ∙ first.each p below;
}

-- Then each object is at the place where it was.
pub place_kept : (F : ℕ) (at later : List (ℕ × Puddle)) (before after : Image) → KeepsSerials F at later before after → (s : ℕ) → place_in_pool F later after s ≡ place_in_pool F at before s
place_kept F at later before after keeps s =
    ap (λ (n : ℕ). first_from nat_cmp s (under_serial (serial_in F later after) (λ (p : ℕ). p)) 0 (places_among n)) keeps.count
    ∙ first_from_same nat_cmp s (under_serial (serial_in F later after) (λ (p : ℕ). p)) (under_serial (serial_in F at before) (λ (p : ℕ). p)) 0 (places_in at)
    (λ p low high. ap (λ (k : ℕ). under nat_cmp s (cond (slot_state k).is_live (Some (k, p)) None)) (keeps.each p (omega (arith, high))))

-- No object is live after the last place.
live_by : (F : ℕ) (image : Image) (k : ℕ) (at : List (ℕ × Puddle)) (o : ℕ) → (word_in_frame F image k (slice_get at o) ≡ 0 → ⊥) → o < length at
live_by F image k [] o live = absurd (live refl)
live_by F image k (e ∷ at) zero live = omega arith
live_by F image k (e ∷ at) (suc o) live = let rest = live_by F image k at o live in omega (arith, rest)

-- A place whose serial word is 0 has no serial, whether it is a slot or not.
no_serial : (slot : Bool) (word : ℕ) → word ≡ 0 → cond slot word 0 ≡ 0
no_serial true word none = none
no_serial false word none = refl

pub live_within : (F : ℕ) (at : List (ℕ × Puddle)) (image : Image) (p : ℕ) → IsLivePlace (stored_in F at image) p → p < places_in at
live_within F at image p live =
    let st = stored_in F at image in
    let within = live_by F image (place_begins st p + SLOT_SERIAL_WORD) at (ordinal_of p) (λ none. live (no_serial (is_slot st p) _ none)) in
    omega (arith, within)

-- The same puddles have the same slots, whatever they store.
pub slot_again : (F : ℕ) (at : List (ℕ × Puddle)) (before after : Image) (class p : ℕ) → IsSlotOfClass class (stored_in F at after) p → IsSlotOfClass class (stored_in F at before) p
slot_again F at before after class p slot = record { slot = slot.slot; of_class = slot.of_class }

-- A slot of a class was one before, if its puddle has the class that it had.
was_slot : (F : ℕ) (at later : List (ℕ × Puddle)) (before after : Image) (class p : ℕ) → class_at (stored_in F later after) p ≡ class_at (stored_in F at before) p
    → IsSlotOfClass class (stored_in F later after) p → IsSlotOfClass class (stored_in F at before) p
was_slot F at later before after class p same slot =
    record { slot = ap (λ (c : ℕ). nat_lt (slot_of p) (class_slots c)) (sym same) ∙ slot.slot; of_class = sym same ∙ slot.of_class }

-- ---- what is known

no_fewer : (n some more : ℕ) → n ≤ places_among some → some ≤ more → n ≤ places_among more
no_fewer n some more few most = omega (arith, few, most)

within_end : (p n end : ℕ) → p < n → n ≤ end → p < end
within_end p n end below few = omega (arith, below, few)

same_count : (n m : ℕ) → m ≡ n → n ≤ m
same_count n m same = omega (arith, same)

module _ (F : ℕ) (known : Known) (later : List (ℕ × Puddle)) (before after : Image) (g : Graph) (was : graph_of (types_of before) (stored_in F known.puddles before) ≡ Some g)
    (is : graph_of (types_of after) (stored_in F later after) ≡ Some g) where
  -- The graph stays, and so do the places, the classes and what is live. No puddle goes.
  pub IsKnown-placed : length known.puddles ≤ length later → ((q : ℕ) → place_in_pool F later after q ≡ place_in_pool F known.puddles before q)
      → ((p : ℕ) → p < places_in known.puddles → class_at (stored_in F later after) p ≡ class_at (stored_in F known.puddles before) p)
      → ((p : ℕ) → IsLivePlace (stored_in F known.puddles before) p → IsLivePlace (stored_in F later after) p)
      → IsKnown F before known → IsKnown F after (with_puddles later known)
  IsKnown-placed more places classes live k = record {
    indexed = λ x kept. record {
      graph = g;
      is = is;
      index = IsIndexBy-same (place_in_pool F known.puddles before) (place_in_pool F later after) (λ q. reference_count q g) (λ q. reference_count q g) x places (λ q p there. refl)
          (by_graph F known.puddles (types_of before) before g was x (k.indexed x kept));
    };
    placed = λ x kept. record { each = λ q. (k.placed x kept).each q ∙ ap (option_map slot_at_place) (sym (places q)) };
    within = λ class. no_fewer (full_of class known.full_below) (length known.puddles) (length later) (k.within class) more;
    full = λ class. record {
      each = λ p below slot.
          let inside = within_end p (full_of class known.full_below) (places_in known.puddles) below (k.within class) in
          live p ((k.full class).each p below (was_slot F known.puddles later before after class p (classes p inside) slot));
    };
  }

  -- The graph and the serials stay.
  pub IsKnown-kept : KeepsSerials F known.puddles later before after → IsKnown F before known → IsKnown F after (with_puddles later known)
  IsKnown-kept keeps =
      IsKnown-placed (same_count _ _ keeps.count) (place_kept F known.puddles later before after keeps) keeps.classes
      (λ p live free. live (sym (keeps.each p (live_within F known.puddles before p live)) ∙ free))

-- All but the counts of references is still true while the serials stay, whatever becomes of the graph.
pub IsKnown-counts : (F : ℕ) (known : Known) (before after : Image) → KeepsSerials F known.puddles known.puddles before after → IsKnown F before known → IsKnown F after (without_counts known)
IsKnown-counts F known before after keeps k = record {
  indexed = λ x none. absurd (none-some (index_entries x) none);
  placed = λ x kept. record { each = λ q. (k.placed x kept).each q ∙ ap (option_map slot_at_place) (sym (place_kept F known.puddles known.puddles before after keeps q)) };
  within = k.within;
  full = λ class. record {
    each = λ p below slot free.
        let live = (k.full class).each p below (slot_again F known.puddles before after class p slot) in
        live (sym (keeps.each p (live_within F known.puddles before p live)) ∙ free);
  };
}

-- ---- indexes

-- What is kept about a serial depends on the entries alone.
pub same_kept : (x y : Index) → index_entries y ≡ index_entries x → (q : ℕ) → kept_under y q ≡ kept_under x q
same_kept x y same q = ap (λ (es : List (ℕ × Kept)). lookup (eqb q) es) same

-- So does whether an index is a pool's.
pub IsIndexOf-entries : (F : ℕ) (at : List (ℕ × Puddle)) (types : List (ℕ × ℕ)) (image : Image) (x y : Index) → index_entries y ≡ index_entries x → IsIndexOf F at types image x → IsIndexOf F at types image y
IsIndexOf-entries F at types image x y same is = record { graph = is.graph; is = is.is; index = record { each = λ q. same_kept x y same q ∙ is.index.each q } }
