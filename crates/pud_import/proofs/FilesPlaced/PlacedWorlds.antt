-- A pool that is placed in frames which were filled with what a file has: it may be placed, in each image.
use Rattle.std.proofs.Common.{◌≡◌, ⊎_elim, ℕ, zero, suc, ◌+◌, ◌-◌, ◌<◌, ◌≤◌, true, false, cond, eqb, ltb, List, [], ◌∷◌, ◌++◌, map, length, nat_cmp, Option, Some, is_none, option_map, refl, sym, ap, ap₂, subst, ◌∙◌, arith, eq-eqb, ne_eqb}
use Rattle.std.specs.Prelude.{slice_get, bytes_eq}
use Rattle.std.proofs.lemmas.Bool.{cases_Bool, cond-true, cond-false, and_parts, and_from, lt-ltb, eqb-true}
use Rattle.std.proofs.lemmas.List.{length-map}
use Rattle.std.proofs.lemmas.Simd.{map-map}
use Rattle.std.proofs.lemmas.Option.{slice_get-map}
use Rattle.std.proofs.lemmas.Slice.Eq.{bytes_eq-Decides}
use Rattle.pud_defs.specs.declared.layout.TheConstants.{FRAME_WORDS, TYPE_RECORDS, NEXT_NUMBER_WORD}
use Rattle.pud_defs.specs.declared.space.TheConstants.{FRAME_MAGIC, FRAME_MAGIC_WORD, FRAME_NUMBER_WORD, FRAME_ORDINAL_WORD}
use Rattle.pud_defs.specs.Formats.Geometry.{steps_of}
use Rattle.pud_defs.specs.declared.records.TheConstants.{POOL_RECORDS}
use Rattle.pud_defs.specs.declared.records.Puddle.{Puddle}
use Rattle.pud_defs.specs.declared.records.PoolRecord.{PoolRecord}
use Rattle.pud_defs.specs.Formats.Image.{Image}
use Rattle.pud_defs.specs.Formats.Frames.{frame_at, frame_word}
use Rattle.pud_defs.specs.RegistryTables.Keyed.{first_free}
use Rattle.pud_defs.specs.RegistryTables.Spaces.{all_below}
use Rattle.pud_defs.specs.PoolGraphs.Stored.{Stored, stored_in, word_in_frame}
use Rattle.pud_defs.specs.PoolGraphs.Graph.{Graph, has_header, headers_fit, graph_of, pointee_at}
use Rattle.pud_defs.specs.RegistryTables.Placement.{ArePlacedFrom, ArePlaced}
use Rattle.pud_defs.specs.RegistryTables.Tables.{Tables, tables_of, pool_in}
use Rattle.pud_defs.specs.RegistryTables.Types.{type_at, types_of}
use Rattle.pud_defs.specs.StateMachine.Imports.{types_missing}
use Rattle.pud_defs.proofs.KeyedTables.Keyed.{keyed-same, option_map_parts}
use Rattle.pud_defs.proofs.RegistryTables.Spaces.{all_below-from, all_below-each}
use Rattle.pud_defs.proofs.PoolGraphs.Graphs.{graph_of-each}
use Rattle.graph_laws.specs.Placed.{AreFrontiers, AreAtEnd}
use Rattle.graph_laws.proofs.SameReads.Pointers.{there_is_puddle}
use Rattle.graph_laws.proofs.Exporting.Placed.{pointers-kept, pointers-moved, graph_of-placed}
use Rattle.registry.specs.declared.adding.NewPuddle.{NewPuddle}
use Rattle.registry.specs.declared.placing.NewType.{NewType}
use Rattle.registry.specs.Placing.{puddle_of_added, HasFreeRecords, IsPlacedFor}
use Rattle.pud_import.specs.Filling.{filled_value}

-- ---- the same read of another image

first_free-alike : {A : Type 0} (f g : ℕ → Option A) (from count : ℕ) → ((j : ℕ) → from ≤ j → j < from + count → g j ≡ f j) → first_free g from count ≡ first_free f from count
unfolding first_free
first_free-alike f g from zero same = refl
first_free-alike f g from (suc count) same =
    ap₂ (λ (o : Option _) (later : Option ℕ). cond (is_none o) (Some from) later) (same from (omega arith) (omega arith)) (first_free-alike f g (from + 1) count (λ j low high. same j (omega arith) (omega arith)))

free_records_alike : (f g : ℕ → Option (ℕ × ℕ)) → ((j : ℕ) → j < TYPE_RECORDS → g j ≡ f j) → (from : ℕ) (types : List NewType) → HasFreeRecords f from types → HasFreeRecords g from types
free_records_alike f g same from [] free = free
free_records_alike f g same from (t ∷ types) free =
    (first_free-alike f g from (TYPE_RECORDS - from) (λ j low high. same j (omega arith)) ∙ free.0, free_records_alike f g same (t.record_number + 1) types free.1)

module _ (F : ℕ) (i j : Image) (tables : tables_of F j ≡ tables_of F i) (number : j NEXT_NUMBER_WORD ≡ i NEXT_NUMBER_WORD) (types : (k : ℕ) → k < TYPE_RECORDS → type_at j k ≡ type_at i k) where
  same_types : types_of j ≡ types_of i
  same_types = keyed-same nat_cmp (type_at j) (type_at i) 0 TYPE_RECORDS (λ k low high. types k (omega arith))

  pub IsPlacedFor-same : (file : List (ℕ × ℕ)) (wanted classes : List ℕ) (slot : ℕ) (r : PoolRecord) (new : List NewType) (puddles : List NewPuddle) → IsPlacedFor F i file wanted classes slot r new puddles → IsPlacedFor F j file wanted classes slot r new puddles
  IsPlacedFor-same file wanted classes slot r new puddles is = record {
    slot_is = ap (λ (t : Tables). first_free t.pools 0 POOL_RECORDS) tables ∙ is.slot_is;
    absent = ap (λ (t : Tables). pool_in t r.name) tables ∙ is.absent;
    number = is.number ∙ sym number;
    enough = is.enough;
    types_are = is.types_are ∙ ap (λ (ts : List (ℕ × ℕ)). types_missing ts file) (sym same_types);
    records = free_records_alike (type_at i) (type_at j) types 0 new is.records;
    placed = subst (λ (t : Tables). ArePlaced t r.number wanted classes (map puddle_of_added puddles)) (sym tables) is.placed;
    members = is.members;
  }

-- ---- frontiers and bases

-- the old bases of the placed puddles are, by ordinals, the wanted bases
old_bases_placed : (t : Tables) (frame : ℕ) (taken wanted : List ℕ) (at : List (ℕ × Puddle)) → ArePlacedFrom t frame taken wanted at → map (λ (d : Puddle). d.old_base) (map (λ (e : ℕ × Puddle). e.1) at) ≡ wanted
old_bases_placed t frame taken [] [] placed = refl
old_bases_placed t frame taken [] (e ∷ at) placed = absurd placed
old_bases_placed t frame taken (base ∷ wanted) [] placed = absurd placed
old_bases_placed t frame taken (base ∷ wanted) (e ∷ at) placed = ap₂ (λ (b : ℕ) (bases : List ℕ). b ∷ bases) placed.2 (old_bases_placed t (e.0 + 1) (taken ++ e.1.base ∷ []) wanted at placed.3)

bases_placed : (at : List (ℕ × Puddle)) → map (λ (d : Puddle). d.base) (map (λ (e : ℕ × Puddle). e.1) at) ≡ map (λ (e : ℕ × Puddle). e.1.base) at
bases_placed [] = refl
bases_placed (e ∷ at) = ap (λ (bases : List ℕ). e.1.base ∷ bases) (bases_placed at)

record IsListed (at : List (ℕ × Puddle)) (o : ℕ) (d : Puddle) : Type 0 where
  entry : ℕ × Puddle
  there : slice_get at o ≡ Some entry
  is : entry.1 ≡ d

listed_there : (at : List (ℕ × Puddle)) (o : ℕ) (d : Puddle) → slice_get (map (λ (e : ℕ × Puddle). e.1) at) o ≡ Some d → IsListed at o d
listed_there at o d is =
    let parts = option_map_parts (λ (e : ℕ × Puddle). e.1) (slice_get at o) d (sym (slice_get-map (λ (e : ℕ × Puddle). e.1) at o) ∙ is) in
    record { entry = parts.value; there = parts.is; is = parts.gives }

module _ (t : Tables) (next : ℕ) (file : List Puddle) (at : List (ℕ × Puddle)) (ends : AreAtEnd file) (placed : ArePlaced t next (map (λ d. d.base) file) (map (λ d. d.class) file) at) where
  abbrev puddles : List Puddle
  puddles = map (λ (e : ℕ × Puddle). e.1) at

  abbrev wanted : List ℕ
  wanted = map (λ (d : Puddle). d.base) file

  -- if each puddle kept its base, all its steps are rewritten, and otherwise none
  ends_are : bytes_eq (map (λ (e : ℕ × Puddle). e.1.base) at) wanted ≡ true → AreAtEnd puddles
  ends_are kept = record {
    each = λ o d there. let e = listed_there at o d there in subst (λ (d : Puddle). d.frontier ≡ steps_of d) e.is (placed.frontier o e.entry e.there ∙ cond-true _ (steps_of e.entry.1) 0 kept);
  }

  starts_are : bytes_eq (map (λ (e : ℕ × Puddle). e.1.base) at) wanted ≡ false → AreFrontiers 0 puddles
  starts_are moved = record {
    each = λ o d there. let e = listed_there at o d there in ap (λ (d : Puddle). d.frontier) (sym e.is) ∙ placed.frontier o e.entry e.there ∙ cond-false _ (steps_of e.entry.1) 0 moved;
  }

  pub classes_are : map (λ (d : Puddle). d.class) puddles ≡ map (λ (d : Puddle). d.class) file
  classes_are = map-map (λ (d : Puddle). d.class) (λ (e : ℕ × Puddle). e.1) at ∙ placed.alike

  -- each pointer leads to the same as in the file
  pub pointers-placed : (o step v : ℕ) (d : Puddle) → slice_get file o ≡ Some d → step < steps_of d → pointee_at puddles o step v ≡ pointee_at file o step v
  pointers-placed o step v d here low = ⊎_elim
      (λ kept.
      pointers-kept file puddles ends (record { frontiers = ends_are kept; classes = classes_are; bases = bases_placed at ∙ (bytes_eq-Decides (map (λ (e : ℕ × Puddle). e.1.base) at) wanted).0 kept }) o step v d here low)
      (λ moved. pointers-moved file puddles ends (record { frontiers = starts_are moved; classes = classes_are; bases = old_bases_placed t 0 [] wanted at placed.turn }) o step v d here low)
      (cases_Bool (bytes_eq (map (λ (e : ℕ × Puddle). e.1.base) at) wanted))

-- ---- the graph

-- in an image the frames of these puddles store what the file's frames store
pub record HoldFile (F : ℕ) (file : Stored) (puddles : List NewPuddle) (image : Image) : Type 0 where
  pub each : (o k : ℕ) (a : NewPuddle) → slice_get puddles o ≡ Some a → k < FRAME_WORDS → image (frame_at F a.frame + k) ≡ filled_value file o a.puddle.number k

module _ (F : ℕ) (file : Stored) (puddles : List NewPuddle) (image : Image) (count : length puddles ≡ length file.puddles) (hold : HoldFile F file puddles image) where
  abbrev later : Stored
  later = stored_in F (map puddle_of_added puddles) image

  length-later : length later.puddles ≡ length file.puddles
  length-later = length-map (map puddle_of_added puddles) (λ (e : ℕ × Puddle). e.1) ∙ length-map puddles puddle_of_added ∙ count

  word_there : (o k : ℕ) (a : NewPuddle) → slice_get puddles o ≡ Some a → k < FRAME_WORDS → later.word o k ≡ filled_value file o a.puddle.number k
  word_there o k a there few =
      ap (word_in_frame F image k) (slice_get-map puddle_of_added puddles o ∙ ap (option_map puddle_of_added) there)
      ∙ cond-true (ltb k FRAME_WORDS) (frame_word F a.frame k image) 0 (lt-ltb k FRAME_WORDS few)
      ∙ hold.each o k a there few

  added_there : (o : ℕ) → o < length file.puddles → (a : NewPuddle) × (slice_get puddles o ≡ Some a)
  added_there o below = there_is puddles o (omega arith)
    where
      there_is : (puddles : List NewPuddle) (o : ℕ) → o < length puddles → (a : NewPuddle) × (slice_get puddles o ≡ Some a)
      there_is [] o below = absurd (omega arith)
      there_is (a ∷ puddles) zero below = (a, refl)
      there_is (a ∷ puddles) (suc o) below = there_is puddles o (omega arith)

  words_there : (o k : ℕ) → o < length file.puddles → k < FRAME_WORDS → (k ≡ FRAME_NUMBER_WORD → ⊥) → later.word o k ≡ file.word o k
  words_there o k below few other =
      let a = added_there o below in
      word_there o k a.0 a.1 few ∙ cond-false (eqb k FRAME_NUMBER_WORD) a.0.puddle.number (file.word o k) (ne_eqb k FRAME_NUMBER_WORD other)

  headers_there : headers_fit file ≡ true → headers_fit later ≡ true
  unfolding headers_fit
  headers_there fit =
      ap (λ n. all_below n (λ o. has_header o (later.word o) (slice_get later.puddles o))) length-later
      ∙ all_below-from (length file.puddles) (λ o. has_header o (later.word o) (slice_get later.puddles o)) one
    where
      one : (o : ℕ) → o < length file.puddles → has_header o (later.word o) (slice_get later.puddles o) ≡ true
      one o below =
          let a = added_there o below in
          let d = there_is_puddle file.puddles o below in
          let was = sym (ap (has_header o (file.word o)) d.1) ∙ all_below-each (length file.puddles) (λ o. has_header o (file.word o) (slice_get file.puddles o)) fit o below in
          let parts = and_parts _ (eqb (file.word o FRAME_ORDINAL_WORD) o) was in
          let first = and_parts (eqb (file.word o FRAME_MAGIC_WORD) FRAME_MAGIC) _ parts.0 in
          ap (has_header o (later.word o)) (slice_get-map (λ (e : ℕ × Puddle). e.1) (map puddle_of_added puddles) o ∙ ap (option_map (λ (e : ℕ × Puddle). e.1)) (slice_get-map puddle_of_added puddles o ∙ ap (option_map puddle_of_added) a.1))
          ∙ and_from _ _
          (and_from _ _
          (eq-eqb (later.word o FRAME_MAGIC_WORD) FRAME_MAGIC (words_there o FRAME_MAGIC_WORD below (omega arith) (λ e. absurd (omega arith)) ∙ eqb-true _ _ first.0))
          (eq-eqb (later.word o FRAME_NUMBER_WORD) a.0.puddle.number (word_there o FRAME_NUMBER_WORD a.0 a.1 (omega arith))))
          (eq-eqb (later.word o FRAME_ORDINAL_WORD) o (words_there o FRAME_ORDINAL_WORD below (omega arith) (λ e. absurd (omega arith)) ∙ eqb-true _ _ parts.1))

  -- the pool has the graph of the file
  pub graph_of-filled : (t : Tables) (next : ℕ) (types : List (ℕ × ℕ)) (g : Graph) → 1 ≤ length file.puddles → AreAtEnd file.puddles → ArePlaced t next (map (λ d. d.base) file.puddles) (map (λ d. d.class) file.puddles) (map puddle_of_added puddles)
      → graph_of types file ≡ Some g → graph_of types later ≡ Some g
  graph_of-filled t next types g some ends placed is = graph_of-placed types file later g (record {
    classes = classes_are t next file.puddles (map puddle_of_added puddles) ends placed;
    headers = headers_there (graph_of-each types file g is).headers;
    words = words_there;
    pointers = pointers-placed t next file.puddles (map puddle_of_added puddles) ends placed;
  }) some is
