-- A file as a device: its types are those of the type table, and its frames store the same.
use Rattle.std.proofs.Common.{◌≡◌, ℕ, zero, suc, ◌+◌, ◌-◌, ◌<◌, ◌≤◌, Bool, true, false, ◌&&◌, leb, ltb, List, [], ◌∷◌, map, Option, Some, None, refl, sym, ap, ap₂, ◌∙◌, arith}
use Rattle.std.specs.declared.cmp.Ordering.{Ordering}
use Rattle.std.specs.declared.cmp.Ordering.TheVariants.{Less, Equal, Greater}
use Rattle.std.specs.List.{list_all, range_with_len}
use Rattle.std.specs.Ordering.{nat_cmp, is_lt}
use Rattle.std.specs.FinMap.Entries.{by_order, put, below_all, is_sorted}
use Rattle.std.proofs.lemmas.Bool.{and_parts, and_from, cond-true, cond-false, le-leb, lt-ltb, le-ltb}
use Rattle.std.proofs.lemmas.Bool.Decides.{nat_tests}
use Rattle.std.proofs.lemmas.Simd.{map-map}
use Rattle.std.proofs.lemmas.List.Elements.{All-from_get_or}
use Rattle.std.proofs.lemmas.List.FromFn.{length-map-range_with_len, get_or-map-range_with_len}
use Rattle.std.proofs.lemmas.Option.{slice_get-get_or}
use Rattle.pud_defs.specs.declared.layout.TheConstants.{TYPE_TABLE, TYPE_RECORDS, FRAME_WORDS}
use Rattle.pud_defs.specs.declared.files.TheConstants.{FILE_HEADER_WORDS}
use Rattle.pud_defs.specs.declared.records.TheConstants.{MAX_PUDDLES}
use Rattle.pud_defs.specs.declared.records.Puddle.{Puddle}
use Rattle.pud_defs.specs.Formats.Image.{Image}
use Rattle.pud_defs.specs.RegistryTables.Keyed.{put_entry, keyed}
use Rattle.pud_defs.specs.Formats.Layout.{frames_at}
use Rattle.pud_defs.specs.Formats.Frames.{frame_at}
use Rattle.pud_defs.specs.PoolGraphs.Stored.{stored_in, IsOnDevice}
use Rattle.pud_defs.specs.PoolGraphs.Graph.{graph_of}
use Rattle.pud_defs.specs.RegistryTables.Types.{type_record_at, type_at, types_of, is_sound_type}
use Rattle.pud_defs.specs.PoolGraphs.ExportFile.{file_type_at, file_type, file_types, file_frames_at, file_frame_at, file_puddle, file_stored, are_file_types}
use Rattle.pud_defs.proofs.KeyedTables.Keyed.{keyed-none}
use Rattle.pud_defs.proofs.RegistryTables.TypeTable.{type_at-free, type_at-used}
use Rattle.graph_laws.proofs.SameReads.Within.{graph_of-within}
use Rattle.graph_read.proofs.Pointed.{no_puddle}
use Rattle.puddle_header.proofs.Placed.{stored_word}
use Rattle.pud_import.proofs.FileChecks.TypesLegal.{legal_id}
use Rattle.pud_import.specs.Answers.{as_device, frame_and_puddle, file_pool}

-- ---- a sorted list, place by place

at_front : {K X : Type 0} (o : Ordering) (a b c : List (K × X)) → is_lt o ≡ true → by_order o a b c ≡ a
at_front Less a b c less = refl
at_front Equal a b c less = cc
at_front Greater a b c less = cc

put-front : (t : ℕ × ℕ) (ts : List (ℕ × ℕ)) → below_all nat_cmp t.0 ts ≡ true → put nat_cmp t.0 t.1 ts ≡ t ∷ ts
put-front t [] below = refl
put-front t (e ∷ es) below = at_front (nat_cmp t.0 e.0) _ _ _ (and_parts (is_lt (nat_cmp t.0 e.0)) (below_all nat_cmp t.0 es) below).0

-- if the places have the entries of a sorted list and no more, the list is what they are by their keys
keyed-sorted : (f : ℕ → ℕ × ℕ) (g : ℕ → Option (ℕ × ℕ)) (from count rest : ℕ) → ((j : ℕ) → from ≤ j → j < from + count → g j ≡ Some (f j)) → ((j : ℕ) → from + count ≤ j → j < from + count + rest → g j ≡ None)
    → is_sorted nat_cmp (map f (range_with_len from count)) ≡ true → keyed nat_cmp g from (count + rest) ≡ map f (range_with_len from count)
unfolding keyed
keyed-sorted f g from zero rest used free sorted =
    let none : 0 + rest ≡ rest = omega arith in
    ap (keyed nat_cmp g from) none ∙ keyed-none nat_cmp g from rest (λ j low high. free j (omega arith) (omega arith))
keyed-sorted f g from (suc count) rest used free sorted =
    let more : suc count + rest ≡ suc (count + rest) = omega arith in
    let others = map f (range_with_len (from + 1) count) in
    let parts = and_parts (below_all nat_cmp (f from).0 others) (is_sorted nat_cmp others) sorted in
    let later = keyed-sorted f g (from + 1) count rest (λ j low high. used j (omega arith) (omega arith)) (λ j low high. free j (omega arith) (omega arith)) parts.1 in
    ap (keyed nat_cmp g from) more
    ∙ ap₂ (put_entry nat_cmp) (used from (omega arith) (omega arith)) later
    ∙ put-front (f from) others parts.0

-- ---- the type table

module _ (words : Image) (V T K : ℕ) (few : T ≤ TYPE_RECORDS) where
  abbrev device : Image
  device = as_device words V T K

  no_frame : (w : ℕ) → w < frames_at K → leb (frames_at K) w ≡ false
  no_frame w below = grind (arith, nat_tests)

  type_word : (w k : ℕ) → TYPE_TABLE ≤ w → w < type_record_at T → FILE_HEADER_WORDS + (w - TYPE_TABLE) ≡ k → device w ≡ words k
  type_word w k low high same =
      cond-false _ _ _ (no_frame w (omega arith))
      ∙ cond-true _ _ _ (and_from (leb TYPE_TABLE w) (ltb w (type_record_at T)) (le-leb TYPE_TABLE w low) (lt-ltb w (type_record_at T) high))
      ∙ ap words same

  free_word : (w : ℕ) → type_record_at T ≤ w → w < frames_at K → device w ≡ 0
  free_word w low high =
      cond-false _ _ _ (no_frame w high)
      ∙ cond-false _ _ _ (ap₂ (λ (a b : Bool). a && b) (le-leb TYPE_TABLE w (omega arith)) (le-ltb w (type_record_at T) low))

  module _ (legal : are_file_types (file_types words T) ≡ true) where
    used_id : (i : ℕ) → i < T → (file_type words i).0 ≡ 0 → ⊥
    used_id i below none =
        let id = legal_id words T legal i below in
        let least = id.least in
        absurd (omega arith)

    listed_type : (i : ℕ) → i < T → type_at device i ≡ Some (file_type words i)
    listed_type i below =
        let id : device (type_record_at i) ≡ (file_type words i).0 = type_word (type_record_at i) (file_type_at i) (omega arith) (omega arith) (omega arith) in
        let map : device (type_record_at i + 1) ≡ (file_type words i).1 = type_word (type_record_at i + 1) (file_type_at i + 1) (omega arith) (omega arith) (omega arith) in
        type_at-used device i (λ free. used_id i below (sym id ∙ free)) ∙ ap₂ (λ (a b : ℕ). Some (a, b)) id map

    -- the types of the table are the file's
    pub types_as_device : types_of device ≡ file_types words T
    types_as_device =
        let all : TYPE_RECORDS ≡ T + (TYPE_RECORDS - T) = omega arith in
        ap (keyed nat_cmp (type_at device) 0) all
        ∙ keyed-sorted (file_type words) (type_at device) 0 T (TYPE_RECORDS - T)
        (λ j low high. listed_type j (omega arith))
        (λ j low high. type_at-free device j (free_word (type_record_at j) (omega arith) (omega arith)))
        (and_parts (list_all (λ t. is_sound_type (Some t)) (file_types words T)) (is_sorted nat_cmp (file_types words T)) legal).1

-- ---- the frames

module _ (words : Image) (V T K : ℕ) where
  pub pool_on_device : K ≤ MAX_PUDDLES → IsOnDevice K (file_pool words V T K)
  pool_on_device few =
      let many = length-map-range_with_len (frame_and_puddle words V T K) 0 K in
      record {
        few = omega arith;
        frames = All-from_get_or (λ e. e.0 < K) (file_pool words V T K) no_puddle
            (λ o below. let here = ap (λ (e : ℕ × Puddle). e.0) (get_or-map-range_with_len (frame_and_puddle words V T K) 0 K o o no_puddle (omega arith) (omega arith)) in omega arith);
      }

  same_frame_word : (o k : ℕ) → o < K → k < FRAME_WORDS → (stored_in K (file_pool words V T K) (as_device words V T K)).word o k ≡ (file_stored words V T K).word o k
  same_frame_word o k below few =
      let many = length-map-range_with_len (frame_and_puddle words V T K) 0 K in
      let there = slice_get-get_or (file_pool words V T K) o no_puddle (omega arith) ∙ ap (λ e. Some e) (get_or-map-range_with_len (frame_and_puddle words V T K) 0 K o o no_puddle below (omega arith)) in
      let at : file_frames_at V T K + (frame_at K o + k - frames_at K) ≡ file_frame_at V T K o + k = omega arith in
      stored_word K (file_pool words V T K) (as_device words V T K) o k (frame_and_puddle words V T K o) there few
      ∙ cond-true _ _ _ (le-leb (frames_at K) (frame_at K o + k) (omega arith))
      ∙ ap words at

  -- what the frames store on the device has the same graph as what they store in the file
  pub graph_as_device : (types : List (ℕ × ℕ)) → 0 < K → graph_of types (stored_in K (file_pool words V T K) (as_device words V T K)) ≡ graph_of types (file_stored words V T K)
  graph_as_device types some =
      let st = stored_in K (file_pool words V T K) (as_device words V T K) in
      let puddles : st.puddles ≡ (file_stored words V T K).puddles = map-map (λ (e : ℕ × Puddle). e.1) (frame_and_puddle words V T K) (range_with_len 0 K) in
      let many = length-map-range_with_len (file_puddle words V T K) 0 K in
      ap (λ ds. graph_of types (record { puddles = ds; word = st.word })) puddles
      ∙ graph_of-within types (file_stored words V T K) st.word (omega arith) (λ o k below few. same_frame_word o k (omega arith) few)

-- the graph that is judged is the file's, if the file's types are legal
pub graph_judged : (words : Image) (V T K : ℕ) (pool : List (ℕ × Puddle)) → T ≤ TYPE_RECORDS → 0 < K → pool ≡ file_pool words V T K → are_file_types (file_types words T) ≡ true
    → graph_of (types_of (as_device words V T K)) (stored_in K pool (as_device words V T K)) ≡ graph_of (file_types words T) (file_stored words V T K)
graph_judged words V T K pool few some is legal =
    let image = as_device words V T K in
    ap₂ (λ types at. graph_of types (stored_in K at image)) (types_as_device words V T K few legal) is ∙ graph_as_device words V T K (file_types words T) some

-- its puddles are the file's
pub puddles-pool : (words : Image) (V T K : ℕ) → map (λ e. e.1) (file_pool words V T K) ≡ (file_stored words V T K).puddles
puddles-pool words V T K = map-map (λ (e : ℕ × Puddle). e.1) (frame_and_puddle words V T K) (range_with_len 0 K)
