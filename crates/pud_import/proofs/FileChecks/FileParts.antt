-- The parts of what makes bytes a file, put together and taken apart.
use Rattle.std.proofs.Common.{◌≡◌, ℕ, ◌*◌, ◌≤◌, Bool, true, false, ◌&&◌, cond, eqb, List, length, take, Option, Some, None, is_some, option_map, refl, sym, ap, ◌∙◌, ⊎_elim, arith, eq-eqb}
use Rattle.std.specs.List.{list_all}
use Rattle.std.proofs.lemmas.Bool.{and_parts, and_from, cases_lt, cond-true, cond_both, eqb-true, leb-true, false_from_ne_true}
use Rattle.std.proofs.lemmas.List.{take_all, length-take-le}
use Rattle.pm_model.specs.declared.host.TheConstants.{FILE_READ_LIMIT}
use Rattle.std.proofs.lemmas.List.FromFn.{length-map-range_with_len}
use Rattle.pud_defs.specs.declared.layout.TheConstants.{TYPE_RECORDS}
use Rattle.pud_defs.specs.declared.records.TheConstants.{MAX_PUDDLES}
use Rattle.pud_defs.specs.declared.files.TheConstants.{FIRST_FILE_VERSION}
use Rattle.pud_defs.specs.PoolGraphs.Exported.{IsExportable}
use Rattle.pud_defs.specs.Formats.Image.{Image}
use Rattle.pud_defs.specs.PoolGraphs.Stored.{Stored}
use Rattle.pud_defs.specs.PoolGraphs.Graph.{Graph, graph_of}
use Rattle.pud_defs.specs.PoolGraphs.ExportFile.{words_in, file_class_words, file_words, file_type, file_puddle, file_types, file_stored, has_file_header, are_file_types, are_file_bases, are_file_classes, is_plain, is_file, is_type_used, contents_with, contents_of, file_graph}
use Rattle.graph_laws.proofs.SameReads.UsedTypes.{is_type_used-scanned}
use Rattle.pud_import.proofs.FileChecks.Spelled.{length-words_in}
use Rattle.pud_import.specs.Contents.{file_image, version_read, type_count_read, puddle_count_read, types_held, stored_held, classes_held, contents_read, is_used_in, is_sized, is_sound_file}

-- ---- how many bytes there are

-- bytes with a header, as many as it states, and legal classes have the size of a file
pub sized_whole : (bytes : List ℕ) (V T K : ℕ) → V ≡ version_read bytes → T ≡ type_count_read bytes → K ≡ puddle_count_read bytes → length bytes ≡ 8 * file_words V T K
    → has_file_header (file_image bytes) V T K ≡ true → are_file_classes (file_stored (file_image bytes) V T K).puddles ≡ true → true ≡ is_sized bytes
sized_whole bytes V T K version types puddles whole header classes =
    let words = file_image bytes in
    let spelled = length-words_in bytes in
    let counted : length (words_in bytes) ≡ file_words V T K = omega arith in
    sym (and_from _ _ (eq-eqb _ _ (omega arith))
    (and_from _ _
    (and_from _ _ (sym (λ i. has_file_header words (version i) (types i) (puddles i)) ∙ header) (eq-eqb _ _ (counted ∙ (λ i. file_words (version i) (types i) (puddles i)))))
    (sym (λ i. are_file_classes (file_stored words (version i) (types i) (puddles i)).puddles) ∙ classes)))

-- what a header states about the counts
record HasCounts (T K : ℕ) : Type 0 where
  few_types : T ≤ TYPE_RECORDS
  some : 1 ≤ K
  few_puddles : K ≤ MAX_PUDDLES

counts : (words : Image) (V T K : ℕ) → has_file_header words V T K ≡ true → HasCounts T K
counts words V T K header =
    let most = and_parts _ _ (and_parts _ _ (and_parts _ _ header).0).0 in
    let least = and_parts _ _ most.0 in
    let few = and_parts _ _ least.0 in
    record { few_types = leb-true T TYPE_RECORDS few.1; some = leb-true 1 K least.1; few_puddles = leb-true K MAX_PUDDLES most.1 }

-- bytes that have the size of a file
record HasSize (bytes : List ℕ) : Type 0 where
  whole : length bytes ≡ 8 * length (words_in bytes)
  header : has_file_header (file_image bytes) (version_read bytes) (type_count_read bytes) (puddle_count_read bytes) ≡ true
  words : length (words_in bytes) ≡ file_words (version_read bytes) (type_count_read bytes) (puddle_count_read bytes)
  classes : are_file_classes (stored_held bytes).puddles ≡ true

size_parts : (bytes : List ℕ) → is_sized bytes ≡ true → HasSize bytes
size_parts bytes is =
    let parts = and_parts (eqb (length bytes) (8 * length (words_in bytes))) _ is in
    let rest = and_parts _ (are_file_classes (stored_held bytes).puddles) parts.1 in
    let counted = and_parts (has_file_header (file_image bytes) (version_read bytes) (type_count_read bytes) (puddle_count_read bytes)) _ rest.0 in
    record { whole = eqb-true _ _ parts.0; header = counted.0; words = eqb-true _ _ counted.1; classes = rest.1 }

-- ---- all of it

is_some-chosen : {A : Type 0} (b : Bool) (x : A) → is_some (cond b (Some x) None) ≡ b
is_some-chosen true x = refl
is_some-chosen false x = refl

-- the tests of a file, one after the other, are those of its size and its classes, and those of the rest
all_tests : (a h e t b c p : Bool) (types : List (ℕ × ℕ)) (classes : List ℕ) (g : Option Graph) (u : Bool) → ((x : Graph) → g ≡ Some x → u ≡ list_all (λ type. is_type_used type.0 x) types)
    → is_some (cond a (cond (h && e && t && b && c && p) (contents_with types classes g) None) None) ≡ ((a && (h && e && c)) && (t && b && p && is_some g && u))
all_tests false h e t b c p types classes g u used = refl
all_tests true false e t b c p types classes g u used = refl
all_tests true true false t b c p types classes g u used = refl
all_tests true true true false b true p types classes g u used = refl
all_tests true true true false b false p types classes g u used = refl
all_tests true true true true false true p types classes g u used = refl
all_tests true true true true false false p types classes g u used = refl
all_tests true true true true true false p types classes g u used = refl
all_tests true true true true true true false types classes g u used = refl
all_tests true true true true true true true types classes None u used = refl
all_tests true true true true true true true types classes (Some x) u used = is_some-chosen (list_all (λ type. is_type_used type.0 x) types) _ ∙ sym (used x refl)

all_used : (types : List (ℕ × ℕ)) (classes : List ℕ) (g : Option Graph) (u : Bool) → ((x : Graph) → g ≡ Some x → u ≡ list_all (λ type. is_type_used type.0 x) types) → u ≡ true
    → contents_with types classes g ≡ option_map (λ (x : Graph). record { types = types; classes = classes; graph = x }) g
all_used types classes None u used all = refl
all_used types classes (Some x) u used all = cond-true _ _ _ (sym (used x refl) ∙ all)

used_by_slots : (types listed : List (ℕ × ℕ)) (st : Stored) (g : Graph) → graph_of types st ≡ Some g → list_all (λ t. is_used_in st t.0) listed ≡ list_all (λ t. is_type_used t.0 g) listed
used_by_slots types listed st g is =
    let each : (λ (t : ℕ × ℕ). is_used_in st t.0) ≡ (λ (t : ℕ × ℕ). is_type_used t.0 g) = λ i t. sym (is_type_used-scanned types st g t.0 is) i in
    ap (λ test. list_all test listed) each

-- bytes are a file exactly if their size and the rest are those of a file
is_file-tested : (bytes : List ℕ) → is_some (file_graph bytes) ≡ (is_sized bytes && is_sound_file (file_image bytes) (version_read bytes) (type_count_read bytes) (puddle_count_read bytes))
unfolding file_graph contents_of is_file
is_file-tested bytes =
    let words = file_image bytes in
    let V = version_read bytes in
    let T = type_count_read bytes in
    let K = puddle_count_read bytes in
    let types = types_held bytes in
    let st = stored_held bytes in
    all_tests (eqb (length bytes) (8 * length (words_in bytes))) (has_file_header words V T K) (eqb (length (words_in bytes)) (file_words V T K)) (are_file_types types) (are_file_bases st.puddles) (are_file_classes st.puddles) (is_plain types st)
    types (classes_held bytes) (graph_of types st) (list_all (λ t. is_used_in st t.0) types) (λ g is. used_by_slots types types st g is)

-- the test of the graph only counts if the types are legal
pub joined : (t types b bases p plain g graph u used : Bool) → t ≡ types → b ≡ bases → p ≡ plain → (types ≡ true → g ≡ graph) → u ≡ used → (t && b && p && g && u) ≡ (types && bases && plain && graph && used)
joined t types b bases p plain g graph u used is_t is_b is_p is_g is_u =
    (λ i. is_t i && is_b i && is_p i && g && is_u i)
    ∙ elim types as (λ x. (x ≡ true → g ≡ graph) → (x && bases && plain && g && used) ≡ (x && bases && plain && graph && used)) [
      | true ↦ λ same. ap (λ x. bases && plain && x && used) (same refl)
      | false ↦ λ same. refl
    ] is_g

-- ---- what is read

-- bytes that have the size of a file are a file exactly if the rest is that of a file
pub file_judged : (bytes own : List ℕ) (V T K : ℕ) (sound : Bool) → own ≡ bytes → V ≡ version_read bytes → T ≡ type_count_read bytes → K ≡ puddle_count_read bytes → is_sized bytes ≡ true → sound ≡ is_sound_file (file_image own) V T K → is_some (file_graph bytes) ≡ sound
file_judged bytes own V T K sound same version types puddles size is =
    is_file-tested bytes
    ∙ ap (λ b. b && is_sound_file (file_image bytes) (version_read bytes) (type_count_read bytes) (puddle_count_read bytes)) size
    ∙ sym (is ∙ (λ i. is_sound_file (file_image (same i)) (version i) (types i) (puddles i)))

-- other bytes are no file
pub file_refused : (bytes : List ℕ) → is_sized bytes ≡ false → is_some (file_graph bytes) ≡ false
file_refused bytes size = is_file-tested bytes ∙ ap (λ b. b && is_sound_file (file_image bytes) (version_read bytes) (type_count_read bytes) (puddle_count_read bytes)) size

-- what comes after the header of a file
record HasSoundWords (words : Image) (V T K : ℕ) : Type 0 where
  types : are_file_types (file_types words T) ≡ true
  bases : are_file_bases (file_stored words V T K).puddles ≡ true
  plain : is_plain (file_types words T) (file_stored words V T K) ≡ true
  used : list_all (λ t. is_used_in (file_stored words V T K) t.0) (file_types words T) ≡ true

sound_parts : (words : Image) (V T K : ℕ) → is_sound_file words V T K ≡ true → HasSoundWords words V T K
sound_parts words V T K is =
    let used = and_parts _ _ is in
    let graph = and_parts _ _ used.0 in
    let plain = and_parts _ _ graph.0 in
    let bases = and_parts _ _ plain.0 in
    record { types = bases.0; bases = bases.1; plain = plain.1; used = used.1 }

-- about bytes that are a file
module _ (bytes : List ℕ) (is : is_some (file_graph bytes) ≡ true) where
  tests : (is_sized bytes ≡ true) × (is_sound_file (file_image bytes) (version_read bytes) (type_count_read bytes) (puddle_count_read bytes) ≡ true)
  tests = and_parts (is_sized bytes) (is_sound_file (file_image bytes) (version_read bytes) (type_count_read bytes) (puddle_count_read bytes)) (sym (is_file-tested bytes) ∙ is)

  sized : HasSize bytes
  sized = size_parts bytes tests.0

  sound : HasSoundWords (file_image bytes) (version_read bytes) (type_count_read bytes) (puddle_count_read bytes)
  sound = sound_parts (file_image bytes) (version_read bytes) (type_count_read bytes) (puddle_count_read bytes) tests.1

  pub types_legal : are_file_types (types_held bytes) ≡ true
  types_legal = sound.types

  -- what a file stores can be exported as it is
  pub exportable : IsExportable (types_held bytes) (stored_held bytes)
  exportable =
      let V = version_read bytes in
      let T = type_count_read bytes in
      let K = puddle_count_read bytes in
      let header = counts (file_image bytes) V T K sized.header in
      let few_types = header.few_types in
      let some = header.some in
      let few_puddles = header.few_puddles in
      let types = length-map-range_with_len (file_type (file_image bytes)) 0 T in
      let puddles = length-map-range_with_len (file_puddle (file_image bytes) V T K) 0 K in
      record { few_types = omega arith; legal_types = sound.types; some = omega arith; few = omega arith; legal_bases = sound.bases; legal_classes = sized.classes }

  -- what the file contains is the graph of its frames
  pub contents_of_file : file_graph bytes ≡ option_map (contents_read bytes) (graph_of (types_held bytes) (stored_held bytes))
  unfolding file_graph contents_of is_file
  contents_of_file =
      let types = types_held bytes in
      let st = stored_held bytes in
      let K = puddle_count_read bytes in
      let file : is_file (file_image bytes) (length (words_in bytes)) (version_read bytes) (type_count_read bytes) K ≡ true =
      and_from _ _ (and_from _ _ (and_from _ _ (and_from _ _ (and_from _ _ sized.header (eq-eqb _ _ sized.words)) sound.types) sound.bases) sized.classes) sound.plain in
      cond-true _ _ _ (eq-eqb _ _ sized.whole)
      ∙ cond-true _ _ _ file
      ∙ all_used types (classes_held bytes) (graph_of types st) (list_all (λ t. is_used_in st t.0) types) (λ g is. used_by_slots types types st g is) sound.used

-- ---- how long a file is

none_when : {A : Type 0} (o : Option A) → is_some o ≡ false → o ≡ None
none_when None e = refl
none_when (Some x) e = cc

-- a file has at most one class for each puddle
few_class_words : (V K : ℕ) → file_class_words V K ≤ K
few_class_words V K = cond_both (eqb V FIRST_FILE_VERSION) 0 K (λ n. n ≤ K) (λ first. omega arith) (λ later. omega arith)

-- bytes that are not as many as a file can have are no file
none_by_size : (bytes : List ℕ) → ((V T K : ℕ) → T ≤ TYPE_RECORDS → K ≤ MAX_PUDDLES → length bytes ≡ 8 * file_words V T K → ⊥) → file_graph bytes ≡ None
none_by_size bytes no_size = none_when (file_graph bytes) (false_from_ne_true (is_some (file_graph bytes)) (λ is.
    let size = sized bytes is in
    let header = counts (file_image bytes) (version_read bytes) (type_count_read bytes) (puddle_count_read bytes) size.header in
    no_size (version_read bytes) (type_count_read bytes) (puddle_count_read bytes) header.few_types header.few_puddles (omega (arith, size.whole, size.words))))

pub file_graph-limit : (bytes : List ℕ) → file_graph (take FILE_READ_LIMIT bytes) ≡ file_graph bytes
file_graph-limit bytes = ⊎_elim
    (λ longer.
    let front = length-take-le FILE_READ_LIMIT bytes (omega arith) in
    none_by_size (take FILE_READ_LIMIT bytes) (λ V T K few_types few_puddles whole. let few = few_class_words V K in absurd (omega arith))
    ∙ sym (none_by_size bytes (λ V T K few_types few_puddles whole. let few = few_class_words V K in absurd (omega arith))))
    (λ all. ap file_graph (take_all FILE_READ_LIMIT bytes (omega arith)))
    (cases_lt FILE_READ_LIMIT (length bytes))
