-- What is written before the frames, piece by piece.
use Rattle.std.proofs.Common.{◌≡◌, ℕ, List, [], ◌∷◌, ◌++◌, map, length, refl, sym, ap, ap₂, ◌∙◌, append_assoc}
use Rattle.std.specs.Prelude.{flat_map}
use Rattle.std.specs.List.{range_with_len}
use Rattle.std.proofs.lemmas.List.{length-map}
use Rattle.pud_defs.specs.declared.files.TheConstants.{FILE_MAGIC, FILE_VERSION}
use Rattle.pud_defs.specs.declared.records.Puddle.{Puddle}
use Rattle.pud_defs.specs.PoolGraphs.Exported.{type_words, exported_frame, exported_words}
use Rattle.pud_defs.specs.Formats.Image.{Image}
use Rattle.pud_defs.specs.PoolGraphs.Stored.{stored_in}
use Rattle.pud_export.specs.Exporting.{front_words}

-- a header with this many puddles
abbrev pub header_of : (machine number : ℕ) → List (ℕ × ℕ) → (puddles : ℕ) → List ℕ
header_of machine number types n = FILE_MAGIC ∷ FILE_VERSION ∷ length types ∷ n ∷ machine ∷ number ∷ 0 ∷ 0 ∷ []

bases_read : (at : List (ℕ × Puddle)) → map (λ (e : ℕ × Puddle). e.1.base) at ≡ map (λ (d : Puddle). d.base) (map (λ (e : ℕ × Puddle). e.1) at)
bases_read [] = refl
bases_read (e ∷ at) = ap (λ (bases : List ℕ). e.1.base ∷ bases) (bases_read at)

classes_read : (at : List (ℕ × Puddle)) → map (λ (e : ℕ × Puddle). e.1.class) at ≡ map (λ (d : Puddle). d.class) (map (λ (e : ℕ × Puddle). e.1) at)
classes_read [] = refl
classes_read (e ∷ at) = ap (λ (classes : List ℕ). e.1.class ∷ classes) (classes_read at)

-- a header, the types, the bases and the classes are what comes before the frames
pub prefix_whole : (machine number : ℕ) (types : List (ℕ × ℕ)) (at : List (ℕ × Puddle)) (before first second third : List ℕ) → first ≡ before ++ header_of machine number types (length at)
    → second ≡ first ++ flat_map type_words types → third ≡ second ++ map (λ e. e.1.base) at → third ++ map (λ e. e.1.class) at ≡ before ++ front_words machine number types (map (λ e. e.1) at)
prefix_whole machine number types at before first second third is_first is_second is_third =
    let puddles : List Puddle = map (λ (e : ℕ × Puddle). e.1) at in
    let bases : List ℕ = map (λ (d : Puddle). d.base) puddles in
    let classes : List ℕ = map (λ (d : Puddle). d.class) puddles in
    let listed : List ℕ = flat_map type_words types in
    let header : header_of machine number types (length at) ≡ header_of machine number types (length puddles) = ap (header_of machine number types) (sym (length-map at (λ (e : ℕ × Puddle). e.1))) in
    let types_written = is_second ∙ ap (λ (xs : List ℕ). xs ++ listed) (is_first ∙ ap (λ (xs : List ℕ). before ++ xs) header) in
    let start : List ℕ = before ++ header_of machine number types (length puddles) in
    ap₂ (λ (xs ys : List ℕ). xs ++ ys) (is_third ∙ ap₂ (λ (xs ys : List ℕ). xs ++ ys) types_written (bases_read at)) (classes_read at)
    ∙ append_assoc (start ++ listed) bases classes
    ∙ append_assoc start listed (bases ++ classes)
    ∙ append_assoc before (header_of machine number types (length puddles)) (listed ++ (bases ++ classes))

-- with the frames after it, it is the file
pub file_whole : (F : ℕ) (at : List (ℕ × Puddle)) (image : Image) (machine number : ℕ) (types used : List (ℕ × ℕ)) (front words : List ℕ) → front ≡ front_words machine number used (map (λ e. e.1) at)
    → words ≡ front ++ flat_map (exported_frame types (stored_in F at image)) (range_with_len 0 (length at)) → words ≡ exported_words machine number types used (stored_in F at image)
unfolding exported_words
file_whole F at image machine number types used front words is_front is =
    let puddles : List Puddle = map (λ (e : ℕ × Puddle). e.1) at in
    let listed : List ℕ = flat_map type_words used in
    let bases : List ℕ = map (λ (d : Puddle). d.base) puddles in
    let classes : List ℕ = map (λ (d : Puddle). d.class) puddles in
    let frames = λ (n : ℕ). flat_map (exported_frame types (stored_in F at image)) (range_with_len 0 n) in
    let header : List ℕ = header_of machine number used (length puddles) in
    is ∙ ap₂ (λ (xs : List ℕ) (n : ℕ). xs ++ frames n) is_front (sym (length-map at (λ (e : ℕ × Puddle). e.1)))
    ∙ append_assoc header (listed ++ (bases ++ classes)) (frames (length puddles))
    ∙ ap (λ (xs : List ℕ). header ++ xs) (append_assoc listed (bases ++ classes) (frames (length puddles)))
