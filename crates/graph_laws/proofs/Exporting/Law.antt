-- The exported words of a pool are those of a file with the pool's graph and the types that are used.
use Rattle.std.proofs.Common.{◌≡◌, ℕ, ◌*◌, ◌≤◌, Bool, true, ◌&&◌, List, [], ◌∷◌, map, length, slice_index, Option, Some, None, option_map, nat_cmp, refl, ap, ap₂, ◌∙◌, arith, eq-eqb}
use Rattle.std.specs.Prelude.{slice_get}
use Rattle.std.proofs.lemmas.Bool.{cond-true, and_from, le-leb}
use Rattle.std.proofs.lemmas.List.{length-map}
use Rattle.std.proofs.lemmas.List.Folds.{list_all-map}
use Rattle.std.proofs.lemmas.Option.{slice_get-map}
use Rattle.pud_defs.specs.declared.layout.TheConstants.{TYPE_RECORDS}
use Rattle.pud_defs.specs.declared.records.TheConstants.{MAX_PUDDLES}
use Rattle.pud_defs.specs.declared.records.Puddle.{Puddle}
use Rattle.pud_defs.specs.Formats.Bases.{is_legal_base}
use Rattle.pud_defs.specs.declared.files.TheConstants.{FILE_VERSION}
use Rattle.pud_defs.specs.Formats.Geometry.{is_legal_class}
use Rattle.pud_defs.specs.RegistryTables.Keyed.{are_distinct}
use Rattle.pud_defs.specs.PoolGraphs.Stored.{Stored}
use Rattle.pud_defs.specs.PoolGraphs.Graph.{Graph, graph_of}
use Rattle.pud_defs.specs.PoolGraphs.ExportFile.{words_in, file_words, file_types, file_stored, has_file_header, are_file_types, under_base, are_file_bases, are_file_classes, is_plain, is_file, types_used, FileContents, contents_with, contents_by, contents_of, file_graph}
use Rattle.pud_defs.specs.PoolGraphs.Exported.{exported_words, IsExportable}
use Rattle.graph_laws.specs.Changes.{AreBases}
use Rattle.graph_laws.proofs.Exporting.Pieces.{at_rest, IsExported, length-words, types_read, is_exported}
use Rattle.graph_laws.proofs.Exporting.BasesApart.{are_bases}
use Rattle.graph_laws.proofs.Exporting.Moved.{graph_of-exported}
use Rattle.graph_laws.proofs.SameReads.UsedTypes.{graph_of-used, length-types_used, types_used-all, types_used-legal}
use Rattle.graph_laws.proofs.Exporting.Plain.{is_plain-exported}

-- ---- bases at rest

option_map-at_rest : (f : Puddle → ℕ × ℕ) (o : Option Puddle) → ((d : Puddle) → f (at_rest d) ≡ f d) → option_map f (option_map at_rest o) ≡ option_map f o
option_map-at_rest f None same = refl
option_map-at_rest f (Some d) same = ap (λ (e : ℕ × ℕ). Some e) (same d)

abbrev with_base : (o : ℕ) → Puddle → ℕ × ℕ
with_base o d = (d.base, o)

under_base-at_rest : (puddles : List Puddle) (o : ℕ) → under_base (map at_rest puddles) o ≡ under_base puddles o
under_base-at_rest puddles o =
    ap (option_map (with_base o)) (slice_get-map at_rest puddles o) ∙ option_map-at_rest (with_base o) (slice_get puddles o) (λ d. refl)

are_file_bases-at_rest : (puddles : List Puddle) → are_file_bases (map at_rest puddles) ≡ are_file_bases puddles
are_file_bases-at_rest puddles =
    let each : under_base (map at_rest puddles) ≡ under_base puddles = λ i o. under_base-at_rest puddles o i in
    ap₂ (λ (x y : Bool). x && y)
    (list_all-map (λ (d : Puddle). is_legal_base d.base) at_rest puddles)
    (ap₂ (λ at count. are_distinct nat_cmp at 0 count) each (length-map puddles at_rest))

classes-at_rest : (puddles : List Puddle) → map (λ d. d.class) (map at_rest puddles) ≡ map (λ d. d.class) puddles
classes-at_rest [] = refl
classes-at_rest (d ∷ puddles) = ap (λ (cs : List ℕ). d.class ∷ cs) (classes-at_rest puddles)

are_file_classes-at_rest : (puddles : List Puddle) → are_file_classes (map at_rest puddles) ≡ are_file_classes puddles
are_file_classes-at_rest puddles = list_all-map is_legal_class at_rest puddles

-- ---- the law

module _ (machine number : ℕ) (types : List (ℕ × ℕ)) (st : Stored) (g : Graph) (h : IsExportable types st) (is : graph_of types st ≡ Some g) where
  abbrev used : List (ℕ × ℕ)
  used = types_used types g

  abbrev written : List ℕ
  written = exported_words machine number types used st

  abbrev file : Stored
  file = file_stored (slice_index written) FILE_VERSION (length used) (length st.puddles)

  abbrev contents : FileContents
  contents = record { types = used; classes = map (λ d. d.class) st.puddles; graph = g }

  few_types : length used ≤ TYPE_RECORDS
  few_types = let few = h.few_types in omega (arith, length-types_used types g)

  header_fits : has_file_header (slice_index written) FILE_VERSION (length used) (length st.puddles) ≡ true
  unfolding exported_words
  header_fits =
      and_from _ _
      (and_from _ _
      (and_from _ _
      (and_from _ _ (and_from _ _ (and_from _ _ refl refl) (le-leb (length used) TYPE_RECORDS few_types)) (le-leb 1 (length st.puddles) h.some))
      (le-leb (length st.puddles) MAX_PUDDLES h.few))
      refl)
      refl

  bases : AreBases (map (λ d. d.base) st.puddles)
  bases = are_bases st.puddles h.legal_bases

  exported : IsExported types st file
  exported = is_exported types st machine number used

  types_are : file_types (slice_index written) (length used) ≡ used
  types_are = types_read types st machine number used

  is_the_file : is_file (slice_index written) (length written) FILE_VERSION (length used) (length st.puddles) ≡ true
  unfolding is_file
  is_the_file =
      and_from _ _
      (and_from _ _
      (and_from _ _
      (and_from _ _
      (and_from _ _ header_fits (eq-eqb (length written) (file_words FILE_VERSION (length used) (length st.puddles)) (length-words types st machine number used)))
      (ap are_file_types types_are ∙ types_used-legal types g h.legal_types))
      (ap are_file_bases exported.puddles ∙ are_file_bases-at_rest st.puddles ∙ h.legal_bases))
      (ap are_file_classes exported.puddles ∙ are_file_classes-at_rest st.puddles ∙ h.legal_classes))
      (ap (λ listed. is_plain listed file) types_are ∙ is_plain-exported types st file bases h.some exported g is)

  graph_there : graph_of used file ≡ Some g
  graph_there = graph_of-used types g file (graph_of-exported types st file g bases h.some exported is)

  -- The words are read by the counts in the header.
  counts_read : contents_of written ≡ contents_by (slice_index written) (length written) FILE_VERSION (length used) (length st.puddles)
  unfolding contents_of exported_words
  counts_read = refl

  pub contents_of-exported : contents_of written ≡ Some contents
  contents_of-exported =
      counts_read
      ∙ cond-true _ _ _ is_the_file
      ∙ ap (λ listed. contents_with listed (map (λ d. d.class) file.puddles) (graph_of listed file)) types_are
      ∙ ap₂ (contents_with used) (ap (map (λ (d : Puddle). d.class)) exported.puddles ∙ classes-at_rest st.puddles) graph_there
      ∙ cond-true _ _ _ (types_used-all types g)

  -- Bytes that spell the words are a file of the graph.
  pub file_graph-exported : (bytes : List ℕ) → words_in bytes ≡ written → length bytes ≡ 8 * length (words_in bytes) → file_graph bytes ≡ Some contents
  unfolding file_graph
  file_graph-exported bytes spelled whole = cond-true _ _ _ (eq-eqb (length bytes) (8 * length (words_in bytes)) whole) ∙ ap contents_of spelled ∙ contents_of-exported
