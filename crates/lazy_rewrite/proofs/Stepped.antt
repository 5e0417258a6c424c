-- An image to which the steps of a puddle are written: its types, its tables, its puddles and its graph.
use Rattle.std.proofs.Common.{◌≡◌, inl, inr, ℕ, ◌+◌, ◌^◌, ◌<◌, ◌≤◌, ◌&&◌, eqb, ltb, eq-eqb, ne_eqb, List, map, Option, Some, None, nat_cmp, sym, ap, ◌∙◌, arith}
use Rattle.std.specs.Prelude.{slice_get}
use Rattle.std.proofs.lemmas.Bool.{cases_eq, cond-true, cond-false, and_parts, eqb-true}
use Rattle.std.proofs.lemmas.Option.{none-some, same_Some}
use Rattle.pud_defs.specs.declared.layout.TheConstants.{FRAME_WORDS, TYPE_TABLE, POOL_TABLE, TYPE_RECORDS}
use Rattle.pud_defs.specs.declared.space.TheConstants.{ROOT_WORD, SLOT_SERIAL_WORD, SLOT_TYPE_WORD, SLOT_FIELDS_WORD}
use Rattle.pud_defs.specs.declared.records.Puddle.{Puddle}
use Rattle.pud_defs.specs.Formats.Geometry.{ordinal_of}
use Rattle.pud_defs.proofs.Formats.Geometry.{few_slots}
use Rattle.pud_defs.specs.Formats.Image.{Image}
use Rattle.pud_defs.specs.Formats.Layout.{tables_end, frames_at}
use Rattle.pud_defs.specs.Formats.Frames.{frame_at, frame_word}
use Rattle.pud_defs.specs.Logging.Replay.{overwritten}
use Rattle.pud_defs.specs.RegistryTables.Puddles.{Member, frontier_word, class_part, frontier_with_class, puddle_by, puddle_at}
use Rattle.pud_defs.specs.RegistryTables.Puts.{with_frontier_at, moved_in}
use Rattle.pud_defs.specs.RegistryTables.Types.{type_record_at, type_at, types_of, map_of}
use Rattle.pud_defs.specs.RegistryTables.Tables.{Tables, tables_of, puddles_in_turn}
use Rattle.pud_defs.specs.PoolGraphs.Stored.{Stored, stored_in, class_at, place_begins, word_in_frame}
use Rattle.pud_defs.specs.PoolGraphs.Graph.{Graph, graph_of, fitting, stands, pointee_at, content}
use Rattle.pud_defs.proofs.KeyedTables.Keyed.{keyed-same}
use Rattle.pud_defs.proofs.RegistryTables.TypeTable.{type_at-same}
use Rattle.pud_defs.proofs.RegistryTables.TablesOf.{tables_of-same, puddles_below, frames_of_tables}
use Rattle.pud_defs.proofs.RegistryTables.PoolMembers.{IsMemberOf, members_in_turn}
use Rattle.pud_defs.proofs.RegistryTables.FrontiersMoved.{map-moved_there, tables_of-moved, puddles_in_turn-moved}
use Rattle.pud_defs.proofs.Logging.Replay.{overwritten-stays, overwritten-there}
use Rattle.graph_laws.specs.Changes.{AreBases, with_words}
use Rattle.graph_laws.specs.Reads.{HasDistinctFrames}
use Rattle.graph_laws.specs.Rewriting.{passes_slot, anywhere, LeadSomewhere}
use Rattle.graph_laws.specs.Steps.{steps_in, with_steps}
use Rattle.graph_laws.proofs.RewritingSteps.Rewritten.{LeadSomewhere-graph}
use Rattle.graph_laws.proofs.SameReads.StoredImages.{word_in_frame-same}
use Rattle.graph_laws.proofs.SameReads.Words.{serial-same}
use Rattle.graph_laws.proofs.RewritingSteps.StepsStored.{write-frontier, write-other, graph_of-written_any, steps_in-same}
use Rattle.lazy_rewrite.specs.Batches.{AreNextSteps}
use Rattle.lazy_rewrite.specs.Graphs.{graph_at}

pub types_of-same : (i j : Image) → ((k : ℕ) → TYPE_TABLE ≤ k → k < POOL_TABLE → j k ≡ i k) → types_of j ≡ types_of i
types_of-same i j same = keyed-same nat_cmp (type_at j) (type_at i) 0 TYPE_RECORDS
    (λ n low high. type_at-same i j n (same (type_record_at n) (omega arith) (omega arith)) (same (type_record_at n + 1) (omega arith) (omega arith)))

-- ---- pointers that lead somewhere

-- Pointers lead somewhere if the frame of the puddle has the same words.
module _ (types : List (ℕ × ℕ)) (st : Stored) (word : ℕ → ℕ → ℕ) (o n m : ℕ) (same : word o ≡ st.word o) where
  word_same : (i k : ℕ) → i ≡ o → word i k ≡ st.word i k
  word_same i k here = ap (λ x. word x k) here ∙ ap (λ (w : ℕ → ℕ). w k) same ∙ ap (λ x. st.word x k) (sym here)

  pub LeadSomewhere-frame : LeadSomewhere types st o n m → LeadSomewhere types (with_words word st) o n m
  LeadSomewhere-frame lead = record {
    root = λ passes.
        let first = eqb-true o 0 (and_parts (eqb o 0) (eqb n 0 && ltb 0 m) passes).0 in
        ap (λ v. stands anywhere (pointee_at st.puddles 0 0 v)) (word_same 0 ROOT_WORD (sym first)) ∙ lead.root passes;
    fields = λ p map f below used is low passed.
        let here = eqb-true (ordinal_of p) o (and_parts (eqb (ordinal_of p) o) (passes_slot n m _) passed).0 in
        let at = λ (k : ℕ). word_same (ordinal_of p) (place_begins st p + k) here in
        ap (λ v. stands anywhere (content st.puddles map p f v)) (at (SLOT_FIELDS_WORD + f))
        ∙ lead.fields p map f below (λ free. used (serial-same st word p (λ slot. at SLOT_SERIAL_WORD) ∙ free)) (ap (λ t. fitting (class_at st p) (map_of t types)) (sym (at SLOT_TYPE_WORD)) ∙ is) low passed;
  }

-- ---- the puddles of a pool

-- The last word of the record of a puddle has its class.
class_by : (w0 w1 w2 w3 w4 : ℕ) (m : Member) → puddle_by w0 w1 w2 w3 w4 ≡ Some m → class_part w4 ≡ m.puddle.class
unfolding puddle_by
class_by w0 w1 w2 w3 w4 m is = elim (cases_eq w0 0) [
  | inl free ↦ absurd (none-some m (sym (cond-true _ _ _ (eq-eqb w0 0 free)) ∙ is))
  | inr used ↦ ap (λ (x : Member). x.puddle.class) (same_Some _ m (sym (cond-false _ _ _ (ne_eqb w0 0 used)) ∙ is))
]

class_stored : (image : Image) (frame : ℕ) (m : Member) → puddle_at image frame ≡ Some m → class_part (image (frontier_word frame)) ≡ m.puddle.class
unfolding puddle_at
class_stored image frame m is = class_by _ _ _ _ (image (frontier_word frame)) m is

module _ (F slot : ℕ) (at : List (ℕ × Puddle)) (image : Image) (turn : puddles_in_turn (tables_of F image) slot ≡ at) where
  abbrev t : Tables
  t = tables_of F image

  pub member_of_pool : (i : ℕ) (d : ℕ × Puddle) → slice_get at i ≡ Some d → IsMemberOf t slot i d
  member_of_pool i d there = (members_in_turn t slot).each i d (ap (λ ds. slice_get ds i) turn ∙ there)

  pub distinct_frames : HasDistinctFrames at
  distinct_frames = record {
    each = λ i j d x first second same.
        let a = member_of_pool i d first in
        let b = member_of_pool j x second in
        let one : a.member ≡ b.member = same_Some a.member b.member (sym a.used ∙ ap t.puddles same ∙ b.used) in
        omega (arith, a.ordinal_is, b.ordinal_is, ap (λ (q : Member). q.ordinal) one);
  }

  pub frame_of_pool : (i : ℕ) (d : ℕ × Puddle) → slice_get at i ≡ Some d → d.0 < F
  frame_of_pool i d there = let below = (member_of_pool i d there).below in omega (arith, below, frames_of_tables F image)

  -- The class is read from the word that stores the frontier.
  pub class_of_pool : (i : ℕ) (d : ℕ × Puddle) → slice_get at i ≡ Some d → class_part (image (frontier_word d.0)) ≡ d.1.class
  class_of_pool i d there =
      let m = member_of_pool i d there in
      class_stored image d.0 m.member (sym (puddles_below F image d.0 (frame_of_pool i d there)) ∙ m.used) ∙ ap (λ (x : Puddle). x.class) m.puddle

-- ---- one batch

module _ (F slot : ℕ) (at : List (ℕ × Puddle)) (goal : ℕ → ℕ) (o m : ℕ) (e : ℕ × Puddle) (image : Image) (next : AreNextSteps at goal o m e) (turn : puddles_in_turn (tables_of F image) slot ≡ at) where
  abbrev types : List (ℕ × ℕ)
  types = types_of image

  abbrev pub write : ℕ → Option ℕ
  write = steps_in F types at image o m e

  below : e.0 < F
  below = frame_of_pool F slot at image turn o e next.here

  distinct : HasDistinctFrames at
  distinct = distinct_frames F slot at image turn

  -- A word before the frames is not written, except for the frontier.
  pub unwritten : (k : ℕ) → k < frames_at F → (k ≡ frontier_word e.0 → ⊥) → write k ≡ None
  unwritten k before other = write-other F types (map (λ d. d.1) at) ((stored_in F at image).word o) o m e k (λ from end. absurd (omega arith)) other

  -- A word of another frame is not written.
  pub unwritten_frame : (frame k : ℕ) → k < FRAME_WORDS → (frame ≡ e.0 → ⊥) → write (frame_at F frame + k) ≡ None
  unwritten_frame frame k low other =
      write-other F types (map (λ d. d.1) at) ((stored_in F at image).word o) o m e (frame_at F frame + k)
      (λ from end. let same : frame ≡ e.0 = omega arith in other same)
      (λ here. absurd (omega (arith, below)))

  pub frontier_written : write (frontier_word e.0) ≡ Some (frontier_with_class m e.1.class)
  frontier_written = write-frontier F types (map (λ d. d.1) at) ((stored_in F at image).word o) o m e below

  -- The frontier has room in its half of the word.
  pub frontier_fits : m < 2 ^ 32
  frontier_fits = let few = few_slots e.1.class in omega (arith, next.last)

  module _ (i : Image) (tables : (k : ℕ) → TYPE_TABLE ≤ k → k < tables_end F → i k ≡ image k) (frame : (k : ℕ) → k < FRAME_WORDS → frame_word F e.0 k i ≡ frame_word F e.0 k image) where
    abbrev pub after : Image
    after = overwritten write i

    pub types_before : types_of i ≡ types
    types_before = types_of-same image i (λ k low high. tables k low (omega arith))

    pub types_after : types_of after ≡ types
    types_after = types_of-same i after (λ k low high. overwritten-stays write i k (unwritten k (omega arith) (λ here. absurd (omega arith)))) ∙ types_before

    pub tables_before : tables_of F i ≡ tables_of F image
    tables_before = tables_of-same F i image (λ k low high. tables k (omega arith) (omega arith)) (λ k low high. tables k (omega arith) high)

    pub turn_before : puddles_in_turn (tables_of F i) slot ≡ at
    turn_before = ap (λ u. puddles_in_turn u slot) tables_before ∙ turn

    pub tables_after : tables_of F after ≡ with_frontier_at e.0 m (tables_of F i)
    tables_after =
        tables_of-moved F i after e.0 m below frontier_fits
        (overwritten-there write i (frontier_word e.0) (frontier_with_class m e.1.class) frontier_written ∙ ap (frontier_with_class m) (sym (class_of_pool F slot at i turn_before o e next.here)))
        (λ k low high other. overwritten-stays write i k (unwritten k (omega arith) other))

    pub turn_after : puddles_in_turn (tables_of F after) slot ≡ with_steps o m e at
    turn_after =
        ap (λ u. puddles_in_turn u slot) tables_after
        ∙ puddles_in_turn-moved (tables_of F i) e.0 m slot
        ∙ ap (map (moved_in e.0 m)) turn_before
        ∙ map-moved_there m at o e next.here (λ k d there same. distinct.each k o d e there next.here same)

    write_same : steps_in F types at i o m e ≡ write
    write_same = steps_in-same F types at image i o m e next.here frame

    word_of_frame : (stored_in F at i).word o ≡ (stored_in F at image).word o
    word_of_frame =
        let each : (k : ℕ) → (stored_in F at i).word o k ≡ (stored_in F at image).word o k =
        λ k. ap (word_in_frame F i k) next.here
        ∙ word_in_frame-same F image i k (Some e) (λ d is low. ap (λ (f : ℕ × Puddle). frame_word F f.0 k i) (sym (same_Some e d is)) ∙ frame k low ∙ ap (λ (f : ℕ × Puddle). frame_word F f.0 k image) (same_Some e d is))
        ∙ sym (ap (word_in_frame F image k) next.here) in
        λ p k. each k p

    module _ (bases : AreBases (map (λ d. d.base) (map (λ d. d.1) at))) where
      more : e.1.frontier ≤ m
      more = omega (arith, next.some)

      pub graph_after_any : LeadSomewhere types (stored_in F at image) o e.1.frontier m → graph_of types (stored_in F (with_steps o m e at) after) ≡ graph_of types (stored_in F at i)
      graph_after_any lead =
          ap (λ (w : ℕ → Option ℕ). graph_of types (stored_in F (with_steps o m e at) (overwritten w i))) (sym write_same)
          ∙ graph_of-written_any F types at i o m e distinct next.here below bases more (LeadSomewhere-frame types (stored_in F at image) (stored_in F at i).word o e.1.frontier m word_of_frame lead)

      -- The graph of the pool stays, or there is none.
      pub graph_at-after : (g : Graph) → graph_of types (stored_in F at image) ≡ Some g → graph_at F slot after ≡ graph_at F slot i
      graph_at-after g is =
          (λ p. graph_of (types_after p) (stored_in F (turn_after p) after))
          ∙ graph_after_any (LeadSomewhere-graph types (stored_in F at image) g o e.1.frontier m is)
          ∙ sym (λ p. graph_of (types_before p) (stored_in F (turn_before p) i))

      pub graph_after : (g : Graph) → graph_of types (stored_in F at image) ≡ Some g → graph_of types (stored_in F at i) ≡ Some g → graph_of types (stored_in F (with_steps o m e at) after) ≡ Some g
      graph_after g is here = graph_after_any (LeadSomewhere-graph types (stored_in F at image) g o e.1.frontier m is) ∙ here
