-- How it is judged what a pool stores: its headers, its serials, and all of it together.
use Rattle.std.proofs.Common.{◌≡◌, ℕ, ◌<◌, Bool, true, false, ◌&&◌, ◌||◌, cond, eqb, ltb, nat_cmp, List, [], ◌∷◌, map, length, get_or, slice_get, Option, Some, None, is_some, option_map, eqb-true, refl, sym, ap, ap₂, ◌∙◌, arith}
use Rattle.std.proofs.Math.Bool.{and-false}
use Rattle.std.proofs.lemmas.Bool.{cond-false}
use Rattle.std.proofs.lemmas.Option.{slice_get-map, slice_get-get_or}
use Rattle.std.proofs.lemmas.List.{length-map}
use Rattle.puddle_header.proofs.Fits.{is_header-words}
use Rattle.puddle_header.proofs.Placed.{stored_word}
use Rattle.pud_defs.specs.declared.layout.TheConstants.{FRAME_WORDS}
use Rattle.pud_defs.specs.declared.space.TheConstants.{FRAME_MAGIC_WORD, FRAME_NUMBER_WORD, FRAME_ORDINAL_WORD, ROOT_WORD}
use Rattle.pud_defs.specs.declared.records.Puddle.{Puddle}
use Rattle.pud_defs.specs.Formats.Geometry.{places_among}
use Rattle.pud_defs.specs.Formats.Image.{Image}
use Rattle.pud_defs.specs.Formats.Frames.{frame_word}
use Rattle.pud_defs.specs.Formats.Headers.{is_header}
use Rattle.pud_defs.specs.PoolGraphs.Graph.{Content, Table, has_header, headers_fit, is_graph, is_next_serial, stands, all_stand, is_sound_place, has_graph, graph_stored, graph_of, under_serial, table_of, next_serial_of, root_of, pointee_at}
use Rattle.graph_read.specs.Reading.{pointee_of}
use Rattle.graph_read.proofs.Pointed.{no_puddle}
use Rattle.graph_read.proofs.Passing.{pointee_read}
use Rattle.pud_defs.proofs.RegistryTables.Spaces.{all_below-same}
use Rattle.pud_defs.specs.RegistryTables.Keyed.{are_distinct}
use Rattle.pud_defs.specs.RegistryTables.Spaces.{all_below}
use Rattle.pud_defs.specs.PoolGraphs.Stored.{Stored, stored_in, places_of}
use Rattle.graph_read.specs.declared.checking.SlotCheck.TheVariants.{IsSound}
use Rattle.graph_read.specs.Checking.{content_of, serials_in, with_serials, contents_pass, place_passes}

-- the frame and the record of an ordinal
abbrev pub entry : List (ℕ × Puddle) → ℕ → ℕ × Puddle
entry at o = get_or at o no_puddle

-- the frame of an ordinal has the header of its puddle
abbrev pub header_at : Stored → ℕ → Bool
header_at st o = has_header o (st.word o) (slice_get st.puddles o)

header_of : (F : ℕ) (at : List (ℕ × Puddle)) (image : Image) (o : ℕ) (e : ℕ × Puddle) → slice_get at o ≡ Some e
    → is_header e.1.number o (frame_word F e.0 FRAME_MAGIC_WORD image) (frame_word F e.0 FRAME_NUMBER_WORD image) (frame_word F e.0 FRAME_ORDINAL_WORD image) ≡ header_at (stored_in F at image) o
header_of F at image o e there =
    let word = (stored_in F at image).word o in
    sym (ap (has_header o word) (slice_get-map (λ (x : ℕ × Puddle). x.1) at o ∙ ap (option_map (λ (x : ℕ × Puddle). x.1)) there)
    ∙ is_header-words e.1.number o (word FRAME_MAGIC_WORD) (word FRAME_NUMBER_WORD) (word FRAME_ORDINAL_WORD) _ _ _ (stored_word F at image o FRAME_MAGIC_WORD e there (omega arith)) (stored_word F at image o FRAME_NUMBER_WORD e there (omega arith))
    (stored_word F at image o FRAME_ORDINAL_WORD e there (omega arith)))

-- the same by the words that were read
pub header_at-read : (F : ℕ) (at : List (ℕ × Puddle)) (image : Image) (o : ℕ) (fits : Bool) → o < length at
    → fits ≡ is_header (entry at o).1.number o (frame_word F (entry at o).0 FRAME_MAGIC_WORD image) (frame_word F (entry at o).0 FRAME_NUMBER_WORD image) (frame_word F (entry at o).0 FRAME_ORDINAL_WORD image)
    → fits ≡ header_at (stored_in F at image) o
header_at-read F at image o fits below is = is ∙ header_of F at image o (entry at o) (slice_get-get_or at o no_puddle below)

pub headers_fit-each : (F : ℕ) (at : List (ℕ × Puddle)) (image : Image) → headers_fit (stored_in F at image) ≡ all_below (length at) (header_at (stored_in F at image))
unfolding headers_fit
headers_fit-each F at image = ap (λ n. all_below n (header_at (stored_in F at image))) (length-map at (λ (x : ℕ × Puddle). x.1))

-- ---- all of it

-- A word that is read in the first frame is that word of ordinal 0.
pub first_word : (F : ℕ) (at : List (ℕ × Puddle)) (image : Image) (k : ℕ) → 0 < length at → k < FRAME_WORDS → frame_word F (entry at 0).0 k image ≡ (stored_in F at image).word 0 k
first_word F at image k some below = sym (stored_word F at image 0 k (entry at 0) (slice_get-get_or at 0 no_puddle some) below)

sound_contents : (next : ℕ) (serial : ℕ → ℕ) (contents : Option (List Content)) → contents_pass (IsSound next) serial contents ≡ all_stand serial contents
sound_contents next serial None = refl
sound_contents next serial (Some contents) = refl

sound_place : (next : ℕ) (t : Table) (p : ℕ) → place_passes (IsSound next) t p ≡ is_sound_place next t p
sound_place next t p = ap (λ b. eqb (t.serial p) 0 || (ltb (t.serial p) next && b)) (sound_contents next t.serial (t.contents p))

is_some-chosen : {A : Type 0} (b : Bool) (x : A) → b ≡ is_some (cond b (Some x) None)
is_some-chosen true x = refl
is_some-chosen false x = refl

joined : (headers headers' next next' root root' distinct distinct' slots slots' : Bool) → headers ≡ headers' → next ≡ next' → root ≡ root' → distinct ≡ distinct' → slots ≡ slots'
    → (headers && (next && root && distinct && slots)) ≡ (headers' && (next' && root' && distinct' && slots'))
joined headers headers' next next' root root' distinct distinct' slots slots' a b c d e = rw (a, b, c, d, e) refl

-- What was read of a pool tells whether the pool stores a graph.
pub judged : (types : List (ℕ × ℕ)) (st : Stored) (serial : ℕ → ℕ) (next : ℕ) (headers root distinct slots : Bool) → serial ≡ serials_in st → next ≡ next_serial_of st → headers ≡ headers_fit st
    → root ≡ stands serial (root_of st) → distinct ≡ are_distinct nat_cmp (under_serial serial (λ p. p)) 0 (places_of st)
    → slots ≡ all_below (places_of st) (place_passes (IsSound next) (with_serials serial (table_of types st)))
    → (headers && (is_next_serial next && root && distinct && slots)) ≡ is_some (graph_of types st)
unfolding graph_of is_graph
judged types st serial next headers root distinct slots is_serial is_next is_headers is_root is_distinct is_slots =
    joined headers (headers_fit st) (is_next_serial next) (is_next_serial (next_serial_of st)) root (stands (serials_in st) (root_of st)) distinct
    (are_distinct nat_cmp (under_serial (serials_in st) (λ p. p)) 0 (places_of st)) slots (all_below (places_of st) (is_sound_place (next_serial_of st) (table_of types st)))
    is_headers (ap is_next_serial is_next) (is_root ∙ ap (λ (f : ℕ → ℕ). stands f (root_of st)) is_serial)
    (is_distinct ∙ ap (λ (f : ℕ → ℕ). are_distinct nat_cmp (under_serial f (λ p. p)) 0 (places_of st)) is_serial)
    (is_slots
    ∙ ap₂ (λ (n : ℕ) (f : ℕ → ℕ). all_below (places_of st) (place_passes (IsSound n) (with_serials f (table_of types st)))) is_next is_serial
    ∙ all_below-same (places_of st) (place_passes (IsSound (next_serial_of st)) (table_of types st)) (is_sound_place (next_serial_of st) (table_of types st)) (λ k below. sound_place (next_serial_of st) (table_of types st) k))
    ∙ is_some-chosen (has_graph types st) (graph_stored types st)

-- a pool with a slot that is not sound stores no graph
pub unsound_slots : (types : List (ℕ × ℕ)) (st : Stored) (serial : ℕ → ℕ) (next : ℕ) → serial ≡ serials_in st → next ≡ next_serial_of st
    → all_below (places_of st) (place_passes (IsSound next) (with_serials serial (table_of types st))) ≡ false → graph_of types st ≡ None
unfolding graph_of
unsound_slots types st serial next is_serial is_next is_slots =
    cond-false _ _ _ (is_some-chosen (has_graph types st) (graph_stored types st)
    ∙ sym (judged types st serial next (headers_fit st) (stands serial (root_of st)) (are_distinct nat_cmp (under_serial serial (λ p. p)) 0 (places_of st)) false is_serial is_next refl refl refl (sym is_slots))
    ∙ ap (λ b. headers_fit st && b) (and-false _) ∙ and-false (headers_fit st))

-- Where the root pointer was read to lead is what the root stands for.
pub root_read : (F : ℕ) (at : List (ℕ × Puddle)) (image : Image) (v : ℕ) → 0 < length at → v ≡ frame_word F (entry at 0).0 ROOT_WORD image
    → content_of (pointee_of (pointee_at (map (λ e. e.1) at) 0 0 v)) ≡ root_of (stored_in F at image)
root_read F at image v some is = pointee_read (map (λ e. e.1) at) 0 0 v ∙ ap (pointee_at (map (λ e. e.1) at) 0 0) (is ∙ first_word F at image ROOT_WORD some (omega arith))

pub same_places : (F : ℕ) (at : List (ℕ × Puddle)) (image : Image) → places_among (length at) ≡ places_of (stored_in F at image)
same_places F at image = ap (λ n. places_among n) (sym (length-map at (λ (e : ℕ × Puddle). e.1)))

-- A pool without puddles stores no graph.
pub none_without_puddles : (types : List (ℕ × ℕ)) (F : ℕ) (at : List (ℕ × Puddle)) (image : Image) → eqb (length at) 0 ≡ true → graph_of types (stored_in F at image) ≡ None
unfolding graph_of is_graph headers_fit all_below
none_without_puddles types F [] image none = refl
none_without_puddles types F (x ∷ xs) image none = absurd (let zero = eqb-true (length (x ∷ xs)) 0 none in omega arith)

pub positive_length : (at : List (ℕ × Puddle)) → eqb (length at) 0 ≡ false → 0 < length at
positive_length [] none = absurd (let some : true ≡ false = none in cc)
positive_length (x ∷ xs) none = omega arith
