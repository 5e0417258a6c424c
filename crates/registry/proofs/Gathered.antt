-- The batch that drops a pool, gathered record by record.
use Rattle.std.proofs.Common.{◌≡◌, inl, inr, ℕ, zero, suc, ◌+◌, ◌-◌, ◌*◌, ◌/◌, ◌^◌, ◌<◌, ◌≤◌, Bool, true, false, not, cond, eqb, List, [], ◌∷◌, ◌++◌, length, Option, Some, None, is_none, refl, sym, ap, ap₂, ◌∙◌, arith, append_assoc, append-nil, ne_eqb, eq-eqb}
use Rattle.std.proofs.lemmas.Bool.{cases_eq, cond-true, cond-false}
use Rattle.std.proofs.lemmas.List.Sums.{sum_by-append}
use Rattle.pud_defs.specs.declared.layout.TheConstants.{LOG_ENTRY_WORDS}
use Rattle.pud_defs.specs.declared.records.TheConstants.{MAX_PUDDLES}
use Rattle.pud_defs.specs.declared.records.Puddle.{Puddle}
use Rattle.pud_defs.specs.declared.records.Put.{Put}
use Rattle.pud_defs.specs.Formats.Image.{Image}
use Rattle.pud_defs.specs.RegistryTables.Keyed.{count_used}
use Rattle.pud_defs.specs.Logging.Entries.{Entry}
use Rattle.pud_defs.specs.RegistryTables.Puddles.{Member, member_pool, puddle_record_at, puddle_by, puddle_at, frontier_part, class_part}
use Rattle.pud_defs.specs.RegistryTables.Tables.{Tables, tables_of, member_of, members}
use Rattle.pud_defs.specs.RegistryTables.Puts.{free_pool_put, free_puddle_put, is_of_pool}
use Rattle.pud_defs.proofs.RegistryTables.TablesOf.{puddles_below}
use Rattle.batch.specs.Batches.{word_count_of}
use Rattle.registry.specs.Puts.{put_entry, puts_batch}
use Rattle.registry.specs.Pools.{put_if, freeing, dropping}

-- ---- the word that is read of a record

of_word : (slot w0 w1 w2 w3 w4 : ℕ) → eqb (member_pool w0) (slot + 1) ≡ is_of_pool slot (puddle_by w0 w1 w2 w3 w4)
unfolding puddle_by
of_word slot w0 w1 w2 w3 w4 = elim (cases_eq w0 0) [
  | inl e ↦
      ne_eqb (member_pool w0) (slot + 1) (λ same. absurd (omega arith))
      ∙ sym (ap (is_of_pool slot) (cond-true (eqb w0 0) None (Some (record { pool = member_pool w0; ordinal = w0 / 2 ^ 32; puddle = record { number = w1; base = w2; old_base = w3; frontier = frontier_part w4; class = class_part w4 } })) (eq-eqb w0 0 e)))
  | inr used ↦ sym (ap (is_of_pool slot) (cond-false (eqb w0 0) None (Some (record { pool = member_pool w0; ordinal = w0 / 2 ^ 32; puddle = record { number = w1; base = w2; old_base = w3; frontier = frontier_part w4; class = class_part w4 } })) (ne_eqb w0 0 used)))
]

-- the first word of a record tells whose puddle it is
pub of_read : (image : Image) (slot frame member : ℕ) → member ≡ image (puddle_record_at frame) → eqb (member_pool member) (slot + 1) ≡ is_of_pool slot (puddle_at image frame)
unfolding puddle_at
of_read image slot frame member is = ap (λ w. eqb (member_pool w) (slot + 1)) is ∙ of_word slot _ _ _ _ _

-- ---- what is still to be freed

freeing_step : (at : ℕ → Option Member) (slot frame end : ℕ) → frame < end
    → freeing at slot frame (end - frame) ≡ put_if (is_of_pool slot (at frame)) (free_puddle_put frame) (freeing at slot (frame + 1) (end - (frame + 1)))
unfolding freeing
freeing_step at slot frame end below = let e : end - frame ≡ suc (end - (frame + 1)) = omega arith in ap (freeing at slot frame) e

freeing_end : (at : ℕ → Option Member) (slot frame end : ℕ) → end ≤ frame → freeing at slot frame (end - frame) ≡ []
unfolding freeing
freeing_end at slot frame end done = let e : end - frame ≡ 0 = omega arith in ap (freeing at slot frame) e

-- the batch so far, followed by what is still to be freed, is the whole batch
pub record Gathers (t : Tables) (slot frame : ℕ) (so_far : List Entry) : Type 0 where
  pub whole : so_far ++ puts_batch (freeing t.puddles slot frame (t.frames - frame)) ≡ puts_batch (dropping t slot)

pub Gathers-start : (t : Tables) (slot : ℕ) (so_far : List Entry) → so_far ≡ put_entry (free_pool_put slot) ∷ [] → Gathers t slot 0 so_far
Gathers-start t slot so_far is =
    let all : t.frames - 0 ≡ t.frames = omega arith in
    record { whole = ap₂ (λ (es : List Entry) (n : ℕ). es ++ puts_batch (freeing t.puddles slot 0 n)) is all }

pub Gathers-other : (t : Tables) (slot frame : ℕ) (so_far : List Entry) → frame < t.frames → is_of_pool slot (t.puddles frame) ≡ false → Gathers t slot frame so_far → Gathers t slot (frame + 1) so_far
Gathers-other t slot frame so_far below other g = record {
  whole = ap (λ puts. so_far ++ puts_batch puts) (sym (freeing_step t.puddles slot frame t.frames below ∙ cond-false _ _ _ other)) ∙ g.whole;
}

pub Gathers-more : (t : Tables) (slot frame : ℕ) (so_far : List Entry) → frame < t.frames → is_of_pool slot (t.puddles frame) ≡ true → Gathers t slot frame so_far
    → Gathers t slot (frame + 1) (so_far ++ put_entry (free_puddle_put frame) ∷ [])
Gathers-more t slot frame so_far below of g = record {
  whole =
      append_assoc so_far (put_entry (free_puddle_put frame) ∷ []) (puts_batch (freeing t.puddles slot (frame + 1) (t.frames - (frame + 1))))
      ∙ ap (λ puts. so_far ++ puts_batch puts) (sym (freeing_step t.puddles slot frame t.frames below ∙ cond-true _ _ _ of)) ∙ g.whole;
}

pub Gathers-end : (t : Tables) (slot frame : ℕ) (so_far : List Entry) → t.frames ≤ frame → Gathers t slot frame so_far → so_far ≡ puts_batch (dropping t slot)
Gathers-end t slot frame so_far done g = sym (append-nil so_far) ∙ ap (λ puts. so_far ++ puts_batch puts) (sym (freeing_end t.puddles slot frame t.frames done)) ∙ g.whole

-- ---- how many words it takes

member_or_none : (slot frame : ℕ) (o : Option Member) → is_none (member_of slot frame o) ≡ not (is_of_pool slot o)
member_or_none slot frame None = refl
member_or_none slot frame (Some m) =
    let some : Option (ℕ × (ℕ × Puddle)) = Some (m.ordinal, (frame, m.puddle)) in
    elim (eqb m.pool (slot + 1)) as (λ b. is_none (cond b some None) ≡ not b) [ true ↦ refl | false ↦ refl ]

words_if : (b : Bool) (put : Put) (puts : List Put) (count : ℕ) → word_count_of (put_entry put ∷ []) ≡ 3 → word_count_of (puts_batch puts) ≡ 3 * count → word_count_of (puts_batch (put_if b put puts)) ≡ 3 * cond (not b) count (count + 1)
words_if true put puts count three is = omega (arith, sum_by-append (λ (e : Entry). length e.vals + 2) (put_entry put ∷ []) (puts_batch puts), three, is)
words_if false put puts count three is = is

words_freeing : (t : Tables) (slot frame count : ℕ) → word_count_of (puts_batch (freeing t.puddles slot frame count)) ≡ 3 * count_used (members t slot) frame count
unfolding freeing count_used
words_freeing t slot frame zero = refl
words_freeing t slot frame (suc count) =
    words_if (is_of_pool slot (t.puddles frame)) (free_puddle_put frame) (freeing t.puddles slot (frame + 1) count) (count_used (members t slot) (frame + 1) count) refl (words_freeing t slot (frame + 1) count)
    ∙ ap (λ b. 3 * cond b (count_used (members t slot) (frame + 1) count) (count_used (members t slot) (frame + 1) count + 1)) (sym (member_or_none slot frame (t.puddles frame)))

words_dropping : (t : Tables) (slot : ℕ) → word_count_of (puts_batch (dropping t slot)) ≡ 3 + 3 * count_used (members t slot) 0 t.frames
words_dropping t slot =
    omega (arith, sum_by-append (λ (e : Entry). length e.vals + 2) (put_entry (free_pool_put slot) ∷ []) (puts_batch (freeing t.puddles slot 0 t.frames)), words_freeing t slot 0 t.frames)

-- one more record fits
pub Gathers-room : (t : Tables) (slot frame : ℕ) (so_far : List Entry) → count_used (members t slot) 0 t.frames ≤ MAX_PUDDLES → Gathers t slot frame so_far → word_count_of so_far + (1 + 2) ≤ LOG_ENTRY_WORDS
Gathers-room t slot frame so_far few g =
    omega (arith, sum_by-append (λ (e : Entry). length e.vals + 2) so_far (puts_batch (freeing t.puddles slot frame (t.frames - frame))), ap word_count_of g.whole, words_dropping t slot)

-- ---- the batch that a change begins

pub first_put : (old new : List Entry) (put want : Put) → old ≡ [] → put ≡ want → want.n ≤ 8 → (word_count_of old + (put.n + 2) ≤ LOG_ENTRY_WORDS → new ≡ old ++ put_entry put ∷ []) → new ≡ put_entry want ∷ []
first_put old new put want none is few added =
    added (omega (arith, ap word_count_of none, ap (λ (p : Put). p.n) is)) ∙ ap₂ (λ es p. es ++ put_entry p ∷ []) none is

pub next_put : (old new : List Entry) (put want : Put) → put ≡ want → word_count_of old + (want.n + 2) ≤ LOG_ENTRY_WORDS → (word_count_of old + (put.n + 2) ≤ LOG_ENTRY_WORDS → new ≡ old ++ put_entry put ∷ [])
    → new ≡ old ++ put_entry want ∷ []
next_put old new put want is room added = added (omega (arith, ap (λ (p : Put). p.n) is)) ∙ ap (λ p. old ++ put_entry p ∷ []) is

-- ---- in the tables of an image

pub of_table : (F : ℕ) (image : Image) (slot frame : ℕ) (of : Bool) → frame < F → of ≡ is_of_pool slot (puddle_at image frame) → is_of_pool slot ((tables_of F image).puddles frame) ≡ of
of_table F image slot frame of below is = ap (is_of_pool slot) (puddles_below F image frame below) ∙ sym is
