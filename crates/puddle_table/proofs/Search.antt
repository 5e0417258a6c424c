-- The searches of the puddle table, record by record.
use Rattle.std.proofs.Common.{◌≡◌, inl, inr, ℕ, ◌+◌, ◌-◌, ◌<◌, ◌≤◌, ◌&&◌, Bool, true, false, cond, eqb, Option, Some, None, Ok, Err, nat_cmp, option_map, refl, sym, ap, ◌∙◌, subst, arith, ne_eqb, [], ◌∷◌}
use Rattle.std.specs.Ordering.{eq_by_cmp}
use Rattle.std.proofs.lemmas.Bool.{cases_eq, cond-true, cond-false}
use Rattle.std.proofs.lemmas.Bool.Decides.{nat_tests}
use Rattle.std.proofs.lemmas.Cmp.{nat_cmp_total}
use Rattle.pud_defs.specs.declared.records.Puddle.{Puddle}
use Rattle.pud_defs.specs.declared.records.PuddleRecord.{PuddleRecord}
use Rattle.pud_defs.specs.Formats.Image.{Image}
use Rattle.pud_defs.specs.RegistryTables.Keyed.{first_free, under, first_from}
use Rattle.pud_defs.specs.RegistryTables.Puddles.{Member, member_pool, member_ordinal, puddle_record_at, puddle_by, puddle_at, puddle_read, member_word, frontier_part, class_part, frontier_with_class}
use Rattle.pud_defs.specs.RegistryTables.Puts.{put_of, puddle_put}
use Rattle.pud_defs.specs.RegistryTables.Tables.{tables_of, member_of, members, puddles_of, puddle_in}
use Rattle.pud_defs.proofs.KeyedTables.Keyed.{find-keyed, first_from_here, first_from_other, first_from_end, first_free_here, first_free_used, first_free_end}
use Rattle.pud_defs.proofs.RegistryTables.TablesOf.{puddles_below, frames_of_tables, puddle_at-free}
use Rattle.puddle_table.specs.declared.PuddleFault.{PuddleFault}
use Rattle.puddle_table.specs.declared.PuddleFault.TheVariants.{NoSpace}
use Rattle.puddle_table.specs.Records.{frame_by, puddle_added_at, is_member, puddle_words_at}

-- ---- free and used records

-- The record of a frame, if its first word is not 0.
abbrev pub member_there : Image → ℕ → Member
member_there image frame = record { pool = member_pool (image (puddle_record_at frame)); ordinal = member_ordinal (image (puddle_record_at frame)); puddle = puddle_words_at image frame }

pub used_record : (image : Image) (frame : ℕ) → (image (puddle_record_at frame) ≡ 0 → ⊥) → puddle_at image frame ≡ Some (member_there image frame)
unfolding puddle_at puddle_by
used_record image frame used = cond-false _ _ _ (ne_eqb _ 0 used)

module _ (F : ℕ) (image : Image) where
  pub lowest_here : (frame : ℕ) → frame < F → image (puddle_record_at frame) ≡ 0 → first_free (tables_of F image).puddles frame (F - frame) ≡ Some frame
  lowest_here frame below empty = first_free_here (tables_of F image).puddles frame F below (puddles_below F image frame below ∙ puddle_at-free image frame empty)

  pub lowest_later : (frame : ℕ) → frame < F → (image (puddle_record_at frame) ≡ 0 → ⊥) → first_free (tables_of F image).puddles frame (F - frame) ≡ first_free (tables_of F image).puddles (frame + 1) (F - (frame + 1))
  lowest_later frame below used = first_free_used (tables_of F image).puddles frame F (member_there image frame) below (puddles_below F image frame below ∙ used_record image frame used)

  pub lowest_none : (frame : ℕ) → F ≤ frame → first_free (tables_of F image).puddles frame (F - frame) ≡ None
  lowest_none frame past = first_free_end (tables_of F image).puddles frame F past

-- The same for the image that is read.
pub lowest_moved : (words image : Image) (F from frame : ℕ) → words ≡ image
    → first_free (tables_of F words).puddles from (F - from) ≡ first_free (tables_of F words).puddles frame (F - frame)
    → first_free (tables_of F image).puddles from (F - from) ≡ first_free (tables_of F image).puddles frame (F - frame)
lowest_moved words image F from frame e h = subst (λ (w : Image). first_free (tables_of F w).puddles from (F - from) ≡ first_free (tables_of F w).puddles frame (F - frame)) e h

-- The same, stated by the frame count of the tables.
pub lowest_in : (F : ℕ) (image : Image) (from : ℕ) (found : Option ℕ) → found ≡ first_free (tables_of F image).puddles from (F - from)
    → first_free (tables_of F image).puddles from ((tables_of F image).frames - from) ≡ found
lowest_in F image from found e = ap (λ (n : ℕ). first_free (tables_of F image).puddles from (n - from)) (frames_of_tables F image) ∙ sym e

-- The frame that is returned is the one that was found.
pub frame_found : (o : Option ℕ) (frame : ℕ) → Ok frame ≡ frame_by o → o ≡ Some frame
frame_found None frame e = absurd (let no : Ok frame ≡ Err NoSpace = e in cc)
frame_found (Some at) frame e = let same : Ok frame ≡ Ok at = e in cc

pub none_found : (o : Option ℕ) (fault : PuddleFault) (r : PuddleRecord) → Err fault ≡ frame_by o → Err fault ≡ puddle_added_at o r
none_found None fault r e = let same : Err fault ≡ Err NoSpace = e in cc
none_found (Some at) fault r e = absurd (let no : Err fault ≡ Ok at = e in cc)

-- ---- the record of a pool's puddle

same_number : (q x : ℕ) → eq_by_cmp nat_cmp q x ≡ eqb x q
same_number q x = grind (arith, nat_tests)

-- The entry of a frame under this ordinal, by what its record states.
under_by : (q o : ℕ) (of : Bool) (v : ℕ × Puddle) → under {X = ℕ × Puddle} nat_cmp q (cond of (Some (o, v)) None) ≡ cond (of && eqb o q) (Some v) None
under_by q o true v = ap (λ (b : Bool). cond b (Some v) None) (same_number q o)
under_by q o false v = refl

under_member : (slot ordinal frame : ℕ) (m : Member) (v : ℕ × Puddle) → v ≡ (frame, m.puddle) → under nat_cmp ordinal (member_of slot frame (Some m)) ≡ cond (eqb m.pool (slot + 1) && eqb m.ordinal ordinal) (Some v) None
under_member slot ordinal frame m v e =
    under_by ordinal m.ordinal (eqb m.pool (slot + 1)) (frame, m.puddle) ∙ ap (λ (u : ℕ × Puddle). cond (eqb m.pool (slot + 1) && eqb m.ordinal ordinal) (Some u) None) (sym e)

-- A free record names no pool.
free_names_none : (w slot ordinal : ℕ) → w ≡ 0 → is_member w slot ordinal ≡ false
free_names_none w slot ordinal empty =
    let apart : member_pool w ≡ slot + 1 → ⊥ = λ e. let none : member_pool w ≡ 0 = ap member_pool empty in absurd (omega arith) in
    ap (λ t. t && eqb (member_ordinal w) ordinal) (ne_eqb (member_pool w) (slot + 1) apart)

under_words : (image : Image) (slot ordinal frame : ℕ)
    → under nat_cmp ordinal (member_of slot frame (puddle_at image frame)) ≡ cond (is_member (image (puddle_record_at frame)) slot ordinal) (Some (frame, puddle_words_at image frame)) None
under_words image slot ordinal frame = elim (cases_eq (image (puddle_record_at frame)) 0) [
  | inl empty ↦ ap (λ o. under nat_cmp ordinal (member_of slot frame o)) (puddle_at-free image frame empty) ∙ sym (cond-false _ _ _ (free_names_none (image (puddle_record_at frame)) slot ordinal empty))
  | inr used ↦ ap (λ o. under nat_cmp ordinal (member_of slot frame o)) (used_record image frame used) ∙ under_member slot ordinal frame (member_there image frame) (frame, puddle_words_at image frame) refl
]

whole : (n : ℕ) → n ≡ n - 0
whole n = omega arith

-- What was found, as it is read.
abbrev pub read_found : (slot ordinal : ℕ) → Option (ℕ × Puddle) → Option (ℕ × PuddleRecord)
read_found slot ordinal found = option_map (λ p. (p.0, puddle_read slot ordinal p.1)) found

module _ (F : ℕ) (image : Image) (slot ordinal : ℕ) where
  -- What the search finds from a frame on.
  unfoldable pub found_from : ℕ → Option (ℕ × PuddleRecord)
  found_from frame = read_found slot ordinal (first_from nat_cmp ordinal (members (tables_of F image) slot) frame (F - frame))

  pub found_from-start : puddle_in (tables_of F image) slot ordinal ≡ found_from 0
  unfolding found_from puddles_of
  found_from-start =
      ap (read_found slot ordinal) (find-keyed nat_cmp nat_cmp_total ordinal (members (tables_of F image) slot) 0 (tables_of F image).frames)
      ∙ ap (λ (n : ℕ). read_found slot ordinal (first_from nat_cmp ordinal (members (tables_of F image) slot) 0 n)) (frames_of_tables F image ∙ whole F)

  pub under_table : (frame : ℕ) → frame < F → under nat_cmp ordinal (members (tables_of F image) slot frame) ≡ cond (is_member (image (puddle_record_at frame)) slot ordinal) (Some (frame, puddle_words_at image frame)) None
  under_table frame below = ap (λ o. under nat_cmp ordinal (member_of slot frame o)) (puddles_below F image frame below) ∙ under_words image slot ordinal frame

  pub found_from-here : (frame : ℕ) → frame < F → is_member (image (puddle_record_at frame)) slot ordinal ≡ true → found_from frame ≡ Some (frame, puddle_read slot ordinal (puddle_words_at image frame))
  unfolding found_from
  found_from-here frame below names =
      ap (read_found slot ordinal) (first_from_here nat_cmp ordinal (members (tables_of F image) slot) frame F (frame, puddle_words_at image frame) below (under_table frame below ∙ cond-true _ _ _ names))

  pub found_from-other : (frame : ℕ) → frame < F → is_member (image (puddle_record_at frame)) slot ordinal ≡ false → found_from frame ≡ found_from (frame + 1)
  unfolding found_from
  found_from-other frame below names =
      ap (read_found slot ordinal) (first_from_other nat_cmp ordinal (members (tables_of F image) slot) frame F below (under_table frame below ∙ cond-false _ _ _ names))

  pub found_from-end : (frame : ℕ) → F ≤ frame → found_from frame ≡ None
  unfolding found_from
  found_from-end frame past = ap (read_found slot ordinal) (first_from_end nat_cmp ordinal (members (tables_of F image) slot) frame F past)

-- The same for the image that is read.
pub found_moved : (words image : Image) (F slot ordinal frame : ℕ) → words ≡ image → puddle_in (tables_of F words) slot ordinal ≡ found_from F words slot ordinal frame
    → puddle_in (tables_of F image) slot ordinal ≡ found_from F image slot ordinal frame
found_moved words image F slot ordinal frame e h = subst (λ (w : Image). puddle_in (tables_of F w) slot ordinal ≡ found_from F w slot ordinal frame) e h

-- ---- a record read, and a record written

-- The puddle of these words.
abbrev pub puddle_of : (number base old_base last : ℕ) → Puddle
puddle_of number base old_base last = record { number = number; base = base; old_base = old_base; frontier = frontier_part last; class = class_part last }

-- The words of a frame's record, loaded one by one, are its puddle.
pub words_read : (image : Image) (frame at number base old_base last : ℕ) → at ≡ puddle_record_at frame → number ≡ image (at + 1) → base ≡ image (at + 2) → old_base ≡ image (at + 3)
    → last ≡ image (at + 4) → puddle_of number base old_base last ≡ puddle_words_at image frame
words_read image frame at number base old_base last e n b o f =
    let n1 = n ∙ ap (λ (k : ℕ). image (k + 1)) e in
    let b1 = b ∙ ap (λ (k : ℕ). image (k + 2)) e in
    let o1 = o ∙ ap (λ (k : ℕ). image (k + 3)) e in
    let f1 = f ∙ ap (λ (k : ℕ). image (k + 4)) e in
    λ p. puddle_of (n1 p) (b1 p) (o1 p) (f1 p)

pub put_same : (frame : ℕ) (r : PuddleRecord) (w member last : ℕ) → w ≡ puddle_record_at frame → member ≡ member_word (r.pool + 1) r.ordinal → last ≡ frontier_with_class r.frontier r.class
    → put_of w (member ∷ r.number ∷ r.base ∷ r.old_base ∷ last ∷ []) ≡ puddle_put frame r
put_same frame r w member last e m f = λ p. put_of (e p) (m p ∷ r.number ∷ r.base ∷ r.old_base ∷ f p ∷ [])
