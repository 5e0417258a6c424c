-- Whether a header is that of a record's puddle, by the words of both.
use Rattle.std.proofs.Common.{◌≡◌, ℕ, ◌+◌, Bool, true, false, eqb, Some, None, refl, sym, ap, ap₂, ◌∙◌}
use Rattle.std.specs.Prelude.{cond}
use Rattle.std.proofs.lemmas.Bool.{cond-true, cond-false}
use Rattle.pud_defs.specs.declared.space.TheConstants.{FRAME_MAGIC_WORD, FRAME_NUMBER_WORD, FRAME_ORDINAL_WORD}
use Rattle.pud_defs.specs.declared.records.TheConstants.{PUDDLE_NUMBER_WORD}
use Rattle.pud_defs.specs.Formats.Image.{Image}
use Rattle.pud_defs.specs.Formats.Frames.{frame_word}
use Rattle.pud_defs.specs.RegistryTables.Puddles.{puddle_by, puddle_at, puddle_record_at, member_pool, member_ordinal, frontier_part, class_part}
use Rattle.pud_defs.specs.Formats.Headers.{is_header, is_header_of, header_fits}

pub is_header-words : (given place m n o m' n' o' : ℕ) → m ≡ m' → n ≡ n' → o ≡ o' → is_header given place m n o ≡ is_header given place m' n' o'
is_header-words given place m n o m' n' o' a b c = rw (a, b, c) refl

-- Whether a header is that of the puddle in a record of these words. A record whose first word is 0 is free, and no
-- header is its own.
header_by_words : (w0 w1 w2 w3 w4 magic number ordinal : ℕ)
    → is_header_of (puddle_by w0 w1 w2 w3 w4) magic number ordinal ≡ cond (eqb w0 0) false (is_header w1 (member_ordinal w0) magic number ordinal)
unfolding puddle_by
header_by_words w0 w1 w2 w3 w4 magic number ordinal =
    elim (eqb w0 0)
    as (λ b. is_header_of (cond b None (Some (record { pool = member_pool w0; ordinal = member_ordinal w0; puddle = record { number = w1; base = w2; old_base = w3; frontier = frontier_part w4; class = class_part w4 } }))) magic number ordinal
    ≡ cond b false (is_header w1 (member_ordinal w0) magic number ordinal)) [ true ↦ refl | false ↦ refl ]

-- Whether a frame has the header that the words of its record describe.
abbrev pub header_asked : (F frame member given : ℕ) → Image → Bool
header_asked F frame member given image = is_header given (member_ordinal member) (frame_word F frame FRAME_MAGIC_WORD image) (frame_word F frame FRAME_NUMBER_WORD image) (frame_word F frame FRAME_ORDINAL_WORD image)

by_image : (F frame : ℕ) (image : Image) → header_fits F frame image
    ≡ cond (eqb (image (puddle_record_at frame)) 0) false (header_asked F frame (image (puddle_record_at frame)) (image (puddle_record_at frame + PUDDLE_NUMBER_WORD)) image)
unfolding puddle_at
by_image F frame image = header_by_words _ _ _ _ _ _ _ _

pub no_header : (F frame : ℕ) (image : Image) (member : ℕ) → member ≡ image (puddle_record_at frame) → eqb member 0 ≡ true → header_fits F frame image ≡ false
no_header F frame image member is free = by_image F frame image ∙ cond-true (eqb (image (puddle_record_at frame)) 0) false _ (ap (λ (v : ℕ). eqb v 0) (sym is) ∙ free)

pub header_by_record : (F frame : ℕ) (image : Image) (member given : ℕ) → member ≡ image (puddle_record_at frame) → given ≡ image (puddle_record_at frame + PUDDLE_NUMBER_WORD) → eqb member 0 ≡ false
    → header_fits F frame image ≡ header_asked F frame member given image
header_by_record F frame image member given is is_given used =
    by_image F frame image ∙ cond-false (eqb (image (puddle_record_at frame)) 0) false _ (ap (λ (v : ℕ). eqb v 0) (sym is) ∙ used)
    ∙ ap₂ (λ (v n : ℕ). header_asked F frame v n image) (sym is) (sym is_given)
