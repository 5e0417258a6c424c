use Rattle.std.proofs.Common.{◌≡◌, ℕ, ◌+◌, ◌<◌, ap, ◌∙◌, arith}
use Rattle.pud_defs.specs.declared.layout.TheConstants.{FRAME_WORDS}
use Rattle.pud_defs.specs.Formats.Geometry.{class_slots, class_slot_words, class_slot_at}
use Rattle.pud_defs.proofs.Formats.Geometry.{slot_end}
use Rattle.pud_import.specs.Sized.{stored_of, class_in}
use Rattle.pud_import.proofs.FileChecks.SlotsOfFile.{word_there}
use Rattle.pud_import.proofs.sized_file.SizedFile.slot_word.Goals as goal

-- the word lies within the frame
within : (class slot k at found : ℕ) → slot < class_slots class → k < class_slot_words class → at ≡ class_slot_at found slot → found ≡ class → at + k < FRAME_WORDS
within class slot k at found below low is same =
    let end = slot_end class slot below in
    let begins = is ∙ ap (λ (n : ℕ). class_slot_at n slot) same in
    omega arith

pub overflow_add-class_slot_at : goal.overflow_add-class_slot_at
overflow_add-class_slot_at c = omega (arith, within (class_in c.args.self.now c.args.ordinal) c.args.slot c.args.k c.class_slot_at.result c.class.result c.requires.slot c.requires.within c.class_slot_at.ensures c.class.ensures)

pub frame_word-requires-clause-within : goal.frame_word-requires-clause-within
frame_word-requires-clause-within c = within (class_in c.args.self.now c.args.ordinal) c.args.slot c.args.k c.class_slot_at.result c.class.result c.requires.slot c.requires.within c.class_slot_at.ensures c.class.ensures

pub returns : goal.returns
returns c =
    let st = stored_of c.args.self.now in
    let o = c.args.ordinal in
    c.frame_word.ensures
    ∙ ap (λ (n : ℕ). st.word o (n + c.args.k)) (c.class_slot_at.ensures ∙ ap (λ (n : ℕ). class_slot_at n c.args.slot) c.class.ensures)
    ∙ word_there st o c.args.slot c.requires.slot c.args.k
