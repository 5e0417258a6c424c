use Rattle.std.proofs.Common.{ℕ, ◌+◌, ap, ◌∙◌, arith}
use Rattle.pud_defs.specs.Formats.Geometry.{class_slot_words, class_slot_at, place_at}
use Rattle.pud_defs.proofs.Formats.Geometry.{slot_end}
use Rattle.pud_defs.specs.PoolGraphs.ExportFile.{is_zero, slot_words_read}
use Rattle.pud_defs.specs.PoolGraphs.Stored.{place_words}
use Rattle.pud_import.specs.Sized.{types_in, stored_of, class_in}
use Rattle.pud_import.proofs.FileChecks.SlotsOfFile.{words_there, word_there, plain_there}
use Rattle.pud_import.proofs.FileChecks.Zeroes.{is_zero-shifted}
use Rattle.pud_import.proofs.sized_file.SizedFile.is_plain_slot.Goals as goal

pub is_zero-requires-clause-within : goal.is_zero-requires-clause-within
is_zero-requires-clause-within c =
    let end = slot_end (class_in c.args.self.now c.args.ordinal) c.args.slot c.requires.slot in
    let begins = c.class_slot_at-begins.ensures ∙ ap (λ (n : ℕ). class_slot_at n c.args.slot) c.class-class.ensures in
    let width = c.class_slot_words.ensures ∙ ap class_slot_words c.class-class.ensures in
    omega arith

pub overflow_add-begins : goal.overflow_add-begins
overflow_add-begins c =
    let end = slot_end (class_in c.args.self.now c.args.ordinal) c.args.slot c.requires.slot in
    let begins = c.class_slot_at-begins.ensures ∙ ap (λ (n : ℕ). class_slot_at n c.args.slot) c.class-class.ensures in
    let most = c.slot_words_read-read.ensures.most in
    omega arith

pub overflow_add-begins-2 : goal.overflow_add-begins-2
overflow_add-begins-2 c =
    let end = slot_end (class_in c.args.self.now c.args.ordinal) c.args.slot c.requires.slot in
    let begins = c.class_slot_at-begins.ensures ∙ ap (λ (n : ℕ). class_slot_at n c.args.slot) c.class-class.ensures in
    let width = c.class_slot_words.ensures ∙ ap class_slot_words c.class-class.ensures in
    omega arith

pub returns : goal.returns
returns c =
    let st = stored_of c.args.self.now in
    let types = types_in c.args.self.now in
    let o = c.args.ordinal in
    let s = c.args.slot in
    let p = place_at o s in
    let begins = c.class_slot_at-begins.ensures ∙ ap (λ (n : ℕ). class_slot_at n s) c.class-class.ensures in
    let width = c.class_slot_words.ensures ∙ ap class_slot_words c.class-class.ensures ∙ words_there st o s c.requires.slot in
    let at = class_slot_at (class_in c.args.self.now o) s in
    c.is_zero.ensures
    ∙ (λ i. is_zero (st.word o) (begins i + c.slot_words_read-read.ensures.read i) (begins i + width i))
    ∙ is_zero-shifted (st.word o) at (slot_words_read types st p) (place_words st p)
    ∙ ap (λ word. is_zero word (slot_words_read types st p) (place_words st p)) (λ i k. word_there st o s c.requires.slot k i)
    ∙ plain_there st o s c.requires.slot types
