use Rattle.std.proofs.Common.{◌≡◌, ℕ, suc, ◌+◌, ◌-◌, ◌≤◌, List, [], ◌∷◌, ◌++◌, length, take, refl, ap, ◌∙◌, arith}
use Rattle.std.proofs.lemmas.Slice.{take-put_mid}
use borrow.Rule.Slice.PartMut.{put_mid}
use Rattle.pud_defs.specs.declared.layout.TheConstants.{MAX_ENTRY_VALUES, LOG_ENTRY_WORDS}
use Rattle.pud_defs.specs.Logging.Entries.{Entry, spelled}
use Rattle.batch.specs.Batches.{batch_entry, word_count_of, IsBuffer}
use Rattle.batch.proofs.Buffers.{HasMore, has_more}
use Rattle.batch.proofs.Batch.add.Goals as goal

grown : (used w k : ℕ) (vals words copied : List ℕ) → IsBuffer used words → 1 ≤ length vals → length vals ≤ MAX_ENTRY_VALUES → length words ≡ LOG_ENTRY_WORDS → used + (length vals + 2) ≤ LOG_ENTRY_WORDS
    → copied ≡ spelled (batch_entry w vals) → HasMore used words (batch_entry w vals) (used + (length vals + 2)) (put_mid used k words copied)
grown used w k vals words copied buffer some no_more room fits same =
    has_more used words (batch_entry w vals) (used + (length vals + 2)) (put_mid used k words copied) buffer
    (record { some = some; no_more = no_more; seq_fits = omega arith; order_known = omega arith })
    (record { seq = refl; order = refl }) refl fits
    (take-put_mid used k words copied (used + (length vals + 2)) (let many : length copied ≡ suc (suc (length vals)) = ap length same in omega arith) (omega arith)
    ∙ ap (λ (xs : List ℕ). take used words ++ xs) same)

-- The words that were copied in spell the entry.
copied_is : (w from count : ℕ) (vals out copied : List ℕ) → copied ≡ take count out → take count out ≡ spelled (batch_entry from vals) → from ≡ w → copied ≡ spelled (batch_entry w vals)
copied_is w from count vals out copied after spells same = after ∙ spells ∙ ap (λ (a : ℕ). spelled (batch_entry a vals)) same

pub invariant_of-self : goal.invariant_of-self
invariant_of-self c =
    (grown c.self.inside.used c.args.w (c.self.inside.used + c.encode-n.result - c.self.inside.used) c.args.vals.now c.self.inside.words c.copy_from_slice.new.self
    c.self.invariant c.requires.some c.requires.no_more c.self.told (omega arith)
    (copied_is c.args.w c.from.result c.encode-n.result c.args.vals.now c.encode-n.new.out c.copy_from_slice.new.self c.copy_from_slice.ensures.after c.encode-n.ensures.spells c.from.ensures)).buffer

pub returns-then-self-more-gt-LOG_ENTRY_WORDS-clause-too_big : goal.returns-then-self-more-gt-LOG_ENTRY_WORDS-clause-too_big
returns-then-self-more-gt-LOG_ENTRY_WORDS-clause-too_big c =
    let used = c.self.invariant.count ∙ ap word_count_of c.self.view_is in
    (λ _. omega arith, λ _. refl)

pub returns-clause-added : goal.returns-clause-added
returns-clause-added c = λ _.
    (grown c.self.inside.used c.args.w (c.self.inside.used + c.encode-n.result - c.self.inside.used) c.args.vals.now c.self.inside.words c.copy_from_slice.new.self
    c.self.invariant c.requires.some c.requires.no_more c.self.told (omega arith)
    (copied_is c.args.w c.from.result c.encode-n.result c.args.vals.now c.encode-n.new.out c.copy_from_slice.new.self c.copy_from_slice.ensures.after c.encode-n.ensures.spells c.from.ensures)).entries
    ∙ ap (λ (es : List Entry). es ++ batch_entry c.args.w c.args.vals.now ∷ []) c.self.view_is
