use Rattle.std.proofs.Common.{◌≡◌, ℕ, ◌*◌, ◌++◌, [], ◌∷◌, List, length, ap, ◌∙◌, subst, sym}
use Rattle.pud_defs.specs.PoolGraphs.ExportFile.{words_in}
use Rattle.pud_export.proofs.Bytes.{words_in-more, whole-more}
use Rattle.pud_export.proofs.words.WordBytes.push.Goals as goal

pub invariant_of-self-2 : goal.invariant_of-self-2
invariant_of-self-2 c =
    let items = c.in_ok-extend_from_slice.ensures.items ∙ ap (λ (xs : List ℕ). c.self.inside.bytes.items ++ xs) c.to_le_bytes.ensures in
    subst (λ (xs : List ℕ). length xs ≡ 8 * length (words_in xs)) (sym items) (whole-more c.self.inside.bytes.items c.args.word c.self.invariant c.ranges.word.fits)

pub returns : goal.returns
returns c =
    let items = c.in_ok-extend_from_slice.ensures.items ∙ ap (λ (xs : List ℕ). c.self.inside.bytes.items ++ xs) c.to_le_bytes.ensures in
    ap words_in items ∙ words_in-more c.self.inside.bytes.items c.args.word c.self.invariant c.ranges.word.fits ∙ ap (λ (ws : List ℕ). ws ++ c.args.word ∷ []) c.self.view_is
