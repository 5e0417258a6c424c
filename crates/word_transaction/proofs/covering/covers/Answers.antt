use Rattle.std.proofs.Common.{◌≡◌, ◌/◌, ◌-◌, ◌%◌, Bool, true, ◌&&◌, ltb, refl, sym, ap, ◌∙◌, arith}
use Rattle.std.proofs.lemmas.Bool.{eq-eqb, le-leb}
use Rattle.pud_defs.specs.declared.log_words.TheConstants.{UNDO_ORDER}
use Rattle.pud_defs.proofs.Logging.Entries.{words_from-length}
use Rattle.word_transaction.proofs.covering.covers.Goals as goal

-- If the first three of four tests hold, the last one decides.
last_of_four : (a b c d : Bool) → a ≡ true → b ≡ true → c ≡ true → d ≡ (a && b && c && d)
last_of_four a b c d first second third = rw (first, second, third) refl

pub returns-then-offset-eq0 : goal.returns-then-offset-eq0
returns-then-offset-eq0 c = λ image.
    let e = c.args.entry.now in
    let count = sym (words_from-length image e.at e.n) in
    ap (ltb ((c.args.address - e.addr) / 8)) (c.from.ensures ∙ count)
    ∙ last_of_four _ _ _ _ (eq-eqb e.order UNDO_ORDER (omega arith)) (le-leb e.addr c.args.address (omega arith)) (eq-eqb ((c.args.address - e.addr) % 8) 0 (omega arith))
