use Rattle.std.proofs.Common.{Option, ℕ, sym, ap, ◌∙◌}
use Rattle.std.specs.Option.{option_or}
use Rattle.std.proofs.lemmas.Bool.{cond-true, eq-eqb}
use Rattle.pud_defs.specs.declared.log_words.TheConstants.{UNDO_ORDER, REDO_ORDER}
use Rattle.soundness.proofs.overlay.Given.with.Goals as goal

-- an undo entry gives its value if none before it did
pub returns-then-order-eq-UNDO_ORDER-clause-undo : goal.returns-then-order-eq-UNDO_ORDER-clause-undo
returns-then-order-eq-UNDO_ORDER-clause-undo c =
    c.or.ensures ∙ sym (ap (λ (o : Option ℕ). option_or c.args.self.undo o) (cond-true _ _ _ (eq-eqb c.args.order UNDO_ORDER c.if-order-eq-UNDO_ORDER.true)))

-- a redo entry always gives its value
pub returns-then-order-eq-REDO_ORDER-clause-redo : goal.returns-then-order-eq-REDO_ORDER-clause-redo
returns-then-order-eq-REDO_ORDER-clause-redo c =
    sym (ap (λ (o : Option ℕ). option_or o c.args.self.redo) (cond-true _ _ _ (eq-eqb c.args.order REDO_ORDER c.if-order-eq-REDO_ORDER.true)))
