use Rattle.std.proofs.Common.{inl, inr, ◌≡◌, ◌+◌, ◌-◌, leb, ltb, List, ℕ, length, get_or, sym, ap, ◌∙◌, arith}
use Rattle.std.proofs.lemmas.Bool.{and_parts, leb-true, ltb-true}
use Rattle.pud_defs.proofs.Logging.Entries.{words_from-length}
use Rattle.log_entry.specs.Copying.{image_of_copy, log_copied}
use Rattle.soundness.proofs.Overlaid.{gives_nothing, gives_more, words_from-at}
use Rattle.soundness.proofs.overlay.Overlay.add.Goals as goal
use Rattle.soundness.proofs.overlay.Overlay.add.Goals.{then-not-counts-via-then-not-counts, then-not-counts-via-else-not-counts+then-not-names}

pub returns-then-not-counts : goal.returns-then-not-counts
returns-then-not-counts c =
    let image = image_of_copy c.args.self.now.log in
    let log = log_copied c.args.self.now.log in
    elim c.then-not-counts.branch [
      | then-not-counts-via-then-not-counts w ↦ gives_nothing log image c.args.entry.now c.args.w c.args.given (inl (sym (c.counts.ensures image log c.range.ensures) ∙ w.if-not-counts.true))
      | then-not-counts-via-else-not-counts+then-not-names w ↦ gives_nothing log image c.args.entry.now c.args.w c.args.given (inr (sym w.names.ensures ∙ w.if-not-names.true))
    ]

pub bounds-values-w : goal.bounds-values-w
bounds-values-w c =
    let e = c.args.entry.now in
    let parts = and_parts (leb e.addr c.args.w) (ltb c.args.w (e.addr + e.n)) (sym c.names.ensures ∙ c.if-not-names.false) in
    let low = leb-true e.addr c.args.w parts.0 in
    let high = ltb-true c.args.w (e.addr + e.n) parts.1 in
    let many : length c.values-values.result.now ≡ e.n = ap length c.values-values.ensures ∙ words_from-length (image_of_copy c.args.self.now.log) e.at e.n in
    omega arith

pub returns : goal.returns
returns c =
    let image = image_of_copy c.args.self.now.log in
    let log = log_copied c.args.self.now.log in
    let e = c.args.entry.now in
    let parts = and_parts (leb e.addr c.args.w) (ltb c.args.w (e.addr + e.n)) (sym c.names.ensures ∙ c.if-not-names.false) in
    let low = leb-true e.addr c.args.w parts.0 in
    let high = ltb-true c.args.w (e.addr + e.n) parts.1 in
    let read : get_or c.values-values.result.now (c.args.w - e.addr) 0 ≡ image (e.at + (c.args.w - e.addr)) =
    ap (λ (vals : List ℕ). get_or vals (c.args.w - e.addr) 0) c.values-values.ensures ∙ words_from-at image e.at e.n (c.args.w - e.addr) (omega arith) in
    gives_more log image e c.args.w (get_or c.values-values.result.now (c.args.w - e.addr) 0) c.args.given c.with.result
    (sym (c.counts.ensures image log c.range.ensures) ∙ c.if-not-counts.false) low high read c.with.ensures.undo c.with.ensures.redo
