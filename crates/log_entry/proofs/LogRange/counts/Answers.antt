use Rattle.std.proofs.Common.{◌&&◌, ltb, Bool, ℕ, sym, ap, ◌∙◌, arith}
use Rattle.std.proofs.lemmas.Bool.{lt-ltb}
use Rattle.log_entry.proofs.LogRange.counts.Goals as goal

pub returns-then-self-entry : goal.returns-then-self-entry
returns-then-self-entry c = λ image log range.
    let seq = c.args.entry.now.seq in
    let lo = range.lo in
    ap (λ (n : ℕ). ltb seq n) range.hi ∙ ap (λ (b : Bool). b && ltb seq log.hi) (sym (lt-ltb log.lo seq (omega arith)))
