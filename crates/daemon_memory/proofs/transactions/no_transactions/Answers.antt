use Rattle.std.proofs.Common.{rules, ◌≡◌, ◌<◌, None, get_or, replicate, sym, ◌∙◌, arith}
use Rattle.std.proofs.lemmas.List.{ext_get_or, get_or-replicate}
use Rattle.pud_defs.specs.Logging.Settled.{ALL_LOGS}
use Rattle.daemon_memory.proofs.transactions.no_transactions.Goals as goal

pub returns : goal.returns
returns c =
    let made = c.from_fn.ensures.items in
    ext_get_or None c.from_fn.result (replicate ALL_LOGS None) made.long (λ i lt.
    let within : i < ALL_LOGS = omega (arith, lt, made.long) in
    let call = (made.at i None within).2.met in
    let none : get_or c.from_fn.result i None ≡ None = search rules in
    none ∙ sym (get_or-replicate ALL_LOGS i None None within))
