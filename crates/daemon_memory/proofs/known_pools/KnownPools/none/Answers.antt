use Rattle.std.proofs.Common.{rules, ◌≡◌, ◌<◌, None, get_or, replicate, sym, ◌∙◌, arith}
use Rattle.std.proofs.lemmas.List.{ext_get_or, get_or-replicate}
use Rattle.pud_defs.specs.declared.records.TheConstants.{POOL_RECORDS}
use Rattle.daemon_memory.proofs.known_pools.KnownPools.none.Goals as goal

pub returns : goal.returns
returns c =
    let made = c.from_fn.ensures.items in
    ext_get_or None c.from_fn.result (replicate POOL_RECORDS None) made.long (λ i lt.
    let within : i < POOL_RECORDS = omega (arith, lt, made.long) in
    let call = (made.at i None within).2.met in
    let none : get_or c.from_fn.result i None ≡ None = search rules in
    none ∙ sym (get_or-replicate POOL_RECORDS i None None within))
