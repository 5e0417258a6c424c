use Rattle.std.proofs.Common.{◌≡◌, ℕ, List, Some, None, option_map, refl, sym, subst, ◌∙◌}
use Rattle.std.proofs.lemmas.Option.{none-some}
use Rattle.std.proofs.lemmas.Result.{err_from_is_err_and}
use Rattle.pud_defs.specs.declared.records.Puddle.{Puddle}
use Rattle.puddle_header.specs.Places.{IsSlotOf}
use Rattle.known_pool.specs.Known.{Known, index_entries, counted_entries}
use Rattle.known_pool.specs.Indexes.{Follows, FollowsPlaces, with_place, after_made}
use Rattle.known_pool.specs.Searches.{full_after_made}
use Rattle.daemon_memory.specs.Memory.{ActiveTransaction}
use Rattle.daemon_memory.proofs.Commands.Keeping.{KeepsRest-changes, KeepsRest-then}
use Rattle.pool_transaction.specs.Changing.{both_finished}
use Rattle.pool_transaction.proofs.Lifetimes.ActiveRuns.{with_tx}
use Rattle.pool_transaction.proofs.NewObjects.ActiveMakes.{IsMade, seen_as, not_finished, was_made}
use Rattle.pool_transaction.proofs.PuddlesFinished.FinishedPools.{HaveMoved-both, IsSlotOf-moved}
use Rattle.pool_transaction.proofs.changing.make_object.Goals as goal

-- If the puddles were not rewritten to their ends, the clause holds.
pub returns-in_err-finish_both-clause-makes : goal.returns-in_err-finish_both-clause-makes
returns-in_err-finish_both-clause-makes g c =
    let p = err_from_is_err_and c.from_residual.result c.from_residual.ensures.1 in
    rw (p.1, p.2) (λ t size w memory runs making lowest.
    let active = c.args.opened.now in
    let i = c.pool.inside in
    let kept : Known = record { puddles = i.puddles; index = counted_entries i.counted i.index; placed = option_map index_entries i.index; full_below = i.full_below } in
    let later = c.finish_both.new.pool in
    let left : Known = record kept { puddles = later } in
    let fault = c.in_err-finish_both.field-0.0 in
    let mid = g.H.Host.state c.finish_both.new.h in
    seen_as c.args.frames _ size w memory (g.H.Host.state c.args.h.now) c.args.t c.args.serial c.args.at.now active left later (Some fault) mid active active kept c.args.pool.now refl c.pool.view_is
    (λ runs making within of lowest. not_finished runs c.args.t c.args.serial c.args.at.now making of lowest later fault mid (c.in_err-finish_both.ensures.rewrites t) active left)
    runs making c.requires.within c.requires.slot lowest)

pub new_at-made-requires-clause-within : goal.new_at-made-requires-clause-within
new_at-made-requires-clause-within g c =
    let at = c.pool.inside.puddles in
    let o = c.args.at.now.ordinal in
    subst (λ (ds : List (ℕ × Puddle)). IsSlotOf ds c.args.at.now) (sym (c.as_slice.ensures.puddles ∙ c.in_ok-finish_both.ensures.pool))
    (IsSlotOf-moved at (both_finished o at) c.args.at.now (HaveMoved-both o at) (subst (λ (k : Known). IsSlotOf k.puddles c.args.at.now) (sym c.pool.view_is) c.requires.slot))

-- If the call that makes the object failed, the clause holds.
pub returns-in_err-made-clause-makes : goal.returns-in_err-made-clause-makes
returns-in_err-made-clause-makes g c =
    let p = err_from_is_err_and c.from_residual-in_err-made.result c.from_residual-in_err-made.ensures.1 in
    rw (p.1, p.2) (λ t size w memory runs making lowest.
    let o = c.opened.inside in
    let active : ActiveTransaction = record { client = o.client; name = o.name; slot = o.slot; log_number = o.log_number; tx = o.tx } in
    let i = c.pool.inside in
    let kept : Known = record { puddles = i.puddles; index = counted_entries i.counted i.index; placed = option_map index_entries i.index; full_below = i.full_below } in
    let later = c.finish_both.new.pool in
    let left : Known = record kept { puddles = later } in
    let n = c.in_err-made.ensures in
    let fault = c.in_err-made.field-0.0 in
    let new = g.H.Host.state c.new_at-made.new.h in
    seen_as c.args.frames _ size w memory (g.H.Host.state c.args.h.now) c.args.t c.args.serial c.args.at.now (with_tx c.new_at-made.new.self active) left later (Some fault) new active c.args.opened.now kept c.args.pool.now c.opened.view_is c.pool.view_is
    (λ runs making within of lowest. was_made runs c.args.t c.args.serial c.args.at.now making of lowest later (g.H.Host.state c.finish_both.new.h) (c.in_ok-finish_both.ensures.rewrites t) c.in_ok-finish_both.ensures.pool
    c.new_at-made.new.self (Some fault) new n.at within c.as_slice.result.now c.as_slice.ensures.puddles (n.runs t) (n.makes t) (λ none. absurd (none-some fault (sym none))) left refl (λ none. absurd (none-some fault (sym none))))
    runs making c.requires.within c.requires.slot lowest)

-- If the object was made, it is known, and the clause holds.
pub returns-clause-makes : goal.returns-clause-makes
returns-clause-makes g c = λ t size w memory runs making lowest.
    let o = c.opened.inside in
    let active : ActiveTransaction = record { client = o.client; name = o.name; slot = o.slot; log_number = o.log_number; tx = o.tx } in
    let i = c.pool.inside in
    let kept : Known = record { puddles = i.puddles; index = counted_entries i.counted i.index; placed = option_map index_entries i.index; full_below = i.full_below } in
    let later = c.finish_both.new.pool in
    let more = c.made.new.self in
    let n = c.in_ok-made.ensures in
    let m = c.made.ensures in
    let new = g.H.Host.state c.new_at-made.new.h in
    subst (λ (later : List (ℕ × Puddle)). IsMade c.args.frames size w memory c.args.opened.now c.args.pool.now (g.H.Host.state c.args.h.now) c.args.t c.args.at.now (with_tx c.new_at-made.new.self active) more later None new) (sym m.puddles)
    (seen_as c.args.frames _ size w memory (g.H.Host.state c.args.h.now) c.args.t c.args.serial c.args.at.now (with_tx c.new_at-made.new.self active) more later None new active c.args.opened.now kept c.args.pool.now c.opened.view_is c.pool.view_is
    (λ runs making within of lowest. was_made runs c.args.t c.args.serial c.args.at.now making of lowest later (g.H.Host.state c.finish_both.new.h) (c.in_ok-finish_both.ensures.rewrites t) c.in_ok-finish_both.ensures.pool
    c.new_at-made.new.self None new n.at within c.as_slice.result.now c.as_slice.ensures.puddles (n.runs t) (n.makes t) (λ none. n.counts) more m.puddles (λ none. record { puddles = m.puddles; index = m.follows; placed = m.places; full = m.full }))
    runs making c.requires.within c.requires.slot lowest)

pub returns-in_err-made-clause-rest : goal.returns-in_err-made-clause-rest
returns-in_err-made-clause-rest g c = λ t. KeepsRest-then _ _ _ (c.in_ok-finish_both.ensures.rest t) (KeepsRest-changes _ _ _ _ (c.in_err-made.ensures.changes t))

pub returns-clause-rest : goal.returns-clause-rest
returns-clause-rest g c = λ t. KeepsRest-then _ _ _ (c.in_ok-finish_both.ensures.rest t) (KeepsRest-changes _ _ _ _ (c.in_ok-made.ensures.changes t))

-- The slot is still one of the pool's slots.
pub made-requires-clause-within : goal.made-requires-clause-within
made-requires-clause-within g c =
    let at = c.pool.inside.puddles in
    let o = c.args.at.now.ordinal in
    subst (λ (ds : List (ℕ × Puddle)). IsSlotOf ds c.args.at.now) (sym c.in_ok-finish_both.ensures.pool)
    (IsSlotOf-moved at (both_finished o at) c.args.at.now (HaveMoved-both o at) (subst (λ (k : Known). IsSlotOf k.puddles c.args.at.now) (sym c.pool.view_is) c.requires.slot))

-- What the daemon keeps has the object.
pub returns-clause-follows : goal.returns-clause-follows
returns-clause-follows g c = subst (λ (k : Known). Follows (after_made c.args.serial c.args.at.now) k.index c.made.new.self.index) c.pool.view_is c.made.ensures.follows

pub returns-clause-places : goal.returns-clause-places
returns-clause-places g c = subst (λ (k : Known). FollowsPlaces (with_place c.args.serial c.args.at.now) k.placed c.made.new.self.placed) c.pool.view_is c.made.ensures.places

pub returns-clause-full : goal.returns-clause-full
returns-clause-full g c = subst (λ (k : Known). c.made.new.self.full_below ≡ full_after_made c.args.at.now k.full_below) c.pool.view_is c.made.ensures.full
