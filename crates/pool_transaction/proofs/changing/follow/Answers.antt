use Rattle.std.proofs.Common.{◌≡◌, ℕ, Some, Result, sym, ap, subst, ◌∙◌}
use Rattle.std.specs.Prelude.{IfOk}
use Rattle.pm_model.specs.declared.host.HostFault.{HostFault}
use Rattle.puddle_header.specs.Places.{place_of_slot}
use Rattle.graph_read.specs.declared.index.Index.{Index}
use Rattle.graph_read.specs.Reading.{place_in_pool}
use Rattle.known_pool.specs.Known.{index_entries}
use Rattle.known_pool.specs.Indexes.{FollowsPlaces, without_place, Releases}
use Rattle.known_pool.specs.Searches.{full_after_freed}
use Rattle.pool_transaction.specs.Changing.{FollowsFree}
use Rattle.pool_transaction.proofs.NewObjects.MadeKept.{ok_there}
use Rattle.pool_transaction.proofs.Updates.KnownFollows.{freed_serial}
use Rattle.pool_transaction.proofs.changing.follow.Goals as goal

pub returns-in-Object-clause-follows : goal.returns-in-Object-clause-follows
returns-in-Object-clause-follows g c = rw c.in-Object.is (λ t image same update graph stored so by read.
    let F = c.args.frames in
    let known = c.args.pool.now in
    let next = c.freed.new.self in
    let s = c.in-Object.s in
    let slot = c.in-Object.at in
    let there = subst (λ (n : ℕ). place_in_pool F known.puddles image n ≡ Some (place_of_slot slot)) (ap freed_serial (sym by.is ∙ read)) by.found in
    let releases = c.freed.ensures.releases t image same graph stored there so in
    ok_there c.freed.result (λ u. FollowsFree F known.puddles image graph slot s known next) (λ u done.
    record {
      puddles = c.freed.ensures.puddles;
      index = subst (λ (r : Result Unit HostFault). IfOk r (λ u. (x : Index) → next.index ≡ Some (index_entries x) → Releases (place_in_pool F known.puddles image) graph s x)) done releases;
      placed = subst (λ (r : Result Unit HostFault). IfOk r (λ u. FollowsPlaces (without_place s) known.placed next.placed)) done c.freed.ensures.places;
      full = subst (λ (r : Result Unit HostFault). IfOk r (λ u. next.full_below ≡ full_after_freed slot known.full_below)) done c.freed.ensures.full;
    }))
