use Rattle.std.proofs.Common.{Bool, cond, None, option_map, is_some, ap, subst, ◌∙◌}
use Rattle.known_pool.specs.Known.{Known, index_entries}
use Rattle.known_pool.specs.Indexes.{FollowsPlaces, same_place}
use Rattle.known_pool.proofs.Asking.{some_entries, MayMove-entries, some_mapped}
use Rattle.known_pool.proofs.PlacesFollowed.{FollowsPlaces-moved, counted_some}
use Rattle.known_pool.proofs.KnownPool.moved.Goals as goal

pub returns-clause-places : goal.returns-clause-places
returns-clause-places c =
    subst (λ (k : Known). FollowsPlaces same_place k.placed (option_map index_entries c.retarget.new.index)) c.self.view_is
    (FollowsPlaces-moved c.args.was c.args.now (option_map index_entries c.self.inside.index) (option_map index_entries c.retarget.new.index) c.retarget.ensures.follows)

pub returns-clause-kept : goal.returns-clause-kept
returns-clause-kept c = λ x kept may.
    let both = counted_some _ _ _ (ap (λ (k : Known). k.index) c.self.view_is ∙ kept) in
    let it = some_entries c.self.inside.index x both.1 in
    ap (λ (b : Bool). is_some (cond b (option_map index_entries c.retarget.new.index) None)) both.0
    ∙ some_mapped c.retarget.new.index (c.retarget.ensures.kept it.0 it.1.0 (MayMove-entries c.args.was c.args.now x it.0 it.1.1 may))
