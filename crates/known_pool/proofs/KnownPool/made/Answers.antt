use Rattle.std.proofs.Common.{option_map, subst}
use Rattle.known_pool.specs.Known.{Known, index_entries}
use Rattle.known_pool.specs.Indexes.{FollowsPlaces, with_place}
use Rattle.known_pool.proofs.PlacesFollowed.{FollowsPlaces-made}
use Rattle.known_pool.proofs.KnownPool.made.Goals as goal

pub returns-clause-places : goal.returns-clause-places
returns-clause-places c =
    subst (λ (k : Known). FollowsPlaces (with_place c.args.s c.args.at.now) k.placed (option_map index_entries c.insert.new.index)) c.self.view_is
    (FollowsPlaces-made c.args.s c.args.at.now (option_map index_entries c.self.inside.index) (option_map index_entries c.insert.new.index) c.insert.ensures)
