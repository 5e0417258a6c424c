use Rattle.std.proofs.Common.{◌≡◌, ℕ, Bool, true, cond, List, Option, Some, None, option_map, sym, ap, subst, ◌∙◌}
use Rattle.std.proofs.lemmas.Option.{same_Some}
use Rattle.pud_defs.specs.declared.records.Puddle.{Puddle}
use Rattle.pud_defs.specs.PoolGraphs.Graph.{graph_of}
use Rattle.pud_defs.specs.PoolGraphs.Stored.{stored_in}
use Rattle.pud_defs.specs.RegistryTables.Types.{types_of}
use Rattle.puddle_header.specs.Places.{place_of_slot}
use Rattle.graph_read.specs.declared.index.Index.{Index}
use Rattle.graph_read.specs.declared.index.Kept.{Kept}
use Rattle.graph_read.specs.Indexed.{IsIndexOf}
use Rattle.graph_read.specs.Reading.{place_in_pool}
use Rattle.known_pool.specs.Known.{Known, index_entries}
use Rattle.known_pool.specs.Indexes.{HasReleased}
use Rattle.known_pool.proofs.Asking.{some_entries}
use Rattle.known_pool.specs.Indexes.{FollowsPlaces, without_place}
use Rattle.known_pool.proofs.PlacesFollowed.{FollowsPlaces-then, FollowsPlaces-removed, counted_some}
use Rattle.known_pool.proofs.KnownKept.{same_kept}
use Rattle.known_pool.proofs.KnownPool.freed.Goals as goal
use Rattle.known_pool.proofs.KnownPool.freed.Goals.{in-Some, in_default}

pub returns-clause-releases : goal.returns-clause-releases
returns-clause-releases g c = λ t image same graph stored there known.
    let F = c.args.frames in
    let puddles : c.as_slice.result.now ≡ c.args.self.now.puddles = c.as_slice.ensures.puddles ∙ ap (λ (k : Known). k.puddles) c.self.view_is in
    let lets = λ (counted : c.self.inside.counted ≡ true). subst (λ (at : List (ℕ × Puddle)). graph_of (types_of image) (stored_in F at image) ≡ Some graph → (s : ℕ) → place_in_pool F at image s ≡ Some (place_of_slot c.args.at.now)
    → ((x : Index) → c.self.inside.index ≡ Some x → IsIndexOf F at (types_of image) image x) → HasReleased (place_in_pool F at image) graph s (option_map index_entries c.release_fields.new.index))
    puddles (c.in_ok-release_fields.ensures.releases counted t image same graph) stored c.args.s there (λ x is. known.indexed x
    (ap (λ (k : Known). k.index) (sym c.self.view_is) ∙ ap (λ (b : Bool). cond b (option_map index_entries c.self.inside.index) None) counted ∙ ap (option_map index_entries) is)) in
    elim c.match-self.branch [
      | in-Some w ↦
          rw w.self-inside-is (λ x is.
          let kept = counted_some _ _ _ is in
          record {
            before = w.in-Some.index;
            left = (lets kept.0).each w.in-Some.index (ap (option_map index_entries) w.in-Some.is);
            gone = λ q. same_kept w.remove.new.self x (sym (same_Some (index_entries w.remove.new.self) (index_entries x) kept.1)) q ∙ w.remove.ensures q;
          })
      | in_default w ↦ rw w.self-inside-is (λ x kept. let it = some_entries c.release_fields.new.index x (counted_some _ _ _ kept).1 in absurd (w.in_default.not-Some it.0 it.1.0))
    ]

pub returns-clause-places : goal.returns-clause-places
returns-clause-places g c =
    let first = c.in_ok-release_fields.ensures.places in
    let was = λ (new : Option (List (ℕ × Kept))) (follows : FollowsPlaces (without_place c.args.s) (option_map index_entries c.self.inside.index) new).
    subst (λ (k : Known). FollowsPlaces (without_place c.args.s) k.placed new) c.self.view_is follows in
    elim c.match-self.branch [
      | in-Some w ↦
          rw w.self-inside-is (was _
          (FollowsPlaces-then (without_place c.args.s) _ _ _ first
          (subst (λ (o : Option Index). FollowsPlaces (without_place c.args.s) (option_map index_entries o) (Some (index_entries w.remove.new.self))) (sym w.in-Some.is)
          (FollowsPlaces-removed c.args.s w.in-Some.index w.remove.new.self w.remove.ensures))))
      | in_default w ↦
          rw w.self-inside-is (was _
          (record { each = λ x kept. let it = some_entries c.release_fields.new.index x kept in absurd (w.in_default.not-Some it.0 it.1.0) }))
    ]
