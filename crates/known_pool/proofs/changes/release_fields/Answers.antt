use Rattle.std.proofs.Common.{◌≡◌, ◌+◌, ◌<◌, ◌≤◌, ℕ, true, Option, option_map, IfSome, subst, ◌∙◌, arith}
use Rattle.std.proofs.lemmas.Bool.{leb-true}
use Rattle.pm_model.proofs.Reading.{OnlyReads-none, OnlyReads-then, still_reads}
use Rattle.pud_defs.specs.PoolGraphs.Graph.{fits_class, field_count}
use Rattle.pud_defs.specs.declared.space.TheConstants.{SLOT_FIELDS_WORD}
use Rattle.pud_defs.specs.Formats.Geometry.{class_slot_words}
use Rattle.puddle_header.specs.Places.{place_of_slot}
use Rattle.graph_read.proofs.Passing.{field_count-least}
use Rattle.known_pool.specs.Known.{index_entries}
use Rattle.pud_defs.specs.declared.objects.FieldValue.TheVariants.{Num}
use Rattle.known_pool.specs.Indexes.{same_place}
use Rattle.known_pool.proofs.PlacesFollowed.{FollowsPlaces-same, FollowsPlaces-moved, FollowsPlaces-then}
use Rattle.known_pool.proofs.Releasing.{map_found, LetsFirst-start, LetsFirst-more, LetsFirst-end, lets_none}
use Rattle.known_pool.proofs.changes.release_fields.Goals as goal

pub returns-in_default-clause-releases : goal.returns-in_default-clause-releases
returns-in_default-clause-releases g c = λ counted t image same graph stored s there is.
    let at = c.args.at.now in
    let pool = c.args.pool.now in
    let first = still_reads c.slot_type.ensures.only_reads t same in
    let none = map_found c.args.frames pool image at c.requires.within _ _ (c.in_ok-id.ensures.word t image same) (c.in_ok-map.ensures.map t image first) ∙ c.in_default.is in
    lets_none c.args.frames pool image (place_of_slot at) c.args.index.now is none graph s stored there

pub loop-f-init : goal.loop-f-init
loop-f-init g c = record {
  only_reads = OnlyReads-none;
  places = FollowsPlaces-same (option_map index_entries c.args.index.now);
  lets = λ t image same type is. LetsFirst-start c.args.frames c.args.pool.now image (place_of_slot c.args.at.now) c.args.index.now is c.in-Some.map type;
}

pub value_at-requires-clause-field : goal.value_at-requires-clause-field
value_at-requires-clause-field g c =
    let class = c.args.at.now.class in
    let fits = subst (λ (o : Option ℕ). IfSome o (λ m. fits_class class m ≡ true)) c.in-Some.is c.in_ok-map.ensures.fits in
    let room = leb-true (SLOT_FIELDS_WORD + field_count c.in-Some.map) (class_slot_words class) fits in
    let count = field_count-least c.in-Some.map in
    omega (arith, room, count)

pub loop-f-preserved : goal.loop-f-preserved
loop-f-preserved g c = record {
  only_reads = OnlyReads-then c.loop-f.invariant.only_reads c.in_ok-value.ensures.only_reads;
  places = FollowsPlaces-then same_place _ _ _ c.loop-f.invariant.places
      (FollowsPlaces-moved c.in_ok-value.value (Num 0) (option_map index_entries c.loop-f.index) (option_map index_entries c.retarget.new.index) c.retarget.ensures.follows);
  lets = λ t image same type is.
      let before = still_reads c.loop-f.invariant.only_reads t same in
      let count = field_count-least c.in-Some.map in
      let below : c.loop-f.f < field_count c.in-Some.map = omega arith in
      LetsFirst-more c.args.frames c.args.pool.now image (place_of_slot c.args.at.now) c.in-Some.map c.loop-f.f c.in_ok-value.value (option_map index_entries c.loop-f.index) (option_map index_entries c.retarget.new.index) below
      (c.in_ok-value.ensures.value t image before) c.retarget.ensures.follows (c.loop-f.invariant.lets t image same type is);
}

pub returns-in_err-value-clause-places : goal.returns-in_err-value-clause-places
returns-in_err-value-clause-places g c = c.loop-f.invariant.places

pub returns-clause-places : goal.returns-clause-places
returns-clause-places g c = c.loop-f.invariant.places

pub returns-clause-releases : goal.returns-clause-releases
returns-clause-releases g c = λ counted t image same graph stored s there is.
    let at = c.args.at.now in
    let pool = c.args.pool.now in
    let first = still_reads c.slot_type.ensures.only_reads t same in
    let second = still_reads c.find_fitting.ensures.only_reads t first in
    let type = map_found c.args.frames pool image at c.requires.within _ _ (c.in_ok-id.ensures.word t image same) (c.in_ok-map.ensures.map t image first) ∙ c.in-Some.is in
    let count = field_count-least c.in-Some.map in
    let past : field_count c.in-Some.map ≤ c.loop-f.f = omega arith in
    LetsFirst-end c.args.frames pool image (place_of_slot at) c.in-Some.map c.loop-f.f (option_map index_entries c.loop-f.index) past (c.loop-f.invariant.lets t image second type is) graph s stored there
