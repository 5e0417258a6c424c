-- Where the objects stand by an index that followed a change.
use Rattle.std.proofs.Common.{◌≡◌, ℕ, Bool, true, false, cond, List, Option, Some, None, option_map, refl, sym, ap, ◌∙◌}
use Rattle.std.proofs.lemmas.Option.{none-some, same_Some}
use Rattle.pud_defs.specs.declared.objects.FieldValue.{FieldValue}
use Rattle.pud_defs.specs.declared.records.Slot.{Slot}
use Rattle.graph_read.specs.declared.index.Index.{Index}
use Rattle.graph_read.specs.declared.index.Kept.{Kept}
use Rattle.graph_read.specs.Index.{kept_under, KeepsBut, place_kept, unreferenced_at, after_retarget}
use Rattle.graph_read.specs.Indexed.{serial_named}
use Rattle.known_pool.specs.Known.{Known, index_entries, after_end}
use Rattle.known_pool.proofs.KnownKept.{same_kept}
use Rattle.known_pool.specs.Indexes.{Follows, FollowsPlaces, same_place, with_place, without_place, after_move, after_made}

-- What is kept about a serial stands where it stood, whatever references moved.
moved_place : (from to q : ℕ) (k : Option Kept) → option_map place_kept (after_retarget from to q k) ≡ option_map place_kept k
moved_place from to q None = refl
moved_place from to q (Some k) = refl

made_place : (b : Bool) (place : ℕ × ℕ) (k : Option Kept) → option_map place_kept (cond b (Some (unreferenced_at place)) k) ≡ cond b (Some place) (option_map place_kept k)
made_place true place k = refl
made_place false place k = refl

pub FollowsPlaces-same : (o : Option (List (ℕ × Kept))) → FollowsPlaces same_place o o
FollowsPlaces-same o = record { each = λ x kept. record { before = x; was = kept; each = λ q. refl } }

pub FollowsPlaces-moved : (was now : FieldValue) (old new : Option (List (ℕ × Kept))) → Follows (after_move was now) old new → FollowsPlaces same_place old new
FollowsPlaces-moved was now old new follows = record {
  each = λ x kept.
      let from = follows.each x kept in
      record { before = from.before; was = from.was; each = λ q. ap (option_map place_kept) (from.each q) ∙ moved_place (serial_named was) (serial_named now) q (kept_under from.before q) };
}

pub FollowsPlaces-made : (s : ℕ) (slot : Slot) (old new : Option (List (ℕ × Kept))) → Follows (after_made s slot) old new → FollowsPlaces (with_place s slot) old new
FollowsPlaces-made s slot old new follows = record {
  each = λ x kept.
      let from = follows.each x kept in
      record { before = from.before; was = from.was; each = λ q. ap (option_map place_kept) (from.each q) ∙ made_place _ (slot.ordinal, slot.slot) (kept_under from.before q) };
}

removed_place : (b : Bool) (k : Option Kept) → option_map place_kept (cond b None k) ≡ cond b None (option_map place_kept k)
removed_place true k = refl
removed_place false k = refl

pub FollowsPlaces-removed : (s : ℕ) (old new : Index) → KeepsBut old new s None → FollowsPlaces (without_place s) (Some (index_entries old)) (Some (index_entries new))
FollowsPlaces-removed s old new gone = record {
  each = λ x kept. record {
    before = old;
    was = refl;
    each = λ q. ap (option_map place_kept) (same_kept new x (sym (same_Some (index_entries new) (index_entries x) kept)) q ∙ gone q) ∙ removed_place _ (kept_under old q);
  };
}

-- If an index is kept whose counts are known, its counts are known.
pub counted_some : (counted : Bool) (o : Option (List (ℕ × Kept))) (es : List (ℕ × Kept)) → cond counted o None ≡ Some es → (counted ≡ true) × (o ≡ Some es)
counted_some true o es is = (refl, is)
counted_some false o es none = absurd (none-some es none)

-- First each object stands where it stood, and then the other change comes.
pub FollowsPlaces-then : (change : ℕ → Option (ℕ × ℕ) → Option (ℕ × ℕ)) (a b c : Option (List (ℕ × Kept))) → FollowsPlaces same_place a b → FollowsPlaces change b c → FollowsPlaces change a c
FollowsPlaces-then change a b c first second = record {
  each = λ x kept.
      let f = second.each x kept in
      let e = first.each f.before f.was in
      record { before = e.before; was = e.was; each = λ q. f.each q ∙ ap (change q) (e.each q) };
}

-- An index whose counts are not known follows each change of counts.
pub Follows-counted : (change : ℕ → Option Kept → Option Kept) (counted : Bool) (old new : Option (List (ℕ × Kept))) → Follows change old new → Follows change (cond counted old None) (cond counted new None)
Follows-counted change true old new follows = follows
Follows-counted change false old new follows = record { each = λ x none. absurd (none-some (index_entries x) none) }

-- The end of a transaction leaves the puddles.
pub puddles_after_end : (undone deferred : Bool) (known : Known) → (after_end undone deferred known).puddles ≡ known.puddles
puddles_after_end true deferred known = refl
puddles_after_end false true known = refl
puddles_after_end false false known = refl
