-- The puddles of a pool, read ordinal by ordinal.
use Rattle.std.proofs.Common.{◌≡◌, inl, inr, ℕ, ◌+◌, ◌-◌, ◌<◌, ◌≤◌, List, [], ◌∷◌, ◌++◌, length, All, get_or, nat_cmp, Option, Some, None, IfSome, option_map, refl, sym, ap, ◌∙◌, subst, arith}
use Rattle.std.specs.FinMap.Entries.{find}
use Rattle.std.proofs.lemmas.Bool.{cases_lt}
use Rattle.std.proofs.lemmas.List.{append_assoc, append-nil, get_or_past, length-append}
use Rattle.std.proofs.lemmas.List.Elements.{All-nil, All-cons, All-append}
use Rattle.std.proofs.lemmas.Option.{none-some}
use Rattle.pud_defs.specs.declared.records.TheConstants.{POOL_RECORDS, MAX_PUDDLES}
use Rattle.pud_defs.specs.declared.records.Puddle.{Puddle}
use Rattle.pud_defs.specs.Formats.Image.{Image}
use Rattle.pud_defs.specs.RegistryTables.Tables.{Tables, tables_of, puddles_of, in_turn, puddles_in_turn}
use Rattle.pud_defs.proofs.RegistryTables.PuddlesListed.{in_turn-found, in_turn-none, in_turn-end}
use Rattle.puddle_table.specs.Records.{puddle_words_at}
use Rattle.puddle_table.specs.Placed.{Placed, AreFramesBelow, frame_of_puddle, HoldsPlaces}
use Rattle.puddle_table.proofs.Placing.{puddle_found}

-- The puddle of an ordinal.
abbrev by_ordinal : Tables → (slot ordinal : ℕ) → Option (ℕ × Puddle)
by_ordinal t slot ordinal = find nat_cmp ordinal (puddles_of t slot)

-- What was read before an ordinal and what is left to read from it on are all puddles of the pool.
pub record ReadsOn (t : Tables) (slot ordinal : ℕ) (puddles : List (ℕ × Puddle)) : Type 0 where
  pub all : puddles ++ in_turn (by_ordinal t slot) ordinal (MAX_PUDDLES - ordinal) ≡ puddles_in_turn t slot

-- If nothing is left, all puddles of the pool were read.
all_read : (t : Tables) (slot ordinal : ℕ) (puddles : List (ℕ × Puddle)) → in_turn (by_ordinal t slot) ordinal (MAX_PUDDLES - ordinal) ≡ [] → ReadsOn t slot ordinal puddles → puddles ≡ puddles_in_turn t slot
all_read t slot ordinal puddles none h = sym (append-nil puddles) ∙ ap (λ rest. puddles ++ rest) (sym none) ∙ h.all

pub ReadsOn-end : (t : Tables) (slot ordinal : ℕ) (puddles : List (ℕ × Puddle)) → MAX_PUDDLES ≤ ordinal → ReadsOn t slot ordinal puddles → puddles ≡ puddles_in_turn t slot
ReadsOn-end t slot ordinal puddles past h = all_read t slot ordinal puddles (in_turn-end (by_ordinal t slot) ordinal MAX_PUDDLES past) h

not_found : {A B : Type 0} (f : A → B) (o : Option A) → None ≡ option_map f o → o ≡ None
not_found f None is = refl
not_found f (Some x) is = absurd (none-some (f x) is)

module _ (F : ℕ) (image : Image) (p : Placed) (h : HoldsPlaces (tables_of F image) p) (slot ordinal : ℕ) (known : slot < POOL_RECORDS) (few : ordinal < MAX_PUDDLES) (puddles : List (ℕ × Puddle)) where
  pub ReadsOn-none : frame_of_puddle p.frames slot ordinal ≡ None → ReadsOn (tables_of F image) slot ordinal puddles → puddles ≡ puddles_in_turn (tables_of F image) slot
  ReadsOn-none is =
      all_read (tables_of F image) slot ordinal puddles
      (in_turn-none (by_ordinal (tables_of F image) slot) ordinal MAX_PUDDLES few (not_found (λ (e : ℕ × Puddle). e.0) _ (sym is ∙ h.each slot ordinal known few)))

  pub ReadsOn-more : (frame : ℕ) (puddle : Puddle) → frame_of_puddle p.frames slot ordinal ≡ Some frame → puddle ≡ puddle_words_at image frame
      → ReadsOn (tables_of F image) slot ordinal puddles → ReadsOn (tables_of F image) slot (ordinal + 1) (puddles ++ (frame, puddle) ∷ [])
  ReadsOn-more frame puddle is read before = record {
    all =
        let rest = in_turn (by_ordinal (tables_of F image) slot) (ordinal + 1) (MAX_PUDDLES - (ordinal + 1)) in
        let here = puddle_found F image p slot ordinal frame h known few is ∙ ap (λ (x : Puddle). Some (frame, x)) (sym read) in
        append_assoc puddles ((frame, puddle) ∷ []) rest
        ∙ ap (λ later. puddles ++ later) (sym (in_turn-found (by_ordinal (tables_of F image) slot) ordinal MAX_PUDDLES (frame, puddle) few here))
        ∙ before.all;
  }

-- ---- the frames

pub frame_below : (count : ℕ) (frames : List (Option ℕ)) (i frame : ℕ) → AreFramesBelow count frames → get_or frames i None ≡ Some frame → frame < count
frame_below count frames i frame all is = elim (cases_lt i (length frames)) [
  | inl within ↦ subst (λ (o : Option ℕ). IfSome o (λ f. f < count)) is (all i None within)
  | inr past ↦ absurd (none-some frame (sym (get_or_past frames i None past) ∙ is))
]

pub frames_more : (count frame : ℕ) (puddle : Puddle) (puddles : List (ℕ × Puddle)) → frame < count → All (λ e. e.0 < count) puddles → All (λ e. e.0 < count) (puddles ++ (frame, puddle) ∷ [])
frames_more count frame puddle puddles below all = All-append (λ e. e.0 < count) puddles _ all (All-cons (λ e. e.0 < count) (frame, puddle) [] below (All-nil (λ e. e.0 < count)))

pub one_more : {A : Type 0} (x : A) (xs : List A) (most : ℕ) → length xs ≤ most → length (xs ++ x ∷ []) ≤ most + 1
one_more x xs most few = let count : length (xs ++ x ∷ []) ≡ length xs + 1 = length-append xs (x ∷ []) in omega (arith, count, few)
