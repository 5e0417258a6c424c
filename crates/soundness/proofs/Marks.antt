-- The marks of the places that puddles have, and what they state about legal records.
use Rattle.std.proofs.Common.{◌≡◌, inl, inr, ◌↔◌, ℕ, zero, suc, ◌+◌, ◌-◌, ◌*◌, ◌<◌, ◌≤◌, Bool, true, false, not, ◌&&◌, ◌||◌, cond, eqb, List, length, get_or, Option, Some, None, is_some, is_none, refl, sym, ap, ap₂, subst, ◌∙◌, arith, add-one, eq-eqb, ne_eqb, get_or-set_same, get_or-set_other}
use Rattle.std.specs.Prelude.{option_map, slice_set, replicate}
use Rattle.std.specs.List.{IsDistinct}
use Rattle.std.specs.Ordering.{nat_cmp}
use Rattle.std.proofs.lemmas.Bool.{and_from, and_left, and_right, cases_eq, or_left, cond-false}
use Rattle.pud_defs.specs.declared.records.TheConstants.{POOL_RECORDS, MAX_PUDDLES}
use Rattle.pud_defs.specs.declared.records.Puddle.{Puddle}
use Rattle.pud_defs.specs.Formats.Image.{Image}
use Rattle.pud_defs.specs.RegistryTables.Spaces.{all_below}
use Rattle.pud_defs.specs.RegistryTables.Keyed.{under, first_from, is_apart, are_distinct}
use Rattle.pud_defs.specs.RegistryTables.Pools.{pool_record_at, pool_by, pool_at}
use Rattle.pud_defs.specs.RegistryTables.Puddles.{Member, member_pool, member_ordinal, frontier_part, class_part, puddle_record_at, puddle_by, puddle_at}
use Rattle.pud_defs.specs.RegistryTables.Tables.{Tables, tables_of, member_of, members, puddles_of}
use Rattle.pud_defs.specs.RegistryTables.SoundTables.{has_legal_puddles, has_distinct_bases, has_distinct_old_bases, has_distinct_ordinals, has_counted_puddles, are_counted}
use Rattle.pud_defs.proofs.RegistryTables.Spaces.{all_below-same, all_below-more, all_below-fails}
use Rattle.pud_defs.proofs.RegistryTables.TablesOf.{pools_below, puddles_below, pool_at-free, puddle_at-free}
use Rattle.pud_defs.proofs.KeyedTables.DistinctKeys.{some_or, some_under, none_by_some, IsTold, IsSmall, small_in_tables, distinct_old_bases, distinct_ordinals, found_ordinal, first_from-nowhere, AreKeys, counted_by_marks}
use Rattle.soundness.specs.declared.distinct.Key.{Key}
use Rattle.soundness.specs.declared.distinct.Key.TheVariants.{Base, OldBase}
use Rattle.soundness.specs.declared.distinct.TheConstants.{OLD_BASES, PLACES}
use Rattle.soundness.specs.Distinct.{joined_key, key_word, key_by, key_of, mark_index, by_key, has_distinct_numbers, is_apart_from, with_mark, MarksMore, IsMarked, AreMarked, is_marked_at, counts_up, is_counted_by}
use Rattle.soundness.proofs.Numbers.{told_by_places, told_by_bases, place_below, numbers_from, all_numbers, decided_by_list}

-- ---- one record

pub free_record : (F : ℕ) (image : Image) (frame : ℕ) → frame < F → image (puddle_record_at frame) ≡ 0 → (tables_of F image).puddles frame ≡ None
free_record F image frame below free = puddles_below F image frame below ∙ puddle_at-free image frame free

used_record : (F : ℕ) (image : Image) (frame : ℕ) → frame < F → (image (puddle_record_at frame) ≡ 0 → ⊥) → (tables_of F image).puddles frame
    ≡ Some (record {
      pool = member_pool (image (puddle_record_at frame));
      ordinal = member_ordinal (image (puddle_record_at frame));
      puddle = record { number = image (puddle_record_at frame + 1); base = image (puddle_record_at frame + 2); old_base = image (puddle_record_at frame + 3); frontier = frontier_part (image (puddle_record_at frame + 4)); class = class_part (image (puddle_record_at frame + 4)) };
    })
unfolding puddle_at puddle_by
used_record F image frame below used = puddles_below F image frame below ∙ cond-false _ _ _ (ne_eqb (image (puddle_record_at frame)) 0 used)

pub number_used : (key : Key) (F : ℕ) (image : Image) (frame member base : ℕ) → frame < F → member ≡ image (puddle_record_at frame) → (member ≡ 0 → ⊥) → base ≡ image (puddle_record_at frame + key_word key)
    → Some (key_by key (member_pool member) base) ≡ option_map (key_of key) ((tables_of F image).puddles frame)
number_used Base F image frame member base below is used there =
    ap Some there ∙ sym (ap (option_map (key_of Base)) (used_record F image frame below (λ e. used (is ∙ e))))
number_used OldBase F image frame member base below is used there =
    ap₂ (λ (w v : ℕ). Some (joined_key OLD_BASES (member_pool w) v)) is there ∙ sym (ap (option_map (key_of OldBase)) (used_record F image frame below (λ e. used (is ∙ e))))

pub place_used : (F : ℕ) (image : Image) (frame member : ℕ) → frame < F → member ≡ image (puddle_record_at frame) → (member ≡ 0 → ⊥)
    → Some (joined_key MAX_PUDDLES (member_pool member) (member_ordinal member)) ≡ option_map mark_index ((tables_of F image).puddles frame)
place_used F image frame member below is used =
    ap (λ (w : ℕ). Some (joined_key MAX_PUDDLES (member_pool w) (member_ordinal w))) is ∙ sym (ap (option_map mark_index) (used_record F image frame below (λ e. used (is ∙ e))))

pub free_pool : (F : ℕ) (image : Image) (slot : ℕ) → slot < POOL_RECORDS → image (pool_record_at slot) ≡ 0 → is_none ((tables_of F image).pools slot) ≡ true
free_pool F image slot below free = ap is_none (pools_below F image slot below ∙ pool_at-free image slot free)

pub used_pool : (F : ℕ) (image : Image) (slot : ℕ) → slot < POOL_RECORDS → (image (pool_record_at slot) ≡ 0 → ⊥) → is_none ((tables_of F image).pools slot) ≡ false
unfolding pool_at pool_by
used_pool F image slot below used = ap is_none (pools_below F image slot below) ∙ ap is_none (cond-false _ _ _ (ne_eqb (image (pool_record_at slot)) 0 used))

-- ---- marks, record by record

blank : (k n : ℕ) → get_or (replicate n false) k false ≡ false
blank k zero = refl
blank zero (suc n) = refl
blank (suc k) (suc n) = blank k n

-- nothing is marked before the first record
pub unmarked : (t : Tables) (from n : ℕ) → IsMarked t from 0 (replicate n false)
unfolding first_from
unmarked t from n = record { each = λ k below. blank k n }

pub none_apart : (t : Tables) (from : ℕ) → are_distinct nat_cmp (by_key mark_index t) from 0 ≡ true
unfolding are_distinct
none_apart t from = refl

-- a place is marked exactly if one of the records has it
apart_by_marks : (t : Tables) (i from count : ℕ) (marks : List Bool) (o : Option Member) → IsMarked t from count marks
    → is_apart nat_cmp (option_map (λ m. (mark_index m, i)) o) (by_key mark_index t) from count ≡ is_apart_from marks (option_map mark_index o)
apart_by_marks t i from count marks None marked = refl
apart_by_marks t i from count marks (Some m) marked =
    none_by_some (first_from nat_cmp (mark_index m) (by_key mark_index t) from count) ∙ ap not (sym (marked.each (mark_index m) (place_below m)))

mark_here : (t : Tables) (i from count : ℕ) (marks : List Bool) (o : Option Member) → length marks ≡ PLACES → IsMarked t from count marks
    → (n : ℕ) → n < PLACES → get_or (with_mark marks (option_map mark_index o)) n false ≡ (is_some (under nat_cmp n (option_map (λ m. (mark_index m, i)) o)) || is_some (first_from nat_cmp n (by_key mark_index t) from count))
mark_here t i from count marks None size marked n below = marked.each n below
mark_here t i from count marks (Some m) size marked n below = elim (cases_eq n (mark_index m)) [
  | inl here ↦
      ap (λ (k : ℕ). get_or (slice_set marks (mark_index m) true) k false) here
      ∙ get_or-set_same marks (mark_index m) true false (omega (arith, place_below m))
      ∙ sym (or_left (is_some (under nat_cmp n (Some (mark_index m, i)))) (is_some (first_from nat_cmp n (by_key mark_index t) from count)) (some_under n (mark_index m) i ∙ eq-eqb n (mark_index m) here))
  | inr other ↦
      get_or-set_other marks (mark_index m) n true false other
      ∙ marked.each n below
      ∙ ap (λ (b : Bool). b || is_some (first_from nat_cmp n (by_key mark_index t) from count)) (sym (some_under n (mark_index m) i ∙ ne_eqb n (mark_index m) other))
]

-- one more record before the others, whose place was not marked
pub marked_more : (t : Tables) (i j count : ℕ) (before after : List Bool) (answer : Bool) → j ≡ i + 1 → length before ≡ PLACES → IsMarked t j count before
    → MarksMore before (option_map mark_index (t.puddles i)) answer after → answer ≡ true → IsMarked t i (count + 1) after
unfolding first_from
marked_more t i j count before after answer next size marked more apart = record {
  each = λ n below.
      ap (λ (marks : List Bool). get_or marks n false) (more.marks apart)
      ∙ mark_here t i j count before (t.puddles i) size marked n below
      ∙ ap (λ (k : ℕ). is_some (under nat_cmp n (by_key mark_index t i)) || is_some (first_from nat_cmp n (by_key mark_index t) k count)) next
      ∙ sym (some_or (under nat_cmp n (by_key mark_index t i)) (first_from nat_cmp n (by_key mark_index t) (i + 1) count))
      ∙ ap (λ (k : ℕ). is_some (first_from nat_cmp n (by_key mark_index t) i k)) (sym (add-one count));
}

apart_more : (t : Tables) (i j count : ℕ) (before after : List Bool) (answer : Bool) → j ≡ i + 1 → IsMarked t j count before → MarksMore before (option_map mark_index (t.puddles i)) answer after
    → are_distinct nat_cmp (by_key mark_index t) i (count + 1) ≡ (answer && are_distinct nat_cmp (by_key mark_index t) j count)
unfolding are_distinct
apart_more t i j count before after answer next marked more =
    ap (are_distinct nat_cmp (by_key mark_index t) i) (add-one count)
    ∙ ap (λ (k : ℕ). is_apart nat_cmp (by_key mark_index t i) (by_key mark_index t) k count && are_distinct nat_cmp (by_key mark_index t) k count) (sym next)
    ∙ ap (λ (b : Bool). b && are_distinct nat_cmp (by_key mark_index t) j count) (apart_by_marks t i j count before (t.puddles i) marked ∙ sym more.apart)

pub distinct_more : (t : Tables) (i j count : ℕ) (before after : List Bool) (answer : Bool) → j ≡ i + 1 → IsMarked t j count before → MarksMore before (option_map mark_index (t.puddles i)) answer after
    → answer ≡ true → are_distinct nat_cmp (by_key mark_index t) j count ≡ true → are_distinct nat_cmp (by_key mark_index t) i (count + 1) ≡ true
distinct_more t i j count before after answer next marked more apart rest = apart_more t i j count before after answer next marked more ∙ and_from answer (are_distinct nat_cmp (by_key mark_index t) j count) apart rest

-- records that are not distinct are not distinct with more records before them either
not_with_more : (at : ℕ → Option (ℕ × ℕ)) (more from count : ℕ) → are_distinct nat_cmp at (from + more) count ≡ false → are_distinct nat_cmp at from (more + count) ≡ false
unfolding are_distinct
not_with_more at zero from count h = let a : from + 0 ≡ from = omega arith in let b : 0 + count ≡ count = omega arith in ap (are_distinct nat_cmp at from) b ∙ sym (ap (λ (k : ℕ). are_distinct nat_cmp at k count) a) ∙ h
not_with_more at (suc more) from count h =
    let a : (from + 1) + more ≡ from + suc more = omega arith in
    let b : suc more + count ≡ suc (more + count) = omega arith in
    ap (are_distinct nat_cmp at from) b
    ∙ and_right (is_apart nat_cmp (at from) at (from + 1) (more + count)) (are_distinct nat_cmp at (from + 1) (more + count)) (not_with_more at more (from + 1) count (ap (λ (k : ℕ). are_distinct nat_cmp at k count) a ∙ h))

pub not_distinct : (t : Tables) (end done : ℕ) (before after : List Bool) (answer : Bool) → done < end → IsMarked t (end - done) done before
    → MarksMore before (option_map mark_index (t.puddles (end - 1 - done))) answer after → answer ≡ false → are_distinct nat_cmp (by_key mark_index t) 0 end ≡ false
not_distinct t end done before after answer below marked more again =
    let i = end - 1 - done in
    let next : end - done ≡ i + 1 = omega arith in
    let all : i + (done + 1) ≡ end = omega arith in
    let from : 0 + i ≡ i = omega arith in
    let later = apart_more t i (end - done) done before after answer next marked more ∙ and_left answer (are_distinct nat_cmp (by_key mark_index t) (end - done) done) again in
    ap (are_distinct nat_cmp (by_key mark_index t) 0) (sym all)
    ∙ not_with_more (by_key mark_index t) i 0 (done + 1) (ap (λ (k : ℕ). are_distinct nat_cmp (by_key mark_index t) k (done + 1)) from ∙ later)

-- ---- the same at a loop's numbers

pub marked_step : (t : Tables) (end done : ℕ) (before after : List Bool) (answer : Bool) → done < end → length before ≡ PLACES → IsMarked t (end - done) done before
    → MarksMore before (option_map mark_index (t.puddles (end - 1 - done))) answer after → answer ≡ true → IsMarked t (end - (done + 1)) (done + 1) after
marked_step t end done before after answer below size marked more apart =
    let i = end - 1 - done in
    let next : end - done ≡ i + 1 = omega arith in
    let same : i ≡ end - (done + 1) = omega arith in
    subst (λ (k : ℕ). IsMarked t k (done + 1) after) same (marked_more t i (end - done) done before after answer next size marked more apart)

pub distinct_step : (t : Tables) (end done : ℕ) (before after : List Bool) (answer : Bool) → done < end → IsMarked t (end - done) done before
    → MarksMore before (option_map mark_index (t.puddles (end - 1 - done))) answer after → answer ≡ true → are_distinct nat_cmp (by_key mark_index t) (end - done) done ≡ true
    → are_distinct nat_cmp (by_key mark_index t) (end - (done + 1)) (done + 1) ≡ true
distinct_step t end done before after answer below marked more apart rest =
    let i = end - 1 - done in
    let next : end - done ≡ i + 1 = omega arith in
    let same : end - (done + 1) ≡ i = omega arith in
    ap (λ (k : ℕ). are_distinct nat_cmp (by_key mark_index t) k (done + 1)) same ∙ distinct_more t i (end - done) done before after answer next marked more apart rest

pub are_marked : (F : ℕ) (image : Image) (done : ℕ) (marks : List Bool) → F ≤ done → done ≤ F → are_distinct nat_cmp (by_key mark_index (tables_of F image)) (F - done) done ≡ true
    → IsMarked (tables_of F image) (F - done) done marks → AreMarked (tables_of F image) (Some marks)
unfolding tables_of
are_marked F image done marks low high apart marked =
    let from : F - done ≡ 0 = omega arith in
    let count : done ≡ F = omega arith in (
      sym (ap₂ (are_distinct nat_cmp (by_key mark_index (tables_of F image))) from count) ∙ apart,
      subst (λ (n : ℕ). IsMarked (tables_of F image) 0 n marks) count (subst (λ (k : ℕ). IsMarked (tables_of F image) k done marks) from marked),
    )

pub not_marked : (F : ℕ) (image : Image) → are_distinct nat_cmp (by_key mark_index (tables_of F image)) 0 F ≡ false → AreMarked (tables_of F image) None
unfolding tables_of
not_marked F image same = same

pub decided : (number : Member → ℕ) (F : ℕ) (image : Image) (answer : Bool) (xs : List ℕ) (done : ℕ) → F ≤ done → done ≤ F
    → xs ≡ numbers_from (λ frame. option_map number ((tables_of F image).puddles frame)) (F - done) done → ((answer ≡ true) ↔ IsDistinct eqb xs) → answer ≡ has_distinct_numbers number (tables_of F image)
unfolding tables_of
decided number F image answer xs done low high are decides =
    decided_by_list (tables_of F image).puddles number answer F
    (subst (λ (ns : List ℕ). (answer ≡ true) ↔ IsDistinct eqb ns) (are ∙ all_numbers (λ frame. option_map number ((tables_of F image).puddles frame)) F done low high) decides)

-- ---- the marks of one pool

follows : (marks : List Bool) (slot k a b : ℕ) (answer : Bool) → a ≡ (slot + 1) * 16 + k → b ≡ (slot + 1) * 16 + (k + 1) → answer ≡ (get_or marks a false || not (get_or marks b false))
    → answer ≡ (is_marked_at marks slot k || not (is_marked_at marks slot (k + 1)))
follows marks slot k a b answer here next is = is ∙ ap₂ (λ (i j : ℕ). get_or marks i false || not (get_or marks j false)) here next

pub counts_stop : (marks : List Bool) (slot k a b : ℕ) (answer : Bool) → k < 15 → a ≡ (slot + 1) * 16 + k → b ≡ (slot + 1) * 16 + (k + 1) → answer ≡ (get_or marks a false || not (get_or marks b false))
    → answer ≡ false → false ≡ counts_up (is_marked_at marks slot)
counts_stop marks slot k a b answer below here next is stops =
    sym (and_left (all_below 15 (λ j. is_marked_at marks slot j || not (is_marked_at marks slot (j + 1)))) (is_marked_at marks slot 0)
    (all_below-fails 15 k (λ j. is_marked_at marks slot j || not (is_marked_at marks slot (j + 1))) below (sym (follows marks slot k a b answer here next is) ∙ stops)))

pub counts_more : (marks : List Bool) (slot k a b : ℕ) (answer : Bool) → a ≡ (slot + 1) * 16 + k → b ≡ (slot + 1) * 16 + (k + 1) → answer ≡ (get_or marks a false || not (get_or marks b false)) → answer ≡ true
    → all_below k (λ j. is_marked_at marks slot j || not (is_marked_at marks slot (j + 1))) ≡ true → all_below (k + 1) (λ j. is_marked_at marks slot j || not (is_marked_at marks slot (j + 1))) ≡ true
counts_more marks slot k a b answer here next is goes before =
    all_below-more k (λ j. is_marked_at marks slot j || not (is_marked_at marks slot (j + 1))) before (sym (follows marks slot k a b answer here next is) ∙ goes)

-- ---- legal records

module _ (F : ℕ) (image : Image) (next : ℕ) (legal : has_legal_puddles next (tables_of F image) ≡ true) where
  small : (j : ℕ) (m : Member) → (tables_of F image).puddles j ≡ Some m → IsSmall m
  small = small_in_tables F image next legal

  old_base_told : (j : ℕ) (m : Member) → (tables_of F image).puddles j ≡ Some m → IsTold {X = ℕ} (tables_of F image).puddles (λ m. m.puddle.old_base) (key_of OldBase) (λ j m. j) m
  old_base_told j m is =
      let s = small j m is in
      let low = s.low in
      let high = s.high in
      let own = s.old_base in
      record {
        low = low;
        high = high;
        same = λ k other there.
            let o = small k other there in
            let most = o.high in
            let its = o.old_base in
            told_by_bases m.pool other.pool m.puddle.old_base other.puddle.old_base (omega arith) (omega arith) own its;
      }

  ordinal_told : (j : ℕ) (m : Member) → (tables_of F image).puddles j ≡ Some m → IsTold {X = ℕ × Puddle} (tables_of F image).puddles (λ m. m.ordinal) mark_index (λ j m. (j, m.puddle)) m
  ordinal_told j m is =
      let s = small j m is in
      let low = s.low in
      let high = s.high in
      let own = s.ordinal in
      record {
        low = low;
        high = high;
        same = λ k other there.
            let o = small k other there in
            let most = o.high in
            let its = o.ordinal in
            told_by_places m.pool other.pool m.ordinal other.ordinal (omega arith) (omega arith) own its;
      }

  pub old_bases_by_numbers : has_distinct_numbers (key_of OldBase) (tables_of F image) ≡ has_distinct_old_bases (tables_of F image)
  old_bases_by_numbers = sym (distinct_old_bases (tables_of F image) (key_of OldBase) old_base_told)

  pub ordinals_by_places : has_distinct_numbers mark_index (tables_of F image) ≡ has_distinct_ordinals (tables_of F image)
  ordinals_by_places = sym (distinct_ordinals (tables_of F image) mark_index ordinal_told)

  -- the marks of a pool are those of its ordinals
  marks_of_pool : (marks : List Bool) (slot : ℕ) → slot < POOL_RECORDS → IsMarked (tables_of F image) 0 (tables_of F image).frames marks
      → AreKeys (is_marked_at marks slot) (λ k. is_some (first_from nat_cmp k (members (tables_of F image) slot) 0 (tables_of F image).frames))
  marks_of_pool marks slot below marked = record {
    same = λ k low.
        let p = (slot + 1) * MAX_PUDDLES + k in
        let place : joined_key 16 (slot + 1) k ≡ p = omega arith in
        let inside : p < PLACES = omega arith in
        found_ordinal (tables_of F image) mark_index slot k p
        (record { same = λ j m is. let s = small j m is in let most = s.high in let its = s.ordinal in told_by_places (slot + 1) m.pool k m.ordinal (omega arith) (omega arith) low its ∙ ap (λ (n : ℕ). eqb n (mark_index m)) place })
        ∙ sym (marked.each p inside);
    none = λ k high. first_from-nowhere k (members (tables_of F image) slot) 0 (tables_of F image).frames (λ j. not_member k high j ((tables_of F image).puddles j) refl);
  } where
    not_member : (k : ℕ) → 16 ≤ k → (j : ℕ) (o : Option Member) → (tables_of F image).puddles j ≡ o → is_some (under nat_cmp k (member_of slot j o)) ≡ false
    not_member k high j None is = refl
    not_member k high j (Some m) is = let whose : ℕ × Puddle = (j, m.puddle) in elim (eqb m.pool (slot + 1)) as (λ b. is_some (under nat_cmp k (cond b (Some (m.ordinal, whose)) None)) ≡ false) [
      | true ↦ let s = small j m is in let its = s.ordinal in some_under k m.ordinal whose ∙ ne_eqb k m.ordinal (λ e. absurd (omega arith))
      | false ↦ refl
    ]

  pub counted_by_places : (marks : List Bool) → IsMarked (tables_of F image) 0 (tables_of F image).frames marks → all_below POOL_RECORDS (is_counted_by marks (tables_of F image)) ≡ has_counted_puddles (tables_of F image)
  unfolding has_counted_puddles
  counted_by_places marks marked =
      all_below-same POOL_RECORDS (is_counted_by marks (tables_of F image)) (λ slot. is_none ((tables_of F image).pools slot) || are_counted (puddles_of (tables_of F image) slot))
      (λ slot below. ap (λ (b : Bool). is_none ((tables_of F image).pools slot) || b) (sym (counted_by_marks (tables_of F image) slot (is_marked_at marks slot) (marks_of_pool marks slot below marked))))

pub bases_by_numbers : (t : Tables) → has_distinct_numbers (key_of Base) t ≡ has_distinct_bases t
unfolding has_distinct_bases
bases_by_numbers t = refl

pub in_groups : (a b c d : Bool) → (a && b && (c && d)) ≡ (a && b && c && d)
in_groups a b c d = elim (a && b) as (λ x. (x && (c && d)) ≡ (x && c && d)) [ true ↦ refl | false ↦ refl ]
