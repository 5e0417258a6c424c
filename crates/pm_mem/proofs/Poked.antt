-- Lemmas: a word that is given one value reads as if it had always had it.
use Rattle.std.proofs.Common.{◌≡◌, ◌≢◌, inl, inr, ℕ, ◌+◌, ◌/◌, ◌<◌, Bool, true, false, cond, eqb, List, [], ◌∷◌, ◌++◌, map, length, take, drop, set, get_or, refl, sym, ap, ◌∙◌, arith, append_assoc, length-take}
use Rattle.std.proofs.lemmas.Bool.{cases_eq}
use Rattle.std.proofs.lemmas.Bool.Decides.{nat_tests}
use Rattle.std.proofs.lemmas.List.{length-map, set_at, get_or_at, drop_more, take_more, map-append}
use Rattle.pm_model.specs.Words.{Cell, durable, single, stored, marked, fenced, Words, after_store, after_flush, after_fence, after_loss}
use Rattle.pm_model.specs.Moments.{State, stepped}
use Rattle.pm_mem.specs.declared.event.Event.{Event}
use Rattle.pm_mem.specs.declared.event.Event.TheVariants.{Store, Flush, Fence, Lost, Said, Blank}
use Rattle.pm_model.specs.Picking.{keeps_newest}
use Rattle.pm_mem.specs.Events.{image_picked, words_of_list, no_change, after_event, after_events, start, told_events, blanked, with_value, always}
use Rattle.pm_mem.specs.Rows.{marked_value, AreOf, AreSingle}
use Rattle.pm_mem.proofs.Followed.{get_or-set, at_choice}

-- One more event is blanked.
pub blanks_more : (f : Event → Event) (xs ys : List Event) (i : ℕ) (x : Event) → i < length xs → ys ≡ map f (take i xs) ++ drop i xs → x ≡ get_or ys i x
    → set ys i (f x) ≡ map f (take (i + 1) xs) ++ drop (i + 1) xs
blanks_more f xs ys i x within is read =
    let p = map f (take i xs) in
    let g = get_or xs i x in
    let size : length p ≡ i = omega (arith, length-map (take i xs) f, length-take i xs) in
    let split : ys ≡ p ++ g ∷ drop (i + 1) xs = is ∙ ap (λ (l : List Event). p ++ l) (drop_more xs i x within) in
    let same : x ≡ g = read ∙ ap (λ (l : List Event). get_or l i x) split ∙ get_or_at p g (drop (i + 1) xs) x i size in
    let front : map f (take (i + 1) xs) ≡ p ++ f g ∷ [] = ap (map f) (take_more xs i x within) ∙ map-append f (take i xs) (g ∷ []) in
    ap (λ (l : List Event). set l i (f x)) split ∙ set_at p g (drop (i + 1) xs) (f x) i size
    ∙ ap (λ (e : Event). p ++ f e ∷ drop (i + 1) xs) same
    ∙ sym (ap (λ (l : List Event). l ++ drop (i + 1) xs) front ∙ append_assoc p (f g ∷ []) (drop (i + 1) xs))

-- A step does f to the words if word w always had the value v, and else g.
stepped_always : (f g : Words → Words) (w v : ℕ) (s : State) → f (with_value w v s.now.words) ≡ with_value w v (g s.now.words) → stepped f (always w v s) ≡ always w v (stepped g s)
stepped_always f g w v s same = ap (λ (words : Words). stepped (λ (old : Words). words) (always w v s)) same

flush_choice : (b a : Bool) (v : ℕ) (c : Cell) → cond b (marked (cond a (single v) c)) (cond a (single v) c) ≡ cond a (single v) (cond b (marked c) c)
flush_choice true true v c = refl
flush_choice true false v c = refl
flush_choice false true v c = refl
flush_choice false false v c = refl

fence_choice : (a : Bool) (v : ℕ) (c : Cell) → fenced (cond a (single v) c) ≡ cond a (single v) (fenced c)
fence_choice true v c = refl
fence_choice false v c = refl

loss_choice : (b a : Bool) (v : ℕ) (c : Cell) → single (cond b (cond a (single v) c).newest (durable (cond a (single v) c))) ≡ cond a (single v) (single (cond b c.newest (durable c)))
loss_choice true true v c = refl
loss_choice true false v c = refl
loss_choice false true v c = refl
loss_choice false false v c = refl

store_hidden : (w v x : ℕ) (words : Words) (k : ℕ) → cond (eqb k w) (single v) (words k) ≡ cond (eqb k w) (single v) (cond (eqb k w) (stored x (words k)) (words k))
store_hidden w v x words k = elim (eqb k w) as (λ b. cond b (single v) (words k) ≡ cond b (single v) (cond b (stored x (words k)) (words k))) [ true ↦ refl | false ↦ refl ]

store_beside : (w word v x : ℕ) (words : Words) → word ≢ w → (k : ℕ)
    → cond (eqb k word) (stored x (cond (eqb k w) (single v) (words k))) (cond (eqb k w) (single v) (words k)) ≡ cond (eqb k w) (single v) (cond (eqb k word) (stored x (words k)) (words k))
store_beside w word v x words other k = elim (cases_eq k w) [
  | inl here ↦ let a : eqb k w ≡ true = grind (arith, nat_tests) in let b : eqb k word ≡ false = grind (arith, nat_tests) in
      rw (a, b)
  | inr there ↦ let a : eqb k w ≡ false = grind (arith, nat_tests) in rw a
]

pub after_event-blanked : (w v : ℕ) (event : Event) (s : State) → after_event (blanked w event) (always w v s) ≡ always w v (after_event event s)
after_event-blanked w v (Store word x) s = elim (cases_eq word w) [
  | inl same ↦ let a : eqb word w ≡ true = grind (arith, nat_tests) in
      ap (λ (b : Bool). after_event (cond b Blank (Store word x)) (always w v s)) a
      ∙ stepped_always no_change (after_store w x) w v s (λ i k. (store_hidden w v x s.now.words k) i)
      ∙ ap (λ (n : ℕ). always w v (stepped (after_store n x) s)) (sym same)
  | inr other ↦ let a : eqb word w ≡ false = grind (arith, nat_tests) in
      ap (λ (b : Bool). after_event (cond b Blank (Store word x)) (always w v s)) a
      ∙ stepped_always (after_store word x) (after_store word x) w v s (λ i k. (store_beside w word v x s.now.words other k) i)
]
after_event-blanked w v (Flush line) s = stepped_always (after_flush line) (after_flush line) w v s (λ i k. (flush_choice (eqb (k / 8) line) (eqb k w) v (s.now.words k)) i)
after_event-blanked w v Fence s = stepped_always after_fence after_fence w v s (λ i k. (fence_choice (eqb k w) v (s.now.words k)) i)
after_event-blanked w v (Lost pick) s =
    stepped_always (after_loss (image_picked pick (with_value w v s.now.words))) (after_loss (image_picked pick s.now.words)) w v s
    (λ i k. (loss_choice (keeps_newest pick k) (eqb k w) v (s.now.words k)) i)
after_event-blanked w v (Said byte) s = refl
after_event-blanked w v Blank s = refl

pub after_events-blanked : (w v : ℕ) (events : List Event) (s : State) → after_events (map (blanked w) events) (always w v s) ≡ always w v (after_events events s)
unfolding after_events
after_events-blanked w v [] s = refl
after_events-blanked w v (e ∷ events) s = ap (after_events (map (blanked w) events)) (after_event-blanked w v e s) ∙ after_events-blanked w v events (after_event e s)

start-set : (initial : List ℕ) (w v : ℕ) → w < length initial → start (set initial w v) ≡ always w v (start initial)
start-set initial w v within =
    let each : (k : ℕ) → words_of_list (set initial w v) k ≡ with_value w v (words_of_list initial) k =
    λ k. ap single (get_or-set initial w v k within) ∙ at_choice single (eqb k w) v (get_or initial k 0) in
    let same : words_of_list (set initial w v) ≡ with_value w v (words_of_list initial) = λ i k. (each k) i in
    ap (λ (words : Words). record (start initial) { now = record { said = []; words = words } }) same

pub told_events-blanked : (initial : List ℕ) (events new : List Event) (w v : ℕ) → w < length initial → new ≡ map (blanked w) events
    → told_events (set initial w v) new ≡ always w v (told_events initial events)
unfolding told_events
told_events-blanked initial events new w v within is =
    ap (told_events (set initial w v)) is ∙ ap (after_events (map (blanked w) events)) (start-set initial w v within) ∙ after_events-blanked w v events (start initial)

pub AreOf-poked : (newest marks durables : List ℕ) (words : Words) (w v : ℕ) → w < length newest → w < length marks → w < length durables
    → AreOf newest marks durables words → AreOf (set newest w v) (set marks w v) (set durables w v) (with_value w v words)
AreOf-poked newest marks durables words w v n m d rows = record {
  newest = λ k. get_or-set newest w v k n ∙ ap (cond (eqb k w) v) (rows.newest k) ∙ sym (at_choice (λ (c : Cell). c.newest) (eqb k w) (single v) (words k));
  marked = λ k. get_or-set marks w v k m ∙ ap (cond (eqb k w) v) (rows.marked k) ∙ sym (at_choice marked_value (eqb k w) (single v) (words k));
  durables = λ k. get_or-set durables w v k d ∙ ap (cond (eqb k w) v) (rows.durables k) ∙ sym (at_choice durable (eqb k w) (single v) (words k));
}

single_choice : (b : Bool) (v : ℕ) (c : Cell) → c ≡ single c.newest → cond b (single v) c ≡ single (cond b (single v) c).newest
single_choice true v c is = refl
single_choice false v c is = is

pub AreSingle-poked : (words : Words) (w v : ℕ) → AreSingle words → AreSingle (with_value w v words)
AreSingle-poked words w v h = record { each = λ k. single_choice (eqb k w) v (words k) (h.each k) }
