-- Lemmas: the rows follow the words at each step.
use Rattle.std.proofs.Common.{◌≡◌, inl, inr, ℕ, ◌/◌, ◌<◌, Bool, true, false, cond, eqb, List, [], length, set, get_or, refl, sym, ap, subst, ◌∙◌, get_or-set_same, get_or-set_other, arith}
use Rattle.std.proofs.lemmas.Bool.{cases_eq}
use Rattle.std.proofs.lemmas.Bool.Decides.{nat_tests}
use Rattle.std.proofs.lemmas.List.{append-nil}
use Rattle.pm_model.specs.Words.{Cell, last_or, durable, single, stored, marked, Words, Image, after_store, after_flush, after_fence, after_loss}
use Rattle.pm_model.specs.Moments.{State}
use Rattle.pm_mem.specs.declared.event.Event.{Event}
use Rattle.pm_model.specs.Picking.{keeps_newest}
use Rattle.pm_mem.specs.Events.{image_picked, words_of_list, fresh_state, told_events}
use Rattle.pm_mem.proofs.Events.{told_events-none}
use Rattle.pm_mem.specs.Rows.{marked_value, AreOf, AreSingle}
use Rattle.pm_rows.specs.Rows.{TakesLine, AreSame, Loses}

pub get_or-set : (row : List ℕ) (w v k : ℕ) → w < length row → get_or (set row w v) k 0 ≡ cond (eqb k w) v (get_or row k 0)
get_or-set row w v k within = elim (cases_eq k w) [
  | inl same ↦ let here : get_or (set row w v) k 0 ≡ v = rw same (get_or-set_same row w v 0 within) in grind (arith, nat_tests)
  | inr other ↦ let there : get_or (set row w v) k 0 ≡ get_or row k 0 = get_or-set_other row w k v 0 other in grind (arith, nat_tests)
]

-- A function of a choice of two is the choice of its two results.
pub at_choice : {X Y : Type 0} (f : X → Y) (b : Bool) (x y : X) → f (cond b x y) ≡ cond b (f x) (f y)
at_choice f true x y = refl
at_choice f false x y = refl

same_choice : {X : Type 0} (b : Bool) (x : X) → cond b x x ≡ x
same_choice true x = refl
same_choice false x = refl

pub AreOf-store : (newest marks durables : List ℕ) (words : Words) (w v : ℕ) → w < length newest → AreOf newest marks durables words → AreOf (set newest w v) marks durables (after_store w v words)
AreOf-store newest marks durables words w v within rows = record {
  newest = λ k. get_or-set newest w v k within ∙ ap (cond (eqb k w) v) (rows.newest k) ∙ sym (at_choice (λ (c : Cell). c.newest) (eqb k w) (stored v (words k)) (words k));
  marked = λ k. rows.marked k ∙ sym (at_choice marked_value (eqb k w) (stored v (words k)) (words k) ∙ same_choice (eqb k w) (marked_value (words k)));
  durables = λ k. rows.durables k ∙ sym (at_choice durable (eqb k w) (stored v (words k)) (words k) ∙ same_choice (eqb k w) (durable (words k)));
}

pub AreOf-flush : (newest marks new_marks durables : List ℕ) (words : Words) (line : ℕ) → TakesLine line newest marks new_marks
    → AreOf newest marks durables words → AreOf newest new_marks durables (after_flush line words)
AreOf-flush newest marks new_marks durables words line is rows = record {
  newest = λ k. rows.newest k ∙ sym (at_choice (λ (c : Cell). c.newest) (eqb (k / 8) line) (marked (words k)) (words k) ∙ same_choice (eqb (k / 8) line) ((words k).newest));
  marked = λ k. is.each k ∙ ap (λ (x : ℕ). cond (eqb (k / 8) line) x (get_or marks k 0)) (rows.newest k) ∙ ap (λ (x : ℕ). cond (eqb (k / 8) line) ((words k).newest) x) (rows.marked k)
      ∙ sym (at_choice marked_value (eqb (k / 8) line) (marked (words k)) (words k));
  durables = λ k. rows.durables k ∙ sym (at_choice durable (eqb (k / 8) line) (marked (words k)) (words k) ∙ same_choice (eqb (k / 8) line) (durable (words k)));
}

pub AreOf-fence : (newest marks durables new_durables : List ℕ) (words : Words) → AreSame new_durables marks → AreOf newest marks durables words → AreOf newest marks new_durables (after_fence words)
AreOf-fence newest marks durables new_durables words same rows = record {
  newest = rows.newest;
  marked = rows.marked;
  durables = λ k. same.each k ∙ rows.marked k ∙ sym (ap (last_or (words k).newest) (append-nil (words k).kept));
}

lost_values : (newest left marks durables : List ℕ) (words : Words) (pick : ℕ) → Loses pick durables newest left
    → AreOf newest marks durables words → (k : ℕ) → get_or left k 0 ≡ image_picked pick words k
lost_values newest left marks durables words pick is rows k =
    is.each k ∙ ap (λ (x : ℕ). cond (keeps_newest pick k) x (get_or durables k 0)) (rows.newest k) ∙ ap (λ (x : ℕ). cond (keeps_newest pick k) ((words k).newest) x) (rows.durables k)

pub AreOf-lost : (newest marks durables new_newest new_marks new_durables : List ℕ) (words : Words) (pick : ℕ)
    → Loses pick durables newest new_newest → Loses pick durables newest new_marks → AreSame new_durables new_marks
    → AreOf newest marks durables words → AreOf new_newest new_marks new_durables (after_loss (image_picked pick words) words)
AreOf-lost newest marks durables new_newest new_marks new_durables words pick newest_is marks_is same rows = record {
  newest = lost_values newest new_newest marks durables words pick newest_is rows;
  marked = lost_values newest new_marks marks durables words pick marks_is rows;
  durables = λ k. same.each k ∙ lost_values newest new_marks marks durables words pick marks_is rows k;
}

pub AreSingle-lost : (image : Image) (words : Words) → AreSingle (after_loss image words)
AreSingle-lost image words = record { each = λ k. refl }

pub AreOf-start : (initial newest marks durables : List ℕ) (events : List Event) → events ≡ []
    → ((k : ℕ) → get_or initial k 0 ≡ 0) → ((k : ℕ) → get_or durables k 0 ≡ 0) → newest ≡ durables → marks ≡ durables
    → AreOf newest marks durables (told_events initial events).now.words
AreOf-start initial newest marks durables events none i d n m =
    let start : AreOf durables durables durables (words_of_list initial) = record { newest = λ k. d k ∙ sym (i k); marked = λ k. d k ∙ sym (i k); durables = λ k. d k ∙ sym (i k) } in
    let told : AreOf durables durables durables (told_events initial events).now.words = subst (λ (s : State). AreOf durables durables durables s.now.words) (sym (ap (told_events initial) none ∙ told_events-none initial)) start in
    subst (λ (row : List ℕ). AreOf row marks durables (told_events initial events).now.words) (sym n)
    (subst (λ (row : List ℕ). AreOf durables row durables (told_events initial events).now.words) (sym m) told)

pub AreSingle-start : (initial : List ℕ) (events : List Event) → events ≡ [] → AreSingle (told_events initial events).now.words
AreSingle-start initial events none =
    subst (λ (s : State). AreSingle s.now.words) (sym (ap (told_events initial) none ∙ told_events-none initial)) (record { each = λ k. refl })

pub said-start : (initial : List ℕ) (events : List Event) → events ≡ [] → (told_events initial events).now.said ≡ []
said-start initial events none = ap (λ (s : State). s.now.said) (ap (told_events initial) none ∙ told_events-none initial)

pub fresh_state-start : (initial : List ℕ) (events : List Event) → events ≡ [] → ((k : ℕ) → get_or initial k 0 ≡ 0) → told_events initial events ≡ fresh_state []
fresh_state-start initial events none zero =
    let same : words_of_list initial ≡ (λ k. single 0) = λ i k. (ap single (zero k)) i in
    ap (told_events initial) none ∙ told_events-none initial ∙ ap (λ (words : Words). record (fresh_state []) { now = record { said = []; words = words } }) same
