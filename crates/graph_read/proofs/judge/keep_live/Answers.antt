use Rattle.std.proofs.Common.{◌≡◌, ◌≢◌, ℕ, ◌+◌, ◌-◌, ◌≤◌, ◌<◌, List, [], ◌∷◌, ◌++◌, length, length-set, get_or, take, slice_index, refl, sym, ap, ap₂, ◌∙◌, arith}
use Rattle.std.proofs.lemmas.Bool.{eqb-true, eqb-false, not-true, not-false}
use Rattle.std.proofs.lemmas.List.{append-nil, append_assoc, take_more_set, get_or-set_other}
use Rattle.pud_defs.specs.Formats.Geometry.{class_slots, places_among}
use Rattle.puddle_header.specs.Places.{places_in}
use Rattle.graph_read.specs.LiveSerials.{live_serials}
use Rattle.graph_read.specs.Reading.{class_in}
use Rattle.graph_read.proofs.LiveSerials.{live_serials-free, live_serials-used, live_serials-end}
use Rattle.graph_read.proofs.Slots.{to_next_puddle}
use Rattle.graph_read.proofs.judge.keep_live.Goals.{then-is_live, else-is_live}
use Rattle.graph_read.proofs.judge.keep_live.Goals as goal

pub loop-ordinal-init : goal.loop-ordinal-init
loop-ordinal-init c = record {
  most = omega arith;
  whole = c.told-serials;
  ahead = λ k low. refl;
  kept = ap (live_serials (slice_index c.args.serials.now) 0) (let all : places_in c.args.pool.now - 0 ≡ places_in c.args.pool.now = omega arith in all);
}

pub loop-place-init : goal.loop-place-init
loop-place-init c =
    let first = c.places_among-place.ensures in
    let most = c.loop-ordinal.invariant.most in
    let f = slice_index c.args.serials.now in
    record {
      most = omega (arith, first, most);
      whole = c.loop-ordinal.invariant.whole;
      ahead = λ k low. c.loop-ordinal.invariant.ahead k (omega (arith, first, low));
      kept = ap (λ (n : ℕ). take c.loop-ordinal.live c.loop-ordinal.serials ++ live_serials f n (places_in c.args.pool.now - n)) first ∙ c.loop-ordinal.invariant.kept;
    }

pub bounds-serials-live : goal.bounds-serials-live
bounds-serials-live c = let most = c.loop-place.invariant.most in omega (arith, most)

pub overflow_add-live : goal.overflow_add-live
overflow_add-live c = let most = c.loop-place.invariant.most in omega (arith, most)

pub loop-place-preserved : goal.loop-place-preserved
loop-place-preserved c =
    let f = slice_index c.args.serials.now in
    let p = c.loop-place.place in
    let n = places_in c.args.pool.now in
    let live = c.loop-place.live in
    let xs = c.loop-place.serials in
    let before = c.loop-place.invariant in
    let most = before.most in
    let whole = before.whole in
    let within : p < n = omega arith in
    let here : get_or xs p 0 ≡ f p = before.ahead p (omega arith) in
    elim c.if-is_live.branch [
      | then-is_live w ↦
          let some : f p ≢ 0 = λ free. eqb-false _ 0 (not-true _ (sym c.is_live.ensures ∙ w.if-is_live.true)) (here ∙ free) in
          let counted = w.live-is in
          let room : live < length xs = omega (arith, most, whole, within) in
          record {
            most = omega (arith, counted, most);
            whole = ap length w.serials-is ∙ length-set xs live (get_or xs p 0) ∙ whole;
            ahead = λ k low. ap (λ (ys : List ℕ). get_or ys k 0) w.serials-is ∙ get_or-set_other xs live k (get_or xs p 0) 0 (λ same. absurd (omega (arith, same, low, most))) ∙ before.ahead k (omega (arith, low));
            kept =
                ap₂ (λ (m : ℕ) (ys : List ℕ). take m ys ++ live_serials f (p + 1) (n - (p + 1))) counted w.serials-is
                ∙ ap (λ (ys : List ℕ). ys ++ live_serials f (p + 1) (n - (p + 1))) (take_more_set xs live (get_or xs p 0) room)
                ∙ append_assoc (take live xs) (get_or xs p 0 ∷ []) (live_serials f (p + 1) (n - (p + 1)))
                ∙ ap (λ (v : ℕ). take live xs ++ (v ∷ live_serials f (p + 1) (n - (p + 1)))) here
                ∙ ap (λ (ys : List ℕ). take live xs ++ ys) (sym (live_serials-used f p n within some))
                ∙ before.kept;
          }
      | else-is_live w ↦
          let free : f p ≡ 0 = sym here ∙ eqb-true _ 0 (not-false _ (sym c.is_live.ensures ∙ w.if-is_live.false)) in
          let counted = w.live-is in
          record {
            most = omega (arith, counted, most);
            whole = ap length w.serials-is ∙ whole;
            ahead = λ k low. ap (λ (ys : List ℕ). get_or ys k 0) w.serials-is ∙ before.ahead k (omega (arith, low));
            kept =
                ap₂ (λ (m : ℕ) (ys : List ℕ). take m ys ++ live_serials f (p + 1) (n - (p + 1))) counted w.serials-is
                ∙ ap (λ (ys : List ℕ). take live xs ++ ys) (sym (live_serials-free f p n within free))
                ∙ before.kept;
          }
    ]

pub loop-ordinal-preserved : goal.loop-ordinal-preserved
loop-ordinal-preserved c =
    let first = c.places_among-place.ensures in
    let end = c.slots_end-place-end.ensures.end in
    let stop = c.loop-place.auto.place-end (omega (arith, first, end)) in
    let done = c.loop-place-test.false in
    let is : c.loop-place.place ≡ places_among c.loop-ordinal.ordinal + class_slots (class_in c.args.pool.now c.loop-ordinal.ordinal) = omega (arith, first, end, stop, done) in
    let within = c.loop-ordinal-test.true in
    let f = slice_index c.args.serials.now in
    let n = places_in c.args.pool.now in
    let most = c.loop-place.invariant.most in
    let next : c.loop-place.place ≤ places_among (c.loop-ordinal.ordinal + 1) = omega (arith, stop, c.slots_end-place-end.ensures.most) in
    record {
      most = omega (arith, most, next);
      whole = c.loop-place.invariant.whole;
      ahead = λ k low. c.loop-place.invariant.ahead k (omega (arith, low, next));
      kept = to_next_puddle (λ k. take c.loop-place.live c.loop-place.serials ++ live_serials f k (n - k) ≡ live_serials f 0 n) c.args.pool.now c.loop-ordinal.ordinal c.loop-place.place is
          (λ k below none so_far. ap (λ (ys : List ℕ). take c.loop-place.live c.loop-place.serials ++ ys) (sym (live_serials-free f k n (omega (arith, below, within)) (c.requires.slots.none k none))) ∙ so_far)
          c.loop-place.invariant.kept;
    }

pub returns-clause-live : goal.returns-clause-live
returns-clause-live c =
    let f = slice_index c.args.serials.now in
    let n = places_in c.args.pool.now in
    let none = live_serials-end f (places_among c.loop-ordinal.ordinal) n (omega arith) in
    sym (append-nil (take c.loop-ordinal.live c.loop-ordinal.serials)) ∙ ap (λ (ys : List ℕ). take c.loop-ordinal.live c.loop-ordinal.serials ++ ys) (sym none) ∙ c.loop-ordinal.invariant.kept

pub returns-clause-most : goal.returns-clause-most
returns-clause-most c = let most = c.loop-ordinal.invariant.most in omega (arith, most)
