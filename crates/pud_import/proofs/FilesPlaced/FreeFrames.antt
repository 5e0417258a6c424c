-- Free frames that are found one after the other: how many are free.
use Rattle.std.proofs.Common.{◌≡◌, ℕ, zero, suc, ◌+◌, ◌-◌, ◌<◌, ◌≤◌, true, false, ltb, Option, Some, None, is_none, refl, sym, ap, ◌∙◌, arith}
use Rattle.std.proofs.lemmas.Bool.{cond-true, cond-false, lt-ltb, le-ltb}
use Rattle.pud_defs.specs.RegistryTables.Keyed.{first_free, count_used}
use Rattle.pud_defs.specs.RegistryTables.Puddles.{Member}
use Rattle.pud_defs.proofs.KeyedTables.Keyed.{first_free_some, count_used_step, count_used_full, count_used_most}

module _ (at : ℕ → Option Member) (F : ℕ) where
  used_up_to : (from i n : ℕ) → n ≡ i - from → from ≤ i → i ≤ F → ((j : ℕ) → from ≤ j → j < i → is_none (at j) ≡ false) → count_used at from (F - from) ≡ n + count_used at i (F - i)
  used_up_to from i zero is low high used = let e : from ≡ i = omega arith in ap (λ k. count_used at k (F - k)) e ∙ sym (zero_plus (count_used at i (F - i)))
    where
      zero_plus : (m : ℕ) → 0 + m ≡ m
      zero_plus m = omega arith
  used_up_to from i (suc n) is low high used =
      let rest = used_up_to (from + 1) i n (omega arith) (omega arith) high (λ j l h. used j (omega arith) h) in
      let step = count_used_step at from F (omega arith) ∙ cond-false (is_none (at from)) (count_used at (from + 1) (F - (from + 1))) (count_used at (from + 1) (F - (from + 1)) + 1) (used from (omega arith) (omega arith)) in
      omega (arith, rest, step)

  free_step : (i : ℕ) → i < F → at i ≡ None → count_used at i (F - i) ≡ count_used at (i + 1) (F - (i + 1))
  free_step i below free = count_used_step at i F below ∙ cond-true (is_none (at i)) _ _ (ap is_none free)

  -- `found` free frames were found before frame `from`. All used frames and the frames found are together as many as
  -- the used frames from `from` on and all frames before it.
  pub record HasCounted (found from : ℕ) : Type 0 where
    pub within : from ≤ F
    pub counts : count_used at 0 F + found ≡ count_used at from (F - from) + from

  pub counted_none : HasCounted 0 0
  counted_none = record { within = omega arith; counts = let e : F - 0 ≡ F = omega arith in ap (λ n. count_used at 0 n + 0) (sym e) }

  pub counted_more : (found from frame : ℕ) → HasCounted found from → first_free at from (F - from) ≡ Some frame → HasCounted (found + 1) (frame + 1)
  counted_more found from frame h is =
      let lowest = first_free_some at from (F - from) frame is in
      let low = lowest.low in
      let high = lowest.high in
      let within = h.within in
      let counts = h.counts in
      let before = used_up_to from frame (frame - from) refl low (omega arith) lowest.used in
      let here = free_step frame (omega arith) lowest.free in
      record { within = omega arith; counts = omega (arith, before, here, counts) }

  -- too few frames are free if none is left
  pub counted_end : (found from count : ℕ) → found < count → HasCounted found from → first_free at from (F - from) ≡ None → ltb F (count_used at 0 F + count) ≡ true
  counted_end found from count few h none =
      let full = count_used_full at from (F - from) none in
      let within = h.within in
      let counts = h.counts in
      lt-ltb F (count_used at 0 F + count) (omega (arith, full, counts))

  -- enough frames are free if that many were found
  pub counted_all : (found from count : ℕ) → count ≤ found → HasCounted found from → ltb F (count_used at 0 F + count) ≡ false
  counted_all found from count all h =
      let most = count_used_most at from (F - from) in
      let within = h.within in
      let counts = h.counts in
      le-ltb F (count_used at 0 F + count) (omega (arith, most, counts))
