-- The first two words are set, and then the values are copied after them.
use Rattle.std.proofs.Common.{rules, ◌≡◌, ℕ, ◌+◌, ◌-◌, ◌≤◌, List, [], ◌∷◌, ◌++◌, length, take, refl, ap, ap₂, ◌∙◌, arith, slice_set, length-set}
use Rattle.std.proofs.lemmas.Slice.{take-put_mid}
use borrow.Rule.Slice.PartMut.{put_mid}
use Rattle.log_entry.proofs.encode.Goals as goal

two_set : (xs : List ℕ) (a w : ℕ) → 2 ≤ length xs → take 2 (slice_set (slice_set xs 0 a) 1 w) ≡ a ∷ w ∷ []
two_set [] a w h = absurd (omega arith)
two_set (x ∷ []) a w h = absurd (omega arith)
two_set (x ∷ y ∷ xs) a w h = refl

-- Values that are copied after the first two words follow them.
after_two : (xs : List ℕ) (a w k n : ℕ) (ys vals : List ℕ) → 2 ≤ length xs → ys ≡ vals → n ≡ length vals → take (n + 2) (put_mid 2 k (slice_set (slice_set xs 0 a) 1 w) ys) ≡ a ∷ w ∷ vals
after_two xs a w k n ys vals h same count =
    take-put_mid 2 k (slice_set (slice_set xs 0 a) 1 w) ys (n + 2) (omega (arith, ap length same)) (omega (arith, length-set {A = ℕ}))
    ∙ ap₂ (λ front back. front ++ back) (two_set xs a w h) same

pub returns-clause-spells : goal.returns-clause-spells
returns-clause-spells c =
    after_two c.args.out.now c.args.addr c.entry_word.result ((2 + length c.args.vals.now) - 2) (length c.args.vals.now) c.copy_from_slice.new.self c.args.vals.now (omega arith) (search rules) refl
    ∙ ap (λ w. c.args.addr ∷ w ∷ c.args.vals.now) c.entry_word.ensures
