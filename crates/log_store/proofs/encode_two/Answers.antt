-- The words of one entry are copied to the start, and those of the other after them.
use Rattle.std.proofs.Common.{◌≡◌, ℕ, ◌+◌, List, ◌++◌, length, take, ap, ap₂, ◌∙◌, arith, length-append}
use Rattle.std.proofs.lemmas.Slice.{take-put_mid}
use borrow.Rule.Slice.PartMut.{put_mid}
use Rattle.log_store.proofs.encode_two.Goals as goal

two_copied : (out ys zs : List ℕ) (m n k l : ℕ) → m ≡ length ys → n ≡ length zs → take (m + n) (put_mid m k (put_mid 0 l out ys) zs) ≡ ys ++ zs
two_copied out ys zs m n k l first second =
    take-put_mid m k (put_mid 0 l out ys) zs (m + n) (omega arith) (simp length-append (omega arith))
    ∙ ap (λ front. front ++ zs) (take-put_mid 0 l out ys m (omega arith) (omega arith))

pub returns-clause-spells : goal.returns-clause-spells
returns-clause-spells c =
    let first = c.copy_from_slice.ensures.after ∙ c.encode-first.ensures.spells in
    let second = c.copy_from_slice-2.ensures.after ∙ c.encode-second.ensures.spells in
    two_copied c.args.out.now c.copy_from_slice.new.self c.copy_from_slice-2.new.self c.encode-first.result c.encode-second.result _ _
    (omega (arith, ap length first)) (omega (arith, ap length second))
    ∙ ap₂ (λ a b. a ++ b) first second
