use Rattle.std.proofs.Common.{◌≡◌, ℕ, ◌+◌, ◌<◌, List, [], ◌∷◌, ◌++◌, length, take, slice_set, refl, ap, ◌∙◌, arith, length-append, length-drop}
use Rattle.std.proofs.Math.Seq.{take-append_seam, take-append-add}
use Rattle.std.proofs.lemmas.Grind.{take-set_at}
use Rattle.script.proofs.replies.print_line.Goals as goal

-- a buffer with room for the two parts and a newline begins with the two parts and then the newline
pub printed : (front rest p q : List ℕ) → length front + length rest < length (front ++ (rest ++ q))
    → take (length front + length rest + 1) (slice_set (take (length front) (front ++ p) ++ (rest ++ q)) (length front + length rest) 10) ≡ (front ++ rest) ++ 10 ∷ []
printed front rest p q room =
    rw take-append_seam (take-set_at (front ++ (rest ++ q)) (length front + length rest) (length front + length rest + 1) 10 refl room
    ∙ ap (λ (l : List ℕ). l ++ 10 ∷ []) (take-append-add front (rest ++ q) (length rest) ∙ ap (λ (l : List ℕ). front ++ l) (take-append_seam rest q)))

pub returns-clause-text : goal.returns-clause-text
returns-clause-text c =
    let h = c.copy_from_slice.ensures in
    let k = c.copy_from_slice-2.ensures in
    rw (h.after, k.after) (printed c.args.front.now c.args.rest.now _ _ (simp (length-append, length-drop) (omega arith)))
