-- The worlds that images stand for, turn by turn.
use Rattle.std.proofs.Common.{◌≡◌, inl, ℕ, zero, suc, ◌+◌, ◌≤◌, List, [], ◌∷◌, ◌++◌, length, Some, arith, sym, ap, subst, ◌∙◌, zero-add}
use Rattle.std.proofs.Math.Nat.{suc-add}
use Rattle.pud_defs.specs.Formats.Image.{Image}
use Rattle.pud_defs.specs.StateMachine.World.{World, world_of, closed}
use Rattle.pud_defs.specs.StateMachine.Run.{Turn, last_world, newlines}
use Rattle.pud_defs.specs.Output.Texts.{replies_text}
use Rattle.pud_defs.specs.StateMachine.Stands.{StandsAfter, StandsWith, StandsAfterLines}
use Rattle.pud_defs.proofs.StateMachine.Lines.{newlines-append}
use Rattle.pud_defs.proofs.Output.Said.{newlines-replies_text}

-- an image that stands for a world after some turns also does so after these and more turns
pub StandsAfter-more : (size : ℕ) (w : World) (turns more : List Turn) (said : ℕ) (image : Image) → StandsAfter size w turns said image → StandsAfter size w (turns ++ more) said image
StandsAfter-more size w [] [] zero image stands = stands
StandsAfter-more size w [] (t ∷ more) zero image stands = inl stands
StandsAfter-more size w [] more (suc said) image stands = absurd stands
StandsAfter-more size w (t ∷ turns) more zero image stands = stands
StandsAfter-more size w (t ∷ turns) more (suc said) image stands = StandsAfter-more size t.next turns more said image stands

-- what an image stands for after the first turns, counted from the world that these leave
pub StandsAfter-later : (size : ℕ) (w : World) (turns more : List Turn) (said : ℕ) (image : Image) → StandsAfter size (last_world w turns) more said image → StandsAfter size w (turns ++ more) (length turns + said) image
StandsAfter-later size w [] more said image stands = rw zero-add stands
StandsAfter-later size w (t ∷ turns) more said image stands = rw suc-add (StandsAfter-later size t.next turns more said image stands)

-- the same, by the bytes that are printed in reply
pub StandsWith-later : (size : ℕ) (w : World) (turns more : List Turn) (bytes : List ℕ) (image : Image) → StandsWith size (last_world w turns) more bytes image → StandsWith size w (turns ++ more) (replies_text turns ++ bytes) image
StandsWith-later size w turns more bytes image stands =
    let count : newlines (replies_text turns ++ bytes) ≡ length turns + newlines bytes = newlines-append (replies_text turns) bytes ∙ ap (λ (n : ℕ). n + newlines bytes) (newlines-replies_text turns) in
    subst (λ (n : ℕ). StandsAfter size w (turns ++ more) n image) (sym count) (StandsAfter-later size w turns more (newlines bytes) image stands)

-- until the lines before the replies are whole, the image stands for the closed world
pub StandsAfterLines-closed : (lines size : ℕ) (w : World) (turns : List Turn) (said : ℕ) (image : Image) → said ≤ lines → world_of size image ≡ Some (closed w) → StandsAfterLines lines size w turns said image
StandsAfterLines-closed zero size w [] zero image few stands = stands
StandsAfterLines-closed zero size w (t ∷ turns) zero image few stands = inl stands
StandsAfterLines-closed zero size w turns (suc said) image few stands = absurd (omega arith)
StandsAfterLines-closed (suc lines) size w turns zero image few stands = stands
StandsAfterLines-closed (suc lines) size w turns (suc said) image few stands = StandsAfterLines-closed lines size w turns said image (omega arith) stands

-- after these lines it stands for the world after as many turns as there are reply lines
pub StandsAfterLines-after : (lines size : ℕ) (w : World) (turns : List Turn) (said : ℕ) (image : Image) → StandsAfter size w turns said image → StandsAfterLines lines size w turns (lines + said) image
StandsAfterLines-after zero size w turns said image stands = rw zero-add stands
StandsAfterLines-after (suc lines) size w turns said image stands = rw suc-add (StandsAfterLines-after lines size w turns said image stands)
