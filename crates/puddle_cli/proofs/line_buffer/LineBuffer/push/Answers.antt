use Rattle.std.proofs.Common.{◌≡◌, ◌≤◌, ℕ, List, ◌++◌, ◌∷◌, [], length, take, sym, ap, ◌∙◌, arith, length-append, length-take}
use Rattle.std.proofs.lemmas.List.{take_all, take_at, take_more_set}
use Rattle.puddle_cli.proofs.line_buffer.LineBuffer.push.Goals as goal

pub returns-then-self-lt-KEPT : goal.returns-then-self-lt-KEPT
returns-then-self-lt-KEPT c =
    let kept = take c.self.inside.length c.self.inside.bytes in
    let size : length kept ≡ c.self.inside.length = simp length-take (omega arith) in
    let whole : take 129 (kept ++ c.args.byte ∷ []) ≡ kept ++ c.args.byte ∷ [] = take_all 129 (kept ++ c.args.byte ∷ []) (omega (arith, length-append kept (c.args.byte ∷ []))) in
    take_more_set c.self.inside.bytes c.self.inside.length c.args.byte (omega arith)
    ∙ sym whole ∙ ap (λ (l : List ℕ). take 129 (l ++ c.args.byte ∷ [])) c.self.view_is

pub returns-else-self-lt-KEPT : goal.returns-else-self-lt-KEPT
returns-else-self-lt-KEPT c =
    let kept = take c.self.inside.length c.self.inside.bytes in
    let full : c.self.inside.length ≤ 129 = c.self.invariant in
    let size : length kept ≡ 129 = simp length-take (omega arith) in
    sym c.self.view_is ∙ sym (take_at kept (c.args.byte ∷ []) 129 size) ∙ ap (λ (l : List ℕ). take 129 (l ++ c.args.byte ∷ [])) c.self.view_is
