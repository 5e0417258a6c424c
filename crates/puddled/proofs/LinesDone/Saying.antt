-- A text that is printed after `ok`, with its newline.
use Rattle.std.proofs.Common.{ℕ, List, [], ◌∷◌, ◌++◌, codes, Option, Some, None, ◌≡◌, subst}
use Rattle.pm_model.specs.declared.host.HostFault.{HostFault}
use Rattle.pm_model.specs.Moments.{State}
use Rattle.pm_model.specs.Calls.{Says}
use Rattle.pm_model.proofs.Saying.{Says-then, Says-front}
use Rattle.pud_defs.specs.Output.Texts.{line_of}

-- The fault comes before the text.
pub Says-unbegun : (text : List ℕ) (fault : HostFault) (a b : State) → Says (codes "ok ") (Some fault) a b → Says (line_of (codes "ok " ++ text)) (Some fault) a b
Says-unbegun text fault a b ok = Says-front (codes "ok ") (text ++ 10 ∷ []) fault a b ok

-- The fault comes within the text.
pub Says-unended : (text slice : List ℕ) (fault : HostFault) (a b c : State) → slice ≡ text → Says (codes "ok ") None a b → Says slice (Some fault) b c → Says (line_of (codes "ok " ++ text)) (Some fault) a c
Says-unended text slice fault a b c same ok said =
    Says-front (codes "ok " ++ text) (10 ∷ []) fault a c (Says-then (codes "ok ") text (Some fault) a b c ok (subst (λ (l : List ℕ). Says l (Some fault) b c) same said))

pub Says-text : (text slice : List ℕ) (fault : Option HostFault) (a b c d : State) → slice ≡ text → Says (codes "ok ") None a b → Says slice None b c → Says (10 ∷ []) fault c d → Says (line_of (codes "ok " ++ text)) fault a d
Says-text text slice fault a b c d same ok said end =
    Says-then (codes "ok " ++ text) (10 ∷ []) fault a c d (Says-then (codes "ok ") text None a b c ok (subst (λ (l : List ℕ). Says l None b c) same said)) end
