-- Lemmas on what lines do, one after the other.
use Rattle.std.proofs.Common.{◌≡◌, ◌≤◌, List, [], ◌∷◌, ◌++◌, length, Option, None, refl, ap, ◌∙◌, arith}
use Rattle.pm_model.specs.Moments.{State, with_script}
use Rattle.pud_defs.specs.StateMachine.World.{World}
use Rattle.pud_defs.specs.StateMachine.Run.{Turn, last_world}
use Rattle.puddled.specs.declared.daemon.RunFault.{RunFault}
use Rattle.puddled.specs.DoesLines.{DoesTurn, DoLines, DoesPending}

-- Bytes of the script were read, and then more bytes.
read_then : (a b c : State) → b ≡ with_script b.script a → c ≡ with_script c.script b → c ≡ with_script c.script a
read_then a b c first later = later ∙ ap (λ (s : State). with_script c.script s) first

-- Bytes read before a line belong to the turn of that line.
DoesTurn-read : (w : World) (t : Turn) (fault : Option RunFault) (a b c : State) → b ≡ with_script b.script a → DoesTurn w t fault b c → DoesTurn w t fault a c
DoesTurn-read w t fault a b c first d = record { from = d.from; read = read_then a b d.from first d.read; answered = d.answered; given = d.given; ended = d.ended; does = d.does }

-- Bytes read before lines belong to these lines.
DoLines-read : (w : World) (turns : List Turn) (a b c : State) → b ≡ with_script b.script a → DoLines w turns b c → DoLines w turns a c
DoLines-read w [] a b c first later = read_then a b c first later
DoLines-read w (t ∷ turns) a b c first later = (later.0, DoesTurn-read w t None a b later.0 first later.1, later.2)

-- Bytes read after lines belong to these lines.
pub DoLines-reads : (w : World) (turns : List Turn) (a b c : State) → DoLines w turns a b → c ≡ with_script c.script b → DoLines w turns a c
DoLines-reads w [] a b c first later = read_then a b c first later
DoLines-reads w (t ∷ turns) a b c first later = (first.0, first.1, DoLines-reads t.next turns first.0 b c first.2 later)

-- What some lines do and then more lines do is what all of them do.
pub DoLines-then : (w : World) (turns more : List Turn) (a b c : State) → DoLines w turns a b → DoLines (last_world w turns) more b c → DoLines w (turns ++ more) a c
DoLines-then w [] more a b c first later = DoLines-read w more a b c first later
DoLines-then w (t ∷ turns) more a b c first later = (first.0, first.1, DoLines-then t.next turns more first.0 b c first.2 later)

-- The line under way, if it was answered whole.
pub DoLines-pending : (w : World) (turns : List Turn) (a b : State) → length turns ≤ 1 → DoesPending w turns None a b → DoLines w turns a b
DoLines-pending w [] a b few d = d
DoLines-pending w (t ∷ []) a b few d = (b, d, refl)
DoLines-pending w (t ∷ u ∷ turns) a b few d = absurd (omega arith)
