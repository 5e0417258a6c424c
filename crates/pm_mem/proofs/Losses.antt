-- Lemmas: what a host in memory leaves at a power loss is one of each word's values.
use Rattle.std.proofs.lemmas.Nat.Bits.{bit_at-zero}
use Rattle.std.proofs.Common.{◌≡◌, inl, inr, ℕ, ◌%◌, Bool, true, false, cond, List, [], ◌∷◌, ◌++◌, Option, Some, refl}
use Rattle.pm_model.specs.declared.host.HostFault.{HostFault}
use Rattle.pm_model.specs.Words.{Has, Cell, values, last_or, durable, Words, Picks}
use Rattle.pm_model.specs.Moments.{State}
use Rattle.pm_model.specs.Calls.{LosesPower, Steps}
use Rattle.pm_mem.specs.declared.turns.Turn.{Turn}
use Rattle.pm_mem.specs.declared.turns.Turn.TheVariants.{Done, Failed, Cut}
use Rattle.pm_model.specs.Picking.{keeps_newest}
use Rattle.pm_mem.specs.Events.{image_picked, after_pick}
use Rattle.pm_mem.specs.Turns.{turn_fault, before_step}

Has-last : (x : ℕ) (xs : List ℕ) → Has (x ∷ xs) (last_or x xs)
Has-last x [] = inl refl
Has-last x (y ∷ ys) = inr (Has-last y ys)

Has-either : (b : Bool) (c : Cell) → Has (values c) (cond b c.newest (durable c))
Has-either true c = inl refl
Has-either false c = Has-last c.newest (c.kept ++ c.passed)

pub Picks-image_picked : (pick : ℕ) (words : Words) → Picks words (image_picked pick words)
Picks-image_picked pick words = record { each = λ k. Has-either (keeps_newest pick k) (words k) }

pub LosesPower-pick : (pick : ℕ) (old new : State) → new ≡ after_pick pick old → LosesPower old new
LosesPower-pick pick old new is = record { image = image_picked pick old.now.words; picked = Picks-image_picked pick old.now.words; is = is }

-- A step that is not carried out.
pub Steps-err : (f : Words → Words) (turn : Turn) (x : HostFault) (fault : Option HostFault) (old new : State)
    → fault ≡ Some x → Some x ≡ turn_fault turn → new ≡ before_step turn old → Steps f fault old new
Steps-err f Done x fault old new is answer left = absurd (cc answer)
Steps-err f Failed x fault old new is answer left = record { done = λ none. absurd (cc (is, none)); failed = λ _. left; cut = λ cut. absurd (cc (is, answer, cut)) }
Steps-err f (Cut pick) x fault old new is answer left = record { done = λ none. absurd (cc (is, none)); failed = λ failed. absurd (cc (is, answer, failed)); cut = λ _. LosesPower-pick pick old new left }

-- Pick 0 leaves each word's durable value, pick 1 each word's newest.
pub keeps_newest-zero : (k : ℕ) → keeps_newest 0 k ≡ false
keeps_newest-zero k = rw (bit_at-zero (k % 64))

pub keeps_newest-one : (k : ℕ) → keeps_newest 1 k ≡ true
keeps_newest-one k = refl
