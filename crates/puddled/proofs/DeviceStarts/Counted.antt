-- How many cuts are counted over one call after another.
use Rattle.std.proofs.Common.{◌≡◌, ◌≢◌, ◌⊎◌, inl, inr, ℕ, zero, suc, ◌+◌, ◌-◌, ◌^◌, ◌≤◌, ltb, ltb-true, zero-add, Bool, true, false, cond, List, [], ◌∷◌, ◌++◌, Option, Some, None, Result, Ok, Err, refl, sym, ap, subst, ◌∙◌, arith}
use Rattle.std.proofs.lemmas.List.Sums.{sum_by-append}
use Rattle.std.proofs.Math.Nat.{suc-add}
use Rattle.std.proofs.lemmas.Bool.{ltb-false}
use Rattle.std.proofs.lemmas.Option.{same_Some}
use Rattle.pm_model.specs.declared.host.HostFault.{HostFault}
use Rattle.pm_model.specs.declared.host.HostFault.TheVariants as hosts
use Rattle.pm_model.specs.Counts.{Counts, Rose, risen, after_fault, after_arm, after_loss_of}
use Rattle.pud_defs.specs.StateMachine.World.{World}
use Rattle.pud_defs.specs.declared.machine.Command.{Command}
use Rattle.pud_defs.specs.declared.machine.Reply.{Reply}
use Rattle.pud_defs.specs.declared.machine.Reply.TheVariants as replies
use Rattle.pud_defs.specs.StateMachine.Grammar.{command_of}
use Rattle.pud_defs.specs.StateMachine.Step.{Answer}
use Rattle.pud_defs.specs.StateMachine.Gives.{Step}
use Rattle.pud_defs.specs.StateMachine.Run.{Turn, is_cut, cuts_of}
use Rattle.daemon_memory.specs.declared.line_answer.LineAnswer.{LineAnswer}
use Rattle.daemon_memory.specs.declared.line_answer.LineAnswer.TheVariants as answers
use Rattle.puddled.specs.declared.daemon.StartFault.{StartFault}
use Rattle.puddled.specs.declared.daemon.StartFault.TheVariants as starts
use Rattle.puddled.specs.declared.daemon.RunFault.{RunFault}
use Rattle.puddled.specs.declared.daemon.RunFault.TheVariants as faults
use Rattle.daemon_memory.specs.Memory.{Memory}
use Rattle.daemon_memory.proofs.Commands.Turns.{turn_of, no_cut_reply}
use Rattle.daemon_memory.specs.Counted.Kind.{ordinary, loses, arms}
use Rattle.puddled.specs.Faults.{start_fault, of_host, of_start, risen_by, RoseBy, after_cuts, CountsTurns, AreCuts, restart_cuts, run_fault, last_fault, IsCounted, is_loss_kind, is_loss, CountsKind, CountsLine, CountsReply, CountsToSay, answer_after_loss, HasLostPower, Grows, CountsToEnd}
use Rattle.daemon_memory.specs.Counted.{Kind, kind_of, IsUncut, CountsCommand}

least_by : (n : ℕ) (b : Bool) → n ≤ cond b (n + 1) n
least_by n true = omega arith
least_by n false = omega arith

pub risen_least : (n : ℕ) → n ≤ risen n
risen_least n = least_by n (ltb n (2 ^ 64 - 1))

grows_by : (n m top : ℕ) (b d : Bool) → ltb n top ≡ b → ltb m top ≡ d → n ≤ m → cond b (n + 1) n ≤ cond d (m + 1) m
grows_by n m top true true e f le = omega arith
grows_by n m top true false e f le = let below = ltb-true n top e in let above = ltb-false m top f in omega arith
grows_by n m top false true e f le = omega arith
grows_by n m top false false e f le = le

pub risen_grows : (n m : ℕ) → n ≤ m → risen n ≤ risen m
risen_grows n m le = grows_by n m (2 ^ 64 - 1) (ltb n (2 ^ 64 - 1)) (ltb m (2 ^ 64 - 1)) refl refl le

risen_by-grows : (k n m : ℕ) → n ≤ m → risen_by k n ≤ risen_by k m
risen_by-grows zero n m le = le
risen_by-grows (suc k) n m le = risen_grows (risen_by k n) (risen_by k m) (risen_by-grows k n m le)

pub risen_by-least : (k n : ℕ) → n ≤ risen_by k n
risen_by-least zero n = omega arith
risen_by-least (suc k) n = let one = risen_least (risen_by k n) in let rest = risen_by-least k n in omega arith

pub risen_by-more : (k l n : ℕ) → risen_by (l + k) n ≡ risen_by l (risen_by k n)
risen_by-more k zero n = rw zero-add refl
risen_by-more k (suc l) n = rw suc-add (ap risen (risen_by-more k l n))

-- The turn of a line that was carried out has no reply `cut`, so it adds no cut to the count.
pub counted_step : (w : World) (line : List ℕ) (said : Answer) (under : World) (fault : Option RunFault) (before after : Counts) → Step w line said under → CountsLine (command_of line) fault 0 before after
    → CountsLine (command_of line) fault (cuts_of (turn_of line said under ∷ [])) before after
counted_step w line said under fault before after step c = subst (λ (n : ℕ). CountsLine (command_of line) fault n before after) (sym (no_cut_reply w line said under step)) c

pub counted_nothing : (before after : Counts) → after ≡ before → IsCounted None 0 before after
counted_nothing before after same = record { count = 0; cuts = refl; is = same }

-- What is counted if the restart after a cut went well, and if it did not.
pub counted_cut : (before mid after : Counts) → mid ≡ after_fault (Some hosts.Cut) before → after ≡ mid → IsCounted None 1 before after
counted_cut before mid after lost same = record { count = 1; cuts = refl; is = same ∙ lost }

pub counted_restart : (fault : StartFault) (before mid after : Counts) → mid ≡ after_fault (Some hosts.Cut) before → after ≡ after_fault (start_fault {T = Memory} (Err fault)) mid
    → IsCounted (Some (of_start fault)) 0 before after
counted_restart starts.NotSound before mid after lost last = record { count = 1; cuts = (refl, refl); is = last ∙ lost }
counted_restart (starts.Host hosts.Failed) before mid after lost last =
    record { count = 1; cuts = (omega arith, omega arith); is = last ∙ ap (λ (x : Counts). after_fault (Some hosts.Failed) x) lost }
counted_restart (starts.Host hosts.Cut) before mid after lost last =
    record { count = 2; cuts = (refl, refl); is = last ∙ ap (λ (x : Counts). after_fault (Some hosts.Cut) x) lost }

-- What is counted if the host failed while it carried out the line or printed the reply.
pub counted_failed : (before after : Counts) → after ≡ after_fault (Some hosts.Failed) before → IsCounted (Some faults.Failed) 0 before after
counted_failed before after last = record { count = 0; cuts = (omega arith, omega arith); is = last }

kind_failed : (kind : Kind) (n : ℕ) (before between after : Counts) → n ≤ 1 → CountsKind kind None n before between → after ≡ after_fault (Some hosts.Failed) between
    → CountsKind kind (Some faults.Failed) n before after
kind_failed ordinary n before between after few c last =
    let count = c.cuts in
    record { count = c.count; cuts = (omega arith, omega arith); is = last ∙ ap (λ (x : Counts). after_fault (Some hosts.Failed) x) c.is }
kind_failed (loses pick) n before between after few c last = (c.0, last ∙ ap (λ (x : Counts). after_fault (Some hosts.Failed) x) c.1)
kind_failed (arms step pick) n before between after few c last = (c.0, (omega arith, omega arith), last ∙ ap (λ (x : Counts). after_fault (Some hosts.Failed) x) c.2)

pub counted_say : (command : Option Command) (fault : HostFault) (n : ℕ) (before between after : Counts) → n ≤ 1 → CountsLine command None n before between → after ≡ after_fault (Some fault) between
    → (Some fault ≡ Some hosts.Cut → ⊥) → CountsLine command (Some (of_host fault)) n before after
counted_say command hosts.Failed n before between after few c last never_cut = kind_failed (kind_of command) n before between after few c last
counted_say command hosts.Cut n before between after few c last never_cut = absurd (never_cut refl)

few_by : (b : Bool) → 0 + cond b 1 0 ≤ 1
few_by true = omega arith
few_by false = omega arith

-- A line has at most one reply `cut`.
pub one_reply : (t : Turn) → cuts_of (t ∷ []) ≤ 1
one_reply t = few_by (is_cut t.answer)

-- A fault of the host is never the verdict that the device is not sound.
pub host_is_sound : (fault : HostFault) → Some (of_host fault) ≡ Some faults.NotSound → ⊥
host_is_sound hosts.Failed e = cc
host_is_sound hosts.Cut e = cc

pub start_is_sound : (fault : StartFault) → (fault ≡ starts.NotSound → ⊥) → Some (of_start fault) ≡ Some faults.NotSound → ⊥
start_is_sound starts.NotSound sound e = sound refl
start_is_sound (starts.Host fault) sound e = host_is_sound fault e

pub not_none : {A : Type 0} (x : A) → Some x ≡ None → ⊥
not_none x e = cc

pub none_is_sound : None ≡ Some faults.NotSound → ⊥
none_is_sound e = cc

-- If nothing is counted afterwards, the line's counts are the same.
pub counted_same : (command : Option Command) (fault : Option RunFault) (n : ℕ) (before between after : Counts) → CountsLine command fault n before between → after ≡ between → CountsLine command fault n before after
counted_same command fault n before between after c same = subst (λ (x : Counts). CountsLine command fault n before x) (sym same) c

-- What is counted if power was lost at once and the restart after it did not go well.
counted_loss : (pick : ℕ) (fault : StartFault) (before after : Counts) → after ≡ after_fault (start_fault {T = Memory} (Err fault)) (after_loss_of pick before)
    → CountsKind (loses pick) (Some (of_start fault)) 0 before after
counted_loss pick starts.NotSound before after last = (refl, last)
counted_loss pick (starts.Host hosts.Failed) before after last = (refl, last)
counted_loss pick (starts.Host hosts.Cut) before after last = (refl, last)

-- ---- a command, and the restart after it

-- A reply that is not `cut` is an answer that is not `cut`.
pub uncut_reply : (reply : Reply) → (reply ≡ replies.Cut → ⊥) → IsUncut (answers.Reply reply)
uncut_reply reply uncut cut = let it : reply ≡ replies.Cut = cc in uncut it

-- What is counted if the command was carried out or refused.
pub kind_done : (kind : Kind) (before after : Counts) → CountsCommand kind None before after → CountsKind kind None 0 before after
kind_done ordinary before after c = counted_nothing before after c
kind_done (loses pick) before after c = absurd (let no : None ≡ Some hosts.Cut = c.0 in cc)
kind_done (arms step pick) before after c = (refl, refl, c.1)

-- What is counted if the host failed in the command.
pub kind_faulty : (kind : Kind) (before after : Counts) → CountsCommand kind (Some hosts.Failed) before after → CountsKind kind (Some faults.Failed) 0 before after
kind_faulty ordinary before after c = counted_failed before after c
kind_faulty (loses pick) before after c = absurd (let no : Some hosts.Failed ≡ Some hosts.Cut = c.0 in cc)
kind_faulty (arms step pick) before after c = absurd (let no : Some hosts.Failed ≡ None = c.0 in cc)

-- What is counted if power was lost in the command and the restart went well.
pub kind_restarted : (kind : Kind) (before mid after : Counts) → CountsCommand kind (Some hosts.Cut) before mid → after ≡ mid → ((answer_after_loss kind ≢ replies.Cut) × CountsKind kind None 0 before after) ⊎ ((answer_after_loss kind ≡ replies.Cut) × CountsKind kind None 1 before after)
kind_restarted ordinary before mid after c same = inr (refl, counted_cut before mid after c same)
kind_restarted (loses pick) before mid after c same = inl (λ cut. cc, (refl, same ∙ c.1))
kind_restarted (arms step pick) before mid after c same = absurd (let no : Some hosts.Cut ≡ None = c.0 in cc)

-- What is counted if the restart did not go well.
pub kind_unstarted : (kind : Kind) (fault : StartFault) (before mid after : Counts) → CountsCommand kind (Some hosts.Cut) before mid → after ≡ after_fault (start_fault {T = Memory} (Err fault)) mid
    → CountsKind kind (Some (of_start fault)) 0 before after
kind_unstarted ordinary fault before mid after c last = counted_restart fault before mid after c last
kind_unstarted (loses pick) fault before mid after c last = counted_loss pick fault before after (last ∙ ap (λ (x : Counts). after_fault (start_fault {T = Memory} (Err fault)) x) c.1)
kind_unstarted (arms step pick) fault before mid after c last = absurd (let no : Some hosts.Cut ≡ None = c.0 in cc)

-- If no power was lost, no cut was counted.
pub no_power_lost : (kind : Kind) (before after : Counts) → CountsCommand kind None before after → (is_loss_kind kind ≡ true) ⊎ (after.cuts ≢ before.cuts) → ⊥
no_power_lost ordinary before after c (inl defers) = let no : false ≡ true = defers in cc
no_power_lost ordinary before after c (inr moved) = moved (ap (λ (x : Counts). x.cuts) c)
no_power_lost (loses pick) before after c lost = absurd (let no : None ≡ Some hosts.Cut = c.0 in cc)
no_power_lost (arms step pick) before after c (inl defers) = let no : false ≡ true = defers in cc
no_power_lost (arms step pick) before after c (inr moved) = moved (ap (λ (x : Counts). x.cuts) c.1)

-- A line that is no command loses no power.
pub bad_loses_nothing : (counts : Counts) → HasLostPower None counts counts → ⊥
bad_loses_nothing counts lost = no_power_lost ordinary counts counts refl lost

-- ---- if the answer is known in part

-- A line that ended with a fault was not counted as a line with the reply `cut`.
pub counted_fault : (command : Option Command) (fault : RunFault) (a b : Counts) → CountsReply command (Err fault) a b → CountsLine command (Some fault) 0 a b
counted_fault command fault a b (inl c) = c.1
counted_fault command fault a b (inr c) = absurd (let no = c.0 in cc)

-- What is counted if the host failed while the answer was printed.
pub failed_to_say : (answered : LineAnswer) (fault : HostFault) (a b : Counts) → b ≡ after_fault (Some fault) a → (Some fault ≡ Some hosts.Cut → ⊥) → CountsToSay (Ok answered) (Some (of_host fault)) a b
failed_to_say answered hosts.Failed a b last never_cut = (refl, last)
failed_to_say answered hosts.Cut a b last never_cut = absurd (never_cut refl)

-- If the device is found not to be sound, this comes before anything is answered.
pub unsound_unsaid : (command : Option Command) (answered : Result LineAnswer RunFault) (fault : RunFault) (a b c : Counts) → CountsReply command answered a b → CountsToSay answered (Some fault) b c → fault ≡ faults.NotSound
    → CountsLine command (Some faults.NotSound) 0 a c
unsound_unsaid command (Ok x) fault a b c k said is = absurd (let no : faults.NotSound ≡ faults.Failed = sym is ∙ said.0 in cc)
unsound_unsaid command (Err f) fault a b c k said is =
    let it : f ≡ faults.NotSound = sym (same_Some fault f said.0) ∙ is in
    counted_same command (Some faults.NotSound) 0 a b c (subst (λ (x : RunFault). CountsLine command (Some x) 0 a b) it (counted_fault command f a b k)) said.1

-- ---- over turns

pub CountsTurns-one : (t : Turn) (before after : Counts) (fault : Option RunFault) → fault ≡ None → CountsLine (command_of t.line) fault (cuts_of (t ∷ [])) before after → CountsTurns (t ∷ []) before after
CountsTurns-one t before after fault none c = (after, subst (λ (f : Option RunFault). CountsLine (command_of t.line) f (cuts_of (t ∷ [])) before after) none c, refl)

pub CountsTurns-append : (turns more : List Turn) (a b c : Counts) → CountsTurns turns a b → CountsTurns more b c → CountsTurns (turns ++ more) a c
CountsTurns-append [] more a b c first later = subst (λ (x : Counts). CountsTurns more x c) first later
CountsTurns-append (t ∷ turns) more a b c first later = (first.0, first.1, CountsTurns-append turns more first.0 b c first.2 later)

cuts_of-cons : (t : Turn) (turns : List Turn) → cuts_of (t ∷ turns) ≡ cuts_of turns + cuts_of (t ∷ [])
cuts_of-cons t turns = omega (arith, sum_by-append (λ (x : Turn). cond (is_cut x.answer) 1 0) (t ∷ []) turns)

pub cuts_after_fault : (fault : Option HostFault) (c : Counts) → c.cuts ≤ (after_fault fault c).cuts
cuts_after_fault None c = omega arith
cuts_after_fault (Some hosts.Failed) c = omega arith
cuts_after_fault (Some hosts.Cut) c = risen_least c.cuts

pub size_after_fault : (fault : Option HostFault) (c : Counts) → (after_fault fault c).size ≡ c.size
size_after_fault None c = refl
size_after_fault (Some hosts.Failed) c = refl
size_after_fault (Some hosts.Cut) c = refl

-- A command does not change the device's size.
pub size_of_command : (kind : Kind) (fault : Option HostFault) (before after : Counts) → CountsCommand kind fault before after → after.size ≡ before.size
size_of_command ordinary fault before after c = ap (λ (x : Counts). x.size) c ∙ size_after_fault fault before
size_of_command (loses pick) fault before after c = ap (λ (x : Counts). x.size) c.1
size_of_command (arms step pick) fault before after c = ap (λ (x : Counts). x.size) c.1

-- ---- lines that are not known

pub Grows-still : (a b : Counts) → b ≡ a → Grows a b
Grows-still a b same = subst (λ (x : Counts). Grows a x) (sym same) (record { size = refl; faults = refl; cuts = omega arith; arms = omega arith; losses = omega arith })

pub Grows-then : (a b c : Counts) → Grows a b → Grows b c → Grows a c
Grows-then a b c p q =
    let p_cuts = p.cuts in
    let q_cuts = q.cuts in
    let p_arms = p.arms in
    let q_arms = q.arms in
    let p_losses = p.losses in
    let q_losses = q.losses in
    record { size = q.size ∙ p.size; faults = q.faults ∙ p.faults; cuts = omega arith; arms = omega arith; losses = omega arith }

Grows-cuts : (n : ℕ) (a : Counts) → Grows a (after_cuts n a)
Grows-cuts n a = record { size = refl; faults = refl; cuts = risen_by-least n a.cuts; arms = omega arith; losses = omega arith }

Grows-arm : (step pick : ℕ) (a : Counts) → Grows a (after_arm step pick a)
Grows-arm step pick a = record { size = refl; faults = refl; cuts = omega arith; arms = risen_least a.arms; losses = omega arith }

Grows-loss : (pick : ℕ) (a : Counts) → Grows a (after_loss_of pick a)
Grows-loss pick a = record { size = refl; faults = refl; cuts = omega arith; arms = omega arith; losses = risen_least a.losses }

-- ---- what a line's counts tell

rose_in_restart : (fault : Option RunFault) (n count a : ℕ) → AreCuts fault n count → RoseBy (restart_cuts fault) a (risen_by count a)
rose_in_restart None n count a are = risen_by-least count a
rose_in_restart (Some faults.Failed) n count a are = risen_by-least count a
rose_in_restart (Some faults.NotSound) n count a are = risen_by-least count a
rose_in_restart (Some faults.CutInStart) n count a are = subst (λ (x : ℕ). RoseBy 1 a (risen_by x a)) (sym are.1) (risen_least (risen_by 1 a))

ends_plain : (fault : Option RunFault) (n : ℕ) (a b : Counts) → IsCounted fault n a b → CountsToEnd fault a b
ends_plain fault n a b c = record { before = after_cuts c.count a; grows = Grows-cuts c.count a; cuts = rose_in_restart fault n c.count a.cuts c.cuts; last = c.is }

no_restart : (fault : Option RunFault) (a : ℕ) → AreCuts fault 0 0 → RoseBy (restart_cuts fault) a a
no_restart None a none = omega arith
no_restart (Some faults.Failed) a none = omega arith
no_restart (Some faults.NotSound) a none = omega arith
no_restart (Some faults.CutInStart) a none = absurd (let no : 0 ≡ 2 = none.1 in omega arith)

-- `CountsToEnd` holds for a line of any kind.
kind_ends : (kind : Kind) (fault : Option RunFault) (n : ℕ) (a b : Counts) → CountsKind kind fault n a b → CountsToEnd fault a b
kind_ends ordinary fault n a b c = ends_plain fault n a b c
kind_ends (loses pick) fault n a b c =
    record {
      before = after_cuts (restart_cuts fault) (after_loss_of pick a);
      grows = Grows-then a (after_loss_of pick a) (after_cuts (restart_cuts fault) (after_loss_of pick a)) (Grows-loss pick a) (Grows-cuts (restart_cuts fault) (after_loss_of pick a));
      cuts = omega arith;
      last = c.1;
    }
kind_ends (arms step pick) fault n a b c = record { before = after_arm step pick a; grows = Grows-arm step pick a; cuts = no_restart fault a.cuts c.1; last = c.2 }

pub counted_ends : (command : Option Command) (fault : Option RunFault) (n : ℕ) (a b : Counts) → CountsLine command fault n a b → CountsToEnd fault a b
counted_ends command fault n a b c = kind_ends (kind_of command) fault n a b c

-- It holds whatever was answered.
pub reply_ends : (command : Option Command) (result : Result LineAnswer RunFault) (a b : Counts) → CountsReply command result a b → CountsToEnd (run_fault result) a b
reply_ends command result a b (inl c) = counted_ends command (run_fault result) 0 a b c.1
reply_ends command result a b (inr c) = subst (λ (f : Option RunFault). CountsToEnd f a b) (sym (ap run_fault c.0)) (counted_ends command None 1 a b c.1)

pub CountsToEnd-none : (a b : Counts) → CountsToEnd None a b → Grows a b
CountsToEnd-none a b e = subst (λ (x : Counts). Grows a x) (sym e.last) e.grows

pub CountsToEnd-nothing : (a b : Counts) → b ≡ a → CountsToEnd None a b
CountsToEnd-nothing a b same = record { before = a; grows = Grows-still a a refl; cuts = omega arith; last = same }

pub CountsToEnd-host : (fault : HostFault) (a b : Counts) → b ≡ after_fault (Some fault) a → (Some fault ≡ Some hosts.Cut → ⊥) → CountsToEnd (Some (of_host fault)) a b
CountsToEnd-host hosts.Failed a b last never_cut = record { before = a; grows = Grows-still a a refl; cuts = omega arith; last = last }
CountsToEnd-host hosts.Cut a b last never_cut = absurd (never_cut refl)

-- It holds for lines that went on, with one after them that ended so.
pub CountsToEnd-then : (fault : Option RunFault) (a b c : Counts) → Grows a b → CountsToEnd fault b c → CountsToEnd fault a c
CountsToEnd-then fault a b c first later =
    record {
      before = later.before;
      grows = Grows-then a b later.before first later.grows;
      cuts = let grew = risen_by-grows (restart_cuts fault) a.cuts b.cuts first.cuts in let rose = later.cuts in omega arith;
      last = later.last;
    }

-- It holds also once the answer was printed.
pub answer_ends : (command : Option Command) (answered : Result LineAnswer RunFault) (fault : Option RunFault) (a b c : Counts) → CountsReply command answered a b → CountsToSay answered fault b c → CountsToEnd fault a c
answer_ends command (Ok x) None a b c k said = subst (λ (y : Counts). CountsToEnd None a y) (sym said) (reply_ends command (Ok x) a b k)
answer_ends command (Ok x) (Some fault) a b c k said =
    let g = CountsToEnd-none a b (reply_ends command (Ok x) a b k) in
    subst (λ (f : RunFault). CountsToEnd (Some f) a c) (sym said.0) (record { before = b; grows = g; cuts = g.cuts; last = said.1 })
answer_ends command (Err f) fault a b c k said =
    subst (λ (o : Option RunFault). CountsToEnd o a c) (sym said.0) (subst (λ (y : Counts). CountsToEnd (Some f) a y) (sym said.1) (reply_ends command (Err f) a b k))

-- No line changes the device's size.
pub size_of_ends : (fault : Option RunFault) (a b : Counts) → CountsToEnd fault a b → b.size ≡ a.size
size_of_ends fault a b c = ap (λ (x : Counts). x.size) c.last ∙ size_after_fault (last_fault fault) c.before ∙ c.grows.size

-- ---- how many cuts were counted in all

-- The count of cuts never falls.
pub cuts_of_ends : (fault : Option RunFault) (a b : Counts) → CountsToEnd fault a b → a.cuts ≤ b.cuts
cuts_of_ends fault a b c =
    let first = c.grows.cuts in
    let later = cuts_after_fault (last_fault fault) c.before in
    let e : b.cuts ≡ (after_fault (last_fault fault) c.before).cuts = ap (λ (x : Counts). x.cuts) c.last in
    omega arith

-- If the line ends without a fault, as many cuts are counted as it has replies `cut`.
exact_in_kind : (kind : Kind) (n : ℕ) (a b : Counts) → CountsKind kind None n a b → b.cuts ≡ risen_by n a.cuts
exact_in_kind ordinary n a b c = ap (λ (x : Counts). x.cuts) c.is ∙ ap (λ (x : ℕ). risen_by x a.cuts) c.cuts
exact_in_kind (loses pick) n a b c = ap (λ (x : Counts). x.cuts) c.1 ∙ ap (λ (x : ℕ). risen_by x a.cuts) (sym c.0)
exact_in_kind (arms step pick) n a b c = ap (λ (x : Counts). x.cuts) c.2 ∙ ap (λ (x : ℕ). risen_by x a.cuts) (sym c.0)

-- A line in which a cut was counted was answered `cut`.
pub cut_is_answered : (command : Option Command) (answered : LineAnswer) (a b c : Counts) → CountsReply command (Ok answered) a b → c ≡ b → c.cuts ≢ a.cuts → answered ≡ answers.Reply replies.Cut
cut_is_answered command answered a b c (inl k) same moved = absurd (moved (ap (λ (x : Counts). x.cuts) same ∙ exact_in_kind (kind_of command) 0 a b k.1))
cut_is_answered command answered a b c (inr k) same moved = let e = k.0 in cc

-- As many cuts are counted over all turns as they have replies `cut`.
pub CountsTurns-cuts : (turns : List Turn) (a b : Counts) → CountsTurns turns a b → b.cuts ≡ risen_by (cuts_of turns) a.cuts
CountsTurns-cuts [] a b c = ap (λ (x : Counts). x.cuts) c
CountsTurns-cuts (t ∷ turns) a b c =
    CountsTurns-cuts turns c.0 b c.2
    ∙ ap (λ (x : ℕ). risen_by (cuts_of turns) x) (exact_in_kind (kind_of (command_of t.line)) (cuts_of (t ∷ [])) a c.0 c.1)
    ∙ sym (risen_by-more (cuts_of (t ∷ [])) (cuts_of turns) a.cuts)
    ∙ ap (λ (x : ℕ). risen_by x a.cuts) (sym (cuts_of-cons t turns))

-- If the restart ends in a cut, two cuts are counted; but only one if the line lost power at once.
lost_in_kind : (kind : Kind) (n : ℕ) (a b : Counts) → CountsKind kind (Some faults.CutInStart) n a b → b.cuts ≡ risen_by (cond (is_loss_kind kind) 1 2) a.cuts
lost_in_kind ordinary n a b c = ap (λ (x : Counts). x.cuts) c.is ∙ ap (λ (x : ℕ). risen_by x a.cuts) c.cuts.1
lost_in_kind (loses pick) n a b c = ap (λ (x : Counts). x.cuts) c.1
lost_in_kind (arms step pick) n a b c = absurd (let no : 0 ≡ 2 = c.1.1 in omega arith)

pub lost_in_restart : (command : Option Command) (n : ℕ) (a b : Counts) → CountsLine command (Some faults.CutInStart) n a b → b.cuts ≡ risen_by (cond (is_loss command) 1 2) a.cuts
lost_in_restart command n a b c = lost_in_kind (kind_of command) n a b c

-- ---- a device that is not sound after a power loss

lost_before : (kind : Kind) (n : ℕ) (a b : Counts) → CountsKind kind (Some faults.NotSound) n a b → Rose a.cuts b.cuts ⊎ Rose a.losses b.losses
lost_before ordinary n a b c = inl (let e : b.cuts ≡ risen_by 1 a.cuts = ap (λ (x : Counts). x.cuts) c.is ∙ ap (λ (x : ℕ). risen_by x a.cuts) c.cuts.1 in omega arith)
lost_before (loses pick) n a b c = inr (let e : b.losses ≡ risen a.losses = ap (λ (x : Counts). x.losses) c.1 in omega arith)
lost_before (arms step pick) n a b c = absurd (let no : 0 ≡ 1 = c.1.1 in omega arith)

-- Power was lost in the line before, as counted or at once.
pub lost_in_line : (command : Option Command) (n : ℕ) (a b : Counts) → CountsLine command (Some faults.NotSound) n a b → Rose a.cuts b.cuts ⊎ Rose a.losses b.losses
lost_in_line command n a b c = lost_before (kind_of command) n a b c
