-- A run over all lines and a run over a set's own lines are the same for the set.
use Rattle.std.proofs.Common.{◌≡◌, ℕ, Bool, true, false, cond, ◌&&◌, ◌||◌, List, [], ◌∷◌, ◌++◌, map, filter, Option, Some, None, option_and_then, refl, sym, ap, ap₂, ◌∙◌, subst, append-nil}
use Rattle.std.proofs.lemmas.Slice.Eq.{bytes_eq-Decides}
use Rattle.pud_defs.specs.declared.machine.Command.{Command}
use Rattle.pud_defs.specs.declared.machine.Command.TheVariants.{Import}
use Rattle.pud_defs.specs.StateMachine.Grammar.{command_of}
use Rattle.pud_defs.specs.StateMachine.World.{World}
use Rattle.pud_defs.specs.StateMachine.Step.{Answer, name_in, answer_by}
use Rattle.pud_defs.specs.StateMachine.Gives.{Gives}
use Rattle.pud_defs.specs.StateMachine.Run.{Turn, IsTurn, is_cut, IsRun, last_world, lines_taken}
use Rattle.independence.specs.Own.{Names, is_within, is_none_or_within, name_of_command, is_of, is_line_of_set, lines_of_set, answers_to}
use Rattle.independence.specs.Limits.{is_at_limit, meets_limit, MeetNoLimit}
use Rattle.independence.specs.Premises.{DefinesNone, LeavesFiles, OthersDefineNone, file_read, is_file_named, is_imported, OthersLeaveFiles}
use Rattle.independence.specs.Independence.{AreIndependent}
use Rattle.independence.proofs.Turns.{IsPlain, IsPlain-turn, still_where_none, IsUnlimited-plain, Agree, Agree-itself, Agree-then, ReadsAmong, Agree-own, answers-same, Agree-another}

-- ---- one line

-- if the line makes a pool of the set from a file, then it is one of these files
abbrev pub LineReads : Names → (List ℕ → Bool) → List ℕ → Type 0
LineReads S F line = (file : List ℕ) → is_of S line ≡ true → option_and_then file_read (command_of line) ≡ Some file → F file ≡ true

abbrev pub LinesRead : Names → (List ℕ → Bool) → List (List ℕ) → Type 0
LinesRead S F [] = Unit {0}
LinesRead S F (line ∷ lines) = LineReads S F line × LinesRead S F lines

named_if_reads : (S : Names) (c : Command) (file : List ℕ) → is_none_or_within S (name_in c) ≡ true → file_read c ≡ Some file → is_within S (name_in c) ≡ true
named_if_reads S (Import client name from mode) file is_line_of_set reads = is_line_of_set
named_if_reads S c file is_line_of_set reads = absurd (let no : None ≡ Some file = reads in cc)

-- The same line was answered in both runs. The worlds agree after it. If the line names a pool of the set, the answers
-- are the same.
record SameTurn (S : Names) (F : List ℕ → Bool) (t u : Turn) : Type 0 where
  agree : Agree S F t.next u.next
  answers : is_of S t.line ≡ true → u.answer ≡ t.answer

same_command : (S : Names) (F : List ℕ → Bool) (w v : World) (t u : Turn) (command : Option Command) → command_of t.line ≡ command → command_of u.line ≡ command → Agree S F w v
    → IsPlain w t → IsPlain v u → is_none_or_within S (name_of_command command) ≡ true → is_at_limit w t ≡ false → is_at_limit v u ≡ false
    → ((file : List ℕ) → is_within S (name_of_command command) ≡ true → option_and_then file_read command ≡ Some file → F file ≡ true) → SameTurn S F t u
same_command S F w v t u None is_t is_u agree x y is_line_of_set p q reads =
    let stays = still_where_none w (command_of t.line) t.next is_t x.gives in
    let also = still_where_none v (command_of u.line) u.next is_u y.gives in
    record {
      agree = subst (λ (z : World). Agree S F z u.next) (sym stays) (subst (λ (z : World). Agree S F w z) (sym also) agree);
      answers = λ named. absurd (let no : false ≡ true = ap (λ (o : Option Command). is_within S (name_of_command o)) (sym is_t) ∙ named in cc);
    }
same_command S F w v t u (Some c) is_t is_u agree x y is_line_of_set p q reads =
    let among : ReadsAmong F c = λ file read. reads file (named_if_reads S c file is_line_of_set read) read in
    let a = IsUnlimited-plain w t c is_t x p in
    let b = IsUnlimited-plain v u c is_u y q in
    record {
      agree = Agree-own S F w v agree c is_line_of_set among t.next u.next a b (subst (λ (o : Option Command). Gives w o t.next) is_t x.gives) (subst (λ (o : Option Command). Gives v o u.next) is_u y.gives);
      answers = λ named.
          let within : is_within S (name_in c) ≡ true = ap (λ (o : Option Command). is_within S (name_of_command o)) (sym is_t) ∙ named in
          y.answered ∙ ap (answer_by v) is_u ∙ sym (answers-same S F w v agree c is_line_of_set among a b within) ∙ ap (answer_by w) (sym is_t) ∙ sym x.answered;
    }

limit_of_own : (S : Names) (w : World) (t : Turn) → is_line_of_set S t.line ≡ true → meets_limit S w t ≡ false → is_at_limit w t ≡ false
limit_of_own S w t is_line_of_set none = ap (λ (b : Bool). cond b (is_at_limit w t) (is_cut t.answer)) (sym is_line_of_set) ∙ none

limit_of_another : (S : Names) (w : World) (t : Turn) → is_line_of_set S t.line ≡ false → meets_limit S w t ≡ false → is_cut t.answer ≡ false
limit_of_another S w t outside none = ap (λ (b : Bool). cond b (is_at_limit w t) (is_cut t.answer)) (sym outside) ∙ none

same_line : (S : Names) (F : List ℕ → Bool) (w v : World) (t u : Turn) → u.line ≡ t.line → Agree S F w v → IsTurn w t → IsTurn v u → is_line_of_set S t.line ≡ true
    → meets_limit S w t ≡ false → meets_limit S v u ≡ false → LineReads S F t.line → SameTurn S F t u
same_line S F w v t u line agree is_t is_u is_line_of_set p q reads =
    let none = limit_of_own S w t is_line_of_set p in
    let also = limit_of_own S v u (ap (is_own_line S) line ∙ is_line_of_set) q in
    same_command S F w v t u (command_of t.line) refl (ap command_of line) agree (IsPlain-turn w t is_t none) (IsPlain-turn v u is_u also) is_line_of_set none also reads
  where
    is_own_line : Names → List ℕ → Bool
    is_own_line S line = is_none_or_within S (name_of_command (command_of line))

-- ---- two runs

-- The runs are the same for the set: their answers are the same, and their last worlds agree.
record AreSame (S : Names) (F : List ℕ → Bool) (w : World) (turns : List Turn) (v : World) (others : List Turn) : Type 0 where
  answers : answers_to S others ≡ answers_to S turns
  agree : Agree S F (last_world w turns) (last_world v others)

-- each run over the set's own lines from a world that agrees with this one is the same for the set, if it meets no
-- limit
abbrev FollowSame : Names → (List ℕ → Bool) → World → List Turn → Type 0
FollowSame S F w turns = (v : World) (others : List Turn) → Agree S F w v → IsRun v others → map (λ (t : Turn). t.line) others ≡ lines_of_set S (map (λ (t : Turn). t.line) turns) → MeetNoLimit S v others → AreSame S F w turns v others

answers_front : (S : Names) (t : Turn) (turns : List Turn) → answers_to S (t ∷ turns) ≡ cond (is_of S t.line) (t.answer ∷ answers_to S turns) (answers_to S turns)
answers_front S t turns = mapped (is_of S t.line)
  where
    mapped : (b : Bool) → map (λ (t : Turn). t.answer) (cond b (t ∷ filter (λ t. is_of S t.line) turns) (filter (λ t. is_of S t.line) turns)) ≡ cond b (t.answer ∷ answers_to S turns) (answers_to S turns)
    mapped true = refl
    mapped false = refl

of_is_own : (S : Names) (o : Option (List ℕ)) → is_none_or_within S o ≡ false → is_within S o ≡ false
of_is_own S None outside = refl
of_is_own S (Some name) outside = outside

answers_after : (S : Names) (b : Bool) (a x : Answer) (rest more : List Answer) → (b ≡ true → a ≡ x) → rest ≡ more → cond b (a ∷ rest) rest ≡ cond b (x ∷ more) more
answers_after S true a x rest more same later = ap₂ (λ (y : Answer) (ys : List Answer). y ∷ ys) (same refl) later
answers_after S false a x rest more same later = later

module _ (S : Names) (F : List ℕ → Bool) (w : World) (t : Turn) (turns : List Turn) where
  -- a line of another pool comes first: only the first run has it
  another_front : is_line_of_set S t.line ≡ false → Agree S F t.next w → FollowSame S F t.next turns → FollowSame S F w (t ∷ turns)
  another_front outside left follow v others agree run lines none =
      let rest = follow v others (Agree-then S F t.next w v left agree) run
      (lines ∙ ap (λ (b : Bool). cond b (t.line ∷ lines_of_set S (map (λ (t : Turn). t.line) turns)) (lines_of_set S (map (λ (t : Turn). t.line) turns))) outside) none in
      record {
        answers = rest.answers ∙ sym (answers_front S t turns
            ∙ ap (λ (b : Bool). cond b (t.answer ∷ answers_to S turns) (answers_to S turns)) (of_is_own S (name_of_command (command_of t.line)) outside));
        agree = rest.agree;
      }

  -- an own line comes first: both runs have it
  own_front : is_line_of_set S t.line ≡ true → IsTurn w t → meets_limit S w t ≡ false → LineReads S F t.line → FollowSame S F t.next turns → FollowSame S F w (t ∷ turns)
  own_front is_line_of_set is unmet reads follow v [] agree run lines none =
      absurd (let no : [] ≡ t.line ∷ lines_of_set S (map (λ (t : Turn). t.line) turns) = lines ∙ ap (λ (b : Bool). cond b (t.line ∷ lines_of_set S (map (λ (t : Turn). t.line) turns)) (lines_of_set S (map (λ (t : Turn). t.line) turns))) is_line_of_set in cc)
  own_front is_line_of_set is unmet reads follow v (u ∷ others) agree run lines none =
      let all : u.line ∷ map (λ (t : Turn). t.line) others ≡ t.line ∷ lines_of_set S (map (λ (t : Turn). t.line) turns) =
      lines ∙ ap (λ (b : Bool). cond b (t.line ∷ lines_of_set S (map (λ (t : Turn). t.line) turns)) (lines_of_set S (map (λ (t : Turn). t.line) turns))) is_line_of_set in
      let line : u.line ≡ t.line = cc in
      let following : map (λ (t : Turn). t.line) others ≡ lines_of_set S (map (λ (t : Turn). t.line) turns) = cc in
      let both = same_line S F w v t u line agree is run.0 is_line_of_set unmet none.0 reads in
      let rest = follow u.next others both.agree run.1 following none.1 in
      record {
        answers =
            answers_front S u others ∙ ap (λ (l : List ℕ). cond (is_of S l) (u.answer ∷ answers_to S others) (answers_to S others)) line
            ∙ answers_after S (is_of S t.line) u.answer t.answer (answers_to S others) (answers_to S turns) both.answers rest.answers
            ∙ sym (answers_front S t turns);
        agree = rest.agree;
      }

first_front : (S : Names) (F : List ℕ → Bool) (w : World) (t : Turn) (turns : List Turn) (b : Bool) → is_line_of_set S t.line ≡ b → IsTurn w t → meets_limit S w t ≡ false
    → (is_line_of_set S t.line ≡ false → DefinesNone w t) → (is_line_of_set S t.line ≡ false → LeavesFiles F w t) → LineReads S F t.line → FollowSame S F t.next turns → FollowSame S F w (t ∷ turns)
first_front S F w t turns true is_line_of_set is unmet none files reads follow = own_front S F w t turns is_line_of_set is unmet reads follow
first_front S F w t turns false outside is unmet none files reads follow =
    another_front S F w t turns outside (Agree-another S F w t is outside (limit_of_another S w t outside unmet) (none outside) (files outside)) follow

nothing_left : (S : Names) (F : List ℕ → Bool) (w : World) → FollowSame S F w []
nothing_left S F w v [] agree run lines none = record { answers = refl; agree = agree }
nothing_left S F w v (u ∷ others) agree run lines none = absurd (cc)

runs_same : (S : Names) (F : List ℕ → Bool) (w : World) (turns : List Turn) → IsRun w turns → MeetNoLimit S w turns → OthersDefineNone S w turns → OthersLeaveFiles S F w turns
    → LinesRead S F (map (λ (t : Turn). t.line) turns) → FollowSame S F w turns
runs_same S F w [] run none types files reads = nothing_left S F w
runs_same S F w (t ∷ turns) run none types files reads =
    first_front S F w t turns (is_line_of_set S t.line) refl run.0 none.0 types.0 files.0 reads.0 (runs_same S F t.next turns run.1 none.1 types.1 files.1 reads.1)

-- ---- the files that the lines of a set read

or_front : (a b : Bool) → a ≡ true → (a || b) ≡ true
or_front true b h = refl
or_front false b h = absurd (let no : false ≡ true = h in cc)

or_after : (a b : Bool) → b ≡ true → (a || b) ≡ true
or_after true b h = refl
or_after false b h = h

named_by : (file : List ℕ) (o : Option (List ℕ)) → o ≡ Some file → is_file_named file o ≡ true
named_by file o is = ap (is_file_named file) is ∙ (bytes_eq-Decides file file).1 refl

lines_read : (S : Names) (F : List ℕ → Bool) (lines : List (List ℕ)) → ((file : List ℕ) → is_imported S lines file ≡ true → F file ≡ true) → LinesRead S F lines
lines_read S F [] all = tt
lines_read S F (line ∷ lines) all = (
  (λ file named read. all file (or_front _ _ (ap₂ (λ (a b : Bool). a && b) named (named_by file (option_and_then file_read (command_of line)) read)))),
  lines_read S F lines (λ file read. all file (or_after _ _ read)),
)

-- ---- for every set

pub are_independent : (w : World) (turns : List Turn) → IsRun w turns → AreIndependent w (map (λ (t : Turn). t.line) turns) turns
are_independent w turns run = record {
  alone = λ S none types files others also lines unmet.
      let F = is_imported S (map (λ (t : Turn). t.line) turns) in
      let same = runs_same S F w turns run none types files (lines_read S F (map (λ (t : Turn). t.line) turns) (λ file read. read)) w others (Agree-itself S F w) also lines unmet in
      record { answers = same.answers; shares = λ name within. sym (same.agree.shares name within) };
}

-- the same for lines that are given by an equation
pub are_independent_over : (w : World) (lines : List (List ℕ)) (turns : List Turn) → map (λ (t : Turn). t.line) turns ≡ lines → IsRun w turns → AreIndependent w lines turns
are_independent_over w lines turns are run = subst (λ (l : List (List ℕ)). AreIndependent w l turns) are (are_independent w turns run)

no_more : {A : Type 0} (xs ys : List A) → ys ≡ [] → xs ++ ys ≡ xs
no_more xs ys none = ap (λ l. xs ++ l) none ∙ append-nil xs

-- the same for a run over a script that was read to its end, if no turn is pending
pub independent_whole : (w : World) (taken : List ℕ) (ended : Bool) (answered pending : List Turn) → ended ≡ true → pending ≡ [] → IsRun w (answered ++ pending)
    → map (λ (t : Turn). t.line) (answered ++ pending) ≡ lines_taken taken ended → AreIndependent w (lines_taken taken true) answered
independent_whole w taken ended answered pending end none run lines =
    let whole = no_more answered pending none in
    are_independent_over w (lines_taken taken true) answered
    (ap (map (λ (t : Turn). t.line)) (sym whole) ∙ lines ∙ ap (lines_taken taken) end) (subst (IsRun w) whole run)
