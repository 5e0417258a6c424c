-- The parse of a command line gives what its words ask for.
use Rattle.std.proofs.Common.{◌≡◌, ◌∙◌, Bool, codes, true, false, true≢false, refl, sym, subst, ap, ap₂, List, [], ◌∷◌, Option, Some, None}
use Rattle.std.specs.Prelude.{bytes_eq, find, fold, is_some, option_map}
use Rattle.std.specs.Option.{option_map_or}
use Rattle.std.proofs.lemmas.Bool.{false_from_ne_true}
use Rattle.std.proofs.lemmas.Slice.Eq.{bytes_eq-Decides}
use Rattle.clap.specs.Walk.{Names, Text, Walk, answers_to, finished, idle, nothing_held, settled, subcommand_met, walked}
use Rattle.clap.specs.Simple.{App, Shape, built, entered, label_of, names_of, rows_at}
use Rattle.clap.specs.Kinds.{Kinds, or_else}
use Rattle.clap.specs.Faults.{check_fault, defaults_fault, entered_fault, level_fault, settle_fault, turn_fault, walk_fault}
use Rattle.clap.specs.declared.error.kind.ErrorKind.{ErrorKind}
use Rattle.clap.specs.declared.error.kind.ErrorKind.TheVariants.{UnknownArgument, InvalidSubcommand}
use Rattle.clap.proofs.OnLiterals.{clap_on_literals}
use Rattle.clap.proofs.FaultLemmas.{stopped_fault}
use Rattle.clap.proofs.WalkLemmas.{walk_stopped}
use Rattle.command_line.specs.declared.modes.Mode.{Mode}
use Rattle.command_line.specs.CommandLine.{format_of, gen_of, mode_alone, mode_by, mode_of, without_dashes}
use Rattle.command_line.specs.Parsing.{mode_found, mode_named, mode_of_words, the_command, where_faultless}
use Rattle.command_line.proofs.WordKinds.{WordKind, dashes, positional, refused, word_kind}
use Rattle.command_line.proofs.Turns.{GoesOn, dashes_lead, dashes_pass, refused_fails, standing, value_goes_on}
use Rattle.command_line.proofs.Levels.{outcome}
use Rattle.command_line.proofs.ModeLevels.{alone, built_level, format_front, gen_front, if_alone, of_two, level_of_two}

abbrev command : App
command = built the_command

abbrev names : Names
names = names_of command

abbrev start : Walk
start = standing [] None 1 false

-- one step of the walk at the top level
abbrev step : Walk → Text → Walk
step = walked command.top.rules names

-- what a parse gives, from the error kinds of the words at the top level and from where the walk over them ends
abbrev whole : Kinds → Walk → Option Mode
whole kinds w =
    where_faultless (or_else kinds (or_else (entered_fault command w.stopped) (or_else (settle_fault command.top.rules command.top.args_override_self w.held)
    (or_else (defaults_fault (settled command.top.rules w.held).rows command.top.rules) (check_fault command.top (finished command.top.rules w.held) (is_some (entered command w.stopped)))))))
    (mode_found (entered command w.stopped))

by_walk : (name : Text) (words : List Text) → mode_of_words (name ∷ words) ≡ whole (walk_fault command.top names start words) (fold step start words)
by_walk name words = refl

no_more : (kinds : Kinds) → or_else kinds [] ≡ kinds
no_more [] = refl
no_more (kind ∷ kinds) = refl

-- ---- a mode's word

module _ (name word : Text) (words : List Text) (s : Shape)
    (passes : turn_fault command.top names start word ≡ []) (leads : step start word ≡ record start { stopped = Some (word, []) })
    (found : find (λ s. answers_to word (label_of s)) command.subs ≡ Some s) where
  abbrev entering : Option Shape → Option Mode
  entering o = where_faultless (or_else (option_map_or (λ level. level_fault level [] nothing_held words false []) o [])
      (check_fault command.top [] (is_some (option_map (λ level. rows_at level words) o)))) (mode_found (option_map (λ level. rows_at level words) o))

  -- the words after the mode's word are those of its level
  enters : mode_of_words (name ∷ word ∷ words) ≡ outcome s (mode_named s.name) start words
  unfolding outcome walk_fault defaults_fault
  enters =
      let kinds : walk_fault command.top names start (word ∷ words) ≡ [] =
      ap (λ ks. or_else ks (walk_fault command.top names (step start word) words)) passes ∙ ap (λ w. walk_fault command.top names w words) leads
      ∙ stopped_fault command.top names start (word, []) words in
      let walk : fold step start (word ∷ words) ≡ record start { stopped = Some (word, words) } =
      ap (λ w. fold step w words) leads ∙ sym (walk_stopped command.top.rules names start word [] words) in
      by_walk name (word ∷ words) ∙ ap₂ whole kinds walk ∙ ap entering found
      ∙ ap (λ ks. where_faultless ks (mode_named s.name (finished s.rules (fold (walked s.rules []) start words).held)))
      (no_more (level_fault s [] nothing_held words false []))

-- the modes with two numbers
format_words : (words : List Text) → of_two format_of words ≡ mode_by (codes "format") words
format_words [] = refl
format_words (first ∷ []) = refl
format_words (first ∷ second ∷ []) = refl
format_words (first ∷ second ∷ third ∷ words) = refl

format_enters : (name : Text) (words : List Text) → mode_of_words (name ∷ codes "format" ∷ words) ≡ mode_of (name ∷ codes "format" ∷ words)
unfolding clap_on_literals
format_enters name words =
    enters name (codes "format") words (level_of_two (codes "format") (codes "frames") (codes "id")) refl refl refl ∙ format_front words ∙ format_words (without_dashes words)

gen_words : (words : List Text) → of_two gen_of words ≡ mode_by (codes "gen") words
gen_words [] = refl
gen_words (first ∷ []) = refl
gen_words (first ∷ second ∷ []) = refl
gen_words (first ∷ second ∷ third ∷ words) = refl

gen_enters : (name : Text) (words : List Text) → mode_of_words (name ∷ codes "gen" ∷ words) ≡ mode_of (name ∷ codes "gen" ∷ words)
unfolding clap_on_literals
gen_enters name words =
    enters name (codes "gen") words (level_of_two (codes "gen") (codes "seed") (codes "count")) refl refl refl ∙ gen_front words ∙ gen_words (without_dashes words)

-- any other mode's word has no words after it
none_after : (word : Text) (words : List Text) → bytes_eq word (codes "format") ≡ false → bytes_eq word (codes "gen") ≡ false → if_alone (mode_alone word) words ≡ mode_by word words
none_after word [] no_format no_gen = refl
none_after word (first ∷ []) no_format no_gen = refl
none_after word (first ∷ second ∷ []) no_format no_gen = rw (no_format, no_gen) refl
none_after word (first ∷ second ∷ third ∷ words) no_format no_gen = refl

run_enters : (name : Text) (words : List Text) → mode_of_words (name ∷ codes "run" ∷ words) ≡ mode_of (name ∷ codes "run" ∷ words)
unfolding clap_on_literals
run_enters name words =
    enters name (codes "run") words (built_level (codes "run") []) refl refl refl ∙ alone (codes "run") (mode_named (codes "run")) words
    ∙ none_after (codes "run") (without_dashes words) refl refl

layout_enters : (name : Text) (words : List Text) → mode_of_words (name ∷ codes "layout" ∷ words) ≡ mode_of (name ∷ codes "layout" ∷ words)
unfolding clap_on_literals
layout_enters name words =
    enters name (codes "layout") words (built_level (codes "layout") []) refl refl refl ∙ alone (codes "layout") (mode_named (codes "layout")) words
    ∙ none_after (codes "layout") (without_dashes words) refl refl

check_enters : (name : Text) (words : List Text) → mode_of_words (name ∷ codes "check" ∷ words) ≡ mode_of (name ∷ codes "check" ∷ words)
unfolding clap_on_literals
check_enters name words =
    enters name (codes "check") words (built_level (codes "check") []) refl refl refl ∙ alone (codes "check") (mode_named (codes "check")) words
    ∙ none_after (codes "check") (without_dashes words) refl refl

-- ---- any other word

same_both_ways : (xs ys : Text) → bytes_eq xs ys ≡ false → bytes_eq ys xs ≡ false
same_both_ways xs ys differ = false_from_ne_true (bytes_eq ys xs) (λ same.
    true≢false (sym ((bytes_eq-Decides xs ys).1 (sym ((bytes_eq-Decides ys xs).0 same))) ∙ differ))

module _ (name word : Text) (words : List Text) (no_format : bytes_eq word (codes "format") ≡ false) (no_run : bytes_eq word (codes "run") ≡ false)
    (no_layout : bytes_eq word (codes "layout") ≡ false) (no_check : bytes_eq word (codes "check") ≡ false) (no_gen : bytes_eq word (codes "gen") ≡ false) where
  -- the word is no mode
  is_no_mode : (args : List Text) → mode_by word args ≡ None
  is_no_mode [] = rw (no_run, no_layout, no_check) refl
  is_no_mode (first ∷ []) = refl
  is_no_mode (first ∷ second ∷ []) = rw (no_format, no_gen) refl
  is_no_mode (first ∷ second ∷ third ∷ args) = refl

  -- the word names no subcommand
  is_plain : subcommand_met names idle word ≡ None
  is_plain =
      rw (same_both_ways word (codes "format") no_format, same_both_ways word (codes "run") no_run, same_both_ways word (codes "layout") no_layout, same_both_ways word (codes "check") no_check, same_both_ways word (codes "gen") no_gen) refl

  -- a parse fails if the first word fails
  fails_at_once : (kind : ErrorKind) (kinds : Kinds) → turn_fault command.top names start word ≡ kind ∷ kinds → mode_of_words (name ∷ word ∷ words) ≡ None
  unfolding walk_fault
  fails_at_once kind kinds fault = by_walk name (word ∷ words)
      ∙ ap (λ ks. whole (or_else ks (walk_fault command.top names (step start word) words)) (fold step start (word ∷ words))) fault

  -- after `--` no word names a subcommand
  fails_after : (words : List Text) → whole (walk_fault command.top names (standing [] None 1 true) words) (fold step (standing [] None 1 true) words) ≡ None
  unfolding clap_on_literals
  fails_after [] = refl
  fails_after (next ∷ words) = refl

  refuses : mode_of_words (name ∷ word ∷ words) ≡ None
  unfolding walk_fault
  refuses = by_kind (word_kind command.top.rules (record { long = λ _. refl; short = λ _. refl }) word)
    where
      by_kind : WordKind command.top.rules word → mode_of_words (name ∷ word ∷ words) ≡ None
      by_kind (dashes test) =
          by_walk name (word ∷ words)
          ∙ ap (λ ks. whole (or_else ks (walk_fault command.top names (step start word) words)) (fold step start (word ∷ words))) (dashes_pass command.top names [] None 1 word is_plain test)
          ∙ ap (λ w. whole (walk_fault command.top names w words) (fold step w words)) (dashes_lead command.top names [] None 1 word is_plain test)
          ∙ fails_after words
      by_kind (refused test is) = fails_at_once UnknownArgument [] (refused_fails command.top names [] None 1 word is_plain test is)
      by_kind (positional test is) =
          let on : GoesOn command.top names [] None 1 word false = value_goes_on command.top names [] None 1 word is_plain test is in
          fails_at_once UnknownArgument (InvalidSubcommand ∷ []) on.kinds

-- ---- by the first word

module _ (name word : Text) (words : List Text) where
  abbrev Agrees : Text → Type 0
  Agrees w = mode_of_words (name ∷ w ∷ words) ≡ mode_of (name ∷ w ∷ words)

  by_word : (mode : Text) → bytes_eq word mode ≡ true → Agrees mode → Agrees word
  by_word mode same agrees = subst Agrees (sym ((bytes_eq-Decides word mode).0 same)) agrees

  by_gen : (b : Bool) → bytes_eq word (codes "gen") ≡ b → bytes_eq word (codes "format") ≡ false → bytes_eq word (codes "run") ≡ false → bytes_eq word (codes "layout") ≡ false
      → bytes_eq word (codes "check") ≡ false → Agrees word
  by_gen true same no_format no_run no_layout no_check = by_word (codes "gen") same (gen_enters name words)
  by_gen false differ no_format no_run no_layout no_check =
      refuses name word words no_format no_run no_layout no_check differ
      ∙ sym (is_no_mode name word words no_format no_run no_layout no_check differ (without_dashes words))

  by_check : (b : Bool) → bytes_eq word (codes "check") ≡ b → bytes_eq word (codes "format") ≡ false → bytes_eq word (codes "run") ≡ false → bytes_eq word (codes "layout") ≡ false
      → Agrees word
  by_check true same no_format no_run no_layout = by_word (codes "check") same (check_enters name words)
  by_check false differ no_format no_run no_layout = by_gen (bytes_eq word (codes "gen")) refl no_format no_run no_layout differ

  by_layout : (b : Bool) → bytes_eq word (codes "layout") ≡ b → bytes_eq word (codes "format") ≡ false → bytes_eq word (codes "run") ≡ false → Agrees word
  by_layout true same no_format no_run = by_word (codes "layout") same (layout_enters name words)
  by_layout false differ no_format no_run = by_check (bytes_eq word (codes "check")) refl no_format no_run differ

  by_run : (b : Bool) → bytes_eq word (codes "run") ≡ b → bytes_eq word (codes "format") ≡ false → Agrees word
  by_run true same no_format = by_word (codes "run") same (run_enters name words)
  by_run false differ no_format = by_layout (bytes_eq word (codes "layout")) refl no_format differ

  by_format : (b : Bool) → bytes_eq word (codes "format") ≡ b → Agrees word
  by_format true same = by_word (codes "format") same (format_enters name words)
  by_format false differ = by_run (bytes_eq word (codes "run")) refl differ

-- a parse gives what the words ask for, whatever bytes they are
pub agrees : (words : List Text) → mode_of_words words ≡ mode_of words
unfolding clap_on_literals
agrees [] = refl
agrees (name ∷ []) = refl
agrees (name ∷ word ∷ words) = by_format name word words (bytes_eq word (codes "format")) refl
