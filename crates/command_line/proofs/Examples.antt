-- Examples of what words ask for, by computation.
use Rattle.std.specs.Prelude.{◌≡◌, [], ◌∷◌, Some, None, codes, refl}
use Rattle.pud_defs.specs.StateMachine.Grammar.{decimal_of}
use Rattle.command_line.specs.declared.modes.Mode.TheVariants.{Format, Run, Layout, Check, Gen}
use Rattle.command_line.specs.CommandLine.{mode_of}

-- each mode
format : mode_of (codes "puddle" ∷ codes "format" ∷ codes "4" ∷ codes "7" ∷ []) ≡ Some (Format 4 7)
unfolding decimal_of
format = refl

least : mode_of (codes "puddle" ∷ codes "format" ∷ codes "4" ∷ codes "0" ∷ []) ≡ Some (Format 4 0)
unfolding decimal_of
least = refl

most : mode_of (codes "puddle" ∷ codes "format" ∷ codes "1024" ∷ codes "18446744073709551615" ∷ []) ≡ Some (Format 1024 18446744073709551615)
unfolding decimal_of
most = refl

run : mode_of (codes "puddle" ∷ codes "run" ∷ []) ≡ Some Run
run = refl

layout : mode_of (codes "puddle" ∷ codes "layout" ∷ []) ≡ Some Layout
layout = refl

check : mode_of (codes "puddle" ∷ codes "check" ∷ []) ≡ Some Check
check = refl

gen : mode_of (codes "puddle" ∷ codes "gen" ∷ codes "1" ∷ codes "3" ∷ []) ≡ Some (Gen 1 3)
unfolding decimal_of
gen = refl

least_of_gen : mode_of (codes "puddle" ∷ codes "gen" ∷ codes "0" ∷ codes "1" ∷ []) ≡ Some (Gen 0 1)
unfolding decimal_of
least_of_gen = refl

most_of_gen : mode_of (codes "puddle" ∷ codes "gen" ∷ codes "65535" ∷ codes "992" ∷ []) ≡ Some (Gen 65535 992)
unfolding decimal_of
most_of_gen = refl

-- too few words and too many
nothing : mode_of [] ≡ None
nothing = refl

name_alone : mode_of (codes "puddle" ∷ []) ≡ None
name_alone = refl

frames_alone : mode_of (codes "puddle" ∷ codes "format" ∷ codes "4" ∷ []) ≡ None
frames_alone = refl

third_number : mode_of (codes "puddle" ∷ codes "format" ∷ codes "4" ∷ codes "7" ∷ codes "7" ∷ []) ≡ None
third_number = refl

run_now : mode_of (codes "puddle" ∷ codes "run" ∷ codes "now" ∷ []) ≡ None
run_now = refl

layout_of_a_number : mode_of (codes "puddle" ∷ codes "layout" ∷ codes "4" ∷ []) ≡ None
layout_of_a_number = refl

check_now : mode_of (codes "puddle" ∷ codes "check" ∷ codes "now" ∷ []) ≡ None
check_now = refl

seed_alone : mode_of (codes "puddle" ∷ codes "gen" ∷ codes "1" ∷ []) ≡ None
seed_alone = refl

third_number_of_gen : mode_of (codes "puddle" ∷ codes "gen" ∷ codes "1" ∷ codes "3" ∷ codes "3" ∷ []) ≡ None
third_number_of_gen = refl

-- numbers out of range and in another form
too_few_frames : mode_of (codes "puddle" ∷ codes "format" ∷ codes "3" ∷ codes "7" ∷ []) ≡ None
unfolding decimal_of
too_few_frames = refl

too_many_frames : mode_of (codes "puddle" ∷ codes "format" ∷ codes "1025" ∷ codes "7" ∷ []) ≡ None
unfolding decimal_of
too_many_frames = refl

too_large_an_id : mode_of (codes "puddle" ∷ codes "format" ∷ codes "4" ∷ codes "18446744073709551616" ∷ []) ≡ None
unfolding decimal_of
too_large_an_id = refl

too_large_a_seed : mode_of (codes "puddle" ∷ codes "gen" ∷ codes "65536" ∷ codes "3" ∷ []) ≡ None
unfolding decimal_of
too_large_a_seed = refl

no_objects : mode_of (codes "puddle" ∷ codes "gen" ∷ codes "1" ∷ codes "0" ∷ []) ≡ None
unfolding decimal_of
no_objects = refl

too_many_objects : mode_of (codes "puddle" ∷ codes "gen" ∷ codes "1" ∷ codes "993" ∷ []) ≡ None
unfolding decimal_of
too_many_objects = refl

sign : mode_of (codes "puddle" ∷ codes "format" ∷ codes "+4" ∷ codes "7" ∷ []) ≡ None
unfolding decimal_of
sign = refl

minus : mode_of (codes "puddle" ∷ codes "format" ∷ codes "4" ∷ codes "-7" ∷ []) ≡ None
unfolding decimal_of
minus = refl

leading_zero : mode_of (codes "puddle" ∷ codes "format" ∷ codes "04" ∷ codes "7" ∷ []) ≡ None
unfolding decimal_of
leading_zero = refl

empty_number : mode_of (codes "puddle" ∷ codes "format" ∷ codes "4" ∷ codes "" ∷ []) ≡ None
unfolding decimal_of
empty_number = refl

-- no other word, no help, no version and no option
abbreviation : mode_of (codes "puddle" ∷ codes "lay" ∷ []) ≡ None
abbreviation = refl

upper_case : mode_of (codes "puddle" ∷ codes "RUN" ∷ []) ≡ None
upper_case = refl

long_help : mode_of (codes "puddle" ∷ codes "--help" ∷ []) ≡ None
long_help = refl

short_help : mode_of (codes "puddle" ∷ codes "-h" ∷ []) ≡ None
short_help = refl

help : mode_of (codes "puddle" ∷ codes "help" ∷ []) ≡ None
help = refl

help_of_run : mode_of (codes "puddle" ∷ codes "run" ∷ codes "--help" ∷ []) ≡ None
help_of_run = refl

version : mode_of (codes "puddle" ∷ codes "--version" ∷ []) ≡ None
version = refl

option : mode_of (codes "puddle" ∷ codes "format" ∷ codes "--frames=4" ∷ codes "--id=7" ∷ []) ≡ None
unfolding decimal_of
option = refl

-- one `--` may stand after the mode's word, and none before it
dashes_before_the_mode : mode_of (codes "puddle" ∷ codes "--" ∷ codes "run" ∷ []) ≡ None
dashes_before_the_mode = refl

dashes_alone : mode_of (codes "puddle" ∷ codes "--" ∷ []) ≡ None
dashes_alone = refl

dashes_after_run : mode_of (codes "puddle" ∷ codes "run" ∷ codes "--" ∷ []) ≡ Some Run
dashes_after_run = refl

dashes_before_frames : mode_of (codes "puddle" ∷ codes "format" ∷ codes "--" ∷ codes "4" ∷ codes "7" ∷ []) ≡ Some (Format 4 7)
unfolding decimal_of
dashes_before_frames = refl

dashes_between : mode_of (codes "puddle" ∷ codes "format" ∷ codes "4" ∷ codes "--" ∷ codes "7" ∷ []) ≡ Some (Format 4 7)
unfolding decimal_of
dashes_between = refl

dashes_within_gen : mode_of (codes "puddle" ∷ codes "gen" ∷ codes "1" ∷ codes "--" ∷ codes "3" ∷ []) ≡ Some (Gen 1 3)
unfolding decimal_of
dashes_within_gen = refl

dashes_at_the_end : mode_of (codes "puddle" ∷ codes "format" ∷ codes "4" ∷ codes "7" ∷ codes "--" ∷ []) ≡ Some (Format 4 7)
unfolding decimal_of
dashes_at_the_end = refl

dashes_twice : mode_of (codes "puddle" ∷ codes "run" ∷ codes "--" ∷ codes "--" ∷ []) ≡ None
dashes_twice = refl

dashes_for_an_id : mode_of (codes "puddle" ∷ codes "format" ∷ codes "4" ∷ codes "--" ∷ codes "--" ∷ []) ≡ None
unfolding decimal_of
dashes_for_an_id = refl
