-- From what a parse found to the mode that the words ask for.
use Rattle.std.proofs.Common.{◌≡◌, ◌≢◌, ◌∙◌, List, [], ◌∷◌, Option, Some, None, Result, IfErr, IfOk, refl, sym, ap₂, subst}
use Rattle.std.specs.Option.{ok_or}
use Rattle.clap.specs.Words.{Row, Text, fault_of, subcommand_of}
use Rattle.clap.specs.Kinds.{Kinds}
use Rattle.command_line.specs.declared.WordsFault.{WordsFault}
use Rattle.command_line.specs.declared.WordsFault.TheVariants.{Usage}
use Rattle.command_line.specs.declared.modes.Mode.{Mode}
use Rattle.command_line.specs.CommandLine.{mode_of}
use Rattle.command_line.specs.Parsing.{mode_found, the_command, where_faultless}
use Rattle.command_line.proofs.Agreement.{agrees}

-- words that the command takes ask for the mode that the parse found
pub mode_of-taken : (words : List Text) (found : Option (Text × List Row)) → fault_of the_command words ≡ [] → found ≡ subcommand_of the_command words
    → mode_of words ≡ mode_found found
mode_of-taken words found taken is = sym (agrees words) ∙ ap₂ (λ kinds o. where_faultless kinds (mode_found o)) taken (sym is)

without_mode : (kinds : Kinds) (mode : Option Mode) → kinds ≢ [] → where_faultless kinds mode ≡ None
without_mode [] mode some = absurd (some refl)
without_mode (kind ∷ kinds) mode some = refl

-- words that the command does not take ask for no mode
pub mode_of-refused : (words : List Text) → fault_of the_command words ≢ [] → mode_of words ≡ None
mode_of-refused words faulty = sym (agrees words) ∙ without_mode (fault_of the_command words) (mode_found (subcommand_of the_command words)) faulty

abbrev Answers : Option Mode → Result Mode WordsFault → Type 0
Answers mode result = IfOk result (λ m. mode ≡ Some m) × IfErr result (λ e. e ≡ Usage → mode ≡ None)

asked : (mode found : Option Mode) → mode ≡ found → Answers mode (ok_or found Usage)
asked mode None is = (tt, λ _. is)
asked mode (Some m) is = (is, tt)

-- the answer is the mode that was found, or `Usage` if none was found
pub answered : (mode found : Option Mode) (result : Result Mode WordsFault) → mode ≡ found → result ≡ ok_or found Usage → Answers mode result
answered mode found result is value = subst (Answers mode) (sym value) (asked mode found is)
