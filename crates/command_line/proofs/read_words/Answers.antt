use Rattle.std.proofs.Common.{map, string_bytes}
use Rattle.std.proofs.lemmas.Result.{err_from_is_err_and}
use Rattle.clap.specs.Words.{subcommand_rows_of}
use Rattle.command_line.specs.CommandLine.{mode_of}
use Rattle.command_line.specs.Parsing.{mode_found}
use Rattle.command_line.proofs.LegalModes.{legal_of}
use Rattle.command_line.proofs.Reading.{answered, mode_of-refused, mode_of-taken}
use Rattle.command_line.proofs.read_words.Goals as goal

pub returns-in_err-matches-clause-usage : goal.returns-in_err-matches-clause-usage
returns-in_err-matches-clause-usage c =
    let passed = err_from_is_err_and c.from_residual.result c.from_residual.ensures.1 in
    rw (passed.1, passed.2) (λ is. mode_of-refused (map string_bytes c.args.words.now) (c.in_err-matches.ensures.usage is))

pub returns-clause-ok : goal.returns-clause-ok
returns-clause-ok c =
    let is = mode_of-taken (map string_bytes c.args.words.now) (subcommand_rows_of c.in_ok-matches.matches) c.in_ok-matches.ensures.taken c.in_ok-matches.ensures.found in
    (answered (mode_of (map string_bytes c.args.words.now)) (mode_found (subcommand_rows_of c.in_ok-matches.matches)) c.ok_or.result is (rw (← c.mode_found.ensures) c.ok_or.ensures.value)).0

pub returns-clause-usage : goal.returns-clause-usage
returns-clause-usage c =
    let is = mode_of-taken (map string_bytes c.args.words.now) (subcommand_rows_of c.in_ok-matches.matches) c.in_ok-matches.ensures.taken c.in_ok-matches.ensures.found in
    (answered (mode_of (map string_bytes c.args.words.now)) (mode_found (subcommand_rows_of c.in_ok-matches.matches)) c.ok_or.result is (rw (← c.mode_found.ensures) c.ok_or.ensures.value)).1

pub returns-clause-legal : goal.returns-clause-legal
returns-clause-legal c =
    let is = mode_of-taken (map string_bytes c.args.words.now) (subcommand_rows_of c.in_ok-matches.matches) c.in_ok-matches.ensures.taken c.in_ok-matches.ensures.found in
    legal_of (map string_bytes c.args.words.now) c.ok_or.result
    (answered (mode_of (map string_bytes c.args.words.now)) (mode_found (subcommand_rows_of c.in_ok-matches.matches)) c.ok_or.result is (rw (← c.mode_found.ensures) c.ok_or.ensures.value)).0
