use Rattle.std.proofs.Common.{◌∙◌, codes, refl}
use Rattle.clap.specs.Words.{found_of}
use Rattle.command_line.specs.CommandLine.{format_of}
use Rattle.command_line.proofs.TextsFound.{texts_found}
use Rattle.command_line.proofs.modes.format_found.Goals as goal

pub returns-in_err-get_str : goal.returns-in_err-get_str
returns-in_err-get_str c =
    c.from_residual.ensures ∙ texts_found format_of (codes "frames") (codes "id") (found_of c.args.arguments.now) _ _ c.in_err-get_str.ensures refl

pub returns-in_err-get_str-2 : goal.returns-in_err-get_str-2
returns-in_err-get_str-2 c =
    c.from_residual-in_err-get_str-2.ensures
    ∙ texts_found format_of (codes "frames") (codes "id") (found_of c.args.arguments.now) _ _ c.in_ok-get_str.ensures c.in_err-get_str-2.ensures

pub returns : goal.returns
returns c =
    c.format_of.ensures ∙ texts_found format_of (codes "frames") (codes "id") (found_of c.args.arguments.now) _ _ c.in_ok-get_str.ensures c.in_ok-get_str-2.ensures
