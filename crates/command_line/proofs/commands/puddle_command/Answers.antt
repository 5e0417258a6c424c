use Rattle.std.proofs.Common.{◌≡◌, ◌∙◌, ap, ap₂, codes, true}
use Rattle.std.proofs.lemmas.Result.{IfOk-weaker}
use Rattle.clap.specs.Simple.{App, app_of, app_of_fields, new_app, on_top, with_subcommand}
use Rattle.command_line.specs.Parsing.{format_shape}
use Rattle.command_line.proofs.commands.puddle_command.Goals as goal

-- the settings, each made by one call
abbrev without_help : App → App
without_help = on_top (λ s. record s { disable_help_flag = true })

abbrev without_topics : App → App
without_topics = on_top (λ s. record s { disable_help_subcommand = true })

abbrev without_version : App → App
without_version = on_top (λ s. record s { disable_version_flag = true })

abbrev with_a_mode : App → App
with_a_mode = on_top (λ s. record s { subcommand_required = true })

abbrev settled : App
settled = with_a_mode (without_version (without_topics (without_help (new_app (codes "puddle")))))

pub returns : goal.returns
returns c =
    let settings : app_of c.subcommand_required.result ≡ settled = ap app_of_fields c.subcommand_required.ensures
    ∙ ap with_a_mode (ap app_of_fields c.disable_version_flag.ensures ∙ ap without_version (ap app_of_fields c.disable_help_subcommand.ensures
    ∙ ap without_topics (ap app_of_fields c.disable_help_flag.ensures ∙ ap without_help c.new.ensures.app))) in
    let format : app_of c.in_ok-subcommand.field-0 ≡ with_subcommand settled format_shape =
    c.in_ok-subcommand.ensures.shape c.in_ok-numbers_command.ensures.local ∙ ap₂ with_subcommand settings c.in_ok-numbers_command.ensures.shape in
    let run : app_of c.in_ok-subcommand-2.field-0 ≡ with_subcommand (with_subcommand settled format_shape) (new_app (codes "run")).top =
    c.in_ok-subcommand-2.ensures.shape c.new-2.ensures.local ∙ ap₂ with_subcommand format (ap (λ (a : App). a.top) c.new-2.ensures.app) in
    let layout : app_of c.in_ok-subcommand-3.field-0 ≡ with_subcommand (with_subcommand (with_subcommand settled format_shape) (new_app (codes "run")).top) (new_app (codes "layout")).top =
    c.in_ok-subcommand-3.ensures.shape c.new-3.ensures.local ∙ ap₂ with_subcommand run (ap (λ (a : App). a.top) c.new-3.ensures.app) in
    let check : app_of c.in_ok-subcommand-4.field-0
    ≡ with_subcommand (with_subcommand (with_subcommand (with_subcommand settled format_shape) (new_app (codes "run")).top) (new_app (codes "layout")).top) (new_app (codes "check")).top =
    c.in_ok-subcommand-4.ensures.shape c.new-4.ensures.local ∙ ap₂ with_subcommand layout (ap (λ (a : App). a.top) c.new-4.ensures.app) in
    IfOk-weaker c.subcommand-5.result _ _ (λ r adds. adds.shape c.in_ok-numbers_command-2.ensures.local ∙ ap₂ with_subcommand check c.in_ok-numbers_command-2.ensures.shape)
    c.subcommand-5.ensures
