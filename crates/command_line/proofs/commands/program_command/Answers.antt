use Rattle.std.proofs.Common.{◌∙◌, ap, ap₂, true}
use Rattle.std.proofs.lemmas.Result.{IfOk-weaker}
use Rattle.clap.specs.{Words.App, Words.with_subcommand, Simple.app_of_fields, Simple.on_top}
use Rattle.command_line.proofs.commands.program_command.Goals as goal

pub returns : goal.returns
returns c =
    let top = ap app_of_fields c.subcommand_required.ensures ∙ ap (on_top (λ s. record s { subcommand_required = true }))
    (ap app_of_fields c.after_help.ensures ∙ ap app_of_fields c.version.ensures
    ∙ ap (on_top (λ s. record s { has_version = true })) (ap app_of_fields c.about.ensures ∙ c.new.ensures.app)) in
    let check = c.in_ok-check_command.ensures in
    let run = c.in_ok-run_command.ensures in
    let replay = c.in_ok-replay_command.ensures in
    let time = c.in_ok-time_command.ensures in
    let explain = c.in_ok-explain_command.ensures in
    let shell = c.in_ok-shell_command.ensures in
    let one = c.in_ok-subcommand.ensures.shape check.1 ∙ ap₂ with_subcommand top (ap (λ (a : App). a.top) check.0) in
    let two = c.in_ok-subcommand-2.ensures.shape run.1 ∙ ap₂ with_subcommand one (ap (λ (a : App). a.top) run.0) in
    let three = c.in_ok-subcommand-3.ensures.shape replay.1 ∙ ap₂ with_subcommand two (ap (λ (a : App). a.top) replay.0) in
    let four = c.in_ok-subcommand-4.ensures.shape time.1 ∙ ap₂ with_subcommand three (ap (λ (a : App). a.top) time.0) in
    let five = c.in_ok-subcommand-5.ensures.shape explain.1 ∙ ap₂ with_subcommand four (ap (λ (a : App). a.top) explain.0) in
    IfOk-weaker c.subcommand-6.result _ _ (λ m h. h.shape shell.1 ∙ ap₂ with_subcommand five (ap (λ (a : App). a.top) shell.0)) c.subcommand-6.ensures
