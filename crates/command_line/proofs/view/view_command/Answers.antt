use Rattle.std.proofs.Common.{◌∙◌, ap, codes, true}
use Rattle.std.proofs.lemmas.Result.{IfOk-weaker}
use Rattle.clap.specs.{Words.new_app, Simple.app_of_fields, Simple.on_top}
use Rattle.command_line.specs.Commands.{IsProgramCommand}
use Rattle.command_line.proofs.view.view_command.Goals as goal

pub returns : goal.returns
returns c =
    let none : IsProgramCommand (on_top (λ s. record s { has_version = true }) (new_app (codes "dualnet-view"))) c.after_help-command.result = (
      ap app_of_fields c.after_help-command.ensures ∙ ap app_of_fields c.version.ensures
          ∙ ap (on_top (λ s. record s { has_version = true })) (ap app_of_fields c.about.ensures ∙ c.new.ensures.app),
      ap (λ f. f.has_globals) c.after_help-command.ensures ∙ ap (λ f. f.has_globals) c.version.ensures ∙ ap (λ f. f.has_globals) c.about.ensures ∙ c.new.ensures.local,
    ) in
    IfOk-weaker c.with_arguments.result _ _ (λ m is. is.0) (c.with_arguments.ensures _ none)
