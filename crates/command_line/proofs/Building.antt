-- Commands that are built step by step.
use Rattle.std.proofs.Common.{◌≡◌, ◌≤◌, ◌<◌, Bor, ◌+◌, ◌++◌, ◌||◌, ◌∙◌, [], ◌∷◌, List, ℕ, length, take, fold, map, add-one, ap, ap₂, get_or, subst, sym, false}
use Rattle.std.proofs.{Math.Seq.take-suc, lemmas.List.map_push, lemmas.List.take_all, lemmas.List.Sums.fold_push}
use Rattle.clap.specs.Words.{App, Rule, Text, rule_of, with_rule, AddsArg}
use Rattle.clap.specs.{declared.builder.arg.Arg.Arg, declared.builder.command.Command.Command}
use Rattle.command_line.specs.{Commands.IsProgramCommand, Commands.argument_rule, declared.arguments.Argument.Argument, declared.arguments.Shape.TheVariants.Word}

-- an argument is one rule more
one_more : (old new : Command) (a : Arg) (app : App) (r : Rule) → IsProgramCommand app old → AddsArg old a new → rule_of a ≡ r → a.global ≡ false
    → IsProgramCommand (with_rule app r) new
one_more old new a app r is added rule local = (added.shape local ∙ ap₂ with_rule is.0 rule, added.globals ∙ ap₂ ◌||◌ is.1 local)

-- what stands for the argument at a place that there is not
abbrev none_there : Argument
none_there = let empty : Bor Text = record { ref_ptr = (0, 0); now = [] } in record { shape = Word; id = empty; value = empty; help = empty }

-- the argument at the place is added to those before it
pub next : (arguments : List Argument) (at : ℕ) (old new : Command) (a : Arg) (app : App) → at < length arguments
    → IsProgramCommand (fold with_rule app (map argument_rule (take at arguments))) old → AddsArg old a new
    → rule_of a ≡ argument_rule (get_or arguments at none_there) → a.global ≡ false
    → IsProgramCommand (fold with_rule app (map argument_rule (take (at + 1) arguments))) new
next arguments at old new a app below is added rule local =
    let x = get_or arguments at none_there in
    let taken : take (at + 1) arguments ≡ take at arguments ++ x ∷ [] = ap (λ n. take n arguments) (add-one at) ∙ take-suc arguments at none_there below in
    let rules = ap (map argument_rule) taken ∙ map_push argument_rule (take at arguments) x in
    subst (λ rs. IsProgramCommand (fold with_rule app rs) new) (sym rules)
    (subst (λ b. IsProgramCommand b new) (sym (fold_push with_rule app (map argument_rule (take at arguments)) (argument_rule x)))
    (one_more old new a _ (argument_rule x) is added rule local))

-- all arguments are added
pub whole : (arguments : List Argument) (done : ℕ) (c : Command) (app : App) → length arguments ≤ done → IsProgramCommand (fold with_rule app (map argument_rule (take done arguments))) c
    → IsProgramCommand (fold with_rule app (map argument_rule arguments)) c
whole arguments done c app all is = subst (λ xs. IsProgramCommand (fold with_rule app (map argument_rule xs)) c) (take_all done arguments all) is
