use Rattle.std.proofs.Common.{◌∷◌, sym, subst, ◌∙◌}
use Rattle.script.specs.declared.fault.LineFault.TheVariants.{Prefix as OfPrefix}
use Rattle.script.proofs.{Common.Text, Common.words_of, Common.NamesNoPrefix, Exits.at_err, StepTexts.IsStrange, StepTexts.no_prefix, StepTexts.text_unique, KnownPrefixes.known_by_test, KnownPrefixes.strange}
use Rattle.script.proofs.operand.read_prefix.Goals as goal

pub returns-in_err-router-clause-err : goal.returns-in_err-router-clause-err
returns-in_err-router-clause-err c =
    let none = c.in_err-router.ensures.err in
    at_err c.from_residual.result (λ e. (verb : Text) → NamesNoPrefix c.args.names.now c.args.attachments.now verb (verb ∷ words_of c.args.operands.now) e) c.in_err-router.field-0.0 c.from_residual.ensures.1
    (rw none.0 (λ verb. no_prefix c.args.names.now c.args.attachments.now verb (verb ∷ words_of c.args.operands.now) (λ router text h. absurd (none.1 verb router text h))))

pub returns-in_err-prefix-clause-err : goal.returns-in_err-prefix-clause-err
returns-in_err-prefix-clause-err c =
    at_err c.from_residual-in_err-prefix.result (λ e. (verb : Text) → NamesNoPrefix c.args.names.now c.args.attachments.now verb (verb ∷ words_of c.args.operands.now) e) (OfPrefix c.in_err-prefix.field-0.0) c.from_residual-in_err-prefix.ensures.1
    (λ verb. (c.in_ok-router.router, c.in_ok-router.text.now, c.in_ok-router.ensures.ok verb, c.in_err-prefix.ensures.fault))

pub returns-then-not-is_known-clause-err : goal.returns-then-not-is_known-clause-err
returns-then-not-is_known-clause-err c verb =
    let fails = sym c.is_known.ensures ∙ c.if-not-is_known.true in
    let none = strange c.args.attachments.now c.in_ok-prefix.prefix c.in_ok-router.text.now c.parse.result c.in_ok-prefix.was c.parse.ensures.every_prefix c.parse.ensures.every_fault fails in
    no_prefix c.args.names.now c.args.attachments.now verb (verb ∷ words_of c.args.operands.now) (λ router text h.
    subst (IsStrange c.args.attachments.now) (text_unique c.args.names.now verb _ c.in_ok-router.router router c.in_ok-router.text.now text (c.in_ok-router.ensures.ok verb) h) none)

pub returns-clause-ok : goal.returns-clause-ok
returns-clause-ok c verb =
    let known = known_by_test c.args.attachments.now c.in_ok-prefix.prefix (sym c.is_known.ensures ∙ c.if-not-is_known.false) in
    (c.in_ok-router.text.now, c.in_ok-router.ensures.ok verb, c.in_ok-prefix.ensures.read, known)
