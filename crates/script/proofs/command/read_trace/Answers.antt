use Rattle.std.proofs.Common.{◌≡◌, ◌≢◌, rules, inr, [], ◌∷◌, codes, ap, ◌∙◌}
use Rattle.script.specs.declared.fault.LineFault.TheVariants.{Prefix as OfPrefix}
use Rattle.script.proofs.{Common.Text, Common.words_of, Common.AsksNoTrace, Exits.at_err, CommandTexts.two_word_fault}
use Rattle.script.proofs.command.read_trace.Goals as goal

-- three words, of which the second is no address
pub returns-in_err-addr-in-Some-clause-err : goal.returns-in_err-addr-in-Some-clause-err
returns-in_err-addr-in-Some-clause-err c =
    let through : c.in-Some.option.now ≡ codes "--through" = search rules in
    let some : c.in-Some.text.now ≢ [] = search rules in
    let spelled : codes "trace" ∷ words_of c.args.operands.now ≡ codes "trace" ∷ c.in-Some.name.now ∷ c.in-Some.text.now ∷ codes "--through" ∷ [] =
    ap (λ ws. codes "trace" ∷ ws) c.in-Some.ensures.some ∙ ap (λ (option : Text). codes "trace" ∷ c.in-Some.name.now ∷ c.in-Some.text.now ∷ option ∷ []) through in
    at_err c.from_residual-in_err-addr-in-Some.result (AsksNoTrace c.args.names.now (codes "trace" ∷ words_of c.args.operands.now)) (OfPrefix c.in_err-addr-in-Some.field-0.0) c.from_residual-in_err-addr-in-Some.ensures.1 (
      c.in_err-addr-in-Some.ensures.bad_address,
      inr (c.in_ok-router-in-Some.router, c.in-Some.text.now, record { name = c.in-Some.name.now; spelled = spelled; has_text = some; known = c.in_ok-router-in-Some.ensures.ok.0 }, c.in_err-addr-in-Some.ensures.no_address),
    )

-- not three words
pub returns-in_err-router-in-None-clause-err : goal.returns-in_err-router-in-None-clause-err
returns-in_err-router-in-None-clause-err c =
    at_err c.from_residual-in_err-router-in-None.result (AsksNoTrace c.args.names.now (codes "trace" ∷ words_of c.args.operands.now)) c.in_err-router-in-None.field-0.0 c.from_residual-in_err-router-in-None.ensures.1
    (two_word_fault c.args.names.now (words_of c.args.operands.now) c.in-None.ensures.none c.in_err-router-in-None.field-0.0 (c.in_err-router-in-None.ensures.err (codes "trace")))
