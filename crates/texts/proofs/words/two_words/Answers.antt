use Rattle.texts.proofs.WordCuts.{words-more}
use Rattle.texts.proofs.words.two_words.Goals as goal

pub returns-in-Some-clause-none : goal.returns-in-Some-clause-none
returns-in-Some-clause-none c =
    words-more c.args.line.now c.in_ok-first.first.now c.in_ok-first.rest.now c.in-Some.field-0.0.now c.in-Some.field-0.1.now c.in_ok-first.ensures.some c.in-Some.ensures.some
