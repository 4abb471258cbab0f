use Rattle.std.proofs.Common.{ap, sym, ◌∙◌, ◌∷◌}
use Rattle.texts.specs.Words.{words_of}
use Rattle.timing.proofs.Reading.{not_so}
use Rattle.timing.proofs.line_reading.read_change.Goals as goal

pub returns : goal.returns
returns c =
    let words = rw c.in_ok-moment.ensures.ok_part at c.first_word.ensures.some in
    let moment = rw c.in_ok-moment-2.ensures.ok_part at c.read_long.ensures in record {
      words = words_of c.in_ok-moment.step.now;
      spelled = words ∙ ap (λ t. t ∷ words_of c.in_ok-moment.step.now) moment.1;
      step = c.in_ok-step.ensures.ok;
      given = not_so _ (sym c.if-not-is_change.false ∙ c.is_change.ensures);
    }
