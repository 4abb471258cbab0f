use Rattle.std.proofs.Common.{◌∷◌, [], Some, ap, sym, ◌∙◌}
use Rattle.timing.proofs.line_reading.read_router.Goals as goal

pub returns : goal.returns
returns c =
    let words = rw c.in_ok-name.ensures.ok_part at c.two_words.ensures.some in
    let spells = rw c.in_ok-value.ensures.ok_part at c.read_long.ensures in record {
      name = c.in_ok-name.name.now;
      spelled = words ∙ ap (λ t. c.in_ok-name.name.now ∷ t ∷ []) spells.1;
      known = sym c.number.ensures.value ∙ c.in_ok-router.ensures.ok_part ∙ ap Some (sym c.from.ensures);
    }
