use Rattle.std.proofs.Common.{◌∷◌, [], decimal, length, refl, ap, sym, ◌∙◌}
use Rattle.std.proofs.lemmas.Option.{slice_get_read}
use Rattle.timing.proofs.line_reading.read_link.Goals as goal

pub returns : goal.returns
returns c =
    let words = rw c.in_ok-name.ensures.ok_part at c.four_words.ensures.some in
    let there = rw c.in_ok-there.ensures.ok_part at c.read_long.ensures in
    let back = rw c.in_ok-back.ensures.ok_part at c.read_long-2.ensures in record {
      name = c.in_ok-name.name.now;
      neighbour = c.in_ok-name.neighbour.now;
      router = c.in_ok-router.router;
      far = c.in_ok-far.far;
      there = c.in_ok-there.there;
      back = c.in_ok-back.back;
      spelled = words
          ∙ ap (λ t. c.in_ok-name.name.now ∷ c.in_ok-name.neighbour.now ∷ t ∷ c.in_ok-name.back.now ∷ []) there.1
          ∙ ap (λ t. c.in_ok-name.name.now ∷ c.in_ok-name.neighbour.now ∷ decimal c.in_ok-there.there ∷ t ∷ []) back.1;
      known = sym c.number.ensures.value ∙ c.in_ok-router.ensures.ok_part;
      far_known = sym c.number-2.ensures.value ∙ c.in_ok-far.ensures.ok_part;
      joined = sym c.place_between.ensures.value ∙ c.in_ok-number.ensures.ok_part;
      link = c.index-links-number.result;
      at = slice_get_read c.args.links.now (length c.args.links.now) c.in_ok-number.number c.index-links-number.result refl (rw c.in_ok-number.ensures.ok_part at c.place_between.ensures.within) c.index-links-number.is;
      delays = c.delays_from-value.ensures;
    }
