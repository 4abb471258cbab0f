use Rattle.std.proofs.Common.{◌∷◌, [], decimal, unwrap_or, refl, ap, ◌∙◌}
use Rattle.script.proofs.Common.{false≢true, IsLinkFault, LinkWords, word-full}
use Rattle.script.specs.declared.fault.LineFault.TheVariants.{BadCost}
use Rattle.script.proofs.Exits.{at_err}
use Rattle.script.proofs.link.read_link.Goals as goal
use Rattle.script.proofs.link.read_link.Goals.{After-new}

-- the four words of the line
abbrev line_words : (c : After-new) → LinkWords c.args.line.now
line_words c =
    let words = rw c.in_ok-a.ensures.ok_part at c.four_words.ensures.some in
    let from_a = rw c.in_ok-from_a.ensures.ok_part at c.read_number.ensures.read in
    let from_b = rw c.in_ok-from_b.ensures.ok_part at c.read_number-2.ensures.read in record {
      a = c.in_ok-a.a.now;
      b = c.in_ok-a.b.now;
      from_a = c.in_ok-from_a.from_a;
      from_b = c.in_ok-from_b.from_b;
      words = words ∙ ap (λ t. c.in_ok-a.a.now ∷ c.in_ok-a.b.now ∷ t ∷ c.in_ok-a.from_b.now ∷ []) from_a.1 ∙ ap (λ t. c.in_ok-a.a.now ∷ c.in_ok-a.b.now ∷ decimal c.in_ok-from_a.from_a ∷ t ∷ []) from_b.1;
      has_a = word-full _ c.is_empty.result c.is_empty.ensures c.if-is_empty.false;
      has_b = word-full _ c.is_empty-else-is_empty.result c.is_empty-else-is_empty.ensures c.if-is_empty-2.false;
      small_a = from_a.0;
      small_b = from_b.0;
    }

pub returns-in_err-from_a-2-clause-err : goal.returns-in_err-from_a-2-clause-err
returns-in_err-from_a-2-clause-err c =
    at_err c.from_residual-in_err-from_a-2.result (IsLinkFault c.args.line.now) BadCost c.from_residual-in_err-from_a-2.ensures.1 (
      line_words (goal.at.returns-in_err-from_a-2-clause-err c).After-new,
      λ costs. false≢true (c.in_err-from_a-2.ensures.exactly.1 costs.0),
    )

pub returns-in_err-from_b-2-clause-err : goal.returns-in_err-from_b-2-clause-err
returns-in_err-from_b-2-clause-err c =
    at_err c.from_residual-in_err-from_b-2.result (IsLinkFault c.args.line.now) BadCost c.from_residual-in_err-from_b-2.ensures.1 (
      line_words (goal.at.returns-in_err-from_b-2-clause-err c).After-new,
      λ costs. false≢true (c.in_err-from_b-2.ensures.exactly.1 costs.1),
    )

pub returns-clause-ok : goal.returns-clause-ok
returns-clause-ok c =
    let a = c.unwrap_or-a.ensures ∙ ap (λ o. unwrap_or o 65535) c.number.ensures.value in
    let b = c.unwrap_or-b.ensures ∙ ap (λ o. unwrap_or o 65535) c.number-2.ensures.value in (
      line_words (goal.at.returns-clause-ok c).After-new,
      (c.in_ok-from_a-2.ensures.exactly.0 refl, c.in_ok-from_b-2.ensures.exactly.0 refl),
      λ i. record { a = a i; b = b i; from_a = c.in_ok-from_a-2.ensures.ok i; from_b = c.in_ok-from_b-2.ensures.ok i },
    )
