use Rattle.std.proofs.Common.{sym, ◌∙◌}
use Rattle.run_states.proofs.Same.{link_same, option_same}
use Rattle.run_states.proofs.shown.is_same_link.Goals as goal

pub returns : goal.returns
returns c = λ same. option_same _ link_same _ _ (sym c.eq.ensures ∙ same)
