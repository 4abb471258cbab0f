use Rattle.run_states.proofs.Same.{entry_same, machine_same, not_false, option_same}
use Rattle.run_states.proofs.shown.MachineShown.is_same.Goals as goal

pub returns : goal.returns
returns c = λ same. record {
  at = machine_same _ _ (not_false _ c.if-ne.ensures);
  awaits = c.has_same_ports.ensures same;
  chosen = option_same _ entry_same _ _ (not_false _ c.if-ne-2.ensures);
  published = option_same _ entry_same _ _ (not_false _ c.if-ne-3.ensures);
}
