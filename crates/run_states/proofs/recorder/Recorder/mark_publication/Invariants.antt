use Rattle.std.proofs.Common.{◌≡◌, is_some}
use Rattle.std.specs.FinMap.{find as row_of}
use Rattle.ipv4_prefix.specs.Prefix.{prefix_cmp}
use Rattle.network_model.specs.declared.step.Step.TheVariants.{Publish}
use Rattle.run_states.specs.Marks.{RouterMarked, may_touch}
use Rattle.run_states.proofs.recorder.Recorder.mark_publication.Given as goal

abbrev pub invariant-loop-prefix : goal.invariant-loop-prefix
invariant-loop-prefix l = RouterMarked l.router (λ p. may_touch l.world (Publish l.router) p ≡ is_some (row_of prefix_cmp p l.prefix-iterator)) l.fn.self l.self
