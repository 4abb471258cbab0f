use Rattle.std.proofs.Common.{◌≡◌, Some, length, slice_get, subst, sym}
use Rattle.run_states.specs.Recorders.{IsRouterCurrent}
use Rattle.run_states.proofs.recorder.Recorder.changes.Goals as goal

pub router_changes-requires-clause-current : goal.router_changes-requires-clause-current
router_changes-requires-clause-current c = λ i x a b at has book.
    subst (λ v. IsRouterCurrent v.items x (length a.notices) b) (sym c.link_changes.ensures.prefixes)
    (c.requires.current.routers i x a b at has (subst (λ v. slice_get v.items i ≡ Some b) c.link_changes.ensures.routers book))
