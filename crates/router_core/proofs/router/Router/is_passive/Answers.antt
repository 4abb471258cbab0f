use Rattle.std.proofs.Common.{◌≡◌, refl, ap, ◌∙◌, is_none, List, [], ◌∷◌, ◌&&◌}
use Rattle.network_model.proofs.Common.{list_all, Prefix, Router}
use Rattle.dual_machine.specs.State.{MachineState}
use Rattle.router_core.specs.Parts.{machines_of}
use Rattle.router_core.proofs.router.Router.is_passive.Goals as goal

all_passive : (ms : List (Prefix × MachineState)) → list_all (λ m. is_none (m.1).machine.computation) ms ≡ list_all (λ m. is_none (m.1).computation) (machines_of ms)
all_passive [] = refl
all_passive (m ∷ ms) = ap (λ b. is_none (m.1).machine.computation && b) (all_passive ms)

pub returns : goal.returns
returns g c =
    c.are_passive.ensures
    ∙ all_passive c.deref.result.now
    ∙ ap (λ (ms : List (Prefix × MachineState)). list_all (λ m. is_none (m.1).computation) (machines_of ms)) c.deref.ensures.value
    ∙ ap (λ (r : Router). list_all (λ m. is_none (m.1).computation) r.machines) c.self.view_is
