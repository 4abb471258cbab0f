use Rattle.std.proofs.Common.{◌≡◌, ◌<◌, length, get_or, Some, slice_get, sym, ap, ◌∙◌, arith, option_map, is_some, ℕ, List}
use Rattle.no_packet_loops.proofs.Common.{slice_get_within, Deliver, Router, World}
use Rattle.link_fifo.proofs.Changes.{slice_get-read}
use Rattle.world.proofs.Waiting.{next_step-release, next_step-publish, next_step-port}
use Rattle.world.proofs.world.World.next_step.Goals as goal
use Rattle.world.proofs.world.World.next_step.Goals.{In_ok-found}
use Rattle.world.proofs.world.World.next_step.Given as given

-- the router that is read at this place of the list that is seen
there : (xs : List Router) (w : World) (i k : ℕ) (r : Router) → xs ≡ w.routers → i ≡ k → r ≡ get_or xs i r → i < length xs → slice_get w.routers k ≡ Some r
there xs w i k r seen at read within =
    let known : i < length w.routers = (let same : length xs ≡ length w.routers = ap length seen in omega (arith, same, within)) in
    slice_get-read at read seen (omega (arith, known, at))

found_is : (g : given.Over) (c : In_ok-found g) → slice_get (c.args.self.now).routers c.args.router ≡ Some c.in_ok-found.found.now
found_is g c =
    there c.deref.result.now c.args.self.now c.from.result c.args.router c.in_ok-found.found.now
    (c.deref.ensures.value ∙ ap (λ (w : World). w.routers) c.self.view_is) c.from.ensures c.in_ok-found.ensures.lookup.1 c.in_ok-found.ensures.lookup.3.0

pub returns-then-is_some : goal.returns-then-is_some
returns-then-is_some g c =
    sym (next_step-release c.args.self.now c.args.router c.in_ok-found.found.now (found_is g (goal.at.returns-then-is_some g c).In_ok-found)
    (ap is_some (sym c.front.ensures) ∙ sym c.is_some.ensures ∙ c.if-is_some.true))

pub returns-then-due : goal.returns-then-due
returns-then-due g c =
    sym (next_step-publish c.args.self.now c.args.router c.in_ok-found.found.now (found_is g (goal.at.returns-then-due g c).In_ok-found)
    (ap is_some (sym c.front.ensures) ∙ sym c.is_some.ensures ∙ c.if-is_some.false) (sym c.if-due.ensures))

pub waiting_port-requires : goal.waiting_port-requires
waiting_port-requires g c = record { known = slice_get_within (c.args.self.now).routers c.args.router _ (found_is g (goal.at.waiting_port-requires g c).In_ok-found) }

pub returns-in_err-port : goal.returns-in_err-port
returns-in_err-port g c =
    c.from_residual-in_err-port.ensures ∙ ap (option_map (λ q. Deliver c.args.router q)) (sym c.in_err-port.was ∙ c.waiting_port.ensures)
    ∙ sym (next_step-port c.args.self.now c.args.router c.in_ok-found.found.now (found_is g (goal.at.returns-in_err-port g c).In_ok-found)
    (ap is_some (sym c.front.ensures) ∙ sym c.is_some.ensures ∙ c.if-is_some.false) (sym c.if-due.ensures))

pub returns : goal.returns
returns g c =
    ap (option_map (λ q. Deliver c.args.router q)) (sym c.in_ok-port.was ∙ c.waiting_port.ensures)
    ∙ sym (next_step-port c.args.self.now c.args.router c.in_ok-found.found.now (found_is g (goal.at.returns g c).In_ok-found)
    (ap is_some (sym c.front.ensures) ∙ sym c.is_some.ensures ∙ c.if-is_some.false) (sym c.if-due.ensures))
