use Rattle.std.proofs.Common.{◌≡◌, None, Some, Ok, Err, refl, sym, ap, subst, ◌∙◌, arith, slice_get, is_none}
use Rattle.no_packet_loops.proofs.Common.{Detach, Refusal, World}
use Rattle.network_model.specs.Step as steps
use Rattle.link_fifo.proofs.Changes.{written, slice_get-read}
use Rattle.world.specs.Steps.{IsDoneOr, prefix_refusal}
use Rattle.router_core.proofs.Refused.{gave_up}
use Rattle.world.proofs.Insides.{world_in}
use Rattle.world.proofs.Done.{known_within, detach_lawful, not_attached, refused, is_done, found_no_memory, written_back, in_bounds}
use Rattle.world.proofs.world.World.detach.Goals as goal
use Rattle.world.proofs.world.World.detach.Goals.{In_ok-known_prefix, After-index_mut-attachments, After-detach}
use Rattle.world.proofs.world.World.detach.Given as given

-- the router and the prefix are there
known : (g : given.Over) (c : In_ok-known_prefix g) → prefix_refusal (world_in c.self.inside) c.args.router c.args.prefix ≡ None
known g c = ap (λ w. prefix_refusal w c.args.router c.args.prefix) c.self.view_is ∙ c.in_ok-known_prefix.ensures.ok

pub index_mut-attachments-requires : goal.index_mut-attachments-requires
index_mut-attachments-requires g c =
    in_bounds c.from.ensures (known_within (world_in c.self.inside) c.args.router c.args.prefix c.self.invariant (known g (goal.at.index_mut-attachments-requires g c).In_ok-known_prefix)) c.self.inside.attachments.ok.0

attachments_are : (g : given.Over) (c : After-index_mut-attachments g) → prefix_refusal (world_in c.self.inside) c.args.router c.args.prefix ≡ None → slice_get c.self.inside.attachments.items c.args.router ≡ Some c.index_mut-attachments.result.now
attachments_are g c known = slice_get-read c.from.ensures c.index_mut-attachments.ensures.value refl (known_within (world_in c.self.inside) c.args.router c.args.prefix c.self.invariant known)

pub returns-then-is_none-clause-cause : goal.returns-then-is_none-clause-cause
returns-then-is_none-clause-cause g c =
    let at = goal.at.returns-then-is_none-clause-cause g c in
    let here = known g at.In_ok-known_prefix in
    subst (λ w. IsDoneOr (steps.refusal w (Detach c.args.router c.args.prefix)) (Err Refusal.NotAttached)) c.self.view_is
    (refused _ (Err Refusal.NotAttached) Refusal.NotAttached
    (not_attached (world_in c.self.inside) c.args.router c.args.prefix c.index_mut-attachments.result.now here (attachments_are g at.After-index_mut-attachments here)
    (ap is_none (sym c.cost.ensures) ∙ grind (arith, c.is_none.ensures, c.if-is_none.true))) refl)

pub returns-in_err-detach-clause-err : goal.returns-in_err-detach-clause-err
returns-in_err-detach-clause-err g c =
    gave_up c.from_residual-in_err-detach.result
    (ap (λ xs. record (world_in c.self.inside) { attachments = xs }) (written_back c.self.inside.attachments.items c.from.result c.index_mut-attachments.ensures.value c.in_err-detach.ensures.err) ∙ c.self.view_is)

-- a prefix to which the router is attached may be taken from it
lawful : (g : given.Over) (c : After-detach g) → prefix_refusal (world_in c.self.inside) c.args.router c.args.prefix ≡ None → slice_get c.self.inside.attachments.items c.args.router ≡ Some c.index_mut-attachments.result.now
    → steps.Lawful (world_in c.self.inside) (Detach c.args.router c.args.prefix)
lawful g c known there =
    detach_lawful (world_in c.self.inside) c.args.router c.args.prefix c.index_mut-attachments.result.now known there
    (ap is_none (sym c.cost.ensures) ∙ grind (arith, c.is_none.ensures, c.if-is_none.false))

pub returns-in_err-detach-clause-cause : goal.returns-in_err-detach-clause-cause
returns-in_err-detach-clause-cause g c =
    let at = goal.at.returns-in_err-detach-clause-cause g c in
    let here = known g at.In_ok-known_prefix in
    subst (λ w. IsDoneOr (steps.refusal w (Detach c.args.router c.args.prefix)) c.from_residual-in_err-detach.result) c.self.view_is
    (found_no_memory (world_in c.self.inside) (Detach c.args.router c.args.prefix) c.from_residual-in_err-detach.result
    (lawful g at.After-detach here (attachments_are g at.After-index_mut-attachments here)) c.from_residual-in_err-detach.ensures.1)

pub returns-clause-ok : goal.returns-clause-ok
returns-clause-ok g c =
    ap (λ xs. record (world_in c.self.inside) { attachments = xs })
    (written (steps.without_attachment c.args.prefix) c.from.ensures c.index_mut-attachments.ensures.value c.in_ok-detach.ensures.ok refl)
    ∙ ap (λ (w : World). steps.changed_attachments c.args.router (steps.without_attachment c.args.prefix) w) c.self.view_is

pub returns-clause-cause : goal.returns-clause-cause
returns-clause-cause g c =
    let at = goal.at.returns-clause-cause g c in
    let here = known g at.In_ok-known_prefix in
    subst (λ w. IsDoneOr (steps.refusal w (Detach c.args.router c.args.prefix)) (Ok (tt {0}))) c.self.view_is
    (is_done (world_in c.self.inside) (Detach c.args.router c.args.prefix) (lawful g at.After-detach here (attachments_are g at.After-index_mut-attachments here)))
