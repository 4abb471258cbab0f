use Rattle.std.proofs.Common.{◌∙◌, ◌++◌, ℕ, ap, refl, map, length, arith, take_all}
use Rattle.std.proofs.lemmas.Option.{slice_get_read}
use Rattle.serde_json.specs.View.{view}
use Rattle.run_states.specs.{declared.router_book.RouterChange.RouterChange, Values.router_data, Values.routers_data, Values.listed}
use Rattle.run_states.proofs.Made.{joined_next}
use Rattle.run_states.proofs.values.router_values.Goals as goal

pub loop-router-preserved : goal.loop-router-preserved
loop-router-preserved c =
    let n = c.loop-router.router-index in
    let changes = c.args.changes.now in
    joined_next (λ (x : ℕ × RouterChange). listed (router_data x.0) (x.1).shown) changes n c.loop-router-item.result (map view (c.loop-router.values).items) (map view (c.push_router.new.values).items)
    (slice_get_read changes (length changes) n c.loop-router-item.result refl (omega arith) c.loop-router-item.is)
    (c.in_ok-push_router.ensures ∙ ap (λ k. map view (c.loop-router.values).items ++ listed (router_data k) (c.loop-router-item.result.1).shown) c.from.ensures) c.loop-router.invariant

pub returns : goal.returns
returns c = c.loop-router.invariant ∙ ap routers_data (take_all c.loop-router.router-index c.args.changes.now (omega arith))
