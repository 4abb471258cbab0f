use Rattle.std.proofs.Common.{◌∙◌, ◌++◌, ℕ, ap, refl, map, length, arith, take_all}
use Rattle.std.proofs.lemmas.Option.{slice_get_read}
use Rattle.serde_json.specs.View.{view}
use Rattle.run_states.specs.{declared.router_book.RouterChange.RouterChange, Values.machine_data, Values.machines_data}
use Rattle.run_states.proofs.Made.{joined_next}
use Rattle.run_states.proofs.values.machine_values.Goals as goal

pub loop-router-preserved : goal.loop-router-preserved
loop-router-preserved c =
    let n = c.loop-router.router-index in
    let w = c.args.world.now in
    let changes = c.args.changes.now in
    let x = c.loop-router-item.result in
    joined_next (λ (x : ℕ × RouterChange). map (λ m. machine_data w x.0 m.0 m.1) ((x.1).machines).items) changes n x (map view (c.loop-router.values).items) (map view (c.push_machines.new.values).items)
    (slice_get_read changes (length changes) n x refl (omega arith) c.loop-router-item.is)
    (c.in_ok-push_machines.ensures ∙ ap (λ ms. map view (c.loop-router.values).items ++ map (λ m. machine_data w x.0 m.0 m.1) ms) c.deref.ensures.value) c.loop-router.invariant

pub returns : goal.returns
returns c = c.loop-router.invariant ∙ ap (machines_data c.args.world.now) (take_all c.loop-router.router-index c.args.changes.now (omega arith))
