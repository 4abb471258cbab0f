use Rattle.std.proofs.Common.{◌∙◌, ◌++◌, [], ◌∷◌, ℕ, ap, sym, append_assoc, refl, map, length, take, arith}
use Rattle.std.proofs.{lemmas.List.take_all, lemmas.List.map-append, lemmas.Option.slice_get_read}
use Rattle.serde_json.specs.{View.view, declared.value.Value.Object}
use Rattle.serde_json.proofs.Views.{view-Object}
use Rattle.run_states.specs.{declared.shown.MachineShown.MachineShown, Values.machine_data}
use Rattle.network_model.proofs.Fronts.{take_next}
use Rattle.run_states.proofs.Made.{pushed}
use Rattle.run_states.proofs.values.push_machines.Goals as goal

pub loop-prefix-preserved : goal.loop-prefix-preserved
loop-prefix-preserved c =
    let n = c.loop-prefix.prefix-index in
    let machines = c.args.machines.now in
    let x = c.loop-prefix-item.result in
    let f = λ (m : ℕ × MachineShown). machine_data c.args.world.now c.args.router m.0 m.1 in
    let start = map view (c.args.values.now).items in
    pushed view (c.loop-prefix.values).items (c.push.new.self).items (Object c.put_machine.new.members) (f x) c.in_ok-push.ensures.items (view-Object c.put_machine.new.members ∙ c.in_ok-put_machine.ensures)
    ∙ ap (λ ds. ds ++ f x ∷ []) c.loop-prefix.invariant ∙ append_assoc start (map f (take n machines)) (f x ∷ [])
    ∙ ap (λ ds. start ++ ds) (sym (ap (map f) (take_next machines n x (slice_get_read machines (length machines) n x refl (omega arith) c.loop-prefix-item.is)) ∙ map-append f (take n machines) (x ∷ [])))

pub returns : goal.returns
returns c = c.loop-prefix.invariant ∙ ap (λ ms. map view (c.args.values.now).items ++ map (λ m. machine_data c.args.world.now c.args.router m.0 m.1) ms) (take_all c.loop-prefix.prefix-index c.args.machines.now (omega arith))
