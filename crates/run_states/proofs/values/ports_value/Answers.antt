use Rattle.std.proofs.Common.{◌≡◌, ◌∙◌, ◌++◌, [], ◌∷◌, ap, sym, map, arith, filter}
use Rattle.std.specs.FinSet as set
use Rattle.std.specs.List.{range_with_len}
use Rattle.std.proofs.lemmas.List.{map-append, append-nil}
use Rattle.serde_json.specs.{Data.array, View.view, View.items_of}
use Rattle.serde_json.proofs.Views.{view-Array}
use Rattle.run_states.specs.Values.{port_data}
use Rattle.run_states.proofs.Made.{passed_next, passes, fails}
use Rattle.run_states.proofs.values.ports_value.Goals as goal
use Rattle.run_states.proofs.values.ports_value.Goals.{then-has+in_ok-push, else-has}

pub loop-port-preserved : goal.loop-port-preserved
loop-port-preserved c =
    let n = c.loop-port.port in
    let has = set.contains c.args.ports in
    let made = port_data c.args.world.now c.args.router in
    elim c.if-has.branch [
      | then-has+in_ok-push w ↦
          ap (λ v. map view v.items) w.links-is ∙ ap (map view) w.in_ok-push.ensures.items ∙ map-append view (c.loop-port.links).items (w.port_value.result ∷ [])
          ∙ ap (λ ds. ds ++ view w.port_value.result ∷ []) c.loop-port.invariant ∙ ap (λ d. map made (filter has (range_with_len 0 n)) ++ d ∷ []) w.port_value.ensures
          ∙ sym (passed_next made has n ∙ ap (λ ds. map made (filter has (range_with_len 0 n)) ++ ds) (passes made has n (sym c.has.ensures.value ∙ w.if-has.true)))
      | else-has w ↦
          ap (λ v. map view v.items) w.links-is ∙ c.loop-port.invariant
          ∙ sym (passed_next made has n ∙ ap (λ ds. map made (filter has (range_with_len 0 n)) ++ ds) (fails made has n (sym c.has.ensures.value ∙ w.if-has.false)) ∙ append-nil _)
    ]

pub returns : goal.returns
returns c =
    let last : c.loop-port.port ≡ 32 = omega arith in
    view-Array c.loop-port.links ∙ ap (λ ds. array (items_of ds)) (c.loop-port.invariant ∙ ap (λ n. map (port_data c.args.world.now c.args.router) (filter (set.contains c.args.ports) (range_with_len 0 n))) last)
