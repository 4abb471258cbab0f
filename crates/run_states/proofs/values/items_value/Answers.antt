use Rattle.std.proofs.Common.{◌∙◌, ap, refl, map, length, arith, take_all}
use Rattle.std.proofs.lemmas.Option.{slice_get_read}
use Rattle.serde_json.specs.{Data.array, View.view, View.items_of}
use Rattle.serde_json.proofs.Views.{view-Array}
use Rattle.run_states.specs.Values.{item_data}
use Rattle.run_states.proofs.Made.{made_next}
use Rattle.run_states.proofs.values.items_value.Goals as goal

pub loop-item-preserved : goal.loop-item-preserved
loop-item-preserved c =
    let n = c.loop-item.item-index in
    let items = c.args.items.now in
    ap (map view) c.in_ok-push.ensures.items
    ∙ made_next view (item_data c.args.prefixes.now) items n c.item-item.result (c.loop-item.values).items c.in_ok-item_value.field-0
    (slice_get_read items (length items) n c.item-item.result refl (omega arith) c.item-item.is) c.in_ok-item_value.ensures c.loop-item.invariant

pub returns : goal.returns
returns c = view-Array c.loop-item.values
    ∙ ap (λ ds. array (items_of ds)) (c.loop-item.invariant ∙ ap (map (item_data c.args.prefixes.now)) (take_all c.loop-item.item-index c.args.items.now (omega arith)))
