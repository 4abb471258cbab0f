use Rattle.std.proofs.Common.{◌∙◌, ◌++◌, ℕ, ap, refl, map, length, arith, take_all}
use Rattle.std.proofs.lemmas.Option.{slice_get_read}
use Rattle.serde_json.specs.View.{view}
use Rattle.run_states.specs.{declared.link_book.LinkChange.LinkChange, Values.link_data, Values.links_data, Values.listed}
use Rattle.run_states.proofs.Made.{joined_next}
use Rattle.run_states.proofs.values.link_values.Goals as goal

pub loop-link-preserved : goal.loop-link-preserved
loop-link-preserved c =
    let n = c.loop-link.link-index in
    let changes = c.args.changes.now in
    joined_next (λ (x : ℕ × LinkChange). listed (link_data x.0) (x.1).shown) changes n c.loop-link-item.result (map view (c.loop-link.values).items) (map view (c.push_link.new.values).items)
    (slice_get_read changes (length changes) n c.loop-link-item.result refl (omega arith) c.loop-link-item.is)
    (c.in_ok-push_link.ensures ∙ ap (λ k. map view (c.loop-link.values).items ++ listed (link_data k) (c.loop-link-item.result.1).shown) c.from.ensures) c.loop-link.invariant

pub returns : goal.returns
returns c = c.loop-link.invariant ∙ ap links_data (take_all c.loop-link.link-index c.args.changes.now (omega arith))
