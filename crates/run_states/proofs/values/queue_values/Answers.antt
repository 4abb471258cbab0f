use Rattle.std.proofs.Common.{◌∙◌, ◌++◌, ℕ, ap, append_assoc, refl, map, length, arith, take_all}
use Rattle.std.proofs.lemmas.Option.{slice_get_read}
use Rattle.network_model.specs.declared.network.End.{End}
use Rattle.serde_json.specs.View.{view}
use Rattle.run_states.specs.{declared.link_book.LinkChange.LinkChange, Values.queue_listed, Values.queues_data}
use Rattle.run_states.proofs.Made.{joined_next}
use Rattle.run_states.proofs.values.queue_values.Goals as goal

pub loop-link-preserved : goal.loop-link-preserved
loop-link-preserved c =
    let n = c.loop-link.link-index in
    let ps = c.args.prefixes.now in
    let changes = c.args.changes.now in
    let x = c.loop-link-item.result in
    let of_a = λ (k : ℕ). queue_listed ps k End.A (x.1).to_a in
    let of_b = λ (k : ℕ). queue_listed ps k End.B (x.1).to_b in
    let k = c.from-link.result in
    let old = map view (c.loop-link.values).items in
    joined_next (λ (x : ℕ × LinkChange). queue_listed ps x.0 End.A (x.1).to_a ++ queue_listed ps x.0 End.B (x.1).to_b) changes n x old (map view (c.push_queue-in-loop-link.new.values).items)
    (slice_get_read changes (length changes) n x refl (omega arith) c.loop-link-item.is)
    (c.in_ok-push_queue-2.ensures ∙ ap (λ ds. ds ++ of_b k) c.in_ok-push_queue.ensures ∙ append_assoc old (of_a k) (of_b k) ∙ ap (λ l. old ++ (of_a l ++ of_b l)) c.from-link.ensures) c.loop-link.invariant

pub returns : goal.returns
returns c = c.loop-link.invariant ∙ ap (queues_data c.args.prefixes.now) (take_all c.loop-link.link-index c.args.changes.now (omega arith))
