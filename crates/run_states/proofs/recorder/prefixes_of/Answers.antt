use Rattle.std.proofs.Common.{◌+◌, ◌≤◌, length, map, take_all, sym, subst, ap, ◌∙◌, arith, is_some}
use Rattle.network_model.proofs.Common.{find as row_of, put, list_any, prefix_cmp, prefix_eq}
use Rattle.route_table.specs.PrefixMap.{map_rows, map_capacity}
use Rattle.route_table.proofs.Kept.{length-put_at_most}
use Rattle.run_states.proofs.Prefixes.{given_next, keys_next}
use Rattle.run_states.proofs.recorder.prefixes_of.Goals as goal

pub put-requires : goal.put-requires
put-requires c =
    let rows = map_rows c.reserve.new.self in
    let more = length-put_at_most c.attachment-item.result.0 tt rows (c.reserve.new.self).sorted in
    let room : length rows + 1 ≤ map_capacity c.reserve.new.self = subst (λ xs. length xs + 1 ≤ map_capacity c.reserve.new.self) (sym c.in_ok-reserve.ensures.rows) c.in_ok-reserve.ensures.ok in
    omega (arith, more, room)

pub loop-attachment-init : goal.loop-attachment-init
loop-attachment-init c = λ p. ap (λ rows. is_some (row_of prefix_cmp p rows)) c.new-given.ensures.rows

pub loop-attachment-preserved : goal.loop-attachment-preserved
loop-attachment-preserved c = λ p.
    ap (λ rows. is_some (row_of prefix_cmp p rows)) (c.put.ensures.rows ∙ ap (put prefix_cmp c.attachment-item.result.0 tt) c.in_ok-reserve.ensures.rows)
    ∙ given_next c.attachments-attachment-items.result.now c.loop-attachment.attachment-index c.attachment-item.result (map_rows c.loop-attachment.given) p c.loop-attachment-test.true c.attachment-item.is (c.loop-attachment.invariant p)

pub loop-row-preserved : goal.loop-row-preserved
loop-row-preserved c = c.in_ok-push.ensures.items
    ∙ keys_next c.as_slice-row-items.result.now c.loop-row.row-index c.row-item.result (c.loop-row.prefixes).items c.loop-row-test.true c.row-item.is c.loop-row.invariant

pub returns : goal.returns
returns c = record {
  rows = map_rows c.loop-attachment.given;
  are_keys = c.loop-row.invariant ∙ ap (map (λ r. r.0)) (take_all c.loop-row.row-index c.as_slice-row-items.result.now c.loop-row-test.false ∙ c.as_slice-row-items.ensures);
  in_order = (c.loop-attachment.given).sorted;
  have = λ p. c.loop-attachment.invariant p
      ∙ ap (list_any (λ a. prefix_eq p a.0)) (take_all c.loop-attachment.attachment-index c.attachments-attachment-items.result.now c.loop-attachment-test.false ∙ c.attachments-attachment-items.ensures.attachments);
}
