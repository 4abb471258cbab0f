use Rattle.std.proofs.Common.{◌≡◌, ℕ, List, ◌<◌, ◌≤◌, ◌-◌, drop, get_or, length, sym, ap, subst, ◌∙◌, arith}
use Rattle.no_packet_loops.proofs.Common.{put, Prefix, prefix_cmp, rows_of}
use Rattle.route_table.specs.PrefixMap.{map_rows}
use Rattle.router_core.proofs.Opening.{rows_of-earlier}
use Rattle.world.proofs.Prefixes.{few_rows_after}
use Rattle.world.proofs.attachments.Attachments.new.Goals as goal

-- the rows with the one before those that were put
put_is : (own : List (Prefix × ℕ)) (i : ℕ) (here : Prefix × ℕ) (rows : List (Prefix × ℕ)) → 0 < i → i ≤ length own → here ≡ get_or own (i - 1) here → rows ≡ rows_of (drop i own)
    → put prefix_cmp here.0 here.1 rows ≡ rows_of (drop (i - 1) own)
put_is own i here rows some within at behind = ap (put prefix_cmp here.0 here.1) behind ∙ sym (rows_of-earlier own i here some within at)

pub put-requires : goal.put-requires
put-requires g c =
    let own = c.args.own.now in
    let here = c.index-own-i.result in
    let put_now = put_is own c.loop-i.i here (map_rows c.loop-i.costs) (omega arith) (omega arith) c.index-own-i.is c.loop-i.invariant.rows in
    let few = few_rows_after (c.loop-i.i - 1) own in
    let few_put : length (put prefix_cmp here.0 here.1 (map_rows c.loop-i.costs)) ≤ length own = subst (λ xs. length xs ≤ length own) (sym put_now) few in
    let room = c.loop-i.invariant.room in
    omega (arith, few_put, room)

pub loop-i-preserved : goal.loop-i-preserved
loop-i-preserved g c = record {
  rows = c.put.ensures.rows ∙ put_is c.args.own.now c.loop-i.i c.index-own-i.result (map_rows c.loop-i.costs) (omega arith) (omega arith) c.index-own-i.is c.loop-i.invariant.rows;
  room = subst (λ n. length c.args.own.now ≤ n) (sym c.put.ensures.capacity) c.loop-i.invariant.room;
}
