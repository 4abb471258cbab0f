use Rattle.std.proofs.Common.{◌∙◌, ap, arith, [], ◌∷◌, map}
use Rattle.std.specs.declared.vec.Vec.{Vec}
use Rattle.no_packet_loops.proofs.Common.{map-append, range_with_len}
use Rattle.world.proofs.Ranges.{one_made}
use Rattle.world.proofs.by_router.no_lists.Goals as goal

pub loop-preserved : goal.loop-preserved
loop-preserved g c = record {
  so_far = one_made (λ _. []) (map (λ (v : Vec g.row.T.Denot g.row.A.Denot). v.items) c.loop.lists.items) (map (λ (v : Vec g.row.T.Denot g.row.A.Denot). v.items) c.push_reserved.new.self.items) (map (λ _. []) (range_with_len 0 c.args.count))
      c.new.result.items c.loop.counter c.args.count (omega arith) c.new.ensures.items
      (ap (map (λ (v : Vec g.row.T.Denot g.row.A.Denot). v.items)) c.push_reserved.ensures.items ∙ map-append (λ (v : Vec g.row.T.Denot g.row.A.Denot). v.items) c.loop.lists.items (c.new.result ∷ []))
      c.loop.invariant.so_far;
  made = omega (arith, c.push_reserved.ensures.len, c.loop.invariant.made);
  room = c.push_reserved.ensures.capacity ∙ c.loop.invariant.room;
}
