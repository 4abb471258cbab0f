use Rattle.std.proofs.Common.{◌≡◌, ◌∙◌, ◌+◌, ◌-◌, ◌<◌, ◌++◌, [], ◌∷◌, ℕ, suc, List, None, Some, length, take, drop, set, refl, sym, ap, subst, arith, append-nil, length-set}
use Rattle.std.proofs.lemmas.Grind.{drop_more_same}
use Rattle.no_packet_loops.proofs.Common.{Ends, Goes, World, onward, drop-set-lt, take_more_set}
use Rattle.all_packets.specs.Through.{through_from}
use Rattle.simulation.specs.Tracing.{onward_of, passed}
use Rattle.simulation.proofs.Walks.{behind, ends_here, goes_known, goes_on, real_end, traced, unfinished}
use Rattle.simulation.proofs.simulation.Simulation.trace.Goals as goal

pub returns-in-Ends-clause-traced : goal.returns-in-Ends-clause-traced
returns-in-Ends-clause-traced g c =
    let l = c.loop-count in
    let w : World = c.args.self.now.world in
    let old : List ℕ = c.args.hops.now in
    let more = c.loop-count-test.true in
    let room = l.invariant.room in
    let within : l.count < length l.hops = omega (arith, more, room) in
    let here : l.count < l.count + 1 = omega arith in
    let left : ℕ = length old - (l.count + 1) in
    let one_more : length old - l.count ≡ suc left = omega (arith, within, room) in
    let taken : take (l.count + 1) (set l.hops l.count l.at) ≡ take l.count l.hops ++ l.at ∷ [] = take_more_set l.hops l.count l.at within in
    let is : onward w c.args.addr None l.at ≡ Ends c.in-Ends.end = sym c.onward.ensures ∙ ap onward_of c.in-Ends.is in
    traced c.args.self.now c.router_count-routers.ensures.ways c.args.addr c.args.router old (set l.hops l.count l.at) (l.count + 1) (Some c.in-Ends.end) (omega (arith, within, room))
    (drop-set-lt (l.count + 1) l.hops l.count l.at here ∙ drop_more_same l.hops old l.count l.invariant.rest)
    (ap (λ xs. passed xs (Some c.in-Ends.end)) taken ∙ sym (ends_here w c.args.addr left l.at (take l.count l.hops) c.in-Ends.end is)
    ∙ ap (λ m. behind (take l.count l.hops) (through_from m w c.args.addr l.at)) (sym one_more) ∙ l.invariant.way)

pub returns-in-Ends-clause-ended : goal.returns-in-Ends-clause-ended
returns-in-Ends-clause-ended g c = λ enough. record {
  ending = c.in-Ends.end;
  is = refl;
  real = real_end c.args.self.now.world c.args.addr c.loop-count.at c.in-Ends.end (sym c.onward.ensures ∙ ap onward_of c.in-Ends.is);
}

pub loop-count-preserved : goal.loop-count-preserved
loop-count-preserved g c =
    let l = c.loop-count in
    let w : World = c.args.self.now.world in
    let old : List ℕ = c.args.hops.now in
    let more = c.loop-count-test.true in
    let room = l.invariant.room in
    let within : l.count < length l.hops = omega (arith, more, room) in
    let here : l.count < l.count + 1 = omega arith in
    let left : ℕ = length old - (l.count + 1) in
    let one_more : length old - l.count ≡ suc left = omega (arith, within, room) in
    let taken : take (l.count + 1) (set l.hops l.count l.at) ≡ take l.count l.hops ++ l.at ∷ [] = take_more_set l.hops l.count l.at within in
    let is : onward w c.args.addr None l.at ≡ Goes c.in-Goes.prefix c.in-Goes.router = sym c.onward.ensures ∙ ap onward_of c.in-Goes.is in
    record {
      known = goes_known w c.router_count-routers.ensures.routers c.args.addr l.at c.in-Goes.prefix c.in-Goes.router is;
      room = length-set l.hops l.count l.at ∙ room;
      rest = drop-set-lt (l.count + 1) l.hops l.count l.at here ∙ drop_more_same l.hops old l.count l.invariant.rest;
      way = ap (λ xs. behind xs (through_from left w c.args.addr c.in-Goes.router)) taken
          ∙ sym (goes_on w c.args.addr left l.at (take l.count l.hops) c.in-Goes.prefix c.in-Goes.router is)
          ∙ ap (λ m. behind (take l.count l.hops) (through_from m w c.args.addr l.at)) (sym one_more) ∙ l.invariant.way;
    }

pub returns-clause-traced : goal.returns-clause-traced
returns-clause-traced g c =
    let l = c.loop-count in
    let w : World = c.args.self.now.world in
    let old : List ℕ = c.args.hops.now in
    let up_to = l.auto.count-end in
    let over = c.loop-count-test.false in
    let room = l.invariant.room in
    let all : l.count ≡ length l.hops = omega (arith, up_to, over, room) in
    let none_left : length old - l.count ≡ 0 = omega (arith, all, room) in
    traced c.args.self.now c.router_count-routers.ensures.ways c.args.addr c.args.router old l.hops (length l.hops) None (omega (arith, room))
    (subst (λ n. drop n l.hops ≡ drop n old) all l.invariant.rest)
    (ap (λ n. passed (take n l.hops) None) (sym all) ∙ ap (λ xs. passed xs None) (sym (append-nil (take l.count l.hops)))
    ∙ ap (λ m. behind (take l.count l.hops) (through_from m w c.args.addr l.at)) (sym none_left) ∙ l.invariant.way)

pub returns-clause-ended : goal.returns-clause-ended
returns-clause-ended g c = λ enough.
    let l = c.loop-count in
    let w : World = c.args.self.now.world in
    let old : List ℕ = c.args.hops.now in
    let up_to = l.auto.count-end in
    let over = c.loop-count-test.false in
    let room = l.invariant.room in
    let count = c.router_count-routers.ensures.count in
    let there = c.if-from-routers.false in
    let number = c.from.ensures in
    let none_left : length old - l.count ≡ 0 = omega (arith, up_to, over, room) in
    absurd (unfinished c.args.self.now c.router_count-routers.ensures.ways c.args.addr c.args.router old (take l.count l.hops) (omega (arith, count, there, number)) enough
    (ap (λ xs. passed xs None) (sym (append-nil (take l.count l.hops))) ∙ ap (λ m. behind (take l.count l.hops) (through_from m w c.args.addr l.at)) (sym none_left) ∙ l.invariant.way))
