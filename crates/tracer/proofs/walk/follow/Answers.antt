use Rattle.std.proofs.Common.{rules, ◌≡◌, ◌∙◌, ◌+◌, ◌-◌, ◌<◌, length, ◌++◌, [], ◌∷◌, Some, sym, ap, subst, suc, arith}
use Rattle.no_packet_loops.proofs.Common.{Ends, Goes, onward}
use Rattle.fabric.specs.Fabric.{Fabric}
use Rattle.tracer.specs.{Tracing.traced_onward, Following.followed_from, Following.kept_prefix}
use Rattle.tracer.proofs.Walks.{behind, ends_here, goes_on, goes_known}
use Rattle.tracer.proofs.walk.follow.Goals as goal

pub returns-in-Ends-clause-ok : goal.returns-in-Ends-clause-ok
returns-in-Ends-clause-ok g c =
    let w = c.args.fabric.now.world in
    let left = c.router_count-routers.result - (c.loop.counter + 1) in
    let one_more : c.router_count-routers.result - c.loop.counter ≡ suc left = omega arith in
    let pushed : c.push.new.self.items ≡ c.loop.path.items ++ c.loop.at ∷ [] = search rules in
    let is : onward w c.args.addr c.loop.first c.loop.at ≡ Ends c.in-Ends.end
    = sym (subst (λ (f : Fabric). traced_onward c.in_ok-next.next ≡ onward f.world c.args.addr c.loop.first c.loop.at) c.loop.invariant.same c.in_ok-next.ensures.ok) ∙ ap traced_onward c.in-Ends.is in
    let known : c.args.router < length w.routers = search rules in (
      known,
      ap (λ xs. record { path = xs; end = Some c.in-Ends.end }) pushed
          ∙ sym (ends_here c.args.through w c.args.addr left c.loop.first c.loop.at c.loop.path.items c.in-Ends.end is)
          ∙ ap (λ m. behind c.loop.path.items (followed_from c.args.through m w c.args.addr c.loop.first c.loop.at)) (sym one_more)
          ∙ c.loop.invariant.rest,
    )

pub loop-preserved : goal.loop-preserved
loop-preserved g c =
    let w = c.args.fabric.now.world in
    let left = c.router_count-routers.result - (c.loop.counter + 1) in
    let one_more : c.router_count-routers.result - c.loop.counter ≡ suc left = omega arith in
    let pushed : c.push.new.self.items ≡ c.loop.path.items ++ c.loop.at ∷ [] = search rules in
    let is : onward w c.args.addr c.loop.first c.loop.at ≡ Goes c.in-Goes.prefix c.in-Goes.router
    = sym (subst (λ (f : Fabric). traced_onward c.in_ok-next.next ≡ onward f.world c.args.addr c.loop.first c.loop.at) c.loop.invariant.same c.in_ok-next.ensures.ok) ∙ ap traced_onward c.in-Goes.is in
    record {
      same = c.ask.ensures.same ∙ c.loop.invariant.same;
      known = goes_known w c.router_count-routers.ensures.routers c.args.addr c.loop.first c.loop.at c.in-Goes.prefix c.in-Goes.router is;
      passed = search rules;
      rest = ap (λ first. behind c.push.new.self.items (followed_from c.args.through left w c.args.addr first c.in-Goes.router)) c.kept_prefix-first.ensures
          ∙ ap (λ xs. behind xs (followed_from c.args.through left w c.args.addr (kept_prefix c.args.through c.in-Goes.prefix) c.in-Goes.router)) pushed
          ∙ sym (goes_on c.args.through w c.args.addr left c.loop.first c.loop.at c.loop.path.items c.in-Goes.prefix c.in-Goes.router is)
          ∙ ap (λ m. behind c.loop.path.items (followed_from c.args.through m w c.args.addr c.loop.first c.loop.at)) (sym one_more)
          ∙ c.loop.invariant.rest;
    }
