use Rattle.std.proofs.Common.{refl, ◌≡◌, ◌+◌, ◌++◌, ◌∷◌, [], sym, ap, ◌∙◌, arith, map, take, filter, get_or, add-one}
use Rattle.no_packet_loops.proofs.Common.{range_with_len, changed_at, touches, take-suc}
use Rattle.world.proofs.ByRouter.{made_at, made_count}
use Rattle.world.proofs.Faults.{bad_link_first, link_fault_first, no_fault_here, link_causes_from-end}
use Rattle.world.proofs.LinksAtRouters.{HasEnds, bad_ends, bad_by_twin, good_ends, lists_with_link}
use Rattle.world.proofs.link_faults.fault_by_lists.Goals as goal

pub returns-then-has_bad_ends : goal.returns-then-has_bad_ends
returns-then-has_bad_ends c =
    sym (bad_link_first c.args.limits.now c.args.routers c.args.links.now c.loop-i.i c.index-links-i.result (omega arith) c.index-links-i.is
    (bad_ends c.args.routers (take c.loop-i.i c.args.links.now) c.index-links-i.result (sym c.has_bad_ends.ensures ∙ c.if-has_bad_ends.true)))
    ∙ c.loop-i.invariant.rest

-- there is a list at each end
pub index-of_a-requires : goal.index-of_a-requires
index-of_a-requires c =
    let ends : HasEnds c.args.routers c.index-links-i.result = good_ends c.args.routers c.index-links-i.result (sym c.has_bad_ends.ensures ∙ c.if-has_bad_ends.false) in
    let many = made_count (λ v. v.items) (λ j. filter (touches j) (take c.loop-i.i c.args.links.now)) c.loop-i.lists.items c.args.routers c.loop-i.invariant.lists in
    omega (arith, c.from.ensures, ends.a_known, many, c.loop-i.lists.ok.0)

pub index-of_b-requires : goal.index-of_b-requires
index-of_b-requires c =
    let ends : HasEnds c.args.routers c.index-links-i.result = good_ends c.args.routers c.index-links-i.result (sym c.has_bad_ends.ensures ∙ c.if-has_bad_ends.false) in
    let many = made_count (λ v. v.items) (λ j. filter (touches j) (take c.loop-i.i c.args.links.now)) c.loop-i.lists.items c.args.routers c.loop-i.invariant.lists in
    omega (arith, c.from-in-loop-i.ensures, ends.b_known, many, c.loop-i.lists.ok.0)

pub put_at-requires : goal.put_at-requires
put_at-requires c =
    let ends : HasEnds c.args.routers c.index-links-i.result = good_ends c.args.routers c.index-links-i.result (sym c.has_bad_ends.ensures ∙ c.if-has_bad_ends.false) in
    let many = made_count (λ v. v.items) (λ j. filter (touches j) (take c.loop-i.i c.args.links.now)) c.loop-i.lists.items c.args.routers c.loop-i.invariant.lists in
    omega (arith, ends.a_known, many, c.loop-i.lists.ok.0)

pub put_at-requires-in-loop-i : goal.put_at-requires-in-loop-i
put_at-requires-in-loop-i c =
    let ends : HasEnds c.args.routers c.index-links-i.result = good_ends c.args.routers c.index-links-i.result (sym c.has_bad_ends.ensures ∙ c.if-has_bad_ends.false) in
    let many = made_count (λ v. v.items) (λ j. filter (touches j) (take c.loop-i.i c.args.links.now)) c.loop-i.lists.items c.args.routers c.loop-i.invariant.lists in
    omega (arith, ends.b_known, many, c.loop-i.lists.ok.0, c.put_at.ensures.len)

-- the lists of the two ends
pub fault_after-fault-requires : goal.fault_after-fault-requires
fault_after-fault-requires c =
    let s = c.index-links-i.result in
    let before = take c.loop-i.i c.args.links.now in
    let lists = c.loop-i.lists.items in
    let ends : HasEnds c.args.routers s = good_ends c.args.routers s (sym c.has_bad_ends.ensures ∙ c.if-has_bad_ends.false) in
    record {
      of_a = c.deref.ensures.value ∙ made_at (λ v. v.items) (λ j. filter (touches j) before) lists c.args.routers s.a c.index-of_a.result.now c.loop-i.invariant.lists ends.a_known (c.index-of_a.ensures ∙ ap (λ q. get_or lists q c.index-of_a.result.now) c.from.ensures);
      of_b = c.deref-in-loop-i.ensures.value ∙ made_at (λ v. v.items) (λ j. filter (touches j) before) lists c.args.routers s.b c.index-of_b.result.now c.loop-i.invariant.lists ends.b_known (c.index-of_b.ensures ∙ ap (λ q. get_or lists q c.index-of_b.result.now) c.from-in-loop-i.ensures);
    }

pub returns-then-is_some : goal.returns-then-is_some
returns-then-is_some c =
    sym (link_fault_first c.args.limits.now c.args.routers c.args.links.now c.loop-i.i c.index-links-i.result (omega arith) c.index-links-i.is
    (bad_by_twin c.args.routers (take c.loop-i.i c.args.links.now) c.index-links-i.result (sym c.has_bad_ends.ensures ∙ c.if-has_bad_ends.false))
    c.fault_after-fault.result c.fault_after-fault.ensures (sym c.is_some.ensures ∙ c.if-is_some.true))
    ∙ c.loop-i.invariant.rest

pub loop-i-preserved : goal.loop-i-preserved
loop-i-preserved c =
    let i = c.loop-i.i in
    let links = c.args.links.now in
    let s = c.index-links-i.result in
    let ends : HasEnds c.args.routers s = good_ends c.args.routers s (sym c.has_bad_ends.ensures ∙ c.if-has_bad_ends.false) in
    let taken : take (i + 1) links ≡ take i links ++ s ∷ []
    = ap (λ m. take m links) (add-one i) ∙ take-suc links i s (omega arith) ∙ ap (λ x. take i links ++ x ∷ []) (sym c.index-links-i.is) in
    record {
      rest = sym (no_fault_here c.args.limits.now c.args.routers links i s (omega arith) c.index-links-i.is
          (bad_by_twin c.args.routers (take i links) s (sym c.has_bad_ends.ensures ∙ c.if-has_bad_ends.false))
          c.fault_after-fault.result c.fault_after-fault.ensures (sym c.is_some.ensures ∙ c.if-is_some.false))
          ∙ c.loop-i.invariant.rest;
      lists = c.in_ok-put_at-2.ensures.lists
          ∙ ap (changed_at s.b (λ xs. xs ++ s ∷ [])) (c.in_ok-put_at.ensures.lists ∙ ap (changed_at s.a (λ xs. xs ++ s ∷ [])) c.loop-i.invariant.lists)
          ∙ lists_with_link c.args.routers (take i links) s ends
          ∙ ap (λ ls. map (λ j. filter (touches j) ls) (range_with_len 0 c.args.routers)) (sym taken);
    }

pub loop-i-init : goal.loop-i-init
loop-i-init c = record { rest = refl; lists = c.in_ok-lists.ensures }

pub returns : goal.returns
returns c = sym (link_causes_from-end c.args.limits.now c.args.routers c.args.links.now c.loop-i.i (omega arith)) ∙ c.loop-i.invariant.rest
