use Rattle.std.proofs.Common.{sym, ◌∙◌, arith}
use Rattle.world.proofs.Faults.{bad_link_first, too_many_first, no_link_fault, link_causes_from-end}
use Rattle.world.proofs.link_faults.fault_by_comparison.Goals as goal

pub returns-then-is_bad_link : goal.returns-then-is_bad_link
returns-then-is_bad_link c =
    sym (bad_link_first c.args.limits.now c.args.routers c.args.links.now c.loop-i.i c.index-links-i.result (omega arith) c.index-links-i.is (sym c.is_bad_link.ensures ∙ c.if-is_bad_link.true))
    ∙ c.loop-i.invariant

pub returns-then-is_link_too_many : goal.returns-then-is_link_too_many
returns-then-is_link_too_many c =
    sym (too_many_first c.args.limits.now c.args.routers c.args.links.now c.loop-i.i c.index-links-i.result (omega arith) c.index-links-i.is
    (sym c.is_bad_link.ensures ∙ c.if-is_bad_link.false) (sym c.is_link_too_many.ensures ∙ c.if-is_link_too_many.true))
    ∙ c.loop-i.invariant

pub loop-i-preserved : goal.loop-i-preserved
loop-i-preserved c =
    sym (no_link_fault c.args.limits.now c.args.routers c.args.links.now c.loop-i.i c.index-links-i.result (omega arith) c.index-links-i.is
    (sym c.is_bad_link.ensures ∙ c.if-is_bad_link.false) (sym c.is_link_too_many.ensures ∙ c.if-is_link_too_many.false))
    ∙ c.loop-i.invariant

pub returns : goal.returns
returns c = sym (link_causes_from-end c.args.limits.now c.args.routers c.args.links.now c.loop-i.i (omega arith)) ∙ c.loop-i.invariant
