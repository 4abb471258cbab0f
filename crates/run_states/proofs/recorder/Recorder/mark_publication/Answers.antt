use Rattle.std.proofs.Common.{◌≡◌, false, cond, Some, ap, sym, ◌∙◌, is_some}
use Rattle.network_model.proofs.Common.{find as row_of, option_map_or, Prefix, prefix_cmp, prefix_eq, changed_rows}
use Rattle.network_model.specs.declared.step.Step.TheVariants.{Publish}
use Rattle.run_states.specs.Marks.{may_touch}
use Rattle.run_states.proofs.{Lists.none_there, Lists.read_there, Marked.marked_twice, Marked.spares_also}
use Rattle.run_states.proofs.recorder.Recorder.mark_publication.Goals as goal

pub loop-prefix-init : goal.loop-prefix-init
loop-prefix-init c = spares_also c.args.router (λ p. Unit {0}) (λ p. may_touch c.args.world.now (Publish c.args.router) p ≡ is_some (row_of prefix_cmp p c.into_iter-prefix-iterator.result)) c.args.self.now c.mark_router.new.self
    (λ p all. ap (λ o. option_map_or (λ r. is_some (row_of prefix_cmp p (changed_rows r.table))) o false)
    (read_there c.routers.result.now (c.args.world.now).routers c.args.router c.from.result c.in-Some.found.now c.routers.ensures.routers c.from.ensures c.in-Some.ensures.lookup.3.0 c.in-Some.ensures.lookup.1)
    ∙ ap (λ rows. is_some (row_of prefix_cmp p rows)) (sym (c.into_iter-prefix-iterator.ensures.into_iter_gives ∙ c.changed-prefix-items.ensures.all ∙ ap changed_rows c.table.ensures)))
    c.mark_router.ensures

pub loop-prefix-preserved : goal.loop-prefix-preserved
loop-prefix-preserved c =
    let touched : Prefix → _ = may_touch c.args.world.now (Publish c.args.router) in
    marked_twice c.args.router (λ p. touched p ≡ is_some (row_of prefix_cmp p c.loop-prefix.prefix-iterator)) (λ p. prefix_eq p c.in-Some-2.prefix ≡ false) (λ p. touched p ≡ is_some (row_of prefix_cmp p c.next.new.self))
    c.args.self.now c.loop-prefix.self c.mark_machines.new.self c.loop-prefix.invariant c.mark_machines.ensures
    (λ p one other. one ∙ ap (λ rows. is_some (row_of prefix_cmp p rows)) c.in-Some-2.ensures.steps ∙ ap (λ b. is_some (cond b (Some c.in-Some-2.field-0-1) (row_of prefix_cmp p c.next.new.self))) other)

pub returns-in-None : goal.returns-in-None
returns-in-None c = spares_also c.args.router (λ p. may_touch c.args.world.now (Publish c.args.router) p ≡ is_some (row_of prefix_cmp p c.loop-prefix.prefix-iterator)) (λ p. may_touch c.args.world.now (Publish c.args.router) p ≡ false)
    c.args.self.now c.loop-prefix.self (λ p so. so ∙ ap (λ rows. is_some (row_of prefix_cmp p rows)) c.in-None.ensures.steps.0) c.loop-prefix.invariant

pub returns-in_default : goal.returns-in_default
returns-in_default c = spares_also c.args.router (λ p. Unit {0}) (λ p. may_touch c.args.world.now (Publish c.args.router) p ≡ false) c.args.self.now c.mark_router.new.self
    (λ p all. ap (λ o. option_map_or (λ r. is_some (row_of prefix_cmp p (changed_rows r.table))) o false)
    (none_there c.routers.result.now (c.args.world.now).routers c.args.router c.from.result c.routers.ensures.routers c.from.ensures c.in_default.ensures.lookup.3)) c.mark_router.ensures
