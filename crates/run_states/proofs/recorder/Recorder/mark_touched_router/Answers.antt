use Rattle.std.proofs.Common.{◌≡◌, false, refl, ap, sym, subst, ◌∙◌}
use Rattle.network_model.specs.declared.step.Step.TheVariants.{Deliver, Publish, Release, Attach, Detach}
use Rattle.run_states.specs.{Books.matches_prefix, Marks.StepMarked, Marks.may_touch}
use Rattle.run_states.proofs.Marked.{one_marked, spares_also}
use Rattle.run_states.proofs.recorder.Recorder.mark_touched_router.Goals as goal

pub returns-in-Deliver : goal.returns-in-Deliver
returns-in-Deliver c =
    let w = c.args.world.now in
    let before = c.args.self.now in
    let after = c.mark_machines.new.self in
    let i = c.in-Deliver.router in
    let s = Deliver i c.in-Deliver.port in
    subst (λ t. StepMarked w t before after) (sym c.in-Deliver.is)
    (one_marked w s i before after refl
    (spares_also i (λ p. matches_prefix c.next_message.result p ≡ false) (λ p. may_touch w s p ≡ false) before after (λ p so. ap (λ o. matches_prefix o p) (sym c.next_message.ensures) ∙ so) c.mark_machines.ensures))

pub returns-in-Publish : goal.returns-in-Publish
returns-in-Publish c =
    let w = c.args.world.now in
    let before = c.args.self.now in
    let after = c.mark_publication.new.self in
    subst (λ t. StepMarked w t before after) (sym c.in-Publish.is) (one_marked w (Publish c.in-Publish.router) c.in-Publish.router before after refl c.mark_publication.ensures)

pub returns-in-Release : goal.returns-in-Release
returns-in-Release c =
    let w = c.args.world.now in
    let before = c.args.self.now in
    let after = c.mark_router.new.self in
    let i = c.in-Release.router in
    subst (λ t. StepMarked w t before after) (sym c.in-Release.is)
    (one_marked w (Release i) i before after refl (spares_also i (λ p. Unit {0}) (λ p. false ≡ false) before after (λ p so. refl) c.mark_router.ensures))

pub returns-in-Attach : goal.returns-in-Attach
returns-in-Attach c =
    let w = c.args.world.now in
    let before = c.args.self.now in
    let after = c.mark_router-in-Attach.new.self in
    let i = c.in-Attach.router in
    subst (λ t. StepMarked w t before after) (sym c.in-Attach.is)
    (one_marked w (Attach i c.in-Attach.prefix c.in-Attach.cost) i before after refl (spares_also i (λ p. Unit {0}) (λ p. false ≡ false) before after (λ p so. refl) c.mark_router-in-Attach.ensures))

pub returns-in-Detach : goal.returns-in-Detach
returns-in-Detach c =
    let w = c.args.world.now in
    let before = c.args.self.now in
    let after = c.mark_router-in-Detach.new.self in
    let i = c.in-Detach.router in
    subst (λ t. StepMarked w t before after) (sym c.in-Detach.is)
    (one_marked w (Detach i c.in-Detach.prefix) i before after refl (spares_also i (λ p. Unit {0}) (λ p. false ≡ false) before after (λ p so. refl) c.mark_router-in-Detach.ensures))
