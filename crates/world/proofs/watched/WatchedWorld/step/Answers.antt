use Rattle.std.proofs.Common.{◌≡◌, ◌+◌, ◌-◌, ℕ, true, Err, MatchOption, is_ok, sym, ap, subst, ◌∙◌, arith}
use Rattle.no_packet_loops.proofs.Common.{Refusal, World, refusal, next}
use Rattle.world.specs.{declared.touched.Touched.Touched, Steps.IsDoneOr, Rest.IsWatched, Touched.touched_by, Touched.unrest_at}
use Rattle.world.proofs.Causes.{done_for, done_only, passes_on, passes_only}
use Rattle.world.proofs.Rest.{touched-counted, watched-next, unrest-few}
use Rattle.world.proofs.watched.WatchedWorld.step.Goals as goal

pub overflow_sub-self : goal.overflow_sub-self
overflow_sub-self g c =
    let counted = touched-counted c.by-touched.result c.self.inside.world in
    omega (arith, c.unrest_of-before.ensures.unrest, counted, c.self.invariant.counts)

pub overflow_add-self : goal.overflow_add-self
overflow_add-self g c =
    let few = unrest-few c.self.inside.world c.self.inside.unrest c.self.invariant in
    omega (arith, few, c.unrest_of-after.ensures.few)

pub invariant_of-self-2 : goal.invariant_of-self-2
invariant_of-self-2 g c =
    let w = c.self.inside.world in
    let n : ℕ = c.self.inside.unrest in
    let s = c.args.step in
    let made : c.step.new.self ≡ next w s = c.in_ok-step.ensures.ok.1 in
    let before : c.unrest_of-before.result ≡ unrest_at (touched_by s w) w = c.unrest_of-before.ensures.unrest ∙ ap (λ t. unrest_at t w) c.by-touched.ensures.named in
    let after : c.unrest_of-after.result ≡ unrest_at (touched_by s w) (next w s)
    = c.unrest_of-after.ensures.unrest ∙ ap (λ t. unrest_at t c.step.new.self) c.by-touched.ensures.named ∙ ap (unrest_at (touched_by s w)) made in
    let counted = touched-counted (touched_by s w) w in
    let sum : ((n - c.unrest_of-before.result) + c.unrest_of-after.result) + unrest_at (touched_by s w) w ≡ n + unrest_at (touched_by s w) (next w s)
    = omega (arith, before, after, counted, c.self.invariant.counts) in
    subst (λ v. IsWatched v ((n - c.unrest_of-before.result) + c.unrest_of-after.result)) (sym made) (watched-next w s n ((n - c.unrest_of-before.result) + c.unrest_of-after.result) c.self.invariant sum)

pub returns-clause-touched : goal.returns-clause-touched
returns-clause-touched g c = c.by-touched.ensures.named ∙ ap (touched_by c.args.step) c.self.view_is

-- ---- why it is refused, as the world's step is

pub returns-in_err-step-clause-cause : goal.returns-in_err-step-clause-cause
returns-in_err-step-clause-cause g c =
    subst (λ (w : World). IsDoneOr (refusal w c.args.step) c.from_residual.result) c.self.view_is
    (passes_on (Unit {0}) Touched c.in_err-step.field-0.0 (refusal c.self.inside.world c.args.step) c.from_residual.result c.in_err-step.ensures.cause c.from_residual.ensures.1)

pub returns-in_err-step-clause-publication : goal.returns-in_err-step-clause-publication
returns-in_err-step-clause-publication g c i is =
    subst (λ (w : World). MatchOption (refusal w c.args.step) (is_ok c.from_residual.result ≡ true) (λ (x : Refusal). c.from_residual.result ≡ Err x)) c.self.view_is
    (passes_only (Unit {0}) Touched c.in_err-step.field-0.0 (refusal c.self.inside.world c.args.step) c.from_residual.result (c.in_err-step.ensures.publication i is) c.from_residual.ensures.1)

pub returns-in_err-step-clause-down : goal.returns-in_err-step-clause-down
returns-in_err-step-clause-down g c l is =
    subst (λ (w : World). MatchOption (refusal w c.args.step) (is_ok c.from_residual.result ≡ true) (λ (x : Refusal). c.from_residual.result ≡ Err x)) c.self.view_is
    (passes_only (Unit {0}) Touched c.in_err-step.field-0.0 (refusal c.self.inside.world c.args.step) c.from_residual.result (c.in_err-step.ensures.down l is) c.from_residual.ensures.1)

pub returns-clause-cause : goal.returns-clause-cause
returns-clause-cause g c = done_for Touched c.by-touched.result c.self.inside.world c.args.step c.in_ok-step.ensures.ok.0 _ (ap (λ w. refusal w c.args.step) (sym c.self.view_is))

pub returns-clause-publication : goal.returns-clause-publication
returns-clause-publication g c i is = done_only Touched c.by-touched.result c.self.inside.world c.args.step c.in_ok-step.ensures.ok.0 _ (ap (λ w. refusal w c.args.step) (sym c.self.view_is))

pub returns-clause-down : goal.returns-clause-down
returns-clause-down g c l is = done_only Touched c.by-touched.result c.self.inside.world c.args.step c.in_ok-step.ensures.ok.0 _ (ap (λ w. refusal w c.args.step) (sym c.self.view_is))
