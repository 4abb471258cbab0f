use Rattle.std.proofs.Common.{◌≡◌, ◌∙◌, ◌+◌, ◌<◌, ◌^◌, true, Option, Err, MatchOption, is_ok, sym, ap, subst, arith}
use Rattle.no_packet_loops.proofs.Common.{Refusal, refusal}
use Rattle.world.specs.{declared.touched.Touched.Touched, Steps.IsDoneOr}
use Rattle.world.proofs.Causes.{done_for, done_only, passes_on, passes_only}
use Rattle.course.specs.{Counts.leaving, Counts.with_sent, Links.HasLinksOfPorts, Course.IsCourse, Course.course_of}
use Rattle.course.proofs.Links.{links_of_ports}
use Rattle.course.proofs.Courses.{counted_seen, is_after, kept_after, room_left}
use Rattle.course.proofs.course.Course.step.Goals as goal

pub leaving-kind-requires : goal.leaving-kind-requires
leaving-kind-requires g c = subst HasLinksOfPorts (sym c.world.ensures) (links_of_ports c.self.inside.network c.self.invariant.done c.self.inside.world c.self.invariant.runs)

pub step-requires : goal.step-requires
step-requires g c =
    room_left (course_of c.self.inside.network c.self.inside.world c.self.inside.steps c.self.inside.sent) c.self.invariant
    (let fits = c.self.invariant.fits in let more = c.if-self.false in omega (arith, fits, more))

pub invariant_of-self-2 : goal.invariant_of-self-2
invariant_of-self-2 g c =
    let old = course_of c.self.inside.network c.self.inside.world c.self.inside.steps c.self.inside.sent in
    let short : c.self.inside.steps + 1 < 2 ^ 64 = (let fits = c.self.invariant.fits in let more = c.if-self.false in omega (arith, fits, more)) in
    let done = c.in_ok-touched.ensures.ok in
    subst IsCourse
    (is_after old c.args.step c.step.new.self c.with-self-inside.result done.1
    (c.with-self-inside.ensures ∙ ap (λ k. with_sent k c.self.inside.sent) (c.leaving-kind.ensures ∙ ap (λ w. leaving w c.args.step) c.world.ensures)))
    (kept_after old c.args.step c.self.invariant done.0 short)

pub returns-clause-ok : goal.returns-clause-ok
returns-clause-ok g c =
    let old = course_of c.self.inside.network c.self.inside.world c.self.inside.steps c.self.inside.sent in
    let done = c.in_ok-touched.ensures.ok in
    rw (← c.self.view_is) (
      done.0,
      sym (is_after old c.args.step c.step.new.self c.with-self-inside.result done.1
          (c.with-self-inside.ensures ∙ ap (λ k. with_sent k c.self.inside.sent) (c.leaving-kind.ensures ∙ ap (λ w. leaving w c.args.step) c.world.ensures))),
    )

-- ---- why it is refused: a step can be counted, so as the world's step is

pub returns-in_err-touched-clause-cause : goal.returns-in_err-touched-clause-cause
returns-in_err-touched-clause-cause g c =
    let same = counted_seen (course_of c.self.inside.network c.self.inside.world c.self.inside.steps c.self.inside.sent) c.args.self.now c.args.step c.self.view_is (let fits = c.self.invariant.fits in let more = c.if-self.false in omega (arith, fits, more)) in
    subst (λ (o : Option Refusal). IsDoneOr o c.from_residual.result) (sym same)
    (passes_on Touched (Unit {0}) c.in_err-touched.field-0.0 (refusal c.self.inside.world c.args.step) c.from_residual.result c.in_err-touched.ensures.cause c.from_residual.ensures.1)

pub returns-in_err-touched-clause-publication : goal.returns-in_err-touched-clause-publication
returns-in_err-touched-clause-publication g c i is =
    let same = counted_seen (course_of c.self.inside.network c.self.inside.world c.self.inside.steps c.self.inside.sent) c.args.self.now c.args.step c.self.view_is (let fits = c.self.invariant.fits in let more = c.if-self.false in omega (arith, fits, more)) in
    subst (λ (o : Option Refusal). MatchOption o (is_ok c.from_residual.result ≡ true) (λ (x : Refusal). c.from_residual.result ≡ Err x)) (sym same)
    (passes_only Touched (Unit {0}) c.in_err-touched.field-0.0 (refusal c.self.inside.world c.args.step) c.from_residual.result (c.in_err-touched.ensures.publication i is) c.from_residual.ensures.1)

pub returns-in_err-touched-clause-down : goal.returns-in_err-touched-clause-down
returns-in_err-touched-clause-down g c l is =
    let same = counted_seen (course_of c.self.inside.network c.self.inside.world c.self.inside.steps c.self.inside.sent) c.args.self.now c.args.step c.self.view_is (let fits = c.self.invariant.fits in let more = c.if-self.false in omega (arith, fits, more)) in
    subst (λ (o : Option Refusal). MatchOption o (is_ok c.from_residual.result ≡ true) (λ (x : Refusal). c.from_residual.result ≡ Err x)) (sym same)
    (passes_only Touched (Unit {0}) c.in_err-touched.field-0.0 (refusal c.self.inside.world c.args.step) c.from_residual.result (c.in_err-touched.ensures.down l is) c.from_residual.ensures.1)

pub returns-clause-cause : goal.returns-clause-cause
returns-clause-cause g c =
    let same = counted_seen (course_of c.self.inside.network c.self.inside.world c.self.inside.steps c.self.inside.sent) c.args.self.now c.args.step c.self.view_is (let fits = c.self.invariant.fits in let more = c.if-self.false in omega (arith, fits, more)) in
    done_for (Unit {0}) (tt {0}) c.self.inside.world c.args.step c.in_ok-touched.ensures.ok.0 _ same

pub returns-clause-publication : goal.returns-clause-publication
returns-clause-publication g c i is =
    let same = counted_seen (course_of c.self.inside.network c.self.inside.world c.self.inside.steps c.self.inside.sent) c.args.self.now c.args.step c.self.view_is (let fits = c.self.invariant.fits in let more = c.if-self.false in omega (arith, fits, more)) in
    done_only (Unit {0}) (tt {0}) c.self.inside.world c.args.step c.in_ok-touched.ensures.ok.0 _ same

pub returns-clause-down : goal.returns-clause-down
returns-clause-down g c l is =
    let same = counted_seen (course_of c.self.inside.network c.self.inside.world c.self.inside.steps c.self.inside.sent) c.args.self.now c.args.step c.self.view_is (let fits = c.self.invariant.fits in let more = c.if-self.false in omega (arith, fits, more)) in
    done_only (Unit {0}) (tt {0}) c.self.inside.world c.args.step c.in_ok-touched.ensures.ok.0 _ same
