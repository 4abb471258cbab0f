use Rattle.std.proofs.Common.{rules, ◌≡◌, ◌++◌, ◌∷◌, [], sum_by, ap, ◌∙◌, arith}
use Rattle.std.proofs.lemmas.List.Sums.{sum_by-append}
use Rattle.crossbeam_channel.specs.{Claims.view, Ends.sends_on}
use Rattle.packet_queue.specs.{declared.taker.Taker.Taker, declared.rule.Hand.Hand, Hands.one_job, Ends.queue_name, Ends.takes_from, Ends.taken_by, Jobs.jobs_of}
use Rattle.packet_queue.proofs.{Fair.merges, Fair.learns, Jobs.count_jobs, Jobs.jobs_left, Lists.all_front, Lists.moved, Lists.none}
use Rattle.packet_queue.proofs.reckoning.reckon.Goals as goal

pub absorb-requires-clause-rule : goal.absorb-requires-clause-rule
absorb-requires-clause-rule g c = merges _ _ _ _ c.loop-taker.invariant.3

pub loop-taker-preserved : goal.loop-taker-preserved
loop-taker-preserved g c =
    let taker = c.in-Some.taker in
    let rest = c.pop.new.self.items in
    let e : c.loop-taker.takers.items ≡ rest ++ taker ∷ [] = c.in-Some.ensures.items in
    let P : Taker _ _ → Type 0 = λ t. takes_from t ≡ queue_name (sends_on c.args.injector.sender) in
    let is = c.absorb.ensures.rule in
    let parts = ap (λ (v : Hand _). v.parts) is in
    let one = taker.one_part in
    let count = c.in-Some.ensures.cases in (
      c.absorb.ensures.channel.0,
      all_front P c.loop-taker.takers.items rest taker e c.loop-taker.invariant.1,
      (let p = c.loop-taker.invariant.2 in omega arith),
      (let p = c.loop-taker.invariant.3 in omega arith),
      search rules,
      (λ h. moved (λ (t : Taker _ _). sum_by h (taken_by t)) c.loop-taker.takers.items rest taker (sum_by h (view c.loop-taker.pass).taken) _ _ e (c.loop-taker.invariant.5 h)
          (ap (λ (v : Hand _). sum_by h v.taken) is ∙ sum_by-append h (view c.loop-taker.pass).taken (taken_by taker))),
      (let p = c.loop-taker.invariant.6 in let q = taker.counted in let s = ap (λ (v : Hand _). sum_by one_job v.taken) is in omega (arith, sum_by-append one_job (view c.loop-taker.pass).taken (taken_by taker))),
      (let p = c.loop-taker.invariant.7 in let q = taker.fits in omega arith),
    )

pub learn_as-requires-clause-rule : goal.learn_as-requires-clause-rule
learn_as-requires-clause-rule g c = learns _ _ (let p = c.loop-taker.invariant.2 in let q = c.in_default.ensures.cases in omega arith)

pub returns-clause-messages : goal.returns-clause-messages
returns-clause-messages g c =
    let l = c.learn_as.ensures.rule in
    let gone = c.in_default.ensures.cases in
    let old = c.loop-taker.invariant in (
      l.0,
      (λ h.
          let p = l.1 h in
          let q = old.5 h in
          let s = ap (sum_by h) old.4 in
          let t = none (λ (t : Taker _ _). sum_by h (taken_by t)) c.loop-taker.takers.items (omega arith) in
          omega arith),
      (let p = l.1 one_job in
          let q = old.6 in
          let s = ap (sum_by one_job) old.4 in
          let u = c.args.injector.counted in
          omega (arith, count_jobs l.0)),
    )

pub returns-clause-jobs : goal.returns-clause-jobs
returns-clause-jobs g c =
    let m = returns-clause-messages g c in (
      jobs_of m.0,
      jobs_left c.args.injector c.args.takers.items m.0 m.1,
      m.2,
    )
