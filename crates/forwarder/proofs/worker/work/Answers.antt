use Rattle.std.proofs.Common.{rules, ◌≡◌, ◌∙◌, ◌+◌, ◌++◌, ◌∷◌, [], length, map, ap, arith, length-append}
use Rattle.packet_queue.specs.{Ends.taken_by, Jobs.jobs_of}
use Rattle.forwarder.proofs.{Later.later_trans, Replying.if_more, Replying.on_err, Replying.taken_more}
use Rattle.forwarder.proofs.worker.work.Goals as goal

pub loop-preserved : goal.loop-preserved
loop-preserved g c =
    let v = c.loop.invariant in
    let first = jobs_of (taken_by c.args.taker) in
    let taken = jobs_of (taken_by c.loop.taker) in
    let new = jobs_of (taken_by c.next_job.new.taker) in
    let job = c.in-Some-next_job.job in
    let took : new ≡ taken ++ job ∷ [] = search rules in
    let longer : length new ≡ length taken + 1 = ap length took ∙ length-append taken (job ∷ []) in (
      later_trans c.args.port c.loop.port c.with_reply-replies.new.port v.0 c.with_reply-replies.ensures.later,
      search rules,
      if_more c.loop.replies c.with_reply-replies.result _ _ (λ old rs. map (λ r. r.job) rs.items ≡ map (λ r. r.job) old.items ++ job ∷ []) c.with_reply-replies.ensures.ok c.with_reply-replies.ensures.first
          (λ old rs was more. taken_more first (map (λ r. r.job) old.items) taken new (map (λ r. r.job) rs.items) job was took more) v.2,
      c.with_reply-replies.ensures.err,
      omega (arith, longer, v.4),
      on_err c.with_reply-replies.result (omega (arith, longer, v.4)),
    )
