use Rattle.std.proofs.Common.{◌≡◌, ◌≤◌, ◌++◌, replicate}
use Rattle.packet_queue.specs.declared.message.Taken.TheVariants as T
use Rattle.packet_queue.specs.Ends.{put_by, workers_of, IsSameInjector}
use Rattle.packet_queue.proofs.injector.Injector.stop.Given as goal

-- as many stop messages were put as turns were made
abbrev pub invariant-loop-i : goal.invariant-loop-i
invariant-loop-i g l =
    IsSameInjector l.initial.self l.self
    × (put_by l.self ≡ put_by l.initial.self ++ replicate l._i T.Stop)
    × (l._i ≤ workers_of l.initial.self)
