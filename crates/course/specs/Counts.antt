-- Which messages steps put on links, and how many of each kind.
use Rattle.std.specs.Prelude.{ℕ, ◌+◌, if◌then◌else◌, Option, Some, None, option_and_then}
use Rattle.metric.specs.{declared.kind.Kind.Kind, declared.kind.Kind.TheVariants.Update, declared.kind.Kind.TheVariants.Query, declared.kind.Kind.TheVariants.Reply}
use Rattle.network_model.specs.{declared.step.Step.Step, declared.step.Step.TheVariants.Release, World.World, Step.release_at}
use Rattle.world.specs.Steps.{is_stale}
use Rattle.course.specs.declared.sent.Sent.{Sent}

-- nothing was sent
abbrev pub none_sent : Sent
none_sent = record { updates = 0; queries = 0; replies = 0 }

-- how many messages these are
abbrev pub sent_count : Sent → ℕ
sent_count s = s.updates + s.queries + s.replies

-- the kind of the message that a step puts on a link; none where it puts none, or releases one whose session is over
abbrev pub leaving : World → Step → Option Kind
leaving w (Release i) = option_and_then (λ h. if is_stale w i h then None else Some (h.message).kind) (release_at w i)
leaving w _ = None

-- with one message of this kind more
abbrev pub one_sent : Kind → Sent → Sent
one_sent Update s = record s { updates = s.updates + 1 }
one_sent Query s = record s { queries = s.queries + 1 }
one_sent Reply s = record s { replies = s.replies + 1 }

-- with the message of this kind, if one was sent
abbrev pub with_sent : Option Kind → Sent → Sent
with_sent None s = s
with_sent (Some k) s = one_sent k s
