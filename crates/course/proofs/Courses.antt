-- What a step leaves of what every course keeps.
use Rattle.std.proofs.Common.{refl, sym, ap, ◌∙◌, arith, length-append, ◌≡◌, ◌+◌, ◌^◌, ◌<◌, ◌≤◌, List, [], ◌∷◌, ◌++◌, length, if◌then◌else◌, Option, Some, None, Result, Err, lt-ltb}
use Rattle.no_packet_loops.proofs.Common.{World, Network, opening, IsNetwork, Lawful, next, refusal, Refusal, Kind, Update, Step}
use Rattle.world.specs.{Headline.IsReached, Steps.CanBeRefused, Steps.HasRoomForSteps, Steps.IsDoneOr}
use Rattle.world.proofs.Runs.{with_last_step, run-room, opening-room}
use Rattle.course.specs.declared.sent.Sent.{Sent}
use Rattle.course.specs.Counts.{leaving, none_sent, one_sent, sent_count, with_sent}
use Rattle.course.specs.Course.{Course, course_after, course_after_all, course_of, course_refusal, IsCourse}

-- so few steps were done that no generation passes 64 bits with one more
pub room_left : (c : Course) → IsCourse c → c.steps + 1 < 2 ^ 64 → HasRoomForSteps 1 c.world
room_left c kept short =
    run-room kept.done 1 (opening c.network) c.world kept.runs (opening-room (length kept.done + 1) c.network (let count = kept.count in omega (arith, count, short)))

-- lawful steps lead to its world
pub reached : (c : Course) → IsCourse c → IsNetwork c.network → IsReached c.network c.world
reached c kept valid = record { valid = valid; steps = kept.done; runs = kept.runs }

-- ---- the opening

pub kept_open : (n : Network) (w : World) (sent : Sent) → w ≡ opening n → sent ≡ none_sent → IsCourse (course_of n w 0 sent)
kept_open n w sent opened none = record {
  done = [];
  count = refl;
  runs = sym opened;
  fits = omega arith;
  few = (let zero_sent : sent_count sent ≡ 0 = ap sent_count none in omega (arith, zero_sent));
}

-- ---- one step more

-- at most one message was sent more
sent_more : (k : Kind) (s : Sent) → sent_count (one_sent k s) ≡ sent_count s + 1
sent_more Update s = omega arith
sent_more _ s = omega arith

pub sent_few : (o : Option Kind) (s : Sent) → sent_count (with_sent o s) ≤ sent_count s + 1
sent_few None s = omega arith
sent_few (Some k) s = (let more = sent_more k s in omega (arith, more))

-- a step leaves what every course keeps
pub kept_after : (c : Course) (step : Step) → IsCourse c → Lawful c.world step → c.steps + 1 < 2 ^ 64 → IsCourse (course_after c step)
kept_after c step kept lawful short = record {
  done = kept.done ++ step ∷ [];
  count = (let longer : length (kept.done ++ step ∷ []) ≡ length kept.done + 1 = length-append kept.done (step ∷ []) in let count = kept.count in omega (arith, longer, count));
  runs = with_last_step (opening c.network) kept.done c.world step kept.runs lawful;
  fits = short;
  few = (let more = sent_few (leaving c.world step) c.sent in let few = kept.few in omega (arith, more, few));
}

-- so what is made of the parts after the step is the course after it
pub is_after : (c : Course) (step : Step) (w : World) (sent : Sent) → w ≡ next c.world step → sent ≡ with_sent (leaving c.world step) c.sent → course_after c step ≡ course_of c.network w (c.steps + 1) sent
is_after c step w sent world counted =
    ap (λ v. course_of c.network v (c.steps + 1) (with_sent (leaving c.world step) c.sent)) (sym world) ∙ ap (course_of c.network w (c.steps + 1)) (sym counted)

pub after_push : (c : Course) (xs : List Step) (x : Step) → course_after_all c (xs ++ x ∷ []) ≡ course_after (course_after_all c xs) x
after_push c [] x = refl
after_push c (y ∷ ys) x = after_push (course_after c y) ys x

-- ---- a step that is refused

-- while steps can be counted, a step is refused as the world refuses it
pub counted : (c : Course) (step : Step) → c.steps + 1 < 2 ^ 64 → course_refusal c step ≡ refusal c.world step
counted c step short = ap (λ b. if b then refusal c.world step else Some Refusal.JournalFull) (lt-ltb (c.steps + 1) (2 ^ 64) short)

-- the same of a course that was seen
pub counted_seen : (c d : Course) (step : Step) → c ≡ d → c.steps + 1 < 2 ^ 64 → course_refusal d step ≡ refusal c.world step
counted_seen c d step seen short = ap (λ (x : Course). course_refusal x step) (sym seen) ∙ counted c step short

-- a call that answers this refusal was refused for its cause, or for want of memory
pub refused_as : (X : Type 0) (cause : Option Refusal) (e : Refusal) → IsDoneOr {X = X} cause (Err e) → CanBeRefused cause e
refused_as X None e h = h
refused_as X (Some c) e h = let inner : ◌≡◌ {A = Result X Refusal} (Err e) (Err c) = h in cc
