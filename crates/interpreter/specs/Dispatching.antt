-- Jobs that workers are given, and what they answer.
use Rattle.std.specs.Prelude.{◌≡◌, ℕ, ◌+◌, ◌⊎◌, ⊤, List, [], Option, Some, min, slice_get}
use Rattle.std.specs.{List.flat_map, Option.option_map_or}
use Rattle.faults.specs.declared.kind.FaultKind.{FaultKind}
use Rattle.ipv4_prefix.specs.Prefix.{Prefix}
use Rattle.network_model.specs.{declared.route.Entry.Entry, declared.step.Refusal.Refusal, Publication.Image}
use Rattle.world.specs.Steps.{CanBeRefused}
use Rattle.publication.specs.{declared.job.Job.Job, Lists.image_of}
use Rattle.forwarder.specs.Replies.{Replied}
use Rattle.texts.specs.Words.{Text}
use Rattle.lines.specs.{declared.answers.Asked.TheVariants.Packet, declared.line.Line.TheVariants.Asked, declared.told.Printer.Printer, Formats.printed}
use Rattle.worker_pool.specs.{Crews.Crew, declared.fault.PoolFault.PoolFault, Faults.IsBeginFault, Faults.IsInjectFault, Faults.pool_kind}
use Rattle.plans.specs.Faults.{OfRefusal}

-- the jobs that wait until the workers have answered them, in order, the number of the last job that was given, and how many workers there are
pub record Dispatched (X : Type 0) : Type 0 where
  pub jobs : List (Job X)
  pub last : ℕ
  pub workers : ℕ

-- what waits with workers who have begun
abbrev pub jobs_in : {X : Type 0} → Option (Crew X) → List (Job X)
jobs_in pool = option_map_or (λ p. p.jobs) pool []

-- how many workers there are: so many at rest, and those who have begun
abbrev pub workers_in : {X : Type 0} → ℕ → Option (Crew X) → ℕ
workers_in at_rest pool = at_rest + option_map_or (λ p. p.workers) pool 0

-- the number of the job after this one; it stays at the greatest that a number can be
abbrev pub next_number : ℕ → ℕ
next_number last = min (last + 1) 18446744073709551615

-- the job after this one is to look the address up at the router, in an image no older than the one of these that is the router's
pub record IsNextJob {X : Type 0} (openings : List (List (Prefix × Entry))) (images : List Image) (last router address : ℕ) (job : Job X) : Type 0 where
  pub number : job.number ≡ next_number last
  pub at_router : (job.told).router ≡ router
  pub addr : job.addr ≡ address
  pub in_force : slice_get images router ≡ Some (image_of openings job.told)

-- such a fault of workers has this kind
abbrev pub IsOfPool : (PoolFault → Type 0) → FaultKind → Type 0
IsOfPool P kind = (e : PoolFault) × (kind ≡ pool_kind e) × P e

-- workers did not begin, for want of a thread or of memory, or they did not take a job
abbrev pub CannotWork : FaultKind → Type 0
CannotWork kind = IsOfPool (λ e. IsBeginFault e ⊎ IsInjectFault e) kind

-- workers did not answer the last jobs
abbrev pub IsUnanswered : FaultKind → Type 0
IsUnanswered kind = IsOfPool (λ e. ⊤) kind

-- why a job is not given: for this cause or for want of memory, or there is no thread or no memory for the workers, or they do not take it
abbrev pub CannotInject : Option Refusal → FaultKind → Type 0
CannotInject refusal kind = OfRefusal (CanBeRefused refusal) kind ⊎ CannotWork kind

-- what a worker answered
abbrev pub reply_text : {X : Type 0} → Printer → Replied X → Text
reply_text p r = printed p (Asked (Packet (r.job).number (record { router = ((r.job).told).router; addr = (r.job).addr; found = (r.answer).matched })))

-- what workers answered, a line for each reply
abbrev pub packets_text : {X : Type 0} → Printer → List (Replied X) → Text
packets_text p = flat_map (reply_text p)
