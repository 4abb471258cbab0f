-- The jobs among messages.
use Rattle.std.specs.Prelude.{ℕ, List, [], ◌∷◌}
use Rattle.publication.specs.declared.job.Job.{Job}
use Rattle.packet_queue.specs.declared.message.Taken.{Taken}
use Rattle.packet_queue.specs.declared.message.Taken.TheVariants as T

-- the job of a message in front of others; a stop message has none
abbrev pub job_in : {B : Type 0} → Taken B → List (Job B) → List (Job B)
job_in (T.Job j) js = j ∷ js
job_in T.Stop js = js

-- the jobs among messages, in order
abbrev pub jobs_of : {B : Type 0} → List (Taken B) → List (Job B)
jobs_of [] = []
jobs_of (x ∷ xs) = job_in x (jobs_of xs)

-- a job's weight, and 0 for a stop message
abbrev pub over_job : {B : Type 0} → (Job B → ℕ) → Taken B → ℕ
over_job h (T.Job j) = h j
over_job h T.Stop = 0
