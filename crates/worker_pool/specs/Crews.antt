-- Workers and their jobs.
use Rattle.std.specs.Prelude.{ℕ, List}
use Rattle.publication.specs.declared.job.Job.{Job}

-- how many workers there are, and the jobs that they were given, in order
pub record Crew (X : Type 0) : Type 0 where
  pub workers : ℕ
  pub jobs : List (Job X)
