-- The jobs among messages, one by one, and what they weigh.
use Rattle.std.proofs.Common.{◌≡◌, ℕ, List, [], ◌∷◌, ◌++◌, length, sum_by, refl, ap, arith}
use Rattle.std.proofs.lemmas.List.Sums.{sum_by-cons}
use Rattle.publication.specs.declared.job.Job.{Job}
use Rattle.packet_queue.specs.{declared.message.Taken.Taken, declared.taker.Taker.Taker, Hands.one_job, Jobs.jobs_of, Jobs.over_job, declared.injector.Injector.Injector}
use Rattle.packet_queue.specs.declared.message.Taken.TheVariants as T
use Rattle.packet_queue.specs.Ends.{put_by, taken_by, AreJobsLeft, AreMessagesLeft}

module _ {B : Type 0} where
  -- a job that comes last is the last job
  pub jobs_of_job : (xs : List (Taken B)) (j : Job B) → jobs_of (xs ++ T.Job j ∷ []) ≡ jobs_of xs ++ j ∷ []
  jobs_of_job [] j = refl
  jobs_of_job (T.Job x ∷ xs) j = ap (λ l. x ∷ l) (jobs_of_job xs j)
  jobs_of_job (T.Stop ∷ xs) j = jobs_of_job xs j

  -- a stop message is no job
  pub jobs_of_stop : (xs : List (Taken B)) → jobs_of (xs ++ T.Stop ∷ []) ≡ jobs_of xs
  jobs_of_stop [] = refl
  jobs_of_stop (T.Job x ∷ xs) = ap (λ l. x ∷ l) (jobs_of_stop xs)
  jobs_of_stop (T.Stop ∷ xs) = jobs_of_stop xs

  pub weigh_jobs : (h : Job B → ℕ) (xs : List (Taken B)) → sum_by (over_job h) xs ≡ sum_by h (jobs_of xs)
  weigh_jobs h [] = refl
  weigh_jobs h (T.Job x ∷ xs) = omega (arith, weigh_jobs h xs, sum_by-cons (over_job h) (T.Job x) xs, sum_by-cons h x (jobs_of xs))
  weigh_jobs h (T.Stop ∷ xs) = omega (arith, weigh_jobs h xs, sum_by-cons (over_job h) T.Stop xs)

  pub count_jobs : (xs : List (Taken B)) → sum_by one_job xs ≡ length (jobs_of xs)
  count_jobs [] = refl
  count_jobs (T.Job x ∷ xs) = omega (arith, count_jobs xs, sum_by-cons one_job (T.Job x) xs)
  count_jobs (T.Stop ∷ xs) = omega (arith, count_jobs xs, sum_by-cons one_job T.Stop xs)

module _ {B A : Type 0} where
  -- what the jobs of all takers weigh
  pub weigh_takers : (h : Job B → ℕ) (ts : List (Taker B A)) → sum_by (λ (t : Taker B A). sum_by (over_job h) (taken_by t)) ts ≡ sum_by (λ (t : Taker B A). sum_by h (jobs_of (taken_by t))) ts
  weigh_takers h [] = refl
  weigh_takers h (t ∷ ts) =
      omega (arith, weigh_jobs h (taken_by t), weigh_takers h ts, sum_by-cons (λ (u : Taker B A). sum_by (over_job h) (taken_by u)) t ts, sum_by-cons (λ (u : Taker B A). sum_by h (jobs_of (taken_by u))) t ts)

  -- where messages are accounted for, so are the jobs among them
  pub jobs_left : (i : Injector B A) (ts : List (Taker B A)) (left : List (Taken B)) → AreMessagesLeft i ts left → AreJobsLeft i ts (jobs_of left)
  jobs_left i ts left e h = let m = e (over_job h) in omega (arith, weigh_jobs h (put_by i), weigh_takers h ts, weigh_jobs h left)
