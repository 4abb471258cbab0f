-- What a reply holds.
use Rattle.std.specs.Prelude.{◌≡◌, List}
use Rattle.ipv4_prefix.specs.Prefix.{Prefix}
use Rattle.network_model.specs.{declared.route.Answer.Answer, declared.route.Entry.Entry, Publication.answer_of}
use Rattle.publication.specs.{declared.job.Job.Job, declared.known.Known.Known, Lists.Begins, Lists.image_of}

-- a job, the list of the view that answered it, and the answer
pub record Replied (X : Type 0) : Type 0 where
  pub job : Job X
  pub seen : Known
  pub answer : Answer

-- the view begins with what the job was told, and the answer is that of its image for the job's address
pub record IsOfPublished {X : Type 0} (openings : List (List (Prefix × Entry))) (r : Replied X) : Type 0 where
  pub later : Begins (r.job).told r.seen
  pub answered : r.answer ≡ answer_of (image_of openings r.seen) (r.job).addr
