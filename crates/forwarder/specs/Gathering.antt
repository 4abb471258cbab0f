-- Which reply is to which job, and what is wrong with a list of replies.
use Rattle.std.specs.Prelude.{Bool, ℕ, ◌==◌, ◌&&◌, List, [], ◌∷◌, ◌++◌, Option, Some, None, if◌then◌else◌}
use Rattle.std.specs.List.{list_any, list_all}
use Rattle.publication.specs.declared.job.Job.{Job}
use Rattle.forwarder.specs.{Replies.Replied, declared.gathering.GatherFault.GatherFault, declared.gathering.GatherFault.TheVariants.Stranger, declared.gathering.GatherFault.TheVariants.Doubled, declared.gathering.GatherFault.TheVariants.Missing}
use Rattle.faults.specs.declared.kind.FaultKind.{FaultKind}

-- the first of two faults
abbrev pub earlier_fault : Option GatherFault → Option GatherFault → Option GatherFault
earlier_fault (Some e) later = Some e
earlier_fault None later = later

module _ {X : Type 0} where
  -- a reply is to the job whose number, router and address it keeps
  abbrev pub is_reply_to : Job X → Replied X → Bool
  is_reply_to j r = ((r.job).number == j.number) && (((r.job).told).router == (j.told).router) && ((r.job).addr == j.addr)

  -- the number of the job that a reply keeps
  abbrev pub job_number : Replied X → ℕ
  job_number r = (r.job).number

  -- what is wrong with a reply that comes after these
  abbrev pub fault_at : List (Job X) → List (Replied X) → Replied X → Option GatherFault
  fault_at jobs earlier r =
      if list_any (λ j. is_reply_to j r) jobs then (if list_any (λ s. job_number s == job_number r) earlier then Some Doubled else None)
      else Some Stranger

  -- the first fault of replies that come after these
  abbrev pub fault_in : List (Job X) → List (Replied X) → List (Replied X) → Option GatherFault
  fault_in jobs earlier [] = None
  fault_in jobs earlier (r ∷ rs) = earlier_fault (fault_at jobs earlier r) (fault_in jobs (earlier ++ r ∷ []) rs)

  -- what is wrong with replies to jobs: each in turn may be a stranger's or a second one; a job without a reply comes last
  abbrev pub fault_of : List (Job X) → List (Replied X) → Option GatherFault
  fault_of jobs replies = earlier_fault (fault_in jobs [] replies) (if list_all (λ j. list_any (is_reply_to j) replies) jobs then None else Some Missing)

-- as which number and name a fault is printed
abbrev pub gather_kind : GatherFault → FaultKind
gather_kind GatherFault.Stranger = FaultKind.Stranger
gather_kind GatherFault.Doubled = FaultKind.Doubled
gather_kind GatherFault.Missing = FaultKind.Missing
