-- What a clause says of the ends of a queue.
use Rattle.std.specs.Prelude.{◌≡◌, ◌+◌, ℕ, List, [], length, All, sum_by}
use Rattle.atomic_table.specs.{Seated.TableId, declared.badge.Badge.Badge}
use Rattle.crossbeam_channel.specs.{declared.flavors.array.Key.Key, declared.flavors.array.Rows.Rows, Claims.view, Ends.sends_on, Ends.receives_on}
use Rattle.publication.specs.declared.job.Job.{Job}
use Rattle.packet_queue.specs.{declared.message.Taken.Taken, declared.injector.Injector.Injector, declared.taker.Taker.Taker, Jobs.jobs_of}

-- which queue it is
abbrev pub QueueName : Type 0 → Type 0
QueueName B = TableId × Badge (Key (Taken B))

module _ {B : Type 0} where
  -- the name of a channel's queue
  abbrev pub queue_name : {D Q M L A : Type 0} → Rows (Badge (Key (Taken B))) D Q M (Key (Taken B)) L A → QueueName B
  queue_name c = (c.stamps.shared.table_id, c.stamps.shared.key)

module _ {B A : Type 0} where
  -- the queue that an injector puts into
  abbrev pub puts_into : Injector B A → QueueName B
  puts_into i = queue_name (sends_on i.sender)

  -- the queue that a taker takes from
  abbrev pub takes_from : Taker B A → QueueName B
  takes_from t = queue_name (receives_on t.receiver)

  -- the messages that an injector has put, oldest first
  abbrev pub put_by : Injector B A → List (Taken B)
  put_by i = (view i.pass).put

  -- the messages that a taker has taken, oldest first
  abbrev pub taken_by : Taker B A → List (Taken B)
  taken_by t = (view t.pass).taken

  -- how many workers the queue was made for
  abbrev pub workers_of : Injector B A → ℕ
  workers_of i = i.workers

  -- the parts of the right to reckon that the injector has; each taker has one
  abbrev pub parts_of : Injector B A → ℕ
  parts_of i = (view i.pass).parts

  -- these are all ends of one queue: they have all 256 parts
  abbrev pub AreAllEnds : Injector B A → List (Taker B A) → Type 0
  AreAllEnds i ts = (parts_of i + length ts ≡ 256) × All (λ t. takes_from t ≡ puts_into i) ts

  -- the injector is as it was, but for what it has put
  abbrev pub IsSameInjector : Injector B A → Injector B A → Type 0
  IsSameInjector i j = (puts_into j ≡ puts_into i) × (parts_of j ≡ parts_of i) × (workers_of j ≡ workers_of i)

  -- a taker of the queue that has taken nothing
  abbrev pub IsFresh : QueueName B → Taker B A → Type 0
  IsFresh name t = (takes_from t ≡ name) × (taken_by t ≡ [])

  -- each message that was put was taken by these or is left, as often as it was put: so it is however messages are weighed
  abbrev pub AreMessagesLeft : Injector B A → List (Taker B A) → List (Taken B) → Type 0
  AreMessagesLeft i ts left = (h : Taken B → ℕ) → sum_by h (put_by i) ≡ sum_by (λ t. sum_by h (taken_by t)) ts + sum_by h left

  -- each job that was put was taken by these or is left, as often as it was put: so it is however jobs are weighed. Where one job weighs 1 and all others 0, a sum says how often that job stands there
  abbrev pub AreJobsLeft : Injector B A → List (Taker B A) → List (Job B) → Type 0
  AreJobsLeft i ts left = (h : Job B → ℕ) → sum_by h (jobs_of (put_by i)) ≡ sum_by (λ t. sum_by h (jobs_of (taken_by t))) ts + sum_by h left
