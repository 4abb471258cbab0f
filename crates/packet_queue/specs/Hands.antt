-- The rule of the queue: what was put is what was taken and what the queue holds, however messages are weighed.
use Rattle.std.specs.Prelude.{◌≡◌, ◌+◌, ℕ, List, [], sum_by, All}
use Rattle.packet_queue.specs.{declared.message.Taken.Taken, declared.rule.Hand.Hand}
use Rattle.packet_queue.specs.declared.message.Taken.TheVariants as T

-- what a pass with so many parts has put and taken, oldest first
abbrev pub hand : {B : Type 0} → ℕ → List (Taken B) → List (Taken B) → Hand B
hand parts put taken = record { parts = parts; put = put; taken = taken }

-- a job counts 1, a stop message nothing
abbrev pub one_job : {B : Type 0} → Taken B → ℕ
one_job (T.Job _) = 1
one_job T.Stop = 0

-- each message that was put was taken or is left, as often as it was put
abbrev pub AreLeft : {B : Type 0} → List (Taken B) → List (Taken B) → List (Taken B) → Type 0
AreLeft {B} put taken left = (h : Taken B → ℕ) → sum_by h put ≡ sum_by h taken + sum_by h left

-- a pass with no part has put and taken nothing
abbrev pub IsIdle : {B : Type 0} → Hand B → Type 0
IsIdle v = v.parts ≡ 0 → (v.put ≡ []) × (v.taken ≡ [])

-- the passes have 256 parts, and what they have put is what they have taken and what the queue holds
abbrev pub Balanced : {B : Type 0} → List (Taken B) → List (Hand B) → Type 0
Balanced {B} items views =
    (sum_by (λ v. v.parts) views ≡ 256)
    × ((h : Taken B → ℕ) → sum_by (λ v. sum_by h v.put) views ≡ sum_by (λ v. sum_by h v.taken) views + sum_by h items)
    × All IsIdle views
