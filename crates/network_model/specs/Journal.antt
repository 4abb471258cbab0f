-- Each step as a number, and a journal as the sum of its steps' numbers.
use Rattle.std.specs.Prelude.{ℕ, ◌+◌, ◌*◌, ◌^◌, ◌/◌, ◌<◌, List, sum_by}
use Rattle.ipv4_prefix.specs.Prefix.{Prefix}
use Rattle.network_model.specs.declared.step.Step.{Step}
use Rattle.network_model.specs.declared.step.Step.TheVariants.{LinkUp, LinkDown, SetCost, Deliver, Publish, Release, Attach, Detach}

-- the greatest number of steps in a journal
abbrev pub most_steps : ℕ
most_steps = 1000000

-- the parts of a step's number, each below its own power of two: 4 bits of kind, then 16, 8, 16, 32 and 8
pub record Code : Type 0 where
  pub kind : ℕ
  pub subject : ℕ
  pub port : ℕ
  pub cost : ℕ
  pub addr : ℕ
  pub len : ℕ

-- the parts side by side, the kind highest
abbrev pub packed : Code → ℕ
packed c = ((((c.kind * 2 ^ 16 + c.subject) * 2 ^ 8 + c.port) * 2 ^ 16 + c.cost) * 2 ^ 32 + c.addr) * 2 ^ 8 + c.len

-- a code without a prefix
abbrev pub code_of : ℕ → ℕ → ℕ → ℕ → Code
code_of kind subject port cost = record { kind = kind; subject = subject; port = port; cost = cost; addr = 0; len = 0 }

-- a code with a prefix, and no port
abbrev pub code_with_prefix : ℕ → ℕ → ℕ → Prefix → Code
code_with_prefix kind subject cost p = record { kind = kind; subject = subject; port = 0; cost = cost; addr = p.addr; len = p.len }

-- the parts of each step: its kind, its router or link, its port, its cost and its prefix, 0 where it has none
abbrev pub step_code : Step → Code
step_code (LinkUp l) = code_of 0 l 0 0
step_code (LinkDown l) = code_of 1 l 0 0
step_code (SetCost i q cost) = code_of 2 i q cost
step_code (Deliver i q) = code_of 3 i q 0
step_code (Publish i) = code_of 4 i 0 0
step_code (Release i) = code_of 5 i 0 0
step_code (Attach i p cost) = code_with_prefix 6 i cost p
step_code (Detach i p) = code_with_prefix 7 i 0 p

-- each part of a code is below its power of two
pub record IsCode (c : Code) : Type 0 where
  pub kind : c.kind < 2 ^ 4
  pub subject : c.subject < 2 ^ 16
  pub port : c.port < 2 ^ 8
  pub cost : c.cost < 2 ^ 16
  pub addr : c.addr < 2 ^ 32
  pub len : c.len < 2 ^ 8

-- a step whose parts fit its number
abbrev pub Fits : Step → Type 0
Fits s = IsCode (step_code s)

-- a step's number: its code, above which one bit counts the step
abbrev pub step_number : Step → ℕ
step_number s = 2 ^ 104 + packed (step_code s)

-- the sum of a journal's steps
abbrev pub journal_sum : List Step → ℕ
journal_sum ss = sum_by step_number ss

-- how many steps such a sum adds up
abbrev pub steps_in_sum : ℕ → ℕ
steps_in_sum n = n / 2 ^ 104
