-- What the calls answer, by the router that a handle holds, and what they leave.
use Rattle.std.specs.Prelude.{◌≡◌, ◌≢◌, ◌⊎◌, ℕ, List, length, if◌then◌else◌, is_some, Option, Some, None, option_map, Result, Ok, Err, IfOk, IfSome}
use Rattle.network_model.specs.{Step.ripe_front, World.Router}
use Rattle.c_interface.specs.{Faults.fault_number, Faults.first_of, Rows.as_prefix, Rows.prefix_fault, declared.fault.CallFault.CallFault, declared.row.Row.Row}
use Rattle.c_interface.specs.declared.fault.CallFault.TheVariants.{Empty, NoMemory, NothingRipe, UnknownPrefix}
use Rattle.single_router.specs.{Bounded.BoundedRouter, Bounded.bounded_fault, Bounded.with_router, Inputs.router_after, Inputs.InputNeedsMemory, States.flag, States.shown_state, declared.input.Input.Input}
use Rattle.single_router.specs.Publishing.{IsWrittenOver, has_more, rows_given, router_given, forget_fault}

-- what a test of the router finds; that the handle holds none comes first
abbrev pub held_fault : (BoundedRouter → Option CallFault) → Option BoundedRouter → Option CallFault
held_fault test None = Some Empty
held_fault test (Some b) = test b

-- why a router is not told what was read; the faults of reading come first
abbrev pub tell_fault : Result Input CallFault → Option BoundedRouter → Option CallFault
tell_fault (Err f) held = Some f
tell_fault (Ok input) held = held_fault (bounded_fault input) held

-- what a handle holds once its router was told
abbrev pub told : Result Input CallFault → Option BoundedRouter → Option BoundedRouter
told (Err f) held = held
told (Ok input) held = option_map (with_router (router_after input)) held

-- the router of a handle may need memory for what was read
abbrev pub ReadNeedsMemory : Result Input CallFault → Option BoundedRouter → Type 0
ReadNeedsMemory read held = IfOk read (λ input. IfSome held (λ b. InputNeedsMemory input b.router))

-- what a call answers, by what its tests find: that, or else done, or want of memory where it may need some
abbrev pub IsStatusOnlyBy : Option CallFault → Type 0 → ℕ → Type 0
IsStatusOnlyBy (Some f) needs status = status ≡ fault_number f
IsStatusOnlyBy None needs status = (status ≡ 0) ⊎ ((status ≡ fault_number NoMemory) × needs)

-- a router is told what was read: the status, and what its handle holds before and after
pub record IsTold (read : Result Input CallFault) (old new : Option BoundedRouter) (status : ℕ) : Type 0 where
  pub answers : IsStatusOnlyBy (tell_fault read old) (ReadNeedsMemory read old) status
  pub done : status ≡ 0 → new ≡ told read old
  pub refused : status ≢ 0 → new ≡ old

-- why a router releases nothing
abbrev pub release_fault : BoundedRouter → Option CallFault
release_fault b = if is_some (ripe_front b.router) then None else Some NothingRipe

-- why a router shows nothing of a prefix; the faults of its numbers come first
abbrev pub state_fault : ℕ → ℕ → Option BoundedRouter → Option CallFault
state_fault addr len held = first_of (prefix_fault addr len) (held_fault (λ b. if is_some (shown_state (as_prefix addr len) b.router) then None else Some UnknownPrefix) held)

-- why a router does not forget a prefix; the faults of its numbers come first
abbrev pub forget_call_fault : ℕ → ℕ → Option BoundedRouter → Option CallFault
forget_call_fault addr len held = first_of (prefix_fault addr len) (held_fault (λ b. forget_fault (as_prefix addr len) b.router) held)

-- a publication of a router as a program is given it: the rows that it puts in force, over those that were there, how many
-- these are, whether there are more, and how often the router has then published
pub record IsPublished (r : Router) (old new : List Row) (written : ℕ) (more : ℕ) (generation : ℕ) : Type 0 where
  pub rows : IsWrittenOver (rows_given (length old) r) old new
  pub count : written ≡ length (rows_given (length old) r)
  pub more_is : more ≡ flag (has_more (length old) r)
  pub number : generation ≡ (router_given (length old) r).generation

-- the rows that a router has chosen, as a program is given them, and how many these are
pub record AreChosenListed (r : Router) (old new : List Row) (written : ℕ) : Type 0 where
  pub rows : IsWrittenOver (r.table).control old new
  pub count : written ≡ length (r.table).control
