-- A router that may know so many prefixes at most.
use Rattle.std.specs.Prelude.{ℕ, Bool, ◌&&◌, nat_lt, nat_le, if◌then◌else◌, List, length, Option, Some, None, is_none}
use Rattle.std.specs.FinMap.{find as row_of}
use Rattle.ipv4_prefix.specs.Prefix.{Prefix, prefix_cmp}
use Rattle.network_model.specs.World.{Router}
use Rattle.c_interface.specs.{Faults.first_of, declared.fault.CallFault.CallFault, declared.fault.CallFault.TheVariants.TooManyPrefixes}
use Rattle.single_router.specs.{declared.input.Input.Input, declared.opening.Attachment.Attachment, Inputs.told_fault, Openings.make_fault, Openings.made_router}
use Rattle.single_router.specs.declared.input.Input.TheVariants as input

-- a router, and how many prefixes it may know
pub record BoundedRouter : Type 0 where
  pub router : Router
  pub most : ℕ

-- with its router changed
abbrev pub with_router : (Router → Router) → BoundedRouter → BoundedRouter
with_router f b = record b { router = f b.router }

-- whether the prefix would be one too many: the router has not heard of it, and knows as many as it may
abbrev pub is_one_too_many : Prefix → BoundedRouter → Bool
is_one_too_many p b = is_none (row_of prefix_cmp p ((b.router).table).control) && nat_le b.most (length ((b.router).table).control)

-- that a prefix would be one too many
abbrev pub crowd_fault : Prefix → BoundedRouter → Option CallFault
crowd_fault p b = if is_one_too_many p b then Some TooManyPrefixes else None

-- that an input would have the router know one prefix too many
abbrev pub input_crowd_fault : Input → BoundedRouter → Option CallFault
input_crowd_fault (input.Message port session m) b = crowd_fault m.prefix b
input_crowd_fault (input.Attached p cost) b = crowd_fault p b
input_crowd_fault _ b = None

-- why a router is not told an input: what the input's tests find, or else that a prefix would be one too many
abbrev pub bounded_fault : Input → BoundedRouter → Option CallFault
bounded_fault i b = first_of (told_fault i b.router) (input_crowd_fault i b)

-- why a router cannot be made: what the tests of ports and attachments find, or else that there are more attachments than prefixes
-- that it may know
abbrev pub bounded_make_fault : ℕ → List ℕ → List Attachment → Option CallFault
bounded_make_fault most costs attachments = first_of (make_fault costs attachments) (if nat_lt most (length attachments) then Some TooManyPrefixes else None)

-- the router that is made
abbrev pub bounded_router : ℕ → List ℕ → List Attachment → BoundedRouter
bounded_router most costs attachments = record { router = made_router costs attachments; most = most }
