-- The numbers of the faults.
use Rattle.std.specs.Prelude.{◌≡◌, ℕ, ◌⊎◌, Option, None, Some}
use Rattle.faults.specs.{declared.kind.FaultKind.FaultKind, Numbers.kind_number}
use Rattle.c_interface.specs.declared.fault.CallFault.{CallFault}
use Rattle.c_interface.specs.declared.fault.CallFault.TheVariants.{BadLength, HostBits, BadCost, BadKind, Empty, BadCount, Shared, UnknownPort, AlreadyUp, IsDown, NothingDue, NothingRipe, NoMemory, TooManyPorts, TooManyPrefixes, UnknownPrefix, NotAttached, OtherSession, GenerationsSpent, Unasked, AskedTwice, StillUsed}

-- the number by which C knows a fault
abbrev pub fault_number : CallFault → ℕ
fault_number BadLength = kind_number FaultKind.BadLength
fault_number HostBits = kind_number FaultKind.HostBits
fault_number BadCost = kind_number FaultKind.BadCost
fault_number BadKind = 6
fault_number Empty = 7
fault_number BadCount = 8
fault_number Shared = 9
fault_number UnknownPort = 11
fault_number AlreadyUp = kind_number FaultKind.AlreadyUp
fault_number IsDown = kind_number FaultKind.IsDown
fault_number NothingDue = kind_number FaultKind.NothingDue
fault_number NothingRipe = kind_number FaultKind.NothingRipe
fault_number NoMemory = kind_number FaultKind.NoMemory
fault_number TooManyPorts = 26
fault_number TooManyPrefixes = 27
fault_number UnknownPrefix = kind_number FaultKind.UnknownPrefix
fault_number NotAttached = kind_number FaultKind.NotAttached
fault_number OtherSession = 36
fault_number GenerationsSpent = 37
fault_number Unasked = 38
fault_number AskedTwice = 39
fault_number StillUsed = 44

-- done, or refused for want of memory
abbrev pub IsDoneOrOutOfMemory : ℕ → Type 0
IsDoneOrOutOfMemory status = (status ≡ 0) ⊎ (status ≡ fault_number NoMemory)

-- what a call answers, by what its tests find: that, or, where they find nothing, done or want of memory
abbrev pub IsStatusBy : Option CallFault → ℕ → Type 0
IsStatusBy (Some f) status = status ≡ fault_number f
IsStatusBy None status = IsDoneOrOutOfMemory status

-- what a call answers that takes no memory, by what its tests find
abbrev pub status_by : Option CallFault → ℕ
status_by (Some f) = fault_number f
status_by None = 0

-- of two tests, what the first finds, and else what the second finds
abbrev pub first_of : Option CallFault → Option CallFault → Option CallFault
first_of None other = other
first_of (Some f) other = Some f
