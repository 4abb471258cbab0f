use Rattle.std.proofs.Common.{rules}
use Rattle.c_interface.proofs.fault.CallFault.number.Goals as goal

pub returns-in-BadLength : goal.returns-in-BadLength
returns-in-BadLength c = search rules

pub returns-in-HostBits : goal.returns-in-HostBits
returns-in-HostBits c = search rules

pub returns-in-BadCost : goal.returns-in-BadCost
returns-in-BadCost c = search rules

pub returns-in-BadKind : goal.returns-in-BadKind
returns-in-BadKind c = search rules

pub returns-in-Empty : goal.returns-in-Empty
returns-in-Empty c = search rules

pub returns-in-BadCount : goal.returns-in-BadCount
returns-in-BadCount c = search rules

pub returns-in-Shared : goal.returns-in-Shared
returns-in-Shared c = search rules

pub returns-in-UnknownPort : goal.returns-in-UnknownPort
returns-in-UnknownPort c = search rules

pub returns-in-AlreadyUp : goal.returns-in-AlreadyUp
returns-in-AlreadyUp c = search rules

pub returns-in-IsDown : goal.returns-in-IsDown
returns-in-IsDown c = search rules

pub returns-in-NothingDue : goal.returns-in-NothingDue
returns-in-NothingDue c = search rules

pub returns-in-NothingRipe : goal.returns-in-NothingRipe
returns-in-NothingRipe c = search rules

pub returns-in-NoMemory : goal.returns-in-NoMemory
returns-in-NoMemory c = search rules

pub returns-in-TooManyPorts : goal.returns-in-TooManyPorts
returns-in-TooManyPorts c = search rules

pub returns-in-TooManyPrefixes : goal.returns-in-TooManyPrefixes
returns-in-TooManyPrefixes c = search rules

pub returns-in-UnknownPrefix : goal.returns-in-UnknownPrefix
returns-in-UnknownPrefix c = search rules

pub returns-in-NotAttached : goal.returns-in-NotAttached
returns-in-NotAttached c = search rules

pub returns-in-OtherSession : goal.returns-in-OtherSession
returns-in-OtherSession c = search rules

pub returns-in-GenerationsSpent : goal.returns-in-GenerationsSpent
returns-in-GenerationsSpent c = search rules

pub returns-in-Unasked : goal.returns-in-Unasked
returns-in-Unasked c = search rules

pub returns-in-AskedTwice : goal.returns-in-AskedTwice
returns-in-AskedTwice c = search rules

pub returns-in-StillUsed : goal.returns-in-StillUsed
returns-in-StillUsed c = search rules
