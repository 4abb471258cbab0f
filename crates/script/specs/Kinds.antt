-- As which number and name a fault of a line is printed.
use Rattle.faults.specs.declared.kind.FaultKind.{FaultKind}
use Rattle.ipv4_prefix.specs.Faults.{prefix_kind}
use Rattle.script.specs.declared.fault.LineFault.{LineFault}

-- its kind: that of what is wrong with a prefix, or its own
abbrev pub line_kind : LineFault → FaultKind
line_kind LineFault.BadName = FaultKind.BadName
line_kind LineFault.BadLine = FaultKind.BadLine
line_kind LineFault.BadCost = FaultKind.BadCost
line_kind (LineFault.Prefix fault) = prefix_kind fault
line_kind LineFault.BadCommand = FaultKind.BadCommand
line_kind LineFault.TooLarge = FaultKind.TooLarge
line_kind LineFault.NoMemory = FaultKind.NoMemory
