-- As which number and name a fault of a journal is printed.
use Rattle.faults.specs.declared.kind.FaultKind.{FaultKind}
use Rattle.journal.specs.declared.fault.JournalFault.{JournalFault}

-- its kind
abbrev pub journal_kind : JournalFault → FaultKind
journal_kind JournalFault.BadText = FaultKind.BadJournal
journal_kind (JournalFault.BadLine line) = FaultKind.BadJournal
journal_kind JournalFault.NoMemory = FaultKind.NoMemory
