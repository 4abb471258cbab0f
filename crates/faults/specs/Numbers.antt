-- The numbers of faults, and their names.
use Rattle.std.specs.Prelude.{ℕ, List, codes}
use Rattle.faults.specs.declared.kind.FaultKind.{FaultKind}
use Rattle.faults.specs.declared.kind.FaultKind.TheVariants.{NoSlash, BadAddress, BadLength, HostBits, BadCost, UnknownRouter, UnknownLink, NoThread, AlreadyUp, IsDown, SessionsSpent, NothingToDeliver, NothingDue, NothingRipe, JournalFull, NoMemory, Busy, Stale, NoReaderPlace, BadRouters, BadLink, TooManyLinks, BadOwner, UnknownPrefix, NotAttached, Stranger, Doubled, Missing, Closed, NoImage, WrongTicket, BadToml, BadKey, BadName, BadLine, BadCommand, TooLarge, Unreadable, BadJournal, Unwritable, PastMoment, TimeSpent, JournalKept, NothingSaved}

-- the number of a kind
abbrev pub kind_number : FaultKind → ℕ
kind_number NoSlash = 1
kind_number BadAddress = 2
kind_number BadLength = 3
kind_number HostBits = 4
kind_number BadCost = 5
kind_number UnknownRouter = 10
kind_number UnknownLink = 11
kind_number NoThread = 12
kind_number AlreadyUp = 13
kind_number IsDown = 14
kind_number SessionsSpent = 15
kind_number NothingToDeliver = 16
kind_number NothingDue = 17
kind_number NothingRipe = 18
kind_number JournalFull = 19
kind_number NoMemory = 20
kind_number Busy = 21
kind_number Stale = 22
kind_number NoReaderPlace = 23
kind_number BadRouters = 24
kind_number BadLink = 25
kind_number TooManyLinks = 26
kind_number BadOwner = 27
kind_number UnknownPrefix = 28
kind_number NotAttached = 29
kind_number Stranger = 30
kind_number Doubled = 31
kind_number Missing = 32
kind_number Closed = 33
kind_number NoImage = 34
kind_number WrongTicket = 35
kind_number BadToml = 40
kind_number BadKey = 41
kind_number BadName = 42
kind_number BadLine = 43
kind_number BadCommand = 45
kind_number TooLarge = 46
kind_number Unreadable = 47
kind_number BadJournal = 48
kind_number Unwritable = 49
kind_number PastMoment = 51
kind_number TimeSpent = 52
kind_number JournalKept = 54
kind_number NothingSaved = 55

-- its name
abbrev pub name_of : FaultKind → List ℕ
name_of NoSlash = codes "NoSlash"
name_of BadAddress = codes "BadAddress"
name_of BadLength = codes "BadLength"
name_of HostBits = codes "HostBits"
name_of BadCost = codes "BadCost"
name_of UnknownRouter = codes "UnknownRouter"
name_of UnknownLink = codes "UnknownLink"
name_of NoThread = codes "NoThread"
name_of AlreadyUp = codes "AlreadyUp"
name_of IsDown = codes "IsDown"
name_of SessionsSpent = codes "SessionsSpent"
name_of NothingToDeliver = codes "NothingToDeliver"
name_of NothingDue = codes "NothingDue"
name_of NothingRipe = codes "NothingRipe"
name_of JournalFull = codes "JournalFull"
name_of NoMemory = codes "NoMemory"
name_of Busy = codes "Busy"
name_of Stale = codes "Stale"
name_of NoReaderPlace = codes "NoReaderPlace"
name_of BadRouters = codes "BadRouters"
name_of BadLink = codes "BadLink"
name_of TooManyLinks = codes "TooManyLinks"
name_of BadOwner = codes "BadOwner"
name_of UnknownPrefix = codes "UnknownPrefix"
name_of NotAttached = codes "NotAttached"
name_of Stranger = codes "Stranger"
name_of Doubled = codes "Doubled"
name_of Missing = codes "Missing"
name_of Closed = codes "Closed"
name_of NoImage = codes "NoImage"
name_of WrongTicket = codes "WrongTicket"
name_of BadToml = codes "BadToml"
name_of BadKey = codes "BadKey"
name_of BadName = codes "BadName"
name_of BadLine = codes "BadLine"
name_of BadCommand = codes "BadCommand"
name_of TooLarge = codes "TooLarge"
name_of Unreadable = codes "Unreadable"
name_of BadJournal = codes "BadJournal"
name_of Unwritable = codes "Unwritable"
name_of PastMoment = codes "PastMoment"
name_of TimeSpent = codes "TimeSpent"
name_of JournalKept = codes "JournalKept"
name_of NothingSaved = codes "NothingSaved"
