-- Which fault a refusal is, and what is wrong with a network that cannot be opened: as which number and name the program prints it.
use Rattle.faults.specs.declared.kind.FaultKind.{FaultKind}
use Rattle.network_model.specs.{declared.step.Refusal.Refusal, declared.network.NetworkFault.NetworkFault}

-- the kind of a refusal has its name
abbrev pub refusal_kind : Refusal → FaultKind
refusal_kind Refusal.UnknownRouter = FaultKind.UnknownRouter
refusal_kind Refusal.UnknownLink = FaultKind.UnknownLink
refusal_kind Refusal.AlreadyUp = FaultKind.AlreadyUp
refusal_kind Refusal.IsDown = FaultKind.IsDown
refusal_kind Refusal.SessionsSpent = FaultKind.SessionsSpent
refusal_kind Refusal.NothingToDeliver = FaultKind.NothingToDeliver
refusal_kind Refusal.NothingDue = FaultKind.NothingDue
refusal_kind Refusal.NothingRipe = FaultKind.NothingRipe
refusal_kind Refusal.JournalFull = FaultKind.JournalFull
refusal_kind Refusal.NoMemory = FaultKind.NoMemory
refusal_kind Refusal.Busy = FaultKind.Busy
refusal_kind Refusal.Stale = FaultKind.Stale
refusal_kind Refusal.NoReaderPlace = FaultKind.NoReaderPlace
refusal_kind Refusal.UnknownPrefix = FaultKind.UnknownPrefix
refusal_kind Refusal.NotAttached = FaultKind.NotAttached
refusal_kind Refusal.NoImage = FaultKind.NoImage
refusal_kind Refusal.WrongTicket = FaultKind.WrongTicket

-- so has the kind of what is wrong with a network
abbrev pub network_kind : NetworkFault → FaultKind
network_kind NetworkFault.BadRouters = FaultKind.BadRouters
network_kind (NetworkFault.BadLink link) = FaultKind.BadLink
network_kind (NetworkFault.TooManyLinks link) = FaultKind.TooManyLinks
network_kind (NetworkFault.BadOwner prefix) = FaultKind.BadOwner
