-- What the calls of writers and readers can answer.
use Rattle.std.specs.Prelude.{◌≡◌, ℕ, ◌⊎◌, ◌==◌, ◌≤◌, ◌<◌, Bool, true, false, Option, None, Some, length}
use Rattle.row_words.specs.Rows.{WordTable}
use Rattle.c_interface.specs.{Faults.fault_number, Faults.IsDoneOrOutOfMemory, declared.fault.CallFault.CallFault, declared.fault.CallFault.TheVariants.Empty, declared.fault.CallFault.TheVariants.BadCount, declared.fault.CallFault.TheVariants.Shared}
use Rattle.lookup_calls.specs.Histories.{Published}

-- what the call answers that makes a writer, by the image, if there is one
abbrev pub IsOpenStatus : Option WordTable → ℕ → ℕ → Type 0
IsOpenStatus None readers status = status ≡ fault_number Empty
IsOpenStatus (Some image) readers status = ((1024 < readers) × (status ≡ fault_number BadCount)) ⊎ ((readers ≤ 1024) × IsDoneOrOutOfMemory status)

-- what the call answers that makes a reader, by the writer, if there is one
abbrev pub IsSeatStatus : Option Published → ℕ → Type 0
IsSeatStatus None status = status ≡ fault_number Empty
IsSeatStatus (Some h) status = (status ≡ fault_number BadCount) ⊎ IsDoneOrOutOfMemory status

-- what the call answers that publishes, by the fault of its lists and by the writer, if there is one
abbrev pub IsPublishStatus : Option CallFault → Option Published → ℕ → Type 0
IsPublishStatus (Some f) writer status = status ≡ fault_number f
IsPublishStatus None None status = status ≡ fault_number Empty
IsPublishStatus None (Some h) status = (status ≡ fault_number Shared) ⊎ IsDoneOrOutOfMemory status

-- what a look-up by a reader answers that is there, by whether there are as many answers as addresses
abbrev pub IsReadOf : Bool → ℕ → Type 0
IsReadOf true status = (status ≡ 0) ⊎ (status ≡ fault_number Shared)
IsReadOf false status = status ≡ fault_number BadCount

-- what a look-up by a reader answers, by the reader, if there is one, and the numbers of addresses and of answers
abbrev pub IsReadStatus : Option Published → ℕ → ℕ → ℕ → Type 0
IsReadStatus None addrs answers status = status ≡ fault_number Empty
IsReadStatus (Some h) addrs answers status = IsReadOf (addrs == answers) status

-- why a reader does not learn that so many images were published: those that it knows of now are fewer, or it found no page
abbrev pub IsUnlearned : ℕ → Published → CallFault → Type 0
IsUnlearned published h f = ((f ≡ BadCount) × (length h.elements < published)) ⊎ (f ≡ Shared)

-- what the call by which a reader learns answers, by the reader as it is then, if there is one
abbrev pub IsLearnStatus : ℕ → Option Published → ℕ → Type 0
IsLearnStatus published None status = status ≡ fault_number Empty
IsLearnStatus published (Some h) status = ((status ≡ 0) × (published ≤ length h.elements)) ⊎ (((status ≡ fault_number BadCount) × (length h.elements < published)) ⊎ (status ≡ fault_number Shared))

-- what the call that tells how many images were published answers, by the writer, if there is one
abbrev pub IsCountStatus : Option Published → ℕ → Type 0
IsCountStatus None status = status ≡ fault_number Empty
IsCountStatus (Some h) status = status ≡ 0
