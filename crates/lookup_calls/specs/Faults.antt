-- Which faults a call can answer.
use Rattle.std.specs.Prelude.{◌≡◌, ℕ, ◌⊎◌, ◌==◌, if◌then◌else◌, Option, None, Some}
use Rattle.row_words.specs.Rows.{WordTable}
use Rattle.c_interface.specs.{Faults.fault_number, Faults.IsDoneOrOutOfMemory, declared.fault.CallFault.CallFault}
use Rattle.c_interface.specs.declared.fault.CallFault.TheVariants.{Empty, BadCount, Shared, NoMemory}

-- why a patch of an image is refused
abbrev pub IsPatchFault : CallFault → Type 0
IsPatchFault f = (f ≡ Shared) ⊎ (f ≡ NoMemory)

-- what a call answers that changes an image, by that fault and by the image, if there is one
abbrev pub IsApplyStatus : Option CallFault → Option WordTable → ℕ → Type 0
IsApplyStatus (Some f) image status = status ≡ fault_number f
IsApplyStatus None None status = status ≡ fault_number Empty
IsApplyStatus None (Some image) status = (status ≡ fault_number Shared) ⊎ IsDoneOrOutOfMemory status

-- what a call answers that gives an image to another handle, by the image, if there is one
abbrev pub IsGiveStatus : Option WordTable → ℕ → Type 0
IsGiveStatus None status = status ≡ fault_number Empty
IsGiveStatus (Some image) status = IsDoneOrOutOfMemory status

-- what a look-up answers, by the image, if there is one, and the numbers of addresses and of answers
abbrev pub IsLookupStatus : Option WordTable → ℕ → ℕ → ℕ → Type 0
IsLookupStatus None addrs answers status = status ≡ fault_number Empty
IsLookupStatus (Some image) addrs answers status = status ≡ (if addrs == answers then 0 else fault_number BadCount)
