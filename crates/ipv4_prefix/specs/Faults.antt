-- Which texts spell addresses and prefixes, and what is wrong with the others.
use Rattle.std.specs.Prelude.{◌≡◌, ℕ, ◌-◌, ◌%◌, ◌^◌, ◌<◌, ◌≤◌, ◌≢◌, Bool, ◌==◌, List, Contains, decimal}
use Rattle.std.specs.List.{before_first, after_first}
use Rattle.ipv4_prefix.specs.{declared.fault.PrefixFault.PrefixFault, Prefix.Prefix, Prefix.IsPrefix, Texts.address_text, Texts.prefix_text}
use Rattle.ipv4_prefix.specs.declared.fault.PrefixFault.TheVariants.{NoSlash, BadAddress, BadLength, HostBits}
use Rattle.faults.specs.declared.kind.FaultKind.{FaultKind}

-- the block with this first address and this length
abbrev pub block : ℕ → ℕ → Prefix
block addr len = record { addr = addr; len = len }

-- the address has a bit set after the first len
abbrev pub SetsHostBits : ℕ → ℕ → Type 0
SetsHostBits addr len = addr % 2 ^ (32 - len) ≢ 0

-- the text is the canonical one of this address
abbrev pub SpellsAddress : List ℕ → ℕ → Type 0
SpellsAddress text addr = (addr < 2 ^ 32) × (text ≡ address_text addr)

-- the text is that of an address
abbrev pub IsAddressText : List ℕ → Type 0
IsAddressText text = (addr : ℕ) × SpellsAddress text addr

-- the text is the canonical one of this length
abbrev pub SpellsLength : List ℕ → ℕ → Type 0
SpellsLength text len = (len ≤ 32) × (text ≡ decimal len)

-- the text is that of a length
abbrev pub IsLengthText : List ℕ → Type 0
IsLengthText text = (len : ℕ) × SpellsLength text len

-- the text is the canonical one of this prefix
abbrev pub SpellsPrefix : List ℕ → Prefix → Type 0
SpellsPrefix text p = IsPrefix p × (text ≡ prefix_text p)

-- the byte `/`
abbrev pub slash : ℕ
slash = 47

-- whether a byte is the slash before a length
abbrev pub is_slash : ℕ → Bool
is_slash b = b == slash

-- what stands before the first slash of a text
abbrev pub address_part : List ℕ → List ℕ
address_part text = before_first is_slash text

-- what stands after the first slash of a text
abbrev pub length_part : List ℕ → List ℕ
length_part text = after_first is_slash text

-- the text spells an address and a length, but the address has a bit set after the first len
pub record SpellsHostBits (text : List ℕ) : Type 0 where
  pub addr : ℕ
  pub len : ℕ
  pub address : SpellsAddress (address_part text) addr
  pub spelled : SpellsLength (length_part text) len
  pub host_bits : SetsHostBits addr len

-- the first of the tests that the text fails: each fault says that the tests before it pass
abbrev pub IsFirstFault : List ℕ → PrefixFault → Type 0
IsFirstFault text NoSlash = ¬ (Contains text slash)
IsFirstFault text BadAddress = Contains text slash × ¬ (IsAddressText (address_part text))
IsFirstFault text BadLength = Contains text slash × IsAddressText (address_part text) × ¬ (IsLengthText (length_part text))
IsFirstFault text HostBits = Contains text slash × SpellsHostBits text

-- as which number and name a fault is printed
abbrev pub prefix_kind : PrefixFault → FaultKind
prefix_kind NoSlash = FaultKind.NoSlash
prefix_kind BadAddress = FaultKind.BadAddress
prefix_kind BadLength = FaultKind.BadLength
prefix_kind HostBits = FaultKind.HostBits
