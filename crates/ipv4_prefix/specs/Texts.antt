-- The canonical texts of addresses and prefixes: decimal numbers without a leading zero.
use Rattle.std.specs.Prelude.{ℕ, ◌/◌, ◌%◌, ◌^◌, List, ◌++◌, decimal, codes}
use Rattle.ipv4_prefix.specs.Prefix.{Prefix}

-- an address as four decimal numbers joined by points
abbrev pub address_text : ℕ → List ℕ
address_text addr = decimal (addr / 2 ^ 24) ++ codes "." ++ decimal (addr / 2 ^ 16 % 256) ++ codes "." ++ decimal (addr / 2 ^ 8 % 256) ++ codes "." ++ decimal (addr % 256)

-- a prefix as its address, a slash and its length
abbrev pub prefix_text : Prefix → List ℕ
prefix_text p = address_text p.addr ++ codes "/" ++ decimal p.len
