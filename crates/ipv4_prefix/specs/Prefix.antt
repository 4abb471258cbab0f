-- Blocks of IPv4 addresses (RFC 4632): what a prefix is, which addresses it covers, and the order of prefixes.
use Rattle.std.specs.Prelude.{◌≡◌, ℕ, ◌-◌, ◌/◌, ◌%◌, ◌^◌, ◌<◌, ◌≤◌, Bool, ◌==◌}
use Rattle.std.specs.declared.cmp.Ordering.{Ordering}
use Rattle.std.specs.Ordering.{nat_cmp, on, then_cmp, eq_by_cmp}

-- a block of addresses: those that agree with addr in their first len bits
pub record Prefix : Type 0 where
  pub addr : ℕ
  pub len : ℕ

-- a prefix that can be written: at most 32 bits, and none set after the first len
pub record IsPrefix (p : Prefix) : Type 0 where
  pub short : p.len ≤ 32
  pub fits : p.addr < 2 ^ 32
  pub no_host_bits : p.addr % 2 ^ (32 - p.len) ≡ 0

-- the first len of an address's 32 bits, as a number
abbrev pub first_bits : ℕ → ℕ → ℕ
first_bits len addr = addr / 2 ^ (32 - len)

-- whether the address is in the block: the first len bits agree
abbrev pub covers : Prefix → ℕ → Bool
covers p addr = first_bits p.len p.addr == first_bits p.len addr

-- the order of prefixes: by address, then by length
abbrev pub prefix_cmp : Prefix → Prefix → Ordering
prefix_cmp = then_cmp (on (λ p. p.addr) nat_cmp) (on (λ p. p.len) nat_cmp)

-- whether two prefixes are one
abbrev pub prefix_eq : Prefix → Prefix → Bool
prefix_eq = eq_by_cmp prefix_cmp
