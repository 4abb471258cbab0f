use Rattle.std.proofs.Common.{ℕ, Ok, ap}
use Rattle.std.specs.{Net.Addr.ipv4_bits, declared.net.ipv4_addr.Ipv4Addr.Ipv4Addr}
use Rattle.ipv4_prefix.specs.Faults.{SpellsAddress}
use Rattle.ipv4_prefix.proofs.AddressTexts.{octets_of, IsDotted-address_text, SpellsAddress-dotted, SpellsAddress_unique}
use Rattle.ipv4_prefix.proofs.addr.parse_addr.Goals as goal

spelled : (c : goal.After-to_bits) → SpellsAddress c.args.text.now c.to_bits.result
unfolding ipv4_bits
spelled c = rw c.to_bits.ensures (SpellsAddress-dotted _ _ c.in-Ok.ensures.value)

pub returns-in-Ok-clause-read : goal.returns-in-Ok-clause-read
returns-in-Ok-clause-read c = spelled c

pub returns-in-Ok-clause-every_address : goal.returns-in-Ok-clause-every_address
returns-in-Ok-clause-every_address c addr spells = ap Ok (SpellsAddress_unique _ _ _ (spelled c) spells)

none_spelled : (c : goal.In-Err) → (addr : ℕ) → SpellsAddress c.args.text.now addr → ⊥
none_spelled c addr spells =
    let address : Ipv4Addr = record { octets = octets_of addr } in
    c.in-Err.ensures.value address (rw spells.1 (IsDotted-address_text addr spells.0))

pub returns-in-Err-clause-every_address : goal.returns-in-Err-clause-every_address
returns-in-Err-clause-every_address c addr spells = absurd (none_spelled c addr spells)

pub returns-in-Err-clause-no_address : goal.returns-in-Err-clause-no_address
returns-in-Err-clause-no_address c = λ (addr, spells). none_spelled c addr spells
