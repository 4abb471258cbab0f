-- The steps of reading a prefix: what each one that fails, and the last, says of the whole text.
use Rattle.std.proofs.Common.{◌≡◌, ℕ, ◌-◌, ◌%◌, ◌^◌, ◌<◌, ◌≤◌, ◌↔◌, List, length, Result, Ok, Err, IfOk, IsOk, refl, sym, subst, inl, inr}
use Rattle.std.specs.List.{position_or_len}
use Rattle.std.proofs.lemmas.Bool.{cases_eq, false≢true}
use Rattle.ipv4_prefix.specs.{declared.fault.PrefixFault.PrefixFault, declared.fault.PrefixFault.TheVariants.BadAddress, declared.fault.PrefixFault.TheVariants.BadLength, declared.fault.PrefixFault.TheVariants.HostBits, Prefix.Prefix, Prefix.IsPrefix}
use Rattle.ipv4_prefix.specs.Faults.{block, SetsHostBits, SpellsAddress, IsAddressText, SpellsLength, IsLengthText, SpellsPrefix, is_slash, address_part, length_part, IsFirstFault}
use Rattle.ipv4_prefix.proofs.PrefixTexts.{Contains-slash, SpellsPrefix-parts, IsRightAnswer}

-- the text has a slash, and these stand before and after the first one
pub record IsSplit (text before after : List ℕ) : Type 0 where
  pub found : position_or_len is_slash text < length text
  pub before_is : before ≡ address_part text
  pub after_is : after ≡ length_part text

module _ (text before after : List ℕ) (split : IsSplit text before after) where
  pub refused_address : ¬ (IsAddressText before) → IsFirstFault text BadAddress
  refused_address none = (Contains-slash text split.found, rw (← split.before_is) none)

  pub refused_length : (addr : ℕ) → SpellsAddress before addr → ¬ (IsLengthText after) → IsFirstFault text BadLength
  refused_length addr address none = (Contains-slash text split.found, rw (← split.before_is) (addr, address), rw (← split.after_is) none)

  module _ (addr len : ℕ) (address : SpellsAddress before addr) (spelled : SpellsLength after len) where
    pub refused_host_bits : SetsHostBits addr len → IsFirstFault text HostBits
    refused_host_bits host_bits = (
      Contains-slash text split.found,
      record {
        addr = addr;
        len = len;
        address = rw (← split.before_is) address;
        spelled = rw (← split.after_is) spelled;
        host_bits = host_bits;
      },
    )

    pub spelled_block : IsPrefix (block addr len) → SpellsPrefix text (block addr len)
    spelled_block valid = SpellsPrefix-parts text addr len split.found (rw (← split.before_is) address) (rw (← split.after_is) spelled) valid

    pub right_block : (r : Result Prefix PrefixFault) → IfOk r (λ p. p ≡ block addr len) → (IsOk r ↔ IsPrefix (block addr len)) → ((r ≡ Err HostBits) ↔ ((len ≤ 32) × SetsHostBits addr len)) → IsRightAnswer text r
    right_block (Ok p) made exactly refused = record { read = subst (SpellsPrefix text) (sym made) (spelled_block (exactly.0 refl)); fault = tt }
    right_block (Err e) made exactly refused = elim (cases_eq (addr % 2 ^ (32 - len)) 0) [
      | inl none ↦ absurd (false≢true (exactly.1 (record { short = spelled.0; fits = address.0; no_host_bits = none })))
      | inr some ↦
          let same : Err e ≡ Err HostBits = refused.1 (spelled.0, some) in
          let fault : e ≡ HostBits = cc in
          record { read = tt; fault = subst (IsFirstFault text) (sym fault) (refused_host_bits some) }
    ]

-- the exit of a `?`
pub right_fault : (text : List ℕ) (r : Result Prefix PrefixFault) (e f : PrefixFault) → r ≡ Err e → e ≡ f → IsFirstFault text f → IsRightAnswer text r
right_fault text r e f is same first =
    subst (IsRightAnswer text) (sym is) (record { read = tt; fault = subst (IsFirstFault text) (sym same) first })
