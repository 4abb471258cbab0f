-- Each prefix has one text. A text spells a prefix, or it has one first fault.
use Rattle.std.proofs.Common.{◌≡◌, ℕ, zero, suc, ◌/◌, ◌%◌, ◌^◌, ◌<◌, Bool, true, false, List, ◌∷◌, ◌++◌, length, get_or, codes, decimal, Contains, Result, Ok, Err, refl, sym, ap, ◌∙◌, arith, append_assoc, eqb-true, eq-eqb, ne_eqb, length-append, IfOk, IfErr, true≢false}
use Rattle.std.specs.List.{All, before_first, after_first, position_or_len}
use Rattle.std.proofs.{Math.Seq.take-append_seam, Math.Seq.drop-append-add, Math.Seq.get_or-append_seam, lemmas.List.get_or_append_left, lemmas.List.get_or_default, lemmas.List.Elements.All-append, lemmas.Fmt.decimal_is_IsNumeral, lemmas.Str.Parse.digit_at}
use Rattle.std.proofs.lemmas.List.Sums.{position_or_len_is, fails_before_first, passes_at_first, split_at_first}
use Rattle.ipv4_prefix.specs.{declared.fault.PrefixFault.PrefixFault, Prefix.Prefix, Prefix.IsPrefix, Texts.address_text}
use Rattle.ipv4_prefix.specs.declared.fault.PrefixFault.TheVariants.{NoSlash, BadAddress, BadLength, HostBits}
use Rattle.ipv4_prefix.specs.Faults.{block, SpellsAddress, SpellsLength, SpellsPrefix, slash, is_slash, address_part, length_part, IsFirstFault}
use Rattle.ipv4_prefix.proofs.AddressTexts.{SpellsAddress_unique}
use Rattle.texts.proofs.Numbers.{Spells_unique}

-- what stands round the first byte that passes
module _ (p : ℕ → Bool) (front back : List ℕ) (byte : ℕ) (none : All (λ b. p b ≡ false) front) (passes : p byte ≡ true) where
  position_or_len-append : position_or_len p (front ++ byte ∷ back) ≡ length front
  position_or_len-append =
      position_or_len_is p (front ++ byte ∷ back) (length front) 0 (omega (arith, length-append front (byte ∷ back)))
      (λ k below. rw (get_or_append_left front (byte ∷ back) 0 k below) (none k 0 below))
      (λ _. rw (get_or-append_seam front byte back 0) passes)

  before_first-append : before_first p (front ++ byte ∷ back) ≡ front
  before_first-append = rw position_or_len-append (take-append_seam front (byte ∷ back))

  after_first-append : after_first p (front ++ byte ∷ back) ≡ back
  after_first-append = rw position_or_len-append (drop-append-add front (byte ∷ back) 1)

-- a text has a slash where the search for one stops before the end
pub Contains-slash : (text : List ℕ) → position_or_len is_slash text < length text → Contains text slash
Contains-slash text found = (position_or_len is_slash text, found, eqb-true _ _ (passes_at_first is_slash text slash found))

pub no_slash : (text : List ℕ) → position_or_len is_slash text ≡ length text → Contains text slash → ⊥
no_slash text none (k, within, is) =
    true≢false (sym (eq-eqb _ _ is) ∙ fails_before_first is_slash text k slash (omega (arith, none)))

NoSlash-decimal : (n : ℕ) → n < 2 ^ 64 → All (λ b. is_slash b ≡ false) (decimal n)
NoSlash-decimal n small k d within =
    let digit = digit_at (decimal n) k (decimal_is_IsNumeral n small).0.1 within in
    let same = get_or_default (decimal n) k d 0 within in
    ne_eqb (get_or (decimal n) k d) slash (omega (arith, digit, same))

NoSlash-point : All (λ b. is_slash b ≡ false) (codes ".")
NoSlash-point zero d within = refl
NoSlash-point (suc k) d within = absurd (omega (arith, within))

NoSlash-joined : (front back : List ℕ) → All (λ b. is_slash b ≡ false) front → All (λ b. is_slash b ≡ false) back → All (λ b. is_slash b ≡ false) (front ++ codes "." ++ back)
NoSlash-joined front back h k =
    All-append (λ b. is_slash b ≡ false) (front ++ codes ".") back (All-append (λ b. is_slash b ≡ false) front (codes ".") h NoSlash-point) k

NoSlash-address_text : (addr : ℕ) → addr < 2 ^ 32 → All (λ b. is_slash b ≡ false) (address_text addr)
NoSlash-address_text addr fits =
    let first = NoSlash-decimal (addr / 2 ^ 24) (omega arith) in
    let second = NoSlash-decimal (addr / 2 ^ 16 % 256) (omega arith) in
    let third = NoSlash-decimal (addr / 2 ^ 8 % 256) (omega arith) in
    let fourth = NoSlash-decimal (addr % 256) (omega arith) in
    NoSlash-joined _ _ (NoSlash-joined _ _ (NoSlash-joined _ _ first second) third) fourth

-- the parts of a prefix's text
module _ (text : List ℕ) (p : Prefix) (spells : SpellsPrefix text p) where
  apart : text ≡ address_text p.addr ++ slash ∷ decimal p.len
  apart = spells.1 ∙ append_assoc (address_text p.addr) (codes "/") (decimal p.len)

  pub spells_slash : Contains text slash
  spells_slash = (length (address_text p.addr), rw apart (omega (arith, length-append (address_text p.addr) (slash ∷ decimal p.len))), rw apart (get_or-append_seam (address_text p.addr) slash (decimal p.len) slash))

  pub spells_address : SpellsAddress (address_part text) p.addr
  spells_address = (spells.0.fits, rw apart (before_first-append is_slash _ _ slash (NoSlash-address_text p.addr spells.0.fits) refl))

  pub spells_length : SpellsLength (length_part text) p.len
  spells_length = (spells.0.short, rw apart (after_first-append is_slash _ _ slash (NoSlash-address_text p.addr spells.0.fits) refl))

SpellsLength_unique : (text : List ℕ) (m n : ℕ) → SpellsLength text m → SpellsLength text n → m ≡ n
SpellsLength_unique text m n h k = Spells_unique text m n (omega (arith, h.0), h.1) (omega (arith, k.0), k.1)

-- the parts make the text of a prefix
pub SpellsPrefix-parts : (text : List ℕ) (addr len : ℕ) → position_or_len is_slash text < length text → SpellsAddress (address_part text) addr → SpellsLength (length_part text) len → IsPrefix (block addr len) → SpellsPrefix text (block addr len)
SpellsPrefix-parts text addr len found address length valid =
    let first : get_or text (position_or_len is_slash text) slash ≡ slash = eqb-true _ _ (passes_at_first is_slash text slash found) in
    (valid, split_at_first is_slash text slash found ∙ rw (first, ← address.1, ← length.1) (sym (append_assoc (address_part text) (codes "/") (length_part text))))

-- a text spells at most one prefix
pub SpellsPrefix_unique : (text : List ℕ) (p q : Prefix) → SpellsPrefix text p → SpellsPrefix text q → p ≡ q
SpellsPrefix_unique text p q h k =
    let addr = SpellsAddress_unique _ _ _ (spells_address text p h) (spells_address text q k) in
    let len = SpellsLength_unique _ _ _ (spells_length text p h) (spells_length text q k) in
    λ i. record { addr = addr i; len = len i }

-- a text with a fault spells no prefix
pub IsFirstFault-spelled : (text : List ℕ) (e : PrefixFault) (p : Prefix) → IsFirstFault text e → SpellsPrefix text p → ⊥
IsFirstFault-spelled text NoSlash p fault spells = fault (spells_slash text p spells)
IsFirstFault-spelled text BadAddress p fault spells = fault.1 (p.addr, spells_address text p spells)
IsFirstFault-spelled text BadLength p fault spells = fault.2 (p.len, spells_length text p spells)
IsFirstFault-spelled text HostBits p fault spells =
    let addr = SpellsAddress_unique _ _ _ fault.1.address (spells_address text p spells) in
    let len = SpellsLength_unique _ _ _ fault.1.spelled (spells_length text p spells) in
    fault.1.host_bits (rw (addr, len) spells.0.no_host_bits)

-- a text has at most one first fault
pub IsFirstFault_unique : (text : List ℕ) (e f : PrefixFault) → IsFirstFault text e → IsFirstFault text f → e ≡ f
IsFirstFault_unique text NoSlash BadAddress h k = absurd (h k.0)
IsFirstFault_unique text NoSlash BadLength h k = absurd (h k.0)
IsFirstFault_unique text NoSlash HostBits h k = absurd (h k.0)
IsFirstFault_unique text BadAddress NoSlash h k = absurd (k h.0)
IsFirstFault_unique text BadAddress BadLength h k = absurd (h.1 k.1)
IsFirstFault_unique text BadAddress HostBits h k = absurd (h.1 (k.1.addr, k.1.address))
IsFirstFault_unique text BadLength NoSlash h k = absurd (k h.0)
IsFirstFault_unique text BadLength BadAddress h k = absurd (k.1 h.1)
IsFirstFault_unique text BadLength HostBits h k = absurd (h.2 (k.1.len, k.1.spelled))
IsFirstFault_unique text HostBits NoSlash h k = absurd (k h.0)
IsFirstFault_unique text HostBits BadAddress h k = absurd (k.1 (h.1.addr, h.1.address))
IsFirstFault_unique text HostBits BadLength h k = absurd (k.2 (h.1.len, h.1.spelled))
IsFirstFault_unique text _ _ h k = refl

-- an answer is right: what is read is spelled, and a fault is the first. It is then the only one that is right
pub record IsRightAnswer (text : List ℕ) (r : Result Prefix PrefixFault) : Type 0 where
  pub read : IfOk r (SpellsPrefix text)
  pub fault : IfErr r (IsFirstFault text)

pub every_prefix : (text : List ℕ) (r : Result Prefix PrefixFault) → IsRightAnswer text r → (p : Prefix) → SpellsPrefix text p → r ≡ Ok p
every_prefix text (Ok q) right p spells = ap Ok (SpellsPrefix_unique text q p right.read spells)
every_prefix text (Err e) right p spells = absurd (IsFirstFault-spelled text e p right.fault spells)

pub every_fault : (text : List ℕ) (r : Result Prefix PrefixFault) → IsRightAnswer text r → (e : PrefixFault) → IsFirstFault text e → r ≡ Err e
every_fault text (Ok q) right e first = absurd (IsFirstFault-spelled text e q first right.read)
every_fault text (Err f) right e first = ap Err (IsFirstFault_unique text f e right.fault first)
