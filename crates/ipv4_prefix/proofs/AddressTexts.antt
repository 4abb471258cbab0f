-- Each address has one text, and each text spells at most one address.
use Rattle.std.proofs.Common.{◌≡◌, ℕ, ◌+◌, ◌*◌, ◌/◌, ◌%◌, ◌^◌, ◌<◌, List, [], ◌∷◌, refl, sym, ap, subst, ◌∙◌, arith, lit≤}
use Rattle.std.specs.{Int.w32, Int.from_be_bytes, Net.Grammar.IsDotted, Net.Text.ipv4_text}
use Rattle.std.proofs.{NetLemmas.Ipv4.read_ipv4_complete, NetLemmas.Options.same_parts}
use Rattle.ipv4_prefix.specs.{Texts.address_text, Faults.SpellsAddress}

-- the four octets of an address, the highest first
abbrev pub octets_of : ℕ → List ℕ
octets_of addr = (addr / 2 ^ 24) ∷ (addr / 2 ^ 16 % 256) ∷ (addr / 2 ^ 8 % 256) ∷ (addr % 256) ∷ []

pub IsDotted-address_text : (addr : ℕ) → addr < 2 ^ 32 → IsDotted (address_text addr) (octets_of addr)
IsDotted-address_text addr fits = record {
  a = addr / 2 ^ 24;
  b = addr / 2 ^ 16 % 256;
  c = addr / 2 ^ 8 % 256;
  d = addr % 256;
  fit = omega arith;
  value = refl;
  spelled = refl;
}

-- the octets give the address back
same_octets : (a b : ℕ) → octets_of a ≡ octets_of b → a ≡ b
same_octets a b e =
    let e0 : a / 2 ^ 24 ≡ b / 2 ^ 24 = cc in
    let e1 : a / 2 ^ 16 % 256 ≡ b / 2 ^ 16 % 256 = cc in
    let e2 : a / 2 ^ 8 % 256 ≡ b / 2 ^ 8 % 256 = cc in
    let e3 : a % 256 ≡ b % 256 = cc in
    omega arith

-- a text writes four octets at most
pub IsDotted_unique : (text xs ys : List ℕ) → IsDotted text xs → IsDotted text ys → xs ≡ ys
IsDotted_unique text xs ys h k =
    (same_parts _ _ _ _ (sym (read_ipv4_complete text xs [] h (lit≤ tt)) ∙ read_ipv4_complete text ys [] k (lit≤ tt))).0

pub address_text_injective : (a b : ℕ) → a < 2 ^ 32 → b < 2 ^ 32 → address_text a ≡ address_text b → a ≡ b
address_text_injective a b f g e =
    same_octets a b (IsDotted_unique (address_text b) (octets_of a) (octets_of b) (subst (λ text. IsDotted text (octets_of a)) e (IsDotted-address_text a f)) (IsDotted-address_text b g))

pub SpellsAddress_unique : (text : List ℕ) (a b : ℕ) → SpellsAddress text a → SpellsAddress text b → a ≡ b
SpellsAddress_unique text a b h k = address_text_injective a b h.0 k.0 (sym h.1 ∙ k.1)

-- four octets are those of one address
octets_of-four : (a b c d : ℕ) → a < 256 → b < 256 → c < 256 → d < 256 → octets_of (a * 2 ^ 24 + b * 2 ^ 16 + c * 2 ^ 8 + d) ≡ a ∷ b ∷ c ∷ d ∷ []
octets_of-four a b c d f g h k =
    let n = a * 2 ^ 24 + b * 2 ^ 16 + c * 2 ^ 8 + d in
    let first : n / 2 ^ 24 ≡ a = omega arith in
    let second : n / 2 ^ 16 % 256 ≡ b = omega arith in
    let third : n / 2 ^ 8 % 256 ≡ c = omega arith in
    let fourth : n % 256 ≡ d = omega arith in
    cc

-- what four numbers with points between them spell
pub SpellsAddress-dotted : (text octets : List ℕ) → IsDotted text octets → SpellsAddress text (from_be_bytes w32 octets)
SpellsAddress-dotted text octets h =
    rw (h.value, h.spelled) (omega (arith, h.fit), sym (ap ipv4_text (octets_of-four h.a h.b h.c h.d h.fit.0 h.fit.1 h.fit.2 h.fit.3)))
