-- The successor as a port of a link, or as the attachment.
use Rattle.std.proofs.Common.{◌≡◌, ℕ, ◌<◌, Bool, true, false, Option, Some, None, refl, arith, eqb-true, eq-eqb, ne_eqb, sym, ◌==◌, if◌then◌else◌, option_and_then}
use Rattle.network_model.proofs.Common.{none-some, Machine, port_count, port_successor, is_port}

pub port_successor_is : (m : Machine) (p : ℕ) → m.successor ≡ Some p → p < port_count m → port_successor m ≡ Some p
port_successor_is m p h l = rw (h, ne_eqb p (port_count m) (λ e. omega (arith, l, e))) refl

pub port_successor_none : (m : Machine) → m.successor ≡ None → port_successor m ≡ None
port_successor_none m h = rw h refl

-- the attachment is no port
pub port_successor_home : (m : Machine) → m.successor ≡ Some (port_count m) → port_successor m ≡ None
port_successor_home m h = rw (h, eq-eqb (port_count m) (port_count m) refl) refl

pub port_successor_from : (m : Machine) (p : ℕ) → port_successor m ≡ Some p → m.successor ≡ Some p
port_successor_from m p h = go m.successor h
  where
    by_test : (b : Bool) (q : ℕ) → (if b then None else Some q) ≡ Some p → ◌≡◌ {A = Option ℕ} (Some q) (Some p)
    by_test true q e = absurd (none-some p e)
    by_test false q e = e

    go : (o : Option ℕ) → option_and_then (λ q. if q == port_count m then None else Some q) o ≡ Some p → o ≡ Some p
    go None e = absurd (none-some p e)
    go (Some q) e = by_test (q == port_count m) q e

-- a port is the successor where it is the port that is
pub is_port_successor : (m : Machine) (p : ℕ) → p < port_count m → is_port p (port_successor m) ≡ is_port p m.successor
is_port_successor m p l = go m.successor
  where
    by_test : (b : Bool) (q : ℕ) → (q == port_count m) ≡ b → is_port p (if b then None else Some q) ≡ is_port p (Some q)
    by_test true q t = sym (ne_eqb p q (λ e. let same : q ≡ port_count m = eqb-true q (port_count m) t in omega (arith, l, e, same)))
    by_test false q t = refl

    go : (o : Option ℕ) → is_port p (option_and_then (λ q. if q == port_count m then None else Some q) o) ≡ is_port p o
    go None = refl
    go (Some q) = by_test (q == port_count m) q refl
