-- A packet that is followed router by router, as code has it: by one prefix, or through, whichever prefixes match it.
use Rattle.std.specs.Prelude.{ℕ, zero, suc, ◌<◌, Bool, true, false, [], Option, Some, None, IsSome, length}
use Rattle.ipv4_prefix.specs.Prefix.{Prefix}
use Rattle.network_model.specs.{World.World, Forwarding.Trace, Forwarding.onward, Forwarding.traced_by}

-- the prefix that the routers behind one that matched p have to match too, if there is one
abbrev pub kept_prefix : Bool → Prefix → Option Prefix
kept_prefix true p = None
kept_prefix false p = Some p

-- the trace from router i of at most n routers
abbrev pub followed_from : Bool → ℕ → World → ℕ → Option Prefix → ℕ → Trace
followed_from through zero w addr first i = record { path = []; end = None }
followed_from through (suc n) w addr first i = traced_by (λ p k. followed_from through n w addr (kept_prefix through p) k) i (onward w addr first i)

-- the trace of a packet for an address from router i
abbrev pub followed_way : Bool → World → ℕ → ℕ → Trace
followed_way through w i addr = followed_from through (length w.routers) w addr None i

-- each trace from a router ends
pub record FollowsEnd (w : World) : Type 0 where
  pub ends : (through : Bool) (i addr : ℕ) → i < length w.routers → IsSome (followed_way through w i addr).end
