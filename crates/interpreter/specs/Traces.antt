-- The traces of packets, and where one crosses from the rows of one prefix to those of another.
use Rattle.std.specs.Prelude.{◌≡◌, ℕ, Bool, true, false, not, List, [], ◌∷◌, Option, None, option_map, option_and_then}
use Rattle.std.specs.{List.position_from, Option.option_map_or}
use Rattle.ipv4_prefix.specs.Prefix.{Prefix, prefix_eq}
use Rattle.network_model.specs.{declared.trace.Trace.Trace, World.World, Forwarding.row_for, Forwarding.trace, Forwarding.trace_of}
use Rattle.all_packets.specs.Through.{through}

-- the trace of a packet for the address from a router: through, whichever prefixes match it, or while one prefix does
abbrev pub IsTrace : World → ℕ → ℕ → Bool → Trace → Type 0
IsTrace w router addr true t = trace_of t ≡ through w router addr
IsTrace w router addr false t = trace_of t ≡ trace w router addr

-- the prefix by which a router matches a packet
abbrev pub matched_at : World → ℕ → ℕ → Option Prefix
matched_at w addr i = option_map (λ r. r.0) (row_for w i addr)

-- whether it matches it by another prefix than this
abbrev pub matches_other : World → ℕ → Prefix → ℕ → Bool
matches_other w addr p i = option_map_or (λ q. not (prefix_eq p q)) (matched_at w addr i) false

-- the place of the first router on a path that matches it by another prefix than the first
abbrev pub crossing_on : World → ℕ → List ℕ → Option ℕ
crossing_on w addr [] = None
crossing_on w addr (i ∷ is) = option_and_then (λ p. position_from (matches_other w addr p) 0 (i ∷ is)) (matched_at w addr i)
