-- The machines of a router have its ports, up and down as the notices said.
use Rattle.std.proofs.Common.{refl, sym, ap, ◌∙◌, arith, ◌≡◌, ℕ, ◌+◌, ◌<◌, Bool, true, false, List, [], ◌∷◌, length, drop, Option, Some, None, slice_get, option_map}
use Rattle.network_model.proofs.Common.{option_map_or, length-map, slice_get-map, Machine, records_after, reaction, neighbours, map-changed_at, changed_at-map, reaction-keeps, drop_more, slice_get_within, get_or_from_slice_get, slice_get-get_or}
use Rattle.network_model.specs.{declared.machine.Event.Event, declared.machine.Neighbour.Neighbour, declared.network.Port.Port}
use Rattle.network_model.specs.declared.machine.Event.TheVariants.{Message, Up, Down, Cost}
use Rattle.router_core.specs.Parts.{ups, port_ups, ups_after}

pub ups-records_after : (e : Event) (ns : List Neighbour) → ups (records_after e ns) ≡ ups_after e (ups ns)
ups-records_after (Message q kind value) ns = map-changed_at _ (λ n. n.up) q ns (λ n _. refl)
ups-records_after (Up q cost) ns = sym (changed_at-map (λ (n : Neighbour). n.up) (λ n. record { up = true; cost = cost; reported = 4294967295 }) (λ _. true) (λ n. refl) q ns)
ups-records_after (Down q) ns = sym (changed_at-map (λ (n : Neighbour). n.up) (λ n. record { up = false; cost = n.cost; reported = n.reported }) (λ _. false) (λ n. refl) q ns)
ups-records_after (Cost q cost) ns = map-changed_at _ (λ n. n.up) q ns (λ n _. refl)
ups-records_after _ ns = refl

pub ups-reaction : (m : Machine) (e : Event) → ups (reaction m e).machine.ports ≡ ups_after e (ups m.ports)
ups-reaction m e = ap ups (reaction-keeps m e).ports ∙ ups-records_after e m.ports

-- a machine that opens over the ports has them
pub ups-neighbours : (ports : List Port) → ups (neighbours ports) ≡ port_ups ports
ups-neighbours [] = refl
ups-neighbours (p ∷ ps) = ap (λ bs. p.up ∷ bs) (ups-neighbours ps)

-- ---- what the machine with the router's ports says of one of them

pub length-ups : (ns : List Neighbour) (ports : List Port) → ups ns ≡ port_ups ports → length ns ≡ length ports
length-ups ns ports same = sym (length-map ns (λ (n : Neighbour). n.up)) ∙ ap length same ∙ length-map ports (λ (p : Port). p.up)

option_map_or-map : {A : Type 0} (f : A → Bool) (o : Option A) → option_map_or f o false ≡ option_map_or (λ b. b) (option_map f o) false
option_map_or-map f None = refl
option_map_or-map f (Some x) = refl

pub up_at-ups : (ns : List Neighbour) (ports : List Port) (q : ℕ) → ups ns ≡ port_ups ports → option_map_or (λ n. n.up) (slice_get ns q) false ≡ option_map_or (λ p. p.up) (slice_get ports q) false
up_at-ups ns ports q same =
    option_map_or-map (λ n. n.up) (slice_get ns q)
    ∙ ap (λ o. option_map_or (λ b. b) o false) (sym (slice_get-map (λ n. n.up) ns q) ∙ ap (λ bs. slice_get bs q) same ∙ slice_get-map (λ p. p.up) ports q)
    ∙ sym (option_map_or-map (λ p. p.up) (slice_get ports q))

-- ---- a walk along the ports

-- the neighbour at a port is the first of those from there on
pub drop_at : (ns : List Neighbour) (i : ℕ) (n : Neighbour) → slice_get ns i ≡ Some n → drop i ns ≡ n ∷ drop (i + 1) ns
drop_at ns i n read = drop_more ns i n (slice_get_within ns i n read) ∙ ap (λ x. x ∷ drop (i + 1) ns) (get_or_from_slice_get ns i n n read)

-- there is one at each port
pub none_at : (ns : List Neighbour) (i : ℕ) → i < length ns → slice_get ns i ≡ None → ⊥
none_at [] i within none = omega arith
none_at (n ∷ ns) i within none = let there = slice_get-get_or (n ∷ ns) i n within in cc
