-- When the feasible distance rises, and what the successor reported.
use Rattle.std.proofs.Common.{◌≡◌, ◌⊎◌, ℕ, ◌<◌, ◌≤◌, min, Bool, true, false, List, [], Option, Some, refl, ap, sym, inl, inr, arith, subst, ◌∙◌, slice_get}
use Rattle.network_model.proofs.Common.{both_ways, none-some, Machine, Reaction, chosen_successor, least, ways, port_count, home_ways, records_after, attachment_after, with_records, reaction, infinity, slice_get-changed_at_other}
use Rattle.network_model.specs.{declared.machine.Event.Event, declared.machine.Event.TheVariants.Up, declared.machine.Neighbour.Neighbour}
use Rattle.machine_laws.specs.Laws.{released, test_at, is_up_at, reported_by, reported_at, awaits, is_active, Meets, IsSound, RisesAtCompletion, KeepsOrChooses}
use Rattle.machine_laws.proofs.{Lists.append_within, Lists.test_within, Events.sound_after, Events.attachment_sound_after, Events.successor_kept}
use Rattle.machine_laws.proofs.Distances.{AllSound, chosen_feasible, feasible_below_least, ways_sound}
use Rattle.machine_laws.proofs.Outcomes.{Decision, Outcome, came_up, goes_on, settles, asks, is_alone, outcome, test_nowhere}

-- the law of the rising feasible distance for one reaction and one port
abbrev Rises : Machine → Event → Reaction → ℕ → Type 0
Rises m e r p = (is_active m ≡ true) × (r.machine.fd ≤ m.rd) × (awaits m p ≡ true → released e ≡ Some p)

-- where a machine that chooses anew has a greater feasible distance, a computation has ended
decision_rises : (m : Machine) (e : Event) (fd new p : ℕ) → Decision m e fd → new ≤ fd → m.fd < new → (is_active m ≡ true) × (new ≤ m.rd) × (awaits m p ≡ true → released e ≡ Some p)
decision_rises m e fd new p d under rise = (d.rises (omega arith), omega (arith, d.below), d.over p)

-- every outcome in which the feasible distance rises ends a computation
rises_of : (m : Machine) (e : Event) (r : Reaction) → Outcome m e r → m.fd < r.machine.fd → (p : ℕ) → is_up_at r.machine p ≡ true → Rises m e r p
rises_of m e r (came_up q cost) rise p up = absurd (omega (arith, rise))
rises_of m e r (goes_on _ c debt answer h some a) rise p up = absurd (omega (arith, rise))
rises_of m e r (settles _ fd owed dec a f) rise p up = decision_rises m e fd (min fd (least (ways (with_records m e)))) p dec (omega arith) rise
rises_of m e r (asks _ fd debt answer dec a f some) rise p up = decision_rises m e fd fd p dec (omega arith) rise
rises_of m e r (is_alone _ fd debt answer dec a f none) rise p up = absurd (both_ways _ (test_nowhere (λ n. n.up) (records_after e m.ports) p none) up)

-- with a port up, the feasible distance rises only where a computation ends, to its distance at most
pub rises_at_completion : RisesAtCompletion
rises_at_completion m e sound meets rise p up = rises_of m e (reaction m e) (outcome m e sound meets) rise p up

-- the port that is chosen reported less than the new feasible distance
pub chosen_reported : (fd : ℕ) (ns : List Neighbour) (s : Option ℕ) (p : ℕ) → AllSound ns → chosen_successor fd ns s ≡ Some p → reported_by (slice_get ns p) < min fd (least ns)
chosen_reported fd ns s p sound h =
    let both = chosen_feasible fd ns s p h in
    let f = both.1 in
    let under : f.neighbour.reported < least ns = feasible_below_least fd ns p sound both.0 f in
    let below : f.neighbour.reported < fd = f.below in
    rw f.at (omega arith)

-- another port's coming up changes no report
pub reported_other : (m : Machine) (q cost p : ℕ) → (p ≡ q → ⊥) → reported_at (with_records m (Up q cost)) p ≡ reported_at m p
reported_other m q cost p other = ap reported_by (slice_get-changed_at_other (λ n. record { up = true; cost = cost; reported = infinity }) q p m.ports other)

-- nor whether this one is up
pub up_other : (m : Machine) (q cost p : ℕ) → (p ≡ q → ⊥) → is_up_at (with_records m (Up q cost)) p ≡ is_up_at m p
up_other m q cost p other = ap (test_at (λ n. n.up)) (slice_get-changed_at_other (λ n. record { up = true; cost = cost; reported = infinity }) q p m.ports other)

-- the successor is another port than one that is down
pub successor_other : (m : Machine) (q p : ℕ) → IsSound m → q < port_count m → is_up_at m q ≡ false → m.successor ≡ Some p → p ≡ q → ⊥
successor_other m q p sound there down s e = both_ways (is_up_at m q) down (subst (λ x. is_up_at m x ≡ true) e (sound.successor_up p s (omega (arith, there, e))))

-- the ways after an event are sound
pub ways_sound_after : (m : Machine) (e : Event) → IsSound m → Meets m e → AllSound (ways (with_records m e))
ways_sound_after m e sound meets = ways_sound (records_after e m.ports) (attachment_after e m.attachment) (sound_after m e sound.ports_sound meets) (attachment_sound_after m e sound.attachment_sound meets)

-- a port that is up is the way of its number
pub port_way : (n : Machine) (p : ℕ) → is_up_at n p ≡ true → slice_get (ways n) p ≡ slice_get n.ports p
port_way n p up = append_within n.ports (home_ways n.attachment) p (test_within (λ x. x.up) n.ports p up)

-- a port that is chosen after an event reported less than the new feasible distance
pub settled_reported : (m : Machine) (e : Event) (fd p : ℕ) → IsSound m → Meets m e → chosen_successor fd (ways (with_records m e)) (with_records m e).successor ≡ Some p → is_up_at (with_records m e) p ≡ true
    → reported_at (with_records m e) p < min fd (least (ways (with_records m e)))
settled_reported m e fd p sound meets s up =
    let r : reported_by (slice_get (ways (with_records m e)) p) < min fd (least (ways (with_records m e))) = chosen_reported fd (ways (with_records m e)) (with_records m e).successor p (ways_sound_after m e sound meets) s in
    rw (port_way (with_records m e) p up) at r

-- the law of the successor for one reaction and one port
abbrev KeepsOr : Machine → Reaction → ℕ → Type 0
KeepsOr m r p = (reported_at r.machine p < r.machine.fd) ⊎ ((m.successor ≡ Some p) × (is_active r.machine ≡ true) × (m.fd ≤ r.machine.fd))

-- every outcome keeps its successor or chooses one that reported less than the feasible distance
keeps_of : (m : Machine) (e : Event) (r : Reaction) → IsSound m → Meets m e → Outcome m e r → (p : ℕ) → r.machine.successor ≡ Some p → is_up_at r.machine p ≡ true → KeepsOr m r p
keeps_of m e r sound meets (came_up q cost) p s up = go (is_active m) refl
  where
    go : (b : Bool) → is_active m ≡ b → KeepsOr m (record { machine = with_records m (Up q cost); sends = [] }) p
    go true act = inr (s, act, omega arith)
    go false act =
        let other = successor_other m q p sound meets.0 meets.1 s in
        inl (rw (reported_other m q cost p other) (sound.passive_feasible p act s (sym (up_other m q cost p other) ∙ up)))
keeps_of m e r sound meets (goes_on _ c debt answer h some a) p s up = inr ((successor_kept (port_count m) e m.successor p s).0, refl, omega arith)
keeps_of m e r sound meets (settles _ fd owed dec a f) p s up = inl (settled_reported m e fd p sound meets s up)
keeps_of m e r sound meets (asks _ fd debt answer dec a f some) p s up = inr ((successor_kept (port_count m) e m.successor p s).0, refl, dec.above)
keeps_of m e r sound meets (is_alone _ fd debt answer dec a f none) p s up = absurd (none-some p s)

-- a neighbour that is the successor after an event reported less than the feasible distance, or was the successor of a machine that is active
pub keeps_or_chooses : KeepsOrChooses
keeps_or_chooses m e sound meets p s up = keeps_of m e (reaction m e) sound meets (outcome m e sound meets) p s up
