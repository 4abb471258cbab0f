-- A sound machine stays sound.
use Rattle.std.proofs.Common.{◌≡◌, ℕ, min, ◌<◌, ◌≤◌, Bool, true, false, List, Option, Some, refl, ap, sym, arith, subst, ◌∙◌, slice_get, length, is_some, true≢false}
use Rattle.network_model.proofs.Common.{list_any, both_ways, false≢true, false_from_ne_true, same_Some, Machine, Computation, Reaction, condition_holds, distance, via_successor, least, ways, port_count, home_ways, records_after, attachment_after, with_records, awaited_after, passive_result, reaction, infinity, least_bounded, least-append, least_ways-none_up}
use Rattle.network_model.specs.{declared.machine.Event.Event, declared.machine.Event.TheVariants.Up, declared.machine.Neighbour.Neighbour}
use Rattle.machine_laws.specs.Laws.{released, test_at, is_up_at, awaits, is_down, Meets, IsSound, StaysSound}
use Rattle.machine_laws.proofs.{Lists.list_any_place, Lists.append_within, Lists.changed_append_other, Opened.nowhere_sound, Counting.awaited_up, Counting.awaited_off}
use Rattle.machine_laws.proofs.Distances.{AllSound, chosen_feasible, chosen_none, condition_fails, via_range, least_came_up, least_positive, way_within, way_last}
use Rattle.machine_laws.proofs.Events.{sound_after, attachment_sound_after, successor_kept, attachment_kept, ports_length, stays_up, is_port-Some, down_released}
use Rattle.machine_laws.proofs.Outcomes.{Account, Decision, Outcome, came_up, goes_on, settles, asks, is_alone, waiting, asked, alone, outcome, active_awaits, awaited_kept}
use Rattle.machine_laws.proofs.Choosing.{settled_reported, ways_sound_after, reported_other, up_other, successor_other}

-- a test that passes in a list passes at some place
any_at : {A : Type 0} (test : A → Bool) (xs : List A) → list_any test xs ≡ true → (p : ℕ) × (test_at test (slice_get xs p) ≡ true)
any_at test xs h = let (p, x, at, t) = list_any_place test xs h in (p, rw at t)

-- a successor after an event is a port that is up, or the attachment
successor_kept_up : (m : Machine) (e : Event) → IsSound m → (p : ℕ) → (with_records m e).successor ≡ Some p → (p < port_count (with_records m e) → is_up_at (with_records m e) p ≡ true) × (p ≤ port_count (with_records m e))
successor_kept_up m e sound p h =
    let kept = successor_kept (port_count m) e m.successor p h in
    let same : port_count (with_records m e) ≡ port_count m = ports_length e m.ports in
    (λ l. stays_up m e p kept.1 (sound.successor_up p kept.0 (omega (arith, l, same))), omega (arith, same, sound.successor_within p kept.0))

-- an attachment that is the successor after an event is there
successor_kept_attached : (m : Machine) (e : Event) → IsSound m → (with_records m e).successor ≡ Some (port_count (with_records m e)) → is_some (with_records m e).attachment ≡ true
successor_kept_attached m e sound h =
    let here : (with_records m e).successor ≡ Some (port_count m) = h ∙ ap (λ (n : ℕ). Some n) (ports_length e m.ports) in
    attachment_kept (port_count m) e m.successor m.attachment here (sound.successor_attached (successor_kept (port_count m) e m.successor (port_count m) here).0)

-- a machine stays sound where a link comes up
sound_came_up : (m : Machine) (q cost : ℕ) → IsSound m → Meets m (Up q cost) → IsSound (with_records m (Up q cost))
sound_came_up m q cost sound meets = record {
  ports_sound = sound_after m (Up q cost) sound.ports_sound meets;
  attachment_sound = attachment_sound_after m (Up q cost) sound.attachment_sound meets;
  rd_bounded = sound.rd_bounded;
  fd_below = sound.fd_below;
  fd_positive = sound.fd_positive;
  successor_up = λ p s. (successor_kept_up m (Up q cost) sound p s).0;
  successor_within = λ p s. (successor_kept_up m (Up q cost) sound p s).1;
  successor_attached = λ s. successor_kept_attached m (Up q cost) sound s;
  successor_finite = sound.successor_finite;
  passive_least = λ k. sound.passive_least k ∙ sym same_least;
  passive_feasible = λ p k s up.
      let other = successor_other m q p sound meets.0 meets.1 s in
      rw (reported_other m q cost p other) (sound.passive_feasible p k s (sym (up_other m q cost p other) ∙ up));
  passive_attains = λ p n k s at.
      sound.passive_attains p n k s (sym (changed_append_other p q (λ x. record { up = true; cost = cost; reported = infinity }) m.ports (home_ways m.attachment) (successor_other m q p sound meets.0 meets.1 s)) ∙ at) ∙ sym same_least;
  passive_none = sound.passive_none;
  active_above = sound.active_above;
  awaits_some = sound.awaits_some;
  awaits_up = λ p k. stays_up m (Up q cost) p refl (sound.awaits_up p k);
  owes_successor = sound.owes_successor;
  owes_up = λ p k. stays_up m (Up q cost) p refl (sound.owes_up p k);
}
  where
    same_least : least (ways (with_records m (Up q cost))) ≡ least (ways m)
    same_least = least-append (records_after (Up q cost) m.ports) (home_ways m.attachment) ∙ ap (λ d. min d (least (home_ways m.attachment))) (least_came_up q cost m.ports meets.1) ∙ sym (least-append m.ports (home_ways m.attachment))

-- who is awaited after an event is up
awaited_stays_up : (m : Machine) (e : Event) (c : Computation) (p : ℕ) → IsSound m → m.computation ≡ Some c → test_at (λ b. b) (slice_get (awaited_after e c.awaited) p) ≡ true → is_up_at (with_records m e) p ≡ true
awaited_stays_up m e c p sound h k = stays_up m e p (false_from_ne_true (is_down p e) (λ t. held (down_released p e t))) (sound.awaits_up p before)
  where
    held : released e ≡ Some p → ⊥
    held t = both_ways _ (awaited_off e p c.awaited t) k

    before : awaits m p ≡ true
    before = active_awaits m c p h ∙ ap (test_at (λ b. b)) (sym (awaited_kept e p c.awaited held)) ∙ k

-- a machine whose computation goes on stays sound
sound_waiting : (m : Machine) (e : Event) (c : Computation) (debt answer : Option ℕ) → IsSound m → Meets m e → m.computation ≡ Some c → list_any (λ b. b) (awaited_after e c.awaited) ≡ true
    → Account m e debt answer → IsSound (waiting (with_records m e) e c.awaited debt answer).machine
sound_waiting m e c debt answer sound meets h some a = record {
  ports_sound = sound_after m e sound.ports_sound meets;
  attachment_sound = attachment_sound_after m e sound.attachment_sound meets;
  rd_bounded = sound.rd_bounded;
  fd_below = sound.fd_below;
  fd_positive = sound.fd_positive;
  successor_up = λ p s. (successor_kept_up m e sound p s).0;
  successor_within = λ p s. (successor_kept_up m e sound p s).1;
  successor_attached = λ s. successor_kept_attached m e sound s;
  successor_finite = λ p s. sound.successor_finite p (successor_kept (port_count m) e m.successor p s).0;
  passive_least = λ k. absurd (true≢false k);
  passive_feasible = λ p k. absurd (true≢false k);
  passive_attains = λ p n k. absurd (true≢false k);
  passive_none = λ k. absurd (true≢false k);
  active_above = λ k. sound.active_above (rw h);
  awaits_some = λ k. any_at (λ b. b) (awaited_after e c.awaited) some;
  awaits_up = λ p k. awaited_stays_up m e c p sound h k;
  owes_successor = λ p k. a.debt_successor p (is_port-Some p debt k);
  owes_up = λ p k. a.debt_up p (is_port-Some p debt k);
}

-- a machine that chooses and is passive after the event is sound
sound_settled : (m : Machine) (e : Event) (fd : ℕ) (owed : Option ℕ) → IsSound m → Meets m e → m.fd ≤ fd → condition_holds fd (ways (with_records m e)) ≡ true → IsSound (passive_result (with_records m e) fd owed).machine
sound_settled m e fd owed sound meets above f = record {
  ports_sound = sound_after m e sound.ports_sound meets;
  attachment_sound = attachment_sound_after m e sound.attachment_sound meets;
  rd_bounded = least_bounded ns;
  fd_below = omega arith;
  fd_positive = omega (arith, least_positive (ways (with_records m e)) (ways_sound_after m e sound meets), sound.fd_positive, above);
  successor_up = λ p s l. let take = (chosen_feasible fd ns was p s).1 in rw (sym (append_within (records_after e m.ports) (home_ways (attachment_after e m.attachment)) p l) ∙ take.at) take.up;
  successor_within = λ p s. let take = (chosen_feasible fd ns was p s).1 in way_within (records_after e m.ports) (attachment_after e m.attachment) p take.neighbour take.at;
  successor_attached = λ s. let take = (chosen_feasible fd ns was (length (records_after e m.ports)) s).1 in way_last (records_after e m.ports) (attachment_after e m.attachment) take.neighbour take.at;
  successor_finite = λ p s. omega (arith, (chosen_feasible fd ns was p s).0);
  passive_least = λ k. refl;
  passive_feasible = λ p k s up. settled_reported m e fd p sound meets s up;
  passive_attains = λ p n k s at. let take = (chosen_feasible fd ns was p s).1 in subst (λ x. distance x ≡ least ns) (same_Some take.neighbour n (sym take.at ∙ at)) take.attains;
  passive_none = λ k s. let none = chosen_none fd ns was f s in (none.0, omega (arith, none.0, none.1));
  active_above = λ k. absurd (false≢true k);
  awaits_some = λ k. absurd (false≢true k);
  awaits_up = λ p k. absurd (false≢true k);
  owes_successor = λ p k. absurd (false≢true k);
  owes_up = λ p k. absurd (false≢true k);
}
  where
    ns : List Neighbour
    ns = ways (with_records m e)

    was : Option ℕ
    was = (with_records m e).successor

-- a machine whose computation begins, with someone up, is sound
sound_asked : (m : Machine) (e : Event) (fd : ℕ) (debt answer : Option ℕ) → IsSound m → Meets m e → Decision m e fd → Account m e debt answer → condition_holds fd (ways (with_records m e)) ≡ false
    → list_any (λ n. n.up) (records_after e m.ports) ≡ true → IsSound (asked (with_records m e) fd debt answer).machine
sound_asked m e fd debt answer sound meets dec a f some = record {
  ports_sound = sound_after m e sound.ports_sound meets;
  attachment_sound = attachment_sound_after m e sound.attachment_sound meets;
  rd_bounded = range.1;
  fd_below = omega (arith, far, range.0);
  fd_positive = omega (arith, sound.fd_positive, dec.above);
  successor_up = λ p s. (successor_kept_up m e sound p s).0;
  successor_within = λ p s. (successor_kept_up m e sound p s).1;
  successor_attached = λ s. successor_kept_attached m e sound s;
  successor_finite = λ p s. omega (arith, far, least_bounded ns);
  passive_least = λ k. absurd (true≢false k);
  passive_feasible = λ p k. absurd (true≢false k);
  passive_attains = λ p n k. absurd (true≢false k);
  passive_none = λ k. absurd (true≢false k);
  active_above = λ k. omega (arith, far, range.0);
  awaits_some = λ k. let (p, up) = any_at (λ n. n.up) (records_after e m.ports) some in (p, awaited_up p (records_after e m.ports) ∙ up);
  awaits_up = λ p k. sym (awaited_up p (records_after e m.ports)) ∙ k;
  owes_successor = λ p k. a.debt_successor p (is_port-Some p debt k);
  owes_up = λ p k. a.debt_up p (is_port-Some p debt k);
}
  where
    ns : List Neighbour
    ns = ways (with_records m e)

    ports : AllSound ns
    ports = ways_sound_after m e sound meets

    far : fd < least ns
    far = condition_fails fd ns ports (omega (arith, dec.below, sound.rd_bounded)) f

    range : (least ns ≤ via_successor ns (with_records m e).successor) × (via_successor ns (with_records m e).successor ≤ infinity)
    range = via_range ns (with_records m e).successor

-- a machine with no one up is sound
sound_alone : (m : Machine) (e : Event) (fd : ℕ) → IsSound m → Meets m e → m.fd ≤ fd → condition_holds fd (ways (with_records m e)) ≡ false → list_any (λ n. n.up) (records_after e m.ports) ≡ false → IsSound (alone (with_records m e)).machine
sound_alone m e fd sound meets above f none =
    nowhere_sound _ _ (sound_after m e sound.ports_sound meets) (attachment_sound_after m e sound.attachment_sound meets)
    (least_ways-none_up (with_records m e) fd (omega (arith, sound.fd_positive, above)) none f)

-- every outcome leaves a sound machine
sound_of : (m : Machine) (e : Event) (r : Reaction) → IsSound m → Meets m e → Outcome m e r → IsSound r.machine
sound_of m e r sound meets (came_up q cost) = sound_came_up m q cost sound meets
sound_of m e r sound meets (goes_on _ c debt answer h some a) = sound_waiting m e c debt answer sound meets h some a
sound_of m e r sound meets (settles _ fd owed dec a f) = sound_settled m e fd owed sound meets dec.above f
sound_of m e r sound meets (asks _ fd debt answer dec a f some) = sound_asked m e fd debt answer sound meets dec a f some
sound_of m e r sound meets (is_alone _ fd debt answer dec a f none) = sound_alone m e fd sound meets dec.above f none

-- a sound machine stays sound
pub stays_sound : StaysSound
stays_sound m e sound meets = sound_of m e (reaction m e) sound meets (outcome m e sound meets)
