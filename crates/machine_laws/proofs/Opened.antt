-- A machine that leads nowhere is sound, and so is one that has heard nothing, so the laws speak of some machine.
use Rattle.std.proofs.Common.{◌≡◌, ◌⊎◌, ℕ, zero, suc, ◌+◌, ◌<◌, min, Bool, true, false, List, [], ◌∷◌, ◌++◌, length, Option, Some, None, refl, ap, sym, inl, inr, arith, subst, ◌∙◌, lt-ltb, slice_get, nat_lt, if◌then◌else◌}
use Rattle.network_model.proofs.Common.{false≢true, same_Some, none-some, infinity, distance, least, at_home, home_ways, least-append, distance-bounded}
use Rattle.network_model.specs.declared.machine.Neighbour.{Neighbour}
use Rattle.machine_laws.specs.Laws.{IsSound, IsSoundPort, NothingHeard, OpensSound}
use Rattle.machine_laws.proofs.{Lists.append_last, Lists.test_within, Distances.distance_cases}

-- the distance by way of a neighbour that has reported nothing is infinity
distance_unheard : (n : Neighbour) → n.reported ≡ infinity → distance n ≡ infinity
distance_unheard n h = go (distance_cases n)
  where
    go : ((n.up ≡ true) × (distance n ≡ n.reported + n.cost) × (distance n < infinity)) ⊎ (distance n ≡ infinity) → distance n ≡ infinity
    go (inl (u, d, l)) = absurd (omega (arith, d, l, h))
    go (inr e) = e

-- where no neighbour has reported a distance, the least is infinity
pub least_unheard : (ns : List Neighbour) → NothingHeard ns → least ns ≡ infinity
least_unheard [] h = refl
least_unheard (n ∷ ns) h = omega (arith, distance_unheard n (h zero n refl), least_unheard ns (λ p. h (suc p)))

-- the distance of an attachment is its cost
pub least_at_home : (c : ℕ) → c < infinity → least (home_ways (Some c)) ≡ c
least_at_home c l = go (nat_lt (0 + c) infinity) (lt-ltb (0 + c) infinity (omega (arith, l)))
  where
    go : (b : Bool) → b ≡ true → min (if b then 0 + c else infinity) infinity ≡ c
    go true t = omega (arith, l)
    go false t = absurd (false≢true t)

-- a passive machine that leads nowhere is sound where its ports and its attachment are, and no way has a finite distance
pub nowhere_sound : (attachment : Option ℕ) (ns : List Neighbour) → ((p : ℕ) (n : Neighbour) → slice_get ns p ≡ Some n → IsSoundPort n) → ((c : ℕ) → attachment ≡ Some c → 0 < c)
    → least (ns ++ home_ways attachment) ≡ infinity → IsSound (record { attachment = attachment; ports = ns; rd = infinity; fd = infinity; successor = None; computation = None })
nowhere_sound attachment ns ports_sound attachment_sound none = record {
  ports_sound = ports_sound;
  attachment_sound = attachment_sound;
  rd_bounded = omega arith;
  fd_below = omega arith;
  fd_positive = omega arith;
  successor_up = λ p s. absurd (none-some p s);
  successor_within = λ p s. absurd (none-some p s);
  successor_attached = λ s. absurd (none-some (length ns) s);
  successor_finite = λ p s. absurd (none-some p s);
  passive_least = λ k. sym none;
  passive_feasible = λ p k s. absurd (none-some p s);
  passive_attains = λ p n k s. absurd (none-some p s);
  passive_none = λ k s. (refl, refl);
  active_above = λ k. absurd (false≢true k);
  awaits_some = λ k. absurd (false≢true k);
  awaits_up = λ p k. absurd (false≢true k);
  owes_successor = λ p k. absurd (false≢true k);
  owes_up = λ p k. absurd (false≢true k);
}

-- a machine that has heard nothing is sound
pub opened_sound : OpensSound
opened_sound (Some c) ns costs sound h = record {
  ports_sound = sound;
  attachment_sound = λ d e. (costs d e).0;
  rd_bounded = omega (arith, (costs c refl).1);
  fd_below = omega arith;
  fd_positive = (costs c refl).0;
  successor_up = λ p s l. absurd (omega (arith, same_Some (length ns) p s, l));
  successor_within = λ p s. omega (arith, same_Some (length ns) p s);
  successor_attached = λ s. refl;
  successor_finite = λ p s. (costs c refl).1;
  passive_least = λ k. sym here;
  passive_feasible = λ p k s up. absurd (omega (arith, same_Some (length ns) p s, test_within (λ n. n.up) ns p up));
  passive_attains = λ p n k s at.
      let is_home : at_home c ≡ n = same_Some (at_home c) n (sym (append_last ns (at_home c)) ∙ ap (slice_get (ns ++ home_ways (Some c))) (same_Some (length ns) p s) ∙ at) in
      subst (λ x. distance x ≡ least (ns ++ home_ways (Some c))) is_home (omega (arith, here, least_at_home c (costs c refl).1, distance-bounded (at_home c)));
  passive_none = λ k s. absurd (none-some (length ns) (sym s));
  active_above = λ k. absurd (false≢true k);
  awaits_some = λ k. absurd (false≢true k);
  awaits_up = λ p k. absurd (false≢true k);
  owes_successor = λ p k. absurd (false≢true k);
  owes_up = λ p k. absurd (false≢true k);
}
  where
    here : least (ns ++ home_ways (Some c)) ≡ c
    here = omega (arith, least-append ns (home_ways (Some c)), least_unheard ns h, least_at_home c (costs c refl).1, (costs c refl).1)
opened_sound None ns costs sound h = nowhere_sound None ns sound (λ d e. (costs d e).0) (omega (arith, least-append ns [], least_unheard ns h))
