-- The two routers whose second session has begun: what still happens leads to where nothing is left.
use Rattle.std.proofs.Common.{refl, sym, ap, subst, ◌∙◌, arith, ◌≡◌, ℕ, ◌<◌, eqb-true, Bool, true, false, List, [], length, None, slice_get}
use Rattle.no_packet_loops.proofs.Common.{None_not_Some, false≢true, is_due, ripe_front, LinkEnd, at_port}
use Rattle.loop_freedom.proofs.Example.{pair}
use Rattle.coming_to_rest.specs.Rest.{IsFinite}
use Rattle.daemon_laws.specs.{Processes.Carried, Processes.Processes, Packets.is_in_session, Rest.NothingLost}
use Rattle.daemon_laws.specs.Happenings.{Takes, Loses, Publishes, PublishesSome, Forgets, Releases, after_happenings, AllCanHappen}
use Rattle.daemon_laws.proofs.Example.{first, begins, seven}
use Rattle.least_cost.proofs.Reached.{each_place, each_router}
use Rattle.daemon_laws.proofs.RestExample.{until_up, onward, rest, agree}
use Rattle.daemons_come_to_rest.specs.{Rest.AllAlone, Settled.NothingLeft, Settled.SameGround, Settled.SomeConverges}
use Rattle.daemons_come_to_rest.proofs.{Kept.Kept, Kept.kept_first, Kept.kept_after, Converging.kept_alone, Converging.ground_after, Converging.still_agree}
use Rattle.router_core.specs.Alone.{rows_due}

abbrev now : Processes
now = after_happenings pair first until_up

-- there are two link ends
abbrev two : IsFinite pair
two = record { routers = 2; ports = 1; within = each_place (λ e. (e.router < 2) × (e.port < 1)) (omega arith, omega arith) (omega arith, omega arith) }

can_up : AllCanHappen pair first until_up
can_up = ((omega arith, seven), ((omega arith, seven), (tt, (tt, (tt, (tt, (tt, (tt, (refl, ((omega arith, seven), (tt, ((omega arith, seven), tt))))))))))))

kept_now : Kept pair now
kept_now = kept_after pair first until_up (kept_first pair first begins) can_up

-- the rest of it happens alone
alone : AllAlone pair 2 now onward
alone = ((omega arith, refl), ((_, omega arith, refl), ((_, refl, omega arith), ((omega arith, refl), ((_, omega arith, refl), ((_, refl, omega arith), tt))))))

-- nothing is on its way at the end
none_comes : (e : LinkEnd) → rest.coming e ≡ []
none_comes e = by_valid (pair.valid e) refl
  where
    by_valid : (b : Bool) → pair.valid e ≡ b → rest.coming e ≡ []
    by_valid true v = each_place (λ d. rest.coming d ≡ []) refl refl e v
    by_valid false out = (kept_alone pair two now onward kept_now alone).placed e out

left : NothingLeft 2 rest
left (Takes e) (c, at, le) = absurd (None_not_Some (sym (ap (λ (cs : List Carried). slice_get cs 0) (none_comes e)) ∙ at))
left (Loses e) alone = refl
left (Publishes i) (lt, due) = absurd (false≢true (sym (each_router (λ j. is_due (rest.routers j) ≡ false) refl refl i lt) ∙ due))
left (PublishesSome i k) (lt, some, fewer) = absurd (let none : length (rows_due (rest.routers i)) ≡ 0 = each_router (λ j. length (rows_due (rest.routers j)) ≡ 0) refl refl i lt in omega (arith, none, fewer))
left (Forgets i p) alone = refl
left (Releases i) (h, lt, front) = absurd (None_not_Some (sym (each_router (λ j. ripe_front (rest.routers j) ≡ None) refl refl i lt) ∙ front))
left _ alone = absurd alone

-- what was lost is of the first session, and no end is in that
nothing_lost : NothingLost pair now
nothing_lost e session is = each_place (λ d. is_in_session now d session ≡ true → now.lost d session ≡ false) (λ on. subst (λ (k : ℕ). now.lost (at_port 0 0) k ≡ false) (eqb-true 2 session on) refl) (λ on. refl) e is.valid is.near

-- the ground is that of the end
ground_back : SameGround rest now
ground_back i = let G = ground_after pair two now onward kept_now alone in (sym (G i).0, λ p. sym ((G i).1 p))

-- so the two converge, with something left to do
pub some_converges : SomeConverges
some_converges = record {
  topology = pair;
  finite = two;
  few = omega arith;
  first = first;
  happenings = until_up;
  begins = begins;
  can = can_up;
  agree = still_agree pair rest now ground_back agree;
  nothing_lost = nothing_lost;
  end = at_port 0 0;
  session = 1;
  was_lost = refl;
  onward = onward;
  some = omega arith;
  alone = alone;
  loses_none = (refl, (refl, (refl, (refl, (refl, (refl, tt))))));
  left = left;
}
