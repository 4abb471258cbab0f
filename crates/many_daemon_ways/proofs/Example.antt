-- Two routers and two links of cost 7 between them: when one link fails, the row that leads over it leads nowhere, and the next hop beside it
-- leads on.
use Rattle.std.proofs.Common.{refl, sym, arith, ap, subst, inl, inr, ◌≡◌, ℕ, Bool, true, false, ◌||◌, ◌==◌, if◌then◌else◌, List, [], ◌∷◌, eqb-true}
use Rattle.no_packet_loops.proofs.Common.{or_cases, Topology, at_port}
use Rattle.network_model.specs.declared.network.Offer.TheVariants.{Equal}
use Rattle.single_router.specs.Openings.{made_router}
use Rattle.single_router.specs.declared.input.Input.TheVariants as input
use Rattle.daemon_laws.specs.Processes.{Processes}
use Rattle.daemon_laws.specs.Happenings.{Happening, IsOpening, Tells, Takes, Publishes, Releases, Offers, IsMade}
use Rattle.daemon_laws.proofs.Example.{homes, seven}
use Rattle.many_daemon_ways.specs.Reached.{SomeHopOutlives}

-- the other of the two
abbrev other : ℕ → ℕ
other i = if i == 0 then 1 else 0

abbrev is_one : ℕ → Bool
is_one i = (i == 0) || (i == 1)

other_is_one : (i : ℕ) → is_one i ≡ true → is_one (other i) ≡ true
other_is_one i one = by_first (i == 0)
  where
    by_first : (b : Bool) → is_one (if b then 1 else 0) ≡ true
    by_first true = refl
    by_first false = refl

other_twice : (i : ℕ) → is_one i ≡ true → other (other i) ≡ i
other_twice i one = elim (or_cases (i == 0) (i == 1) one) [
  | inl e ↦ subst (λ (j : ℕ). other (other j) ≡ j) (sym (eqb-true i 0 e)) refl
  | inr e ↦ subst (λ (j : ℕ). other (other j) ≡ j) (sym (eqb-true i 1 e)) refl
]

-- a link from each port of the one to the same port of the other
abbrev parallel : Topology
parallel = record {
  far = λ e. record { router = other e.router; port = e.port };
  valid = λ e. is_one e.router;
  far_valid = λ e v. other_is_one e.router v;
  far_far = λ e v. ap (λ (n : ℕ). at_port n e.port) (other_twice e.router v);
}

-- each router has two ports, at cost 7; the first is attached to all addresses
abbrev first : Processes
first = record { routers = λ i. made_router (7 ∷ 7 ∷ []) (homes (i == 0)); coming = λ e. []; last = λ e. 0; heard = λ e. 0; lost = λ e s. false }

made_one : (b : Bool) → IsMade (made_router (7 ∷ 7 ∷ []) (homes b))
made_one true = record { costs = 7 ∷ 7 ∷ []; attachments = homes true; good = refl; made = refl }
made_one false = record { costs = 7 ∷ 7 ∷ []; attachments = homes false; good = refl; made = refl }

begins : IsOpening first
begins = record { routers_made = λ i. made_one (i == 0); nothing_comes = λ e. refl; never_up = λ e. refl; never_heard = λ e. refl; never_lost = λ e s. refl }

-- router 0 tells router 1 over both links, which publishes; then the first link fails at router 0
abbrev happenings : List Happening
happenings =
    Offers 1 (Equal 8)
    ∷ Tells 1 (input.Up 0 1 7)
    ∷ Tells 1 (input.Up 1 1 7)
    ∷ Tells 0 (input.Up 0 1 7)
    ∷ Tells 0 (input.Up 1 1 7)
    ∷ Publishes 0
    ∷ Releases 0
    ∷ Releases 0
    ∷ Takes (at_port 1 0)
    ∷ Takes (at_port 1 1)
    ∷ Publishes 1
    ∷ Tells 0 (input.Down 0)
    ∷ []

pub some_hop_outlives : SomeHopOutlives
some_hop_outlives = record {
  topology = parallel;
  first = first;
  happenings = happenings;
  begins = begins;
  can = (tt, ((omega arith, seven), ((omega arith, seven), ((omega arith, seven), ((omega arith, seven), (tt, (tt, (tt, (tt, (tt, (tt, (tt, tt))))))))))));
  prefix = record { addr = 0; len = 0 };
  router = 1;
  port = 0;
  session = 1;
  hop = record { port = 1; session = 1 };
  to = 0;
  row = refl;
  dead = refl;
  beside = (1, refl);
  leads = refl;
}
