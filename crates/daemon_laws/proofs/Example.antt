-- Two routers and a link of cost 7 between them: the one that is attached to all addresses tells the other, which sends its packets there.
use Rattle.std.proofs.Common.{refl, arith, ◌≡◌, ℕ, zero, suc, Bool, true, false, ◌&&◌, ◌==◌, List, [], ◌∷◌, slice_get}
use Rattle.no_packet_loops.proofs.Common.{option_map_or, IsCost, Port, Topology, LinkEnd, Via, at_port}
use Rattle.loop_freedom.proofs.Example.{pair}
use Rattle.single_router.specs.{declared.opening.Attachment.Attachment, Openings.made_router}
use Rattle.single_router.specs.declared.input.Input.TheVariants as input
use Rattle.daemon_laws.specs.{Processes.Processes, Packets.is_in_session}
use Rattle.daemon_laws.specs.Happenings.{Happening, IsOpening, Tells, Takes, Publishes, Releases, IsMade}
use Rattle.daemon_laws.specs.Reached.{SomeForgets, SomeNeighbour, SomePacketGoesAtDaemons, SomeSessionAgain}

-- all addresses, at cost 1
abbrev pub everything : Attachment
everything = record { addr = 0; cost = 1; len = 0 }

-- the attachments of a router: the first has one
abbrev pub homes : Bool → List Attachment
homes true = everything ∷ []
homes false = []

-- each router has one port, at cost 7; the first is attached
abbrev pub first : Processes
first = record { routers = λ i. made_router (7 ∷ []) (homes (i == 0)); coming = λ e. []; last = λ e. 0; heard = λ e. 0; lost = λ e s. false }

made_one : (b : Bool) → IsMade (made_router (7 ∷ []) (homes b))
made_one true = record { costs = 7 ∷ []; attachments = homes true; good = refl; made = refl }
made_one false = record { costs = 7 ∷ []; attachments = homes false; good = refl; made = refl }

pub begins : IsOpening first
begins = record { routers_made = λ i. made_one (i == 0); nothing_comes = λ e. refl; never_up = λ e. refl; never_heard = λ e. refl; never_lost = λ e s. refl }

-- each end comes up by itself; the first router tells the other, which takes that and publishes
abbrev pub happenings : List Happening
happenings =
    Tells 1 (input.Up 0 1 7)
    ∷ Tells 0 (input.Up 0 1 7)
    ∷ Publishes 0
    ∷ Releases 0
    ∷ Takes (at_port 1 0)
    ∷ Publishes 1
    ∷ []

-- 7 is a cost
pub seven : IsCost 7
seven = record { positive = omega arith; small = omega arith }

-- a packet goes from router 1 to router 0
pub some_packet : SomePacketGoesAtDaemons
some_packet = record {
  topology = pair;
  first = first;
  happenings = happenings;
  begins = begins;
  can = ((omega arith, seven), ((omega arith, seven), (tt, (tt, (tt, (tt, tt))))));
  addr = 5;
  prefix = record { addr = 0; len = 0 };
  from = 1;
  to = 0;
  goes = record { entry = Via 0 1; matched = refl; leads = refl };
}

-- an end of them is in no session
first_out : (e : LinkEnd) (session : ℕ) → is_in_session first e session ≡ false
first_out e session = by_port e.port
  where
    by_port : (q : ℕ) → option_map_or (λ (x : Port). x.up && (x.session == session)) (slice_get (record { up = false; session = 0; cost = 7 } ∷ []) q) false ≡ false
    by_port zero = refl
    by_port (suc q) = refl

-- no link is there
abbrev nowhere : Topology
nowhere = record { far = λ e. e; valid = λ e. false; far_valid = λ e v. v; far_far = λ e v. refl }

-- the two routers get to be neighbours, and then a packet goes
pub some_neighbour : SomeNeighbour
some_neighbour = record {
  before = nowhere;
  topology = pair;
  first = first;
  begins = begins;
  new = refl;
  may = λ e new session. first_out e session;
  happenings = happenings;
  can = ((omega arith, seven), ((omega arith, seven), (tt, (tt, (tt, (tt, tt))))));
  prefix = record { addr = 0; len = 0 };
  goes = record { entry = Via 0 1; matched = refl; leads = refl };
}

-- all happens once more, with the same session, after both have begun anew
pub some_session_again : SomeSessionAgain
some_session_again = record {
  topology = pair;
  first = first;
  once = happenings;
  cost = 7;
  in_session = refl;
  begins = begins;
  attachments = everything ∷ [];
  can = ((omega arith, seven), ((omega arith, seven), (tt, (tt, (tt, (tt, (refl, (refl, ((omega arith, seven), ((omega arith, seven), (tt, (tt, (tt, (tt, tt))))))))))))));
  prefix = record { addr = 0; len = 0 };
  goes = record { entry = Via 0 1; matched = refl; leads = refl };
}

-- router 0 is attached to the prefix no more, and publishes that; then it may forget it
pub some_forgets : SomeForgets
some_forgets = record {
  topology = pair;
  first = first;
  happenings = Tells 0 (input.Detached (record { addr = 0; len = 0 })) ∷ Publishes 0 ∷ [];
  begins = begins;
  can = (tt, (tt, tt));
  prefix = record { addr = 0; len = 0 };
  router = 0;
  was_attached = refl;
  may = refl;
}
