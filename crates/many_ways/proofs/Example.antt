-- Four routers in a square, which offer up to eight next hops of equal cost: 10.0.0.0/8 is at the first, and the last publishes two next
-- hops to it, over the second and the third.
use Rattle.std.proofs.Common.{refl, arith, inl, inr, ◌≡◌, ℕ, List, [], ◌∷◌, ◌++◌, All, zero, suc}
use Rattle.no_packet_loops.proofs.Common.{Prefix, IsPrefix, IsCost, Via, World, Network, opening, LinkSpec, HasCosts, IsNetwork, Runs, run, run-Runs, Step, LinkUp, LinkDown, Deliver, Publish, Release}
use Rattle.no_packet_loops.proofs.Example.{all_of_one}
use Rattle.network_model.specs.declared.network.Offer.TheVariants.{Equal}
use Rattle.many_ways.specs.InForce.{SomeRouterHasAChoice, SomeHopOutlivesItsRow}

-- a link of cost 1 between two routers
abbrev link : ℕ → ℕ → LinkSpec
link i k = record { a = i; b = k; from_a = 1; from_b = 1 }

-- the prefix 10.0.0.0/8
abbrev ten : Prefix
ten = record { addr = 0x0a000000; len = 8 }

-- the network
abbrev square : Network
square = record { routers = 4; links = link 0 1 ∷ link 0 2 ∷ link 1 3 ∷ link 2 3 ∷ []; attachments = (ten, 0, 1) ∷ []; offer = Equal 8 }

-- a cost of 1 is a cost
cost_one : IsCost 1
cost_one = record { positive = omega arith; small = omega arith }

-- what holds of four elements holds of all
all_of_four : {A : Type 0} (P : A → Type 0) (x y z u : A) → P x → P y → P z → P u → All P (x ∷ y ∷ z ∷ u ∷ [])
all_of_four P x y z u a b c e zero d below = a
all_of_four P x y z u a b c e (suc zero) d below = b
all_of_four P x y z u a b c e (suc (suc zero)) d below = c
all_of_four P x y z u a b c e (suc (suc (suc zero))) d below = e
all_of_four P x y z u a b c e (suc (suc (suc (suc i)))) d below = absurd (omega (arith, below))

-- a link of cost 1 has costs
one_each : (i k : ℕ) → HasCosts (link i k)
one_each i k = record { from_a = cost_one; from_b = cost_one }

-- the network can be opened
square_good : IsNetwork square
square_good = record {
  no_fault = refl;
  costs = all_of_four HasCosts (link 0 1) (link 0 2) (link 1 3) (link 2 3) (one_each 0 1) (one_each 0 2) (one_each 1 3) (one_each 2 3);
  attachment_costs = all_of_one (λ a. IsCost a.2) (ten, 0, 1) cost_one;
  prefixes = all_of_one (λ a. IsPrefix a.0) (ten, 0, 1) (record { short = omega arith; fits = omega arith; no_host_bits = refl });
}

-- all links come up; router 0 tells routers 1 and 2, both tell router 3, and it publishes
abbrev steps : List Step
steps = LinkUp 0 ∷ LinkUp 1 ∷ LinkUp 2 ∷ LinkUp 3
    ∷ Deliver 0 0 ∷ Deliver 0 1 ∷ Deliver 1 0 ∷ Deliver 1 1 ∷ Deliver 2 0 ∷ Deliver 2 1 ∷ Deliver 3 0 ∷ Deliver 3 1
    ∷ Publish 0 ∷ Release 0 ∷ Release 0 ∷ Deliver 1 0 ∷ Deliver 2 0
    ∷ Publish 1 ∷ Release 1 ∷ Release 1 ∷ Publish 2 ∷ Release 2 ∷ Release 2
    ∷ Deliver 3 0 ∷ Deliver 3 1 ∷ Publish 3 ∷ []

-- the world to which they lead
abbrev last : World
last = (run (opening square) steps).world

-- each step is lawful
leads : Runs (opening square) steps last
leads = run-Runs (opening square) steps (tt, (tt, (tt, (tt, (tt, (tt, (tt, (tt, (tt, (tt, (tt, (tt, (tt, (tt, (tt, (tt, (tt, (tt, (tt, (tt, (tt, (tt, (tt, (tt, (tt, (tt, tt)))))))))))))))))))))))))) refl

-- the routers differ
differ : ◌≡◌ {A = ℕ} 1 2 → ⊥
differ e = omega (arith, e)

-- router 3 may send a packet for 10.0.0.1 to router 1, which its row names, or to router 2, over the next hop that it published beside that
pub some_router_has_a_choice : SomeRouterHasAChoice
some_router_has_a_choice = (
  square,
  steps,
  last,
  0x0a000001,
  3,
  1,
  2,
  square_good,
  leads,
  record { prefix = ten; entry = Via 0 1; matched = refl; leads = inl refl },
  record { prefix = ten; entry = Via 0 1; matched = refl; leads = inr (record { port = 1; session = 1 }, (1, refl), refl) },
  differ,
)

-- and then the link to router 1 goes down
abbrev steps_down : List Step
steps_down = steps ++ LinkDown 2 ∷ []

abbrev last_down : World
last_down = (run (opening square) steps_down).world

leads_down : Runs (opening square) steps_down last_down
leads_down = run-Runs (opening square) steps_down (tt, (tt, (tt, (tt, (tt, (tt, (tt, (tt, (tt, (tt, (tt, (tt, (tt, (tt, (tt, (tt, (tt, (tt, (tt, (tt, (tt, (tt, (tt, (tt, (tt, (tt, (tt, tt))))))))))))))))))))))))))) refl

-- the row of router 3 leads nowhere at once, and the next hop over router 2 is there still
pub some_hop_outlives_its_row : SomeHopOutlivesItsRow
some_hop_outlives_its_row = record {
  network = square;
  steps = steps_down;
  world = last_down;
  is_network = square_good;
  runs = leads_down;
  addr = 0x0a000001;
  router = 3;
  prefix = ten;
  port = 0;
  session = 1;
  row = refl;
  dead = refl;
  to = 2;
  goes_on = record { prefix = ten; entry = Via 0 1; matched = refl; leads = inr (record { port = 1; session = 1 }, (1, refl), refl) };
}
