-- Two routers and the link between them: the one that is attached to all addresses tells the other, which sends its packets there.
use Rattle.std.proofs.Common.{refl, arith, inl, ℕ, zero, suc, List, [], ◌∷◌, slice_get, unwrap_or, All}
use Rattle.no_packet_loops.proofs.Common.{Prefix, IsPrefix, IsCost, Update, Via, Link, Router, World, Network, opening, opening_link, opening_router, Held, Item, LinkSpec, next, front_at, release_at, HasCosts, IsNetwork, Runs, Step, LinkUp, Deliver, Publish, Release}
use Rattle.no_packet_loops.specs.Packets.{SomePacketGoes}
use Rattle.network_model.specs.declared.network.Offer.TheVariants.{One}

-- a link of cost 1 between routers 0 and 1
abbrev link : LinkSpec
link = record { a = 0; b = 1; from_a = 1; from_b = 1 }

-- the prefix of all addresses
abbrev everything : Prefix
everything = record { addr = 0; len = 0 }

-- two routers, the link between them, and all addresses at router 0
abbrev pub pair : Network
pair = record { routers = 2; links = link ∷ []; attachments = (everything, 0, 1) ∷ []; offer = One }

-- what holds of the one element holds of all
pub all_of_one : {A : Type 0} (P : A → Type 0) (x : A) → P x → All P (x ∷ [])
all_of_one P x holds zero d below = holds
all_of_one P x holds (suc i) d below = absurd (omega (arith, below))

-- the two routers are a network that can be opened
pub pair_good : IsNetwork pair
pair_good = record {
  no_fault = refl;
  costs = all_of_one HasCosts link (record { from_a = record { positive = omega arith; small = omega arith }; from_b = record { positive = omega arith; small = omega arith } });
  attachment_costs = all_of_one (λ a. IsCost a.2) (everything, 0, 1) (record { positive = omega arith; small = omega arith });
  prefixes = all_of_one (λ a. IsPrefix a.0) (everything, 0, 1) (record { short = omega arith; fits = omega arith; no_host_bits = refl });
}

-- link 0 of a world
abbrev the_link : World → Link
the_link w = unwrap_or (slice_get w.links 0) (opening_link link)

-- router i of a world
abbrev the_router : World → ℕ → Router
the_router w i = unwrap_or (slice_get w.routers i) (opening_router [] [])

-- the item that port 0 of router i takes next
abbrev the_item : World → ℕ → Item
the_item w i = unwrap_or (front_at w i 0) (Item.Down 0)

-- the world at the start
abbrev w0 : World
w0 = opening pair

-- the world once the link is up
abbrev w1 : World
w1 = next w0 (LinkUp 0)

-- the world once router 0 knows of it
abbrev w2 : World
w2 = next w1 (Deliver 0 0)

-- the world once router 1 knows of it
abbrev w3 : World
w3 = next w2 (Deliver 1 0)

-- the world once router 0 published
abbrev w4 : World
w4 = next w3 (Publish 0)

-- the world once router 0 released its update
abbrev w5 : World
w5 = next w4 (Release 0)

-- the world once router 1 took the update
abbrev w6 : World
w6 = next w5 (Deliver 1 0)

-- the world once router 1 published its row
abbrev pub w7 : World
w7 = next w6 (Publish 1)

-- the steps that lead there
abbrev pub steps : List Step
steps = LinkUp 0 ∷ Deliver 0 0 ∷ Deliver 1 0 ∷ Publish 0 ∷ Release 0 ∷ Deliver 1 0 ∷ Publish 1 ∷ []

-- a message that stands in for one that is not there
abbrev nothing_held : Held
nothing_held = record { port = 0; session = 0; message = record { kind = Update; prefix = everything; value = 0 } }

-- the steps are lawful, and lead to the last world
pub runs : Runs (opening pair) steps w7
runs = (
  (the_link w0, refl, refl, omega arith),
  (
    (the_router w1 0, refl, inl (the_item w1 0, refl)),
    (
      (the_router w2 1, refl, inl (the_item w2 1, refl)),
      (
        (the_router w3 0, refl, refl),
        (
          (unwrap_or (release_at w4 0) nothing_held, refl),
          (
            (the_router w5 1, refl, inl (the_item w5 1, refl)),
            (
              (the_router w6 1, refl, refl),
              refl,
            ),
          ),
        ),
      ),
    ),
  ),
)

-- a packet goes from router 1 to router 0 in the last world
pub some_packet : SomePacketGoes
some_packet = (pair, steps, w7, 3221225985, everything, 1, 0, pair_good, runs, (Via 0 1, refl, refl))
