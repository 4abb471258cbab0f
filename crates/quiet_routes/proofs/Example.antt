-- Three routers and a link between two of them: it comes up, and all comes to rest; then the attachment moves, or the link goes
-- down, and all comes to rest again.
use Rattle.std.proofs.Common.{refl, arith, List, [], ◌∷◌, ◌++◌}
use Rattle.no_packet_loops.proofs.Common.{Prefix, IsPrefix, IsCost, World, Network, opening, LinkSpec, HasCosts, IsNetwork, run, run-Runs, Step, LinkUp, LinkDown, Deliver, Publish, Release, Attach, Detach}
use Rattle.no_packet_loops.proofs.Example.{all_of_one}
use Rattle.quiet_routes.specs.Routes.{SomeQuietRuns}
use Rattle.network_model.specs.declared.network.Offer.TheVariants.{One}

-- a link between routers 0 and 1, of cost 3 from router 0 and 7 from router 1
abbrev link : LinkSpec
link = record { a = 0; b = 1; from_a = 3; from_b = 7 }

-- the prefix 10.0.0.0/8
abbrev ten : Prefix
ten = record { addr = 0x0a000000; len = 8 }

-- three routers, the link, and the prefix at router 0, at cost 1; no link leads to router 2
abbrev three : Network
three = record { routers = 3; links = link ∷ []; attachments = (ten, 0, 1) ∷ []; offer = One }

-- the three routers are a network that can be opened
three_valid : IsNetwork three
three_valid = record {
  no_fault = refl;
  costs = all_of_one HasCosts link (record { from_a = record { positive = omega arith; small = omega arith }; from_b = record { positive = omega arith; small = omega arith } });
  attachment_costs = all_of_one (λ a. IsCost a.2) (ten, 0, 1) (record { positive = omega arith; small = omega arith });
  prefixes = all_of_one (λ a. IsPrefix a.0) (ten, 0, 1) (record { short = omega arith; fits = omega arith; no_host_bits = refl });
}

-- the link comes up, and all comes to rest
abbrev to_rest : List Step
to_rest = LinkUp 0 ∷ Deliver 0 0 ∷ Deliver 1 0 ∷ Publish 0 ∷ Release 0 ∷ Deliver 1 0 ∷ Publish 1 ∷ Release 1 ∷ Deliver 0 0 ∷ []

-- then the attachment at router 0 is lost and router 2 is attached, at cost 4, and all comes to rest again
abbrev to_move : List Step
to_move = to_rest ++ Detach 0 ten ∷ Attach 2 ten 4 ∷ Deliver 0 1 ∷ Deliver 2 0 ∷ Publish 0 ∷ Publish 2 ∷ Release 0 ∷ Deliver 1 0 ∷ Publish 1 ∷ Release 1 ∷ Deliver 0 0
    ∷ Publish 0 ∷ Release 0 ∷ Deliver 1 0 ∷ Publish 1 ∷ Release 1 ∷ Deliver 0 0 ∷ []

-- or the link goes down, and all comes to rest again
abbrev to_rest_again : List Step
to_rest_again = to_rest ++ LinkDown 0 ∷ Deliver 0 0 ∷ Deliver 1 0 ∷ Publish 1 ∷ []

-- the world at the first rest, where router 1 sends on
abbrev rest : World
rest = (run (opening three) to_rest).world

-- the world at rest after the move, where router 2 is local and routers 0 and 1 have no way
abbrev moved : World
moved = (run (opening three) to_move).world

-- the world at rest without the link, where router 1 has no way
abbrev rest_again : World
rest_again = (run (opening three) to_rest_again).world

-- the runs are lawful, and lead to quiet worlds with these rows
pub some_quiet_runs : SomeQuietRuns
some_quiet_runs = record {
  network = three;
  valid = three_valid;
  prefix = ten;
  routed = rest;
  routed_run = record { steps = to_rest; runs = run-Runs (opening three) to_rest (tt, (tt, (tt, (tt, (tt, (tt, (tt, (tt, (tt, tt))))))))) refl; quiet = refl };
  attached = refl;
  is_local = refl;
  sends_on = refl;
  distance = refl;
  is_there = omega arith;
  unheard = record { no_machine = refl; not_published = refl; not_chosen = refl };
  moved = moved;
  moved_run = record { steps = to_move; runs = run-Runs (opening three) to_move (tt, (tt, (tt, (tt, (tt, (tt, (tt, (tt, (tt, (tt, (record { positive = omega arith; small = omega arith }, (tt, (tt, (tt, (tt, (tt, (tt, (tt, (tt, (tt, (tt, (tt, (tt, (tt, (tt, (tt, tt)))))))))))))))))))))))))) refl; quiet = refl };
  detached = refl;
  gone = refl;
  attached_later = refl;
  local_later = refl;
  lost = rest_again;
  lost_run = record { steps = to_rest_again; runs = run-Runs (opening three) to_rest_again (tt, (tt, (tt, (tt, (tt, (tt, (tt, (tt, (tt, (tt, (tt, (tt, (tt, tt))))))))))))) refl; quiet = refl };
  has_no_way = refl;
}
