-- Two routers and the link between them: the one has heard of the other's prefix, and its writer is out with the row.
use Rattle.std.proofs.Common.{refl, subst, arith, zero, suc, List, [], ◌∷◌, Some, None, slice_get, unwrap_or}
use Rattle.no_packet_loops.proofs.Common.{Router, World, opening, opening_router, Via, Patch, Runs, Some_injective, None_not_Some, run, run-Runs, Step, LinkUp, Deliver, Publish, Release}
use Rattle.no_packet_loops.proofs.Example.{pair, pair_good}
use Rattle.fabric.specs.{Ahead.SomePacketGoesAhead, Fabric.Fabric, Fabric.fabric_of, Writers.IsPending, Writers.LentAreDue}
use Rattle.course.specs.Images.{images_in_force}

-- the link comes up, both routers hear of that, router 0 publishes and tells router 1 of its prefix, and router 1 takes that
abbrev steps : List Step
steps = LinkUp 0 ∷ Deliver 0 0 ∷ Deliver 1 0 ∷ Publish 0 ∷ Release 0 ∷ Deliver 1 0 ∷ []

abbrev world : World
world = (run (opening pair) steps).world

runs : Runs (opening pair) steps world
runs = run-Runs (opening pair) steps (tt, (tt, (tt, (tt, (tt, (tt, tt)))))) refl

-- what router 1 has to publish: its row for all addresses, over its port
abbrev patch : Patch
patch = record { generation = 1; rows = (record { addr = 0; len = 0 }, Via 0 1) ∷ [] }

-- router 1's writer is out with that
abbrev fabric : Fabric
fabric = fabric_of pair steps world (images_in_force world) (None ∷ Some patch ∷ [])

abbrev router : Router
router = unwrap_or (slice_get world.routers 1) (opening_router [] [])

pending : IsPending world 1 patch
pending = record { router = router; is_router = refl; due = refl; makes = refl }

due : LentAreDue fabric
due (suc zero) p at = subst (IsPending world 1) (Some_injective at) pending
due _ p at = absurd (None_not_Some at)

pub goes_ahead : SomePacketGoesAhead
goes_ahead = (
  fabric,
  3221225985,
  1,
  0,
  record {
    network = pair_good;
    fabric = record { runs = runs; short = omega arith; room = omega arith; in_force = refl };
    due = due;
    goes = refl;
    stays = refl;
  },
)
