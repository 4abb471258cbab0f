-- That the laws have something to say.
use Rattle.std.specs.Prelude.{◌≡◌, ℕ, true, List, [], ◌∷◌, ◌++◌, Some}
use Rattle.ipv4_prefix.specs.Prefix.{Prefix}
use Rattle.network_model.specs.{declared.route.Entry.TheVariants.Local, declared.route.Entry.TheVariants.Via, View.at_port, World.machine_of}
use Rattle.router_core.specs.Alone.{may_forget}
use Rattle.loop_freedom.specs.Network.{Topology}
use Rattle.single_router.specs.{Inputs.attachment_of, declared.opening.Attachment.Attachment}
use Rattle.daemon_laws.specs.{Processes.Processes, Rest.AreAtRest, Rest.entry_in_force}
use Rattle.daemon_laws.specs.Packets.{IsForwardedByRows, session_leads, unmarked_leads, rows_in_force}
use Rattle.daemon_laws.specs.Happenings.{Happening, BeginsAnew, IsOpening, AllCanHappen, after_happenings, is_new_link, MayRewire, rewired}

-- something may happen after which a packet goes from one router to another by a published row
pub record SomePacketGoesAtDaemons : Type 0 where
  pub topology : Topology
  pub first : Processes
  pub happenings : List Happening
  pub begins : IsOpening first
  pub can : AllCanHappen topology first happenings
  pub addr : ℕ
  pub prefix : Prefix
  pub from : ℕ
  pub to : ℕ
  pub goes : IsForwardedByRows (session_leads topology (after_happenings topology first happenings)) (rows_in_force (after_happenings topology first happenings)) addr prefix from to

-- something may happen after which two routers are at rest: router 0 is attached at cost 1, and router 1, which has begun anew
-- since, is at distance 8 by way of its port 0, in session 2; in the first session a message was lost
pub record ExampleOfRest : Type 0 where
  pub topology : Topology
  pub first : Processes
  pub happenings : List Happening
  pub begins : IsOpening first
  pub can : AllCanHappen topology first happenings
  pub prefix : Prefix
  pub rests : AreAtRest topology 2 (after_happenings topology first happenings)
  pub is_local : entry_in_force (after_happenings topology first happenings) 0 prefix ≡ Some Local
  pub sends_on : entry_in_force (after_happenings topology first happenings) 1 prefix ≡ Some (Via 0 2)
  -- also a packet that carries no session goes by it
  pub goes : unmarked_leads topology (after_happenings topology first happenings) 1 (Via 0 2) ≡ Some 0
  pub was_lost : (after_happenings topology first happenings).lost (at_port 0 0) 1 ≡ true
  pub distance : (machine_of ((after_happenings topology first happenings).routers 1) prefix).rd ≡ 8

-- something may happen twice, with the same sessions, if two neighbours begin anew between; and then a packet goes
pub record SomeSessionAgain : Type 0 where
  pub topology : Topology
  pub first : Processes
  pub once : List Happening
  pub cost : ℕ
  pub in_session : (after_happenings topology first once).last (at_port 0 0) ≡ 1
  pub begins : IsOpening first
  pub attachments : List Attachment
  pub can : AllCanHappen topology first (once ++ BeginsAnew 0 (cost ∷ []) attachments ∷ BeginsAnew 1 (cost ∷ []) [] ∷ once)
  pub prefix : Prefix
  pub goes : IsForwardedByRows (session_leads topology (after_happenings topology first (once ++ BeginsAnew 0 (cost ∷ []) attachments ∷ BeginsAnew 1 (cost ∷ []) [] ∷ once)))
      (rows_in_force (after_happenings topology first (once ++ BeginsAnew 0 (cost ∷ []) attachments ∷ BeginsAnew 1 (cost ∷ []) [] ∷ once))) prefix.addr prefix 1 0

-- a port may get a neighbour, and then a packet goes over the link that was not there
pub record SomeNeighbour : Type 0 where
  pub before : Topology
  pub topology : Topology
  pub first : Processes
  pub begins : IsOpening first
  pub new : is_new_link before topology (at_port 1 0) ≡ true
  pub may : MayRewire before topology first
  pub happenings : List Happening
  pub can : AllCanHappen topology (rewired before topology first) happenings
  pub prefix : Prefix
  pub goes : IsForwardedByRows (session_leads topology (after_happenings topology (rewired before topology first) happenings)) (rows_in_force (after_happenings topology (rewired before topology first) happenings)) prefix.addr prefix 1 0

-- something may happen after which a router may forget a prefix to which it was attached
pub record SomeForgets : Type 0 where
  pub topology : Topology
  pub first : Processes
  pub happenings : List Happening
  pub begins : IsOpening first
  pub can : AllCanHappen topology first happenings
  pub prefix : Prefix
  pub router : ℕ
  pub was_attached : attachment_of (first.routers router) prefix ≡ Some 1
  pub may : may_forget prefix ((after_happenings topology first happenings).routers router) ≡ true
