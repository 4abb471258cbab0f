-- That the laws have something to say.
use Rattle.std.specs.Prelude.{◌≡◌, ℕ, List, ◌∷◌, Some, None}
use Rattle.ipv4_prefix.specs.Prefix.{Prefix}
use Rattle.network_model.specs.{declared.route.Entry.TheVariants.Via, declared.route.NextHop.NextHop, NextHops.hops_at, View.LinkEnd}
use Rattle.loop_freedom.specs.Network.{Topology}
use Rattle.many_ways.specs.Network.{Among}
use Rattle.daemon_laws.specs.{Processes.Processes, Packets.session_leads, Rest.entry_in_force, Rest.AreAtRest}
use Rattle.many_daemon_ways.specs.Rest.{OfferEqual, IsHopChainAtDaemons}
use Rattle.daemon_laws.specs.Happenings.{Happening, IsOpening, AllCanHappen, after_happenings}

-- something may happen after which a Via row that a router published leads nowhere any more, but a next hop that it published beside it
-- leads on
pub record SomeHopOutlives : Type 0 where
  pub topology : Topology
  pub first : Processes
  pub happenings : List Happening
  pub begins : IsOpening first
  pub can : AllCanHappen topology first happenings
  pub prefix : Prefix
  pub router : ℕ
  pub port : ℕ
  pub session : ℕ
  pub hop : NextHop
  pub to : ℕ
  pub row : entry_in_force (after_happenings topology first happenings) router prefix ≡ Some (Via port session)
  pub dead : session_leads topology (after_happenings topology first happenings) router (Via port session) ≡ None
  pub beside : Among hop (hops_at prefix (((after_happenings topology first happenings).routers router).hops).published)
  pub leads : session_leads topology (after_happenings topology first happenings) router (Via hop.port hop.session) ≡ Some to

-- something may happen after which the first n routers are at rest and offer next hops of equal cost. One that a router published leads over
-- the end of a link, perhaps with others behind it, to a router that is attached
pub record SomeHopsRest : Type 0 where
  pub topology : Topology
  pub first : Processes
  pub happenings : List Happening
  pub begins : IsOpening first
  pub can : AllCanHappen topology first happenings
  pub n : ℕ
  pub rests : AreAtRest topology n (after_happenings topology first happenings)
  pub offer : OfferEqual n (after_happenings topology first happenings)
  pub prefix : Prefix
  pub router : ℕ
  pub end : LinkEnd
  pub others : List LinkEnd
  pub home : ℕ
  pub chain : IsHopChainAtDaemons topology (after_happenings topology first happenings) prefix router (end ∷ others) home
