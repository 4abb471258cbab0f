use Rattle.std.proofs.Common.{ap}
use Rattle.network_model.specs.Step as step
use Rattle.link_fifo.specs.Side.{LinksAndRooms}
use Rattle.link_fifo.proofs.{Changes.written_in, Rooms.rooms_written}
use Rattle.link_fifo.proofs.links.Links.down.Goals as goal

pub returns-clause-ok : goal.returns-clause-ok
returns-clause-ok g c = written_in (λ k. k.link) step.link_gone_down c.self.inside.links.items c.from-2.ensures c.index_mut.ensures.value c.go_down.ensures.link (ap (λ (s : LinksAndRooms). s.links) c.self.view_is)

pub returns-clause-room : goal.returns-clause-room
returns-clause-room g c = rooms_written 1 c.self.inside.links.items c.from-2.result c.index_mut.result.now c.go_down.new.self c.index_mut.ensures.value c.self.view_is c.go_down.ensures.room
