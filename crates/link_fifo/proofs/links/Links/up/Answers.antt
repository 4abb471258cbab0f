use Rattle.std.proofs.Common.{ap}
use Rattle.network_model.specs.Step as step
use Rattle.link_fifo.specs.Side.{LinksAndRooms}
use Rattle.link_fifo.proofs.{Changes.written_in, Changes.kept_in, Answers.OnErr-always, Rooms.rooms_written, Rooms.no_room, Rooms.no_room_for_both}
use Rattle.link_fifo.proofs.links.Links.up.Goals as goal

pub returns-clause-ok : goal.returns-clause-ok
returns-clause-ok g c = written_in (λ k. k.link) step.link_come_up c.self.inside.links.items c.from-2.ensures c.index_mut.ensures.value c.in_ok-come_up.ensures.ok (ap (λ (s : LinksAndRooms). s.links) c.self.view_is)

pub returns-clause-room : goal.returns-clause-room
returns-clause-room g c = rooms_written 1 c.self.inside.links.items c.from-2.result c.index_mut.result.now c.come_up.new.self c.index_mut.ensures.value c.self.view_is c.come_up.ensures.room

pub returns-in_err-come_up-clause-err : goal.returns-in_err-come_up-clause-err
returns-in_err-come_up-clause-err g c = OnErr-always c.from_residual.result (kept_in (λ k. k.link) c.self.inside.links.items c.from-2.result c.index_mut.ensures.value c.in_err-come_up.ensures.err (ap (λ (s : LinksAndRooms). s.links) c.self.view_is))

pub returns-in_err-come_up-clause-room : goal.returns-in_err-come_up-clause-room
returns-in_err-come_up-clause-room g c = rooms_written 1 c.self.inside.links.items c.from-2.result c.index_mut.result.now c.come_up.new.self c.index_mut.ensures.value c.self.view_is c.come_up.ensures.room

pub returns-in_err-come_up-clause-full : goal.returns-in_err-come_up-clause-full
returns-in_err-come_up-clause-full g c = λ _. no_room_for_both c.args.self.now c.args.link (λ to none. no_room to c.self.inside.links.items c.from-2.ensures c.index_mut.ensures.value c.self.view_is none) c.in_err-come_up.ensures.full
