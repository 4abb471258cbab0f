use Rattle.std.proofs.Common.{ap}
use Rattle.network_model.specs.Step as step
use Rattle.link_fifo.specs.Side.{LinksAndRooms}
use Rattle.link_fifo.proofs.{Changes.written_in, Changes.kept_in, Answers.OnErr-always, Rooms.rooms_written, Rooms.no_room}
use Rattle.link_fifo.proofs.links.Links.set_cost.Goals as goal

pub returns-clause-ok : goal.returns-clause-ok
returns-clause-ok g c = written_in (λ k. k.link) (step.with_cost c.args.cost c.args.end) c.self.inside.links.items c.from-2.ensures c.index_mut.ensures.value c.in_ok-set_cost.ensures.ok (ap (λ (s : LinksAndRooms). s.links) c.self.view_is)

pub returns-clause-room : goal.returns-clause-room
returns-clause-room g c = rooms_written 1 c.self.inside.links.items c.from-2.result c.index_mut.result.now c.set_cost.new.self c.index_mut.ensures.value c.self.view_is c.set_cost.ensures.room

pub returns-in_err-set_cost-clause-err : goal.returns-in_err-set_cost-clause-err
returns-in_err-set_cost-clause-err g c = OnErr-always c.from_residual.result (kept_in (λ k. k.link) c.self.inside.links.items c.from-2.result c.index_mut.ensures.value c.in_err-set_cost.ensures.err (ap (λ (s : LinksAndRooms). s.links) c.self.view_is))

pub returns-in_err-set_cost-clause-room : goal.returns-in_err-set_cost-clause-room
returns-in_err-set_cost-clause-room g c = rooms_written 1 c.self.inside.links.items c.from-2.result c.index_mut.result.now c.set_cost.new.self c.index_mut.ensures.value c.self.view_is c.set_cost.ensures.room

pub returns-in_err-set_cost-clause-full : goal.returns-in_err-set_cost-clause-full
returns-in_err-set_cost-clause-full g c = λ _. no_room c.args.end c.self.inside.links.items c.from-2.ensures c.index_mut.ensures.value c.self.view_is c.in_err-set_cost.ensures.full
