use Rattle.std.proofs.Common.{ap}
use Rattle.network_model.specs.Step as step
use Rattle.link_fifo.specs.Side.{LinksAndRooms}
use Rattle.link_fifo.proofs.{Changes.written_in, Changes.kept_in, Answers.OnOk-always, Answers.OnErr-nothing, Rooms.rooms_written}
use Rattle.link_fifo.proofs.links.Links.take.Goals as goal

pub returns-clause-ok : goal.returns-clause-ok
returns-clause-ok g c =
    OnOk-always c.ok_or.result (written_in (λ k. k.link) (step.with_front_taken c.args.to) c.self.inside.links.items c.from-2.ensures c.index_mut.ensures.value c.take.ensures.rest (ap (λ (s : LinksAndRooms). s.links) c.self.view_is))

pub returns-clause-err : goal.returns-clause-err
returns-clause-err g c =
    OnErr-nothing c.take.result _ c.ok_or.ensures.value c.take.ensures.none
    (λ same. kept_in (λ k. k.link) c.self.inside.links.items c.from-2.result c.index_mut.ensures.value same (ap (λ (s : LinksAndRooms). s.links) c.self.view_is))

pub returns-clause-room : goal.returns-clause-room
returns-clause-room g c = rooms_written 0 c.self.inside.links.items c.from-2.result c.index_mut.result.now c.take.new.self c.index_mut.ensures.value c.self.view_is c.take.ensures.room
