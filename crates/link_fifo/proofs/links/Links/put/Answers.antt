use Rattle.std.proofs.Common.{◌≡◌, true, false, refl, sym, ap, arith, rules}
use Rattle.network_model.specs.Step as step
use Rattle.link_fifo.specs.{Refusals.sent_in, Side.LinksAndRooms}
use Rattle.network_model.specs.World.{other}
use Rattle.link_fifo.proofs.Changes.{written_in, kept_in, slice_get-read_in, IfSome-holds, changed_at-stale}
use Rattle.link_fifo.proofs.{Rooms.rooms_written, Rooms.no_room, Answers.OnErr-always, Answers.AnswersPut-known}
use Rattle.link_fifo.proofs.links.Links.put.Goals as goal

pub returns-then-not-is_up_in-clause-ok : goal.returns-then-not-is_up_in-clause-ok
returns-then-not-is_up_in-clause-ok g c =
    sym (changed_at-stale (sent_in c.args.session c.args.message) c.args.from c.args.self.now.links c.args.link c.if-not-is_up_in.ensures.answer)

pub returns-then-not-is_up_in-clause-answer : goal.returns-then-not-is_up_in-clause-answer
returns-then-not-is_up_in-clause-answer g c =
    AnswersPut-known c.args.session c.args.self.now.links c.args.link false _ (omega arith) c.if-not-is_up_in.ensures.answer refl

pub put-requires : goal.put-requires
put-requires g c =
    let there = slice_get-read_in (λ k. k.link) c.self.inside.links.items c.from-2.ensures c.index_mut.ensures.value (ap (λ (s : LinksAndRooms). s.links) c.self.view_is) (omega arith) in
    sym (IfSome-holds (λ k. true ≡ step.is_up_in c.args.session k) there c.if-not-is_up_in.ensures.answer)

pub returns-clause-ok : goal.returns-clause-ok
returns-clause-ok g c = written_in (λ k. k.link) (step.with_message (sent_in c.args.session c.args.message) c.args.from) c.self.inside.links.items c.from-2.ensures c.index_mut.ensures.value c.in_ok-put.ensures.ok (ap (λ (s : LinksAndRooms). s.links) c.self.view_is)

pub returns-clause-room : goal.returns-clause-room
returns-clause-room g c = rooms_written 1 c.self.inside.links.items c.from-2.result c.index_mut.result.now c.put.new.self c.index_mut.ensures.value c.self.view_is c.put.ensures.room

pub returns-in_err-put-clause-err : goal.returns-in_err-put-clause-err
returns-in_err-put-clause-err g c = OnErr-always c.from_residual.result (kept_in (λ k. k.link) c.self.inside.links.items c.from-2.result c.index_mut.ensures.value c.in_err-put.ensures.err (ap (λ (s : LinksAndRooms). s.links) c.self.view_is))

pub returns-in_err-put-clause-room : goal.returns-in_err-put-clause-room
returns-in_err-put-clause-room g c = rooms_written 1 c.self.inside.links.items c.from-2.result c.index_mut.result.now c.put.new.self c.index_mut.ensures.value c.self.view_is c.put.ensures.room

pub returns-in_err-put-clause-full : goal.returns-in_err-put-clause-full
returns-in_err-put-clause-full g c = λ _. no_room (other c.args.from) c.self.inside.links.items c.from-2.ensures c.index_mut.ensures.value c.self.view_is c.in_err-put.ensures.full

pub returns-clause-answer : goal.returns-clause-answer
returns-clause-answer g c =
    AnswersPut-known c.args.session c.args.self.now.links c.args.link true _ (omega arith) c.if-not-is_up_in.ensures.answer refl

pub returns-in_err-put-clause-answer : goal.returns-in_err-put-clause-answer
returns-in_err-put-clause-answer g c =
    AnswersPut-known c.args.session c.args.self.now.links c.args.link true _ (omega arith) c.if-not-is_up_in.ensures.answer (search rules)
