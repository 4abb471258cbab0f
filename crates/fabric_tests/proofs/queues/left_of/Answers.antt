use Rattle.std.proofs.Common.{◌≡◌, get_or, sym, ◌∙◌, arith}
use Rattle.packet_queue.specs.{declared.taker.Taker.Taker, Ends.puts_into, Ends.takes_from}
use Rattle.packet_queue.proofs.Lists.{all_front, all_last, all_pushed}
use Rattle.fabric_tests.proofs.queues.left_of.Goals as goal

-- the taker is of the queue after it took, so all of them are
pub reckon-requires : goal.reckon-requires
reckon-requires g c =
    let all = c.requires in
    let takers = c.args.takers.items in
    let same = c.fill.ensures in
    let taker = c.in-Some.taker in
    let rest = c.pop.new.self.items in
    let popped = c.in-Some.ensures.items in
    let P : Taker _ _ → Type 0 = λ t. takes_from t ≡ puts_into c.args.injector in
    let Q : Taker _ _ → Type 0 = λ t. takes_from t ≡ puts_into c.fill.new.injector in
    let from : (t : Taker _ _) → P t → Q t = λ t e. e ∙ sym same.0 in (
      (let p = c.in-Some.ensures.cases in let l = c.in-Ok.ensures.len in omega arith),
      all_pushed Q c.push.new.self.items rest c.take_some.new.taker c.in-Ok.ensures.items (λ k d l. from (get_or rest k d) (all_front P takers rest taker popped all.1 k d l))
          (from c.take_some.new.taker (c.take_some.ensures ∙ all_last P takers rest taker popped all.1)),
    )
