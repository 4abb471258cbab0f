use Rattle.std.proofs.Common.{◌≡◌, false, refl, subst, arith}
use Rattle.ipv4_prefix.specs.Prefix.{Prefix}
use Rattle.run_states.specs.Books.{MachinesMarked, matches_prefix}
use Rattle.run_states.proofs.Marked.{no_router, router_written}
use Rattle.run_states.proofs.recorder.Recorder.mark_machines.Goals as goal

pub returns-in-Some : goal.returns-in-Some
returns-in-Some c =
    let spared : Prefix → Type 0 = λ p. matches_prefix c.args.which p ≡ false in
    router_written c.args.self.now c.args.router c.from.result c.in-Some.book.now c.mark_machines.new.self spared c.from.ensures (c.in-Some.ensures.variant.0 refl) c.in-Some.ensures.value
    (subst (λ ps. MachinesMarked spared ps c.in-Some.book.now c.mark_machines.new.self) c.deref.ensures.value c.mark_machines.ensures)

pub returns-in_default : goal.returns-in_default
returns-in_default c = no_router c.args.self.now c.args.router (λ p. matches_prefix c.args.which p ≡ false) (let past = c.in_default.ensures.item.3 in let is = c.from.ensures in omega (arith, past, is))
