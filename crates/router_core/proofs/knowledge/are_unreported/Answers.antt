use Rattle.std.proofs.Common.{◌≡◌, ◌+◌, ◌<◌, ◌&&◌, true, false, length, drop, Some, sym, ap, ◌∙◌, arith, slice_get}
use Rattle.std.specs.List.{list_all}
use Rattle.router_core.specs.Alone.{is_unreported}
use Rattle.router_core.proofs.Ports.{drop_at, none_at}
use Rattle.router_core.proofs.knowledge.are_unreported.Goals.{in-Some+else-not-is_unreported, in_default}
use Rattle.router_core.proofs.knowledge.are_unreported.Goals as goal

pub returns-then-not-is_unreported : goal.returns-then-not-is_unreported
returns-then-not-is_unreported g c =
    let ns = c.args.machine.now.machine.ports in
    let i = c.loop-port.port in
    let n = c.in-Some.neighbour in
    let read : slice_get ns i ≡ Some n = sym c.neighbour.ensures ∙ c.in-Some.is in
    let not_so : is_unreported n ≡ false = sym c.is_unreported.ensures ∙ c.if-not-is_unreported.true in
    sym (sym c.loop-port.invariant ∙ ap (list_all is_unreported) (drop_at ns i n read) ∙ ap (λ b. b && list_all is_unreported (drop (i + 1) ns)) not_so)

pub loop-port-preserved : goal.loop-port-preserved
loop-port-preserved g c =
    let ns = c.args.machine.now.machine.ports in
    let i = c.loop-port.port in
    elim c.match-neighbour.branch [
      | in-Some+else-not-is_unreported w ↦
          let n = w.in-Some.neighbour in
          let read : slice_get ns i ≡ Some n = sym c.neighbour.ensures ∙ w.in-Some.is in
          let so : is_unreported n ≡ true = sym w.is_unreported.ensures ∙ w.if-not-is_unreported.false in
          sym (ap (list_all is_unreported) (drop_at ns i n read) ∙ ap (λ b. b && list_all is_unreported (drop (i + 1) ns)) so) ∙ c.loop-port.invariant
      | in_default w ↦
          let within : i < length ns = omega (arith, c.loop-port-test.true, c.requires.ports) in
          absurd (none_at ns i within (sym c.neighbour.ensures ∙ w.in_default.is))
    ]
