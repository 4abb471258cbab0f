use Rattle.std.proofs.Common.{◌∷◌, codes, refl}
use Rattle.script.proofs.{Common.false≢true, Common.words_of, Common.AsksNoCost, Exits.at_err}
use Rattle.script.specs.declared.fault.LineFault.TheVariants.{BadCost}
use Rattle.script.proofs.StepTexts.{number_way, way_unique, no_small_port, asks_cost}
use Rattle.script.proofs.step.read_cost.Goals as goal

pub returns-in_err-way-clause-err : goal.returns-in_err-way-clause-err
returns-in_err-way-clause-err c =
    let words = rw c.in_ok-name.ensures.ok_part at c.three_words.ensures.some in
    let none = c.in_err-way.ensures.err in
    at_err c.from_residual-in_err-way.result (AsksNoCost c.args.names.now c.args.links.now (codes "cost" ∷ words_of c.args.operands.now)) c.in_err-way.field-0.0 c.from_residual-in_err-way.ensures.1
    (rw none.0 (λ router port number h.
    none.1 router h.0 (number_way c.args.names.now c.args.links.now (codes "cost") c.in_ok-name.name.now c.in_ok-name.neighbour.now c.in_ok-name.number.now _ router h.0 number words h.1)))

pub returns-in_err-port-clause-err : goal.returns-in_err-port-clause-err
returns-in_err-port-clause-err c =
    let words = rw c.in_ok-name.ensures.ok_part at c.three_words.ensures.some in
    let large = rw c.from.ensures at c.in_err-port.ensures.err in
    at_err c.from_residual-in_err-port.result (AsksNoCost c.args.names.now c.args.links.now (codes "cost" ∷ words_of c.args.operands.now)) c.in_err-port.field-0.0 c.from_residual-in_err-port.ensures.1
    (rw large.0 (λ router port number h.
    let way = number_way c.args.names.now c.args.links.now (codes "cost") c.in_ok-name.name.now c.in_ok-name.neighbour.now c.in_ok-name.number.now _ router h.0 number words h.1 in
    let same = way_unique c.args.names.now c.args.links.now c.in_ok-name.name.now c.in_ok-name.neighbour.now router h.0 c.in_ok-way.way.router c.in_ok-way.way.link way c.in_ok-way.ensures.ok in
    no_small_port c.args.links.now c.in_ok-way.way.router c.in_ok-way.way.link router h.0 port same large.1 h.2 h.3))

pub returns-in_err-cost-clause-err : goal.returns-in_err-cost-clause-err
returns-in_err-cost-clause-err c =
    let words = rw c.in_ok-name.ensures.ok_part at c.three_words.ensures.some in
    let number = rw c.in_ok-number.ensures.ok_part at c.read_number.ensures.read in
    let port = rw c.from.ensures at c.in_ok-port.ensures.ok in
    at_err c.from_residual-in_err-cost.result (AsksNoCost c.args.names.now c.args.links.now (codes "cost" ∷ words_of c.args.operands.now)) BadCost c.from_residual-in_err-cost.ensures.1 (
      c.in_ok-way.way.router,
      c.in_ok-port.port,
      c.in_ok-number.number,
      asks_cost c.args.names.now c.args.links.now c.in_ok-name.name.now c.in_ok-name.neighbour.now c.in_ok-name.number.now (words_of c.args.operands.now)
          c.in_ok-way.way.router c.in_ok-way.way.link c.in_ok-number.number c.in_ok-port.port words c.in_ok-way.ensures.ok number port.0 port.1,
      λ is. false≢true (c.in_err-cost.ensures.exactly.1 is),
    )

pub returns-clause-ok : goal.returns-clause-ok
returns-clause-ok c =
    let words = rw c.in_ok-name.ensures.ok_part at c.three_words.ensures.some in
    let number = rw c.in_ok-number.ensures.ok_part at c.read_number.ensures.read in
    let port = rw c.from.ensures at c.in_ok-port.ensures.ok in
    rw c.in_ok-cost.ensures.ok (
      asks_cost c.args.names.now c.args.links.now c.in_ok-name.name.now c.in_ok-name.neighbour.now c.in_ok-name.number.now (words_of c.args.operands.now)
          c.in_ok-way.way.router c.in_ok-way.way.link c.in_ok-number.number c.in_ok-port.port words c.in_ok-way.ensures.ok number port.0 port.1,
      c.in_ok-cost.ensures.exactly.0 refl,
    )
