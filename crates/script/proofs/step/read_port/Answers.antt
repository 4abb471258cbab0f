use Rattle.std.proofs.Common.{◌≡◌, ◌≢◌, ℕ, [], ◌∷◌, Some, inl, inr, codes, sym, ap, ◌∙◌, arith, true≢false}
use Rattle.script.proofs.{Common.bytes_eq-Decides, Common.words_of, Common.AsksDelivery, Exits.at_err, Ports.is_port, Ports.home_port}
use Rattle.script.specs.declared.fault.LineFault.TheVariants.{BadCommand}
use Rattle.script.proofs.StepTexts.{no_home, no_far, way_unique, no_small_port}
use Rattle.script.proofs.step.read_port.Goals as goal

pub returns-in_err-port-clause-err : goal.returns-in_err-port-clause-err
returns-in_err-port-clause-err c =
    let words = rw c.in_ok-name.ensures.ok_part at c.two_words.ensures.some in
    let same = (bytes_eq-Decides c.in_ok-name.name.now c.in_ok-name.neighbour.now).0 (sym c.eq.ensures ∙ c.if-eq.true) in
    let found = c.in_ok-router.ensures.ok in
    let large = c.in_err-port.ensures.err in
    at_err c.from_residual-in_err-port.result (λ e. (e ≡ BadCommand) × ((router port : ℕ) → ¬ (AsksDelivery c.args.names.now c.args.links.now (codes "deliver" ∷ words_of c.args.operands.now) router port))) c.in_err-port.field-0.0 c.from_residual-in_err-port.ensures.1 (
      large.0,
      no_home c.args.names.now c.args.links.now c.in_ok-name.name.now c.in_ok-name.neighbour.now (words_of c.args.operands.now) words same (λ router known small.
          let routers : Some c.in_ok-router.router ≡ Some router = sym found.0 ∙ known in
          let router_same : c.in_ok-router.router ≡ router = cc in
          let ports = home_port router c.args.links.now in
          omega (arith, small, ports, rw router_same at large.1)),
    )

pub returns-then-eq-clause-ok : goal.returns-then-eq-clause-ok
returns-then-eq-clause-ok c =
    let words = rw c.in_ok-name.ensures.ok_part at c.two_words.ensures.some in
    let same : c.in_ok-name.name.now ≡ c.in_ok-name.neighbour.now = (bytes_eq-Decides c.in_ok-name.name.now c.in_ok-name.neighbour.now).0 (sym c.eq.ensures ∙ c.if-eq.true) in
    let found = c.in_ok-router.ensures.ok in
    let port = c.in_ok-port.ensures.ok in (
      inr (
        record {
          name = c.in_ok-name.name.now;
          spelled = ap (λ ws. codes "deliver" ∷ ws) (words ∙ ap (λ t. c.in_ok-name.name.now ∷ t ∷ []) (sym same));
          known = found.0;
        },
        port.0 ∙ home_port c.in_ok-router.router c.args.links.now,
      ),
      port.1,
    )

pub returns-in_err-way-clause-err : goal.returns-in_err-way-clause-err
returns-in_err-way-clause-err c =
    let words = rw c.in_ok-name.ensures.ok_part at c.two_words.ensures.some in
    let apart : c.in_ok-name.name.now ≢ c.in_ok-name.neighbour.now = λ is. true≢false (sym ((bytes_eq-Decides c.in_ok-name.name.now c.in_ok-name.neighbour.now).1 is) ∙ sym c.eq.ensures ∙ c.if-eq.false) in
    let none = c.in_err-way.ensures.err in
    at_err c.from_residual-in_err-way.result (λ e. (e ≡ BadCommand) × ((router port : ℕ) → ¬ (AsksDelivery c.args.names.now c.args.links.now (codes "deliver" ∷ words_of c.args.operands.now) router port))) c.in_err-way.field-0.0 c.from_residual-in_err-way.ensures.1
    (none.0, no_far c.args.names.now c.args.links.now c.in_ok-name.name.now c.in_ok-name.neighbour.now (words_of c.args.operands.now) words apart (λ router link port way on small. none.1 router link way))

pub returns-in_err-port-2-clause-err : goal.returns-in_err-port-2-clause-err
returns-in_err-port-2-clause-err c =
    let words = rw c.in_ok-name.ensures.ok_part at c.two_words.ensures.some in
    let apart : c.in_ok-name.name.now ≢ c.in_ok-name.neighbour.now = λ is. true≢false (sym ((bytes_eq-Decides c.in_ok-name.name.now c.in_ok-name.neighbour.now).1 is) ∙ sym c.eq.ensures ∙ c.if-eq.false) in
    let large = rw c.from.ensures at c.in_err-port-2.ensures.err in
    at_err c.from_residual-in_err-port-2.result (λ e. (e ≡ BadCommand) × ((router port : ℕ) → ¬ (AsksDelivery c.args.names.now c.args.links.now (codes "deliver" ∷ words_of c.args.operands.now) router port))) c.in_err-port-2.field-0.0 c.from_residual-in_err-port-2.ensures.1 (
      large.0,
      no_far c.args.names.now c.args.links.now c.in_ok-name.name.now c.in_ok-name.neighbour.now (words_of c.args.operands.now) words apart (λ router link port way on small.
          let same = way_unique c.args.names.now c.args.links.now c.in_ok-name.name.now c.in_ok-name.neighbour.now router link c.in_ok-way.way.router c.in_ok-way.way.link way c.in_ok-way.ensures.ok in
          no_small_port c.args.links.now c.in_ok-way.way.router c.in_ok-way.way.link router link port same large.1 on small),
    )

pub returns-clause-ok : goal.returns-clause-ok
returns-clause-ok c =
    let words = rw c.in_ok-name.ensures.ok_part at c.two_words.ensures.some in
    let apart : c.in_ok-name.name.now ≢ c.in_ok-name.neighbour.now = λ is. true≢false (sym ((bytes_eq-Decides c.in_ok-name.name.now c.in_ok-name.neighbour.now).1 is) ∙ sym c.eq.ensures ∙ c.if-eq.false) in
    let way = c.in_ok-way.ensures.ok in
    let port = rw c.from.ensures at c.in_ok-port-2.ensures.ok in
    let on_link = is_port c.in_ok-way.way.router way.far c.in_ok-way.way.link c.args.links.now way.joined in (
      inl (
        c.in_ok-way.way.link,
        record {
          name = c.in_ok-name.name.now;
          neighbour = c.in_ok-name.neighbour.now;
          spelled = ap (λ ws. codes "deliver" ∷ ws) words;
          way = way;
        },
        apart,
        rw port.0 on_link,
      ),
      port.1,
    )
