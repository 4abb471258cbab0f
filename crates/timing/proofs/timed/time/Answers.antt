use Rattle.std.proofs.Common.{string_bytes, refl, inl, inr, subst}
use Rattle.script.proofs.Exits.{at_err}
use Rattle.plans.specs.Faults.{OfBytes, unplaced}
use Rattle.plans.proofs.{Stops.stops_short, Planned.IsPlanned}
use Rattle.timing.specs.{Ends.StopsTime, Times.SaysNoTimes}
use Rattle.timing.proofs.Timing.{stops_after, timed_to_end}
use Rattle.timing.proofs.timed.time.Goals as goal

pub returns-in_err-text-clause-fault : goal.returns-in_err-text-clause-fault
returns-in_err-text-clause-fault g c =
    let unread = c.in_err-text.ensures.fault in
    at_err c.from_residual.result (λ e. OfBytes (g.R.Read.remaining c.args.scenario) (λ bytes. StopsTime bytes (g.J.Read.remaining c.args.times) e)) (unplaced c.in_err-text.field-0.0)
    c.from_residual.ensures.1 (unread.0, unread.1, inl (inl (refl, unread.2)))

pub returns-in_err-network-clause-fault : goal.returns-in_err-network-clause-fault
returns-in_err-network-clause-fault g c =
    let text = string_bytes c.in_ok-text.text in
    at_err c.from_residual-in_err-network.result (λ e. OfBytes (g.R.Read.remaining c.args.scenario) (λ bytes. StopsTime bytes (g.J.Read.remaining c.args.times) e)) c.in_err-network.field-0.0
    c.from_residual-in_err-network.ensures.1
    (text, c.in_ok-text.ensures.whole, inl (stops_short text c.in_err-network.field-0.0 c.in_ok-text.ensures.short (rw (← c.as_str.ensures.value) c.in_err-network.ensures.fault)))

pub returns-in_err-lines-clause-fault : goal.returns-in_err-lines-clause-fault
returns-in_err-lines-clause-fault g c =
    let text = string_bytes c.in_ok-text.text in
    let planned : IsPlanned text c.in_ok-network.field-0 = rw (← c.as_str.ensures.value) c.in_ok-network.ensures.ok in
    let unread = c.in_err-lines.ensures.fault in
    at_err c.from_residual-in_err-lines.result (λ e. OfBytes (g.R.Read.remaining c.args.scenario) (λ bytes. StopsTime bytes (g.J.Read.remaining c.args.times) e)) c.in_err-lines.field-0.0
    c.from_residual-in_err-lines.ensures.1 (
      text,
      c.in_ok-text.ensures.whole,
      stops_after text (g.J.Read.remaining c.args.times) c.in_ok-network.field-0 c.in_err-lines.field-0.0 c.in_ok-text.ensures.short planned
          (inl (unread.0, unread.1, inl unread.2)),
    )

pub returns-in_err-times-clause-fault : goal.returns-in_err-times-clause-fault
returns-in_err-times-clause-fault g c =
    let text = string_bytes c.in_ok-text.text in
    let planned : IsPlanned text c.in_ok-network.field-0 = rw (← c.as_str.ensures.value) c.in_ok-network.ensures.ok in
    at_err c.from_residual-in_err-times.result (λ e. OfBytes (g.R.Read.remaining c.args.scenario) (λ bytes. StopsTime bytes (g.J.Read.remaining c.args.times) e)) c.in_err-times.field-0.0
    c.from_residual-in_err-times.ensures.1 (
      text,
      c.in_ok-text.ensures.whole,
      stops_after text (g.J.Read.remaining c.args.times) c.in_ok-network.field-0 c.in_err-times.field-0.0 c.in_ok-text.ensures.short planned
          (inl (string_bytes c.in_ok-lines.lines, c.in_ok-lines.ensures.whole, inr (subst (λ t. SaysNoTimes t c.in_err-times.field-0.0.kind c.in_err-times.field-0.0.place) c.as_str-2.ensures.value c.in_err-times.ensures.fault))),
    )

pub returns-in_err-run-clause-fault : goal.returns-in_err-run-clause-fault
returns-in_err-run-clause-fault g c =
    let text = string_bytes c.in_ok-text.text in
    let planned : IsPlanned text c.in_ok-network.field-0 = rw (← c.as_str.ensures.value) c.in_ok-network.ensures.ok in
    at_err c.from_residual-in_err-run.result (λ e. OfBytes (g.R.Read.remaining c.args.scenario) (λ bytes. StopsTime bytes (g.J.Read.remaining c.args.times) e)) c.in_err-run.field-0.0
    c.from_residual-in_err-run.ensures.1 (
      text,
      c.in_ok-text.ensures.whole,
      stops_after text (g.J.Read.remaining c.args.times) c.in_ok-network.field-0 c.in_err-run.field-0.0 c.in_ok-text.ensures.short planned
          (inr c.in_err-run.ensures.fault),
    )

pub returns-clause-ok : goal.returns-clause-ok
returns-clause-ok g c =
    let text = string_bytes c.in_ok-text.text in
    let lines = string_bytes c.in_ok-lines.lines in
    let planned : IsPlanned text c.in_ok-network.field-0 = rw (← c.as_str.ensures.value) c.in_ok-network.ensures.ok in (
      refl,
      (
        text,
        c.in_ok-text.ensures.whole,
        (
          lines,
          c.in_ok-lines.ensures.whole,
          timed_to_end text lines c.as_str-2.result.now c.in_ok-network.field-0 c.names.result.now c.in_ok-times.times
              c.in_ok-text.ensures.short planned c.names.ensures c.as_str-2.ensures.value c.in_ok-times.ensures.times c.in_ok-run.ensures.ok,
        ),
      ),
    )
