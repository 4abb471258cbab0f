use Rattle.std.proofs.Common.{◌≡◌, ◌<◌, ◌+◌, ◌-◌, ◌∙◌, ◌∷◌, length, take, drop, sym, ap, arith}
use Rattle.std.specs.List.{position_or_len}
use Rattle.texts.specs.Lines.{is_line_feed, lines_of}
use Rattle.texts.proofs.LineCuts.{line_first, line_last, found_none, found_some, rest_is, rest_none}
use Rattle.texts.proofs.lines.next_line_of_bytes.Goals as goal

pub returns-in-Some-clause-some : goal.returns-in-Some-clause-some
returns-in-Some-clause-some c =
    let text = c.args.text.now in
    let end = c.in-Some.end in
    let at : position_or_len is_line_feed text ≡ end = found_some text end (sym c.in-Some.ensures.value) in
    let within : end < length text = c.in-Some.ensures.within in
    line_first text (take end text) (take (length text - (end + 1)) (drop (end + 1) text)) (ap (λ n. take n text) (sym at))
    (rest_is text (end + 1) (position_or_len is_line_feed text + 1) (ap (λ n. n + 1) (sym at))) (omega (arith, at, within))

pub returns-in-None-clause-some : goal.returns-in-None-clause-some
returns-in-None-clause-some c =
    let text = c.args.text.now in
    line_last text c.is_empty.result c.is_empty.ensures c.if-is_empty.false (found_none text (sym c.in-None.ensures.value)) ∙ ap (λ t. text ∷ lines_of t) (sym (rest_none text))
