use Rattle.std.proofs.Common.{◌≡◌, length, arith}
use Rattle.std.specs.List.{position_or_len}
use Rattle.texts.specs.Lines.{is_line_feed}
use Rattle.texts.proofs.LineCuts.{line_first, line_last}
use Rattle.texts.proofs.lines.next_line.Goals as goal

pub returns-in-Some-clause-some : goal.returns-in-Some-clause-some
returns-in-Some-clause-some c =
    let cut = c.in-Some.ensures.byte (omega arith) (λ w o finds. finds) in
    line_first c.args.text.now c.in-Some.cut.0.now c.in-Some.cut.1.now cut.0 cut.1 cut.2

pub returns-in-None-clause-some : goal.returns-in-None-clause-some
returns-in-None-clause-some c =
    let none : position_or_len is_line_feed c.args.text.now ≡ length c.args.text.now = c.in-None.ensures.byte (omega arith) (λ w o finds. finds) in
    line_last c.args.text.now c.is_empty.result c.is_empty.ensures c.if-is_empty.false (omega (arith, none))
