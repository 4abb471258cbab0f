use Rattle.std.proofs.Common.{arith, ◌≤◌}
use Rattle.std.specs.Str.Parse.{ParsesUnsigned, ExplainsUnsignedError, HasUnsignedDigitsIfOk}
use Rattle.clap.specs.Words.{found_of}
use Rattle.command_line.proofs.Given.{number_read, no_number, same_number, if_none}
use Rattle.command_line.proofs.words.number.Goals as goal
use Rattle.command_line.proofs.words.number.Goals.{then-number-lt1-via-then-number-lt1, then-number-lt1-via-else-number-lt1+then-number-most}

pub returns-in_err-number-clause-none : goal.returns-in_err-number-clause-none
returns-in_err-number-clause-none c =
    if_none c.from_residual.result _
    (no_number (λ bs r. ParsesUnsigned 8 10 bs r × ExplainsUnsignedError 10 bs r × HasUnsignedDigitsIfOk bs r) (λ t x h. h.0)
    (found_of c.args.matches.now) c.args.id.now c.args.most (omega arith) c.get_one.result c.get_one.ensures.value c.in_err-number.was)

pub returns-then-number-lt1-clause-none : goal.returns-then-number-lt1-clause-none
returns-then-number-lt1-clause-none c n h =
    let same = same_number (λ bs r. ParsesUnsigned 8 10 bs r × ExplainsUnsignedError 10 bs r × HasUnsignedDigitsIfOk bs r) (λ t x h. h.0)
    (found_of c.args.matches.now) c.args.id.now c.args.most (omega arith) c.get_one.result c.in_ok-number.number c.get_one.ensures.value c.in_ok-number.was n h in
    elim c.then-number-lt1.branch [
      | then-number-lt1-via-then-number-lt1 w ↦ omega (arith, same, h.3, w.if-number-lt1.true)
      | then-number-lt1-via-else-number-lt1+then-number-most w ↦ omega (arith, same, h.4, w.if-number-most.true)
    ]

pub returns-clause-some : goal.returns-clause-some
returns-clause-some c =
    let low : 1 ≤ c.in_ok-number.number = omega (arith, c.if-number-lt1.false) in
    let high : c.in_ok-number.number ≤ c.args.most = omega (arith, c.if-number-most.false) in
    number_read (λ bs r. ParsesUnsigned 8 10 bs r × ExplainsUnsignedError 10 bs r × HasUnsignedDigitsIfOk bs r) (λ t x h. h.0)
    (found_of c.args.matches.now) c.args.id.now c.args.most (omega arith) c.get_one.result c.in_ok-number.number c.get_one.ensures.none c.get_one.ensures.value c.in_ok-number.was low high
