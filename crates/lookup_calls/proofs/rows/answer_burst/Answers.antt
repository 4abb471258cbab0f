use Rattle.std.proofs.Common.{ℕ, ◌<◌, ◌∙◌, arith, sym, length, map, None}
use Rattle.std.proofs.lemmas.List.{ext_get_or, get_or-map, length-map}
use Rattle.network_model.specs.Publication.{image_answer}
use Rattle.c_interface.specs.{declared.row.Row.Row, Rows.answer_row}
use Rattle.lookup_calls.proofs.rows.answer_burst.Goals as goal

pub returns : goal.returns
returns c =
    let f : ℕ → Row = λ addr. answer_row (image_answer c.args.image.now addr) in
    let xs = c.args.addrs.now in
    ext_get_or (answer_row None) c.loop-k.answers (map f xs) (c.loop-k.invariant.count ∙ sym (length-map xs f))
    (λ j lt.
    let within : j < length xs = omega (arith, lt, c.loop-k.invariant.count) in
    let below : j < c.loop-k.k = omega (arith, within, c.loop-k-test.false) in
    c.loop-k.invariant.answered j below ∙ sym (get_or-map f xs j 0 (answer_row None) within))
