use Rattle.std.proofs.Common.{ℕ, ◌<◌, ◌∙◌, arith, ap, sym, length, map, get_or, None, option_map}
use Rattle.std.proofs.lemmas.List.{ext_get_or, get_or-map, length-map}
use Rattle.c_interface.specs.{declared.row.Row.Row, Rows.answer_row}
use Rattle.row_words.specs.Rows.{marked_answer}
use Rattle.lookup_calls.specs.Rows.{entry_answer}
use Rattle.lookup_calls.proofs.rows.answer_marked_burst.Goals as goal

pub returns : goal.returns
returns c =
    let f : ℕ → Row = λ addr. answer_row (entry_answer c.args.image.now addr) in
    let xs = c.args.addrs.now in
    ext_get_or (answer_row None) c.loop-k.answers (map f xs) (c.loop-k.invariant.count ∙ sym (length-map xs f))
    (λ j lt.
    let within : j < length xs = omega (arith, lt, c.loop-k.invariant.count) in
    let below : j < c.loop-k.k = omega (arith, within, c.loop-k-test.false) in
    c.loop-k.invariant.answered j below
    ∙ ap (λ o. answer_row (option_map (λ r. (r.0, r.1.entry)) o)) (ap (λ os. get_or os j None) c.lookup_all.ensures ∙ get_or-map (marked_answer c.args.image.now) xs j 0 None within)
    ∙ sym (get_or-map f xs j 0 (answer_row None) within))
