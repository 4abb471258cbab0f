use Rattle.std.proofs.Common.{ℕ, ◌<◌, ◌∙◌, arith, sym, length, map}
use Rattle.std.proofs.lemmas.List.{ext_get_or, get_or-map, length-map}
use Rattle.row_words.specs.Rows.{slot_word}
use Rattle.row_words.proofs.parts.read_words.Goals as goal

pub returns : goal.returns
returns c =
    let f : ℕ → ℕ = slot_word c.args.cells.now in
    let xs = c.args.words.now in
    ext_get_or 0 c.loop-k.words (map f xs) (c.loop-k.invariant.count ∙ sym (length-map xs f)) (λ j lt.
    let within : j < length xs = omega (arith, lt, c.loop-k.invariant.count) in
    let below : j < c.loop-k.k = omega (arith, lt, c.loop-k-test.false) in
    c.loop-k.invariant.read j below ∙ sym (get_or-map f xs j 0 0 within))
