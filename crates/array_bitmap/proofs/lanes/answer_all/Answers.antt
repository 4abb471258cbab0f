use Rattle.std.proofs.Common.{◌<◌, ◌∙◌, arith, sym, length, map, None}
use Rattle.std.proofs.lemmas.List.{ext_get_or, get_or-map, length-map}
use Rattle.ipv4_prefix.specs.LongestMatch.{longest_match}
use Rattle.array_bitmap.specs.Image.{rows_in}
use Rattle.array_bitmap.proofs.lanes.answer_all.Goals as goal

pub returns : goal.returns
returns g c =
    let xs = c.args.addrs.now in
    ext_get_or None c.loop-k.answers (map (λ addr. longest_match addr (rows_in c.args.tree.now)) xs) (c.loop-k.invariant.count ∙ sym (length-map xs (λ addr. longest_match addr (rows_in c.args.tree.now))))
    (λ j lt.
    let within : j < length xs = omega (arith, lt, c.loop-k.invariant.count) in
    let below : j < c.loop-k.k = omega (arith, within, c.loop-k-test.false) in
    c.loop-k.invariant.answered j below ∙ sym (get_or-map (λ addr. longest_match addr (rows_in c.args.tree.now)) xs j 0 None within))
