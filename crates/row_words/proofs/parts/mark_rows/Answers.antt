use Rattle.std.proofs.Common.{◌<◌, ◌∙◌, arith, sym, length, map, None, Option, option_map}
use Rattle.std.proofs.lemmas.List.{ext_get_or, get_or-map, length-map}
use Rattle.ipv4_prefix.specs.Prefix.{Prefix}
use Rattle.network_model.specs.declared.route.Entry.{Entry}
use Rattle.row_words.specs.{Rows.mark_in, declared.cells.Marked.Marked}
use Rattle.row_words.proofs.parts.mark_rows.Goals as goal

pub returns : goal.returns
returns c =
    let f : Option (Prefix × Entry) → Option (Prefix × Marked) = option_map (λ r. (r.0, mark_in c.args.cells.now r.1)) in
    let xs = c.args.found.now in
    ext_get_or None c.loop-k.answers (map f xs) (c.loop-k.invariant.count ∙ sym (length-map xs f))
    (λ j lt.
    let within : j < length xs = omega (arith, lt, c.loop-k.invariant.count) in
    let below : j < c.loop-k.k = omega (arith, within, c.loop-k-test.false) in
    c.loop-k.invariant.marked j below ∙ sym (get_or-map f xs j None None within))
