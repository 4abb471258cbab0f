use Rattle.std.proofs.Common.{rules, ℕ, ◌≡◌, ◌≤◌, ◌+◌, ◌-◌, ◌++◌, ◌∙◌, arith, sym, ap, length, map, take, Option}
use Rattle.std.specs.List.{between}
use Rattle.std.proofs.{Math.Seq.take-add, lemmas.List.length-map, lemmas.List.map-append, lemmas.List.Edits.length-between, lemmas.Slice.take-put_mid}
use Rattle.ipv4_prefix.specs.{Prefix.Prefix, LongestMatch.longest_match}
use Rattle.row_words.specs.{Rows.marked, declared.cells.Marked.Marked}
use Rattle.row_words.proofs.parts.answer_rows.Goals as goal

pub loop-done-preserved : goal.loop-done-preserved
loop-done-preserved g c =
    let f : ℕ → Option (Prefix × Marked) = λ addr. longest_match addr (marked c.args.cells.now c.args.image.now.rows) in
    let zs = c.args.addrs.now in
    let done = c.loop-done.done in
    let end = c.min-end.result in
    let ys = c.burst_rows.new.answers in
    let within : end ≤ length zs = search rules in
    let from : done ≤ end = search rules in
    let is : ys ≡ map f (between done end zs) = c.burst_rows.ensures in
    let many : length ys ≡ end - done = ap length is ∙ length-map (between done end zs) f ∙ length-between zs done end within in
    let whole : done + (end - done) ≡ end = omega (arith, from) in
    record {
      within = within;
      count = search rules;
      answered = take-put_mid done (end - done) c.loop-done.answers ys end (omega (arith, many, from)) (omega (arith, c.loop-done.invariant.within, c.loop-done.invariant.count))
          ∙ (λ i. c.loop-done.invariant.answered i ++ is i)
          ∙ sym (map-append f (take done zs) (between done end zs))
          ∙ ap (map f) (sym (take-add done (end - done) zs) ∙ ap (λ n. take n zs) whole);
    }
