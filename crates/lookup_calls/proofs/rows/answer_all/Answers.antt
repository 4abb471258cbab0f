use Rattle.std.proofs.Common.{rules, ℕ, ◌≡◌, ◌≤◌, ◌+◌, ◌-◌, ◌++◌, ◌∙◌, arith, sym, ap, subst, get_or, slice_set, length, map, take, None}
use Rattle.std.specs.List.{between}
use Rattle.std.proofs.{Math.Seq.take-add, lemmas.List.Edits.length-between, lemmas.Slice.take-put_mid}
use Rattle.std.proofs.lemmas.List.{ext_get_or, get_or-map, get_or-set_same, length-set, length-map, map-append}
use Rattle.c_interface.specs.{declared.row.Row.Row, Rows.answer_row}
use Rattle.lookup_calls.specs.Rows.{entry_answer}
use Rattle.lookup_calls.proofs.rows.answer_all.Goals as goal

pub loop-done-preserved : goal.loop-done-preserved
loop-done-preserved c =
    let f : ℕ → Row = λ addr. answer_row (entry_answer c.args.image.now addr) in
    let zs = c.args.addrs.now in
    let done = c.loop-done.done in
    let end = c.min-end.result in
    let ys = c.answer_burst.new.answers in
    let within : end ≤ length zs = search rules in
    let from : done ≤ end = search rules in
    let is : ys ≡ map f (between done end zs) = c.answer_burst.ensures in
    let many : length ys ≡ end - done = ap length is ∙ length-map (between done end zs) f ∙ length-between zs done end within in
    let whole : done + (end - done) ≡ end = omega (arith, from) in
    record {
      within = within;
      count = search rules;
      answered = take-put_mid done (end - done) c.loop-done.answers ys end (omega (arith, many, from)) (omega (arith, c.loop-done.invariant.within, c.loop-done.invariant.count))
          ∙ (λ i. c.loop-done.invariant.answered i ++ is i)
          ∙ sym (map-append f (take done zs) (between done end zs))
          ∙ ap (map f) (sym (take-add done (end - done) zs) ∙ ap (λ n. take n zs) whole);
    }

pub returns-then-addrs-eq1 : goal.returns-then-addrs-eq1
returns-then-addrs-eq1 c =
    let f : ℕ → Row = λ addr. answer_row (entry_answer c.args.image.now addr) in
    let xs = c.args.addrs.now in
    let ys = c.args.answers.now in
    let one : length xs ≡ 1 = omega (arith, c.if-addrs-eq1.true) in
    let many : length (slice_set ys 0 c.answer.result) ≡ length xs = length-set ys 0 c.answer.result ∙ c.requires in
    ext_get_or (answer_row None) (slice_set ys 0 c.answer.result) (map f xs) (many ∙ sym (length-map xs f)) (λ j lt.
    let zero : j ≡ 0 = omega (arith, lt, many, one) in
    subst (λ k. get_or (slice_set ys 0 c.answer.result) k (answer_row None) ≡ get_or (map f xs) k (answer_row None)) (sym zero)
    (get_or-set_same ys 0 c.answer.result (answer_row None) (omega (arith, one, c.requires)) ∙ c.answer.ensures ∙ sym (get_or-map f xs 0 0 (answer_row None) (omega (arith, one)))))
