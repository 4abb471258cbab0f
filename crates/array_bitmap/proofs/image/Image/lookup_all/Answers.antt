use Rattle.std.proofs.Common.{rules, ◌≡◌, ◌≤◌, ◌+◌, ◌-◌, ◌++◌, ◌∙◌, arith, sym, ap, length, map, take}
use Rattle.std.specs.List.{between}
use Rattle.std.proofs.{Math.Seq.take-add, lemmas.List.length-map, lemmas.List.map-append, lemmas.List.Edits.length-between, lemmas.Slice.take-put_mid}
use Rattle.network_model.specs.Publication.{image_answer}
use Rattle.array_bitmap.proofs.image.Image.lookup_all.Goals as goal

pub loop-done-preserved : goal.loop-done-preserved
loop-done-preserved g c =
    let f = image_answer c.args.self.now in
    let zs = c.args.addrs.now in
    let done = c.loop-done.done in
    let end = c.min-end.result in
    let ys = c.lookup_burst.new.answers in
    let within : end ≤ length zs = search rules in
    let from : done ≤ end = search rules in
    let is : ys ≡ map f (between done end zs) = c.lookup_burst.ensures.answers in
    let many : length ys ≡ end - done = ap length is ∙ length-map (between done end zs) f ∙ length-between zs done end within in
    let whole : done + (end - done) ≡ end = omega (arith, from) in
    record {
      within = within;
      count = search rules;
      answered = take-put_mid done (end - done) c.loop-done.answers ys end (omega (arith, many, from)) (omega (arith, c.loop-done.invariant.within, c.loop-done.invariant.count))
          ∙ (λ i. c.loop-done.invariant.answered i ++ is i)
          ∙ sym (map-append f (take done zs) (between done end zs))
          ∙ ap (map f) (sym (take-add done (end - done) zs) ∙ ap (λ n. take n zs) whole);
    }
