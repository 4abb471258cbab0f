use Rattle.std.proofs.Common.{◌≡◌, ◌+◌, ◌++◌, [], ◌∷◌, sym, ap, ◌∙◌, arith, append_assoc}
use Rattle.script.proofs.Common.{length_push, bytes_eq-Decides, Text, lines_of}
use Rattle.journal.proofs.compare.first_difference.Goals as goal

pub loop-first-preserved : goal.loop-first-preserved
loop-first-preserved c =
    let before = c.loop-first.invariant.lines in
    let first : Text = c.in-Some.first.now in
    let second : Text = c.in-Some-next_line_of_bytes.second.now in
    let same : first ≡ second = (bytes_eq-Decides first second).0 (sym c.eq.ensures ∙ c.if-eq.true) in
    record {
      lines = before ++ first ∷ [];
      count = ap (λ n. n + 1) c.loop-first.invariant.count ∙ sym (length_push before first);
      a_is = c.loop-first.invariant.a_is ∙ ap (λ ls. before ++ ls) c.in-Some.ensures.some ∙ sym (append_assoc before (first ∷ []) (lines_of c.in-Some.after.now));
      b_is = c.loop-first.invariant.b_is ∙ ap (λ ls. before ++ ls) (c.in-Some-next_line_of_bytes.ensures.some ∙ ap (λ l. l ∷ lines_of c.in-Some-next_line_of_bytes.beyond.now) (sym same))
          ∙ sym (append_assoc before (first ∷ []) (lines_of c.in-Some-next_line_of_bytes.beyond.now));
      fits_a = (let shorter = c.in-Some.ensures.shorter in let fits = c.loop-first.invariant.fits_a in omega (arith, shorter, fits));
      fits_b = (let shorter = c.in-Some-next_line_of_bytes.ensures.shorter in let fits = c.loop-first.invariant.fits_b in omega (arith, shorter, fits));
    }
