use Rattle.std.proofs.Common.{◌≡◌, ◌+◌, ◌++◌, ◌∷◌, [], sym, ap, ◌∙◌, arith, take, add-one}
use Rattle.std.proofs.Math.Seq.{take-suc}
use Rattle.simulation.proofs.images.copy_images.Goals as goal

pub loop-image-preserved : goal.loop-image-preserved
loop-image-preserved g c =
    let i = c.loop-image.image-index in
    let images = c.args.images.now in
    let here = c.image-item.result in
    let taken : take (i + 1) images ≡ take i images ++ here ∷ []
    = ap (λ n. take n images) (add-one i) ∙ take-suc images i here (omega arith) ∙ ap (λ x. take i images ++ x ∷ []) (sym c.image-item.is) in
    record {
      so_far = c.push_reserved.ensures.items
          ∙ ap (λ xs. xs ++ c.in_ok-copy.field-0 ∷ []) c.loop-image.invariant.so_far
          ∙ ap (λ x. take i images ++ x ∷ []) c.in_ok-copy.ensures
          ∙ sym taken;
      count = omega (arith, c.push_reserved.ensures.len, c.loop-image.invariant.count);
      room = c.push_reserved.ensures.capacity ∙ c.loop-image.invariant.room;
    }
