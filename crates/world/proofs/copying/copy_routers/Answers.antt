use Rattle.std.proofs.Common.{◌≡◌, ◌+◌, ◌++◌, ◌∷◌, [], sym, ap, ◌∙◌, arith, take, add-one}
use Rattle.std.proofs.Math.Seq.{take-suc}
use Rattle.world.proofs.copying.copy_routers.Goals as goal

pub loop-router-preserved : goal.loop-router-preserved
loop-router-preserved g c =
    let i = c.loop-router.router-index in
    let routers = c.args.routers.now in
    let here = c.router-item.result in
    let taken : take (i + 1) routers ≡ take i routers ++ here ∷ []
    = ap (λ n. take n routers) (add-one i) ∙ take-suc routers i here (omega arith) ∙ ap (λ x. take i routers ++ x ∷ []) (sym c.router-item.is) in
    record {
      so_far = c.push_reserved.ensures.items
          ∙ ap (λ xs. xs ++ c.in_ok-copy.field-0 ∷ []) c.loop-router.invariant.so_far
          ∙ ap (λ x. take i routers ++ x ∷ []) c.in_ok-copy.ensures
          ∙ sym taken;
      count = omega (arith, c.push_reserved.ensures.len, c.loop-router.invariant.count);
      room = c.push_reserved.ensures.capacity ∙ c.loop-router.invariant.room;
    }
