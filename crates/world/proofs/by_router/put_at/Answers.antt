use Rattle.std.proofs.Common.{◌++◌, ◌∷◌, [], refl}
use Rattle.link_fifo.proofs.Changes.{written_in}
use Rattle.world.proofs.by_router.put_at.Goals as goal

pub returns-clause-lists : goal.returns-clause-lists
returns-clause-lists g c = written_in (λ v. v.items) (λ xs. xs ++ c.args.item ∷ []) c.args.lists.now.items c.from.ensures c.index_mut.ensures.value c.in_ok-push.ensures.items refl
