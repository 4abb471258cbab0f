use Rattle.std.proofs.Common.{◌-◌, arith, rules}
use Rattle.node_pool.specs.{FreeLists.free_list, declared.cells.Cell.TheVariants.Free}
use Rattle.node_pool.proofs.Blocks.{used_within, filled_put, few_spare, give_linked}
use Rattle.node_pool.proofs.pool.Pool.give.Goals as goal

pub fill-requires : goal.fill-requires
fill-requires g c =
    rw c.as_mut_slice.ensures.value (used_within c.args.self.now.cells.items c.args.base c.args.size c.requires.some c.requires.used)

pub overflow_add-self : goal.overflow_add-self
overflow_add-self g c =
    omega (arith, few_spare c.args.self.now.cells.items c.args.self.now.free (c.args.size - 1) c.args.self.now.linked, c.args.self.now.few, c.args.self.now.cells.ok.0)

pub invariant_of-self-clause-linked : goal.invariant_of-self-clause-linked
invariant_of-self-clause-linked g c =
    give_linked c.args.self.now.cells c.as_mut_slice.result.now c.fill.new.cells c.args.self.now.free c.args.base c.args.size
    c.requires.some (let h = c.before.before.fill.type_inv in omega arith) c.as_mut_slice.ensures.value c.fill.auto.cells c.as_mut_slice.ensures.len c.requires.used c.fill.ensures c.args.self.now.linked

pub returns-clause-freed : goal.returns-clause-freed
returns-clause-freed g c =
    filled_put c.args.self.now.cells c.as_mut_slice.result.now c.fill.new.cells c.args.base c.args.size (Free (free_list c.args.self.now.free (c.args.size - 1)).first)
    c.as_mut_slice.ensures.value c.fill.auto.cells c.as_mut_slice.ensures.len c.fill.ensures

pub returns-clause-one_more : goal.returns-clause-one_more
returns-clause-one_more g c = search rules
