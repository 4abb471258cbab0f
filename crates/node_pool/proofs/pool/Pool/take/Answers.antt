use Rattle.std.proofs.Common.{◌+◌, ◌-◌, is_some, ap, arith, ◌∙◌, is_ok, vec_len, if◌then◌else◌}
use Rattle.node_pool.specs.{Cell.value_of, Cell.next_free, FreeLists.free_list, declared.cells.Cell.TheVariants.Used}
use Rattle.node_pool.proofs.Blocks.{head_within, head_read, head_free, head_fresh, filled_put, take_linked, longer_or_same, more_linked}
use Rattle.node_pool.proofs.pool.Pool.take.Goals as goal

pub next_of-first-requires : goal.next_of-first-requires
next_of-first-requires g c =
    ap (λ x. is_some (value_of x)) (head_read c.args.self.now.cells.items c.args.self.now.free c.args.size c.index.result.now c.requires.some c.if-list-gt0.true c.index.ensures c.args.self.now.linked)
    ∙ head_free c.args.self.now.cells.items c.args.self.now.free c.args.size (free_list c.args.self.now.free (c.args.size - 1)).first c.requires.some c.if-list-gt0.true
    (omega arith) (omega arith) c.args.self.now.linked

pub fill-requires : goal.fill-requires
fill-requires g c =
    rw c.as_mut_slice.ensures.value
    (head_within c.args.self.now.cells.items c.args.self.now.free c.args.size c.requires.some c.if-list-gt0.true c.args.self.now.linked)

pub invariant_of-self-clause-linked : goal.invariant_of-self-clause-linked
invariant_of-self-clause-linked g c =
    take_linked c.args.self.now.cells c.as_mut_slice.result.now c.fill.new.cells c.args.self.now.free c.args.size c.next_of-first.result c.args.value
    c.requires.some (let h = c.before.before.fill.type_inv in omega arith) c.if-list-gt0.true c.as_mut_slice.ensures.value c.fill.auto.cells c.as_mut_slice.ensures.len
    (c.next_of-first.ensures ∙ ap next_free (head_read c.args.self.now.cells.items c.args.self.now.free c.args.size c.index.result.now c.requires.some c.if-list-gt0.true c.index.ensures c.args.self.now.linked))
    c.fill.ensures c.args.self.now.linked

pub returns-then-list-gt0-clause-ok : goal.returns-then-list-gt0-clause-ok
returns-then-list-gt0-clause-ok g c = record {
  fresh = λ k l h. head_fresh c.args.self.now.cells.items c.args.self.now.free c.args.size k c.requires.some c.if-list-gt0.true l h c.args.self.now.linked;
  filled = filled_put c.args.self.now.cells c.as_mut_slice.result.now c.fill.new.cells (free_list c.args.self.now.free (c.args.size - 1)).first c.args.size (Used c.args.value)
      c.as_mut_slice.ensures.value c.fill.auto.cells c.as_mut_slice.ensures.len c.fill.ensures;
}

pub invariant_of-self-2-clause-linked : goal.invariant_of-self-2-clause-linked
invariant_of-self-2-clause-linked g c =
    more_linked c.args.self.now.cells.items c.resize.new.self.items c.args.self.now.free
    (let m = longer_or_same (is_ok c.resize.result) (vec_len c.resize.new.self) (vec_len c.args.self.now.cells) c.args.size (c.resize.ensures.len ∙ ap (λ n. if is_ok c.resize.result then n + c.args.size else vec_len c.args.self.now.cells) c.len-len.ensures) in
    omega (arith, m, c.args.self.now.cells.ok.0, c.resize.new.self.ok.0))
    (λ k d l. c.resize.ensures.by_index.0 k d (omega arith) (omega arith)) c.args.self.now.linked
