use Rattle.std.proofs.Common.{◌+◌, Some, arith}
use Rattle.node_pool.specs.Pool.{cell}
use Rattle.node_pool.proofs.Blocks.{used_within, taken_used, used_stays, used_apart, shifted_put, apart_from, grown_from, shift_linked}
use Rattle.node_pool.proofs.pool.Pool.grow.Goals as goal

pub shift-requires-clause-to_in : goal.shift-requires-clause-to_in
shift-requires-clause-to_in g c =
    let taken = c.in_ok-to.ensures.ok in
    rw c.as_mut_slice.ensures.value
    (used_within c.take.new.self.cells.items c.in_ok-to.to (c.args.size + 1) (omega arith)
    (taken_used (cell c.args.self.now) (cell c.take.new.self) c.in_ok-to.to (c.args.size + 1) c.args.value taken))

pub shift-requires-clause-from_in : goal.shift-requires-clause-from_in
shift-requires-clause-from_in g c =
    rw c.as_mut_slice.ensures.value
    (used_within c.take.new.self.cells.items c.args.base c.args.size c.if-size-gt0.true
    (used_stays (cell c.args.self.now) (cell c.take.new.self) c.args.base c.args.size c.in_ok-to.to (c.args.size + 1) c.args.value c.requires.used c.in_ok-to.ensures.ok))

pub shift-requires-clause-apart : goal.shift-requires-clause-apart
shift-requires-clause-apart g c =
    apart_from (cell c.args.self.now) (cell c.take.new.self) c.args.base c.args.size c.in_ok-to.to c.args.value c.if-size-gt0.true c.requires.used c.in_ok-to.ensures.ok

pub invariant_of-self-clause-linked : goal.invariant_of-self-clause-linked
invariant_of-self-clause-linked g c =
    shift_linked c.take.new.self.cells c.as_mut_slice.result.now c.shift.new.cells c.take.new.self.free c.args.base c.args.size c.args.gap c.args.value c.in_ok-to.to
    c.as_mut_slice.ensures.value c.shift.auto.cells c.as_mut_slice.ensures.len
    (taken_used (cell c.args.self.now) (cell c.take.new.self) c.in_ok-to.to (c.args.size + 1) c.args.value c.in_ok-to.ensures.ok)
    c.shift.ensures c.take.new.self.linked

pub give-requires-clause-used : goal.give-requires-clause-used
give-requires-clause-used g c =
    used_apart (cell c.take.new.self) _ c.args.base c.args.size c.args.gap (Some c.args.value) c.in_ok-to.to
    (apart_from (cell c.args.self.now) (cell c.take.new.self) c.args.base c.args.size c.in_ok-to.to c.args.value c.if-size-gt0.true c.requires.used c.in_ok-to.ensures.ok)
    (used_stays (cell c.args.self.now) (cell c.take.new.self) c.args.base c.args.size c.in_ok-to.to (c.args.size + 1) c.args.value c.requires.used c.in_ok-to.ensures.ok)
    (shifted_put c.take.new.self.cells c.as_mut_slice.result.now c.shift.new.cells c.args.base c.args.size c.args.gap c.args.value c.in_ok-to.to
    c.as_mut_slice.ensures.value c.shift.auto.cells c.as_mut_slice.ensures.len c.shift.ensures)

pub returns-then-size-gt0-clause-ok : goal.returns-then-size-gt0-clause-ok
returns-then-size-gt0-clause-ok g c =
    grown_from (cell c.args.self.now) (cell c.take.new.self) _ (cell c.give.new.self) c.args.base c.args.size c.args.gap c.args.value c.in_ok-to.to c.requires.gap_in
    (apart_from (cell c.args.self.now) (cell c.take.new.self) c.args.base c.args.size c.in_ok-to.to c.args.value c.if-size-gt0.true c.requires.used c.in_ok-to.ensures.ok)
    c.in_ok-to.ensures.ok
    (shifted_put c.take.new.self.cells c.as_mut_slice.result.now c.shift.new.cells c.args.base c.args.size c.args.gap c.args.value c.in_ok-to.to
    c.as_mut_slice.ensures.value c.shift.auto.cells c.as_mut_slice.ensures.len c.shift.ensures)
    c.give.ensures.freed
