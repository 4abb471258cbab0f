use Rattle.std.proofs.Common.{rules, arith, ◌≡◌, ◌≤◌, ◌+◌, ◌^◌, true, false, nat_lt, length, take, take_all, refl, sym, ap, subst, ◌∙◌}
use Rattle.network_model.specs.Step.{changed_rows, is_due}
use Rattle.single_router.specs.Publishing.{has_more, rows_given, IsWrittenOver}
use Rattle.single_router.proofs.single.SingleRouter.publish.Goals as goal

pub returns-clause-ok : goal.returns-clause-ok
returns-clause-ok c =
    let r = c.args.self.now.router in
    let n = length c.args.rows.now in
    let count : c.counts-count.result.changed ≡ length (changed_rows r.table) = ap (λ counts. counts.changed) c.counts-count.ensures in
    let more : has_more n r ≡ false = search rules in
    let due : is_due r ≡ true = search rules in
    let number : nat_lt (r.generation + 1) (2 ^ 64) ≡ true = search rules in
    let fits : length (changed_rows r.table) ≤ n = omega (arith, count) in
    let all : rows_given n r ≡ changed_rows r.table = take_all n (changed_rows r.table) fits in
    let changed : c.changed.result ≡ changed_rows r.table = search rules in (
      rw (more, due, number) refl,
      count ∙ sym (ap length all),
      sym more,
      subst (λ xs. IsWrittenOver (take n xs) c.args.rows.now c.write_changed.new.rows) changed c.write_changed.ensures.written,
    )

pub returns-then-rows-count-clause-published : goal.returns-then-rows-count-clause-published
returns-then-rows-count-clause-published c = search rules

pub returns-then-not-due-clause-published : goal.returns-then-not-due-clause-published
returns-then-not-due-clause-published c = search rules

pub returns-then-generation-clause-published : goal.returns-then-generation-clause-published
returns-then-generation-clause-published c = search rules

pub returns-clause-published : goal.returns-clause-published
returns-clause-published c = search rules
