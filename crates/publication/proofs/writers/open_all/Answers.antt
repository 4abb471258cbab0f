use Rattle.std.proofs.Common.{rules, ◌≡◌, ◌∙◌, [], All, map, vec_len, length, ap, subst, sym, arith}
use Rattle.publication.specs.Lists.{EachAt, new_writing, no_patches}
use Rattle.publication.proofs.Places.{each-push, first_at, rest_all, rest_at}
use Rattle.publication.proofs.writers.open_all.Goals as goal

pub loop-image-init : goal.loop-image-init
loop-image-init g c =
    let items = c.into_iter-image-iterator.ensures.into_iter_gives.0 in (
      tt,
      tt,
      search rules,
      ap (map (λ i. i.rows)) items ∙ c.requires.rows,
      subst (All (λ i. i.generation ≡ 0)) (sym items) c.requires.generation,
      search rules,
      search rules,
      search rules,
      c.in-Ok.ensures.len,
      search rules,
      c.in-Ok.ensures.exact ∙ c.len.ensures,
      search rules,
      search rules,
    )

pub open-requires-clause-rows : goal.open-requires-clause-rows
open-requires-clause-rows g c =
    first_at c.loop-image.router g.B.FabricName.openings c.in-Some.image.rows [] _ (sym (ap (map (λ i. i.rows)) c.in-Some.ensures.steps.0) ∙ c.loop-image.invariant.3)

pub loop-image-preserved : goal.loop-image-preserved
loop-image-preserved g c =
    let v = c.loop-image.invariant in
    let router = c.loop-image.router in
    let step = c.in-Some.ensures.steps.0 in
    let writers = c.loop-image.writers.items in
    let lists = c.loop-image.lists.items in
    let written : length writers ≡ router = search rules in
    let listed : length lists ≡ router = search rules in
    let writer : c.in-Ok-open.writer ≡ new_writing (length writers) = c.in-Ok-open.ensures.writer ∙ ap new_writing (sym written) in (
      tt,
      tt,
      rest_at router g.B.FabricName.books c.in-Some-next.part _ (sym c.in-Some-next.ensures.items ∙ v.2),
      rest_at router g.B.FabricName.openings c.in-Some.image.rows _ (sym (ap (map (λ i. i.rows)) step) ∙ v.3),
      rest_all (λ i. i.generation ≡ 0) _ c.in-Some.image _ step v.4,
      search rules,
      search rules,
      search rules,
      search rules,
      search rules,
      search rules,
      subst (EachAt (λ k w. w ≡ new_writing k)) (sym c.push_reserved.ensures.items) (each-push (λ k w. w ≡ new_writing k) writers c.in-Ok-open.writer v.11 writer),
      subst (EachAt (λ k rs. (vec_len rs ≡ c.args.readers) × All (λ r. r ≡ no_patches k) rs.items)) (sym c.push_reserved-in-Ok-open.ensures.items)
          (each-push (λ k rs. (vec_len rs ≡ c.args.readers) × All (λ r. r ≡ no_patches k) rs.items) lists c.in-Ok-open.list v.12
          (subst (λ k. (vec_len c.in-Ok-open.list ≡ c.args.readers) × All (λ r. r ≡ no_patches k) c.in-Ok-open.list.items) (sym listed) (c.in-Ok-open.ensures.count, c.in-Ok-open.ensures.readers))),
    )

pub overflow_cast-router : goal.overflow_cast-router
overflow_cast-router g c = omega (arith, ap length c.in-Some.ensures.steps.0, c.loop-image.invariant.6, c.requires.few)
