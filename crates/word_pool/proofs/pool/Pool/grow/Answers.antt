use Rattle.std.proofs.Common.{arith, vec_len, refl, ap, ◌∙◌}
use Rattle.std.proofs.lemmas.Result.{MatchResult-from_err}
use Rattle.word_pool.specs.{Pool.blocks, Pool.spare, Layout.entry}
use Rattle.word_pool.proofs.Pools.{grow_laid, grow_taken, words_stay}
use Rattle.word_pool.proofs.pool.Pool.grow.Goals as goal

pub returns-in_err-make_room-clause-err : goal.returns-in_err-make_room-clause-err
unfolding blocks spare
returns-in_err-make_room-clause-err g c = MatchResult-from_err _ _ _ c.from_residual.ensures.0 (λ y. record {
  same = words_stay c.args.self.now.words.items c.make_room.new.words.items c.args.self.now.used.numbers c.args.self.now.used.numbers c.make_room.ensures.items refl;
  free = λ s. refl;
  count = c.make_room.ensures.len;
  no_less = omega (arith, c.make_room.ensures.capacity, c.make_room.ensures.len);
})

pub returns-in_err-resize-clause-err : goal.returns-in_err-resize-clause-err
unfolding blocks spare
returns-in_err-resize-clause-err g c = MatchResult-from_err _ _ _ c.from_residual-in_err-resize.ensures.0 (λ y. record {
  same = words_stay c.args.self.now.words.items c.resize.new.self.items c.args.self.now.used.numbers c.args.self.now.used.numbers (c.in_err-resize.ensures.items ∙ c.make_room.ensures.items) refl;
  free = λ s. refl;
  count = c.in_err-resize.ensures.len ∙ c.make_room.ensures.len;
  no_less = omega (arith, c.in_err-resize.ensures.capacity, c.in_err-resize.ensures.len, c.make_room.ensures.capacity, c.make_room.ensures.len);
})

pub invariant_of-self-2-clause-laid : goal.invariant_of-self-2-clause-laid
invariant_of-self-2-clause-laid g c =
    grow_laid c.args.self.now.words.items (vec_len c.args.self.now.words) c.args.self.now.free c.args.self.now.spare.numbers c.args.self.now.used.numbers c.args.self.now.laid
    c.resize.new.self.items c.len-len.result 128 c.len-len.ensures (omega arith) c.args.self.now.groups (λ k l. c.in_ok-resize.ensures.by_index.0 k 0 (omega arith) (omega (arith, l, c.make_room.ensures.len)) ∙ ap (λ xs. entry xs k) c.make_room.ensures.items)
    c.note.result.numbers c.note.ensures (vec_len c.resize.new.self) (omega (arith, c.in_ok-resize.ensures.len))

pub returns-clause-ok : goal.returns-clause-ok
unfolding blocks
returns-clause-ok g c =
    grow_taken c.args.self.now.words.items (vec_len c.args.self.now.words) c.args.self.now.free c.args.self.now.spare.numbers c.args.self.now.used.numbers c.args.self.now.laid
    c.resize.new.self.items c.len-len.result 128 c.len-len.ensures (omega arith) c.args.self.now.groups (λ k l. c.in_ok-resize.ensures.by_index.0 k 0 (omega arith) (omega (arith, l, c.make_room.ensures.len)) ∙ ap (λ xs. entry xs k) c.make_room.ensures.items)
    c.note.result.numbers c.note.ensures
