use Rattle.std.proofs.Common.{◌≡◌, ◌≢◌, true, is_some, arith, ap, sym, ◌∙◌}
use Rattle.std.proofs.lemmas.Bool.{false≢true}
use Rattle.word_pool.specs.Pool.{blocks}
use Rattle.array_bitmap.proofs.PoolWords.{there, size_least, size_holds, size_some, twice_some, room_there, room_made}
use Rattle.array_bitmap.proofs.blocks.with_room.Goals as goal

pub returns-then-used-size-clause-ok : goal.returns-then-used-size-clause-ok
returns-then-used-size-clause-ok g c =
    room_there (blocks c.args.pool.now) c.args.block c.args.used c.requires.some c.requires.few c.requires.size (omega (arith, c.size_for-size.ensures, c.if-used-size.true))

pub take-requires : goal.take-requires
take-requires g c = rw c.size_for-size.ensures (twice_some c.args.used c.requires.few (omega (arith, c.size_for-size.ensures, c.if-used-size.false)))

pub copy_words-requires-clause-apart : goal.copy_words-requires-clause-apart
copy_words-requires-clause-apart g c e =
    let in_use : is_some (blocks c.args.pool.now c.args.block) ≡ true = there (blocks c.args.pool.now c.args.block) (omega (arith, c.requires.size, size_least c.args.used (omega (arith, c.requires.few)))) in
    false≢true (sym (ap is_some c.in_ok-wider.ensures.ok.fresh) ∙ ap (λ p. is_some (blocks c.args.pool.now p)) (sym e) ∙ in_use)

pub copy_words-requires-clause-enough : goal.copy_words-requires-clause-enough
copy_words-requires-clause-enough g c =
    let apart : c.args.block ≢ c.in_ok-wider.wider = λ e. false≢true (sym (ap is_some c.in_ok-wider.ensures.ok.fresh) ∙ ap (λ p. is_some (blocks c.args.pool.now p)) (sym e)
    ∙ there (blocks c.args.pool.now c.args.block) (omega (arith, c.requires.size, size_least c.args.used (omega (arith, c.requires.few))))) in
    rw (c.in_ok-wider.ensures.ok.others c.args.block apart) (omega (arith, c.requires.size, size_holds c.args.used (omega (arith, c.requires.few))))

pub copy_words-requires-clause-fits : goal.copy_words-requires-clause-fits
copy_words-requires-clause-fits g c =
    let sized = c.in_ok-wider.ensures.ok.sized in
    omega (arith, sized, c.size_for-size.ensures, size_holds c.args.used (omega (arith, c.requires.few)))

pub give-requires-clause-one_of_six : goal.give-requires-clause-one_of_six
give-requires-clause-one_of_six g c = rw c.size_for-size.ensures (size_some c.args.used (omega (arith, c.requires.few)))

pub returns-clause-ok : goal.returns-clause-ok
returns-clause-ok g c =
    room_made (blocks c.args.pool.now) (blocks c.take.new.self) (blocks c.copy_words.new.pool) (blocks c.give.new.self) c.args.block c.in_ok-wider.wider c.args.used c.size_for-size.result
    c.requires.few c.size_for-size.ensures c.if-used-size.false
    (there (blocks c.args.pool.now c.args.block) (omega (arith, c.requires.size, size_least c.args.used (omega (arith, c.requires.few)))))
    c.in_ok-wider.ensures.ok c.copy_words.ensures c.give.ensures.given
