use Rattle.std.proofs.Common.{arith}
use Rattle.texts.proofs.WordCuts.{IsCut, words-first, words-one}
use Rattle.texts.proofs.words.first_word.Goals as goal

pub returns : goal.returns
returns c =
    let cut : IsCut c.args.line.now c.split_once.result = c.split_once.ensures.byte (omega arith) (λ w o finds. finds) in
    record { some = words-first c.args.line.now c.split_once.result cut; none = words-one c.args.line.now c.split_once.result cut }
