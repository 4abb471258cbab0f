use Rattle.std.proofs.Common.{ℕ, ◌≡◌, ◌<◌, ◌∙◌, arith, sym, get_or, length, map}
use Rattle.std.proofs.lemmas.List.{ext_get_or, get_or-map, length-map}
use Rattle.ipv4_prefix.specs.LongestMatch.{longest_match}
use Rattle.array_bitmap.specs.{Image.cells_of, Image.rows_in, Words.answer_word}
use Rattle.array_bitmap.proofs.AnswerWords.{word_is}
use Rattle.array_bitmap.proofs.lanes.answer_words.Goals as goal

pub returns : goal.returns
returns g c =
    let xs = c.args.addrs.now in
    let ys = c.words_all.new.words in
    let f : ℕ → ℕ = λ addr. answer_word (longest_match addr (rows_in c.args.tree.now)) in
    let count : length ys ≡ length xs = omega (arith, c.words_all.ensures.count, c.requires.one_each) in
    ext_get_or 0 ys (map f xs) (count ∙ sym (length-map xs f))
    (λ j lt.
    let within : j < length xs = omega (arith, lt, count) in
    word_is (cells_of c.args.tree.now) c.requires.sound.cells (get_or xs j 0) (omega (arith, c.type_inv.addrs j)) (get_or ys j 0) (c.words_all.ensures.done j within)
    ∙ sym (get_or-map f xs j 0 0 within))
