use Rattle.std.proofs.Common.{◌∙◌, ap}
use Rattle.row_words.specs.Rows.{slot_word}
use Rattle.row_words.proofs.Marks.{word_found}
use Rattle.row_words.proofs.parts.answer_word.Goals as goal

pub returns : goal.returns
returns g c =
    let cells = c.args.cells.now in
    c.word_in.ensures ∙ ap (slot_word cells) c.lookup_word.ensures.word
    ∙ word_found cells c.args.addr c.args.image.now.rows c.requires.few c.requires.none c.requires.slots
