use Rattle.std.proofs.Common.{◌∙◌, ap, map}
use Rattle.row_words.specs.Rows.{slot_word}
use Rattle.row_words.proofs.Marks.{words_found}
use Rattle.row_words.proofs.parts.answer_words.Goals as goal

pub returns : goal.returns
returns g c =
    c.read_words.ensures
    ∙ ap (map (slot_word c.args.cells.now)) c.lookup_words.ensures.words
    ∙ words_found c.args.cells.now c.args.image.now.rows c.requires.kept c.args.addrs.now
