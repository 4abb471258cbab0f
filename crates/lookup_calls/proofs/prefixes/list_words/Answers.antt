use Rattle.std.proofs.Common.{rules, ◌≡◌, ◌+◌, ◌<◌, ◌∷◌, ◌∙◌, set, take, drop, arith, sym, ap, drop-set-lt}
use Rattle.std.proofs.lemmas.Grind.{drop_more_same}
use Rattle.array_bitmap.specs.Cursor.{rows_from, rows_onward}
use Rattle.lookup_calls.specs.Prefixes.{listed_row, listed_word}
use Rattle.lookup_calls.proofs.Listing.{filled_at_end, none_of_first, one_more_there, one_more_written, others_follow}
use Rattle.lookup_calls.proofs.prefixes.list_words.Goals as goal

pub returns-in_default-clause-rows : goal.returns-in_default-clause-rows
returns-in_default-clause-rows c =
    let l = c.loop-count in
    filled_at_end listed_row c.args.image.now.rows c.args.from c.args.rows.now l.rows l.count (omega (arith, l.invariant.within, l.invariant.room)) l.invariant.there l.invariant.first l.invariant.rest
    (sym l.invariant.others ∙ ap (λ o. rows_onward o c.args.image.now.rows) c.in_default.is)

pub returns-in_default-clause-words : goal.returns-in_default-clause-words
returns-in_default-clause-words c =
    let l = c.loop-count in
    filled_at_end listed_word c.args.image.now.rows c.args.from c.args.words.now l.words l.count (omega (arith, l.invariant.within, l.invariant.room, c.requires)) l.invariant.there l.invariant.first_words l.invariant.rest_words
    (sym l.invariant.others ∙ ap (λ o. rows_onward o c.args.image.now.rows) c.in_default.is)

pub returns-in_default-first_row_from-clause-rows : goal.returns-in_default-first_row_from-clause-rows
returns-in_default-first_row_from-clause-rows c =
    let l = c.loop-count in
    filled_at_end listed_row c.args.image.now.rows c.args.from c.args.rows.now l.rows l.count (omega (arith, l.invariant.within, l.invariant.room)) l.invariant.there l.invariant.first l.invariant.rest
    (sym l.invariant.others ∙ ap (λ o. rows_onward o c.args.image.now.rows) c.in-Some.is ∙ none_of_first (rows_from c.in-Some.start c.args.image.now.rows) (c.in_default-first_row_from.ensures.first))

pub returns-in_default-first_row_from-clause-words : goal.returns-in_default-first_row_from-clause-words
returns-in_default-first_row_from-clause-words c =
    let l = c.loop-count in
    filled_at_end listed_word c.args.image.now.rows c.args.from c.args.words.now l.words l.count (omega (arith, l.invariant.within, l.invariant.room, c.requires)) l.invariant.there l.invariant.first_words l.invariant.rest_words
    (sym l.invariant.others ∙ ap (λ o. rows_onward o c.args.image.now.rows) c.in-Some.is ∙ none_of_first (rows_from c.in-Some.start c.args.image.now.rows) (c.in_default-first_row_from.ensures.first))

pub loop-count-preserved : goal.loop-count-preserved
loop-count-preserved c =
    let l = c.loop-count in
    let rows = c.args.image.now.rows in
    let all = rows_onward c.args.from rows in
    let row = c.in-Some-first_row_from.one in
    let others = rows_onward c.next_prefix-at.result rows in
    let next : drop l.count all ≡ row ∷ others = sym l.invariant.others ∙ ap (λ o. rows_onward o rows) c.in-Some.is ∙ c.in-Some-first_row_from.ensures.head c.next_prefix-at.result c.next_prefix-at.ensures in
    let here : l.count < l.count + 1 = omega arith in
    record {
      room = search rules;
      as_many = search rules;
      within = search rules;
      there = one_more_there all row others l.count next;
      first = ap (λ x. take (l.count + 1) (set l.rows l.count x)) c.answer.ensures ∙ one_more_written all row others l.count next listed_row l.rows c.loop-count-test.true l.invariant.first;
      rest = drop-set-lt (l.count + 1) l.rows l.count c.answer.result here ∙ drop_more_same l.rows c.args.rows.now l.count l.invariant.rest;
      first_words = one_more_written all row others l.count next listed_word l.words (omega (arith, c.loop-count-test.true, l.invariant.as_many, l.invariant.room, c.requires)) l.invariant.first_words;
      rest_words = drop-set-lt (l.count + 1) l.words l.count row.1.word here ∙ drop_more_same l.words c.args.words.now l.count l.invariant.rest_words;
      others = others_follow all row others l.count next;
    }
