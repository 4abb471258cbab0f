use Rattle.std.proofs.Common.{◌≡◌, ◌-◌, ◌*◌, ◌∙◌, option_map, ap, sym, subst, arith}
use Rattle.array_bitmap.specs.{Words.word_entry, Words.shown, Cursor.IsFoundAt, Tree.block_at, Tree.word_at, Tree.entry_in, Image.cells_of}
use Rattle.array_bitmap.proofs.{EmptyBlocks.none_until_past, EmptyBlocks.none_until_next, ShortRows.nothing_shown}
use Rattle.array_bitmap.proofs.tree.Tree.find_at.Goals as goal

pub returns-in-Err-clause-found : goal.returns-in-Err-clause-found
returns-in-Err-clause-found g c =
    let t = cells_of c.args.self.now in
    let none = c.in-Err.ensures.none in
    let path = c.path_of-path.ensures.value ∙ ap (λ a. a * 4) c.addr.ensures.value in
    let len = c.from-len.ensures ∙ c.len.ensures.value in
    subst (IsFoundAt (entry_in t) c.args.at) (sym c.none_until-in-Err.ensures)
    (none_until_past t c.requires.cells c.args.at c.addr-in-Err.result c.in-Err.end c.first_past.result c.addr.ensures.valid c.addr-in-Err.ensures.value none.0 (omega (arith, none.1, c.addr.ensures.valid.short, len)) (omega (arith, none.0, none.1, len))
    (ap (λ p. block_at t p (c.in-Err.end - c.args.self.now.first)) (sym path) ∙ none.2) c.first_past.ensures)

pub returns-then-word-eq-NOTHING-clause-found : goal.returns-then-word-eq-NOTHING-clause-found
returns-then-word-eq-NOTHING-clause-found g c =
    let t = cells_of c.args.self.now in
    let path = c.path_of-path.ensures.value ∙ ap (λ a. a * 4) c.addr.ensures.value in
    let len = c.from-len.ensures ∙ c.len.ensures.value in
    let word : word_at t (c.args.at.addr * 4) c.args.at.len ≡ shown c.short_word-word.result =
    ap (λ p. word_at t p c.args.at.len) (sym path) ∙ ap (word_at t c.path_of-path.result) (sym len) ∙ c.short_word-word.ensures in
    subst (IsFoundAt (entry_in t) c.args.at) (sym c.none_until.ensures)
    (none_until_next t c.requires.cells c.args.at c.next_prefix.result (ap (option_map word_entry) (word ∙ nothing_shown c.short_word-word.result c.if-word-eq-NOTHING.true)) c.next_prefix.ensures)
