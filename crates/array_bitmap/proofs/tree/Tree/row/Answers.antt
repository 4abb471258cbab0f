use Rattle.std.proofs.Common.{ℕ, ◌≡◌, ◌≢◌, ◌*◌, ◌∙◌, Some, option_map, ap, sym}
use Rattle.std.proofs.lemmas.Bool.{cond-false, ne_eqb}
use Rattle.ipv4_prefix.proofs.TableRows.{row_of-table}
use Rattle.array_bitmap.specs.{Words.word_entry, Words.shown, Words.nothing, Tree.word_at, Tree.entry_in, Image.cells_of}
use Rattle.array_bitmap.proofs.{Refusals.no_word_below, ShortRows.nothing_shown}
use Rattle.array_bitmap.proofs.tree.Tree.row.Goals as goal

-- a word that is that of a row
other_shown : (w : ℕ) → w ≢ nothing → shown w ≡ Some w
other_shown w n = cond-false _ _ _ (ne_eqb w nothing n)

pub returns-in-Err : goal.returns-in-Err
returns-in-Err g c =
    let t = cells_of c.args.self.now in
    let none = c.in-Err.ensures.none in
    let path = c.path_of.ensures.value ∙ ap (λ a. a * 4) c.addr.ensures.value in
    let len = c.from.ensures ∙ c.len.ensures.value in
    sym (row_of-table (entry_in t) c.args.prefix c.addr.ensures.valid
    ∙ ap (option_map word_entry)
    (ap (λ p. word_at (cells_of c.args.self.now) p c.args.prefix.len) (sym path) ∙ ap (word_at (cells_of c.args.self.now) c.path_of.result) (sym len)
    ∙ no_word_below (cells_of c.args.self.now) c.requires.cells c.path_of.result c.from.result c.in-Err._end none.0 none.2 none.3))

pub returns-then-word-eq-NOTHING : goal.returns-then-word-eq-NOTHING
returns-then-word-eq-NOTHING g c =
    let t = cells_of c.args.self.now in
    let path = c.path_of.ensures.value ∙ ap (λ a. a * 4) c.addr.ensures.value in
    let len = c.from.ensures ∙ c.len.ensures.value in
    sym (row_of-table (entry_in t) c.args.prefix c.addr.ensures.valid
    ∙ ap (option_map word_entry)
    (ap (λ p. word_at (cells_of c.args.self.now) p c.args.prefix.len) (sym path) ∙ ap (word_at (cells_of c.args.self.now) c.path_of.result) (sym len)
    ∙ c.in-Ok.ensures.word ∙ nothing_shown c.in-Ok.word c.if-word-eq-NOTHING.true))

pub returns : goal.returns
returns g c =
    let t = cells_of c.args.self.now in
    let path = c.path_of.ensures.value ∙ ap (λ a. a * 4) c.addr.ensures.value in
    let len = c.from.ensures ∙ c.len.ensures.value in
    ap Some c.entry_of.ensures
    ∙ sym (row_of-table (entry_in t) c.args.prefix c.addr.ensures.valid
    ∙ ap (option_map word_entry)
    (ap (λ p. word_at (cells_of c.args.self.now) p c.args.prefix.len) (sym path) ∙ ap (word_at (cells_of c.args.self.now) c.path_of.result) (sym len)
    ∙ c.in-Ok.ensures.word ∙ other_shown c.in-Ok.word c.if-word-eq-NOTHING.false))
