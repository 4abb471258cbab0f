use Rattle.std.proofs.Common.{rules, ◌≡◌, ◌∷◌, ◌∙◌, [], length, arith, ap, sym}
use Rattle.std.specs.FinMap.{put}
use Rattle.ipv4_prefix.specs.Prefix.{prefix_cmp}
use Rattle.array_bitmap.specs.Cursor.{rows_from, rows_onward}
use Rattle.row_words.specs.Rows.{WordTable, with_marked}
use Rattle.row_words.proofs.Marks.{from_first, none_of_first}
use Rattle.lookup_calls.specs.Tables.{wordless_rows}
use Rattle.lookup_calls.proofs.Wordless.{wordless_sorted}
use Rattle.lookup_calls.proofs.kept.make_words.Goals as goal

pub loop-cursor-init : goal.loop-cursor-init
loop-cursor-init c =
    let rows = c.args.image.now.rows in
    let none : (c.set_generation.new.self).rows ≡ [] = ap (λ (t : WordTable). t.rows) c.set_generation.ensures ∙ ap (λ (t : WordTable). t.rows) c.in_ok-words.ensures in
    record {
      generation = search rules;
      rows = ap (with_marked (wordless_rows (rows_from c.covering-first.result rows))) none
          ∙ ap (λ rs. with_marked (wordless_rows rs) []) (from_first c.covering-first.result rows c.covering-first.ensures.valid c.covering-first.ensures.len)
          ∙ wordless_sorted rows c.requires;
    }

pub loop-cursor-smaller : goal.loop-cursor-smaller
loop-cursor-smaller c =
    let rows = c.args.image.now.rows in
    let next : rows_onward c.loop-cursor.cursor rows ≡ c.in-Some-first_row_from.row ∷ rows_onward c.next_prefix-cursor.result rows =
    ap (λ o. rows_onward o rows) c.in-Some.is ∙ c.in-Some-first_row_from.ensures.head c.next_prefix-cursor.result c.next_prefix-cursor.ensures in
    omega (arith, ap length next)

pub loop-cursor-preserved : goal.loop-cursor-preserved
loop-cursor-preserved c =
    let l = c.loop-cursor in
    let rows = c.args.image.now.rows in
    let row = c.in-Some-first_row_from.row in
    let others = rows_onward c.next_prefix-cursor.result rows in
    let next : rows_onward l.cursor rows ≡ row ∷ others =
    ap (λ o. rows_onward o rows) c.in-Some.is ∙ c.in-Some-first_row_from.ensures.head c.next_prefix-cursor.result c.next_prefix-cursor.ensures in
    record {
      generation = ap (λ (t : WordTable). t.generation) c.in_ok-set_rows.ensures.ok ∙ l.invariant.generation;
      rows = ap (λ (t : WordTable). with_marked (wordless_rows others) t.rows) c.in_ok-set_rows.ensures.ok
          ∙ (λ i. with_marked (wordless_rows others) (put prefix_cmp row.0 (c.wordless.ensures i) (l.words).rows))
          ∙ ap (λ rs. with_marked (wordless_rows rs) (l.words).rows) (sym next)
          ∙ l.invariant.rows;
    }

pub returns-in_default-first_row_from : goal.returns-in_default-first_row_from
returns-in_default-first_row_from c =
    let l = c.loop-cursor in
    let rows = c.args.image.now.rows in
    let none = ap (λ o. rows_onward o rows) c.in-Some.is ∙ none_of_first (rows_from c.in-Some.at rows) (c.in_default-first_row_from.ensures.first) in
    λ i. record { generation = l.invariant.generation i; rows = (ap (λ rs. with_marked (wordless_rows rs) (l.words).rows) (sym none) ∙ l.invariant.rows) i }

pub returns : goal.returns
returns c =
    let l = c.loop-cursor in
    let rows = c.args.image.now.rows in
    let none : rows_onward l.cursor rows ≡ [] = ap (λ o. rows_onward o rows) c.in_default.is in
    λ i. record { generation = l.invariant.generation i; rows = (ap (λ rs. with_marked (wordless_rows rs) (l.words).rows) (sym none) ∙ l.invariant.rows) i }
