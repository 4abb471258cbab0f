-- Rows of an image without words, beside the rows of its table.
use Rattle.std.proofs.Common.{ℕ, ◌≡◌, ◌∙◌, true, List, [], ◌∷◌, length, map, not, replicate, Option, None, Some, Result, Ok, Err, OnOk, OnErr, option_map, refl, ap, sym, subst}
use Rattle.std.specs.FinMap.{put, is_sorted}
use Rattle.ipv4_prefix.specs.Prefix.{Prefix, prefix_cmp, prefix_eq}
use Rattle.network_model.specs.{Publication.Image, Publication.image_answer, Publication.with_rows, declared.route.Entry.Entry}
use Rattle.network_model.proofs.RowLaws.{map-put, with_rows-sorted}
use Rattle.array_bitmap.specs.Removal.{without_row}
use Rattle.c_interface.specs.{Rows.row_entry, Rows.answer_row, declared.row.Row.Row}
use Rattle.row_words.specs.Rows.{WordTable, with_marked, without_marked, word_or_none}
use Rattle.row_words.specs.declared.cells.Marked.{Marked}
use Rattle.row_words.proofs.Marks.{longest_under, filter_under, sorted_with}
use Rattle.lookup_calls.specs.{Kept.form_table, declared.kept.Form.Form, declared.kept.Form.TheVariants.Plain, declared.kept.Form.TheVariants.Words}
use Rattle.lookup_calls.specs.Rows.{answer_rows, answer_words, entry_answer, image_rows}
use Rattle.lookup_calls.specs.Tables.{no_word, wordless, wordless_rows, wordless_table, plain_rows}

-- rows of C without words are their entries without words
pub plain_are : (rows : List Row) → wordless_rows (map row_entry rows) ≡ plain_rows rows
plain_are [] = refl
plain_are (r ∷ rs) = λ i. ((row_entry r).0, wordless (row_entry r).1) ∷ plain_are rs i

-- rows that are set are set in the table
pub wordless_with : (rows table : List (Prefix × Entry)) → wordless_rows (with_rows rows table) ≡ with_marked (wordless_rows rows) (wordless_rows table)
wordless_with [] table = refl
wordless_with (r ∷ rs) table =
    wordless_with rs (put prefix_cmp r.0 r.1 table) ∙ ap (with_marked (wordless_rows rs)) (map-put prefix_cmp wordless r.0 r.1 table)

-- a row that is taken out is taken out of the table
pub wordless_without : (p : Prefix) (rows : List (Prefix × Entry)) → wordless_rows (without_row p rows) ≡ without_marked p (wordless_rows rows)
wordless_without p rows = sym (filter_under wordless (λ q. not (prefix_eq q p)) rows)

-- rows in order, set where there were none, are these rows
pub wordless_sorted : (rows : List (Prefix × Entry)) → is_sorted prefix_cmp rows ≡ true → with_marked (wordless_rows rows) [] ≡ wordless_rows rows
wordless_sorted rows sorted = sym (wordless_with rows []) ∙ ap wordless_rows (with_rows-sorted rows sorted)

-- ---- answers

entry_again : (o : Option (Prefix × Entry)) → option_map (λ (r : Prefix × Marked). (r.0, r.1.entry)) (option_map (λ (r : Prefix × Entry). (r.0, wordless r.1)) o) ≡ o
entry_again None = refl
entry_again (Some r) = refl

-- the entry that the table answers is that of the image
pub wordless_entry : (image : Image) (addr : ℕ) → entry_answer (wordless_table image) addr ≡ image_answer image addr
wordless_entry image addr = ap (option_map (λ (r : Prefix × Marked). (r.0, r.1.entry))) (longest_under wordless addr image.rows) ∙ entry_again (image_answer image addr)

-- so are those of many addresses
pub wordless_entries : (image : Image) (addrs : List ℕ) → image_rows image addrs ≡ answer_rows (wordless_table image) addrs
wordless_entries image [] = refl
wordless_entries image (addr ∷ addrs) = λ i. answer_row (sym (wordless_entry image addr) i) ∷ wordless_entries image addrs i

word_of_none : (o : Option (Prefix × Entry)) → no_word ≡ word_or_none (option_map (λ r. (r.0, wordless r.1)) o)
word_of_none None = refl
word_of_none (Some r) = refl

-- each word that it answers is that of a row without one
pub wordless_words : (image : Image) (addrs : List ℕ) → replicate (length addrs) no_word ≡ answer_words (wordless_table image) addrs
wordless_words image [] = refl
wordless_words image (addr ∷ addrs) = λ i. (word_of_none (image_answer image addr) ∙ ap word_or_none (sym (longest_under wordless addr image.rows))) i ∷ wordless_words image addrs i

-- ---- an image without words that is changed, and its table

-- rows in order stay so where rows are set, or where the call is refused
pub sorted_either : {X E : Type 0} (r : Result X E) (old new : Image) (rows : List (Prefix × Entry)) → OnOk r (new ≡ record { generation = old.generation; rows = with_rows rows old.rows }) → OnErr r (new ≡ old)
    → is_sorted prefix_cmp old.rows ≡ true → is_sorted prefix_cmp new.rows ≡ true
sorted_either (Ok x) old new rows ok err sorted =
    subst (λ (i : Image). is_sorted prefix_cmp i.rows ≡ true) (sym ok) (sorted_with rows old.rows sorted)
sorted_either (Err e) old new rows ok err sorted =
    subst (λ (i : Image). is_sorted prefix_cmp i.rows ≡ true) (sym err) sorted

module _ (form : Form) (image : Image) (table : WordTable) (is : form ≡ Plain image) (view : form_table form ≡ table) where
  pub its_table : wordless_table image ≡ table
  its_table = sym (ap form_table is) ∙ view

  pub set_in_table : (rows : List (Prefix × Entry)) (new : Image) → new ≡ record { generation = image.generation; rows = with_rows rows image.rows }
      → wordless_table new ≡ record { generation = table.generation; rows = with_marked (wordless_rows rows) table.rows }
  set_in_table rows new e =
      ap wordless_table e
      ∙ (λ i. record { generation = image.generation; rows = wordless_with rows image.rows i })
      ∙ ap (λ (t : WordTable). record { generation = t.generation; rows = with_marked (wordless_rows rows) t.rows }) its_table

  -- a row that is taken out of it
  pub out_of_table : (p : Prefix) (new : Image) → new ≡ record { generation = image.generation; rows = without_row p image.rows }
      → wordless_table new ≡ record { generation = table.generation; rows = without_marked p table.rows }
  out_of_table p new e =
      ap wordless_table e
      ∙ (λ i. record { generation = image.generation; rows = wordless_without p image.rows i })
      ∙ ap (λ (t : WordTable). record { generation = t.generation; rows = without_marked p t.rows }) its_table

pub words_table : (form : Form) (image table : WordTable) → form ≡ Words image → form_table form ≡ table → image ≡ table
words_table form image table is view = sym (ap form_table is) ∙ view
