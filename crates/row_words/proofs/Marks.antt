-- Rows whose values are changed, numbers of cells, and the cells that they name.
use Rattle.std.proofs.Common.{ℕ, ◌≡◌, ◌+◌, ◌*◌, ◌/◌, ◌%◌, ◌^◌, ◌<◌, ◌≤◌, ◌-◌, zero, suc, Bool, true, false, not, cond, nat_lt, List, [], ◌∷◌, ◌++◌, length, map, filter, get_or, Option, Some, None, IfSome, option_map, arith, refl, sym, ap, subst, ◌∙◌, append_assoc, length-append, append-nil, slice_get}
use Rattle.std.specs.{Ordering.is_lt, Ordering.nat_cmp, Ordering.ordering_then, Cmp.nat_cmp_is, declared.cmp.Ordering.TheVariants.Less, declared.cmp.Ordering.TheVariants.Equal, declared.cmp.Ordering.TheVariants.Greater, FinMap.put, FinMap.is_sorted, FinMap.Entries.by_order, FinMap.Entries.is_sorted-where_key}
use Rattle.std.proofs.{Math.ListN.get_or-append, lemmas.List.length-map, Math.Seq.get_or-append_seam, lemmas.Option.none-some}
use Rattle.ipv4_prefix.specs.Prefix.{Prefix, IsPrefix, covers, prefix_cmp, prefix_eq}
use Rattle.ipv4_prefix.specs.LongestMatch.{longest_match, longer_row}
use Rattle.ipv4_prefix.proofs.SortedRows.{to_T, from_T}
use Rattle.network_model.specs.{Publication.with_rows, declared.route.Entry.Entry}
use Rattle.network_model.proofs.RowLaws.{map-put, sorted-put, with_rows-sorted}
use Rattle.array_bitmap.specs.{Words.nothing, Words.row_word, Words.answer_word, Removal.without_row}
use Rattle.array_bitmap.specs.Cursor.{is_before, rows_from, rows_onward, first_row_from, IsHeadFrom}
use Rattle.array_bitmap.proofs.RowsFrom.{all_from}
use Rattle.row_words.specs.Rows.{slot_entry, slot_of, slot_word, no_mark, mark_in, marked, with_slots, with_marked, without_marked, word_or_none, IsSlot, AreSlots, AreKept}
use Rattle.row_words.specs.declared.cells.Marked.{Marked}

-- ---- rows whose values are changed

module _ {X Y : Type 0} (f : X → Y) where
  -- a row with its value changed
  abbrev pub under : Prefix × X → Prefix × Y
  under r = (r.0, f r.1)

  longer_under : (r : Prefix × X) (o : Option (Prefix × X)) → longer_row (under r) (option_map under o) ≡ option_map under (longer_row r o)
  longer_under r None = refl
  longer_under r (Some s) =
      elim (nat_lt (r.0).len (s.0).len) as (λ b. cond b (Some (under s)) (Some (under r)) ≡ option_map under (cond b (Some s) (Some r))) [ true ↦ refl | false ↦ refl ]

  -- the longest match is the same row, changed
  pub longest_under : (addr : ℕ) (rows : List (Prefix × X)) → longest_match addr (map under rows) ≡ option_map under (longest_match addr rows)
  longest_under addr [] = refl
  longest_under addr (r ∷ rs) =
      elim (covers r.0 addr) as (λ b. cond b (longer_row (under r) (longest_match addr (map under rs))) (longest_match addr (map under rs)) ≡ option_map under (cond b (longer_row r (longest_match addr rs)) (longest_match addr rs))) [
        | true ↦ ap (longer_row (under r)) (longest_under addr rs) ∙ longer_under r (longest_match addr rs)
        | false ↦ longest_under addr rs
      ]

  -- rows that are chosen by their prefixes are the same rows, changed
  pub filter_under : (t : Prefix → Bool) (rows : List (Prefix × X)) → filter (λ r. t r.0) (map under rows) ≡ map under (filter (λ r. t r.0) rows)
  filter_under t [] = refl
  filter_under t (r ∷ rs) =
      elim (t r.0) as (λ b. cond b (under r ∷ filter (λ s. t s.0) (map under rs)) (filter (λ s. t s.0) (map under rs)) ≡ map under (cond b (r ∷ filter (λ s. t s.0) rs) (filter (λ s. t s.0) rs))) [
        | true ↦ ap (λ xs. under r ∷ xs) (filter_under t rs)
        | false ↦ filter_under t rs
      ]

  -- so are the rows from a prefix on
  onward_under : (o : Option Prefix) (rows : List (Prefix × X)) → rows_onward o (map under rows) ≡ map under (rows_onward o rows)
  onward_under None rows = refl
  onward_under (Some at) rows = filter_under (λ q. not (is_before q at)) rows

  pub first_under : (at : Prefix) (rows : List (Prefix × X)) → first_row_from at (map under rows) ≡ option_map under (first_row_from at rows)
  first_under at rows = ap (λ rs. slice_get rs 0) (filter_under (λ q. not (is_before q at)) rows) ∙ head_map (rows_from at rows)
    where
      head_map : (rs : List (Prefix × X)) → slice_get (map under rs) 0 ≡ option_map under (slice_get rs 0)
      head_map [] = refl
      head_map (r ∷ rs) = refl

  -- and those that come after the first
  pub head_under : (at : Prefix) (rows : List (Prefix × X)) (o : Option (Prefix × X)) → IfSome o (IsHeadFrom at rows) → IfSome (option_map under o) (IsHeadFrom at (map under rows))
  head_under at rows None head = head
  head_under at rows (Some r) head = λ next is.
      filter_under (λ q. not (is_before q at)) rows ∙ ap (map under) (head next is) ∙ ap (λ rs. under r ∷ rs) (sym (onward_under next rows))

-- ---- numbers of cells

-- an entry says the number that it was made of
pub slot_number : (k : ℕ) → slot_of (slot_entry k) ≡ k
slot_number k = omega arith

-- numbers from one on are those of cells, if there are as many
pub slots_numbered : (n k : ℕ) (rows : List (Prefix × Marked)) → 0 < k → k + length rows ≤ n → AreSlots n (with_slots k rows)
slots_numbered n k [] real room = tt
slots_numbered n k (r ∷ rs) real room =
    let at = slot_number k in (
      record { real = omega (arith, at, real); within = omega (arith, at, room); is = ap slot_entry (sym at) },
      slots_numbered n (k + 1) rs (omega (arith, real)) (omega (arith, room)),
    )

module _ (n : ℕ) where
  slots_put : (p : Prefix) (v : Entry) (rows : List (Prefix × Entry)) → IsSlot n v → AreSlots n rows → AreSlots n (put prefix_cmp p v rows)
  slots_put p v [] slot all = (slot, tt)
  slots_put p v (r ∷ rs) slot all =
      elim (prefix_cmp p r.0) as (λ o. AreSlots n (by_order o ((p, v) ∷ r ∷ rs) ((r.0, v) ∷ rs) (r ∷ put prefix_cmp p v rs))) [
        | Less ↦ (slot, all)
        | Equal ↦ (slot, all.1)
        | Greater ↦ (all.0, slots_put p v rs slot all.1)
      ]

  -- rows stay such rows where such rows are set
  pub slots_with : (rows table : List (Prefix × Entry)) → AreSlots n rows → AreSlots n table → AreSlots n (with_rows rows table)
  slots_with [] table all stay = stay
  slots_with (r ∷ rs) table all stay = slots_with rs (put prefix_cmp r.0 r.1 table) all.1 (slots_put r.0 r.1 table all.0 stay)

  -- and where rows are left out
  pub slots_filter : (t : Prefix × Entry → Bool) (rows : List (Prefix × Entry)) → AreSlots n rows → AreSlots n (filter t rows)
  slots_filter t [] all = tt
  slots_filter t (r ∷ rs) all =
      elim (t r) as (λ b. AreSlots n (cond b (r ∷ filter t rs) (filter t rs))) [ true ↦ (all.0, slots_filter t rs all.1) | false ↦ slots_filter t rs all.1 ]

  longer_slot : (r : Prefix × Entry) (o : Option (Prefix × Entry)) → IsSlot n r.1 → IfSome o (λ s. IsSlot n s.1) → IfSome (longer_row r o) (λ s. IsSlot n s.1)
  longer_slot r None slot found = slot
  longer_slot r (Some s) slot found =
      elim (nat_lt (r.0).len (s.0).len) as (λ b. IfSome (cond b (Some s) (Some r)) (λ x. IsSlot n x.1)) [ true ↦ found | false ↦ slot ]

  -- the longest match is one of the rows
  pub longest_slot : (addr : ℕ) (rows : List (Prefix × Entry)) → AreSlots n rows → IfSome (longest_match addr rows) (λ r. IsSlot n r.1)
  longest_slot addr [] all = tt
  longest_slot addr (r ∷ rs) all =
      elim (covers r.0 addr) as (λ b. IfSome (cond b (longer_row r (longest_match addr rs)) (longest_match addr rs)) (λ s. IsSlot n s.1)) [
        | true ↦ longer_slot r (longest_match addr rs) all.0 (longest_slot addr rs all.1)
        | false ↦ longest_slot addr rs all.1
      ]

-- of more cells, too
pub slots_more : (n m : ℕ) (rows : List (Prefix × Entry)) → n ≤ m → AreSlots n rows → AreSlots m rows
slots_more n m [] more all = tt
slots_more n m (r ∷ rs) more all =
    let slot = all.0 in
    let within = slot.within in
    (record { real = slot.real; within = omega (arith, within, more); is = slot.is }, slots_more n m rs more all.1)

-- ---- the cells that rows name

-- cells that are put behind the others leave what rows stand for
pub marked_more : (cells more : List Marked) (rows : List (Prefix × Entry)) → AreSlots (length cells) rows → marked (cells ++ more) rows ≡ marked cells rows
marked_more cells more [] all = refl
marked_more cells more (r ∷ rs) all =
    let slot = all.0 in
    λ i. (r.0, get_or-append cells more no_mark (slot_of r.1) slot.within i) ∷ marked_more cells more rs all.1 i

-- the numbers of cells that are put behind the others stand for their rows
pub marked_numbered : (cells : List Marked) (rows : List (Prefix × Marked)) → marked (cells ++ map (λ r. r.1) rows) (with_slots (length cells) rows) ≡ rows
marked_numbered cells [] = refl
marked_numbered cells (r ∷ rs) =
    let more : List Marked = map (λ s. s.1) rs in
    let here : mark_in (cells ++ r.1 ∷ more) (slot_entry (length cells)) ≡ r.1 =
    ap (λ k. get_or (cells ++ r.1 ∷ more) k no_mark) (slot_number (length cells)) ∙ get_or-append_seam cells r.1 more no_mark in
    let many : length (cells ++ r.1 ∷ []) ≡ length cells + 1 = omega (arith, length-append cells (r.1 ∷ [])) in
    let rest : marked (cells ++ r.1 ∷ more) (with_slots (length cells + 1) rs) ≡ rs =
    ap (λ xs. marked xs (with_slots (length cells + 1) rs)) (sym (append_assoc cells (r.1 ∷ []) more))
    ∙ ap (λ n. marked ((cells ++ r.1 ∷ []) ++ more) (with_slots n rs)) (sym many)
    ∙ marked_numbered (cells ++ r.1 ∷ []) rs in
    λ i. (r.0, here i) ∷ rest i

module _ (cells : List Marked) where
  -- rows that are set are set for those for which they stand
  pub marked_with : (rows table : List (Prefix × Entry)) → marked cells (with_rows rows table) ≡ with_marked (marked cells rows) (marked cells table)
  marked_with [] table = refl
  marked_with (r ∷ rs) table =
      marked_with rs (put prefix_cmp r.0 r.1 table) ∙ ap (with_marked (marked cells rs)) (map-put prefix_cmp (mark_in cells) r.0 r.1 table)

  -- a row that is taken out is taken out of them
  pub marked_without : (p : Prefix) (rows : List (Prefix × Entry)) → marked cells (without_row p rows) ≡ without_marked p (marked cells rows)
  marked_without p rows = sym (filter_under (mark_in cells) (λ q. not (prefix_eq q p)) rows)

  -- rows in order, set where there were none, stand for the same rows
  pub marked_sorted : (rows : List (Prefix × Entry)) → is_sorted prefix_cmp rows ≡ true → with_marked (marked cells rows) [] ≡ marked cells rows
  marked_sorted rows sorted = sym (marked_with rows []) ∙ ap (marked cells) (with_rows-sorted rows sorted)

  -- the longest of them is that of the rows
  pub longest_marked : (addr : ℕ) (rows : List (Prefix × Entry)) → longest_match addr (marked cells rows) ≡ option_map (λ r. (r.0, mark_in cells r.1)) (longest_match addr rows)
  longest_marked addr rows = longest_under (mark_in cells) addr rows

  -- the word that an answer word names is that of the row that was found
  pub word_named : (found : Option (Prefix × Entry)) → length cells ≤ 2 ^ 24 → get_or cells 0 no_mark ≡ no_mark → IfSome found (λ r. IsSlot (length cells) r.1)
      → slot_word cells (answer_word found) ≡ word_or_none (option_map (λ r. (r.0, mark_in cells r.1)) found)
  word_named None few none slot =
      let zero_is : nothing % 2 ^ 24 ≡ 0 = omega arith in
      ap (λ k. (get_or cells k no_mark).word) zero_is ∙ ap (λ m. m.word) none
  word_named (Some r) few none slot =
      let within = slot.within in
      let s = slot_of r.1 in
      let last : row_word (r.0).len (slot_entry s) % 2 ^ 24 ≡ s = last_bits s (r.0).len (omega (arith, within, few)) in
      ap (λ k. (get_or cells k no_mark).word) (ap (λ e. row_word (r.0).len e % 2 ^ 24) slot.is ∙ last)
    where
      last_bits : (s len : ℕ) → s < 2 ^ 24 → (s % 2 ^ 16 + 2 ^ 16 * (s / 2 ^ 16) + 2 ^ 24 + 2 ^ 26 * len) % 2 ^ 24 ≡ s
      last_bits s len small = omega (arith, small)

  -- so the word of an address is that of its row
  pub word_found : (addr : ℕ) (rows : List (Prefix × Entry)) → length cells ≤ 2 ^ 24 → get_or cells 0 no_mark ≡ no_mark → AreSlots (length cells) rows
      → slot_word cells (answer_word (longest_match addr rows)) ≡ word_or_none (longest_match addr (marked cells rows))
  word_found addr rows few none slots =
      word_named (longest_match addr rows) few none (longest_slot (length cells) addr rows slots) ∙ ap word_or_none (sym (longest_marked addr rows))

-- ---- rows in order

-- rows that are set in order leave rows in order
pub sorted_with : (rows table : List (Prefix × Entry)) → is_sorted prefix_cmp table ≡ true → is_sorted prefix_cmp (with_rows rows table) ≡ true
sorted_with [] table sorted = sorted
sorted_with (r ∷ rs) table sorted = sorted_with rs (put prefix_cmp r.0 r.1 table) (sorted-put table r.0 r.1 sorted)

-- so does one that is taken out
pub sorted_without : (p : Prefix) (rows : List (Prefix × Entry)) → is_sorted prefix_cmp rows ≡ true → is_sorted prefix_cmp (without_row p rows) ≡ true
sorted_without p rows sorted = from_T _ (is_sorted-where_key prefix_cmp (λ q. not (prefix_eq q p)) rows (to_T _ sorted))

above_zero : (n : ℕ) → nat_cmp (suc n) 0 ≡ Greater
above_zero n = sym (nat_cmp_is (suc n) 0 Greater (omega arith))

before_zero : (a l : ℕ) → is_before (record { addr = a; len = l }) (record { addr = 0; len = 0 }) ≡ false
before_zero zero zero = refl
before_zero zero (suc l) = ap (λ o. is_lt (ordering_then Equal o)) (above_zero l)
before_zero (suc a) l = ap (λ o. is_lt (ordering_then o (nat_cmp l 0))) (above_zero a)

-- from the first prefix on there are all rows
pub from_first : {X : Type 0} (p : Prefix) (rows : List (Prefix × X)) → IsPrefix p → p.len ≡ 0 → rows_from p rows ≡ rows
from_first p rows valid none =
    let fits = valid.fits in
    let bits : p.addr % 2 ^ (32 - 0) ≡ 0 = subst (λ n. p.addr % 2 ^ (32 - n) ≡ 0) none valid.no_host_bits in
    let zero_is : p.addr ≡ 0 = omega (arith, bits, fits) in
    let first : p ≡ record { addr = 0; len = 0 } = λ i. record { addr = zero_is i; len = none i } in
    ap (λ q. rows_from q rows) first ∙ all_from (record { addr = 0; len = 0 }) rows (λ r is_row. before_zero (r.0).addr (r.0).len)

-- ---- what is kept, as a whole

-- where there are no rows
pub kept_first : AreKept [] (no_mark ∷ [])
kept_first = record { slots = tt; some = omega arith; few = omega arith; none = refl; sorted = refl }

module _ (cells : List Marked) (rows : List (Prefix × Marked)) (table : List (Prefix × Entry)) (kept : AreKept table cells) where
  many_cells : length (cells ++ map (λ r. r.1) rows) ≡ length cells + length rows
  many_cells = length-append cells (map (λ r. r.1) rows) ∙ ap (λ n. length cells + n) (length-map rows (λ r. r.1))

  -- where rows are set by the numbers of new cells
  pub kept_set : length cells + length rows < 2 ^ 24 → AreKept (with_rows (with_slots (length cells) rows) table) (cells ++ map (λ r. r.1) rows)
  kept_set room =
      let some = kept.some in
      let n = length (cells ++ map (λ r. r.1) rows) in record {
        slots = slots_with n (with_slots (length cells) rows) table (slots_numbered n (length cells) rows some (omega (arith, many_cells)))
            (slots_more (length cells) n table (omega (arith, many_cells)) kept.slots);
        some = omega (arith, many_cells, some);
        few = omega (arith, many_cells, room);
        none = get_or-append cells (map (λ r. r.1) rows) no_mark 0 some ∙ kept.none;
        sorted = sorted_with (with_slots (length cells) rows) table kept.sorted;
      }

  -- they stand for the rows, set over those from before
  pub marked_set : marked (cells ++ map (λ r. r.1) rows) (with_rows (with_slots (length cells) rows) table) ≡ with_marked rows (marked cells table)
  marked_set =
      let all = cells ++ map (λ r. r.1) rows in
      marked_with all (with_slots (length cells) rows) table
      ∙ ap (λ rs. with_marked rs (marked all table)) (marked_numbered cells rows)
      ∙ ap (with_marked rows) (marked_more cells (map (λ r. r.1) rows) table kept.slots)

-- where a row is taken out
pub kept_without : (p : Prefix) (table : List (Prefix × Entry)) (cells : List Marked) → AreKept table cells → AreKept (without_row p table) cells
kept_without p table cells kept = record {
  slots = slots_filter (length cells) (λ r. not (prefix_eq r.0 p)) table kept.slots;
  some = kept.some;
  few = kept.few;
  none = kept.none;
  sorted = sorted_without p table kept.sorted;
}

-- the words of many addresses are those of their rows
pub words_found : (cells : List Marked) (rows : List (Prefix × Entry)) → AreKept rows cells → (addrs : List ℕ)
    → map (slot_word cells) (map (λ addr. answer_word (longest_match addr rows)) addrs) ≡ map (λ addr. word_or_none (longest_match addr (marked cells rows))) addrs
words_found cells rows kept [] = refl
words_found cells rows kept (addr ∷ addrs) = λ i. word_found cells addr rows kept.few kept.none kept.slots i ∷ words_found cells rows kept addrs i

-- their rows stand for those of the table
pub rows_found : (cells : List Marked) (rows : List (Prefix × Entry)) (addrs : List ℕ)
    → map (option_map (λ r. (r.0, mark_in cells r.1))) (map (λ addr. longest_match addr rows) addrs) ≡ map (λ addr. longest_match addr (marked cells rows)) addrs
rows_found cells rows [] = refl
rows_found cells rows (addr ∷ addrs) = λ i. sym (longest_marked cells addr rows) i ∷ rows_found cells rows addrs i

-- ---- rows that are listed

pub none_of_first : {X : Type 0} (rows : List (Prefix × X)) → None ≡ slice_get rows 0 → rows ≡ []
none_of_first [] none = refl
none_of_first (row ∷ rows) none = absurd (none-some row none)

module _ (cells : List Marked) (items all : List (Prefix × Marked)) (left : List (Prefix × Entry)) (listed : items ++ marked cells left ≡ all) where
  -- where none is left, all are listed
  pub listed_all : left ≡ [] → items ≡ all
  listed_all none = sym (append-nil items) ∙ ap (λ rs. items ++ marked cells rs) (sym none) ∙ listed

  pub listed_more : (row : Prefix × Entry) (others : List (Prefix × Entry)) (x : Marked) → left ≡ row ∷ others → x ≡ mark_in cells row.1 → (items ++ (row.0, x) ∷ []) ++ marked cells others ≡ all
  listed_more row others x next is =
      append_assoc items ((row.0, x) ∷ []) (marked cells others)
      ∙ (λ i. items ++ (row.0, is i) ∷ marked cells others)
      ∙ ap (λ rs. items ++ marked cells rs) (sym next)
      ∙ listed
