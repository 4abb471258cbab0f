-- Rows of an image by prefixes.
use Rattle.std.specs.{FinMap.find as row_of, FinMap.Entries.is_sorted-where_key, FinMap.Entries.find-where_key}
use Rattle.std.proofs.Common.{ℕ, ◌≡◌, ◌≢◌, inl, inr, ◌+◌, ◌-◌, ◌*◌, ◌/◌, ◌^◌, ◌<◌, ◌≤◌, Bool, true, false, cond, not, Option, Some, None, is_some, option_map, arith, refl, sym, ap, subst, ◌∙◌, shr-shr}
use Rattle.std.proofs.lemmas.Bool.{eq-eqb, eqb-true, cases_lt}
use Rattle.ipv4_prefix.specs.Prefix.{Prefix, IsPrefix, covers, prefix_cmp, prefix_eq}
use Rattle.ipv4_prefix.specs.{LongestMatch.IsLongestIn, Tables.table_rows}
use Rattle.ipv4_prefix.proofs.{PrefixOrder.prefix_eq-Decides, PrefixOrder.prefix_cmp-tied, LongestMatches.covering_same}
use Rattle.ipv4_prefix.proofs.TableRows.{table_rows-sorted, table_rows_unique, row_of-table, row_of-unwritable}
use Rattle.array_bitmap.specs.{Removal.without_row, Blocks.row_in}
use Rattle.network_model.specs.declared.route.Entry.{Entry}
use Rattle.array_bitmap.specs.Bits.{depth_of, five_bits, path_start, row_bit, level_of, more_of}
use Rattle.array_bitmap.specs.Words.{nothing, word_entry, len_of, found}
use Rattle.bitmaps.specs.Greatest.{GreatestBelow}
use Rattle.array_bitmap.specs.Tree.{Cells, words_at, block_at, word_at, row_at, entry_in, SetsWord}
use Rattle.array_bitmap.proofs.{PathBits.parts_from_first, Walks.word-short, Walks.word_in, Walks.block-same, ShortRows.short_same, ShortRows.nothing_found, ShortRows.some_found}

-- the first bits of an address's path are those of the address
pub path_bits : (a len : ℕ) → len ≤ 32 → path_start (a * 4) len ≡ a / 2 ^ (32 - len)
path_bits a len h =
    let e : 2 + (32 - len) ≡ 34 - len = omega arith in
    let s : a * 4 / 2 ^ 2 ≡ a = omega arith in
    sym (shr-shr (a * 4) 2 (32 - len) ∙ ap (λ k. a * 4 / 2 ^ k) e) ∙ ap (λ x. x / 2 ^ (32 - len)) s

-- a prefix that covers an address has the same first bits
covering_bits : (p : Prefix) (addr : ℕ) → p.len ≤ 32 → covers p addr ≡ true → path_start (p.addr * 4) p.len ≡ path_start (addr * 4) p.len
covering_bits p addr short covered = path_bits p.addr p.len short ∙ eqb-true _ _ covered ∙ sym (path_bits addr p.len short)

module _ (c : Cells) where
  -- a word goes by the first bits alone
  pub word_covers : (p q len : ℕ) → len ≤ 34 → path_start p len ≡ path_start q len → word_at c p len ≡ word_at c q len
  word_covers p q len h e = elim (cases_lt (depth_of c.first) len) [
    | inl long ↦
        let on : c.first + (level_of len - c.first) ≡ level_of len = omega (arith, long) in
        let whole : len ≡ depth_of (c.first + (level_of len - c.first)) + (more_of len + 1) = omega (arith, long) in
        subst (λ n. word_at c p n ≡ word_at c q n) (sym whole)
        (by_parts (level_of len - c.first) (more_of len) (omega (arith, on, h)) (omega arith) (subst (λ n. path_start p n ≡ path_start q n) whole e))
    | inr low ↦ word-short c p len low ∙ short_same c p q len e ∙ sym (word-short c q len low)
  ]
    where
      by_parts : (steps more : ℕ) → c.first + steps ≤ 5 → more < 5 → path_start p (depth_of (c.first + steps) + (more + 1)) ≡ path_start q (depth_of (c.first + steps) + (more + 1))
          → word_at c p (depth_of (c.first + steps) + (more + 1)) ≡ word_at c q (depth_of (c.first + steps) + (more + 1))
      by_parts steps more deep few same =
          let parts = parts_from_first p q (c.first + steps) more deep few same in
          word_in c p steps more few
          ∙ ap (λ b. row_in (words_at c b) (row_bit (five_bits p (c.first + steps)) more)) (block-same c p q steps (omega (arith, deep)) parts.0)
          ∙ ap (λ x. row_in (words_at c (block_at c q steps)) (2 ^ (more + 1) - 2 + x)) parts.1
          ∙ sym (word_in c q steps more few)

  -- the entry of a prefix that covers an address is a row of the address's path
  pub entry_on_path : (p : Prefix) (addr : ℕ) → IsPrefix p → covers p addr ≡ true → entry_in c p ≡ row_at c (addr * 4) p.len
  entry_on_path p addr valid covered =
      let short = valid.short in
      ap (option_map word_entry) (word_covers (p.addr * 4) (addr * 4) p.len (omega (arith, short)) (covering_bits p addr short covered))

  -- the longest row of the path is the longest match
  pub longest_on_path : (addr word : ℕ) (p : Prefix) → word ≢ nothing → IsPrefix p → p.len ≡ len_of word → covers p addr ≡ true → GreatestBelow (word_at c (addr * 4)) 33 (found word)
      → IsLongestIn (entry_in c) addr (Some (p, word_entry word))
  longest_on_path addr word p some valid at covered best =
      let g = subst (GreatestBelow (word_at c (addr * 4)) 33) (some_found word some) best in (
        valid,
        covered,
        entry_on_path p addr valid covered ∙ ap (row_at c (addr * 4)) at ∙ ap (option_map word_entry) g.1,
        λ q valid_q covered_q longer. let short = valid_q.short in
            entry_on_path q addr valid_q covered_q ∙ ap (option_map word_entry) (g.2 q.len (omega (arith, at, longer)) (omega (arith, short))),
      )

  -- where the path has no row, there is no match
  pub none_on_path : (addr word : ℕ) → word ≡ nothing → GreatestBelow (word_at c (addr * 4)) 33 (found word) → IsLongestIn (entry_in c) addr None
  none_on_path addr word e best =
      let g = subst (GreatestBelow (word_at c (addr * 4)) 33) (nothing_found word e) best in
      λ p valid covered. let short = valid.short in entry_on_path p addr valid covered ∙ ap (option_map word_entry) (g p.len (omega (arith, short)))

-- where the word of a prefix's path was set, or taken out, the prefix has its entry, or none, and every other prefix the one it had
pub sets_entry : (old new : ℕ → ℕ → Option ℕ) (q : Prefix) (word : Option ℕ) (path len : ℕ) → IsPrefix q → path ≡ q.addr * 4 → len ≡ q.len → SetsWord old new path len word
    → (p : Prefix) → IsPrefix p → option_map word_entry (new (p.addr * 4) p.len) ≡ cond (prefix_eq p q) (option_map word_entry word) (option_map word_entry (old (p.addr * 4) p.len))
sets_entry old new q word path len valid_q is_path is_len given p valid = by_test (prefix_eq p q) refl
  where
    sets : SetsWord old new (q.addr * 4) q.len word
    sets = subst (λ k. SetsWord old new (q.addr * 4) k word) is_len (subst (λ x. SetsWord old new x len word) is_path given)

    same_bits : p.len ≡ q.len → path_start (p.addr * 4) p.len ≡ path_start (q.addr * 4) p.len → p ≡ q
    same_bits len bits =
        let short = valid.short in
        covering_same q.addr p q valid valid_q (eq-eqb _ _ (sym (path_bits p.addr p.len short) ∙ bits ∙ path_bits q.addr p.len short)) (eq-eqb _ _ refl) len

    by_test : (b : Bool) → prefix_eq p q ≡ b → option_map word_entry (new (p.addr * 4) p.len) ≡ cond b (option_map word_entry word) (option_map word_entry (old (p.addr * 4) p.len))
    by_test true same =
        let e : p ≡ q = (prefix_eq-Decides p q).0 same in
        ap (λ x. option_map word_entry (new (x.addr * 4) x.len)) e ∙ ap (option_map word_entry) (sets.hit (q.addr * 4) refl)
    by_test false apart =
        let short = valid.short in
        let fits = valid.fits in
        ap (option_map word_entry) (sets.miss (p.addr * 4) p.len (omega (arith, fits)) short
        (λ len bits. absurd (cc (apart, (prefix_eq-Decides p q).1 (same_bits len bits)))))

-- ---- a row taken out

-- the rows of a table in which one entry was taken out are its rows without that one
pub table_rows-without : (entry : Prefix → Option Entry) (p : Prefix) (after : Prefix → Option Entry) → ((q : Prefix) → IsPrefix q → after q ≡ cond (prefix_eq q p) None (entry q))
    → table_rows after ≡ without_row p (table_rows entry)
table_rows-without entry p after taken =
    table_rows_unique after (without_row p (table_rows entry)) (is_sorted-where_key prefix_cmp (λ q. not (prefix_eq q p)) (table_rows entry) (table_rows-sorted entry))
    (λ q h. found' q ∙ ap (cond (prefix_eq q p) None) (row_of-unwritable entry q h) ∙ either (prefix_eq q p))
    (λ q valid. found' q ∙ ap (cond (prefix_eq q p) None) (row_of-table entry q valid) ∙ sym (taken q valid))
  where
    turned : (b : Bool) (o : Option Entry) → cond (not b) o None ≡ cond b None o
    turned true o = refl
    turned false o = refl

    either : (b : Bool) → cond {A = Option Entry} b None None ≡ None
    either true = refl
    either false = refl

    found' : (q : Prefix) → row_of prefix_cmp q (without_row p (table_rows entry)) ≡ cond (prefix_eq q p) None (row_of prefix_cmp q (table_rows entry))
    found' q = find-where_key prefix_cmp (λ x. not (prefix_eq x p)) q (λ x tied. ap (λ y. not (prefix_eq y p)) (sym (prefix_cmp-tied q x tied))) (table_rows entry)
        ∙ turned (prefix_eq q p) (row_of prefix_cmp q (table_rows entry))

-- a word shows whether there is an entry
pub is_some-map : (o : Option ℕ) → is_some (option_map word_entry o) ≡ is_some o
is_some-map None = refl
is_some-map (Some w) = refl
