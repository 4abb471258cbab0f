-- Rows of a tree by prefixes.
use Rattle.std.proofs.Common.{ℕ, ◌≡◌, ◌+◌, ◌-◌, ◌*◌, ◌/◌, ◌^◌, ◌≤◌, Bool, true, false, cond, Option, Some, None, arith, refl, sym, ap, subst, ◌∙◌, shr-shr, eq-eqb, eqb-true}
use mathlib.Core.Path.{fun_ext}
use Rattle.ipv4_prefix.specs.Prefix.{Prefix, IsPrefix, covers, prefix_eq}
use Rattle.ipv4_prefix.specs.{LongestMatch.IsLongestIn, Tables.table_rows}
use Rattle.ipv4_prefix.proofs.{PrefixOrder.prefix_eq-Decides, LongestMatches.covering_same}
use Rattle.network_model.specs.declared.route.Entry.{Entry}
use Rattle.tree_bitmap.specs.{Bits.path_top, Tree.path_entry, Tree.SetsRow, declared.node.Node.Node}
use Rattle.bitmaps.specs.Greatest.{GreatestBelow}
use Rattle.tree_bitmap.proofs.LongestRow.{row_covers}

-- the first bits of an address's path are those of the address
pub path_bits : (a len : ℕ) → len ≤ 32 → path_top (a * 16) len ≡ a / 2 ^ (32 - len)
path_bits a len h =
    let e : 4 + (32 - len) ≡ 36 - len = omega arith in
    let s : a * 16 / 2 ^ 4 ≡ a = omega arith in
    sym (shr-shr (a * 16) 4 (32 - len) ∙ ap (λ k. a * 16 / 2 ^ k) e) ∙ ap (λ x. x / 2 ^ (32 - len)) s

-- a prefix that covers an address has the same first bits
covering_bits : (p : Prefix) (addr : ℕ) → p.len ≤ 32 → covers p addr ≡ true → path_top (p.addr * 16) p.len ≡ path_top (addr * 16) p.len
covering_bits p addr short covered = path_bits p.addr p.len short ∙ eqb-true _ _ covered ∙ sym (path_bits addr p.len short)

module _ (nodes : ℕ → Option Node) (results : ℕ → Option Entry) where
  abbrev entry_at : Prefix → Option Entry
  entry_at p = path_entry nodes results (p.addr * 16) p.len

  -- the entry of a prefix that covers an address is a row of the address's path
  pub entry_on_path : (p : Prefix) (addr : ℕ) → IsPrefix p → covers p addr ≡ true → entry_at p ≡ path_entry nodes results (addr * 16) p.len
  entry_on_path p addr valid covered =
      let short = valid.short in
      row_covers nodes results (p.addr * 16) (addr * 16) p.len (omega (arith, short)) (covering_bits p addr short covered)

  -- the longest row of the path is the longest match
  pub longest_on_path : (addr len : ℕ) (entry : Entry) (p : Prefix) → IsPrefix p → p.len ≡ len → covers p addr ≡ true → GreatestBelow (path_entry nodes results (addr * 16)) 33 (Some (len, entry))
      → IsLongestIn entry_at addr (Some (p, entry))
  longest_on_path addr len entry p valid at covered best = (
    valid,
    covered,
    entry_on_path p addr valid covered ∙ ap (path_entry nodes results (addr * 16)) at ∙ best.1,
    λ q valid_q covered_q longer. let short = valid_q.short in entry_on_path q addr valid_q covered_q ∙ best.2 q.len (omega (arith, at, longer)) (omega (arith, short)),
  )

  -- where the path has no row, there is no match
  pub none_on_path : (addr : ℕ) → GreatestBelow (path_entry nodes results (addr * 16)) 33 None → IsLongestIn entry_at addr None
  none_on_path addr none = λ p valid covered. let short = valid.short in entry_on_path p addr valid covered ∙ none p.len (omega (arith, short))

-- where the row of a prefix's path was set, or taken out, the prefix has the entry, or none, and every other prefix the one it had
pub sets_entry : (old new : ℕ → ℕ → Option Entry) (q : Prefix) (entry : Option Entry) → IsPrefix q → SetsRow old new (q.addr * 16) q.len entry
    → (p : Prefix) → IsPrefix p → new (p.addr * 16) p.len ≡ cond (prefix_eq p q) entry (old (p.addr * 16) p.len)
sets_entry old new q entry valid_q sets p valid = by_test (prefix_eq p q) refl
  where
    same_bits : p.len ≡ q.len → path_top (p.addr * 16) p.len ≡ path_top (q.addr * 16) p.len → p ≡ q
    same_bits len bits =
        let short = valid.short in
        covering_same q.addr p q valid valid_q (eq-eqb _ _ (sym (path_bits p.addr p.len short) ∙ bits ∙ path_bits q.addr p.len short)) (eq-eqb _ _ refl) len

    by_test : (b : Bool) → prefix_eq p q ≡ b → new (p.addr * 16) p.len ≡ cond b entry (old (p.addr * 16) p.len)
    by_test true same =
        let e : p ≡ q = (prefix_eq-Decides p q).0 same in
        ap (λ x. new (x.addr * 16) x.len) e ∙ sets.hit (q.addr * 16) refl
    by_test false apart =
        let short = valid.short in
        let fits = valid.fits in
        sets.miss (p.addr * 16) p.len (omega (arith, fits)) (omega (arith, short))
        (λ len bits. absurd (cc (apart, (prefix_eq-Decides p q).1 (same_bits len (bits ∙ ap (λ k. path_top (q.addr * 16) k) refl)))))

-- the same, where the path and the length are those of the prefix
pub sets_entry_at : (old new : ℕ → ℕ → Option Entry) (q : Prefix) (entry : Option Entry) (path len : ℕ) → IsPrefix q → path ≡ q.addr * 16 → len ≡ q.len → SetsRow old new path len entry
    → (p : Prefix) → IsPrefix p → new (p.addr * 16) p.len ≡ cond (prefix_eq p q) entry (old (p.addr * 16) p.len)
sets_entry_at old new q entry path len valid at same sets =
    sets_entry old new q entry valid (subst (λ k. SetsRow old new (q.addr * 16) k entry) same (subst (λ x. SetsRow old new x len entry) at sets))

-- cells with the same contents have the same rows
pub same_rows_in : (N N' : ℕ → Option Node) (G G' : ℕ → Option Entry) → ((k : ℕ) → N' k ≡ N k) → ((k : ℕ) → G' k ≡ G k)
    → table_rows (λ p. path_entry N' G' (p.addr * 16) p.len) ≡ table_rows (λ p. path_entry N G (p.addr * 16) p.len)
same_rows_in N N' G G' same_nodes same_results =
    let nodes : N' ≡ N = fun_ext same_nodes in
    let results : G' ≡ G = fun_ext same_results in
    λ i. table_rows (λ (p : Prefix). path_entry (nodes i) (results i) (p.addr * 16) p.len)
