-- Rows as a table: the entry of each prefix, and the longest match by those entries.
use Rattle.std.proofs.Common.{refl, sym, ap, subst, ◌∙◌, arith, inl, inr, ◌≡◌, ℕ, Bool, true, false, cond, List, [], ◌∷◌, Option, Some, None, Contains}
use Rattle.std.specs.FinMap.{find as row_of}
use Rattle.std.proofs.{lemmas.Bool.cases_lt, lemmas.Option.same_Some, lemmas.Option.none-some, lemmas.List.Elements.All-contains}
use Rattle.ipv4_prefix.specs.Prefix.{Prefix, IsPrefix, prefix_cmp, prefix_eq}
use Rattle.ipv4_prefix.specs.LongestMatch.{longest_match, IsLongestIn, HasDistinctPrefixes, HasWritablePrefixes}
use Rattle.ipv4_prefix.proofs.PrefixOrder.{prefix_eq-Decides}
use Rattle.ipv4_prefix.proofs.LongestMatches.{Contains-first, Contains-later, Contains-cases, same_row, longest_match-found, longest_match-longest}

module _ {X : Type 0} where
  -- what is found for a prefix is in one of its rows
  pub row_of-Contains : (p : Prefix) (e : X) (rows : List (Prefix × X)) → row_of prefix_cmp p rows ≡ Some e → Contains rows (p, e)
  row_of-Contains p e [] is = absurd (none-some e is)
  row_of-Contains p e (r ∷ rows) is = by_test (prefix_eq p r.0) refl is (row_of-Contains p e rows)
    where
      by_test : (b : Bool) → prefix_eq p r.0 ≡ b → cond b (Some r.1) (row_of prefix_cmp p rows) ≡ Some e → (row_of prefix_cmp p rows ≡ Some e → Contains rows (p, e)) → Contains (r ∷ rows) (p, e)
      by_test true same is rest = subst (Contains (r ∷ rows)) (λ i. (sym ((prefix_eq-Decides p r.0).0 same) i, same_Some _ _ is i)) (Contains-first r rows)
      by_test false apart is rest = Contains-later r rows (p, e) (rest is)

  -- where a prefix has a row, one is found
  pub row_found : (r : Prefix × X) (rows : List (Prefix × X)) → Contains rows r → (e : X) × (row_of prefix_cmp r.0 rows ≡ Some e)
  row_found r [] h = absurd (omega (arith, h.1))
  row_found r (s ∷ rows) h = by_test (prefix_eq r.0 s.0) refl (row_found r rows)
    where
      later : prefix_eq r.0 s.0 ≡ false → Contains rows r
      later apart = elim (Contains-cases s rows r h) [
        | inl first ↦ absurd (cc (apart, (prefix_eq-Decides r.0 s.0).1 (ap (λ x. x.0) (sym first))))
        | inr more ↦ more
      ]

      by_test : (b : Bool) → prefix_eq r.0 s.0 ≡ b → (Contains rows r → (e : X) × (row_of prefix_cmp r.0 rows ≡ Some e)) → (e : X) × (cond b (Some s.1) (row_of prefix_cmp r.0 rows) ≡ Some e)
      by_test true same rest = (s.1, refl)
      by_test false apart rest = rest (later apart)

  -- and where prefixes are distinct it is that row
  pub row_of-row : (rows : List (Prefix × X)) (r : Prefix × X) → HasDistinctPrefixes rows → Contains rows r → row_of prefix_cmp r.0 rows ≡ Some r.1
  row_of-row rows r distinct h =
      let (e, found) = row_found r rows h in
      found ∙ ap (λ (x : Prefix × X). Some x.1) (same_row rows (r.0, e) r distinct (row_of-Contains r.0 e rows found) h refl)

module _ {X : Type 0} (entry : Prefix → Option X) (addr : ℕ) (rows : List (Prefix × X)) (writable : HasWritablePrefixes rows) (distinct : HasDistinctPrefixes rows)
    (same : (p : Prefix) → IsPrefix p → entry p ≡ row_of prefix_cmp p rows) where
  entry_of : (r : Prefix × X) → Contains rows r → entry r.0 ≡ Some r.1
  entry_of r h = same r.0 (All-contains (λ x. IsPrefix x.0) rows r writable h) ∙ row_of-row rows r distinct h

  -- the longest match by the entries of the rows is that of the rows
  pub longest_in_rows : (found : Option (Prefix × X)) → IsLongestIn entry addr found → longest_match addr rows ≡ found
  longest_in_rows None none = by_match (longest_match addr rows) refl
    where
      by_match : (o : Option (Prefix × X)) → longest_match addr rows ≡ o → o ≡ None
      by_match None is = refl
      by_match (Some r) is =
          let match = longest_match-found addr rows r is in
          let valid = All-contains (λ x. IsPrefix x.0) rows r writable match.is_row in
          absurd (none-some r.1 (sym (none r.0 valid match.covered) ∙ entry_of r match.is_row))
  longest_in_rows (Some found) (valid, covered, has, longer) = longest_match-longest addr rows writable distinct found (record {
    is_row = row_of-Contains found.0 found.1 rows (sym (same found.0 valid) ∙ has);
    covered = covered;
    longest = λ r h c. elim (cases_lt (found.0).len (r.0).len) [
      | inl below ↦ absurd (none-some r.1 (sym (longer r.0 (All-contains (λ x. IsPrefix x.0) rows r writable h) c below) ∙ entry_of r h))
      | inr least ↦ least
    ];
  })
