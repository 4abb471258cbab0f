-- Rows that are set in order, and the longest match of an image's rows.
use Rattle.std.specs.{FinMap.put, Result.is_ok}
use Rattle.std.proofs.Common.{List, [], ◌∷◌, ◌++◌, length, take, get_or, ℕ, ◌≡◌, ◌+◌, ◌<◌, true, Option, Some, None, IfSome, sym, ap, subst, ◌∙◌, Result, Err, IsOk}
use Rattle.std.proofs.{lemmas.List.take_more, Math.Seq.take-length, lemmas.Bool.false≢true}
use Rattle.ipv4_prefix.specs.{Prefix.Prefix, Prefix.prefix_cmp, LongestMatch.IsLongestMatch, LongestMatch.longest_match}
use Rattle.ipv4_prefix.proofs.LongestMatches.{longest_match-found}
use Rattle.network_model.specs.{declared.route.Entry.Entry, Publication.with_rows}
use Rattle.network_model.proofs.RowLaws.{with_rows-push}

-- with one row more, that row is put
pub with_one_more : (rows : List (Prefix × Entry)) (i : ℕ) (r : Prefix × Entry) (table : List (Prefix × Entry)) → i < length rows → r ≡ get_or rows i r
    → with_rows (take (i + 1) rows) table ≡ put prefix_cmp r.0 r.1 (with_rows (take i rows) table)
with_one_more rows i r table within is =
    ap (λ xs. with_rows xs table) (take_more rows i r within ∙ ap (λ x. take i rows ++ x ∷ []) (sym is)) ∙ with_rows-push (take i rows) r table

-- with all, the rows are set
pub with_all : (rows table : List (Prefix × Entry)) → with_rows (take (length rows) rows) table ≡ with_rows rows table
with_all rows table = ap (λ xs. with_rows xs table) (take-length rows)

-- a refusal is no success
pub not_ok : {T E : Type 0} {r : Result T E} {e : E} → r ≡ Err e → IsOk r → ⊥
not_ok {T} {E} is ok = false≢true (subst (λ (x : Result T E). is_ok x ≡ true) is ok)

-- what is found by the longest match is one
pub longest_where_some : (addr : ℕ) (rows : List (Prefix × Entry)) (found : Option (Prefix × Entry)) → found ≡ longest_match addr rows → IfSome found (IsLongestMatch addr rows)
longest_where_some addr rows None e = tt
longest_where_some addr rows (Some f) e = longest_match-found addr rows f (sym e)
