-- One round over links or over routers: what it keeps, and that it marks one more or leaves nothing to mark.
use Rattle.std.proofs.Common.{sym, subst, inl, inr, arith, ◌≡◌, ◌⊎◌, ℕ, ◌+◌, ◌<◌, ◌≤◌, Bool, true, false, List, length, set}
use Rattle.std.proofs.lemmas.Bool.{cases_order, false≢true}
use Rattle.reachability.specs.Marks.{is_in, unmarked}
use Rattle.reachability.proofs.Marking.{marked_one}

-- a round from the old marks that has come to this place: the marks are related to the old ones, there are more of them if any was set, and if none was, nothing is left to set before the place
pub record IsRound (Related : List Bool → List Bool → Type 0) (LeavesNone : List Bool → ℕ → Type 0) (old marks : List Bool) (grown : Bool) (place : ℕ) : Type 0 where
  pub related : Related old marks
  pub no_more : unmarked marks ≤ unmarked old
  pub fewer : grown ≡ true → unmarked marks < unmarked old
  pub closed : grown ≡ false → (k : ℕ) → k < place → LeavesNone marks k

module _ (Related : List Bool → List Bool → Type 0) (LeavesNone : List Bool → ℕ → Type 0) (old marks : List Bool) where
  pub begun : Related marks marks → IsRound Related LeavesNone marks marks false 0
  begun related = record {
    related = related;
    no_more = omega arith;
    fewer = λ is. absurd (false≢true is);
    closed = λ none k below. absurd (omega (arith, below));
  }

  module _ (grown : Bool) (place : ℕ) (R : IsRound Related LeavesNone old marks grown place) where
    -- a router is marked
    pub with_mark : (k : ℕ) → (Related old marks → Related old (set marks k true)) → k < length marks → is_in marks k ≡ false → IsRound Related LeavesNone old (set marks k true) true (place + 1)
    with_mark k related within fresh =
        let one = marked_one marks k within fresh in
        let before = R.no_more in
        record {
          related = related R.related;
          no_more = omega (arith, one, before);
          fewer = λ is. omega (arith, one, before);
          closed = λ none. absurd (false≢true (sym none));
        }

    -- no router is marked
    pub with_none : LeavesNone marks place → IsRound Related LeavesNone old marks grown (place + 1)
    with_none here = record {
      related = R.related;
      no_more = R.no_more;
      fewer = R.fewer;
      closed = λ none k below. by_order none k (cases_order k place) below;
    }
      where
        by_order : grown ≡ false → (k : ℕ) → (k ≡ place) ⊎ ((k < place) ⊎ (place < k)) → k < place + 1 → LeavesNone marks k
        by_order none k (inl same) below = subst (LeavesNone marks) (sym same) here
        by_order none k (inr (inl before)) below = R.closed none k before
        by_order none k (inr (inr past)) below = absurd (omega (arith, past, below))
