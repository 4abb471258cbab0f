-- A router more that is marked.
use Rattle.std.proofs.Common.{sym, ap, subst, ◌∙◌, inl, inr, arith, ◌≡◌, ℕ, ◌+◌, ◌<◌, Bool, true, false, not, cond, List, length, set, get_or-set_other, get_or-set_same}
use Rattle.std.proofs.{lemmas.Bool.cases_eq, lemmas.List.Sums.sum_by-set}
use Rattle.reachability.specs.Marks.{is_in, unmarked}

-- one fewer is not marked
pub marked_one : (marks : List Bool) (i : ℕ) → i < length marks → is_in marks i ≡ false → unmarked (set marks i true) + 1 ≡ unmarked marks
marked_one marks i within fresh =
    let weight : Bool → ℕ = λ b. cond (not b) 1 0 in
    let moved : unmarked (set marks i true) + weight (is_in marks i) ≡ unmarked marks + 0 = sum_by-set weight marks i true false within in
    let one : weight (is_in marks i) ≡ 1 = ap weight fresh in
    omega (arith, moved, one)

-- a mark that is set leaves the others
pub kept_by_mark : (marks : List Bool) (k : ℕ) → k < length marks → (i : ℕ) → is_in marks i ≡ true → is_in (set marks k true) i ≡ true
kept_by_mark marks k within i is = elim (cases_eq i k) [
  | inl e ↦ subst (λ (j : ℕ). is_in (set marks k true) j ≡ true) (sym e) (get_or-set_same marks k true false within)
  | inr d ↦ get_or-set_other marks k i true false d ∙ is
]

-- what holds of each router that is marked, and of one that is added, holds of each after that
pub holds_more : (P : ℕ → Type 0) (marks : List Bool) (k : ℕ) → P k → ((i : ℕ) → is_in marks i ≡ true → P i) → (i : ℕ) → is_in (set marks k true) i ≡ true → P i
holds_more P marks k here others i is = elim (cases_eq i k) [
  | inl e ↦ subst P (sym e) here
  | inr d ↦ others i (sym (get_or-set_other marks k i true false d) ∙ is)
]
