-- Bounds and counts of lists of messages.
use Rattle.std.proofs.Common.{arith, ◌≡◌, ℕ, ◌+◌, ◌≤◌, Bool, true, false, List, [], ◌∷◌, ◌++◌, Option, Some, None}
use Rattle.network_model.proofs.Common.{Kind, Query, Report, one_if}
use Rattle.loop_freedom.specs.Facts.{count, AtLeast, AtLeastFromLastQuery}

-- a message that may have been taken, as the list of what was taken
abbrev pub front : Option Report → List Report
front None = []
front (Some m) = m ∷ []

-- the messages of a kind in two lists add up
pub count-append : (k : Kind) (xs ys : List Report) → count k (xs ++ ys) ≡ count k xs + count k ys
count-append k [] ys = omega arith
count-append k (x ∷ xs) ys = omega (arith, count-append k xs ys)

-- a bound of two lists bounds the one after the other
pub at_least_append : (n : ℕ) (xs ys : List Report) → AtLeast n xs → AtLeast n ys → AtLeast n (xs ++ ys)
at_least_append n [] ys h g = g
at_least_append n (x ∷ xs) ys h g = (h.0, at_least_append n xs ys h.1 g)

-- a bound of two lists in a row bounds the first
pub at_least_left : (n : ℕ) (xs ys : List Report) → AtLeast n (xs ++ ys) → AtLeast n xs
at_least_left n [] ys h = tt
at_least_left n (x ∷ xs) ys h = (h.0, at_least_left n xs ys h.1)

-- a bound of two lists in a row bounds the second
pub at_least_right : (n : ℕ) (xs ys : List Report) → AtLeast n (xs ++ ys) → AtLeast n ys
at_least_right n [] ys h = h
at_least_right n (x ∷ xs) ys h = at_least_right n xs ys h.1

-- a smaller bound holds too
pub at_least_less : (n m : ℕ) (xs : List Report) → m ≤ n → AtLeast n xs → AtLeast m xs
at_least_less n m [] le h = tt
at_least_less n m (x ∷ xs) le h = (omega (arith, h.0), at_least_less n m xs le h.1)

-- a bound of all values bounds those from the last query on
pub from_last_query_of_all : (n : ℕ) (xs : List Report) → AtLeast n xs → AtLeastFromLastQuery n xs
from_last_query_of_all n [] h = tt
from_last_query_of_all n (x ∷ xs) h = ((λ e. h.0), from_last_query_of_all n xs h.1)

-- where there is no query, a bound from the last query on bounds all values
pub at_least_without_query : (n : ℕ) (xs : List Report) → count Query xs ≡ 0 → AtLeastFromLastQuery n xs → AtLeast n xs
at_least_without_query n [] e h = tt
at_least_without_query n (x ∷ xs) e h =
    let z : count Query xs ≡ 0 = omega (arith, e) in
    (h.0 z, at_least_without_query n xs z h.1)

-- a bound from the last query on, of two lists in a row, is one of the second
pub from_last_query_right : (n : ℕ) (xs ys : List Report) → AtLeastFromLastQuery n (xs ++ ys) → AtLeastFromLastQuery n ys
from_last_query_right n [] ys h = h
from_last_query_right n (x ∷ xs) ys h = from_last_query_right n xs ys h.1

-- two lists in a row are bounded from the last query on where the second is, and the first is if the second has no query
pub from_last_query_append : (n : ℕ) (xs ys : List Report) → (count Query ys ≡ 0 → AtLeastFromLastQuery n xs) → AtLeastFromLastQuery n ys → AtLeastFromLastQuery n (xs ++ ys)
from_last_query_append n [] ys h g = g
from_last_query_append n (x ∷ xs) ys h g = (
  (λ e. let z : count Query xs ≡ 0 = omega (arith, e, count-append Query xs ys) in
      let w : count Query ys ≡ 0 = omega (arith, e, count-append Query xs ys) in
      (h w).0 z),
  from_last_query_append n xs ys (λ e. (h e).1) g,
)

-- the number of a truth value is at most 1
pub one_if_at_most_one : (b : Bool) → one_if b ≤ 1
one_if_at_most_one true = omega arith
one_if_at_most_one false = omega arith
