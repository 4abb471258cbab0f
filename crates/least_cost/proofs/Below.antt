-- How many of the first numbers have a value below a bound.
-- The limit of 65,536 routers is exact. Along 65,535 links at the greatest cost, with an attachment at it, a way
-- costs 4,294,901,760, which is below infinity, and one link more would reach it. So where a router can be reached
-- and a neighbour of it seems to be out of reach, neither of the two is nearer than the first (`two_not_nearer`). The
-- first is therefore at most 65,534 links away, and the neighbour can be reached over one link more.
use Rattle.std.proofs.Common.{◌≡◌, ◌⊎◌, ℕ, zero, suc, ◌+◌, ◌<◌, ◌≤◌, Bool, true, false, refl, inl, inr, arith, ltb-true, lt-ltb, nat_lt}
use Rattle.network_model.proofs.Common.{both_ways, cases_eq, one_if}

-- how many numbers below n have a value below d
abbrev pub count_below : (ℕ → ℕ) → ℕ → ℕ → ℕ
count_below f d zero = 0
count_below f d (suc n) = one_if (nat_lt (f n) d) + count_below f d n

-- no more than n numbers below n have a value below d
pub below_at_most : (f : ℕ → ℕ) (d n : ℕ) → count_below f d n ≤ n
below_at_most f d zero = omega arith
below_at_most f d (suc n) = go (nat_lt (f n) d) (below_at_most f d n)
  where
    go : (b : Bool) → count_below f d n ≤ n → one_if b + count_below f d n ≤ suc n
    go true h = omega (arith, h)
    go false h = omega (arith, h)

-- what is below d is below any greater bound
test_rises : (a d e : ℕ) → d ≤ e → one_if (nat_lt a d) ≤ one_if (nat_lt a e)
test_rises a d e l = go (nat_lt a d) refl (nat_lt a e) refl
  where
    go : (b : Bool) → nat_lt a d ≡ b → (c : Bool) → nat_lt a e ≡ c → one_if b ≤ one_if c
    go true h true j = omega arith
    go false h c j = omega arith
    go true h false j = absurd (both_ways (nat_lt a e) j (lt-ltb a e (omega (arith, ltb-true a d h, l))))

-- no fewer are below a greater bound
below_rises : (f : ℕ → ℕ) (d e n : ℕ) → d ≤ e → count_below f d n ≤ count_below f e n
below_rises f d e zero l = omega arith
below_rises f d e (suc n) l = omega (arith, test_rises (f n) d e l, below_rises f d e n l)

-- a value from d on that is below e is one more below e than below d
test_gains : (a d e : ℕ) → d ≤ a → a < e → suc (one_if (nat_lt a d)) ≤ one_if (nat_lt a e)
test_gains a d e l u = go (nat_lt a d) refl (nat_lt a e) refl
  where
    go : (b : Bool) → nat_lt a d ≡ b → (c : Bool) → nat_lt a e ≡ c → suc (one_if b) ≤ one_if c
    go true h c j = absurd (omega (arith, ltb-true a d h, l))
    go false h true j = omega arith
    go false h false j = absurd (both_ways (nat_lt a e) j (lt-ltb a e u))

-- where a value is from d on and below e, at least one more is below e than below d
pub below_gains : (f : ℕ → ℕ) (d e n k : ℕ) → k < n → d ≤ f k → f k < e → suc (count_below f d n) ≤ count_below f e n
below_gains f d e zero k l a u = absurd (omega (arith, l))
below_gains f d e (suc n) k l a u = go (cases_eq k n) (λ before. below_gains f d e n k before a u)
  where
    go : (k ≡ n) ⊎ (k ≡ n → ⊥) → (k < n → suc (count_below f d n) ≤ count_below f e n) → suc (count_below f d (suc n)) ≤ count_below f e (suc n)
    go (inl h) rest = omega (arith, test_gains (f n) d e (rw h at a) (rw h at u), below_rises f d e n (omega (arith, a, u)))
    go (inr h) rest = omega (arith, test_rises (f n) d e (omega (arith, a, u)), rest (omega (arith, l, h)))
