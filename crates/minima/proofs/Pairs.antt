-- Pairs of a moment and a router, in their order.
use Rattle.std.proofs.Common.{refl, sym, ◌∙◌, arith, inl, inr, true≢false, ltb-true, ltb-false, eqb-true, eq-eqb, ◌≡◌, ◌⊎◌, ◌<◌, ◌≤◌, Bool, true, false, ◌==◌, ◌&&◌, ◌||◌, nat_lt, if◌then◌else◌, Option, Some, None}
use Rattle.std.specs.Prelude.{⊤}
use Rattle.std.proofs.lemmas.Bool.{and_parts, cases_lt}
use Rattle.minima.specs.{declared.due.Due.Due, Trees.is_sooner, Trees.lesser}

-- the one is no later than the other, by its moment and then by its router. What is not there is later than anything
abbrev pub NoLater : Option Due → Option Due → Type 0
NoLater a None = ⊤
NoLater None (Some b) = ⊥
NoLater (Some a) (Some b) = (a.moment < b.moment) ⊎ ((a.moment ≡ b.moment) × (a.router ≤ b.router))

pub no_later_itself : (a : Option Due) → NoLater a a
no_later_itself None = tt
no_later_itself (Some a) = inr (refl, omega arith)

pub no_later_trans : (a b c : Option Due) → NoLater a b → NoLater b c → NoLater a c
no_later_trans a b None p q = tt
no_later_trans a None (Some c) p q = absurd q
no_later_trans None (Some b) (Some c) p q = absurd p
no_later_trans (Some a) (Some b) (Some c) p q = both p q
  where
    both : (a.moment < b.moment) ⊎ ((a.moment ≡ b.moment) × (a.router ≤ b.router)) → (b.moment < c.moment) ⊎ ((b.moment ≡ c.moment) × (b.router ≤ c.router))
        → (a.moment < c.moment) ⊎ ((a.moment ≡ c.moment) × (a.router ≤ c.router))
    both (inl x) (inl y) = inl (omega (arith, x, y))
    both (inl x) (inr y) = inl (let same = y.0 in omega (arith, x, same))
    both (inr x) (inl y) = inl (let same = x.0 in omega (arith, same, y))
    both (inr x) (inr y) = inr (x.0 ∙ y.0, (let first = x.1 in let second = y.1 in omega (arith, first, second)))

-- what is before another is no later
before_is : (b a : Due) → is_sooner b a ≡ true → NoLater (Some b) (Some a)
before_is b a is = by_moment (nat_lt b.moment a.moment) refl is
  where
    by_moment : (t : Bool) → nat_lt b.moment a.moment ≡ t → (t || ((b.moment == a.moment) && nat_lt b.router a.router)) ≡ true → NoLater (Some b) (Some a)
    by_moment true less h = inl (ltb-true b.moment a.moment less)
    by_moment false over h =
        let parts = and_parts _ _ h in
        let lower = ltb-true b.router a.router parts.1 in
        inr (eqb-true b.moment a.moment parts.0, omega (arith, lower))

-- and what is not before another is no sooner
not_before : (b a : Due) → is_sooner b a ≡ false → NoLater (Some a) (Some b)
not_before b a is = by_moment (nat_lt b.moment a.moment) refl is
  where
    by_equal : (t : Bool) → (b.moment == a.moment) ≡ t → (t && nat_lt b.router a.router) ≡ false → a.moment ≤ b.moment → NoLater (Some a) (Some b)
    by_equal true same h over = inr (sym (eqb-true b.moment a.moment same), ltb-false b.router a.router h)
    by_equal false other h over = by_order (cases_lt a.moment b.moment)
      where
        by_order : (a.moment < b.moment) ⊎ (b.moment ≤ a.moment) → NoLater (Some a) (Some b)
        by_order (inl less) = inl less
        by_order (inr more) = absurd (true≢false (sym (eq-eqb b.moment a.moment (omega (arith, over, more))) ∙ other))

    by_moment : (t : Bool) → nat_lt b.moment a.moment ≡ t → (t || ((b.moment == a.moment) && nat_lt b.router a.router)) ≡ false → NoLater (Some a) (Some b)
    by_moment true less h = absurd (true≢false h)
    by_moment false over h = by_equal (b.moment == a.moment) refl h (ltb-false b.moment a.moment over)

-- the lesser of two is no later than either
pub lesser_left : (a b : Option Due) → NoLater (lesser a b) a
lesser_left None b = tt
lesser_left (Some a) None = no_later_itself (Some a)
lesser_left (Some a) (Some b) = by_test (is_sooner b a) refl
  where
    by_test : (t : Bool) → is_sooner b a ≡ t → NoLater (if t then Some b else Some a) (Some a)
    by_test true is = before_is b a is
    by_test false is = no_later_itself (Some a)

pub lesser_right : (a b : Option Due) → NoLater (lesser a b) b
lesser_right None b = no_later_itself b
lesser_right (Some a) None = tt
lesser_right (Some a) (Some b) = by_test (is_sooner b a) refl
  where
    by_test : (t : Bool) → is_sooner b a ≡ t → NoLater (if t then Some b else Some a) (Some b)
    by_test true is = no_later_itself (Some b)
    by_test false is = not_before b a is

pub lesser_is : (a b : Option Due) → (lesser a b ≡ a) ⊎ (lesser a b ≡ b)
lesser_is None b = inr refl
lesser_is (Some a) None = inl refl
lesser_is (Some a) (Some b) = by_test (is_sooner b a)
  where
    by_test : (t : Bool) → ((if t then Some b else Some a) ≡ Some a) ⊎ ((if t then Some b else Some a) ≡ Some b)
    by_test true = inr refl
    by_test false = inl refl
