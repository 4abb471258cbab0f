-- Moments that never decrease, in lists to which something is added or from which something is taken.
use Rattle.std.proofs.Common.{refl, sym, subst, arith, ◌≡◌, ℕ, zero, suc, ◌≤◌, ◌<◌, ◌+◌, Bool, true, false, not, nat_lt, ltb-true, ltb-false, cond, List, [], ◌∷◌, ◌++◌, drop, filter, length, insert, unwrap_or, Some, None, slice_get}
use Rattle.no_packet_loops.proofs.Common.{None_not_Some, Some_injective, prefix_len}
use Rattle.timed_simulation.specs.{declared.events.Change.Change, Timed.place_among, Due.RisesFrom, Due.UpTo}

module _ {A : Type 0} (f : A → ℕ) where
  pub rises_sooner : (from mid : ℕ) (xs : List A) → from ≤ mid → RisesFrom f mid xs → RisesFrom f from xs
  rises_sooner from mid [] le r = tt
  rises_sooner from mid (x ∷ xs) le r = (let first = r.0 in omega (arith, le, first), r.1)

  -- from later on, if the first is no sooner
  pub rises_later : (from mid : ℕ) (xs : List A) → ((x : A) → slice_get xs 0 ≡ Some x → mid ≤ f x) → RisesFrom f from xs → RisesFrom f mid xs
  rises_later from mid [] first r = tt
  rises_later from mid (x ∷ xs) first r = (first x refl, r.1)

  -- none is before the beginning
  pub rises_at : (from : ℕ) (xs : List A) (k : ℕ) (x : A) → RisesFrom f from xs → slice_get xs k ≡ Some x → from ≤ f x
  rises_at from [] k x r at = absurd (None_not_Some at)
  rises_at from (y ∷ ys) zero x r at = subst (λ (z : A). from ≤ f z) (Some_injective at) r.0
  rises_at from (y ∷ ys) (suc k) x r at =
      let first = r.0 in
      let rest : f y ≤ f x = rises_at (f y) ys k x r.1 at in
      omega (arith, first, rest)

  -- without the first
  pub rises_tail : (from : ℕ) (xs : List A) → RisesFrom f from xs → RisesFrom f from (drop 1 xs)
  rises_tail from [] r = tt
  rises_tail from (x ∷ xs) r = rises_sooner from (f x) xs r.0 r.1

  pub up_to_tail : (to : ℕ) (xs : List A) → UpTo f to xs → UpTo f to (drop 1 xs)
  up_to_tail to [] u = tt
  up_to_tail to (x ∷ xs) u = u.1

  pub up_to_later : (to more : ℕ) (xs : List A) → to ≤ more → UpTo f to xs → UpTo f more xs
  up_to_later to more [] le u = tt
  up_to_later to more (x ∷ xs) le u = (let first = u.0 in omega (arith, le, first), up_to_later to more xs le u.1)

  -- with one more at the back, that is no sooner than any
  pub rises_push : (from : ℕ) (xs : List A) (x : A) → RisesFrom f from xs → UpTo f (f x) xs → from ≤ f x → RisesFrom f from (xs ++ x ∷ [])
  rises_push from [] x r u le = (le, tt)
  rises_push from (y ∷ ys) x r u le = (r.0, rises_push (f y) ys x r.1 u.1 u.0)

  pub up_to_push : (to : ℕ) (xs : List A) (x : A) → UpTo f to xs → f x ≤ to → UpTo f to (xs ++ x ∷ [])
  up_to_push to [] x u le = (le, tt)
  up_to_push to (y ∷ ys) x u le = (u.0, up_to_push to ys x u.1 le)

  -- those that pass a test
  pub rises_filter : (test : A → Bool) (from : ℕ) (xs : List A) → RisesFrom f from xs → RisesFrom f from (filter test xs)
  rises_filter test from [] r = tt
  rises_filter test from (x ∷ xs) r = by_test (test x) (rises_filter test (f x) xs r.1)
    where
      by_test : (b : Bool) → RisesFrom f (f x) (filter test xs) → RisesFrom f from (cond b (x ∷ filter test xs) (filter test xs))
      by_test true rest = (r.0, rest)
      by_test false rest = rises_sooner from (f x) (filter test xs) r.0 rest

  pub up_to_filter : (test : A → Bool) (to : ℕ) (xs : List A) → UpTo f to xs → UpTo f to (filter test xs)
  up_to_filter test to [] u = tt
  up_to_filter test to (x ∷ xs) u = by_test (test x) (up_to_filter test to xs u.1)
    where
      by_test : (b : Bool) → UpTo f to (filter test xs) → UpTo f to (cond b (x ∷ filter test xs) (filter test xs))
      by_test true rest = (u.0, rest)
      by_test false rest = rest

  -- with one more behind those at the front that are no later, and before one that is no sooner
  rises_insert : (test : A → Bool) (from : ℕ) (xs : List A) (c : A) → ((x : A) → test x ≡ true → f x ≤ f c) → ((x : A) → test x ≡ false → f c ≤ f x) → RisesFrom f from xs → from ≤ f c → RisesFrom f from (insert xs (prefix_len test xs) c)
  rises_insert test from [] c low high r le = (le, tt)
  rises_insert test from (x ∷ xs) c low high r le = by_test (test x) refl (rises_insert test (f x) xs c low high r.1)
    where
      by_test : (b : Bool) → test x ≡ b → (f x ≤ f c → RisesFrom f (f x) (insert xs (prefix_len test xs) c)) → RisesFrom f from (insert (x ∷ xs) (cond b (1 + prefix_len test xs) 0) c)
      by_test true is rest = (let one_more : suc (prefix_len test xs) ≡ 1 + prefix_len test xs = omega arith in subst (λ k. RisesFrom f from (insert (x ∷ xs) k c)) one_more (r.0, rest (low x is)))
      by_test false is rest = (le, (high x is, r.1))

short : {A : Type 0} (test : A → Bool) (xs : List A) → prefix_len test xs ≤ length xs
short test [] = omega arith
short test (x ∷ xs) = by_test (test x) (short test xs)
  where
    by_test : (b : Bool) → prefix_len test xs ≤ length xs → cond b (1 + prefix_len test xs) 0 ≤ length (x ∷ xs)
    by_test true rest = omega (arith, rest)
    by_test false rest = omega arith

-- whether a change stays before one of this moment
abbrev stays : ℕ → Change → Bool
stays moment x = not (nat_lt moment x.moment)

not_true : (b : Bool) → not b ≡ true → b ≡ false
not_true true is = sym is
not_true false is = refl

not_false : (b : Bool) → not b ≡ false → b ≡ true
not_false true is = refl
not_false false is = sym is

place_is : (moment : ℕ) (cs : List Change) → place_among moment cs ≡ prefix_len (stays moment) cs
place_is moment cs = by_room (nat_lt (prefix_len (stays moment) cs) (length cs)) refl
  where
    by_room : (b : Bool) → nat_lt (prefix_len (stays moment) cs) (length cs) ≡ b → unwrap_or (cond b (Some (prefix_len (stays moment) cs)) None) (length cs) ≡ prefix_len (stays moment) cs
    by_room true is = refl
    by_room false is =
        let over = ltb-false (prefix_len (stays moment) cs) (length cs) is in
        let within = short (stays moment) cs in
        omega (arith, over, within)

-- a change that is given keeps the order of the changes
pub with_one_more : (now : ℕ) (c : Change) (cs : List Change) → RisesFrom (λ (x : Change). x.moment) now cs → now ≤ c.moment → RisesFrom (λ (x : Change). x.moment) now (insert cs (place_among c.moment cs) c)
with_one_more now c cs r le = subst (λ k. RisesFrom (λ (x : Change). x.moment) now (insert cs k c)) (sym (place_is c.moment cs))
    (rises_insert (λ (x : Change). x.moment) (stays c.moment) now cs c
    (λ x is. ltb-false c.moment x.moment (not_true (nat_lt c.moment x.moment) is))
    (λ x is. (let later : c.moment < x.moment = ltb-true c.moment x.moment (not_false (nat_lt c.moment x.moment) is) in omega (arith, later)))
    r le)
