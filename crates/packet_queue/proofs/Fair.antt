-- Each move keeps the rule of the queue.
use Rattle.std.proofs.Common.{◌≡◌, ℕ, zero, suc, ◌+◌, ◌-◌, ◌<◌, List, [], ◌∷◌, ◌++◌, length, set, get_or, sum_by, All, sym, refl, ap, ◌∙◌, arith}
use Rattle.std.proofs.{lemmas.List.Sums.sum_by-set, lemmas.List.Sums.sum_by-append, lemmas.List.Sums.sum_by-cons, lemmas.List.Elements.All-set, lemmas.List.Elements.All-append}
use mathlib.Core.Option.{some, some-injective, some-ne-none}
use lib.ListN.{get_elem?}
use Rattle.crossbeam_channel.specs.Fifo.{Pushes, Pops, Forks, Merges, Learns}
use Rattle.packet_queue.specs.{declared.message.Taken.Taken, declared.rule.Hand.Hand}
use Rattle.packet_queue.specs.Hands.{hand, AreLeft, IsIdle, Balanced}

module _ {B : Type 0} where
  there : (xs : List (Hand B)) (i : ℕ) (v : Hand B) → get_elem? xs i ≡ some v → (i < length xs) × (get_or xs i v ≡ v)
  there [] i v e = absurd (some-ne-none v (sym e))
  there (x ∷ xs) zero v e = (omega arith, some-injective x v e)
  there (x ∷ xs) (suc i) v e = let r = there xs i v e in (omega arith, r.1)

  total_set : (f : Hand B → ℕ) (views : List (Hand B)) (i : ℕ) (v w : Hand B) → get_elem? views i ≡ some v → sum_by f (set views i w) + f v ≡ sum_by f views + f w
  total_set f views i v w e =
      let t = there views i v e in
      let s : sum_by f (set views i w) + f (get_or views i v) ≡ sum_by f views + f w = sum_by-set f views i w v t.0 in
      let u : f (get_or views i v) ≡ f v = ap f t.1 in omega arith

  abbrev parts_of : List (Hand B) → ℕ
  parts_of views = sum_by (λ v. v.parts) views

  none_left : (f : Hand B → ℕ) → ((v : Hand B) → (v.put ≡ []) × (v.taken ≡ []) → f v ≡ 0) → (xs : List (Hand B)) → All IsIdle xs → parts_of xs ≡ 0 → sum_by f xs ≡ 0
  none_left f z [] a e = refl
  none_left f z (x ∷ xs) a e =
      let s : parts_of (x ∷ xs) ≡ x.parts + parts_of xs = sum_by-cons (λ v. v.parts) x xs in
      let t : sum_by f (x ∷ xs) ≡ f x + sum_by f xs = sum_by-cons f x xs in
      let p : x.parts ≡ 0 = omega arith in
      let r : parts_of xs ≡ 0 = omega arith in
      let h : f x ≡ 0 = z x (a 0 x (omega arith) p) in
      let i : sum_by f xs ≡ 0 = none_left f z xs (λ k d l. a (suc k) d (omega arith)) r in
      t ∙ omega arith

  -- the one with all the parts has put and taken all
  only : (f : Hand B → ℕ) → ((v : Hand B) → (v.put ≡ []) × (v.taken ≡ []) → f v ≡ 0) → (views : List (Hand B)) (i : ℕ) (v : Hand B) → get_elem? views i ≡ some v → All IsIdle views → parts_of views ≡ v.parts → sum_by f views ≡ f v
  only f z views i v e a p =
      let w : Hand B = hand 0 [] [] in
      let s : parts_of (set views i w) + v.parts ≡ parts_of views + 0 = total_set (λ u. u.parts) views i v w e in
      let t : sum_by f (set views i w) + f v ≡ sum_by f views + f w = total_set f views i v w e in
      let n : sum_by f (set views i w) ≡ 0 = none_left f z (set views i w) (All-set IsIdle views i w (λ _. (refl, refl)) a) (omega arith) in
      let y : f w ≡ 0 = z w (refl, refl) in
      omega arith

  all_one : (v : Hand B) → IsIdle v → (k : ℕ) (d : Hand B) → k < 1 → IsIdle (get_or (v ∷ []) k d)
  all_one v i zero d l = i
  all_one v i (suc k) d l = absurd (omega arith)

  pub puts : (n port : ℕ) (v : Hand B) (x : Taken B) → 0 < v.parts → Pushes Balanced n port v x (λ w. w ≡ hand v.parts (v.put ++ x ∷ []) v.taken)
  puts n port v x some_part items views room b at =
      let w : Hand B = hand v.parts (v.put ++ x ∷ []) v.taken in (
        w,
        (
          (let s = total_set (λ u. u.parts) views port v w at in let p = b.0 in omega arith),
          (λ h.
              let s = total_set (λ u. sum_by h u.put) views port v w at in
              let t = total_set (λ u. sum_by h u.taken) views port v w at in
              let p = b.1 h in
              omega (arith, sum_by-append h v.put (x ∷ []), sum_by-append h items (x ∷ []))),
          All-set IsIdle views port w (λ none. absurd (omega arith)) b.2,
        ),
        refl,
      )

  pub takes : (port : ℕ) (v : Hand B) → 0 < v.parts → Pops Balanced port v (λ x w. w ≡ hand v.parts v.put (v.taken ++ x ∷ []))
  takes port v some_part x items views b at =
      let w : Hand B = hand v.parts v.put (v.taken ++ x ∷ []) in (
        w,
        (
          (let s = total_set (λ u. u.parts) views port v w at in let p = b.0 in omega arith),
          (λ h.
              let s = total_set (λ u. sum_by h u.put) views port v w at in
              let t = total_set (λ u. sum_by h u.taken) views port v w at in
              let p = b.1 h in
              omega (arith, sum_by-append h v.taken (x ∷ []), sum_by-append h (x ∷ []) items)),
          All-set IsIdle views port w (λ none. absurd (omega arith)) b.2,
        ),
        refl,
      )

  pub forks : (port : ℕ) (v : Hand B) → 1 < v.parts → Forks Balanced port v (hand (v.parts - 1) v.put v.taken) (hand 1 [] [])
  forks port v some_parts items views b at =
      let w : Hand B = hand (v.parts - 1) v.put v.taken in
      let r : Hand B = hand 1 [] [] in (
        (let s = total_set (λ u. u.parts) views port v w at in let p = b.0 in omega (arith, sum_by-append (λ (u : Hand B). u.parts) (set views port w) (r ∷ []))),
        (λ h.
            let s = total_set (λ u. sum_by h u.put) views port v w at in
            let t = total_set (λ u. sum_by h u.taken) views port v w at in
            let p = b.1 h in
            omega (arith, sum_by-append (λ (u : Hand B). sum_by h u.put) (set views port w) (r ∷ []), sum_by-append (λ (u : Hand B). sum_by h u.taken) (set views port w) (r ∷ []))),
        All-append IsIdle (set views port w) (r ∷ []) (All-set IsIdle views port w (λ none. absurd (omega arith)) b.2) (all_one r (λ e. absurd (omega arith))),
      )

  pub merges : (port : ℕ) (v : Hand B) (other : ℕ) (u : Hand B) → 0 < v.parts → Merges Balanced port v other u (hand (v.parts + u.parts) (v.put ++ u.put) (v.taken ++ u.taken)) (hand 0 [] [])
  merges port v other u some_part items views b at apart at' =
      let w : Hand B = hand (v.parts + u.parts) (v.put ++ u.put) (v.taken ++ u.taken) in
      let o : Hand B = hand 0 [] [] in
      let vs : List (Hand B) = set views port w in (
        (let s = total_set (λ y. y.parts) views port v w at in let s' = total_set (λ y. y.parts) vs other u o at' in let p = b.0 in omega arith),
        (λ h.
            let s = total_set (λ y. sum_by h y.put) views port v w at in
            let s' = total_set (λ y. sum_by h y.put) vs other u o at' in
            let t = total_set (λ y. sum_by h y.taken) views port v w at in
            let t' = total_set (λ y. sum_by h y.taken) vs other u o at' in
            let p = b.1 h in
            omega (arith, sum_by-append h v.put u.put, sum_by-append h v.taken u.taken)),
        All-set IsIdle vs other o (λ _. (refl, refl)) (All-set IsIdle views port w (λ none. absurd (omega arith)) b.2),
      )

  pub learns : (port : ℕ) (v : Hand B) → v.parts ≡ 256 → Learns Balanced port v (λ items. AreLeft v.put v.taken items)
  learns port v all items views b at h =
      let p : sum_by (λ u. sum_by h u.put) views ≡ sum_by h v.put = only (λ u. sum_by h u.put) (λ u z. ap (sum_by h) z.0) views port v at b.2 (b.0 ∙ sym all) in
      let t : sum_by (λ u. sum_by h u.taken) views ≡ sum_by h v.taken = only (λ u. sum_by h u.taken) (λ u z. ap (sum_by h) z.1) views port v at b.2 (b.0 ∙ sym all) in
      let q = b.1 h in omega arith
