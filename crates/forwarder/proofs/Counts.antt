-- How many replies have a number, and how many are to a job.
use Rattle.std.proofs.Common.{◌≡◌, ◌≢◌, ℕ, zero, suc, ◌+◌, ◌<◌, ◌≤◌, Bool, true, false, cond, ◌==◌, ◌||◌, ◌&&◌, List, [], ◌∷◌, ◌++◌, length, map, slice_index, slice_index_or, All, IsPermutation, count_by, if◌then◌else◌, Option, Some, None, refl, append_assoc, add-one, arith, append-nil, eqb-true, eq-eqb}
use Rattle.std.specs.{List.list_any, List.list_all, List.Sorted.IsNonDecreasingBy, List.Sorted.IsStrictlyIncreasing}
use Rattle.std.proofs.{lemmas.Bool.or_parts, lemmas.List.Sums.sum_by-cons, lemmas.List.Sums.sum_by_push, lemmas.List.Sums.AllPass-from_list_all, lemmas.List.Sorted.sum_by-IsPermutation, lemmas.List.Sorted.All-permutation}
use Rattle.publication.specs.declared.job.Job.{Job}
use Rattle.forwarder.specs.{Replies.Replied, declared.gathering.GatherFault.GatherFault, declared.gathering.GatherFault.TheVariants.Stranger, declared.gathering.GatherFault.TheVariants.Doubled}
use Rattle.forwarder.specs.Gathering.{is_reply_to, job_number, fault_at, earlier_fault, fault_in}

abbrev bit : Bool → ℕ
bit b = cond b 1 0

and_left : (a b : Bool) → (a && b) ≡ true → a ≡ true
and_left true b e = refl
and_left false b e = e

some_step : (a b : Bool) (n : ℕ) → (a || b) ≡ true → (b ≡ true → 1 ≤ n) → 1 ≤ cond a 1 0 + n
some_step true b n e f = omega arith
some_step false b n e f = let g = f e in omega arith

le_case : (a b : Bool) → (a ≡ true → b ≡ true) → cond a 1 0 ≤ cond b 1 0
le_case true b f = rw (f refl) (omega arith)
le_case false b f = omega arith

both_none : (a b : Option GatherFault) → earlier_fault a b ≡ None → (a ≡ None) × (b ≡ None)
both_none (Some x) b e = absurd (cc)
both_none None b e = (refl, e)

at_none : (a b : Bool) → ◌≡◌ {A = Option GatherFault} (if a then (if b then Some Doubled else None) else Some Stranger) None → (a ≡ true) × (b ≡ false)
at_none true true e = absurd (cc)
at_none true false e = (refl, refl)
at_none false b e = absurd (cc)

one_more : (b : Bool) (n : ℕ) → n ≤ 1 → (b ≡ true → n ≡ 0) → n + cond b 1 0 ≤ 1
one_more true n h f = let z = f refl in omega arith
one_more false n h f = omega arith

module _ {X : Type 0} where
  abbrev pub has : ℕ → Replied X → Bool
  has n r = job_number r == n

  none_counts : (p : Replied X → Bool) (rs : List (Replied X)) → list_any p rs ≡ false → count_by p rs ≡ 0
  none_counts p [] e = refl
  none_counts p (x ∷ xs) e =
      let o = or_parts (p x) (list_any p xs) e in
      let i = none_counts p xs o.1 in
      let h : bit (p x) ≡ 0 = rw o.0 in
      omega (arith, sum_by-cons (λ y. cond (p y) 1 0) x xs)

  some_counts : (p : Replied X → Bool) (rs : List (Replied X)) → list_any p rs ≡ true → 1 ≤ count_by p rs
  some_counts p [] e = absurd (cc)
  some_counts p (x ∷ xs) e =
      let s = some_step (p x) (list_any p xs) (count_by p xs) e (some_counts p xs) in
      omega (arith, sum_by-cons (λ y. cond (p y) 1 0) x xs)

  fewer : (p q : Replied X → Bool) → ((r : Replied X) → p r ≡ true → q r ≡ true) → (rs : List (Replied X)) → count_by p rs ≤ count_by q rs
  fewer p q i [] = omega arith
  fewer p q i (x ∷ xs) =
      let s = le_case (p x) (q x) (i x) in
      let t = fewer p q i xs in
      omega (arith, sum_by-cons (λ y. cond (p y) 1 0) x xs, sum_by-cons (λ y. cond (q y) 1 0) x xs)

  pub no_doubles : (jobs : List (Job X)) (earlier rs : List (Replied X)) → fault_in jobs earlier rs ≡ None → ((n : ℕ) → count_by (has n) earlier ≤ 1) → (n : ℕ) → count_by (has n) (earlier ++ rs) ≤ 1
  no_doubles jobs earlier [] e h n = rw append-nil (h n)
  no_doubles jobs earlier (r ∷ rs) e h n =
      let f = both_none (fault_at jobs earlier r) (fault_in jobs (earlier ++ r ∷ []) rs) e in
      let d = at_none (list_any (λ j. is_reply_to j r) jobs) (list_any (has (job_number r)) earlier) f.0 in
      let more : (m : ℕ) → count_by (has m) (earlier ++ r ∷ []) ≤ 1 = λ m.
      let s = one_more (has m r) (count_by (has m) earlier) (h m) (λ t. let same = eqb-true (job_number r) m t in rw (← same) (none_counts (has (job_number r)) earlier d.1)) in
      omega (arith, sum_by_push (λ y. cond (has m y) 1 0) earlier r) in
      let i : count_by (has n) ((earlier ++ r ∷ []) ++ rs) ≤ 1 = no_doubles jobs (earlier ++ r ∷ []) rs f.1 more n in
      rw append_assoc at i

  pub no_strangers : (jobs : List (Job X)) (earlier rs : List (Replied X)) → fault_in jobs earlier rs ≡ None → All (λ r. list_any (λ j. is_reply_to j r) jobs ≡ true) rs
  no_strangers jobs earlier [] e k d l = absurd (omega arith)
  no_strangers jobs earlier (r ∷ rs) e zero d l =
      let f = both_none (fault_at jobs earlier r) (fault_in jobs (earlier ++ r ∷ []) rs) e in
      (at_none (list_any (λ j. is_reply_to j r) jobs) (list_any (has (job_number r)) earlier) f.0).0
  no_strangers jobs earlier (r ∷ rs) e (suc k) d l =
      let f = both_none (fault_at jobs earlier r) (fault_in jobs (earlier ++ r ∷ []) rs) e in
      no_strangers jobs (earlier ++ r ∷ []) rs f.1 k d (omega arith)

  strict : (vs : List (Replied X)) → ((n : ℕ) → count_by (has n) vs ≤ 1) → IsNonDecreasingBy job_number vs → (k : ℕ) → suc k < length (map job_number vs) → slice_index (map job_number vs) k < slice_index (map job_number vs) (suc k)
  strict (x ∷ y ∷ ys) h o zero l =
      let le : job_number x ≤ job_number y = o 0 1 x (omega arith) (omega arith) in
      let ne : job_number x ≢ job_number y = λ e.
      let a : bit (has (job_number y) x) ≡ 1 = rw (eq-eqb (job_number x) (job_number y) e) in
      let b : bit (has (job_number y) y) ≡ 1 = rw (eq-eqb (job_number y) (job_number y) refl) in
      let c = h (job_number y) in
      absurd (omega (arith, sum_by-cons (λ z. cond (has (job_number y) z) 1 0) x (y ∷ ys), sum_by-cons (λ z. cond (has (job_number y) z) 1 0) y ys)) in
      omega arith
  strict (x ∷ y ∷ ys) h o (suc k) l =
      strict (y ∷ ys) (λ n. let c = h n in omega (arith, sum_by-cons (λ z. cond (has n z) 1 0) x (y ∷ ys))) (λ i j d p q. o (suc i) (suc j) d (omega arith) (omega arith)) k (omega arith)
  strict _ h o k l = absurd (omega arith)

  module _ (jobs : List (Job X)) (rs vs : List (Replied X)) (fine : fault_in jobs [] rs ≡ None) (given : IsPermutation rs vs) where
    one_each : (n : ℕ) → count_by (has n) vs ≤ 1
    one_each n =
        let s = no_doubles jobs [] rs fine (λ m. omega arith) n in
        let p = sum_by-IsPermutation (λ y. cond (has n y) 1 0) rs vs given in omega arith

    pub ordered : IsNonDecreasingBy job_number vs → IsStrictlyIncreasing (map job_number vs)
    ordered o k l = rw add-one (strict vs one_each o k (omega arith))

    pub each : list_all (λ j. list_any (is_reply_to j) rs) jobs ≡ true → All (λ j. count_by (is_reply_to j) vs ≡ 1) jobs
    each a k d l =
        let j : Job X = slice_index_or jobs k d in
        let is : list_any (is_reply_to j) rs ≡ true = AllPass-from_list_all (λ i. list_any (is_reply_to i) rs) jobs a k d l in
        let low = some_counts (is_reply_to j) rs is in
        let p = sum_by-IsPermutation (λ y. cond (is_reply_to j y) 1 0) rs vs given in
        let high = fewer (is_reply_to j) (has j.number) (λ r e. and_left (job_number r == j.number) (((r.job).told).router == (j.told).router) (and_left ((job_number r == j.number) && (((r.job).told).router == (j.told).router)) ((r.job).addr == j.addr) e)) vs in
        let most = one_each j.number in
        omega arith

    pub only : All (λ r. list_any (λ j. is_reply_to j r) jobs ≡ true) vs
    only = All-permutation (λ r. list_any (λ j. is_reply_to j r) jobs ≡ true) rs vs given (no_strangers jobs [] rs fine)
