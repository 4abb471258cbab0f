-- Elements that are written, as C is shown them, over the first of those that were there.
use Rattle.std.proofs.Common.{refl, sym, ap, ◌∙◌, arith, subst, ◌≡◌, ℕ, ◌+◌, ◌<◌, ◌≤◌, inl, inr, ◌⊎◌, List, [], ◌∷◌, ◌++◌, map, length, take, drop, set, get_or, slice_get, Option, Some, None, IfSome, option_map, option_and_then, nat_lt, false, length-set, le-ltb}
use Rattle.std.proofs.lemmas.Grind.{drop_more_same}
use Rattle.std.proofs.lemmas.List.{drop-set-lt, length-take-le, map-append, take_all, take_more, take_more_set}
use Rattle.std.proofs.lemmas.Option.{get_or_from_slice_get, none-some, slice_get_cases, slice_get_within}
use Rattle.single_router.specs.States.{flag}
use Rattle.network_calls.specs.Shown.{AreShownOver}

-- the first n elements of this list were written
pub record AreFirst {X S : Type 0} (shown : X → S) (list : List X) (old now : List S) (n : ℕ) : Type 0 where
  pub count : length now ≡ length old
  pub within : n ≤ length list
  pub first : take n now ≡ map shown (take n list)
  pub rest : drop n now ≡ drop n old

module _ {X S : Type 0} (shown : X → S) (list : List X) (old : List S) where
  pub none : AreFirst shown list old old 0
  none = record { count = refl; within = omega arith; first = refl; rest = refl }

  pub more : (now : List S) (n : ℕ) (x : X) → slice_get list n ≡ Some x → n < length now → AreFirst shown list old now n → AreFirst shown list old (set now n (shown x)) (n + 1)
  more now n x is below f =
      let there : n < length list = slice_get_within list n x is in
      record {
        count = length-set now n (shown x) ∙ f.count;
        within = omega (arith, there);
        first = take_more_set now n (shown x) below ∙ ap (λ xs. xs ++ shown x ∷ []) f.first
            ∙ sym (ap (map shown) (take_more list n x there ∙ ap (λ y. take n list ++ y ∷ []) (get_or_from_slice_get list n x x is)) ∙ map-append shown (take n list) (x ∷ []));
        rest = drop-set-lt (n + 1) now n (shown x) (omega arith) ∙ drop_more_same now old n f.rest;
      }

  -- where there is no more room
  pub full : (now : List S) → AreFirst shown list old now (length now) → AreShownOver shown list old now (length now) (flag (nat_lt (length now) (length list)))
  full now f = record {
    count = f.count ∙ sym (length-take-le (length old) list (subst (λ n. n ≤ length list) f.count f.within));
    first = f.first ∙ ap (λ n. map shown (take n list)) f.count;
    rest = f.rest;
    more_is = ap (λ n. flag (nat_lt n (length list))) f.count;
  }

  -- where there is no more element
  pub ended : (now : List S) (n : ℕ) → slice_get list n ≡ None → n < length now → AreFirst shown list old now n → AreShownOver shown list old now n (flag false)
  ended now n gone below f =
      let over : length list ≤ n = past (slice_get_cases list n).1 in
      let all : length list ≤ length old = omega (arith, over, below, f.count) in
      let taken : take (length old) list ≡ list = take_all (length old) list all in
      let last : n ≡ length list = omega (arith, over, f.within) in
      record {
        count = last ∙ sym (ap length taken);
        first = f.first ∙ ap (map shown) (take_all n list over ∙ sym taken);
        rest = f.rest;
        more_is = sym (ap flag (le-ltb (length old) (length list) all));
      }
    where
      past : ((x : X) × (n < length list) × (slice_get list n ≡ Some x) × (get_or list n x ≡ x)) ⊎ ((length list ≤ n) × (slice_get list n ≡ None)) → length list ≤ n
      past (inl h) = absurd (none-some h.0 (sym gone ∙ h.2))
      past (inr h) = h.0

  -- as a loop has them
  pub more_by : (now : List S) (n : ℕ) (x : X) (s : S) → Some x ≡ slice_get list n → s ≡ shown x → n < length now → AreFirst shown list old now n → AreFirst shown list old (set now n s) (n + 1)
  more_by now n x s is by below f = subst (λ y. AreFirst shown list old (set now n y) (n + 1)) (sym by) (more now n x (sym is) below f)

  pub full_by : (now : List S) (n count : ℕ) → count ≡ length list → n ≡ length now → AreFirst shown list old now n → AreShownOver shown list old now (length now) (flag (nat_lt (length now) count))
  full_by now n count is all f = subst (λ q. AreShownOver shown list old now (length now) (flag (nat_lt (length now) q))) (sym is) (full now (subst (AreFirst shown list old now) all f))

-- ---- in a list of what may be there

module _ {C X S : Type 0} (list_of : C → List X) (shown : X → S) (old : List S) where
  abbrev pub AreFirstOf : Option C → List S → ℕ → Type 0
  AreFirstOf o now n = IfSome o (λ k. AreFirst shown (list_of k) old now n)

  pub none_of : (o : Option C) → AreFirstOf o old 0
  none_of None = tt
  none_of (Some k) = none shown (list_of k) old

  pub more_of : (o : Option C) (now : List S) (n : ℕ) (x : X) (s : S) → IfSome o (λ k. Some x ≡ slice_get (list_of k) n) → s ≡ shown x → n < length now → AreFirstOf o now n → AreFirstOf o (set now n s) (n + 1)
  more_of None now n x s is by below f = tt
  more_of (Some k) now n x s is by below f = more_by shown (list_of k) old now n x s is by below f

  pub ended_of : (o : Option C) (now : List S) (n : ℕ) → IfSome o (λ k. None ≡ slice_get (list_of k) n) → n < length now → AreFirstOf o now n → IfSome o (λ k. AreShownOver shown (list_of k) old now n (flag false))
  ended_of None now n is below f = tt
  ended_of (Some k) now n is below f = ended shown (list_of k) old now n (sym is) below f

  pub full_of : (o : Option C) (now : List S) (n count : ℕ) → IfSome o (λ k. count ≡ length (list_of k)) → n ≡ length now → AreFirstOf o now n
      → IfSome o (λ k. AreShownOver shown (list_of k) old now (length now) (flag (nat_lt (length now) count)))
  full_of None now n count is all f = tt
  full_of (Some k) now n count is all f = full_by shown (list_of k) old now n count is all f

-- an element that was read there, and how many there are
module _ {C X : Type 0} (list_of : C → List X) where
  pub read_there : (o : Option C) (n : ℕ) (r : Option X) → r ≡ option_and_then (λ k. slice_get (list_of k) n) o → IfSome o (λ k. r ≡ slice_get (list_of k) n)
  read_there None n r is = tt
  read_there (Some k) n r is = is

  pub counted_there : (o : Option C) (count : ℕ) → option_map (λ k. length (list_of k)) o ≡ Some count → IfSome o (λ k. count ≡ length (list_of k))
  counted_there None count is = tt
  counted_there (Some k) count is = sym (Some_is is)
    where
      Some_is : {a b : ℕ} → Some a ≡ Some b → a ≡ b
      Some_is is = cc
