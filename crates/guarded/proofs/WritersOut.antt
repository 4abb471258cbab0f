-- Writers that are out: how their number changes, and when they are the same as before.
use Rattle.std.proofs.Common.{refl, sym, ap, subst, ◌∙◌, arith, ◌≡◌, ℕ, zero, suc, ◌+◌, ◌≤◌, ◌⊎◌, Bool, true, false, List, [], ◌∷◌, set, Option, Some, None, Result, Ok, Err, is_some, inl, inr}
use Rattle.network_model.proofs.Common.{false≢true, None_not_Some, Patch}
use Rattle.network_model.specs.{declared.step.Refusal.Refusal, declared.step.Step.Step, declared.step.Step.TheVariants.Publish}
use Rattle.world.specs.Steps.{CanBeRefused}
use Rattle.fabric.specs.Fabric.{Fabric, count_lent, fabric_refusal, is_lent, lent_at, next_fabric_step as next_turn}
use Rattle.guarded.specs.Served.{AreBack, CanFailOutside, HasSameOut, IsServed}

-- one that goes out is one more at most
pub count_out : (lent : List (Option Patch)) (i : ℕ) (l : Patch) → count_lent (set lent i (Some l)) ≤ count_lent lent + 1
count_out [] i l = omega arith
count_out (None ∷ xs) zero l = omega arith
count_out (Some m ∷ xs) zero l = omega arith
count_out (None ∷ xs) (suc i) l = count_out xs i l
count_out (Some m ∷ xs) (suc i) l = let rest = count_out xs i l in omega (arith, rest)

-- one that comes back is one fewer
pub count_in : (lent : List (Option Patch)) (i : ℕ) (l : Patch) → lent_at lent i ≡ Some l → count_lent (set lent i None) + 1 ≡ count_lent lent
count_in (Some m ∷ xs) zero l is = omega arith
count_in (None ∷ xs) (suc i) l is = count_in xs i l is
count_in (Some m ∷ xs) (suc i) l is = let rest = count_in xs i l is in omega (arith, rest)
count_in _ _ l is = absurd (None_not_Some is)

-- one that is out stays so where another, or itself, goes out
pub lent_kept : (lent : List (Option Patch)) (i k : ℕ) (l : Option Patch) → (k ≡ i → is_some l ≡ true) → is_some (lent_at lent k) ≡ true → is_some (lent_at (set lent i l) k) ≡ true
lent_kept [] i k l own there = absurd (false≢true there)
lent_kept (x ∷ xs) zero zero l own there = own refl
lent_kept (x ∷ xs) (suc i) (suc k) l own there = lent_kept xs i k l (λ same. own (ap suc same)) there
lent_kept _ _ _ l own there = there

-- where each that was out is out, there are no fewer
fewer : (xs ys : List (Option Patch)) → ((i : ℕ) → is_some (lent_at xs i) ≡ true → is_some (lent_at ys i) ≡ true) → count_lent xs ≤ count_lent ys
fewer [] ys all = omega arith
fewer (None ∷ xs) [] all = fewer xs [] (λ i there. all (suc i) there)
fewer (None ∷ xs) (None ∷ ys) all = fewer xs ys (λ i there. all (suc i) there)
fewer (None ∷ xs) (Some m ∷ ys) all = let rest = fewer xs ys (λ i there. all (suc i) there) in omega (arith, rest)
fewer (Some l ∷ xs) (Some m ∷ ys) all = let rest = fewer xs ys (λ i there. all (suc i) there) in omega (arith, rest)
fewer _ _ all = absurd (false≢true (all zero refl))

-- where there are no more either, the same are
same_out : (xs ys : List (Option Patch)) → ((i : ℕ) → is_some (lent_at xs i) ≡ true → is_some (lent_at ys i) ≡ true) → count_lent ys ≤ count_lent xs → (i : ℕ) → is_some (lent_at ys i) ≡ is_some (lent_at xs i)
same_out [] (None ∷ ys) all few (suc i) = same_out [] ys (λ k none. absurd (false≢true none)) few i
same_out [] (Some m ∷ ys) all few i = absurd (omega (arith, few))
same_out (None ∷ xs) [] all few (suc i) = same_out xs [] (λ k there. all (suc k) there) few i
same_out (Some l ∷ xs) [] all few i = absurd (false≢true (all zero refl))
same_out (None ∷ xs) (None ∷ ys) all few (suc i) = same_out xs ys (λ k there. all (suc k) there) few i
same_out (None ∷ xs) (Some m ∷ ys) all few i = let rest = fewer xs ys (λ k there. all (suc k) there) in absurd (omega (arith, few, rest))
same_out (Some l ∷ xs) (None ∷ ys) all few i = absurd (false≢true (all zero refl))
same_out (Some l ∷ xs) (Some m ∷ ys) all few (suc i) = same_out xs ys (λ k there. all (suc k) there) (omega (arith, few)) i
same_out _ _ all few _ = refl

-- where no more writers are out than when the fabric was opened, the same are
pub all_back : (opened : Fabric) (asked : Step → Bool) (fabric : Fabric) → IsServed opened asked fabric → count_lent fabric.lent ≤ count_lent opened.lent → HasSameOut opened fabric
all_back opened asked fabric served few = same_out opened.lent fabric.lent served.stays few

-- a writer that is in was in then
pub was_in : (opened : Fabric) (asked : Step → Bool) (fabric : Fabric) (i : ℕ) → IsServed opened asked fabric → is_lent fabric i ≡ false → is_lent opened i ≡ false
was_in opened asked fabric i served here = by_test (is_lent opened i) refl
  where
    by_test : (b : Bool) → is_lent opened i ≡ b → is_lent opened i ≡ false
    by_test true out = absurd (false≢true (sym here ∙ served.stays i out))
    by_test false is = is

-- a publication that is due may be refused later, for want of memory, or with its ticket handed back
pub can_fail : (opened : Fabric) (asked : Step → Bool) (fabric : Fabric) (i : ℕ) → IsServed opened asked fabric → next_turn fabric i ≡ Some (Publish i) → fabric_refusal fabric (Publish i) ≡ None → CanFailOutside opened asked
can_fail opened asked fabric i served due free = (
  record { fabric = fabric; served = served; router = i; step = Publish i; due = due; refused = inl (subst (λ o. CanBeRefused o Refusal.NoMemory) (sym free) refl) },
  record { fabric = fabric; served = served; router = i; step = Publish i; due = due; refused = inr (refl, refl) },
)

-- they are, whatever the answer is
pub are_back : {X : Type 0} (opened fabric : Fabric) (r : Result X Refusal) → HasSameOut opened fabric → AreBack opened fabric r
are_back opened fabric (Ok x) same = same
are_back opened fabric (Err e) same = inr same

-- or a ticket was handed back
pub back_or : {X : Type 0} (opened : Fabric) (asked : Step → Bool) (fabric : Fabric) (r : Result X Refusal) → IsServed opened asked fabric → (r ≡ Err Refusal.WrongTicket) ⊎ (count_lent fabric.lent ≤ count_lent opened.lent) → AreBack opened fabric r
back_or opened asked fabric r served (inr few) = are_back opened fabric r (all_back opened asked fabric served few)
back_or {X} opened asked fabric (Ok x) served (inl lost) = let never : ◌≡◌ {A = Result X Refusal} (Ok x) (Err Refusal.WrongTicket) = lost in absurd cc
back_or {X} opened asked fabric (Err e) served (inl lost) =
    let same : ◌≡◌ {A = Result X Refusal} (Err e) (Err Refusal.WrongTicket) = lost in
    inl cc
