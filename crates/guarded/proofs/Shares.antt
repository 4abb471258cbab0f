-- New shares, one after another; what holders have out when they have served; and why a turn is refused.
use Rattle.std.specs.Prelude.{◌≡◌, ℕ, suc, ◌+◌, ◌<◌, ◌⊎◌, None, Ok, MatchResult, IfSome, Bool, List, [], ◌∷◌, ◌++◌, length, sum_by, get_or, if◌then◌else◌, ◌==◌, Option, Some, Result, Err, ⊤}
use Rattle.std.proofs.Common.{refl, sym, ap, subst, ◌∙◌, arith, inl, inr}
use Rattle.std.proofs.lemmas.List.Sums.{sum_by-cons}
use Rattle.network_model.specs.{declared.step.Step.Step, declared.step.Refusal.Refusal, declared.step.Step.TheVariants.Publish}
use Rattle.publication.specs.Lists.{EachAt}
use Rattle.publication.proofs.Places.{each-push}
use Rattle.world.specs.Steps.{CanBeRefused}
use Rattle.fabric.specs.Fabric.{Fabric, fabric_refusal, next_fabric_step}
use Rattle.guarded.specs.{declared.share.Share.Share, Served.IsFound, Served.IsTurn, Served.IsTurnRefused}
use Rattle.guarded.specs.Shares.{AreNew, HaveServed, KeptTickets, OweAsBefore, owes}

pub new_more : {N : Type 0} (sum : ℕ) (ss ts : List (Share N)) (s : Share N) (n : ℕ) → AreNew sum ss → ts ≡ ss ++ s ∷ [] → length ss ≡ n → s.number ≡ n → s.sum ≡ (if n == 0 then sum else 0) → owes s ≡ 0 → AreNew sum ts
new_more sum ss ts s n new is many number its home =
    subst (AreNew sum) (sym is)
    (each-push (λ k t. (t.number ≡ k) × (t.sum ≡ (if k == 0 then sum else 0)) × (owes t ≡ 0)) ss s new
    (subst (λ k. (s.number ≡ k) × (s.sum ≡ (if k == 0 then sum else 0)) × (owes s ≡ 0)) (sym many) (number, its, home)))

-- new holders have no writer out
pub new_home : {N : Type 0} (sum : ℕ) (ss : List (Share N)) → AreNew sum ss → sum_by owes ss ≡ 0
new_home {N} sum ss new = by_each ss (λ k d within. (new k d within).2)
  where
    by_each : (ts : List (Share N)) → EachAt (λ k t. owes t ≡ 0) ts → sum_by owes ts ≡ 0
    by_each [] each = refl
    by_each (t ∷ ts) each =
        let first : owes t ≡ 0 = each 0 t (omega arith) in
        let rest = by_each ts (λ k d within. each (suc k) d (omega (arith, within))) in
        omega (arith, sum_by-cons owes t ts, first, rest)

-- holders to whom no ticket was handed back have as many out as before
pub owe_as_before : {N : Type 0} (ss ts : List (Share N)) → HaveServed ss ts → KeptTickets ts → OweAsBefore ss ts
owe_as_before {N} ss ts served kept k d within = by_case (served.1 k d within).1
  where
    by_case : ((get_or ts k d).halt ≡ Some Refusal.WrongTicket) ⊎ (owes (get_or ts k d) ≡ owes (get_or ss k d)) → owes (get_or ts k d) ≡ owes (get_or ss k d)
    by_case (inl lost) = absurd (kept k d (subst (λ n. k < n) (sym served.0) within) lost)
    by_case (inr same) = same

-- so they have as many out together
pub owe_in_all : {N : Type 0} (ss ts : List (Share N)) → length ts ≡ length ss → OweAsBefore ss ts → sum_by owes ts ≡ sum_by owes ss
owe_in_all [] [] long same = refl
owe_in_all (s ∷ ss) (t ∷ ts) long same =
    let first : owes t ≡ owes s = same 0 s (omega arith) in
    let rest = owe_in_all ss ts (omega (arith, long)) (λ k d within. same (suc k) d (omega (arith, within))) in
    omega (arith, sum_by-cons owes s ss, sum_by-cons owes t ts, first, rest)
owe_in_all _ _ long same = absurd (omega (arith, long))

-- a holder who is known to have all back, unless it met that a ticket was handed back
pub halted : {P : Type 0} (answer : Result ⊤ Refusal) (halt : Option Refusal) → MatchResult answer (λ _. halt ≡ None) (λ e. halt ≡ Some e) → (answer ≡ Err Refusal.WrongTicket) ⊎ P → (halt ≡ Some Refusal.WrongTicket) ⊎ P
halted answer halt is (inr back) = inr back
halted (Ok x) halt is (inl lost) = let never : ◌≡◌ {A = Result ⊤ Refusal} (Ok x) (Err Refusal.WrongTicket) = lost in absurd cc
halted (Err e) halt is (inl lost) =
    let same : ◌≡◌ {A = Result ⊤ Refusal} (Err e) (Err Refusal.WrongTicket) = lost in
    let that : e ≡ Refusal.WrongTicket = cc in
    inl (is ∙ ap Some that)

-- a call that ended so
pub lost_or : {P : Type 0} (done : Result ⊤ Refusal) → MatchResult done (λ _. P) (λ e. (e ≡ Refusal.WrongTicket) ⊎ P) → (done ≡ Err Refusal.WrongTicket) ⊎ P
lost_or (Ok x) back = inr back
lost_or (Err e) (inl lost) = inl (ap Err lost)
lost_or (Err e) (inr back) = inr back

-- passes, after which all tickets were given back
pub gave_back : (done answer : Result ⊤ Refusal) (old between new none out : ℕ) → MatchResult done (λ _. between + none ≡ old + out) (λ e. (e ≡ Refusal.WrongTicket) ⊎ (between + none ≡ old + out)) → none ≡ 0
    → (answer ≡ Err Refusal.WrongTicket) ⊎ ((new + out ≡ between) × (answer ≡ done)) → (answer ≡ Err Refusal.WrongTicket) ⊎ (new ≡ old)
gave_back done answer old between new none out passed at_first (inl lost) = inl lost
gave_back done answer old between new none out passed at_first (inr back) = by_case (lost_or done passed)
  where
    by_case : (done ≡ Err Refusal.WrongTicket) ⊎ (between + none ≡ old + out) → (answer ≡ Err Refusal.WrongTicket) ⊎ (new ≡ old)
    by_case (inl lost) = inl (back.1 ∙ lost)
    by_case (inr kept) = let sum = back.0 in inr (omega (arith, sum, kept, at_first))

-- a turn that was refused at one of the routers
pub turn_refused : (opened : Fabric) (asked : Step → Bool) (shares sum i : ℕ) (f : Fabric) (answer : Result (Option Step) Refusal) (e : Refusal) → IsFound opened asked shares sum f → i < (opened.network).routers
    → answer ≡ Err e → IsTurn f i answer → IsTurnRefused opened asked e
turn_refused opened asked shares sum i f answer e found within is turn = by_turn (subst (IsTurn f i) is turn)
  where
    by_turn : IsTurn f i (Err e) → IsTurnRefused opened asked e
    by_turn (inl none) = let many = found.routers in let beyond = none.0 in absurd (omega (arith, many, beyond, within))
    by_turn (inr due) = record { fabric = f; served = found.served; router = i; step = due.0; due = due.1; refused = due.2 }

-- a turn that began, and whose writer is out
pub began : {X : Type 0} (f : Fabric) (i : ℕ) (r : Result (Option Step) Refusal) (out : Option X) (t : X) (P Q : X → Type 0) → IsTurn f i r → IfSome out (λ t. (r ≡ Ok (Some (Publish i))) × (fabric_refusal f (Publish i) ≡ None) × P t × Q t) → out ≡ Some t
    → (next_fabric_step f i ≡ Some (Publish i)) × (fabric_refusal f (Publish i) ≡ None)
began {X} f i r out t P Q turn its is =
    let has = subst (λ o. IfSome o (λ t. (r ≡ Ok (Some (Publish i))) × (fabric_refusal f (Publish i) ≡ None) × P t × Q t)) is its in
    ((subst (IsTurn f i) has.0 turn).0, has.1)

-- its publication is refused for want of memory
pub out_of_memory : (f : Fabric) (i : ℕ) → (next_fabric_step f i ≡ Some (Publish i)) × (fabric_refusal f (Publish i) ≡ None) → IsTurn f i (Err Refusal.NoMemory)
out_of_memory f i due = inr (Publish i, due.0, inl (subst (λ o. CanBeRefused o Refusal.NoMemory) (sym due.1) refl))

pub handed_back : (f : Fabric) (i : ℕ) → (next_fabric_step f i ≡ Some (Publish i)) × (fabric_refusal f (Publish i) ≡ None) → IsTurn f i (Err Refusal.WrongTicket)
handed_back f i due = inr (Publish i, due.0, inr (refl, refl))
