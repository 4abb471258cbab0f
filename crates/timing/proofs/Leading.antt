-- Runs in which changes are done, one after another.
use Rattle.std.proofs.Common.{◌≡◌, ℕ, ◌+◌, ◌<◌, ◌≤◌, ◌⊎◌, inl, inr, zero, suc, List, [], ◌∷◌, ◌++◌, drop, get_or, length, Some, unwrap_or, refl, sym, ap, subst, ◌∙◌, arith, Result, Ok, Err, false, OnOk, true≢false}
use Rattle.std.specs.{Bool.⊤, Result.is_err}
use Rattle.timed_simulation.specs.{declared.events.Change.Change, declared.events.Event.Event, Timed.Timed, Timed.after_event, Timed.with_timed_change, Events.next_event, Due.IsDue, Due.IsDoneUntil, Runs.IsNext, Runs.IsTimedRun, Runs.LeadsTo}
use Rattle.timed_simulation.proofs.Runs.{run_more, run_none}
use Rattle.timed_reports.specs.{declared.recording.Recording.Recording, declared.recording.Recording.TheVariants.On, declared.recording.Recording.TheVariants.Off, Recordings.timed_in, Recordings.with_timed}
use Rattle.timing.specs.declared.snapshot.Begun.{Begun}
use Rattle.timing.specs.Runs.{IsBegun, Leads, LeadsAlone, with_changes}

-- ---- one run after another

run_on : (es : List Event) (old mid new : Timed) (done : ℕ) → IsTimedRun old mid done → LeadsTo mid es new → IsTimedRun old new (done + length es)
run_on [] old mid new done run leads =
    let same : done ≡ done + length {A = Event} [] = omega arith in
    subst (λ u. IsTimedRun old u (done + length {A = Event} [])) leads (subst (IsTimedRun old mid) same run)
run_on (e ∷ es) old mid new done run leads =
    let one = run_more old mid (after_event mid e) done e run leads.0 refl in
    let same : (done + 1) + length es ≡ done + length (e ∷ es) = omega arith in
    subst (IsTimedRun old new) same (run_on es old (after_event mid e) new (done + 1) one leads.1)

pub runs_on : (old mid new : Timed) (a b : ℕ) → IsTimedRun old mid a → IsTimedRun mid new b → (n : ℕ) × IsTimedRun old new n
runs_on old mid new a b one two = (a + length two.events, run_on two.events old mid new a one two.leads)

-- ---- changes

pub leads_none : (t : Timed) → Leads t [] t
leads_none t = record { done = 0; run = run_none t; changes = refl }

pub leads_on : (t : Timed) (bs : List Begun) (u v : Timed) → Leads t bs u → LeadsAlone u v → Leads t bs v
leads_on t [] u v leads more =
    let both = runs_on t u v leads.done more.done leads.run more.run in
    record { done = both.0; run = both.1; changes = more.changes ∙ leads.changes }
leads_on t (b ∷ bs) u v leads more = (leads.0, leads.1, leads.2, leads.3, leads_on leads.1 bs u v leads.4 more)

pub leads_push : (t : Timed) (bs : List Begun) (u v : Timed) (b : Begun) → Leads t bs u → IsBegun u b v → Leads t (bs ++ b ∷ []) v
leads_push t [] u v b leads begun = (u, v, leads, begun, leads_none v)
leads_push t (x ∷ xs) u v b leads begun = (leads.0, leads.1, leads.2, leads.3, leads_push leads.1 xs u v b leads.4 begun)

-- ---- the next event

-- what was to be done, and is not to be done any more, was done
pub one_done : (t u : Timed) (e : Event) (n : ℕ) → next_event t ≡ Some e → IsDue t e → IsTimedRun t u n → n ≤ 1 → IsDoneUntil e.moment u ⊎ (n ≡ 1) → IsNext t e × (u ≡ after_event t e)
one_done t u e n next due run few stop = go run.events run.count run.leads
  where
    go : (es : List Event) → length es ≡ n → LeadsTo t es u → IsNext t e × (u ≡ after_event t e)
    go [] count leads = elim stop [
      | inl until ↦ absurd (omega (arith, until e (subst (λ v. IsDue v e) leads due)))
      | inr one ↦ absurd (omega (arith, count, one))
    ]
    go (x ∷ []) count leads =
        let same : x ≡ e = ap (λ o. unwrap_or o e) (sym (leads.0).next ∙ next) in
        (subst (IsNext t) same leads.0, sym leads.1 ∙ ap (after_event t) same)
    go (x ∷ y ∷ ys) count leads = absurd (omega (arith, count, few))

-- a run of no event changes nothing
pub none_done : (t u : Timed) (n : ℕ) → IsTimedRun t u n → n ≡ 0 → u ≡ t
none_done t u n run none = go run.events run.count run.leads
  where
    go : (es : List Event) → length es ≡ n → LeadsTo t es u → u ≡ t
    go [] count leads = sym leads
    go (x ∷ xs) count leads = absurd (omega (arith, count, none))

-- ---- changes that are given

-- what becomes of the network in simulated time, whether a record is kept or not
pub timed_with : (f : Timed → Timed) (r : Recording) → timed_in (with_timed f r) ≡ f (timed_in r)
timed_with f (Off t) = refl
timed_with f (On r) = refl

given_more : (cs : List Change) (i : ℕ) (d : Change) (t : Timed) → i < length cs
    → with_changes (drop i cs) t ≡ with_changes (drop (suc i) cs) (with_timed_change (get_or cs i d) t)
given_more [] i d t within = absurd (omega (arith, within))
given_more (c ∷ cs) zero d t within = refl
given_more (c ∷ cs) (suc i) d t within = given_more cs i d t (omega (arith, within))

-- what was done, where it was not refused
on_ok : {X E : Type 0} (r : Result X E) (P : Type 0) → false ≡ is_err r → OnOk r P → P
on_ok (Ok x) P ok holds = holds
on_ok (Err e) P ok holds = absurd (true≢false (sym ok))

-- what follows of it
pub on_ok_more : {X E : Type 0} (r : Result X E) (P Q : Type 0) → (P → Q) → OnOk r P → OnOk r Q
on_ok_more (Ok x) P Q more holds = more holds
on_ok_more (Err e) P Q more holds = tt

pub given_at : {E : Type 0} (cs : List Change) (i : ℕ) (c : Change) (r : Result ⊤ E) (t u wanted : Timed) → i < length cs → c ≡ get_or cs i c
    → with_changes (drop i cs) t ≡ wanted → false ≡ is_err r → OnOk r (u ≡ with_timed_change c t) → with_changes (drop (i + 1) cs) u ≡ wanted
given_at cs i c r t u wanted within is so_far ok done =
    let next : suc i ≡ i + 1 = omega arith in
    subst (λ n. with_changes (drop n cs) u ≡ wanted) next
    (ap (with_changes (drop (suc i) cs)) (on_ok r (u ≡ with_timed_change c t) ok done ∙ ap (λ x. with_timed_change x t) is) ∙ sym (given_more cs i c t within) ∙ so_far)
