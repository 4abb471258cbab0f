-- Runs in which no change is done, and what stands before a change that is.
use Rattle.std.proofs.Common.{◌≡◌, ◌≢◌, ◌≤◌, ◌<◌, ◌+◌, ◌-◌, ◌⊎◌, ℕ, Bool, true, false, nat_lt, ltb-true, max, if◌then◌else◌, MatchBool, MatchOption, List, [], ◌∷◌, drop, length, length-drop, Option, Some, None, option_map, slice_get, unwrap_or, inl, inr, refl, sym, ap, subst, ◌∙◌, arith}
use Rattle.network_model.specs.declared.step.Refusal.{Refusal}
use Rattle.timed_simulation.specs.{declared.events.Change.Change, declared.events.Event.Event, declared.fault.TimeFault.TimeFault, Timed.Timed, Timed.after_event, Timed.world_of}
use Rattle.timed_simulation.specs.Events.{change_event, next_event, router_event, sooner, soonest}
use Rattle.timed_simulation.specs.Due.{IsChange, IsDoneUntil, IsDue, IsOwnDue, NothingIsDue, RisesFrom}
use Rattle.timed_simulation.specs.Runs.{Ascends, IsAtRest, IsStoppedAt, IsTimed, IsTimedRun, LeadsTo}
use Rattle.timed_simulation.proofs.{Moments.next-after, Rising.rises_at, Runs.kept_after, Runs.run_none}
use Rattle.timing.specs.declared.snapshot.Begun.{Begun}
use Rattle.timing.specs.Runs.{ComesNext, IsBegun, IsReady, LeadsAlone}
use Rattle.timing.proofs.Leading.{none_done}

-- ---- what an event leaves of the changes

changes_after : (t : Timed) (e : Event) (b : Bool) → e.given ≡ b → (after_event t e).changes ≡ (if b then drop 1 t.changes else t.changes)
changes_after t e b is = ap (λ (g : Bool). if g then drop 1 t.changes else t.changes) is

-- a change that begins is off the list
first_gone : (t u : Timed) (b : Begun) → IsBegun t b u → u.changes ≡ drop 1 t.changes
first_gone t u b begun = go b.refusal begun.ends
  where
    go : (r : Option Refusal) → ComesNext t b.event u r → u.changes ≡ drop 1 t.changes
    go None comes = ap (λ (x : Timed). x.changes) comes.1 ∙ changes_after t b.event true begun.given
    go (Some r) comes = ap (λ (x : Timed). x.changes) comes.2

-- so one less is to come
pub one_less : (t u v : Timed) (b : Begun) (done count : ℕ) → LeadsAlone t u → IsBegun u b v → length t.changes + done ≡ count → done < count → length v.changes + (done + 1) ≡ count
one_less t u v b done count alone begun left more =
    let gone : length v.changes ≡ length u.changes - 1 = ap length (first_gone u v b begun) ∙ length-drop 1 u.changes in
    let same : length u.changes ≡ length t.changes = ap length alone.changes in
    omega (arith, gone, same, left, more)

pub some_left : (t : Timed) (done count : ℕ) → length t.changes + done ≡ count → done < count → t.changes ≢ []
some_left t done count left more is =
    let none : length t.changes ≡ 0 = ap length is in
    omega (arith, none, left, more)

pub none_left : (cs : List Change) (done count : ℕ) → length cs + done ≡ count → count ≤ done → cs ≡ []
none_left [] done count left past = refl
none_left (c ∷ cs) done count left past = absurd (omega (arith, left, past))

pub some_first : (cs : List Change) → cs ≢ [] → slice_get cs 0 ≡ None → ⊥
some_first [] some none = some refl
some_first (c ∷ cs) some none = cc

-- ---- what is done before the first change

ascends_to : (from : ℕ) (es : List Event) (to : ℕ) → Ascends from es to → from ≤ to
ascends_to from [] to up = up
ascends_to from (e ∷ es) to up =
    let first = up.0 in
    let rest : e.moment ≤ to = ascends_to e.moment es to up.1 in
    omega (arith, first, rest)

-- no change is due before the first
no_sooner : (from : ℕ) (cs : List Change) (k : ℕ) (x c : Change) → RisesFrom (λ (y : Change). y.moment) from cs → slice_get cs k ≡ Some x → slice_get cs 0 ≡ Some c → c.moment ≤ x.moment
no_sooner from [] k x c rises at first = cc
no_sooner from (y ∷ ys) k x c rises at first =
    let same : y ≡ c = ap (λ o. unwrap_or o y) first in
    let least : c.moment ≤ y.moment = (let moments : y.moment ≡ c.moment = ap (λ (z : Change). z.moment) same in omega (arith, moments)) in
    rises_at (λ (z : Change). z.moment) c.moment (y ∷ ys) k x (least, rises.1) at

-- of events before the first change none is a change
alone : (es : List Event) (t u : Timed) (c : Change) → IsTimed t → slice_get t.changes 0 ≡ Some c → LeadsTo t es u → Ascends t.clock es u.clock → u.clock < c.moment → u.changes ≡ t.changes
alone [] t u c kept at leads up soon = ap (λ (x : Timed). x.changes) (sym leads)
alone (e ∷ es) t u c kept at leads up soon =
    by_kind e.given refl (λ same. alone es (after_event t e) u c (kept_after t e kept leads.0) (ap (λ (cs : List Change). slice_get cs 0) same ∙ at) leads.1 up.1 soon)
  where
    by_kind : (b : Bool) → e.given ≡ b → ((after_event t e).changes ≡ t.changes → u.changes ≡ (after_event t e).changes) → u.changes ≡ t.changes
    by_kind true given rest =
        let due : IsChange t e.moment e.step = subst (λ (b : Bool). MatchBool b (IsChange t e.moment e.step) (IsOwnDue t e.moment e.step)) given (leads.0).due in
        let late : c.moment ≤ e.moment = no_sooner t.clock t.changes due.place (record { moment = e.moment; step = e.step }) c (kept.on_time).of_changes due.at at in
        let end : e.moment ≤ u.clock = ascends_to e.moment es u.clock up.1 in
        absurd (omega (arith, late, end, soon))
    by_kind false own rest =
        let same : (after_event t e).changes ≡ t.changes = changes_after t e false own in
        rest same ∙ same

pub before_alone : (t u : Timed) (n moment : ℕ) (c : Change) → IsTimed t → slice_get t.changes 0 ≡ Some c → c.moment ≢ 0 → moment ≡ c.moment - 1 → IsTimedRun t u n → (n ≡ 0) ⊎ (u.clock ≤ moment) → LeadsAlone t u
before_alone t u n moment c kept at some is run until = record { done = n; run = run; changes = go until }
  where
    go : (n ≡ 0) ⊎ (u.clock ≤ moment) → u.changes ≡ t.changes
    go (inl none) = ap (λ (x : Timed). x.changes) (none_done t u n run none)
    go (inr soon) = alone run.events t u c kept at run.leads run.ascends (omega (arith, soon, is, some))

-- then the first change is what is left to do first
pub before_ready : (t u : Timed) (n moment most : ℕ) (c : Change) (fault : Option TimeFault) → slice_get t.changes 0 ≡ Some c → moment ≡ c.moment - 1 → u.changes ≡ t.changes
    → MatchOption fault (IsDoneUntil moment u ⊎ (n ≡ most)) (IsStoppedAt u) → fault ≡ None → n < most → IsReady u
before_ready t u n moment most c fault at is same stop none few = record {
  change = c;
  at = ap (λ (cs : List Change). slice_get cs 0) same ∙ at;
  first = go (subst (λ (o : Option TimeFault). MatchOption o (IsDoneUntil moment u ⊎ (n ≡ most)) (IsStoppedAt u)) none stop);
}
  where
    go : IsDoneUntil moment u ⊎ (n ≡ most) → (d : Event) → IsDue u d → c.moment ≤ d.moment
    go (inl until) d due =
        let later : moment < d.moment = until d due in
        omega (arith, later, is)
    go (inr all) d due = absurd (omega (arith, all, few))

-- so it is where the first change is one of the first moment
pub alone_none : (t : Timed) → LeadsAlone t t
alone_none t = record { done = 0; run = run_none t; changes = refl }

pub ready_at_once : (t : Timed) (c : Change) → slice_get t.changes 0 ≡ Some c → c.moment ≡ 0 → IsReady t
ready_at_once t c at now = record { change = c; at = at; first = λ d due. omega (arith, now) }

-- ---- the first change is done next

first_of_two : (a b : Option Event) (e x : Event) → sooner a b ≡ Some e → a ≡ Some x → x.moment ≤ e.moment → e ≡ x
first_of_two None b e x is at le = cc
first_of_two (Some a) None e x is at le = ap (λ o. unwrap_or o a) (sym is ∙ at)
first_of_two (Some a) (Some b) e x is at le = by_order (nat_lt b.moment a.moment) refl is
  where
    by_order : (t : Bool) → nat_lt b.moment a.moment ≡ t → (if t then Some b else Some a) ≡ Some e → e ≡ x
    by_order true lt one =
        let less : b.moment < a.moment = ltb-true b.moment a.moment lt in
        let same : b.moment ≡ e.moment = ap (λ (o : Option Event). (unwrap_or o b).moment) one in
        let other : a.moment ≡ x.moment = ap (λ (o : Option Event). (unwrap_or o a).moment) at in
        absurd (omega (arith, less, same, other, le))
    by_order false lt one = ap (λ o. unwrap_or o a) (sym one ∙ at)

pub ready_given : (t : Timed) (e : Event) → IsReady t → next_event t ≡ Some e → IsDue t e → e.given ≡ true
ready_given t e ready next due =
    let c = ready.change in
    let x : Event = record { moment = max t.clock c.moment; step = c.step; given = true } in
    let now : t.clock ≤ e.moment = next-after t e next in
    let first : c.moment ≤ e.moment = ready.first e due in
    let at : change_event t ≡ Some x = ap (option_map (λ (y : Change). record { moment = max t.clock y.moment; step = y.step; given = true })) ready.at in
    let le : max t.clock c.moment ≤ e.moment = omega (arith, now, first) in
    let same : e ≡ x = first_of_two (change_event t) (soonest (router_event t) (length (world_of t).routers)) e x next at le in
    ap (λ (y : Event). y.given) same

pub ready_some : (t : Timed) → IsReady t → NothingIsDue t → ⊥
ready_some t ready none =
    none (record { moment = (ready.change).moment; step = (ready.change).step; given = true }) (record { place = 0; at = ready.at })

-- ---- what is done to the end

pub rest_alone : (t u : Timed) (n : ℕ) → t.changes ≡ [] → IsTimedRun t u n → IsAtRest u → LeadsAlone t u
rest_alone t u n none run rest = record { done = n; run = run; changes = rest.0 ∙ sym none }

pub at_rest : (u : Timed) (n most : ℕ) (fault : Option TimeFault) → MatchOption fault (IsAtRest u ⊎ (n ≡ most)) (IsStoppedAt u) → fault ≡ None → n < most → IsAtRest u
at_rest u n most fault stop none few = go (subst (λ (o : Option TimeFault). MatchOption o (IsAtRest u ⊎ (n ≡ most)) (IsStoppedAt u)) none stop)
  where
    go : IsAtRest u ⊎ (n ≡ most) → IsAtRest u
    go (inl rest) = rest
    go (inr all) = absurd (omega (arith, all, few))
