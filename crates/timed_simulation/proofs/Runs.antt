-- What events leave of what every timed simulation keeps.
use Rattle.std.proofs.Common.{refl, sym, ap, subst, ◌∙◌, arith, inl, inr, length-append, ◌≡◌, ◌⊎◌, ℕ, ◌+◌, ◌≤◌, ◌<◌, if◌then◌else◌, List, [], ◌∷◌, ◌++◌, drop, length, IfSome, IfNone, Option, Some, None}
use Rattle.no_packet_loops.proofs.Common.{World, Network, IsNetwork, opening, Lawful, next, Refusal, Runs}
use Rattle.world.specs.Steps.{CanBeRefused}
use Rattle.world.proofs.Runs.{with_last_step}
use Rattle.simulation.specs.Simulation.{Simulation, after_step}
use Rattle.timed_simulation.specs.{declared.events.Change.Change, declared.events.Event.Event, declared.events.RouterTime.RouterTime, declared.fault.TimeFault.TimeFault, declared.links.LinkDelays.LinkDelays, Events.next_event}
use Rattle.timed_simulation.specs.Links.{TimedLink, last_moment, links_after, motion_of}
use Rattle.timed_simulation.specs.Timed.{Timed, after_event, after_events, begins_at, opening_timed, routers_after, timed_of, world_of}
use Rattle.timed_simulation.specs.Due.{IsDue, IsFirst, NothingIsDue, RisesFrom}
use Rattle.timed_simulation.specs.Runs.{Ascends, IsNext, IsStoppedShort, IsTimed, IsTimedRun, LeadsTo, steps_of}
use Rattle.timed_simulation.proofs.{Moments.next-after, First.next_due, First.next_first, First.nothing_due, OnTime.on_time_after, OnTime.opened, Since.none_due, Since.since_after}

-- ---- one event more

ascends_push : (from : ℕ) (es : List Event) (mid : ℕ) (e : Event) → Ascends from es mid → mid ≤ e.moment → Ascends from (es ++ e ∷ []) e.moment
ascends_push from [] mid e up more = (omega (arith, up, more), omega arith)
ascends_push from (x ∷ xs) mid e up more = (up.0, ascends_push x.moment xs mid e up.1 more)

steps_push : (es : List Event) (e : Event) → steps_of (es ++ e ∷ []) ≡ steps_of es ++ e.step ∷ []
steps_push [] e = refl
steps_push (x ∷ xs) e = ap (λ ss. x.step ∷ ss) (steps_push xs e)

leads_push : (t : Timed) (es : List Event) (u : Timed) (e : Event) → LeadsTo t es u → IsNext u e → LeadsTo t (es ++ e ∷ []) (after_event u e)
leads_push t [] u e leads is = (subst (λ v. IsNext v e) (sym leads) is, ap (λ v. after_event v e) leads)
leads_push t (x ∷ xs) u e leads is = (leads.0, leads_push (after_event t x) xs u e leads.1 is)

after_push : (t : Timed) (es : List Event) (e : Event) → after_events t (es ++ e ∷ []) ≡ after_event (after_events t es) e
after_push t [] e = refl
after_push t (x ∷ xs) e = after_push (after_event t x) xs e

runs_push : (w : World) (es : List Event) (v : World) (e : Event) → Runs w (steps_of es) v → Lawful v e.step → Runs w (steps_of (es ++ e ∷ [])) (next v e.step)
runs_push w es v e runs lawful = subst (λ ss. Runs w ss (next v e.step)) (sym (steps_push es e)) (with_last_step w (steps_of es) v e.step runs lawful)

-- ---- what is kept

pub kept_open : (n : Network) → IsNetwork n → (delays : List LinkDelays) (waits : List ℕ) → length delays ≡ length n.links → length waits ≡ n.routers → IsTimed (opening_timed n delays waits)
kept_open n valid delays waits each_link each_router = record {
  valid = valid;
  on_time = opened n delays waits each_link each_router;
  done = [];
  ascends = omega arith;
  runs = refl;
  since = λ i x at due. absurd (none_due n valid i due);
}

-- what is next, is due just then, and nothing is due sooner
pub is_next : (t : Timed) (e : Event) → IsTimed t → next_event t ≡ Some e → e.moment < last_moment → Lawful (world_of t) e.step → IsNext t e
is_next t e kept next short lawful = record { next = next; due = next_due t kept.on_time e next; first = next_first t kept.on_time e next; in_time = short; lawful = lawful }

pub kept_after : (t : Timed) (e : Event) → IsTimed t → IsNext t e → IsTimed (after_event t e)
kept_after t e kept is = record {
  valid = kept.valid;
  on_time = on_time_after t kept.valid (steps_of kept.done) kept.runs kept.on_time e is.next (next-after t e is.next) is.in_time is.lawful;
  done = kept.done ++ e ∷ [];
  ascends = ascends_push 0 kept.done t.clock e kept.ascends (next-after t e is.next);
  runs = runs_push (opening (t.simulation).network) kept.done (world_of t) e kept.runs is.lawful;
  since = since_after (opening (t.simulation).network) kept.done (world_of t) t.routers e kept.runs is.lawful kept.since;
}

-- the same of what is next, if anything is
pub due_if : (t : Timed) → IsTimed t → (o : Option Event) → o ≡ next_event t → IfSome o (IsDue t)
due_if t kept None is = tt
due_if t kept (Some e) is = next_due t kept.on_time e (sym is)

pub first_if : (t : Timed) → IsTimed t → (o : Option Event) → o ≡ next_event t → IfSome o (IsFirst t)
first_if t kept None is = tt
first_if t kept (Some e) is = next_first t kept.on_time e (sym is)

pub nothing_if : (t : Timed) → IsTimed t → (o : Option Event) → o ≡ next_event t → IfNone o (NothingIsDue t)
nothing_if t kept None is = nothing_due t kept.on_time (sym is)
nothing_if t kept (Some e) is = tt

-- with other changes, of which none is late
pub kept_changes : (t : Timed) (cs : List Change) → IsTimed t → RisesFrom (λ (c : Change). c.moment) t.clock cs → IsTimed (record t { changes = cs })
kept_changes t cs kept rises = record {
  valid = kept.valid;
  on_time = record { on_links = (kept.on_time).on_links; at_routers = (kept.on_time).at_routers; of_changes = rises };
  done = kept.done;
  ascends = kept.ascends;
  runs = kept.runs;
  since = kept.since;
}

-- ---- runs

pub run_none : (t : Timed) → IsTimedRun t t 0
run_none t = record { events = []; count = refl; leads = refl; ascends = omega arith; runs = refl; after = refl }

pub run_more : (old mid new : Timed) (done : ℕ) (e : Event) → IsTimedRun old mid done → IsNext mid e → new ≡ after_event mid e → IsTimedRun old new (done + 1)
run_more old mid new done e run is made = subst (λ u. IsTimedRun old u (done + 1)) (sym made) (record {
  events = run.events ++ e ∷ [];
  count = (let longer : length (run.events ++ e ∷ []) ≡ length run.events + 1 = length-append run.events (e ∷ []) in let count = run.count in omega (arith, longer, count));
  leads = leads_push old run.events mid e run.leads is;
  ascends = ascends_push old.clock run.events mid.clock e run.ascends (next-after mid e is.next);
  runs = runs_push (world_of old) run.events (world_of mid) e run.runs is.lawful;
  after = ap (λ u. after_event u e) run.after ∙ sym (after_push old run.events e);
})

-- a run that stopped short did fewer events than it might have done
pub fewer_done : (moment most done : ℕ) (t : Timed) (o : Option TimeFault) → IfSome o (λ f. IsStoppedShort moment most done t) → IfSome o (λ f. done < most)
fewer_done moment most done t None short = tt
fewer_done moment most done t (Some f) short = short.few

-- ---- the parts of a network, and of an event

-- parts that are equal to those of a network make it
pub equal_parts : (t : Timed) (s : Simulation) (ks : List TimedLink) (rs : List RouterTime) (cs : List Change) → s ≡ t.simulation → ks ≡ t.links → rs ≡ t.routers → cs ≡ t.changes → timed_of s t.clock ks rs cs ≡ t
equal_parts t s ks rs cs simulation links routers changes =
    ap (λ x. timed_of x t.clock ks rs cs) simulation
    ∙ ap (λ x. timed_of t.simulation t.clock x rs cs) links
    ∙ ap (λ x. timed_of t.simulation t.clock t.links x cs) routers
    ∙ ap (timed_of t.simulation t.clock t.links t.routers) changes

-- parts that stand for what was before are what was before
pub same_parts : (t : Timed) (s : Simulation) (ks : List TimedLink) → s ≡ t.simulation → ks ≡ t.links → timed_of s t.clock ks t.routers t.changes ≡ t
same_parts t s ks simulation links = ap (λ x. timed_of x t.clock ks t.routers t.changes) simulation ∙ ap (λ x. timed_of t.simulation t.clock x t.routers t.changes) links

-- what is made of the parts is what the event makes
pub after_parts : (t : Timed) (e : Event) (s : Simulation) (ks : List TimedLink) (rs : List RouterTime) (cs : List Change) → s ≡ after_step t.simulation e.step → ks ≡ links_after e.moment (motion_of (world_of t) e.step) t.links
    → rs ≡ routers_after e.moment (begins_at (world_of t) e.step) t.routers → cs ≡ (if e.given then drop 1 t.changes else t.changes) → timed_of s e.moment ks rs cs ≡ after_event t e
after_parts t e s ks rs cs simulation links routers changes =
    ap (λ x. timed_of x e.moment ks rs cs) simulation
    ∙ ap (λ x. timed_of (after_step t.simulation e.step) e.moment x rs cs) links
    ∙ ap (λ x. timed_of (after_step t.simulation e.step) e.moment (links_after e.moment (motion_of (world_of t) e.step) t.links) x cs) routers
    ∙ ap (timed_of (after_step t.simulation e.step) e.moment (links_after e.moment (motion_of (world_of t) e.step) t.links) (routers_after e.moment (begins_at (world_of t) e.step) t.routers)) changes

-- a refusal for this cause or for want of memory
pub stopped_as : (o : Option Refusal) (e : Refusal) → CanBeRefused o e → (e ≡ Refusal.NoMemory) ⊎ (o ≡ Some e)
stopped_as None e is = inl is
stopped_as (Some x) e is = inr (ap Some (sym is))
