-- What an event leaves of a report, if what it may have moved is looked at.
use Rattle.std.proofs.Common.{refl, sym, ap, subst, ◌∙◌, inl, inr, arith, append-nil, append_assoc, length-append, ◌≡◌, ℕ, ◌+◌, List, [], ◌∷◌, ◌++◌, length, Bool, true, Option, None, Some, IfSome, Result, Ok, Err, OnOk, OnErr, slice_get, ◌<◌, ◌≤◌}
use Rattle.no_packet_loops.proofs.Common.{length-map-range_with_len, option_map_or, option_map_or-ind, slice_get_within, changed_at, changed_link, with_cost, with_front_taken, with_message, with_delivered, with_noticed, with_released, front_at, notice_at, release_at, place_at, opening_router_of, Prefix, End, Link, Place, World, Network, opening, prefixes_of, IsNetwork, Lawful, next, Runs, Step, SetCost, Deliver, Release}
use Rattle.timed_simulation.specs.{declared.events.Event.Event, declared.links.LinkDelays.LinkDelays}
use Rattle.timed_simulation.specs.Timed.{Timed, after_event, opening_timed, world_of}
use Rattle.timed_simulation.specs.Runs.{Ascends, IsNext, IsTimed, LeadsTo, steps_of}
use Rattle.simulation.specs.Simulation.{Simulation}
use Rattle.timed_simulation.proofs.{Moments.next-after, Runs.run_more, Runs.run_none}
use Rattle.reachability.specs.Ways.{IsCutOff, IsJoined}
use Rattle.reachability.proofs.Joined.{joined}
use Rattle.no_packet_loops.proofs.WorldLaws.{Runs-shape, next-shape}
use Rattle.timed_reports.specs.{declared.spells.Spell.Spell, declared.spells.Watched.Watched, Going.IsComputing}
use Rattle.timed_reports.specs.Records.{AreInOrder, AreLooked, AreWatched, IsElsewhere, IsRecorded, MovesNoWay, moves_ways}
use Rattle.timed_reports.specs.Looks.{IsPassedBy, IsStill, IsToldPrefix, MarksMoved}
use Rattle.timed_reports.specs.Reports.{IsReport, IsReportOf, IsReportRun, RecordsEvent, Reported, reported_of}
use Rattle.timed_reports.proofs.{Lists.prefix_further, Lists.prefix_same, OneMore.ascends_all, OneMore.leads_all, OneMore.runs_all, Machines.computing_too, Machines.passed_elsewhere, Machines.same_machine, OneByOne.looked_beside_more, Known.computing_known, Known.cut_off_known, AtRest.none_computing_yet, AtRest.none_out_yet}
use Rattle.timed_reports.proofs.Recorded.{places_after, recorded_after, recorded_opening, watched_after}
use Rattle.timed_reports.proofs.{Alike.alike_after, Alike.alike_turned, Alike.cut_off_alike, Alike.none_moved, Beside.beside_same}

-- its router is cut off after the step if and only if it was
abbrev Still : World → Step → Watched → Type 0
Still w s c = (IsCutOff c.prefix c.router w → IsCutOff c.prefix c.router (next w s)) × (IsCutOff c.prefix c.router (next w s) → IsCutOff c.prefix c.router w)

-- ---- a step keeps the prefixes

link_prefixes : (w : World) (i q : ℕ) (f : End → Link → Link) → (changed_link i q f w).prefixes ≡ w.prefixes
link_prefixes w i q f = option_map_or-ind (λ (v : World). v.prefixes ≡ w.prefixes) (λ (x : Place). record w { links = changed_at x.link (f x.end) w.links }) (place_at w i q) w refl (λ x is. refl)

prefixes_next : (w : World) (s : Step) → (next w s).prefixes ≡ w.prefixes
prefixes_next w (SetCost i q cost) = link_prefixes w i q (with_cost cost)
prefixes_next w (Deliver i q) = option_map_or-ind (λ (v : World). v.prefixes ≡ w.prefixes) (with_delivered i q w) (front_at w i q) (option_map_or (with_noticed i w) (notice_at w i q) w)
    (option_map_or-ind (λ (v : World). v.prefixes ≡ w.prefixes) (with_noticed i w) (notice_at w i q) w refl (λ n is. refl))
    (λ item is. link_prefixes w i q with_front_taken)
prefixes_next w (Release i) = option_map_or-ind (λ (v : World). v.prefixes ≡ w.prefixes) (with_released i w) (release_at w i) w refl (λ h is. link_prefixes w i h.port (with_message h))
prefixes_next w _ = refl

-- so it is where ways to its prefix did not move, or another router alone is concerned
still_is : (w : World) (s : Step) (marks : List Bool) → (moves_ways s ≡ true → MarksMoved w s marks) → (c : Watched) → IsStill (next w s) s marks c → Still w s c
still_is w s marks marked c still = by_case still
  where
    unmoved : MovesNoWay w s c.prefix → Still w s c
    unmoved none = let same = alike_after c.prefix w s none in (cut_off_alike c.prefix w (next w s) same c.router, cut_off_alike c.prefix (next w s) w (alike_turned c.prefix w (next w s) same) c.router)

    by_case : IsStill (next w s) s marks c → Still w s c
    by_case (inl none) = unmoved (none_moved w s marks marked c (inl none))
    by_case (inr (inl (k, at, unmarked))) = unmoved (none_moved w s marks marked c (inr (k, sym (ap (λ (ps : List Prefix). slice_get ps k) (prefixes_next w s)) ∙ at, unmarked)))
    by_case (inr (inr beside)) = beside_same w s c beside

prefixes_run : (w : World) (ss : List Step) (v : World) → Runs w ss v → v.prefixes ≡ w.prefixes
prefixes_run w [] v same = ap (λ (u : World). u.prefixes) (sym same)
prefixes_run w (s ∷ ss) v runs = prefixes_run (next w s) ss v runs.1 ∙ prefixes_next w s

-- ---- what an event leaves of a report

pub report_after : (es : List Event) (old : Reported) (e : Event) (computations : List Spell) (computing : List Watched) (outages : List Spell) (cut_off : List Watched) → IsReportOf es old → IsNext old.timed e
    → AreLooked IsComputing (next (world_of old.timed) e.step) e.moment (IsElsewhere (world_of old.timed) e.step) (length old.computing) old.computing computing old.computations computations
    → AreLooked IsCutOff (next (world_of old.timed) e.step) e.moment (Still (world_of old.timed) e.step) (length old.cut_off) old.cut_off cut_off old.outages outages
    → IsReportOf (es ++ e ∷ []) (reported_of (after_event old.timed e) computations computing outages cut_off)
report_after es old e computations computing outages cut_off R is L M =
    let n : Network = ((old.timed).simulation).network in
    let v : World = world_of old.timed in
    let after : World = next v e.step in
    let runs : Runs (opening n) (steps_of (es ++ e ∷ [])) after = runs_all (opening n) es v e R.runs is.lawful in
    record {
      valid = R.valid;
      ascends = ascends_all 0 es (old.timed).clock e R.ascends (next-after old.timed e is.next);
      runs = runs;
      computations = recorded_after IsComputing (opening n) es v e R.runs is.lawful (IsElsewhere v e.step)
          (λ c aside. let same = same_machine v c.router c.prefix e.step c.since aside in (computing_too v after c.prefix c.router same, computing_too after v c.prefix c.router (sym same)))
          old.computations computations old.computing computing n.routers (prefixes_of n.attachments) R.each_computing
          (computing_known n (steps_of es) v R.runs) (computing_known n (steps_of (es ++ e ∷ [])) after runs) R.computations L;
      each_computing = watched_after IsComputing after e.moment (IsElsewhere v e.step) old.computations computations old.computing computing n.routers (prefixes_of n.attachments) L R.each_computing;
      ordered_computing = places_after IsComputing after e.moment (IsElsewhere v e.step) old.computations computations old.computing computing L ∙ R.ordered_computing;
      outages = recorded_after IsCutOff (opening n) es v e R.runs is.lawful (Still v e.step) (λ c still. still)
          old.outages outages old.cut_off cut_off n.routers (prefixes_of n.attachments) R.each_cut_off
          (cut_off_known n (steps_of es) v R.runs) (cut_off_known n (steps_of (es ++ e ∷ [])) after runs) R.outages M;
      each_cut_off = watched_after IsCutOff after e.moment (Still v e.step) old.outages outages old.cut_off cut_off n.routers (prefixes_of n.attachments) M R.each_cut_off;
      ordered_cut_off = places_after IsCutOff after e.moment (Still v e.step) old.outages outages old.cut_off cut_off M ∙ R.ordered_cut_off;
    }

-- the same of what the code has of it: what it left aside is what the message that was taken, and the marks, allow
pub records_event : (old : Reported) (e : Event) (timed : Timed) (told : Option Prefix) (marks : List Bool) (w u : World) (past out : List Spell) (computations : List Spell) (computing : List Watched) (outages : List Spell) (cut_off : List Watched) → IsNext old.timed e → timed ≡ after_event old.timed e → IfSome told (IsToldPrefix (world_of old.timed) e.step)
    → (moves_ways e.step ≡ true → MarksMoved (world_of old.timed) e.step marks) → w ≡ world_of timed → u ≡ world_of timed → past ≡ old.computations → out ≡ old.outages
    → AreLooked IsComputing w e.moment (IsPassedBy e.step told) (length old.computing) old.computing computing past computations
    → AreLooked IsCutOff u e.moment (IsStill u e.step marks) (length old.cut_off) old.cut_off cut_off out outages
    → RecordsEvent old e (reported_of timed computations computing outages cut_off)
records_event old e timed told marks w u past out computations computing outages cut_off is made tells marked at at_out before before_out L M =
    let before_it : World = world_of old.timed in
    let then_is : World = next before_it e.step in
    let same : w ≡ then_is = at ∙ ap world_of made in
    let same_out : u ≡ then_is = at_out ∙ ap world_of made in
    let looked : AreLooked IsComputing w e.moment (IsElsewhere before_it e.step) (length old.computing) old.computing computing old.computations computations
    = subst (λ (xs : List Spell). AreLooked IsComputing w e.moment (IsElsewhere before_it e.step) (length old.computing) old.computing computing xs computations) before
    (looked_beside_more IsComputing w e.moment (IsPassedBy e.step told) (IsElsewhere before_it e.step) (passed_elsewhere before_it e.step told tells) (length old.computing) old.computing computing past computations L) in
    let looked_out : AreLooked IsCutOff u e.moment (Still before_it e.step) (length old.cut_off) old.cut_off cut_off old.outages outages
    = subst (λ (xs : List Spell). AreLooked IsCutOff u e.moment (Still before_it e.step) (length old.cut_off) old.cut_off cut_off xs outages) before_out
    (looked_beside_more IsCutOff u e.moment (IsStill u e.step marks) (Still before_it e.step) (λ c still. still_is before_it e.step marks marked c (subst (λ (v : World). IsStill v e.step marks c) same_out still)) (length old.cut_off) old.cut_off cut_off out outages M) in
    record {
      exact = λ es R. subst (λ (t : Timed). IsReportOf (es ++ e ∷ []) (reported_of t computations computing outages cut_off)) (sym made)
          (report_after es old e computations computing outages cut_off R is
          (subst (λ (v : World). AreLooked IsComputing v e.moment (IsElsewhere before_it e.step) (length old.computing) old.computing computing old.computations computations) same looked)
          (subst (λ (v : World). AreLooked IsCutOff v e.moment (Still before_it e.step) (length old.cut_off) old.cut_off cut_off old.outages outages) same_out looked_out));
      grown = record { computations = ((looked.ended).0, sym (looked.ended).1); outages = ((looked_out.ended).0, sym (looked_out.ended).1) };
    }

-- the world fits together after the event
pub joined_after : (old : Reported) (e : Event) (timed : Timed) (w : World) → IsReport old → IsNext old.timed e → timed ≡ after_event old.timed e → w ≡ world_of timed → IsJoined w
joined_after old e timed w K is made at =
    let n : Network = ((old.timed).simulation).network in
    let R : IsReportOf K.done old = K.exact in
    subst IsJoined (sym (at ∙ ap world_of made)) (joined n R.valid (steps_of (K.done ++ e ∷ [])) (next (world_of old.timed) e.step) (runs_all (opening n) K.done (world_of old.timed) e R.runs is.lawful))

pub as_many_after : (old new : Timed) (e : Event) → new ≡ after_event old e → length (world_of new).routers ≡ length (world_of old).routers
as_many_after old new e made = ap (λ (t : Timed). length (world_of t).routers) made ∙ (next-shape (world_of old) e.step).routers

pub same_prefixes_after : (old new : Timed) (e : Event) → new ≡ after_event old e → (world_of new).prefixes ≡ (world_of old).prefixes
same_prefixes_after old new e made = ap (λ (t : Timed). (world_of t).prefixes) made ∙ prefixes_next (world_of old) e.step

-- what is watched stands in the order of its prefixes, and for each in that of its routers
pub in_order_after : (old : Reported) (e : Event) (timed : Timed) (w : World) → IsReport old → IsNext old.timed e → timed ≡ after_event old.timed e → w ≡ world_of timed → AreInOrder (length w.routers) w.prefixes old.computing × AreInOrder (length w.routers) w.prefixes old.cut_off
in_order_after old e timed w K is made at =
    let n : Network = ((old.timed).simulation).network in
    let R : IsReportOf K.done old = K.exact in
    let v : World = next (world_of old.timed) e.step in
    let runs : Runs (opening n) (steps_of (K.done ++ e ∷ [])) v = runs_all (opening n) K.done (world_of old.timed) e R.runs is.lawful in
    let same : v ≡ w = sym (at ∙ ap world_of made) in
    let many : n.routers ≡ length v.routers = sym ((Runs-shape (opening n) (steps_of (K.done ++ e ∷ [])) v runs).routers ∙ length-map-range_with_len (opening_router_of n) 0 n.routers) in
    let prefixes : prefixes_of n.attachments ≡ v.prefixes = sym (prefixes_run (opening n) (steps_of (K.done ++ e ∷ [])) v runs) in
    let all : (cs : List Watched) → AreInOrder n.routers (prefixes_of n.attachments) cs → AreInOrder (length w.routers) w.prefixes cs
    = λ cs order. subst (λ (x : World). AreInOrder (length x.routers) x.prefixes cs) same (subst (λ (k : ℕ). AreInOrder k v.prefixes cs) many (subst (λ (ps : List Prefix). AreInOrder n.routers ps cs) prefixes order)) in
    (all old.computing R.ordered_computing, all old.cut_off R.ordered_cut_off)

-- a router that takes something is one of the world's
pub taker_within : (old : Reported) (e : Event) (timed : Timed) (w : World) → IsNext old.timed e → timed ≡ after_event old.timed e → w ≡ world_of timed → (i q : ℕ) → e.step ≡ Deliver i q → i < length w.routers
taker_within old e timed w is made at i q takes =
    let lawful : Lawful (world_of old.timed) (Deliver i q) = subst (Lawful (world_of old.timed)) takes is.lawful in
    let there = slice_get_within (world_of old.timed).routers i lawful.0 lawful.1 in
    let many : length w.routers ≡ length (world_of old.timed).routers = ap (λ (u : World). length u.routers) at ∙ as_many_after old.timed timed e made in
    omega (arith, there, many)

-- parts that are equal to those of a report make it
pub equal_report : (r : Reported) (timed : Timed) (xs : List Spell) (cs : List Watched) (ys : List Spell) (ds : List Watched) → timed ≡ r.timed → xs ≡ r.computations → cs ≡ r.computing → ys ≡ r.outages → ds ≡ r.cut_off → reported_of timed xs cs ys ds ≡ r
equal_report r timed xs cs ys ds same past going out cut = λ i. record { timed = same i; computations = past i; computing = going i; outages = out i; cut_off = cut i }

-- the same where what goes on is as it was
pub same_report : (r : Reported) (timed : Timed) (xs ys : List Spell) → timed ≡ r.timed → xs ≡ r.computations → ys ≡ r.outages → reported_of timed xs r.computing ys r.cut_off ≡ r
same_report r timed xs ys same past out = equal_report r timed xs r.computing ys r.cut_off same past refl out refl

-- ---- runs

pub run_begins : (r : Reported) → IsReportRun r r 0
run_begins r = record {
  run = run_none r.timed;
  events = [];
  count = refl;
  leads = refl;
  exact = λ es R. subst (λ (xs : List Event). IsReportOf xs r) (sym (append-nil es)) R;
  grown = record { computations = prefix_same r.computations; outages = prefix_same r.outages };
}

pub run_goes_on : (old mid new : Reported) (done : ℕ) (e : Event) → IsReportRun old mid done → IsNext mid.timed e → new.timed ≡ after_event mid.timed e → RecordsEvent mid e new → IsReportRun old new (done + 1)
run_goes_on old mid new done e R is made records = record {
  run = run_more old.timed mid.timed new.timed done e R.run is made;
  events = R.events ++ e ∷ [];
  count = (let longer : length (R.events ++ e ∷ []) ≡ length R.events + 1 = length-append R.events (e ∷ []) in let count = R.count in omega (arith, longer, count));
  leads = subst (LeadsTo old.timed (R.events ++ e ∷ [])) (sym made) (leads_all old.timed R.events mid.timed e R.leads is);
  exact = λ es E. subst (λ (xs : List Event). IsReportOf xs new) (append_assoc es R.events (e ∷ [])) (records.exact (es ++ R.events) (R.exact es E));
  grown = record {
    computations = prefix_further old.computations mid.computations new.computations (R.grown).computations (records.grown).computations;
    outages = prefix_further old.outages mid.outages new.outages (R.grown).outages (records.grown).outages;
  };
}

pub kept_after : (old new : Reported) (e : Event) → IsReport old → RecordsEvent old e new → IsReport new
kept_after old new e K records = record { done = K.done ++ e ∷ []; exact = records.exact K.done K.exact }

-- with another timed simulation of the same network, world and clock
pub report_kept : (r : Reported) (t : Timed) → (t.simulation ≡ (r.timed).simulation) × (t.clock ≡ (r.timed).clock) → IsReport r → IsReport (record r { timed = t })
report_kept r t same K = record {
  done = K.done;
  exact = record {
    valid = subst (λ (s : Simulation). IsNetwork s.network) (sym same.0) (K.exact).valid;
    ascends = subst (Ascends 0 K.done) (sym same.1) (K.exact).ascends;
    runs = subst (λ (s : Simulation). Runs (opening s.network) (steps_of K.done) s.world) (sym same.0) (K.exact).runs;
    computations = subst (λ (s : Simulation). IsRecorded IsComputing (opening s.network) K.done s.world r.computations r.computing) (sym same.0) (K.exact).computations;
    each_computing = subst (λ (s : Simulation). AreWatched (s.network).routers (prefixes_of (s.network).attachments) r.computing) (sym same.0) (K.exact).each_computing;
    ordered_computing = subst (λ (s : Simulation). AreInOrder (s.network).routers (prefixes_of (s.network).attachments) r.computing) (sym same.0) (K.exact).ordered_computing;
    outages = subst (λ (s : Simulation). IsRecorded IsCutOff (opening s.network) K.done s.world r.outages r.cut_off) (sym same.0) (K.exact).outages;
    each_cut_off = subst (λ (s : Simulation). AreWatched (s.network).routers (prefixes_of (s.network).attachments) r.cut_off) (sym same.0) (K.exact).each_cut_off;
    ordered_cut_off = subst (λ (s : Simulation). AreInOrder (s.network).routers (prefixes_of (s.network).attachments) r.cut_off) (sym same.0) (K.exact).ordered_cut_off;
  };
}

-- a change is given or not
pub timed_either : {X E : Type 0} (r : Result X E) (old new other : Timed) → OnOk r (new ≡ other) → OnErr r (new ≡ old) → other.simulation ≡ old.simulation → other.clock ≡ old.clock → (new.simulation ≡ old.simulation) × (new.clock ≡ old.clock)
timed_either (Ok x) old new other ok err simulation clock = (ap (λ (t : Timed). t.simulation) ok ∙ simulation, ap (λ (t : Timed). t.clock) ok ∙ clock)
timed_either (Err e) old new other ok err simulation clock = (ap (λ (t : Timed). t.simulation) err, ap (λ (t : Timed). t.clock) err)

-- ---- the opening, as the code has it

pub few_at : (t : Timed) → IsTimed t → length (world_of t).routers ≤ 65536
few_at t K = (joined (t.simulation).network K.valid (steps_of K.done) (world_of t) K.runs).few_routers

pub report_opens : (t : Timed) → IsTimed t → (n : Network) (delays : List LinkDelays) (waits : List ℕ) → t ≡ opening_timed n delays waits → (count : ℕ) → count ≡ length (world_of t).routers → (ps : List Prefix) → ps ≡ (world_of t).prefixes
    → (computing cut_off : List Watched) → AreWatched count ps computing → ((x : ℕ) (c : Watched) → slice_get computing x ≡ Some c → c.since ≡ None) → AreWatched count ps cut_off → ((x : ℕ) (c : Watched) → slice_get cut_off x ≡ Some c → c.since ≡ None)
    → AreInOrder count ps computing → AreInOrder count ps cut_off
    → (past out : List Spell) → past ≡ [] → out ≡ [] → IsReportOf [] (reported_of t past computing out cut_off)
report_opens t K n delays waits is count count_is ps ps_is computing cut_off each none each_out none_out order order_out past out nothing nothing_out =
    let m : Network = (t.simulation).network in
    let at : world_of t ≡ opening m = ap world_of is ∙ sym (ap (λ (x : Timed). opening (x.simulation).network) is) in
    let routers : count ≡ m.routers = count_is ∙ ap (λ (w : World). length w.routers) at ∙ length-map-range_with_len (opening_router_of m) 0 m.routers in
    let prefixes : ps ≡ prefixes_of m.attachments = ps_is ∙ ap (λ (w : World). w.prefixes) at in
    let all : (cs : List Watched) → AreWatched count ps cs → AreWatched m.routers (prefixes_of m.attachments) cs = λ cs e. subst (λ (k : ℕ). AreWatched k (prefixes_of m.attachments) cs) routers (subst (λ (qs : List Prefix). AreWatched count qs cs) prefixes e) in
    let in_order : (cs : List Watched) → AreInOrder count ps cs → AreInOrder m.routers (prefixes_of m.attachments) cs = λ cs o. subst (λ (k : ℕ). AreInOrder k (prefixes_of m.attachments) cs) routers (subst (λ (qs : List Prefix). AreInOrder count qs cs) prefixes o) in
    subst (λ (xs : List Spell). IsReportOf [] (reported_of t xs computing out cut_off)) (sym nothing) (subst (λ (xs : List Spell). IsReportOf [] (reported_of t [] computing xs cut_off)) (sym nothing_out)
    (record {
      valid = K.valid;
      ascends = omega arith;
      runs = sym at;
      computations = subst (λ (v : World). IsRecorded IsComputing (opening m) [] v [] computing) (sym at) (recorded_opening IsComputing (opening m) computing (none_computing_yet m K.valid) none);
      each_computing = all computing each;
      ordered_computing = in_order computing order;
      outages = subst (λ (v : World). IsRecorded IsCutOff (opening m) [] v [] cut_off) (sym at) (recorded_opening IsCutOff (opening m) cut_off (none_out_yet m K.valid) none_out);
      each_cut_off = all cut_off each_out;
      ordered_cut_off = in_order cut_off order_out;
    }))
