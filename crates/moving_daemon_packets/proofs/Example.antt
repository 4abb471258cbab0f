-- A packet that is there while a port gets another neighbour, and comes back for a better way over the new link.
use Rattle.std.proofs.Common.{refl, inl, inr, arith, ◌<◌, ◌≡◌, ℕ, Bool, true, false, not, cond, ◌==◌, List, [], ◌∷◌, ◌++◌, Some, None, IsSome, zero, suc}
use Rattle.no_packet_loops.proofs.Common.{false≢true, Prefix, prefix_eq, Via, IsCost, Topology, LinkEnd, at_port, Some_injective}
use Rattle.single_router.specs.declared.input.Input.TheVariants as input
use Rattle.single_router.specs.{declared.opening.Attachment.Attachment, Openings.made_router}
use Rattle.daemon_laws.specs.{Processes.Processes, Packets.is_in_session, Packets.session_leads}
use Rattle.daemon_laws.specs.Happenings.{Happening, Tells, Takes, Publishes, Releases, AllCanHappen, IsMade, IsOpening, AreReached, Begun, Happened, MayRewire, is_new_link, after_happening, after_happenings}
use Rattle.moving_daemon_packets.specs.Moving.{Moment, moment_next, moment_rewired, moment_after, now, Goes, rows_shown, fd_shown, Met, StaysNearAtDaemons, doing, SomeComesBack}

-- ---- links

-- the links of four routers: 0-2 and 1-2, and from port 1 of router 1 one to router 3, or to router 0
abbrev far_at : Bool → ℕ → ℕ → LinkEnd
far_at b zero zero = at_port 2 1
far_at b zero (suc zero) = at_port 1 1
far_at b zero (suc (suc q)) = at_port 0 0
far_at b (suc zero) zero = at_port 2 0
far_at true (suc zero) (suc zero) = at_port 0 1
far_at false (suc zero) (suc zero) = at_port 3 0
far_at b (suc zero) (suc (suc q)) = at_port 0 0
far_at b (suc (suc zero)) zero = at_port 1 0
far_at b (suc (suc zero)) (suc zero) = at_port 0 0
far_at b (suc (suc zero)) (suc (suc q)) = at_port 0 0
far_at b (suc (suc (suc zero))) zero = at_port 1 1
far_at b (suc (suc (suc zero))) (suc q) = at_port 0 0
far_at b (suc (suc (suc (suc i)))) q = at_port 0 0

abbrev valid_at : Bool → ℕ → ℕ → Bool
valid_at b zero (suc zero) = b
valid_at b zero (suc (suc q)) = false
valid_at b (suc zero) (suc (suc q)) = false
valid_at b (suc (suc zero)) (suc (suc q)) = false
valid_at b (suc (suc (suc zero))) zero = not b
valid_at b (suc (suc (suc zero))) (suc q) = false
valid_at b (suc (suc (suc (suc i)))) q = false
valid_at b _ _ = true

far_valid_at : (b : Bool) (i q : ℕ) → valid_at b i q ≡ true → valid_at b (far_at b i q).router (far_at b i q).port ≡ true
far_valid_at b zero zero v = refl
far_valid_at b zero (suc zero) v = refl
far_valid_at b zero (suc (suc q)) v = absurd (false≢true v)
far_valid_at b (suc zero) zero v = refl
far_valid_at true (suc zero) (suc zero) v = refl
far_valid_at false (suc zero) (suc zero) v = refl
far_valid_at b (suc zero) (suc (suc q)) v = absurd (false≢true v)
far_valid_at b (suc (suc zero)) zero v = refl
far_valid_at b (suc (suc zero)) (suc zero) v = refl
far_valid_at b (suc (suc zero)) (suc (suc q)) v = absurd (false≢true v)
far_valid_at b (suc (suc (suc zero))) zero v = refl
far_valid_at b (suc (suc (suc zero))) (suc q) v = absurd (false≢true v)
far_valid_at b (suc (suc (suc (suc i)))) q v = absurd (false≢true v)

far_far_at : (b : Bool) (i q : ℕ) → valid_at b i q ≡ true → far_at b (far_at b i q).router (far_at b i q).port ≡ at_port i q
far_far_at b zero zero v = refl
far_far_at true zero (suc zero) v = refl
far_far_at false zero (suc zero) v = absurd (false≢true v)
far_far_at b zero (suc (suc q)) v = absurd (false≢true v)
far_far_at b (suc zero) zero v = refl
far_far_at true (suc zero) (suc zero) v = refl
far_far_at false (suc zero) (suc zero) v = refl
far_far_at b (suc zero) (suc (suc q)) v = absurd (false≢true v)
far_far_at b (suc (suc zero)) zero v = refl
far_far_at b (suc (suc zero)) (suc zero) v = refl
far_far_at b (suc (suc zero)) (suc (suc q)) v = absurd (false≢true v)
far_far_at true (suc (suc (suc zero))) zero v = absurd (false≢true v)
far_far_at false (suc (suc (suc zero))) zero v = refl
far_far_at b (suc (suc (suc zero))) (suc q) v = absurd (false≢true v)
far_far_at b (suc (suc (suc (suc i)))) q v = absurd (false≢true v)

abbrev links : Bool → Topology
links b = record {
  far = λ e. far_at b e.router e.port;
  valid = λ e. valid_at b e.router e.port;
  far_valid = λ e v. far_valid_at b e.router e.port v;
  far_far = λ e v. far_far_at b e.router e.port v;
}

-- ---- routers

-- all addresses, at cost 1, at router 0
abbrev homes : Bool → List Attachment
homes true = record { addr = 0; cost = 1; len = 0 } ∷ []
homes false = []

abbrev first : Processes
first = record { routers = λ i. made_router (7 ∷ 7 ∷ []) (homes (i == 0)); coming = λ e. []; last = λ e. 0; heard = λ e. 0; lost = λ e s. false }

made_one : (b : Bool) → IsMade (made_router (7 ∷ 7 ∷ []) (homes b))
made_one true = record { costs = 7 ∷ 7 ∷ []; attachments = homes true; good = refl; made = refl }
made_one false = record { costs = 7 ∷ 7 ∷ []; attachments = homes false; good = refl; made = refl }

begins : IsOpening first
begins = record { routers_made = λ i. made_one (i == 0); nothing_comes = λ e. refl; never_up = λ e. refl; never_heard = λ e. refl; never_lost = λ e s. refl }

one : IsCost 1
one = record { positive = omega arith; small = omega arith }

five : IsCost 5
five = record { positive = omega arith; small = omega arith }

-- ---- what happens

-- router 0 tells router 2, which tells router 1
abbrev told : List Happening
told = Tells 0 (input.Up 0 1 5) ∷ Tells 2 (input.Up 1 1 5) ∷ Tells 2 (input.Up 0 1 1) ∷ Tells 1 (input.Up 0 1 1)
    ∷ Publishes 0 ∷ Releases 0 ∷ Takes (at_port 2 1) ∷ Publishes 2 ∷ Releases 2 ∷ Releases 2 ∷ Takes (at_port 1 0) ∷ Publishes 1 ∷ []

can_tell : AllCanHappen (links false) first told
can_tell = ((omega arith, five), ((omega arith, five), ((omega arith, one), ((omega arith, one), (tt, (tt, (tt, (tt, (tt, (tt, (tt, (tt, tt))))))))))))

abbrev then_are : Processes
then_are = after_happenings (links false) first told

-- all that happens comes to a moment
abbrev reached : (t : Topology) (w : Processes) (hs : List Happening) → AreReached t w → AllCanHappen t w hs → AreReached t (after_happenings t w hs)
reached t w [] M can = M
reached t w (h ∷ hs) M can = reached t (after_happening t w h) hs (Happened t w h M can.0) can.1

abbrev moment : Moment
moment = now (links false) then_are (reached (links false) first told (Begun (links false) first begins) can_tell)

-- router 1 gets a link to router 0, finds its way by that, and tells router 2, which turns round, and has yet to publish that
abbrev found : List Happening
found = Tells 0 (input.Up 1 1 1) ∷ Tells 1 (input.Up 1 1 1)
    ∷ Publishes 0 ∷ Releases 0 ∷ Releases 0 ∷ Takes (at_port 1 1) ∷ Publishes 1 ∷ Releases 1 ∷ Releases 1 ∷ Releases 1 ∷ Takes (at_port 2 0) ∷ Takes (at_port 2 0) ∷ []

may_at : (i q : ℕ) → is_new_link (links false) (links true) (at_port i q) ≡ true → (session : ℕ) → is_in_session then_are (at_port i q) session ≡ false
may_at zero zero new session = absurd (false≢true new)
may_at zero (suc (suc q)) new session = absurd (false≢true new)
may_at (suc zero) zero new session = absurd (false≢true new)
may_at (suc zero) (suc (suc q)) new session = absurd (false≢true new)
may_at (suc (suc zero)) zero new session = absurd (false≢true new)
may_at (suc (suc zero)) (suc zero) new session = absurd (false≢true new)
may_at (suc (suc zero)) (suc (suc q)) new session = absurd (false≢true new)
may_at (suc (suc (suc zero))) zero new session = absurd (false≢true new)
may_at (suc (suc (suc zero))) (suc q) new session = absurd (false≢true new)
may_at (suc (suc (suc (suc i)))) q new session = absurd (false≢true new)
may_at _ _ new session = refl

may : MayRewire (links false) (links true) then_are
may e new session = may_at e.router e.port new session

can_find : AllCanHappen (links true) (moment_rewired moment (links true)).processes found
can_find = ((omega arith, one), ((omega arith, one), (tt, (tt, (tt, (tt, (tt, (tt, (tt, (tt, (tt, (tt, tt))))))))))))

abbrev everywhere : Prefix
everywhere = record { addr = 0; len = 0 }

abbrev found_then : Moment
found_then = moment_after (moment_rewired moment (links true)) (doing found)

-- where a packet waits it stays near, if it does when it goes on
waits_near : (m : Moment) (addr : ℕ) (p : Prefix) (f k i : ℕ) (hs : List Happening) → AllCanHappen m.topology m.processes hs → StaysNearAtDaemons (λ x g. x < g) session_leads (moment_after m (doing hs)) addr p f k (Goes i ∷ [])
    → StaysNearAtDaemons (λ x g. x < g) session_leads m addr p f k (doing hs ++ Goes i ∷ [])
waits_near m addr p f k i [] can goes = goes
waits_near m addr p f k i (h ∷ hs) can goes = (can.0, waits_near (moment_next m h) addr p f k i hs can.1 goes)

-- it leaves router 1 by a published row, and router 2 by one that is yet to be published
before_that : Met moment 1
before_that = record { table = rows_shown false moment 1; written = record { in_order = refl; is_known = λ p e row. inl row; has_all = λ p some. some }; is_new = λ p. false }

after_that : Met found_then 2
after_that = record { table = rows_shown true found_then 2; written = record { in_order = refl; is_known = λ p e row. inr (inl row); has_all = λ p some. as_many (prefix_eq p everywhere) some }; is_new = λ p. true }
  where
    as_many : (b : Bool) → IsSome (cond b (Some (Via 1 1)) None) → IsSome (cond b (Some (Via 0 1)) None)
    as_many true some = refl
    as_many false some = some

near : fd_shown true found_then everywhere 2 < fd_shown false moment everywhere 1
near =
    let here : fd_shown true found_then everywhere 2 ≡ 3 = refl in
    let was : fd_shown false moment everywhere 1 ≡ 7 = refl in
    omega (arith, here, was)

end : fd_shown false found_then everywhere 1 < fd_shown true found_then everywhere 2
end =
    let here : fd_shown false found_then everywhere 1 ≡ 2 = refl in
    let was : fd_shown true found_then everywhere 2 ≡ 3 = refl in
    omega (arith, here, was)

pub some_comes_back : SomeComesBack
unfolding before_that after_that
some_comes_back = record {
  before = links false;
  processes = then_are;
  reached = reached (links false) first told (Begun (links false) first begins) can_tell;
  topology = links true;
  happenings = found;
  addr = 5;
  router = 1;
  to = 2;
  port = 1;
  prefix = everywhere;
  was_linked = refl;
  is_linked = refl;
  new = refl;
  met = before_that;
  goes = record { by = record { entry = Via 0 1; matched = refl; leads = refl }; is_row = refl };
  near = (may, waits_near (moment_rewired moment (links true)) 5 everywhere 7 2 1 found can_find (after_that, refl, near, everywhere, record { by = record { entry = Via 0 1; matched = refl; leads = refl }; is_row = refl }, end));
  unpublished = λ e. (let other : 0 ≡ 1 = Some_injective e in omega (arith, other));
}
