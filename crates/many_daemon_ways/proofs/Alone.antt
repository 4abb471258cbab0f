-- A router that offers no next hops beside its rows has published none.
use Rattle.std.proofs.Common.{refl, sym, ap, subst, ◌∙◌, ◌≡◌, ℕ, Bool, true, false, if◌then◌else◌, ◌==◌, List, [], take}
use Rattle.no_packet_loops.proofs.Common.{Prefix, NextHop, Router, session_at, with_rows, router_publishing, router_releasing, Topology}
use Rattle.network_model.specs.{declared.network.Offer.Offer, declared.network.Offer.TheVariants.One, NextHops.hops_by_prefix, World.NextHops, World.with_offer}
use Rattle.route_table.specs.Place.{without}
use Rattle.router_core.specs.Alone.{rows_due, hops_beside, hops_apart, router_publishing_some, may_forget, router_forgetting}
use Rattle.single_router.specs.{declared.input.Input.Input, Openings.made_router}
use Rattle.single_router.specs.declared.input.Input.TheVariants as input
use Rattle.daemon_laws.specs.Processes.{Processes}
use Rattle.daemon_laws.specs.Happenings.{Happening, Tells, Takes, Loses, Publishes, PublishesSome, Forgets, Releases, Offers, BeginsAnew, AreReached, Begun, Happened, Rewired, with_process, told_router, forgotten, after_happening}
use Rattle.daemon_laws.proofs.Cases.{by_take, by_release}
use Rattle.many_ways.proofs.Offered.{OneAlone}
use Rattle.many_daemon_ways.proofs.Told.{told_hops}

-- one router changed
changed : (j : ℕ) (f : Router → Router) → ((r : Router) → OneAlone r → OneAlone (f r)) → (rs : ℕ → Router) → ((i : ℕ) → OneAlone (rs i)) → (i : ℕ) → OneAlone (with_process j f rs i)
changed j f keeps rs all i = by_test (i == j)
  where
    by_test : (b : Bool) → OneAlone (if b then f (rs i) else rs i)
    by_test true = keeps (rs i) (all i)
    by_test false = all i

-- a router that is told
told_alone : (x : Input) (r : Router) → OneAlone r → OneAlone (told_router x r)
told_alone x r alone = subst (λ (hops : NextHops). hops.offer ≡ One → hops.published ≡ []) (sym (told_hops x r)) alone

-- one that publishes
published_alone : (r : Router) → OneAlone r → OneAlone (router_publishing r)
published_alone r alone one = ap (λ (o : Offer). hops_by_prefix o (session_at r.ports) r.machines) one

-- some of its rows
some_alone : (n : ℕ) (r : Router) → OneAlone r → OneAlone (router_publishing_some n r)
some_alone n r alone one =
    let rows = take n (rows_due r) in
    ap (λ (hops : List (Prefix × List NextHop)). with_rows (hops_beside rows hops) (hops_apart rows (r.hops).published)) (published_alone r alone one) ∙ ap (λ (hops : List (Prefix × List NextHop)). with_rows (hops_beside rows []) (hops_apart rows hops)) (alone one)

-- one that forgets a prefix
forgotten_alone : (k : Prefix) (r : Router) → OneAlone r → OneAlone (forgotten k r)
forgotten_alone k r alone = by_may (may_forget k r)
  where
    by_may : (b : Bool) → OneAlone (if b then router_forgetting k r else r)
    by_may true = λ one. ap (without k) (alone one)
    by_may false = alone

-- so it is after what happens
alone_next : (t : Topology) (w : Processes) (ev : Happening) → ((i : ℕ) → OneAlone (w.routers i)) → (i : ℕ) → OneAlone ((after_happening t w ev).routers i)
alone_next t w (Tells j x) all i = changed j (told_router x) (told_alone x) w.routers all i
alone_next t w (Takes e) all i = by_take t w (λ v. OneAlone (v.routers i)) (all i) e (λ c at le. let x = input.Message e.port c.session c.message in changed e.router (told_router x) (told_alone x) w.routers all i)
alone_next t w (Loses e) all i = all i
alone_next t w (Publishes j) all i = changed j router_publishing published_alone w.routers all i
alone_next t w (PublishesSome j n) all i = changed j (router_publishing_some n) (some_alone n) w.routers all i
alone_next t w (Forgets j k) all i = changed j (forgotten k) (forgotten_alone k) w.routers all i
alone_next t w (Releases j) all i = by_release t w (λ v. OneAlone (v.routers i)) (all i) j (λ m at. changed j router_releasing (λ r alone. alone) w.routers all i)
alone_next t w (Offers j offer) all i = changed j (with_offer offer) (λ r alone one. refl) w.routers all i
alone_next t w (BeginsAnew j costs attachments) all i = changed j (λ r. made_router costs attachments) (λ r alone one. refl) w.routers all i

-- at every moment
pub one_alone : (t : Topology) (w : Processes) → AreReached t w → (i : ℕ) → OneAlone (w.routers i)
one_alone _ _ (Begun t w B) i = subst OneAlone (sym (B.routers_made i).made) (λ one. refl)
one_alone _ _ (Happened t w ev M can) i = alone_next t w ev (one_alone t w M) i
one_alone _ _ (Rewired t t' w M R) i = one_alone t w M i
