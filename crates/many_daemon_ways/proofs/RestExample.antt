-- The two routers of `daemon_laws` that are at rest then offer next hops of equal cost, and publish them, of which the second has
-- one: they are at rest still.
use Rattle.std.proofs.Common.{refl, sym, ap, subst, ◌∙◌, arith, ◌≡◌, ℕ, ◌<◌, Bool, true, false, ◌&&◌, ◌==◌, if◌then◌else◌, List, [], ◌∷◌, ◌++◌, slice_get, eqb-true}
use Rattle.no_packet_loops.proofs.Common.{option_map_or, Port, Router, is_quiet_router, router_publishing, LinkEnd, at_port}
use Rattle.network_model.specs.{declared.network.Offer.TheVariants.Equal, World.with_offer}
use Rattle.loop_freedom.proofs.Example.{pair}
use Rattle.least_cost.proofs.Reached.{each_place, each_router}
use Rattle.daemon_laws.specs.{Processes.Processes, Packets.is_in_session, Rest.IsUpIn}
use Rattle.daemon_laws.specs.Happenings.{Happening, Publishes, Offers, with_process, after_happenings}
use Rattle.daemon_laws.proofs.{Example.first, Example.begins, Example.seven, RestExample.until_up, RestExample.onward, RestExample.rest, RestExample.agree}
use Rattle.many_daemon_ways.specs.Reached.{SomeHopsRest}

abbrev happenings : List Happening
happenings = (until_up ++ onward) ++ Offers 0 (Equal 8) ∷ Offers 1 (Equal 8) ∷ Publishes 0 ∷ Publishes 1 ∷ []

abbrev offering : Processes
offering = after_happenings pair first happenings

-- a router that is changed has the ports that it had, if the change leaves them
same_ports : (j : ℕ) (f : Router → Router) → ((r : Router) → (f r).ports ≡ r.ports) → (rs : ℕ → Router) (i : ℕ) → (with_process j f rs i).ports ≡ (rs i).ports
same_ports j f same rs i = by_test (i == j)
  where
    by_test : (b : Bool) → (if b then f (rs i) else rs i).ports ≡ (rs i).ports
    by_test true = same (rs i)
    by_test false = refl

-- so ends stay in their sessions
same_session : (e : LinkEnd) (session : ℕ) → is_in_session offering e session ≡ is_in_session rest e session
same_session e session =
    let one : ℕ → Router = with_process 0 (with_offer (Equal 8)) rest.routers in
    let both : ℕ → Router = with_process 1 (with_offer (Equal 8)) one in
    let published : ℕ → Router = with_process 0 router_publishing both in
    ap (λ (ports : List Port). option_map_or (λ (x : Port). x.up && (x.session == session)) (slice_get ports e.port) false)
    (same_ports 1 router_publishing (λ r. refl) published e.router ∙ same_ports 0 router_publishing (λ r. refl) both e.router ∙ same_ports 1 (with_offer (Equal 8)) (λ r. refl) one e.router ∙ same_ports 0 (with_offer (Equal 8)) (λ r. refl) rest.routers e.router)

pub some_hops_rest : SomeHopsRest
some_hops_rest = record {
  topology = pair;
  first = first;
  happenings = happenings;
  begins = begins;
  can = ((omega arith, seven), ((omega arith, seven), (tt, (tt, (tt, (tt, (tt, (tt, (refl, ((omega arith, seven), (tt, ((omega arith, seven), (tt, (tt, (tt, (tt, (tt, (tt, (tt, (tt, (tt, (tt, tt))))))))))))))))))))));
  n = 2;
  rests = record {
    quiet = each_router (λ i. is_quiet_router (offering.routers i) ≡ true) refl refl;
    placed = each_place (λ e. e.router < 2) (omega arith) (omega arith);
    nothing_comes = λ e session is. each_place (λ e. offering.coming e ≡ []) refl refl e is.valid;
    nothing_lost = λ e session is. each_place (λ d. is_in_session offering d session ≡ true → offering.lost d session ≡ false) (λ on. subst (λ (k : ℕ). offering.lost (at_port 0 0) k ≡ false) (eqb-true 2 session on) refl) (λ on. refl) e is.valid is.near;
    agree = λ e session h.
        let up : IsUpIn pair rest e session = agree e session (sym (same_session e session) ∙ h) in
        record { valid = up.valid; near = h; far = same_session (pair.far e) session ∙ up.far };
  };
  offer = each_router (λ i. (most : ℕ) × (((offering.routers i).hops).offer ≡ Equal most)) (8, refl) (8, refl);
  prefix = record { addr = 0; len = 0 };
  router = 1;
  end = at_port 1 0;
  others = [];
  home = 0;
  chain = (2, refl, record { valid = refl; near = refl; far = refl }, (0, refl), (refl, refl));
}
