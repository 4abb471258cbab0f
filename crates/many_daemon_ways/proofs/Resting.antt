-- Where routers in processes of their own are at rest, each published what it offers, and next hops of equal cost lead along least ways.
use Rattle.std.proofs.Common.{refl, sym, ap, subst, ◌∙◌, arith, ◌≡◌, ℕ, ◌+◌, ◌<◌, ◌≤◌, List, [], ◌∷◌, Some, None, slice_get}
use Rattle.no_packet_loops.proofs.Common.{find as row_of, None_not_Some, Prefix, prefix_cmp, Via, NextHop, machine_of, offered_hops, Topology, LinkEnd, most_routers, reported_at}
use Rattle.network_model.specs.{declared.network.Offer.TheVariants.Equal, NextHops.hops_at, NextHops.most_offered}
use Rattle.no_packet_loops.proofs.{Publishing.control_row, Quiet.Still}
use Rattle.least_cost.proofs.AtQuiet.{successor_below}
use Rattle.many_ways.specs.{Network.Among, Quiet.EqualEdge}
use Rattle.many_ways.proofs.{AtQuiet.adds, Offered.offers_feasible, Offered.equal_at, Offered.OneAlone, Offered.offered_now, First.first_published, Feasible.FeasibleHop, Feasible.feasible_hop}
use Rattle.daemon_laws.specs.{Processes.Processes, Happenings.HoldsAlways, Moments.fds_reached}
use Rattle.daemon_laws.specs.Rest.{entry_in_force, IsUpIn, cost_from, way_cost, IsWayHome, AreAtRest}
use Rattle.daemon_laws.proofs.{Invariant.Invariant, Quiet.still, Always.Keeps, Always.always}
use Rattle.daemon_laws.proofs.Resting as resting
use Rattle.many_daemon_ways.specs.Rest.{IsHopInForce, IsHopChainAtDaemons, OfferEqual, EqualHopsAreLeastAtDaemons, HopsComeNearerAtDaemons, FirstIsTheRowAtDaemons, HopsAreInForceAtDaemons}
use Rattle.many_daemon_ways.proofs.{Alone.one_alone, Kept.hop_shown, Kept.HopsShown, Kept.hops_always}

module _ (t : Topology) (p : Prefix) (fds : ℕ → ℕ) (w : Processes) (A : Keeps t p fds w) (S : HopsShown t p fds w) (E : (i : ℕ) → OneAlone (w.routers i)) (n : ℕ) (R : AreAtRest t n w) where
  abbrev I : Invariant t p fds w
  I = A.invariant

  -- a router published no next hop of a prefix that is unheard
  unheard : (i : ℕ) → row_of prefix_cmp p (w.routers i).machines ≡ None → hops_at p ((w.routers i).hops).published ≡ []
  unheard i none = by_list (hops_at p ((w.routers i).hops).published) refl
    where
      by_list : (hs : List NextHop) → hops_at p ((w.routers i).hops).published ≡ hs → hops_at p ((w.routers i).hops).published ≡ []
      by_list [] is = is
      by_list (h ∷ hs) is =
          let B = S i h (0, ap (λ xs. slice_get xs 0) is) in
          absurd (None_not_Some (sym (((B.invariant).keeps i).published_heard none) ∙ hop_shown p i h w))

  -- it published what it offers
  in_force : (i : ℕ) → i < n → hops_at p ((w.routers i).hops).published ≡ hops_at p (offered_hops (w.routers i))
  in_force i l = offered_now p (w.routers i) (E i) (unheard i) (still p (w.routers i) (I.keeps i) (R.quiet i l)).done.offers

  module _ (few : n ≤ most_routers) where
    module _ (e : LinkEnd) (session : ℕ) (l : e.router < n) (sends : IsHopInForce w p e session) where
      -- the next hop
      abbrev hop : NextHop
      hop = record { port = e.port; session = session }

      offered : Among hop (hops_at p (offered_hops (w.routers e.router)))
      offered = subst (Among hop) (in_force e.router l) sends

      W : FeasibleHop p (w.routers e.router) hop
      W = feasible_hop p (w.routers e.router) hop (offers_feasible p (w.routers e.router) hop offered)

      -- its link is up in its session
      up_in : IsUpIn t w e session
      up_in = subst (IsUpIn t w e) (sym W.session_is) (resting.up_in t p fds w I n few R e W.up)

      -- what its neighbour reported is the distance there
      reported : reported_at (machine_of (w.routers e.router) p) e.port ≡ (machine_of (w.routers (t.far e).router) p).rd
      reported = subst (λ (d : LinkEnd). reported_at (machine_of (w.routers d.router) p) d.port ≡ (machine_of (w.routers (t.far e).router) p).rd) (t.far_far e up_in.valid)
          (resting.told_now t p fds w I n few R (t.far e) (resting.up_far t p fds w I n few R e W.up))

      -- which is less
      nearer : (machine_of (w.routers (t.far e).router) p).rd < (machine_of (w.routers e.router) p).rd
      nearer = (let a = reported in let b = W.low in let c = (I.sound e.router).fd_below in omega (arith, a, b, c))

      -- one of equal cost makes up the distance
      makes_up : (most : ℕ) → ((w.routers e.router).hops).offer ≡ Equal most → (machine_of (w.routers e.router) p).rd ≡ cost_from w e + (machine_of (w.routers (t.far e).router) p).rd
      makes_up most equal =
          let E = equal_at most p (w.routers e.router) hop equal offered in
          let passive = (still p (w.routers e.router) (I.keeps e.router) (R.quiet e.router l)).passive in
          let at_least = (I.sound e.router).passive_least passive in
          let edge : EqualEdge (resting.s t p fds w I n few R) e = record {
            feasible = record { linked = W.up; port_up = W.up; present = refl; below = W.low };
            neighbour = E.neighbour;
            at = E.at;
            equal = E.equal ∙ sym at_least;
            reached = (let a = E.equal in let b = E.reached in omega (arith, a, b, at_least));
          } in
          let sum = adds (resting.t' t p fds w I n few R) n (resting.s t p fds w I n few R) (resting.kept_state t p fds w I n few R) (resting.quiet_state t p fds w I n few R) few (resting.placed t p fds w I n few R)
          (resting.cheap_now t p fds w I n few R) (λ j c lt is. (I.cheap j).at_home c is) e W.up edge in
          let cost = resting.cost_now t p fds w I n few R e W.up in
          omega (arith, sum, cost)

    -- the first beside a row over a link is that of the row
    row_first : (i : ℕ) → i < n → 0 < most_offered ((w.routers i).hops).offer → (q session : ℕ) → entry_in_force w i p ≡ Some (Via q session)
        → slice_get (hops_at p ((w.routers i).hops).published) 0 ≡ Some (record { port = q; session = session })
    row_first i l some q session row =
        let here : Still p (w.routers i) = still p (w.routers i) (I.keeps i) (R.quiet i l) in
        first_published p (w.routers i) (in_force i l) (I.sound i) here.passive some q session (sym (here.row_is ∙ control_row p (w.routers i) (I.keeps i).control_is) ∙ row) (λ up chosen.
        successor_below (resting.t' t p fds w I n few R) n (resting.s t p fds w I n few R) (resting.kept_state t p fds w I n few R) (resting.quiet_state t p fds w I n few R) few (resting.placed t p fds w I n few R)
        (resting.cheap_now t p fds w I n few R) (λ j c lt is. (I.cheap j).at_home c is) i q l chosen)

    module _ (equal : OfferEqual n w) where
      -- such next hops lead along a way home at the reported distance
      home : (i : ℕ) (es : List LinkEnd) (o : ℕ) → i < n → IsHopChainAtDaemons t w p i es o → IsWayHome t w p i es o (machine_of (w.routers i) p).rd
      home i [] o l (same, attached) = record {
        way = same;
        attachment = (machine_of (w.routers o) p).rd;
        attached = attached;
        cost_is = (let here = ap (λ (j : ℕ). (machine_of (w.routers j) p).rd) same in omega (arith, here));
      }
      home i (e ∷ es) o l (session, from, up, sends, rest) =
          let near : e.router < n = omega (arith, from, l) in
          let H = home (t.far e).router es o (R.placed (t.far e) (t.far_valid e up.valid)) rest in
          let one = makes_up e session near sends (equal e.router near).0 (equal e.router near).1 in
          record {
            way = (session, from, up, H.way);
            attachment = H.attachment;
            attached = H.attached;
            cost_is = subst (λ (j : ℕ). (cost_from w e + way_cost w es) + H.attachment ≡ (machine_of (w.routers j) p).rd) from (let all = H.cost_is in omega (arith, one, all));
          }

-- at every moment
pub equal_hops_are_least : HoldsAlways EqualHopsAreLeastAtDaemons
equal_hops_are_least t w M n few R equal p i es o l chain =
    let A = (always p t w M).kept in
    let H = home t p (fds_reached t w M p) w A (hops_always p t w M) (one_alone t w M) n R few equal i es o l chain in
    record { way = H; least = (((resting.best t p (fds_reached t w M p) w A.invariant n few R i l).connected es o (machine_of (w.routers i) p).rd H).least).least }

pub hops_come_nearer : HoldsAlways HopsComeNearerAtDaemons
hops_come_nearer t w M n few R p e session l sends = (
  up_in t p (fds_reached t w M p) w (always p t w M).kept (hops_always p t w M) (one_alone t w M) n R few e session l sends,
  nearer t p (fds_reached t w M p) w (always p t w M).kept (hops_always p t w M) (one_alone t w M) n R few e session l sends,
)

pub first_is_the_row : HoldsAlways FirstIsTheRowAtDaemons
first_is_the_row t w M n few R p i l some q session row = row_first t p (fds_reached t w M p) w (always p t w M).kept (hops_always p t w M) (one_alone t w M) n R few i l some q session row

pub hops_are_in_force : HoldsAlways HopsAreInForceAtDaemons
hops_are_in_force t w M n R p i l = in_force t p (fds_reached t w M p) w (always p t w M).kept (hops_always p t w M) (one_alone t w M) n R i l
