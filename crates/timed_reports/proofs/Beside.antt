-- A router that publishes a row while no row leads to it: whoever else is cut off stays so, and nobody else becomes so.
use Rattle.std.proofs.Common.{refl, sym, ap, ◌∙◌, ◌≡◌, ◌≢◌, ℕ, List, [], ◌∷◌, Option, Some, None, option_and_then, slice_get}
use Rattle.no_packet_loops.proofs.Common.{slice_get-changed_at_other, changed_at, prefix_cmp, router_publishing, Prefix, Place, Router, World, side, other, next, Entry, find as row_of, Step, Publish}
use Rattle.network_model.specs.{declared.route.Entry.TheVariants.Via, Forwarding.entry_leads}
use Rattle.no_packet_loops.specs.Packets.{published_entry}
use Rattle.quiet_routes.specs.Routes.{IsChain}
use Rattle.reachability.specs.{Rounds.next_by_row, Ways.HasWay, Ways.IsCutOff}
use Rattle.reachability.proofs.ByRows.{leads_across}
use Rattle.timed_reports.specs.{declared.spells.Watched.Watched, Looks.IsBeside}

-- the same world with other routers
abbrev with_all : World → List Router → World
with_all w rs = record w { routers = rs }

-- two worlds that differ in router i alone
module _ (p : Prefix) (w : World) (i : ℕ) (xs ys : List Router) (same : (j : ℕ) → j ≢ i → slice_get ys j ≡ slice_get xs j) where
  row_same : (j : ℕ) → j ≢ i → published_entry (with_all w ys) j p ≡ published_entry (with_all w xs) j p
  row_same j apart = ap (option_and_then (λ (r : Router). row_of prefix_cmp p (r.table).published)) (same j apart)

  leads_same : (j : ℕ) (o : Option Entry) → option_and_then (entry_leads (with_all w ys) j) o ≡ option_and_then (entry_leads (with_all w xs) j) o
  leads_same j (Some (Via q session)) = refl
  leads_same j _ = refl

  next_same : (j : ℕ) → j ≢ i → next_by_row (with_all w ys) p j ≡ next_by_row (with_all w xs) p j
  next_same j apart = ap (option_and_then (entry_leads (with_all w ys) j)) (row_same j apart) ∙ leads_same j (published_entry (with_all w xs) j p)

  module _ (none : (j : ℕ) → j ≢ i → next_by_row (with_all w xs) p j ≢ Some i) where
    chain_kept : (j : ℕ) → j ≢ i → (ps : List Place) (home : ℕ) → IsChain (with_all w xs) p j ps home → IsChain (with_all w ys) p j ps home
    chain_kept j apart [] home (here, local) = (here, row_same j apart ∙ local)
    chain_kept j apart (x ∷ ps) home (H, rest) =
        let k : ℕ = (side (other x.end) H.link).router in
        let leads : next_by_row (with_all w xs) p j ≡ Some k = ap (option_and_then (entry_leads (with_all w xs) j)) H.row ∙ leads_across (with_all w xs) p j x H in (
          record { port = H.port; link = H.link; is_place = H.is_place; is_link = H.is_link; is_up = H.is_up; row = row_same j apart ∙ H.row },
          chain_kept k (λ (e : k ≡ i). none j apart (leads ∙ ap Some e)) ps home rest,
        )

    pub way_kept : (j : ℕ) → j ≢ i → HasWay (with_all w xs) p j → HasWay (with_all w ys) p j
    way_kept j apart W = record { home = W.home; chain = W.chain; leads = chain_kept j apart W.chain W.home W.leads; cost = W.cost; attached = W.attached }

-- so another router that is cut off in the one is in the other
cut_off_kept : (p : Prefix) (w : World) (i : ℕ) (xs ys : List Router) (same : (j : ℕ) → j ≢ i → slice_get ys j ≡ slice_get xs j) → ((j : ℕ) → j ≢ i → next_by_row (with_all w ys) p j ≢ Some i) → (j : ℕ) → j ≢ i → IsCutOff p j (with_all w xs) → IsCutOff p j (with_all w ys)
cut_off_kept p w i xs ys same none j apart C = record {
  router = C.router;
  at = same j apart ∙ C.at;
  home = C.home;
  walk = C.walk;
  cost = C.cost;
  reaches = record { walk = (C.reaches).walk; attachment = (C.reaches).attachment; attached = (C.reaches).attached; cost_is = (C.reaches).cost_is };
  no_way = λ (way : HasWay (with_all w ys) p j). C.no_way (way_kept p w i ys xs (λ k d. sym (same k d)) none j apart way);
}

pub beside_same : (w : World) (s : Step) (c : Watched) → IsBeside (next w s) s c → (IsCutOff c.prefix c.router w → IsCutOff c.prefix c.router (next w s)) × (IsCutOff c.prefix c.router (next w s) → IsCutOff c.prefix c.router w)
beside_same w (Publish i) c (apart, last) =
    let ys : List Router = changed_at i router_publishing w.routers in
    let same : (j : ℕ) → j ≢ i → slice_get ys j ≡ slice_get w.routers j = λ j d. slice_get-changed_at_other router_publishing i j w.routers d in (
      cut_off_kept c.prefix w i w.routers ys same (λ j d. last.1 j) c.router apart,
      cut_off_kept c.prefix w i ys w.routers (λ j d. sym (same j d)) (λ j d leads. last.1 j (next_same c.prefix w i w.routers ys same j d ∙ leads)) c.router apart,
    )
beside_same w _ c never = absurd never
