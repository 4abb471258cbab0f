-- Who is cut off, of what is marked; and that nobody is where rows are best.
use Rattle.std.proofs.Common.{sym, ◌∙◌, inl, inr, arith, ◌≡◌, ◌↔◌, ◌⊎◌, ℕ, ◌<◌, ◌≤◌, true, false, not, length}
use Rattle.std.proofs.lemmas.Bool.{and_from, and_parts, both_ways, cases_lt, false_from_ne_true, false≢true, not-true, not_from_false}
use Rattle.std.proofs.{lemmas.List.get_or_past, lemmas.Option.slice_get_within}
use Rattle.network_model.proofs.ListLaws.{element_there}
use Rattle.ipv4_prefix.specs.Prefix.{Prefix}
use Rattle.network_model.specs.World.{World}
use Rattle.quiet_routes.specs.Routes.{HasBestRow}
use Rattle.reachability.specs.{Ways.HasWay, Ways.IsCutOff, Ways.Reaches, Marks.Marks, Marks.is_in, Marks.is_marked}

-- a router with a way reaches the prefix: where rows are best, one that reaches it has a way
pub way_at_best : (w : World) (p : Prefix) → ((k : ℕ) → k < length w.routers → HasBestRow w p k) → (i : ℕ) → i < length w.routers → Reaches w p i → HasWay w p i
way_at_best w p best i within R =
    let route = (best i within).connected R.walk R.home R.cost R.reaches in
    record { home = route.home; chain = route.chain; leads = route.leads; cost = ((route.least).walk).attachment; attached = ((route.least).walk).attached }

-- where each router has its best row, none is cut off
pub none_cut_off : (w : World) (p : Prefix) → ((k : ℕ) → k < length w.routers → HasBestRow w p k) → (i : ℕ) → IsCutOff p i w → ⊥
none_cut_off w p best i cut =
    cut.no_way (way_at_best w p best i (slice_get_within w.routers i cut.router cut.at) (record { home = cut.home; walk = cut.walk; cost = cut.cost; reaches = cut.reaches }))

-- marks of all routers that reach the prefix, and of all that have a way
pub record AreMarks (w : World) (p : Prefix) (m : Marks) : Type 0 where
  pub size : length m.reached ≡ length w.routers
  pub reached : (i : ℕ) → (is_in m.reached i ≡ true) ↔ Reaches w p i
  pub routed : (i : ℕ) → (is_in m.routed i ≡ true) ↔ HasWay w p i

module _ (w : World) (p : Prefix) (m : Marks) (M : AreMarks w p m) (i : ℕ) where
  -- a router that is marked is one of the world's
  within : is_in m.reached i ≡ true → i < length w.routers
  within is = by_order (cases_lt i (length m.reached))
    where
      by_order : (i < length m.reached) ⊎ (length m.reached ≤ i) → i < length w.routers
      by_order (inl below) = (let size = M.size in omega (arith, below, size))
      by_order (inr past) = absurd (false≢true (sym (get_or_past m.reached i false past) ∙ is))

  -- the marks tell who is cut off
  pub told : (is_marked m i ≡ true) → IsCutOff p i w
  told is =
      let parts = and_parts (is_in m.reached i) (not (is_in m.routed i)) is in
      let at = element_there w.routers i (within parts.0) in
      let R = (M.reached i).0 parts.0 in
      record {
        router = at.0;
        at = at.1;
        home = R.home;
        walk = R.walk;
        cost = R.cost;
        reaches = R.reaches;
        no_way = λ way. both_ways (is_in m.routed i) (not-true (is_in m.routed i) parts.1) ((M.routed i).1 way);
      }

  pub found : IsCutOff p i w → is_marked m i ≡ true
  found cut = and_from (is_in m.reached i) (not (is_in m.routed i)) ((M.reached i).1 (record { home = cut.home; walk = cut.walk; cost = cut.cost; reaches = cut.reaches }))
      (not_from_false (is_in m.routed i) (false_from_ne_true (is_in m.routed i) (λ is. cut.no_way ((M.routed i).0 is))))

  -- and that nobody is where rows are best
  pub unmarked_at_best : ((k : ℕ) → k < length w.routers → HasBestRow w p k) → is_marked m i ≡ false
  unmarked_at_best best = false_from_ne_true (is_marked m i) (λ is. none_cut_off w p best i (told is))
