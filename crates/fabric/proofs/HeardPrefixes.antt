-- A prefix that a router has heard of stays so, and what waits with its writer is of such prefixes.
use Rattle.std.proofs.Common.{refl, sym, ap, subst, ◌∙◌, ◌≡◌, ℕ, zero, suc, Bool, true, false, cond, List, [], ◌∷◌, Option, Some, None, IsSome, slice_get, option_map, option_and_then}
use Rattle.no_packet_loops.proofs.Common.{find-put, Prefix, prefix_cmp, prefix_eq, prefix_cmp_total, Event, Item, Notice, End, Port, Machine, Reaction, reaction, changed_at, event_at_home, Link, Router, World, machine_of, next, reactions, entry_of, chosen_rows, changed_link, with_cost, with_front_taken, with_message, with_delivered, with_noticed, with_notice_taken, with_released, front_at, notice_at, release_at, changed_attachments, router_noticing, router_accepting, router_at_home, router_publishing, router_releasing, option_map_or-ind, find-map, routers-changed_link, find as row_of, put, Step, SetCost, Deliver, Publish, Release}
use Rattle.fabric.specs.Writers.{IsHeard}

-- ---- a router

-- there is something still where it is changed
some-map : {A B : Type 0} (f : A → B) (o : Option A) → IsSome o → IsSome (option_map f o)
some-map f None some = absurd (let no : false ≡ true = some in cc)
some-map f (Some x) some = refl

module _ (p : Prefix) where
  -- the router has a machine for the prefix
  abbrev Has : Router → Type 0
  Has r = IsSome (row_of prefix_cmp p r.machines)

  has_noticed : (e : Event) (ports : List Port) (r : Router) → Has r → Has (router_noticing e ports r)
  has_noticed e ports r has =
      let all : List (Prefix × Reaction) = reactions e r.machines in
      subst IsSome (sym (find-map prefix_cmp (λ (x : Reaction). x.machine) p all)) (some-map (λ (x : Reaction). x.machine) (row_of prefix_cmp p all)
      (subst IsSome (sym (find-map prefix_cmp (λ (m : Machine). reaction m e) p r.machines)) (some-map (λ (m : Machine). reaction m e) (row_of prefix_cmp p r.machines) has)))

  has-put : (k : Prefix) (m : Machine) (machines : List (Prefix × Machine)) → IsSome (row_of prefix_cmp p machines) → IsSome (row_of prefix_cmp p (put prefix_cmp k m machines))
  has-put k m machines has = subst IsSome (sym (find-put prefix_cmp prefix_cmp_total p k m machines)) (by_key (prefix_eq p k))
    where
      by_key : (b : Bool) → IsSome (cond b (Some m) (row_of prefix_cmp p machines))
      by_key true = refl
      by_key false = has

  has_accepted : (q : ℕ) (item : Item) (r : Router) → Has r → Has (router_accepting q item r)
  has_accepted q (Item.Up session cost) r has = has_noticed (Event.Up q cost) (changed_at q (λ x. record { up = true; session = session; cost = cost }) r.ports) r has
  has_accepted q (Item.Down session) r has = has_noticed (Event.Down q) (changed_at q (λ x. record x { up = false; session = session }) r.ports) r has
  has_accepted q (Item.Cost session cost) r has = has_noticed (Event.Cost q cost) (changed_at q (λ x. record x { session = session; cost = cost }) r.ports) r has
  has_accepted q (Item.Message m) r has = has-put m.prefix (reaction (machine_of r m.prefix) (Event.Message q m.kind m.value)).machine r.machines has

  has_told : (x : Notice) (r : Router) → Has r → Has (router_at_home x r)
  has_told x r has = has-put x.prefix (reaction (machine_of r x.prefix) (event_at_home x.cost)).machine r.machines has

  -- ---- the world

  -- the router of this number, of these, has
  abbrev HasAt : List Router → ℕ → Type 0
  HasAt rs i = IsSome (option_and_then (λ (r : Router). row_of prefix_cmp p r.machines) (slice_get rs i))

  has-changed_at : (f : Router → Router) → ((r : Router) → Has r → Has (f r)) → (k i : ℕ) (rs : List Router) → HasAt rs i → HasAt (changed_at k f rs) i
  has-changed_at f keeps k i [] has = has
  has-changed_at f keeps zero zero (r ∷ rs) has = keeps r has
  has-changed_at f keeps zero (suc i) (r ∷ rs) has = has
  has-changed_at f keeps (suc k) zero (r ∷ rs) has = has
  has-changed_at f keeps (suc k) (suc i) (r ∷ rs) has = has-changed_at f keeps k i rs has

  has-changed_link : (j q : ℕ) (f : End → Link → Link) (w : World) (i : ℕ) → HasAt w.routers i → HasAt (changed_link j q f w).routers i
  has-changed_link j q f w i has = subst (λ rs. HasAt rs i) (sym (routers-changed_link j q f w)) has

  -- what a router has heard of stays so at every step
  pub heard_next : (w : World) (s : Step) (i : ℕ) → IsHeard w i p → IsHeard (next w s) i p
  heard_next w (SetCost j q cost) i has = has-changed_link j q (with_cost cost) w i has
  heard_next w (Deliver j q) i has = option_map_or-ind (λ v. IsHeard v i p) (with_delivered j q w) (front_at w j q) _
      (option_map_or-ind (λ v. IsHeard v i p) (with_noticed j w) (notice_at w j q) w has
      (λ x _. has-changed_at (router_at_home x) (has_told x) j i (changed_attachments j with_notice_taken w).routers has))
      (λ item _. has-changed_at (router_accepting q item) (has_accepted q item) j i (changed_link j q with_front_taken w).routers (has-changed_link j q with_front_taken w i has))
  heard_next w (Publish j) i has = has-changed_at router_publishing (λ r h. h) j i w.routers has
  heard_next w (Release j) i has = option_map_or-ind (λ v. IsHeard v i p) (with_released j w) (release_at w j) w has
      (λ h _. has-changed_at router_releasing (λ r x. x) j i (changed_link j h.port (with_message h) w).routers (has-changed_link j h.port (with_message h) w i has))
  heard_next w _ i has = has

-- ---- chosen rows

-- a router has a chosen row of each prefix that it has heard of, and of no other
pub chosen_heard : (r : Router) (p : Prefix) → (r.table).control ≡ chosen_rows r.ports r.machines → IsSome (row_of prefix_cmp p r.machines) → IsSome (row_of prefix_cmp p (r.table).control)
chosen_heard r p is has = subst (λ rows. IsSome (row_of prefix_cmp p rows)) (sym is)
    (subst IsSome (sym (find-map prefix_cmp (λ (m : Machine). entry_of r.ports m) p r.machines)) (some-map (entry_of r.ports) (row_of prefix_cmp p r.machines) has))

pub heard_chosen : (r : Router) (p : Prefix) → (r.table).control ≡ chosen_rows r.ports r.machines → IsSome (row_of prefix_cmp p (r.table).control) → IsSome (row_of prefix_cmp p r.machines)
heard_chosen r p is has = from_map (row_of prefix_cmp p r.machines) (subst IsSome (ap (row_of prefix_cmp p) is ∙ find-map prefix_cmp (λ (m : Machine). entry_of r.ports m) p r.machines) has)
  where
    from_map : (o : Option Machine) → IsSome (option_map (entry_of r.ports) o) → IsSome o
    from_map None some = some
    from_map (Some m) some = refl
