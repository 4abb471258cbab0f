-- Steps that move no machine of a router, or none of those for a prefix.
use Rattle.std.proofs.Common.{refl, sym, ap, subst, ◌∙◌, inl, inr, ◌≡◌, ◌≢◌, ℕ, false, List, map, Option, Some, None, Result, Ok, Err, IfSome, option_and_then, option_map, slice_get, unwrap_or}
use Rattle.no_packet_loops.proofs.Common.{option_map_or, option_map_or-ind, map-changed_at, routers-changed_link, slice_get-map, slice_get-changed_at_other, false≢true, prefix_eq, Prefix, Machine, Item, Place, Side, Link, Router, World, changed_at, changed_link, changed_router, side, with_cost, with_front_taken, with_message, with_delivered, with_noticed, with_released, router_accepting, router_at_home, router_publishing, router_releasing, front_at, notice_at, release_at, place_at, next, None_not_Some, Some_injective, Message, Event, opening_machine, reaction, machine_of, neighbours, is_active, Step, SetCost, Deliver, Publish, Release}
use Rattle.no_packet_loops.proofs.WorldLaws.{row_of-put_other}
use Rattle.link_fifo.specs.{declared.refusal.LinkRefusal.LinkRefusal, declared.refusal.LinkRefusal.TheVariants.UnknownLink, Refusals.front_of}
use Rattle.link_fifo.proofs.Changes.{front_of-Some}
use Rattle.timed_reports.specs.{declared.spells.Watched.Watched, Going.IsComputing, Looks.IsPassedBy, Looks.IsToldPrefix, Records.IsElsewhere}

-- router i has the same machine for the prefix in both worlds
abbrev pub HasSame : Prefix → ℕ → World → World → Type 0
HasSame p i w v = option_map (λ r. machine_of r p) (slice_get v.routers i) ≡ option_map (λ r. machine_of r p) (slice_get w.routers i)

-- so if it computes in the one, it computes in the other
pub computing_too : (w v : World) (p : Prefix) (i : ℕ) → HasSame p i w v → IsComputing p i w → IsComputing p i v
computing_too w v p i same C = by_router (slice_get v.routers i) refl
  where
    seen : option_map (λ (r : Router). machine_of r p) (slice_get v.routers i) ≡ Some (machine_of C.router p)
    seen = same ∙ ap (option_map (λ (r : Router). machine_of r p)) C.at

    by_router : (o : Option Router) → slice_get v.routers i ≡ o → IsComputing p i v
    by_router None at = absurd (None_not_Some (sym (ap (option_map (λ (r : Router). machine_of r p)) at) ∙ seen))
    by_router (Some r) at =
        let alike : machine_of r p ≡ machine_of C.router p = Some_injective (sym (ap (option_map (λ (x : Router). machine_of x p)) at) ∙ seen) in
        record { router = r; at = at; active = ap is_active alike ∙ C.active }

module _ (w : World) (i : ℕ) (p : Prefix) where
  abbrev machine : Router → Machine
  machine r = machine_of r p

  -- routers that are those of w but for one that changes and keeps its machine
  kept_in : (j : ℕ) (f : Router → Router) (v : World) → v.routers ≡ changed_at j f w.routers → ((r : Router) → machine (f r) ≡ machine r) → HasSame p i w v
  kept_in j f v are same =
      sym (slice_get-map machine v.routers i)
      ∙ ap (λ (xs : List Machine). slice_get xs i) (ap (map machine) are ∙ map-changed_at f machine j w.routers (λ r at. same r))
      ∙ slice_get-map machine w.routers i

  -- or for another one that changes
  other_in : (j : ℕ) (f : Router → Router) (v : World) → v.routers ≡ changed_at j f w.routers → i ≢ j → HasSame p i w v
  other_in j f v are other = ap (option_map machine) (ap (λ (rs : List Router). slice_get rs i) are ∙ slice_get-changed_at_other f j i w.routers other)

  same_in : (v : World) → v.routers ≡ w.routers → HasSame p i w v
  same_in v are = ap (λ (rs : List Router). option_map machine (slice_get rs i)) are

  -- a message leaves the machines for other prefixes
  told_other : (q : ℕ) (m : Message) (r : Router) → prefix_eq p m.prefix ≡ false → machine (router_accepting q (Item.Message m) r) ≡ machine r
  told_other q m r apart = ap (λ (o : Option Machine). unwrap_or o (opening_machine None (neighbours r.ports))) (row_of-put_other p m.prefix (reaction (machine_of r m.prefix) (Event.Message q m.kind m.value)).machine r.machines apart)

  -- a step of which the router's machine is left aside
  pub same_machine : (s : Step) (since : Option ℕ) → IsElsewhere w s (record { router = i; prefix = p; since = since }) → HasSame p i w (next w s)
  same_machine (SetCost j q cost) since aside = same_in (changed_link j q (with_cost cost) w) (routers-changed_link j q (with_cost cost) w)
  same_machine (Deliver j q) since (inl other) = option_map_or-ind (HasSame p i w) (with_delivered j q w) (front_at w j q) (option_map_or (with_noticed j w) (notice_at w j q) w)
      (option_map_or-ind (HasSame p i w) (with_noticed j w) (notice_at w j q) w refl
      (λ n is. other_in j (router_at_home n) (with_noticed j w n) refl other))
      (λ item is. other_in j (router_accepting q item) (with_delivered j q w item) (ap (changed_at j (router_accepting q item)) (routers-changed_link j q with_front_taken w)) other)
  same_machine (Deliver j q) since (inr (m, front, apart)) =
      let takes : next w (Deliver j q) ≡ with_delivered j q w (Item.Message m) = ap (λ (o : Option Item). option_map_or (with_delivered j q w) o (option_map_or (with_noticed j w) (notice_at w j q) w)) front in
      subst (HasSame p i w) (sym takes)
      (kept_in j (router_accepting q (Item.Message m)) (with_delivered j q w (Item.Message m)) (ap (changed_at j (router_accepting q (Item.Message m))) (routers-changed_link j q with_front_taken w)) (λ r. told_other q m r apart))
  same_machine (Publish j) since aside = kept_in j router_publishing (changed_router j router_publishing w) refl (λ r. refl)
  same_machine (Release j) since aside = option_map_or-ind (HasSame p i w) (with_released j w) (release_at w j) w refl
      (λ h is. kept_in j router_releasing (with_released j w h) (ap (changed_at j router_releasing) (routers-changed_link j h.port (with_message h) w)) (λ r. refl))
  same_machine _ since aside = refl

-- ---- which message is taken

-- what its link answers stands in front of a port
pub front_there : (w : World) (i q : ℕ) (x : Place) (item : Item) → place_at w i q ≡ Some x → front_of x.end (slice_get w.links x.link) ≡ Ok item → front_at w i q ≡ Some item
front_there w i q x item at answer =
    ap (λ (o : Option Place). option_and_then (λ (s : Side). slice_get s.inbox 0) (option_and_then (λ (y : Place). option_map (side y.end) (slice_get w.links y.link)) o)) at
    ∙ by_link (slice_get w.links x.link) answer
  where
    by_link : (o : Option Link) → front_of x.end o ≡ Ok item → option_and_then (λ (s : Side). slice_get s.inbox 0) (option_map (side x.end) o) ≡ Some item
    by_link None h = let never : ◌≡◌ {A = Result Item LinkRefusal} (Err UnknownLink) (Ok item) = h in cc
    by_link (Some k) h = front_of-Some x.end k item h

-- whoever is passed by is elsewhere
pub passed_elsewhere : (w : World) (s : Step) (told : Option Prefix) → IfSome told (IsToldPrefix w s) → (c : Watched) → IsPassedBy s told c → IsElsewhere w s c
passed_elsewhere w (Deliver i q) told tells c (inl other) = inl other
passed_elsewhere w (Deliver i q) None tells c (inr unmet) = absurd (false≢true (sym unmet))
passed_elsewhere w (Deliver i q) (Some p) (m, front, same) c (inr unmet) = inr (m, front, ap (prefix_eq c.prefix) same ∙ unmet)
passed_elsewhere w _ told tells c passed = tt
