-- Whatever still happens makes the measure of the processes fall: at how many ports that are down a report is left that is forgotten with
-- its prefix, then what counts for all prefixes together, place by place, then the loads of all prefixes, then what is to be done.
use Rattle.std.proofs.Common.{refl, sym, ap, subst, ◌∙◌, arith, inl, inr, ◌≡◌, ◌≢◌, ◌⊎◌, ℕ, ◌<◌, ◌≤◌, Bool, true, false, if◌then◌else◌, List, [], ◌∷◌, length, drop, Option, Some, None, is_none, slice_get, le-ltb}
use Rattle.no_packet_loops.proofs.Common.{option_map_or, list_any, None_not_Some, Some_injective, Prefix, prefix_eq, Held, Item, Router, machine_of, kept, ripe_of, unripe_of, is_due, router_accepting, router_publishing, router_releasing, ripe_front, Topology, LinkEnd, cases_eq, false_from_ne_true, infinity}
use Rattle.network_model.proofs.Common.{both_ways}
use Rattle.router_core.specs.Alone.{router_publishing_some, may_forget, router_forgetting, rows_due}
use Rattle.c_interface.specs.declared.fault.CallFault.{CallFault}
use Rattle.single_router.specs.{Inputs.told_fault, Inputs.attachment_of}
use Rattle.single_router.specs.declared.input.Input.TheVariants as input
use Rattle.no_packet_loops.proofs.Machines.{prefix_same, prefix_itself}
use Rattle.coming_to_rest.specs.Rest.{IsFinite}
use Rattle.coming_to_rest.proofs.{Order.Falls, Order.at_place, Measure.top, Measure.le_same, Takes.MessageEffect, Takes.load_falls, Known.IsOf, Dues.published_less, Dues.released_less}
use Rattle.coming_to_rest.proofs.Sums.{sum_list, list_less, sum_below, sum_but_one}
use Rattle.coming_to_rest.proofs.Prefixes.{CountsLess, each, prefixes_less, prefixes_fall, sum_places, sum_loads, dues_fall, effect_falls}
use Rattle.daemon_laws.specs.Processes.{Carried, Processes}
use Rattle.daemon_laws.specs.Happenings.{Happening, Takes, Loses, Publishes, PublishesSome, Forgets, Releases, with_process, with_coming, told_router, forgotten, having_taken, having_released, after_happening}
use Rattle.daemon_laws.proofs.{Cases.after_message, Seen.carried}
use Rattle.daemon_laws.proofs.Steps.{router_here, router_away, coming_here, coming_away, bounded}
use Rattle.daemons_come_to_rest.specs.{Rest.HappensAlone, Settled.SameGround}
use Rattle.daemons_come_to_rest.proofs.{Shown.reported, Shown.shown, Shown.stales, Dues.dues_of, Dues.some_published_less, Dues.forgotten_less, Kept.Kept, Kept.link_there}
use Rattle.daemons_come_to_rest.proofs.Moves.{Less, alike_less, Drops, drop_less, drop_load, stays_of, TakesOne, taken_effect, taken_stale, taken_attachment, taken_other, PublishesOne, publish_less, ReleasesOne, release_less}
use Rattle.daemons_come_to_rest.proofs.Gathered.{KnownIn, known_drop, known_first, known_dropped, known_take, known_publish, known_held, known_release}
use Rattle.daemons_come_to_rest.proofs.Forgets.{ForgetsOne, forget_other, forget_own, may_machine, forget_attachment}

-- ---- the measure

module _ (t : Topology) (F : IsFinite t) (ps : List Prefix) where
  -- at how many ends that are down a report of the prefix is stale
  abbrev stales_of : Processes → Prefix → ℕ
  stales_of w p = stales t F.routers F.ports (shown p w)

  -- the places, the stale ends of all prefixes first
  abbrev pub all_places : Processes → ℕ → ℕ
  all_places w = sum_places t F.routers F.ports ps (sum_list ps (stales_of w)) (λ p. shown p w)

  abbrev pub all_loads : Processes → ℕ
  all_loads w = sum_loads t F.routers F.ports ps (λ p. shown p w)

  -- what all routers have to publish and release
  abbrev pub all_dues : Processes → ℕ
  all_dues w = sum_below F.routers (λ i. dues_of (w.routers i))

  -- the measure falls from w to v
  abbrev pub ProcessesFall : Processes → Processes → Type 0
  ProcessesFall w v = Falls top (all_places w) (all_loads w) (all_dues w) (all_places v) (all_loads v) (all_dues v)

  module _ (w v : Processes) where
    -- no more counts of the prefix
    abbrev IsLess : Prefix → Type 0
    IsLess p = Less t F.routers F.ports p w v

    -- of a prefix that counts no more
    counts : (p : Prefix) → IsLess p → CountsLess t F.routers F.ports (shown p w) (shown p v)
    counts p less = (less.weights, less.load_less)

    -- where no more counts, the dues decide
    by_dues : ((p : Prefix) → IsOf ps p → IsLess p) → all_dues v < all_dues w → ProcessesFall w v
    by_dues less = dues_fall t F.routers F.ports ps (sum_list ps (stales_of w)) (all_dues w) (sum_list ps (stales_of v)) (all_dues v) (λ p. shown p w) (λ p. shown p v)
        (prefixes_less ps (stales_of v) (stales_of w) (λ p there. (less p there).stale_less)) (λ p there. counts p (less p there))

    -- where what counts of one prefix falls, and no more of the others
    by_effect : (k : Prefix) → IsOf ps k → MessageEffect t F.routers F.ports (shown k w) (shown k v) → stales_of v k ≤ stales_of w k → ((p : Prefix) → prefix_eq p k ≡ false → IsLess p) → ProcessesFall w v
    by_effect k there E stale others = effect_falls t F.routers F.ports ps (sum_list ps (stales_of w)) (all_dues w) (sum_list ps (stales_of v)) (all_dues v) (λ p. shown p w) (λ p. shown p v)
        (list_less ps (stales_of v) (stales_of w) (each (λ p. stales_of v p ≤ stales_of w p) k stale (λ p is. (others p is).stale_less))) k there (λ p is. counts p (others p is)) E

    -- where of one prefix something is stale at fewer ends, and no more counts of the others
    by_stale : (k : Prefix) → IsOf ps k → stales_of v k < stales_of w k → ((p : Prefix) → prefix_eq p k ≡ false → IsLess p) → ProcessesFall w v
    by_stale k there fewer others = at_place 0 (omega arith) (
      (λ j l. absurd (omega (arith, l))),
      prefixes_fall ps (stales_of v) (stales_of w) k there fewer (λ p is. (others p is).stale_less),
    )

    -- ---- each move

    module _ (K : Kept t w) (G : KnownIn t F.routers ps w) where
      -- a message is dropped
      drop_falls : Drops t w v → ProcessesFall w v
      drop_falls D =
          let k = ((D.c).message).prefix in
          let less = drop_less t F k w v D in
          by_effect k (known_dropped t F.routers ps w v G D) (load_falls less.weights (drop_load t F k w v D (prefix_itself k))) less.stale_less (λ p apart. drop_less t F p w v D)

      -- a message is taken
      take_falls : (T : TakesOne t w v) → ((T.c).message).value ≤ infinity → ProcessesFall w v
      take_falls T small =
          let k = ((T.c).message).prefix in
          by_effect k (known_first t F.routers ps w v G T)
          (taken_effect t F k w v T ((K.invariant k).keeps (T.e).router) (prefix_itself k) small (K.invariant k).sound (K.calm k (T.e).router))
          (taken_stale t F k w v T ((K.invariant k).keeps (T.e).router) (prefix_itself k) small)
          (λ p apart. taken_other t F p w v T ((K.invariant p).keeps (T.e).router) apart)

      router_less : (i : ℕ) (r' : Router) → i < F.routers → v.routers i ≡ r' → ((j : ℕ) → j ≢ i → v.routers j ≡ w.routers j) → dues_of r' < dues_of (w.routers i) → all_dues v < all_dues w
      router_less i r' within here away less =
          let x = sum_but_one F.routers i (λ j. dues_of (v.routers j)) (λ j. dues_of (w.routers j)) within (λ j l ne. le_same (ap (λ (y : Router). dues_of y) (away j ne))) in
          omega (arith, x, ap (λ (y : Router). dues_of y) here, less)

      -- a prefix, to speak of what does not depend on one
      abbrev some : Prefix
      some = record { addr = 0; len = 0 }

      publish_falls : (P : PublishesOne w v) → P.i < F.routers → is_due (w.routers P.i) ≡ true → ProcessesFall w v
      publish_falls P within due =
          by_dues (λ p there. publish_less t F.routers F.ports p w v P ((K.invariant p).keeps P.i) ((K.invariant p).sound P.i))
          (router_less P.i (router_publishing (w.routers P.i)) within P.router_is P.routers_elsewhere (let R = (K.invariant some).keeps P.i in omega (arith, published_less (w.routers P.i) R.control_is R.sorted due)))

      -- a router releases a message
      release_falls : (R : ReleasesOne t w v) → R.i < F.routers → ProcessesFall w v
      release_falls R within =
          by_dues (λ p there. release_less t F p w v R)
          (router_less R.i (router_releasing (w.routers R.i)) within R.router_is R.routers_elsewhere (omega (arith, released_less (w.routers R.i) R.h R.front)))

      -- a router publishes some of its rows
      publish_some_falls : (i n : ℕ) → v.routers i ≡ router_publishing_some n (w.routers i) → ((j : ℕ) → j ≢ i → v.routers j ≡ w.routers j) → ((e : LinkEnd) → v.coming e ≡ w.coming e)
          → i < F.routers → 0 < n → n < length (rows_due (w.routers i)) → ProcessesFall w v
      publish_some_falls i n here away coming within more fewer =
          by_dues
          (λ p there. alike_less t F.routers F.ports p w v (record {
            machine_same = stays_of w v i (router_publishing_some n (w.routers i)) here away (λ (y : Router). machine_of y p) refl;
            inbox_same = λ e. ap (λ cs. reported (carried p cs)) (coming e);
            ripe_same = λ e. stays_of w v i (router_publishing_some n (w.routers i)) here away (λ (y : Router). kept p e.port (ripe_of y)) refl e.router;
            unripe_same = λ e. stays_of w v i (router_publishing_some n (w.routers i)) here away (λ (y : Router). kept p e.port (unripe_of y)) refl e.router;
          }))
          (router_less i (router_publishing_some n (w.routers i)) within here away (some_published_less some (w.routers i) ((K.invariant some).keeps i) n more fewer))

      -- a router forgets a prefix
      forget_falls : (G : ForgetsOne w v) → G.i < F.routers → ProcessesFall w v
      forget_falls G within = by_own (forget_own t F w v G ((K.invariant G.k).keeps G.i))
        where
          dues : all_dues v < all_dues w
          dues =
              let (m, is) = may_machine G.k (w.routers G.i) G.may in
              router_less G.i (router_forgetting G.k (w.routers G.i)) within G.router_is G.routers_elsewhere (forgotten_less G.k (w.routers G.i) ((K.invariant G.k).keeps G.i) m is)

          others : (p : Prefix) → prefix_eq p G.k ≡ false → IsLess p
          others = forget_other t F w v G

          not_of : (b : Bool) → list_any (prefix_eq G.k) ps ≡ b → stales_of v G.k < stales_of w G.k → ProcessesFall w v
          not_of true there fewer = by_stale G.k there fewer others
          not_of false off fewer = by_dues (λ p there. others p (apart_from p there)) dues
            where
              apart_from : (p : Prefix) → IsOf ps p → prefix_eq p G.k ≡ false
              apart_from p there = false_from_ne_true (prefix_eq p G.k) (λ h. both_ways (list_any (prefix_eq G.k) ps) off (subst (λ (q : Prefix). IsOf ps q) (prefix_same p G.k h) there))

          by_own : (stales_of v G.k < stales_of w G.k) ⊎ IsLess G.k → ProcessesFall w v
          by_own (inl fewer) = not_of (list_any (prefix_eq G.k) ps) refl fewer
          by_own (inr less) = by_dues (λ p there. each (λ q. IsLess q) G.k less others p) dues

  -- ---- whatever still happens

  -- where all routers are as before all ground is
  same_ground : (w v : Processes) → ((j : ℕ) → v.routers j ≡ w.routers j) → SameGround w v
  same_ground w v same j = (ap (λ (y : Router). y.ports) (same j), λ p. ap (λ (y : Router). attachment_of y p) (same j))

  module _ (w : Processes) (K : Kept t w) (G : KnownIn t F.routers ps w) where
    -- the measure falls, and the prefixes are known still
    pub record Goes (v : Processes) : Type 0 where
      pub falls : ProcessesFall w v
      pub known : KnownIn t F.routers ps v
      pub ground : SameGround w v

    -- what comes is the first message, and then the rest
    came_is : (e : LinkEnd) (c : Carried) → slice_get (w.coming e) 0 ≡ Some c → w.coming e ≡ c ∷ with_coming e (drop 1) w.coming e
    came_is e c at = first_of (w.coming e) at ∙ ap (λ cs. c ∷ cs) (sym (coming_here e (drop 1) w.coming))
      where
        first_of : (cs : List Carried) → slice_get cs 0 ≡ Some c → cs ≡ c ∷ drop 1 cs
        first_of [] f = absurd (None_not_Some f)
        first_of (x ∷ xs) f = ap (λ (y : Carried). y ∷ xs) (Some_injective f)

    module _ (e : LinkEnd) (c : Carried) (at : slice_get (w.coming e) 0 ≡ Some c) (le : c.session ≤ w.last e) where
      -- the processes after the message is taken or refused
      abbrev taken : Processes
      taken = after_message e w c

      router_then : (o : Option CallFault) → told_fault (input.Message e.port c.session c.message) (w.routers e.router) ≡ o
          → taken.routers e.router ≡ (if is_none o then router_accepting e.port (Item.Message c.message) (w.routers e.router) else w.routers e.router)
      router_then o is = router_here e.router (told_router (input.Message e.port c.session c.message)) w.routers
          ∙ ap (λ f. if is_none f then router_accepting e.port (Item.Message c.message) (w.routers e.router) else w.routers e.router) is

      goes_taken : told_fault (input.Message e.port c.session c.message) (w.routers e.router) ≡ None → Goes taken
      goes_taken is =
          let T : TakesOne t w taken = record {
            e = e;
            c = c;
            valid_place = link_there t w K e c at;
            came = came_is e c at;
            coming_elsewhere = λ d ne. coming_away e (drop 1) w.coming d ne;
            no_fault = is;
            router_is = router_then None is;
            routers_elsewhere = λ j ne. router_away e.router (told_router (input.Message e.port c.session c.message)) w.routers j ne;
          } in
          let k = (c.message).prefix in
          record { falls = take_falls w taken K G T (bounded t k (K.pfd k) w (K.invariant k) e c at le (prefix_itself k)); known = known_take t F.routers ps w taken G T; ground = λ j. (stays_of w taken e.router (router_accepting e.port (Item.Message c.message) (w.routers e.router)) T.router_is T.routers_elsewhere (λ (y : Router). y.ports) refl j, λ p. taken_attachment t F p w taken T ((K.invariant p).keeps e.router) (bounded t k (K.pfd k) w (K.invariant k) e c at le (prefix_itself k)) j) }

      goes_refused : (f : CallFault) → told_fault (input.Message e.port c.session c.message) (w.routers e.router) ≡ Some f → Goes taken
      goes_refused f is =
          let D : Drops t w taken = record {
            e = e;
            c = c;
            valid_place = link_there t w K e c at;
            came = came_is e c at;
            coming_elsewhere = λ d ne. coming_away e (drop 1) w.coming d ne;
            routers_same = same_routers;
          } in
          record { falls = drop_falls w taken K G D; known = known_drop t F.routers ps w taken G D; ground = same_ground w taken same_routers }
        where
          same_routers : (j : ℕ) → with_process e.router (told_router (input.Message e.port c.session c.message)) w.routers j ≡ w.routers j
          same_routers j = elim (cases_eq j e.router) [
            | inl s ↦ subst (λ k. with_process e.router (told_router (input.Message e.port c.session c.message)) w.routers k ≡ w.routers k) (sym s) (router_then (Some f) is)
            | inr ne ↦ router_away e.router (told_router (input.Message e.port c.session c.message)) w.routers j ne
          ]

      -- either way
      goes_either : (o : Option CallFault) → told_fault (input.Message e.port c.session c.message) (w.routers e.router) ≡ o → Goes taken
      goes_either None is = goes_taken is
      goes_either (Some f) is = goes_refused f is

      -- an end takes a message that does not wait
      goes_takes : Goes (after_happening t w (Takes e))
      goes_takes = subst Goes (sym (ap (λ o. option_map_or (having_taken e w) o w) at ∙ ap (λ b. if b then w else taken) (le-ltb (w.last e) c.session le)))
          (goes_either (told_fault (input.Message e.port c.session c.message) (w.routers e.router)) refl)

    -- a message is lost
    goes_loses : (e : LinkEnd) (c : Carried) → slice_get (w.coming e) 0 ≡ Some c → Goes (after_happening t w (Loses e))
    goes_loses e c at =
        let D : Drops t w (after_happening t w (Loses e)) = record {
          e = e;
          c = c;
          valid_place = link_there t w K e c at;
          came = came_is e c at;
          coming_elsewhere = λ d ne. coming_away e (drop 1) w.coming d ne;
          routers_same = λ j. refl;
        } in
        record { falls = drop_falls w (after_happening t w (Loses e)) K G D; known = known_drop t F.routers ps w (after_happening t w (Loses e)) G D; ground = same_ground w (after_happening t w (Loses e)) (λ j. refl) }

    goes_publishes : (i : ℕ) → i < F.routers → is_due (w.routers i) ≡ true → Goes (after_happening t w (Publishes i))
    goes_publishes i within due =
        let P : PublishesOne w (after_happening t w (Publishes i)) = record { i = i; router_is = router_here i router_publishing w.routers; routers_elsewhere = λ j ne. router_away i router_publishing w.routers j ne; coming_same = λ e. refl } in
        record { falls = publish_falls w (after_happening t w (Publishes i)) K G P within due; known = known_publish t F.routers ps w (after_happening t w (Publishes i)) G P; ground = λ j. (stays_of w (after_happening t w (Publishes i)) i (router_publishing (w.routers i)) P.router_is P.routers_elsewhere (λ (y : Router). y.ports) refl j, λ p. stays_of w (after_happening t w (Publishes i)) i (router_publishing (w.routers i)) P.router_is P.routers_elsewhere (λ (y : Router). attachment_of y p) refl j) }

    -- a router publishes some of its rows
    goes_publishes_some : (i n : ℕ) → i < F.routers → 0 < n → n < length (rows_due (w.routers i)) → Goes (after_happening t w (PublishesSome i n))
    goes_publishes_some i n within more fewer =
        let v : Processes = after_happening t w (PublishesSome i n) in
        let r' : Router = router_publishing_some n (w.routers i) in
        let here : v.routers i ≡ r' = router_here i (router_publishing_some n) w.routers in
        let away : (j : ℕ) → j ≢ i → v.routers j ≡ w.routers j = λ j ne. router_away i (router_publishing_some n) w.routers j ne in
        record {
          falls = publish_some_falls w v K G i n here away (λ e. refl) within more fewer;
          known = known_held t F.routers ps w v G (λ e. refl) (stays_of w v i r' here away (λ (y : Router). (y.gate).held) refl);
          ground = λ j. (stays_of w v i r' here away (λ (y : Router). y.ports) refl j, λ p. stays_of w v i r' here away (λ (y : Router). attachment_of y p) refl j);
        }

    goes_forgets : (i : ℕ) (k : Prefix) → i < F.routers → may_forget k (w.routers i) ≡ true → Goes (after_happening t w (Forgets i k))
    goes_forgets i k within may =
        let v : Processes = after_happening t w (Forgets i k) in
        let r' : Router = router_forgetting k (w.routers i) in
        let here : v.routers i ≡ r' = router_here i (forgotten k) w.routers ∙ ap (λ b. if b then router_forgetting k (w.routers i) else w.routers i) may in
        let away : (j : ℕ) → j ≢ i → v.routers j ≡ w.routers j = λ j ne. router_away i (forgotten k) w.routers j ne in
        let O : ForgetsOne w v = record { i = i; k = k; may = may; router_is = here; routers_elsewhere = away; coming_same = λ e. refl } in
        record {
          falls = forget_falls w v K G O within;
          known = known_held t F.routers ps w v G (λ e. refl) (stays_of w v i r' here away (λ (y : Router). (y.gate).held) refl);
          ground = λ j. (stays_of w v i r' here away (λ (y : Router). y.ports) refl j, λ p. stays_of w v i r' here away (λ (y : Router). attachment_of y p) (forget_attachment k (w.routers i) may p) j);
        }

    -- a router releases a message
    goes_releases : (i : ℕ) (h : Held) → i < F.routers → ripe_front (w.routers i) ≡ Some h → Goes (after_happening t w (Releases i))
    goes_releases i h within front = subst Goes (sym (ap (λ o. option_map_or (having_released t i w) o w) front)) (
        let R : ReleasesOne t w (having_released t i w h) = record { i = i; h = h; front = front; router_is = router_here i router_releasing w.routers; routers_elsewhere = λ j ne. router_away i router_releasing w.routers j ne; coming_is = λ e. refl } in
        record { falls = release_falls w (having_released t i w h) K G R within; known = known_release t F.routers ps w (having_released t i w h) G R within; ground = λ j. (stays_of w (having_released t i w h) i (router_releasing (w.routers i)) R.router_is R.routers_elsewhere (λ (y : Router). y.ports) refl j, λ p. stays_of w (having_released t i w h) i (router_releasing (w.routers i)) R.router_is R.routers_elsewhere (λ (y : Router). attachment_of y p) refl j) })

    pub goes_alone : (h : Happening) → HappensAlone F.routers w h → Goes (after_happening t w h)
    goes_alone (Takes e) (c, at, le) = goes_takes e c at le
    goes_alone (Loses e) (c, at) = goes_loses e c at
    goes_alone (Publishes i) (within, due) = goes_publishes i within due
    goes_alone (PublishesSome i n) (within, more, fewer) = goes_publishes_some i n within more fewer
    goes_alone (Forgets i k) (within, may) = goes_forgets i k within may
    goes_alone (Releases i) (h, within, front) = goes_releases i h within front
    goes_alone _ alone = absurd alone
