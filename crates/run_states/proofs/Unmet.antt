-- What a step leaves a router of a prefix that it does not touch: its machine and its rows.
use Rattle.std.proofs.Common.{refl, ap, sym, subst, ◌∙◌, ◌≡◌, ℕ, Bool, true, false, cond, not, List, [], ◌∷◌, Option, Some, None, option_map, slice_get, filter, is_some}
use Rattle.no_packet_loops.proofs.Common.{find-map, find-put, prefix_cmp_total, option_map_or, false≢true, Prefix, prefix_cmp, prefix_eq, prefix_eq-Decides, Held, Item, Notice, Event, Port, Entry, Machine, Reaction, event_at_home, reaction, Router, World, machine_of, changed_attachments, changed_link, changed_router, changed_rows, chosen_rows, entry_eq, entry_of, front_at, has_row, next, notice_at, reactions, release_at, router_accepting, router_at_home, router_meeting, router_noticing, router_publishing, router_releasing, with_cost, with_delivered, with_front_taken, with_message, with_notice_taken, with_noticed, with_released, entry_from_eq, slice_get-changed_at, routers-changed_link, find as row_of, put, none-some, same_Some, Step, SetCost, Deliver, Publish, Release}
use Rattle.run_states.specs.{Books.matches_prefix, Marks.message_prefix, Marks.touched_router, Marks.may_touch}

-- what a router that has heard of a prefix has for it is what it had before
abbrev pub SameMachine : Prefix → Router → Router → Type 0
SameMachine p x y = (m : Machine) → row_of prefix_cmp p y.machines ≡ Some m
    → (row_of prefix_cmp p x.machines ≡ Some m) × (row_of prefix_cmp p (y.table).control ≡ row_of prefix_cmp p (x.table).control)
    × (row_of prefix_cmp p (y.table).published ≡ row_of prefix_cmp p (x.table).published)

-- where a router has no machine for a prefix, it had none before: it never forgets one
abbrev pub Remembers : Prefix → Router → Router → Type 0
Remembers p x y = row_of prefix_cmp p y.machines ≡ None → row_of prefix_cmp p x.machines ≡ None

-- ---- routers

-- a router whose machine for a prefix meets an event
met_remembers : (x : Router) (p k : Prefix) (e : Event) → Remembers p x (router_meeting k e x)
met_remembers x p k e none = by_key (prefix_eq p k) (sym (find-put prefix_cmp prefix_cmp_total p k met x.machines) ∙ none)
  where
    met : Machine
    met = (reaction (machine_of x k) e).machine

    by_key : (b : Bool) → cond b (Some met) (row_of prefix_cmp p x.machines) ≡ None → row_of prefix_cmp p x.machines ≡ None
    by_key true is = absurd (none-some met (sym is))
    by_key false is = is

-- a router whose machines all meet an event
noticed_remembers : (x : Router) (p : Prefix) (e : Event) (ports : List Port) → Remembers p x (router_noticing e ports x)
noticed_remembers x p e ports none = by_row (row_of prefix_cmp p x.machines) (sym row ∙ none)
  where
    row : row_of prefix_cmp p (router_noticing e ports x).machines ≡ option_map (λ (y : Reaction). y.machine) (option_map (λ m. reaction m e) (row_of prefix_cmp p x.machines))
    row = find-map prefix_cmp (λ (y : Reaction). y.machine) p (reactions e x.machines) ∙ ap (option_map (λ (y : Reaction). y.machine)) (find-map prefix_cmp (λ (m : Machine). reaction m e) p x.machines)

    by_row : (o : Option Machine) → option_map (λ (y : Reaction). y.machine) (option_map (λ m. reaction m e) o) ≡ None → o ≡ None
    by_row None is = refl
    by_row (Some m) is = absurd (none-some (reaction m e).machine (sym is))

-- a router that took an item
accepted_remembers : (x : Router) (p : Prefix) (q : ℕ) (item : Item) → Remembers p x (router_accepting q item x)
accepted_remembers x p q (Item.Up session cost) = noticed_remembers x p (Event.Up q cost) (router_accepting q (Item.Up session cost) x).ports
accepted_remembers x p q (Item.Down session) = noticed_remembers x p (Event.Down q) (router_accepting q (Item.Down session) x).ports
accepted_remembers x p q (Item.Cost session cost) = noticed_remembers x p (Event.Cost q cost) (router_accepting q (Item.Cost session cost) x).ports
accepted_remembers x p q (Item.Message m) = met_remembers x p m.prefix (Event.Message q m.kind m.value)

-- the row of another prefix that is chosen
chosen_row : (x : Router) (p : Prefix) → (x.table).control ≡ chosen_rows x.ports x.machines → row_of prefix_cmp p (x.table).control ≡ option_map (entry_of x.ports) (row_of prefix_cmp p x.machines)
chosen_row x p chosen = ap (row_of prefix_cmp p) chosen ∙ find-map prefix_cmp (entry_of x.ports) p x.machines

-- a router whose machine for another prefix meets an event
met_other : (x : Router) (p k : Prefix) (e : Event) → (x.table).control ≡ chosen_rows x.ports x.machines → prefix_eq p k ≡ false → SameMachine p x (router_meeting k e x)
met_other x p k e chosen apart = λ m at. (sym same ∙ at, find-map prefix_cmp (entry_of x.ports) p (put prefix_cmp k met x.machines) ∙ ap (option_map (entry_of x.ports)) same ∙ sym (chosen_row x p chosen), refl)
  where
    met : Machine
    met = (reaction (machine_of x k) e).machine

    same : row_of prefix_cmp p (put prefix_cmp k met x.machines) ≡ row_of prefix_cmp p x.machines
    same = find-put prefix_cmp prefix_cmp_total p k met x.machines ∙ ap (λ b. cond b (Some met) (row_of prefix_cmp p x.machines)) apart

-- a chosen row that is not among those that changed is in force
in_force : (published rows : List (Prefix × Entry)) (p : Prefix) (e : Entry) → row_of prefix_cmp p rows ≡ Some e
    → is_some (row_of prefix_cmp p (filter (λ r. not (has_row published r)) rows)) ≡ false → row_of prefix_cmp p published ≡ Some e
in_force published [] p e at unchanged = absurd (none-some e at)
in_force published (r ∷ rs) p e at unchanged = by_key (prefix_eq p r.0) (has_row published r) refl refl (in_force published rs p e) at unchanged
  where
    rest : List (Prefix × Entry)
    rest = filter (λ r. not (has_row published r)) rs

    by_row : (o : Option Entry) → option_map_or (λ f. entry_eq f r.1) o false ≡ true → o ≡ Some r.1
    by_row None stands = absurd (false≢true stands)
    by_row (Some f) stands = ap Some (entry_from_eq f r.1 stands)

    by_key : (same stands : Bool) → prefix_eq p r.0 ≡ same → has_row published r ≡ stands
        → (row_of prefix_cmp p rs ≡ Some e → is_some (row_of prefix_cmp p rest) ≡ false → row_of prefix_cmp p published ≡ Some e)
        → cond same (Some r.1) (row_of prefix_cmp p rs) ≡ Some e → is_some (row_of prefix_cmp p (cond (not stands) (r ∷ rest) rest)) ≡ false → row_of prefix_cmp p published ≡ Some e
    by_key true true is has later here unchanged =
        ap (λ k. row_of prefix_cmp k published) ((prefix_eq-Decides p r.0).0 is) ∙ by_row (row_of prefix_cmp r.0 published) has ∙ here
    by_key true false is has later here unchanged = absurd (false≢true (sym unchanged ∙ ap (λ b. is_some (cond b (Some r.1) (row_of prefix_cmp p rest))) is))
    by_key false true is has later here unchanged = later here unchanged
    by_key false false is has later here unchanged = later here (sym (ap (λ b. is_some (cond b (Some r.1) (row_of prefix_cmp p rest))) is) ∙ unchanged)

published_other : (x : Router) (p : Prefix) → (x.table).control ≡ chosen_rows x.ports x.machines → is_some (row_of prefix_cmp p (changed_rows x.table)) ≡ false → SameMachine p x (router_publishing x)
published_other x p chosen unchanged = λ m at.
    let row = chosen_row x p chosen ∙ ap (option_map (entry_of x.ports)) at in
    (at, refl, row ∙ sym (in_force (x.table).published (x.table).control p (entry_of x.ports m) row unchanged))

-- ---- the world

pub stays_heard : (p : Prefix) (x y : Router) → x ≡ y → Remembers p x y
stays_heard p x y same = subst (λ z. Remembers p x z) same (λ none. none)

pub stays : (p : Prefix) (x y : Router) → x ≡ y → SameMachine p x y
stays p x y same = subst (λ z. SameMachine p x z) same (λ m at. (at, refl, refl))

module _ (w : World) (i : ℕ) (x y : Router) (p : Prefix) (at : slice_get w.routers i ≡ Some x) (chosen : (x.table).control ≡ chosen_rows x.ports x.machines) where
  -- among these routers, which are those of the world with router i changed so, stands this one
  changed_is : (f : Router → Router) (v : World) → v.routers ≡ w.routers → slice_get (changed_router i f v).routers i ≡ Some y → f x ≡ y
  changed_is f v same there = same_Some (f x) y (sym (slice_get-changed_at f i v.routers ∙ ap (λ rs. option_map f (slice_get rs i)) same ∙ ap (option_map f) at) ∙ there)

  same_is : (v : World) → v.routers ≡ w.routers → slice_get v.routers i ≡ Some y → x ≡ y
  same_is v same there = same_Some x y (sym at ∙ ap (λ rs. slice_get rs i) (sym same) ∙ there)

  delivered : (q : ℕ) (o : Option Item) → slice_get (option_map_or (with_delivered i q w) o (option_map_or (with_noticed i w) (notice_at w i q) w)).routers i ≡ Some y
      → matches_prefix (message_prefix o) p ≡ false → SameMachine p x y
  delivered q (Some (Item.Message m)) there apart =
      subst (SameMachine p x) (changed_is (router_accepting q (Item.Message m)) (changed_link i q with_front_taken w) (routers-changed_link i q with_front_taken w) there)
      (met_other x p m.prefix (Event.Message q m.kind m.value) chosen apart)
  delivered q _ there apart = absurd (false≢true (sym apart))

  released : (o : Option Held) → slice_get (option_map_or (with_released i w) o w).routers i ≡ Some y → SameMachine p x y
  released None there = stays p x y (same_is w refl there)
  released (Some h) there = subst (SameMachine p x) (changed_is router_releasing (changed_link i h.port (with_message h) w) (routers-changed_link i h.port (with_message h) w) there) (λ m at. (at, refl, refl))

  -- a notice of an attachment is taken
  noticed : (o : Option Notice) → slice_get (option_map_or (with_noticed i w) o w).routers i ≡ Some y → Remembers p x y
  noticed None there = stays_heard p x y (same_is w refl there)
  noticed (Some n) there = subst (λ z. Remembers p x z) (changed_is (router_at_home n) (changed_attachments i with_notice_taken w) refl there) (met_remembers x p n.prefix (event_at_home n.cost))

  -- an item, or where there is none a notice
  taken : (q : ℕ) (o : Option Item) → slice_get (option_map_or (with_delivered i q w) o (option_map_or (with_noticed i w) (notice_at w i q) w)).routers i ≡ Some y → Remembers p x y
  taken q (Some item) there =
      subst (λ z. Remembers p x z) (changed_is (router_accepting q item) (changed_link i q with_front_taken w) (routers-changed_link i q with_front_taken w) there) (accepted_remembers x p q item)
  taken q None there = noticed (notice_at w i q) there

  -- the router that a step touches forgets no machine
  pub remembered : (s : Step) → touched_router w s ≡ Some i → slice_get (next w s).routers i ≡ Some y → Remembers p x y
  remembered (Deliver j q) is there = taken q (front_at w i q) (subst (λ k. slice_get (next w (Deliver k q)).routers i ≡ Some y) (same_Some j i is) there)
  remembered (Publish j) is there =
      subst (λ z. Remembers p x z) (changed_is router_publishing w refl (subst (λ k. slice_get (next w (Publish k)).routers i ≡ Some y) (same_Some j i is) there)) (λ none. none)
  remembered (Release j) is there = released_heard (release_at w i) (subst (λ k. slice_get (next w (Release k)).routers i ≡ Some y) (same_Some j i is) there)
    where
      released_heard : (o : Option Held) → slice_get (option_map_or (with_released i w) o w).routers i ≡ Some y → Remembers p x y
      released_heard None there = stays_heard p x y (same_is w refl there)
      released_heard (Some h) there = subst (λ z. Remembers p x z) (changed_is router_releasing (changed_link i h.port (with_message h) w) (routers-changed_link i h.port (with_message h) w) there) (λ none. none)
  remembered (SetCost j q cost) is there = stays_heard p x y (same_is (changed_link j q (with_cost cost) w) (routers-changed_link j q (with_cost cost) w) there)
  remembered _ is there = stays_heard p x y (same_is w refl there)

  -- the router that a step touches has for each prefix that it does not touch what it had
  pub machine_untouched : (s : Step) → touched_router w s ≡ Some i → slice_get (next w s).routers i ≡ Some y → may_touch w s p ≡ false → SameMachine p x y
  machine_untouched (SetCost j q cost) is there apart = stays p x y (same_is (changed_link j q (with_cost cost) w) (routers-changed_link j q (with_cost cost) w) there)
  machine_untouched (Deliver j q) is there apart =
      let here = same_Some j i is in
      delivered q (front_at w i q) (subst (λ k. slice_get (next w (Deliver k q)).routers i ≡ Some y) here there) (subst (λ k. may_touch w (Deliver k q) p ≡ false) here apart)
  machine_untouched (Publish j) is there apart =
      let here = same_Some j i is in
      let unchanged : is_some (row_of prefix_cmp p (changed_rows x.table)) ≡ false
      = sym (ap (λ o. option_map_or (λ r. is_some (row_of prefix_cmp p (changed_rows r.table))) o false) at) ∙ subst (λ k. may_touch w (Publish k) p ≡ false) here apart in
      subst (SameMachine p x) (changed_is router_publishing w refl (subst (λ k. slice_get (next w (Publish k)).routers i ≡ Some y) here there)) (published_other x p chosen unchanged)
  machine_untouched (Release j) is there apart =
      let here = same_Some j i is in
      released (release_at w i) (subst (λ k. slice_get (next w (Release k)).routers i ≡ Some y) here there)
  machine_untouched _ is there apart = stays p x y (same_is w refl there)
