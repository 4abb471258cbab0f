-- What a router does with an event, as one prefix sees it, whatever else the router keeps.
use Rattle.std.proofs.Common.{refl, sym, ap, ◌∙◌, ◌≡◌, ℕ, ◌≤◌, Bool, true, false, cond, List, [], ◌++◌, map, length, Option, Some, None, option_map, unwrap_or, append-nil}
use Rattle.no_packet_loops.proofs.Common.{option_map_or, None_not_Some, take-append-le, drop-append-le, Prefix, prefix_cmp, prefix_eq, Machine, Reaction, reaction, opening_machine, changed_at, Event, Held, Port, Router, neighbours, machine_of, session_at, held_of, with_machines, reactions, router_noticing, router_meeting, prefix_cmp_total, sent_to, held_for, find-map, sorted-map, sorted-put, kept, ripe_of, unripe_of, find as row_of, put, find-put, is_sorted}
use Rattle.no_packet_loops.proofs.{WorldLaws.row_of-put_other, View.kept-append, View.kept-sent, View.kept-other}
use Rattle.no_packet_loops.proofs.Machines.{StaysOpened, prefix_same, sent, kept_reactions}

-- from r to r' the machine of the prefix meets the event, what it sends is held unripe, and what is published stays.
-- What r' keeps besides, the caller says
pub record MetKeeping (Keeps : Router → Type 0) (p : Prefix) (e : Event) (r r' : Router) : Type 0 where
  pub machine_is : machine_of r' p ≡ (reaction (machine_of r p) e).machine
  pub published_is : (r'.table).published ≡ (r.table).published
  pub ripe_is : (j : ℕ) → kept p j (ripe_of r') ≡ kept p j (ripe_of r)
  pub unripe_is : (j : ℕ) → kept p j (unripe_of r') ≡ kept p j (unripe_of r) ++ held_for (session_at r'.ports j) (sent_to j (reaction (machine_of r p) e).sends)
  pub keeps : Keeps r'

-- from r to r' nothing of the prefix changes
pub record UnmovedKeeping (Keeps : Router → Type 0) (p : Prefix) (r r' : Router) : Type 0 where
  pub machine_is : machine_of r' p ≡ machine_of r p
  pub published_is : (r'.table).published ≡ (r.table).published
  pub seen_is : (j : ℕ) → session_at r'.ports j ≡ session_at r.ports j
  pub ripe_is : (j : ℕ) → kept p j (ripe_of r') ≡ kept p j (ripe_of r)
  pub unripe_is : (j : ℕ) → kept p j (unripe_of r') ≡ kept p j (unripe_of r)
  pub keeps : Keeps r'

module _ (p : Prefix) (r : Router) (within : (r.gate).ripe ≤ length (r.gate).held) (ports : List Port) (machines : List (Prefix × Machine)) (more : List Held) where
  -- the router with these ports and machines, that holds these messages more
  abbrev new : Router
  new = with_machines ports machines more r

  -- what it may release stays
  ripe_new : ripe_of new ≡ ripe_of r
  ripe_new = take-append-le (r.gate).ripe (r.gate).held more within

  -- of what it may not release yet the messages of the prefix for port j are the old ones, then those among the new
  kept_fresh : (j : ℕ) → kept p j (unripe_of new) ≡ kept p j (unripe_of r) ++ kept p j more
  kept_fresh j = ap (kept p j) (drop-append-le (r.gate).ripe (r.gate).held more within) ∙ kept-append p j (unripe_of r) more

module _ (p : Prefix) (r : Router) (within : (r.gate).ripe ≤ length (r.gate).held) (sorted : is_sorted prefix_cmp r.machines ≡ true) where
  -- ---- notices

  module _ (q : ℕ) (e : Event) (change : Port → Port) (S : StaysOpened e q change r.ports) where
    -- the ports after the notice
    abbrev ports' : List Port
    ports' = changed_at q change r.ports

    -- what each machine does at the notice
    abbrev all : List (Prefix × Reaction)
    all = reactions e r.machines

    -- the machines after the notice
    abbrev pub machines' : List (Prefix × Machine)
    machines' = map (λ x. (x.0, (x.1).machine)) all

    -- the router after the notice
    abbrev after : Router
    after = router_noticing e ports' r

    -- a machine that it has for the prefix is the old one after the notice
    row_noticed : row_of prefix_cmp p machines' ≡ option_map (λ (x : Reaction). x.machine) (option_map (λ m. reaction m e) (row_of prefix_cmp p r.machines))
    row_noticed = find-map prefix_cmp (λ (x : Reaction). x.machine) p all ∙ ap (option_map (λ (x : Reaction). x.machine)) (find-map prefix_cmp (λ (m : Machine). reaction m e) p r.machines)

    -- so is its machine for the prefix, also where the prefix is unheard
    pub machine_noticed : machine_of after p ≡ (reaction (machine_of r p) e).machine
    machine_noticed = ap (λ o. unwrap_or o (opening_machine None (neighbours ports'))) row_noticed ∙ by_row (row_of prefix_cmp p r.machines)
      where
        by_row : (o : Option Machine) → unwrap_or (option_map (λ x. x.machine) (option_map (λ m. reaction m e) o)) (opening_machine None (neighbours ports')) ≡ (reaction (unwrap_or o (opening_machine None (neighbours r.ports))) e).machine
        by_row None = sym S.machine_is
        by_row (Some m) = refl

    -- where it has no machine for the prefix, it had none
    pub unheard_noticed : row_of prefix_cmp p machines' ≡ None → row_of prefix_cmp p r.machines ≡ None
    unheard_noticed h = by_row (row_of prefix_cmp p r.machines) refl (sym row_noticed ∙ h)
      where
        by_row : (o : Option Machine) → row_of prefix_cmp p r.machines ≡ o → option_map (λ (x : Reaction). x.machine) (option_map (λ m. reaction m e) o) ≡ None → row_of prefix_cmp p r.machines ≡ None
        by_row None is g = is
        by_row (Some m) is g = absurd (None_not_Some (sym g))

    -- its machines stay in the order of their prefixes
    pub sorted_noticed : is_sorted prefix_cmp machines' ≡ true
    sorted_noticed = sorted-map prefix_cmp (λ (x : Reaction). x.machine) all ∙ sorted-map prefix_cmp (λ (m : Machine). reaction m e) r.machines ∙ sorted

    -- of all that its machines send, what the machine of the prefix sends to port j is kept for j
    pub sends_noticed : (j : ℕ) → kept p j (sent p j ports' all) ≡ held_for (session_at ports' j) (sent_to j (reaction (machine_of r p) e).sends)
    sends_noticed j =
        kept_reactions p j ports' all (sorted-map prefix_cmp (λ (m : Machine). reaction m e) r.machines ∙ sorted)
        ∙ ap (λ ss. held_for (session_at ports' j) (sent_to j ss)) (ap (λ o. option_map_or (λ (x : Reaction). x.sends) o []) (find-map prefix_cmp (λ (m : Machine). reaction m e) p r.machines) ∙ by_row (row_of prefix_cmp p r.machines))
      where
        by_row : (o : Option Machine) → option_map_or (λ (x : Reaction). x.sends) (option_map (λ m. reaction m e) o) [] ≡ (reaction (unwrap_or o (opening_machine None (neighbours r.ports))) e).sends
        by_row None = sym S.sends_none
        by_row (Some m) = refl

    -- a router that takes a notice meets it
    pub met_notice : (Keeps : Router → Type 0) → Keeps after → MetKeeping Keeps p e r after
    met_notice Keeps keeps = record {
      machine_is = machine_noticed;
      published_is = refl;
      ripe_is = λ j. ap (kept p j) (ripe_new p r within ports' machines' (sent p j ports' all));
      unripe_is = λ j. kept_fresh p r within ports' machines' (sent p j ports' all) j ∙ ap (λ xs. kept p j (unripe_of r) ++ xs) (sends_noticed j);
      keeps = keeps;
    }

  -- ---- an event of one prefix

  module _ (k : Prefix) (e : Event) where
    -- what the machine of the prefix of the event does
    abbrev x : Reaction
    x = reaction (machine_of r k) e

    -- the machines after the event
    abbrev pub rows : List (Prefix × Machine)
    rows = put prefix_cmp k x.machine r.machines

    abbrev pub more : List Held
    more = map (held_of r.ports k) x.sends

    -- its machines stay in the order of their prefixes
    pub sorted_met : is_sorted prefix_cmp rows ≡ true
    sorted_met = sorted-put r.machines k x.machine sorted

    -- where it has no machine for the prefix, it had none
    pub unheard_met : row_of prefix_cmp p rows ≡ None → row_of prefix_cmp p r.machines ≡ None
    unheard_met h = by_key (prefix_eq p k) (sym (find-put prefix_cmp prefix_cmp_total p k x.machine r.machines) ∙ h)
      where
        by_key : (b : Bool) → cond b (Some x.machine) (row_of prefix_cmp p r.machines) ≡ None → row_of prefix_cmp p r.machines ≡ None
        by_key true g = absurd (None_not_Some (sym g))
        by_key false g = g

    module _ (same : prefix_eq p k ≡ true) where
      -- the machine of this prefix is the old one after the event
      pub machine_met : machine_of (router_meeting k e r) p ≡ (reaction (machine_of r p) e).machine
      machine_met =
          ap (λ o. unwrap_or o (opening_machine None (neighbours r.ports))) (find-put prefix_cmp prefix_cmp_total p k x.machine r.machines ∙ ap (λ b. cond b (Some x.machine) (row_of prefix_cmp p r.machines)) same)
          ∙ ap (λ (y : Prefix). (reaction (machine_of r y) e).machine) (sym (prefix_same p k same))

      -- what it sends to port j is kept for j
      pub sends_met : (j : ℕ) → kept p j more ≡ held_for (session_at r.ports j) (sent_to j (reaction (machine_of r p) e).sends)
      sends_met j = kept-sent p j r.ports k same x.sends ∙ ap (λ (y : Prefix). held_for (session_at r.ports j) (sent_to j (reaction (machine_of r y) e).sends)) (sym (prefix_same p k same))

      -- a router where the machine of this prefix meets the event
      pub met_here : (Keeps : Router → Type 0) → Keeps (router_meeting k e r) → MetKeeping Keeps p e r (router_meeting k e r)
      met_here Keeps keeps = record {
        machine_is = machine_met;
        published_is = refl;
        ripe_is = λ j. ap (kept p j) (ripe_new p r within r.ports rows more);
        unripe_is = λ j. kept_fresh p r within r.ports rows more j ∙ ap (λ xs. kept p j (unripe_of r) ++ xs) (sends_met j);
        keeps = keeps;
      }

    module _ (apart : prefix_eq p k ≡ false) where
      -- the machine of another prefix stays
      pub machine_apart : machine_of (router_meeting k e r) p ≡ machine_of r p
      machine_apart = ap (λ o. unwrap_or o (opening_machine None (neighbours r.ports))) (row_of-put_other p k x.machine r.machines apart)

      -- nothing is sent of it
      pub sends_apart : (j : ℕ) → kept p j more ≡ []
      sends_apart j = kept-other p j r.ports k apart x.sends

      -- a router where the machine of another prefix meets the event changes nothing of this one
      pub unmoved_apart : (Keeps : Router → Type 0) → Keeps (router_meeting k e r) → UnmovedKeeping Keeps p r (router_meeting k e r)
      unmoved_apart Keeps keeps = record {
        machine_is = machine_apart;
        published_is = refl;
        seen_is = λ j. refl;
        ripe_is = λ j. ap (kept p j) (ripe_new p r within r.ports rows more);
        unripe_is = λ j. kept_fresh p r within r.ports rows more j ∙ ap (λ xs. kept p j (unripe_of r) ++ xs) (sends_apart j) ∙ append-nil (kept p j (unripe_of r));
        keeps = keeps;
      }
