-- A quiet world is a quiet state of the view, and its published rows are those of its machines.
use Rattle.std.proofs.Common.{refl, sym, ap, ◌∙◌, ◌≡◌, ℕ, true, false, ◌&&◌, List, [], Option, Some, None, slice_get, option_map, option_and_then}
use Rattle.no_packet_loops.proofs.Common.{list_all, option_map_or, and_parts, Prefix, prefix_cmp, Machine, opening_machine, port_successor, Link, Router, Attachments, World, Network, machine_of, entry_of, session_at, is_quiet_router, is_quiet_link, has_no_notice, is_quiet, is_active, next_hop_of, State, at_port, next_hop, next_hop_at, view, lay, find as row_of}
use Rattle.no_packet_loops.proofs.{Wiring.IsWired, Places.topology, Publishing.control_row, Publishing.control_hop, Runs.Reached, View.on_router-there, Quiet.empty_is, Quiet.Still, Quiet.still_quiet}
use Rattle.least_cost.specs.Quiet.{IsQuiet}
use Rattle.quiet_routes.proofs.Worlds.{Good}
use Rattle.quiet_routes.proofs.Silent.{all_at, inbox_none, ripe_none, unripe_none}

module _ (n : Network) (N : IsWired n) (p : Prefix) (w : World) (rs : List Router) (R : Reached n N p w rs) (G : Good p w) (quiet : is_quiet w ≡ true) where
  -- the view of the world
  abbrev s : State
  s = view n p w R.published_fd

  -- a quiet world is so in its routers and links, and in its notices
  routers_and_links : ((list_all is_quiet_router w.routers && list_all is_quiet_link w.links) ≡ true) × (list_all has_no_notice w.attachments ≡ true)
  routers_and_links = and_parts (list_all is_quiet_router w.routers && list_all is_quiet_link w.links) (list_all has_no_notice w.attachments) quiet

  -- every router of a quiet world is quiet
  router_quiet : (i : ℕ) (r : Router) → slice_get w.routers i ≡ Some r → is_quiet_router r ≡ true
  router_quiet i r at = all_at is_quiet_router w.routers (and_parts (list_all is_quiet_router w.routers) (list_all is_quiet_link w.links) routers_and_links.0).0 i r at

  -- every link of a quiet world is quiet
  link_quiet : (l : ℕ) (k : Link) → slice_get w.links l ≡ Some k → is_quiet_link k ≡ true
  link_quiet l k at = all_at is_quiet_link w.links (and_parts (list_all is_quiet_router w.routers) (list_all is_quiet_link w.links) routers_and_links.0).1 l k at

  -- no router of a quiet world has a notice to take
  pub no_notice : (i : ℕ) (a : Attachments) → slice_get w.attachments i ≡ Some a → a.notices ≡ []
  no_notice i a at = empty_is a.notices (all_at has_no_notice w.attachments routers_and_links.1 i a at)

  -- every router of a quiet world is still
  pub still : (i : ℕ) (r : Router) → slice_get w.routers i ≡ Some r → Still p r
  still i r at = still_quiet p r (R.kept.routers_kept i r at).control_is (λ none. (G.heard i r at none).1) (router_quiet i r at)

  -- the row that a router of a quiet world published is the entry of its machine, if the prefix was heard of
  pub row_now : (i : ℕ) (r : Router) → slice_get w.routers i ≡ Some r → row_of prefix_cmp p (r.table).published ≡ option_map (λ m. entry_of r.ports m) (row_of prefix_cmp p r.machines)
  row_now i r at = (still i r at).row_is ∙ control_row p r (R.kept.routers_kept i r at).control_is

  -- every machine of the view is passive
  passive_now : (i : ℕ) → is_active (s.machine i) ≡ false
  passive_now i = by_router (slice_get w.routers i) refl
    where
      by_router : (o : Option Router) → slice_get w.routers i ≡ o → is_active (option_map_or (λ r. machine_of r p) o (opening_machine None [])) ≡ false
      by_router None at = refl
      by_router (Some r) at = (still i r at).passive

  -- every published next hop is the successor, in the session seen there
  published_now : (i : ℕ) → s.published i ≡ next_hop_of (λ q. s.seen (at_port i q)) (port_successor (s.machine i))
  published_now i = by_router (slice_get w.routers i) refl
    where
      by_router : (o : Option Router) → slice_get w.routers i ≡ o → s.published i ≡ next_hop_of (λ q. s.seen (at_port i q)) (port_successor (s.machine i))
      by_router None at =
          ap (λ o. option_map_or (next_hop_at p) o None) at
          ∙ sym (ap (λ o. next_hop_of (λ q. s.seen (at_port i q)) (port_successor (option_map_or (λ r. machine_of r p) o (opening_machine None [])))) at)
      by_router (Some r) at =
          let was : s.machine i ≡ machine_of r p = on_router-there (λ y. machine_of y p) (opening_machine None []) w.routers i r at in
          on_router-there (next_hop_at p) None w.routers i r at
          ∙ ap (option_and_then next_hop) (still i r at).row_is
          ∙ control_hop p r (λ q. s.seen (at_port i q)) (R.kept.routers_kept i r at).control_is (λ q. on_router-there (λ y. session_at y.ports q) 0 w.routers i r at)
          ∙ ap (λ (m : Machine). next_hop_of (λ q. s.seen (at_port i q)) (port_successor m)) (sym was)

  -- the view of a quiet world is quiet
  pub quiet_now : IsQuiet (topology n N) n.routers s
  quiet_now = record {
    passive = λ i l. passive_now i;
    inbox_empty = λ e v. inbox_none p w link_quiet (lay n e);
    ripe_empty = λ e v. ripe_none p w (λ i r at. (still i r at).done.holds_none) e.router e.port;
    unripe_empty = λ e v. unripe_none p w (λ i r at. (still i r at).done.holds_none) e.router e.port;
    published_is = λ i l. published_now i;
  }
