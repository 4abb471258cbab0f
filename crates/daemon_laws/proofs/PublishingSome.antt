-- A router that publishes some of its rows puts those in force, and leaves the others.
use Rattle.std.proofs.Common.{refl, ap, ◌∙◌, arith, ◌≡◌, ℕ, ◌≤◌, Bool, true, false, not, ◌&&◌, if◌then◌else◌, List, take, None, is_some, option_map, option_and_then, ◌||◌}
use Rattle.no_packet_loops.proofs.Common.{Prefix, prefix_cmp, port_successor, is_port, Entry, Router, machine_of, entry_of, session_at, with_rows, has_row, next_hop, next_hop_at, next_hop_of, IsSound, is_current, is_next_hop, ShownAs, infinity, find as row_of}
use Rattle.no_packet_loops.proofs.Publishing.{control_row, control_hop, control_sorted}
use Rattle.router_core.specs.Alone.{router_publishing_some, has_other_hops, rows_due}
use Rattle.daemon_laws.specs.{Processes.Carried, Facts.fd_then}
use Rattle.daemon_laws.proofs.{Seen.end_in, Routers.RouterKept, Cheap.IsCheap, Publishing.published_as}
use Rattle.daemon_laws.proofs.SomeRows.{all_in_self, all_in_filter, all_in_take, row_in_force, sorted_in_force}
use Rattle.daemon_laws.proofs.InForce.{AsChosen, PutsInForce, puts_held, puts_nothing}

-- the row of a prefix is the chosen one, where it is among the rows that are put in force, and else as before
pub some_in_force : (p : Prefix) (r : Router) → RouterKept p r → (n : ℕ) → row_of prefix_cmp p (with_rows (take n (rows_due r)) (r.table).published)
    ≡ (if is_some (row_of prefix_cmp p (take n (rows_due r))) then row_of prefix_cmp p (r.table).control else row_of prefix_cmp p (r.table).published)
some_in_force p r R n = row_in_force p (take n (rows_due r)) (r.table).control (r.table).published (all_in_take n (rows_due r) (r.table).control (all_in_filter (λ x. has_other_hops r x.0 || not (has_row (r.table).published x)) (r.table).control (r.table).control (all_in_self (r.table).control (control_sorted r R.control_is R.sorted))))

module _ (p : Prefix) (r : Router) (R : RouterKept p r) (sound : IsSound (machine_of r p)) (cheap : IsCheap (machine_of r p)) (fd : ℕ) (bounded : fd ≤ infinity) (n : ℕ) where
  abbrev rows : List (Prefix × Entry)
  rows = take n (rows_due r)

  -- the router with these in force
  abbrev r' : Router
  r' = router_publishing_some n r

  row_now : row_of prefix_cmp p (r'.table).published ≡ (if is_some (row_of prefix_cmp p rows) then row_of prefix_cmp p (r.table).control else row_of prefix_cmp p (r.table).published)
  row_now = some_in_force p r R n

  -- a prefix without a machine has no row
  unheard_row : row_of prefix_cmp p r.machines ≡ None → row_of prefix_cmp p (r'.table).published ≡ None
  unheard_row none = row_now ∙ by_test (is_some (row_of prefix_cmp p rows))
    where
      by_test : (b : Bool) → (if b then row_of prefix_cmp p (r.table).control else row_of prefix_cmp p (r.table).published) ≡ None
      by_test true = control_row p r R.control_is ∙ ap (option_map (λ m. entry_of r.ports m)) none
      by_test false = R.published_heard none

  -- it keeps what a router keeps
  kept_some : RouterKept p r'
  kept_some = record {
    ripe_within = R.ripe_within;
    sorted = R.sorted;
    published_sorted = sorted_in_force rows (r.table).published R.published_sorted;
    control_is = R.control_is;
    published_heard = unheard_row;
    faces_are = R.faces_are;
  }

  -- where the row of the prefix is among the rows, the ends of its links show it
  shown_some : is_some (row_of prefix_cmp p rows) ≡ true → (k q : ℕ) (cs : List Carried) → ShownAs (end_in p k fd r q cs) (end_in p k (fd_then p rows r fd) r' q cs)
  shown_some among k q cs =
      let m = machine_of r p in
      let hop : next_hop_at p r' ≡ next_hop_of (λ j. session_at r.ports j) (port_successor m) =
      ap (option_and_then next_hop) (row_now ∙ ap (λ b. if b then row_of prefix_cmp p (r.table).control else row_of prefix_cmp p (r.table).published) among)
      ∙ control_hop p r (λ j. session_at r.ports j) R.control_is (λ j. refl) in
      let shown : is_next_hop q k (next_hop_at p r') ≡ (is_current m q (session_at r.ports q) k && is_port q m.successor) = ap (λ o. is_next_hop q k o) hop ∙ published_as m sound q k (λ j. session_at r.ports j) in
      let published : fd_then p rows r fd ≡ m.fd = ap (λ b. if b then m.fd else fd) among in
      let x = end_in p k fd r q cs in
      record {
        reported = x.reported;
        out = x.out;
        kept = x.kept;
        is = λ z. record x { shown = shown z; pfd = published z };
        reported_is = λ on. refl;
        pipe_is = refl;
      }

  -- it puts its row in force, or leaves it
  pub puts_some : PutsInForce p r r' fd (fd_then p rows r fd)
  puts_some = by_test (is_some (row_of prefix_cmp p rows)) refl
    where
      by_test : (b : Bool) → is_some (row_of prefix_cmp p (take n (rows_due r))) ≡ b → PutsInForce p r (router_publishing_some n r) fd (fd_then p (take n (rows_due r)) r fd)
      by_test true among =
          puts_held p r r' fd (fd_then p rows r fd) sound kept_some cheap refl refl (λ q. refl)
          (let a = sound.fd_below in let b = sound.rd_bounded in let published : fd_then p rows r fd ≡ (machine_of r p).fd = ap (λ b. if b then (machine_of r p).fd else fd) among in omega (arith, a, b, published))
          (AsChosen (shown_some among))
      by_test false apart =
          puts_nothing p r r' fd (fd_then p rows r fd) sound kept_some cheap bounded refl refl refl
          (row_now ∙ ap (λ b. if b then row_of prefix_cmp p (r.table).control else row_of prefix_cmp p (r.table).published) apart)
          (ap (λ b. if b then (machine_of r p).fd else fd) apart)
