-- The feasible distance with which a router published last fits the row that it published, whatever has happened.
use Rattle.std.proofs.Common.{refl, sym, ap, subst, ◌∙◌, inl, inr, ◌≡◌, ◌≢◌, ℕ, Bool, true, false, if◌then◌else◌, List, take, Option, is_some, is_none, ◌&&◌, eq-eqb, ne_eqb}
use Rattle.no_packet_loops.proofs.Common.{Prefix, prefix_cmp, prefix_eq, Entry, infinity, Router, machine_of, router_publishing, router_releasing, Topology, with_rows, cases_eq, find as row_of}
use Rattle.network_model.specs.World.{with_offer}
use Rattle.all_packets.proofs.Known.{Follows, Fits, chosen_fits}
use Rattle.no_packet_loops.proofs.Machines.{prefix_same}
use Rattle.route_table.specs.Place.{without}
use Rattle.router_core.specs.Alone.{router_publishing_some, may_forget, router_forgetting, rows_due}
use Rattle.single_router.specs.{declared.input.Input.Input, Inputs.told_fault, Inputs.router_after, Openings.made_router}
use Rattle.single_router.specs.declared.input.Input.TheVariants as input
use Rattle.daemon_laws.specs.{Processes.Processes, Facts.fd_then, Facts.fds_next, Facts.first_fds}
use Rattle.daemon_laws.specs.Happenings.{Happening, Tells, Takes, Loses, Publishes, PublishesSome, Forgets, Releases, BeginsAnew, CanHappen, IsMade, IsOpening, with_process, told_router, forgotten, after_happening, Offers}
use Rattle.daemon_laws.proofs.{Cases.by_take, Cases.by_release, SomeRows.row_forgotten, SomeRows.row_beside, SomeRows.chosen_without, Beginning.made, Invariant.Invariant, PublishingSome.some_in_force, Steps.router_here, Steps.router_away}

module _ (p : Prefix) where
  -- a router, and the feasible distance with which it published last
  pub record ShownAt (r : Router) (fd : ℕ) : Type 0 where
    pub follows : Follows r
    pub fits : Fits (row_of prefix_cmp p (r.table).published) fd

  abbrev pub AllShown : (ℕ → Router) → (ℕ → ℕ) → Type 0
  AllShown routers fds = (i : ℕ) → ShownAt (routers i) (fds i)

  -- one router changed, and the feasible distance with which it published
  changed_shown : (i : ℕ) (f : Router → Router) (routers : ℕ → Router) (fds fds' : ℕ → ℕ) → ((j : ℕ) → j ≢ i → fds' j ≡ fds j) → AllShown routers fds → ShownAt (f (routers i)) (fds' i) → AllShown (with_process i f routers) fds'
  changed_shown i f routers fds fds' same A here j = elim (cases_eq j i) [
    | inl e ↦ subst (λ k. ShownAt (with_process i f routers k) (fds' k)) (sym e) (subst (λ (x : Router). ShownAt x (fds' i)) (sym (router_here i f routers)) here)
    | inr d ↦ subst (λ (x : Router). ShownAt x (fds' j)) (sym (router_away i f routers j d)) (subst (λ n. ShownAt (routers j) n) (sym (same j d)) (A j))
  ]

  told_shown : (x : Input) (r : Router) (fd : ℕ) → ShownAt r fd → ShownAt (told_router x r) fd
  told_shown x r fd S = by_fault (is_none (told_fault x r))
    where
      by_input : (y : Input) → ShownAt (router_after y r) fd
      by_input (input.Up port session cost) = record { follows = refl; fits = S.fits }
      by_input _ = record { follows = refl; fits = S.fits }

      by_fault : (b : Bool) → ShownAt (if b then router_after x r else r) fd
      by_fault true = by_input x
      by_fault false = S

  made_shown : (r : Router) → IsMade r → ShownAt r (machine_of r p).fd
  made_shown r M = record { follows = F; fits = subst (λ (rows : List (Prefix × Entry)). Fits (row_of prefix_cmp p rows) (machine_of r p).fd) (sym same) (chosen_fits p r F (made p r M).sound) }
    where
      F : Follows r
      F = (made p r M).keeps.control_is

      same : (r.table).published ≡ (r.table).control
      same = subst (λ (x : Router). (x.table).published ≡ (x.table).control) (sym M.made) refl

  -- a router that forgets a prefix
  follows_without : (k : Prefix) (r : Router) → Follows r → Follows (router_forgetting k r)
  follows_without k r F = ap (λ rows. without k rows) F ∙ chosen_without k r.ports r.machines

  pub next_shown : (t : Topology) (w : Processes) (h : Happening) (fds : ℕ → ℕ) → CanHappen w h → Invariant t p fds w → AllShown w.routers fds → AllShown (after_happening t w h).routers (fds_next p w h fds)
  next_shown t w (Tells i x) fds can I A = changed_shown i (told_router x) w.routers fds fds (λ j d. refl) A (told_shown x (w.routers i) (fds i) (A i))
  next_shown t w (Takes e) fds can I A = by_take t w (λ v. AllShown v.routers fds) A e (λ c at le.
      let m = input.Message e.port c.session c.message in changed_shown e.router (told_router m) w.routers fds fds (λ j d. refl) A (told_shown m (w.routers e.router) (fds e.router) (A e.router)))
  next_shown t w (Loses e) fds can I A = A
  next_shown t w (Publishes i) fds can I A = changed_shown i router_publishing w.routers fds (fds_next p w (Publishes i) fds) (λ j d. rw (ne_eqb j i d) refl) A here
    where
      F : Follows (w.routers i)
      F = (A i).follows

      here : ShownAt (router_publishing (w.routers i)) (fds_next p w (Publishes i) fds i)
      here = rw (eq-eqb i i refl) (record { follows = F; fits = chosen_fits p (w.routers i) F (I.sound i) })
  next_shown t w (PublishesSome i n) fds can I A = changed_shown i (router_publishing_some n) w.routers fds (fds_next p w (PublishesSome i n) fds) (λ j d. rw (ne_eqb j i d) refl) A
      (rw (eq-eqb i i refl) (record { follows = (A i).follows; fits = subst (λ (o : Option Entry). Fits o (fd_then p rows (w.routers i) (fds i))) (sym row_now) (by_among (is_some (row_of prefix_cmp p rows))) }))
    where
      rows : List (Prefix × Entry)
      rows = take n (rows_due (w.routers i))

      row_now : row_of prefix_cmp p (with_rows rows ((w.routers i).table).published) ≡ (if is_some (row_of prefix_cmp p rows) then row_of prefix_cmp p ((w.routers i).table).control else row_of prefix_cmp p ((w.routers i).table).published)
      row_now = some_in_force p (w.routers i) (I.keeps i) n

      by_among : (b : Bool) → Fits (if b then row_of prefix_cmp p ((w.routers i).table).control else row_of prefix_cmp p ((w.routers i).table).published) (if b then (machine_of (w.routers i) p).fd else fds i)
      by_among true = chosen_fits p (w.routers i) (A i).follows (I.sound i)
      by_among false = (A i).fits
  next_shown t w (Forgets i k) fds can I A = changed_shown i (forgotten k) w.routers fds (fds_next p w (Forgets i k) fds) (λ j d. ap (λ b. if b && prefix_eq p k && may_forget k (w.routers i) then infinity else fds j) (ne_eqb j i d)) A
      (subst (λ (n : ℕ). ShownAt (forgotten k (w.routers i)) n) (sym (ap (λ b. if b && prefix_eq p k && may_forget k (w.routers i) then infinity else fds i) (eq-eqb i i refl)))
      (by_test (prefix_eq p k) refl (may_forget k (w.routers i))))
    where
      by_test : (b : Bool) → prefix_eq p k ≡ b → (a : Bool) → ShownAt (if a then router_forgetting k (w.routers i) else w.routers i) (if b && a then infinity else fds i)
      by_test true same true = record {
        follows = follows_without k (w.routers i) (A i).follows;
        fits = subst (λ (o : Option Entry). Fits o infinity) (sym (ap (λ (x : Prefix). row_of prefix_cmp x (without k ((w.routers i).table).published)) (prefix_same p k same) ∙ row_forgotten k ((w.routers i).table).published)) refl;
      }
      by_test false apart true = record { follows = follows_without k (w.routers i) (A i).follows; fits = subst (λ (o : Option Entry). Fits o (fds i)) (sym (row_beside p k ((w.routers i).table).published apart)) (A i).fits }
      by_test _ _ _ = A i
  next_shown t w (Releases i) fds can I A = by_release t w (λ v. AllShown v.routers fds) A i
      (λ h is. changed_shown i router_releasing w.routers fds fds (λ j d. refl) A (record { follows = (A i).follows; fits = (A i).fits }))
  next_shown t w (Offers i offer) fds can I A = changed_shown i (with_offer offer) w.routers fds fds (λ j d. refl) A (record { follows = (A i).follows; fits = (A i).fits })
  next_shown t w (BeginsAnew i costs attachments) fds can I A = changed_shown i (λ r. made_router costs attachments) w.routers fds (fds_next p w (BeginsAnew i costs attachments) fds) (λ j d. rw (ne_eqb j i d) refl) A
      (rw (eq-eqb i i refl) (made_shown (made_router costs attachments) (record { costs = costs; attachments = attachments; good = can; made = refl })))

  pub begins_shown : (w : Processes) → IsOpening w → AllShown w.routers (first_fds p w)
  begins_shown w B i = made_shown (w.routers i) (B.routers_made i)
