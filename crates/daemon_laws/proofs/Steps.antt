-- Whatever happens keeps the invariant.
use Rattle.std.proofs.Common.{refl, sym, ap, subst, ◌∙◌, arith, inl, inr, ◌≡◌, ◌≢◌, ◌⊎◌, ℕ, ◌<◌, ◌≤◌, Bool, true, false, ◌&&◌, ◌==◌, if◌then◌else◌, List, [], ◌∷◌, ◌++◌, take, drop, Some, None, slice_get, eqb-true, eq-eqb, ne_eqb}
use Rattle.no_packet_loops.proofs.Common.{and_parts, and_from, Prefix, prefix_eq, Held, Router, machine_of, session_at, router_publishing, router_releasing, msg_of, Topology, LinkEnd, at_port, live, front, IsLawfullyHeld, cases_eq, false_from_ne_true, infinity}
use Rattle.network_model.proofs.Common.{both_ways, SeenHeld}
use Rattle.network_model.specs.{declared.network.Offer.Offer, World.with_offer}
use Rattle.router_core.specs.Alone.{router_publishing_some, may_forget, rows_due}
use Rattle.single_router.specs.{declared.input.Input.Input, declared.opening.Attachment.Attachment, Openings.make_fault, Openings.made_router}
use Rattle.single_router.specs.declared.input.Input.TheVariants as input
use Rattle.daemon_laws.specs.{Processes.Carried, Processes.Processes, Packets.is_in_session, Facts.fd_then, Facts.fds_next}
use Rattle.daemon_laws.specs.Happenings.{Happening, Tells, Takes, Loses, Publishes, PublishesSome, Forgets, Releases, BeginsAnew, IsLocalInput, CanHappen, with_process, is_same_end, with_coming, told_router, forgotten, sent_from, having_released, after_happening, Offers}
use Rattle.daemon_laws.proofs.{Cases.after_message, Cases.by_take, Cases.by_release, Seen.carried, Seen.is_port_in, Goes.Goes, Orderly.Orderly, Invariant.router_at, Invariant.Placed, Invariant.Invariant, Meeting.GoesAt, Meeting.goes_keeps, Polite.first_is, Polite.polite, InForce.PutsInForce, InForce.puts_keeps, InForce.puts_nothing, Publishing.puts_published, PublishingSome.puts_some, Forgetting.puts_forgetting, Beginning.Made, Beginning.made, Losing.loses_keeps, Restarting.restart_keeps}
use Rattle.daemon_laws.proofs.Telling.{in_session_is, GoesAlone, goes_told, GoesWith, goes_with}
use Rattle.daemon_laws.proofs.Releasing.{as_carried, Sent, OnItsWay, Lost, release_keeps}

-- ---- one router, or what comes to one end, changed

-- the router that is changed
pub router_here : (i : ℕ) (f : Router → Router) (rs : ℕ → Router) → with_process i f rs i ≡ f (rs i)
router_here i f rs = rw (eq-eqb i i refl) refl

-- another router
pub router_away : (i : ℕ) (f : Router → Router) (rs : ℕ → Router) (j : ℕ) → j ≢ i → with_process i f rs j ≡ rs j
router_away i f rs j d = rw (ne_eqb j i d) refl

pub end_itself : (e : LinkEnd) → is_same_end e e ≡ true
end_itself e = and_from (e.router == e.router) (e.port == e.port) (eq-eqb e.router e.router refl) (eq-eqb e.port e.port refl)

-- ends that pass the test are one
pub end_same : (d e : LinkEnd) → is_same_end d e ≡ true → d ≡ e
end_same d e h =
    let parts = and_parts (d.router == e.router) (d.port == e.port) h in
    ap (λ (n : ℕ). at_port n d.port) (eqb-true d.router e.router parts.0) ∙ ap (λ (n : ℕ). at_port e.router n) (eqb-true d.port e.port parts.1)

-- what comes to the end that is changed
pub coming_here : (e : LinkEnd) (f : List Carried → List Carried) (cs : LinkEnd → List Carried) → with_coming e f cs e ≡ f (cs e)
coming_here e f cs = rw (end_itself e) refl

-- what comes to another end
pub coming_away : (e : LinkEnd) (f : List Carried → List Carried) (cs : LinkEnd → List Carried) (d : LinkEnd) → (d ≡ e → ⊥) → with_coming e f cs d ≡ cs d
coming_away e f cs d apart = let off : is_same_end d e ≡ false = false_from_ne_true (is_same_end d e) (λ h. apart (end_same d e h)) in rw off refl

-- ---- each happening

module _ (t : Topology) (p : Prefix) (pfd : ℕ → ℕ) (w : Processes) (I : Invariant t p pfd w) where
  -- a process tells its router
  abbrev pub tells_at : (i : ℕ) (x : Input) → IsLocalInput w i x → GoesAt t p w (after_happening t w (Tells i x))
  tells_at i x own =
      let G : GoesAlone p x (w.routers i) (told_router x (w.routers i)) = goes_told p (w.routers i) (I.keeps i) (I.sound i) w i x own in
      let now : with_process i (told_router x) w.routers i ≡ told_router x (w.routers i) = router_here i (told_router x) w.routers in
      record {
        i = i;
        q = G.q;
        took = G.took;
        goes = subst (λ (r : Router). Goes p (w.routers i) r G.q G.took) (sym now) G.goes;
        routers_elsewhere = λ j d. router_away i (told_router x) w.routers j d;
        coming_elsewhere = λ e d. refl;
        lost_same = refl;
        last_grows = λ e. omega arith;
        last_after = λ e. omega arith;
        fresh = λ j lt. (
            let same : session_at (with_process i (told_router x) w.routers i).ports j ≡ session_at (told_router x (w.routers i)).ports j = ap (λ (r : Router). session_at r.ports j) now in
            let g = G.grows j (omega (arith, lt, same)) in
            let own_up : IsLocalInput w i (input.Up j (session_at (told_router x (w.routers i)).ports j) g.0) = subst (IsLocalInput w i) g.1 own in
            let later = own_up.0 in
            omega (arith, later, same));
        coming_at = λ v n may. sym (ap (λ o. front o ++ live n (carried p (w.coming (at_port i G.q)))) (G.takes_nothing n));
        coming_fewer = λ k h. h;
      }

  tells_keeps : (i : ℕ) (x : Input) → IsLocalInput w i x → Invariant t p pfd (after_happening t w (Tells i x))
  tells_keeps i x own = goes_keeps t p pfd w (after_happening t w (Tells i x)) I (tells_at i x own)

  -- a message as the prefix sees it
  abbrev as_seen : Carried → SeenHeld
  as_seen c = record { session = c.session; message = msg_of c.message }

  module _ (e : LinkEnd) (c : Carried) (at : slice_get (w.coming e) 0 ≡ Some c) (le : c.session ≤ w.last e) where
    -- the processes after the message is taken
    abbrev w' : Processes
    w' = after_message e w c

    -- what the prefix sees of the rest
    abbrev rest : List SeenHeld
    rest = carried p (drop 1 (w.coming e))

    -- what came is the message and the rest
    came : carried p (w.coming e) ≡ (if prefix_eq p (c.message).prefix then as_seen c ∷ rest else rest)
    came = ap (carried p) (first_is c (w.coming e) at)

    -- the values are not above infinity
    pub bounded : prefix_eq p (c.message).prefix ≡ true → (c.message).value ≤ infinity
    bounded same =
        let h : IsLawfullyHeld (w.last (t.far e)) (as_seen c ∷ rest) = subst (λ hs. IsLawfullyHeld (w.last (t.far e)) hs) (came ∙ ap (λ b. if b then as_seen c ∷ rest else rest) same) (I.coming_lawful e) in
        h.1

    -- the rest is lawful
    pub fewer : (k : ℕ) → IsLawfullyHeld k (carried p (w.coming e)) → IsLawfullyHeld k rest
    fewer k h = by_prefix (prefix_eq p (c.message).prefix) (subst (λ hs. IsLawfullyHeld k hs) came h)
      where
        by_prefix : (b : Bool) → IsLawfullyHeld k (if b then as_seen c ∷ rest else rest) → IsLawfullyHeld k rest
        by_prefix true g = g.2
        by_prefix false g = g

    -- the router's step
    pub goes_here : GoesWith p (w.routers e.router) (I.keeps e.router) (I.sound e.router) e.port c.session c.message (told_router (input.Message e.port c.session c.message) (w.routers e.router))
    goes_here = goes_with p (w.routers e.router) (I.keeps e.router) (I.sound e.router) e.port c.session c.message bounded

    -- in each session that the router may be in, what comes over a link is what is taken, and then the rest
    pub took_is : t.valid e ≡ true → (n : ℕ) → (is_port_in p (told_router (input.Message e.port c.session c.message) (w.routers e.router)) e.port n ≡ true) ⊎ (w.last e < n) → live n (carried p (w.coming e)) ≡ front (goes_here.took n) ++ live n rest
    took_is v n may = ap (live n) came ∙ by_prefix (prefix_eq p (c.message).prefix) refl
      where
        there : (is_port_in p (told_router (input.Message e.port c.session c.message) (w.routers e.router)) e.port n ≡ true) ⊎ (w.last e < n) → c.session ≡ n → is_port_in p (told_router (input.Message e.port c.session c.message) (w.routers e.router)) e.port n ≡ true
        there (inl on) s = on
        there (inr lt) s = absurd (omega (arith, lt, s, le))

        by_prefix : (b : Bool) → prefix_eq p (c.message).prefix ≡ b → live n (if b then as_seen c ∷ rest else rest) ≡ front (goes_here.took n) ++ live n rest
        by_prefix false apart = sym (ap (λ o. front o ++ live n rest) (goes_here.takes_other n apart))
        by_prefix true same = elim (cases_eq c.session n) [
          | inl s ↦ ap (λ b. if b then msg_of c.message ∷ live n rest else live n rest) (eq-eqb c.session n s) ∙ sym (ap (λ o. front o ++ live n rest) (goes_here.takes n (there may s) same s (λ on. polite t p pfd w I e v c at same (subst (λ (k : ℕ). is_port_in p (w.routers e.router) e.port k ≡ true) (sym s) on))))
          | inr d ↦ ap (λ b. if b then msg_of c.message ∷ live n rest else live n rest) (ne_eqb c.session n d) ∙ sym (ap (λ o. front o ++ live n rest) (goes_here.takes_not n d))
        ]

    -- each router was last in a session that its end was in
    pub last_then : (d : LinkEnd) → session_at (w'.routers d.router).ports d.port ≤ w.last d
    last_then d = elim (cases_eq d.router e.router) [
      | inl g ↦
          let is : session_at (w'.routers d.router).ports d.port ≡ session_at (w.routers d.router).ports d.port =
          ap (λ (k : ℕ). session_at (w'.routers k).ports d.port) g
          ∙ ap (λ (r : Router). session_at r.ports d.port) (router_here e.router (told_router (input.Message e.port c.session c.message)) w.routers) ∙ goes_here.same d.port
          ∙ ap (λ (k : ℕ). session_at (w.routers k).ports d.port) (sym g) in
          (let l = I.last_is d in omega (arith, is, l))
      | inr a ↦
          let is : session_at (w'.routers d.router).ports d.port ≡ session_at (w.routers d.router).ports d.port = ap (λ (r : Router). session_at r.ports d.port) (router_away e.router (told_router (input.Message e.port c.session c.message)) w.routers d.router a) in
          (let l = I.last_is d in omega (arith, is, l))
    ]

    -- the message is taken
    abbrev pub taken_at : GoesAt t p w w'
    taken_at =
        let f = told_router (input.Message e.port c.session c.message) in
        let now : with_process e.router f w.routers e.router ≡ f (w.routers e.router) = router_here e.router f w.routers in
        let rest_is : with_coming e (drop 1) w.coming e ≡ drop 1 (w.coming e) = coming_here e (drop 1) w.coming in
        record {
          i = e.router;
          q = e.port;
          took = goes_here.took;
          goes = subst (λ (r : Router). Goes p (w.routers e.router) r e.port goes_here.took) (sym now) goes_here.goes;
          routers_elsewhere = λ j d. router_away e.router f w.routers j d;
          coming_elsewhere = λ d apart. coming_away e (drop 1) w.coming d apart;
          lost_same = refl;
          last_grows = λ d. omega arith;
          last_after = last_then;
          fresh = λ j lt. absurd (
              let same : session_at (with_process e.router f w.routers e.router).ports j ≡ session_at (w.routers e.router).ports j = ap (λ (r : Router). session_at r.ports j) now ∙ goes_here.same j in
              omega (arith, lt, same));
          coming_at = λ v n may. took_is v n (subst (λ (r : Router). (is_port_in p r e.port n ≡ true) ⊎ (w.last e < n)) now may) ∙ ap (λ cs. front (goes_here.took n) ++ live n (carried p cs)) (sym rest_is);
          coming_fewer = λ k h. subst (λ cs. IsLawfullyHeld k (carried p cs)) (sym rest_is) (fewer k h);
        }

    taken_keeps : Invariant t p pfd w'
    taken_keeps = goes_keeps t p pfd w w' I taken_at

  -- a process takes the oldest message that is on its way to an end of a link
  takes_keeps : (e : LinkEnd) → Invariant t p pfd (after_happening t w (Takes e))
  takes_keeps e = by_take t w (Invariant t p pfd) I e (taken_keeps e)

  -- router i puts rows in force, or forgets a prefix
  pub puts_at : (i : ℕ) (f : Router → Router) (pfd' : ℕ → ℕ) → ((j : ℕ) → j ≢ i → pfd' j ≡ pfd j) → PutsInForce p (w.routers i) (f (w.routers i)) (pfd i) (pfd' i)
      → Invariant t p pfd' (record { routers = with_process i f w.routers; coming = w.coming; last = w.last; heard = w.heard; lost = w.lost })
  puts_at i f pfd' elsewhere puts = puts_keeps t p pfd pfd' w (record { routers = with_process i f w.routers; coming = w.coming; last = w.last; heard = w.heard; lost = w.lost }) I (record {
    i = i;
    puts = subst (λ (r : Router). PutsInForce p (w.routers i) r (pfd i) (pfd' i)) (sym (router_here i f w.routers)) puts;
    routers_elsewhere = λ j d. router_away i f w.routers j d;
    coming_is = λ e. refl;
    last_same = λ e. refl;
    lost_same = refl;
    pfd_elsewhere = elsewhere;
  })

  pub publishes_puts : (i : ℕ) → PutsInForce p (w.routers i) (router_publishing (w.routers i)) (pfd i) (fds_next p w (Publishes i) pfd i)
  publishes_puts i =
      subst (λ (n : ℕ). PutsInForce p (w.routers i) (router_publishing (w.routers i)) (pfd i) n) (sym (ap (λ b. if b then (machine_of (w.routers i) p).fd else pfd i) (eq-eqb i i refl)))
      (puts_published p (w.routers i) (I.keeps i) (I.sound i) (pfd i) (I.cheap i))

  -- a router publishes some of its rows
  pub publishes_some_puts : (i n : ℕ) → PutsInForce p (w.routers i) (router_publishing_some n (w.routers i)) (pfd i) (fds_next p w (PublishesSome i n) pfd i)
  publishes_some_puts i n =
      subst (λ (k : ℕ). PutsInForce p (w.routers i) (router_publishing_some n (w.routers i)) (pfd i) k)
      (sym (ap (λ b. if b then fd_then p (take n (rows_due (w.routers i))) (w.routers i) (pfd i) else pfd i) (eq-eqb i i refl)))
      (puts_some p (w.routers i) (I.keeps i) (I.sound i) (I.cheap i) (pfd i) (I.pfd_bounded i) n)

  -- a router forgets a prefix, where it may
  pub forgets_puts : (i : ℕ) (k : Prefix) → PutsInForce p (w.routers i) (forgotten k (w.routers i)) (pfd i) (fds_next p w (Forgets i k) pfd i)
  forgets_puts i k =
      subst (λ (n : ℕ). PutsInForce p (w.routers i) (forgotten k (w.routers i)) (pfd i) n)
      (sym (ap (λ b. if b && prefix_eq p k && may_forget k (w.routers i) then infinity else pfd i) (eq-eqb i i refl)))
      (puts_forgetting p (w.routers i) (I.keeps i) (I.sound i) (I.cheap i) k (pfd i) (I.pfd_bounded i))

  -- a router offers other next hops
  pub offers_puts : (i : ℕ) (offer : Offer) → PutsInForce p (w.routers i) (with_offer offer (w.routers i)) (pfd i) (fds_next p w (Offers i offer) pfd i)
  offers_puts i offer =
      let R = I.keeps i in
      puts_nothing p (w.routers i) (with_offer offer (w.routers i)) (pfd i) (pfd i) (I.sound i) (record {
        ripe_within = R.ripe_within;
        sorted = R.sorted;
        published_sorted = R.published_sorted;
        control_is = R.control_is;
        published_heard = R.published_heard;
        faces_are = R.faces_are;
      }) (I.cheap i) (I.pfd_bounded i) refl refl refl refl refl

  -- a router that is not in a session by its port is not in it by its machine
  not_in_it : (e : LinkEnd) (session : ℕ) → is_in_session w e session ≡ false → is_port_in p (router_at w e) e.port session ≡ false
  not_in_it e session h = sym (in_session_is p w e (I.keeps e.router) session) ∙ h

  -- the message that is released is on its way then, or lost
  pub sent_is : (i : ℕ) (h : Held) (v : Processes) → ((e : LinkEnd) → v.coming e ≡ sent_from t w (at_port i h.port) h e) → Sent t p i h w v
  sent_is i h v comes = by_test (t.valid a) refl (is_in_session w a h.session) refl comes
    where
      a : LinkEnd
      a = at_port i h.port

      by_test : (b : Bool) → t.valid (at_port i h.port) ≡ b → (d : Bool) → is_in_session w (at_port i h.port) h.session ≡ d
          → ((e : LinkEnd) → v.coming e ≡ (if b && d then with_coming (t.far (at_port i h.port)) (λ cs. cs ++ record { session = h.session; message = h.message } ∷ []) w.coming else w.coming) e) → Sent t p i h w v
      by_test true va true on is = OnItsWay va
          (is (t.far (at_port i h.port)) ∙ coming_here (t.far (at_port i h.port)) (λ cs. cs ++ as_carried h ∷ []) w.coming)
          (λ e apart. is e ∙ coming_away (t.far (at_port i h.port)) (λ cs. cs ++ as_carried h ∷ []) w.coming e apart)
      by_test true va false off is = Lost (λ v'. not_in_it (at_port i h.port) h.session off) is
      by_test false va d on is = Lost (λ v'. absurd (both_ways (t.valid (at_port i h.port)) va v')) is

  -- a router releases a message
  releases_keeps : (i : ℕ) → Invariant t p pfd (after_happening t w (Releases i))
  releases_keeps i = by_release t w (Invariant t p pfd) I i (λ h at. release_keeps t p pfd w (having_released t i w h) I (record {
    i = i;
    h = h;
    front = at;
    router_is = router_here i router_releasing w.routers;
    routers_elsewhere = λ j d. router_away i router_releasing w.routers j d;
    last_same = λ e. refl;
    lost_same = refl;
    sent = sent_is i h (having_released t i w h) (λ e. refl);
  }))

  -- a process ends, and another begins in its place
  anew_keeps : Orderly t p w → Placed t w → (i : ℕ) (costs : List ℕ) (attachments : List Attachment) → make_fault costs attachments ≡ None → Invariant t p (fds_next p w (BeginsAnew i costs attachments) pfd) (after_happening t w (BeginsAnew i costs attachments))
  anew_keeps O P i costs attachments good =
      let now : with_process i (λ r. made_router costs attachments) w.routers i ≡ made_router costs attachments = router_here i (λ r. made_router costs attachments) w.routers in
      restart_keeps t p pfd (fds_next p w (BeginsAnew i costs attachments) pfd) w (after_happening t w (BeginsAnew i costs attachments)) I O P (record {
        i = i;
        made_here = subst (Made p) (sym now) (made p (made_router costs attachments) (record { costs = costs; attachments = attachments; good = good; made = refl }));
        routers_elsewhere = λ j d. router_away i (λ r. made_router costs attachments) w.routers j d;
        coming_is = λ e. refl;
        last_is = λ e. refl;
        lost_is = λ e n. refl;
        pfd_is = ap (λ b. if b then (machine_of (made_router costs attachments) p).fd else pfd i) (eq-eqb i i refl) ∙ ap (λ (r : Router). (machine_of r p).fd) (sym now);
        pfd_elsewhere = λ j d. rw (ne_eqb j i d) refl;
      })

  pub next_keeps : Orderly t p w → Placed t w → (h : Happening) → CanHappen w h → Invariant t p (fds_next p w h pfd) (after_happening t w h)
  next_keeps O P (Tells i x) can = tells_keeps i x can
  next_keeps O P (Takes e) can = takes_keeps e
  next_keeps O P (Loses e) can = loses_keeps t p pfd w I e
  next_keeps O P (Publishes i) can = puts_at i router_publishing (fds_next p w (Publishes i) pfd) (λ j d. rw (ne_eqb j i d) refl) (publishes_puts i)
  next_keeps O P (PublishesSome i n) can = puts_at i (router_publishing_some n) (fds_next p w (PublishesSome i n) pfd) (λ j d. rw (ne_eqb j i d) refl) (publishes_some_puts i n)
  next_keeps O P (Forgets i k) can = puts_at i (forgotten k) (fds_next p w (Forgets i k) pfd) (λ j d. ap (λ b. if b && prefix_eq p k && may_forget k (w.routers i) then infinity else pfd j) (ne_eqb j i d)) (forgets_puts i k)
  next_keeps O P (Releases i) can = releases_keeps i
  next_keeps O P (Offers i offer) can = puts_at i (with_offer offer) (fds_next p w (Offers i offer) pfd) (λ j d. refl) (offers_puts i offer)
  next_keeps O P (BeginsAnew i costs attachments) can = anew_keeps O P i costs attachments can
