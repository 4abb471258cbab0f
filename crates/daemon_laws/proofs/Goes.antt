-- A step of one router at all of its ports, in all sessions.
use Rattle.std.proofs.Common.{refl, sym, ap, subst, ◌∙◌, arith, inl, inr, ◌≡◌, ◌≢◌, ℕ, ◌<◌, ◌≤◌, Bool, true, false, if◌then◌else◌, List, [], ◌++◌, Option, Some, None, slice_get, append-nil}
use Rattle.no_packet_loops.proofs.Common.{Prefix, prefix_eq, reaction, Event, Outgoing, Notice, Router, machine_of, router_at_home, session_at, event_at_home, kept, ripe_of, unripe_of, IsSound, Meets, meets_home, sent_to, machine_laws, held_for, SeenItem, event_of, live, IsLawfullyHeld, lawfully_held_append, lawfully_held_later, lawfully_held_for, message_of, live-append}
use Rattle.network_model.proofs.Common.{cases_Bool, cases_eq, Report, infinity, greatest_cost}
use Rattle.daemon_laws.specs.Processes.{Carried}
use Rattle.daemon_laws.proofs.{Cheap.IsCheap, Cheap.cheap_after, Cheap.cheap_event, Seen.is_port_in, Seen.MayBeIn, Routers.RouterKept, Routers.Met, Routers.Unmoved, Items.met_home, Items.moved_home, Items.unmoved_home}
use Rattle.daemon_laws.proofs.Moving.{earlier, nothing_sent, Moved, moved_unmoved, Took, took_beside, took_in, took_out}

-- from r to the next state the machine of the prefix stays as it is, or meets an event that it may meet
pub data Reacted (p : Prefix) (r r' : Router) : Type 0 where
  stays : machine_of r' p ≡ machine_of r p → Reacted p r r'
  meets_one : (e : Event) → Meets (machine_of r p) e → machine_of r' p ≡ (reaction (machine_of r p) e).machine → Reacted p r r'

-- what a router's step does: at its port q it may take a message of session n, which is took n, and at the others nothing
pub record Goes (p : Prefix) (r r' : Router) (q : ℕ) (took : ℕ → Option Report) : Type 0 where
  pub sound : IsSound (machine_of r' p)
  pub reacted : Reacted p r r'
  pub keeps : RouterKept p r'
  pub cheap : IsCheap (machine_of r p) → IsCheap (machine_of r' p)
  pub later : (j : ℕ) → session_at r.ports j ≤ session_at r'.ports j
  pub published_is : (r'.table).published ≡ (r.table).published
  pub ripe_is : (j : ℕ) → kept p j (ripe_of r') ≡ kept p j (ripe_of r)
  pub unripe_lawful : (j : ℕ) → IsLawfullyHeld (session_at r.ports j) (kept p j (unripe_of r)) → IsLawfullyHeld (session_at r'.ports j) (kept p j (unripe_of r'))
  pub moves_at : (n pfd : ℕ) (cs cs' : List Carried) → MayBeIn p r' q n → Moved p n pfd r r' q cs cs' (took n)
  pub moves_beside : (n pfd j : ℕ) (cs cs' : List Carried) → j ≢ q → MayBeIn p r' j n → Moved p n pfd r r' j cs cs' None
  pub silent : (n j : ℕ) → is_port_in p r' j n ≡ false → live n (kept p j (unripe_of r')) ≡ live n (kept p j (unripe_of r))

-- nothing is taken in any session
abbrev pub nothing : ℕ → Option Report
nothing n = None

-- a router of which nothing of the prefix changes
pub goes_unmoved : (p : Prefix) (r r' : Router) (q : ℕ) → IsSound (machine_of r p) → Unmoved p r r' → Goes p r r' q nothing
goes_unmoved p r r' q sound U = record {
  sound = subst IsSound (sym U.machine_is) sound;
  reacted = stays U.machine_is;
  keeps = U.keeps;
  cheap = λ c. subst IsCheap (sym U.machine_is) c;
  later = λ j. (let e = U.seen_is j in omega (arith, e));
  published_is = U.published_is;
  ripe_is = U.ripe_is;
  unripe_lawful = λ j h. subst (λ (s : ℕ). IsLawfullyHeld s (kept p j (unripe_of r'))) (sym (U.seen_is j)) (subst (λ hs. IsLawfullyHeld (session_at r.ports j) hs) (sym (U.unripe_is j)) h);
  moves_at = λ n pfd cs cs' may. moved_unmoved p n pfd r r' q cs cs' sound U may;
  moves_beside = λ n pfd j cs cs' apart may. moved_unmoved p n pfd r r' j cs cs' sound U may;
  silent = λ n j off. ap (live n) (U.unripe_is j);
}

module _ (p : Prefix) (r r' : Router) (e : Event) (sound : IsSound (machine_of r p)) (meets : Meets (machine_of r p) e) (M : Met p e r r') where
  -- the machine after the event is sound
  sound_met : IsSound (machine_of r' p)
  sound_met = subst IsSound (sym M.machine_is) (machine_laws.stays_sound (machine_of r p) e sound meets)

  -- what it holds and may not release yet is of sessions that it has been in, with no value above infinity
  unripe_met : (j : ℕ) → session_at r.ports j ≤ session_at r'.ports j → IsLawfullyHeld (session_at r.ports j) (kept p j (unripe_of r)) → IsLawfullyHeld (session_at r'.ports j) (kept p j (unripe_of r'))
  unripe_met j le h =
      let m = machine_of r p in
      let bounded : (s : Outgoing) (k : ℕ) → slice_get (reaction m e).sends k ≡ Some s → s.value ≤ infinity = λ s k g.
      let a = (machine_laws.sends_distance m e sound meets s k g).0 in
      let b = (machine_laws.stays_sound m e sound meets).rd_bounded in
      omega (arith, a, b) in
      subst (λ hs. IsLawfullyHeld (session_at r'.ports j) hs) (sym (M.unripe_is j))
      (lawfully_held_append (session_at r'.ports j) (kept p j (unripe_of r)) (held_for (session_at r'.ports j) (sent_to j (reaction m e).sends))
      (lawfully_held_later (session_at r.ports j) (session_at r'.ports j) (kept p j (unripe_of r)) le h)
      (lawfully_held_for (session_at r'.ports j) (session_at r'.ports j) j (reaction m e).sends (omega arith) bounded))

  -- it holds nothing more for a session that it is not in
  silent_met : (n j : ℕ) → is_port_in p r' j n ≡ false → live n (kept p j (unripe_of r')) ≡ live n (kept p j (unripe_of r))
  silent_met n j off =
      let sent = held_for (session_at r'.ports j) (sent_to j (reaction (machine_of r p) e).sends) in
      ap (live n) (M.unripe_is j) ∙ live-append n (kept p j (unripe_of r)) sent
      ∙ ap (λ xs. live n (kept p j (unripe_of r)) ++ xs) (nothing_sent p r r' e sound meets M j n 0 [] [] None off)
      ∙ append-nil (live n (kept p j (unripe_of r)))

-- the message that an item is, in a session that the router is then in
abbrev pub taken_in : Prefix → Router → ℕ → SeenItem → ℕ → Option Report
taken_in p r' q item n = if is_port_in p r' q n then message_of item else None

pub goes_took : (p : Prefix) (q : ℕ) (item : SeenItem) (r r' : Router) → IsSound (machine_of r p) → Took p q item r r' → Goes p r r' q (taken_in p r' q item)
goes_took p q item r r' sound T = record {
  sound = sound_met p r r' (event_of q item) sound T.meets T.met;
  reacted = meets_one (event_of q item) T.meets (T.met).machine_is;
  keeps = (T.met).keeps;
  cheap = λ c. subst IsCheap (sym (T.met).machine_is) (cheap_after (machine_of r p) (event_of q item) T.cheap c);
  later = later';
  published_is = (T.met).published_is;
  ripe_is = (T.met).ripe_is;
  unripe_lawful = λ j h. unripe_met p r r' (event_of q item) sound T.meets T.met j (later' j) h;
  moves_at = at;
  moves_beside = λ n pfd j cs cs' apart may. took_beside p q item r r' sound T n pfd j cs cs' apart may;
  silent = λ n j off. silent_met p r r' (event_of q item) sound T.meets T.met n j off;
}
  where
    later' : (j : ℕ) → session_at r.ports j ≤ session_at r'.ports j
    later' j = elim (cases_eq j q) [
      | inl e ↦ subst (λ (k : ℕ). session_at r.ports k ≤ session_at r'.ports k) (sym e) T.later
      | inr d ↦ let e = T.seen_beside j d in omega (arith, e)
    ]

    at : (n pfd : ℕ) (cs cs' : List Carried) → MayBeIn p r' q n → Moved p n pfd r r' q cs cs' (taken_in p r' q item n)
    at n pfd cs cs' may = elim (cases_Bool (is_port_in p r' q n)) [
      | inl on ↦ subst (λ t. Moved p n pfd r r' q cs cs' t) (sym (ap (λ b. if b then message_of item else None) on)) (took_in p q item r r' sound T n pfd cs cs' on)
      | inr off ↦ subst (λ t. Moved p n pfd r r' q cs cs' t) (sym (ap (λ b. if b then message_of item else None) off)) (took_out p q item r r' sound T n pfd cs cs' (earlier p r' q n may off))
    ]

-- a router that is told of its attachment
pub goes_home : (p : Prefix) (r : Router) (q : ℕ) (w : Notice) → RouterKept p r → IsSound (machine_of r p) → ((c : ℕ) → w.cost ≡ Some c → 0 < c) → ((c : ℕ) → w.cost ≡ Some c → c ≤ greatest_cost) → Goes p r (router_at_home w r) q nothing
goes_home p r q w R sound positive small = by_prefix (prefix_eq p w.prefix) refl
  where
    by_prefix : (b : Bool) → prefix_eq p w.prefix ≡ b → Goes p r (router_at_home w r) q nothing
    by_prefix true same =
        let M = met_home p r R w same in
        let meets = meets_home (machine_of r p) w.cost positive in
        record {
          sound = sound_met p r (router_at_home w r) (event_at_home w.cost) sound meets M;
          reacted = meets_one (event_at_home w.cost) meets M.machine_is;
          keeps = M.keeps;
          cheap = λ c. subst IsCheap (sym M.machine_is) (cheap_after (machine_of r p) (event_at_home w.cost) (cheap_event w.cost small) c);
          later = λ j. omega arith;
          published_is = M.published_is;
          ripe_is = M.ripe_is;
          unripe_lawful = λ j h. unripe_met p r (router_at_home w r) (event_at_home w.cost) sound meets M j (omega arith) h;
          moves_at = λ n pfd cs cs' may. moved_home p r R sound w positive same n pfd q cs cs' may;
          moves_beside = λ n pfd j cs cs' apart may. moved_home p r R sound w positive same n pfd j cs cs' may;
          silent = λ n j off. silent_met p r (router_at_home w r) (event_at_home w.cost) sound meets M n j off;
        }
    by_prefix false apart = goes_unmoved p r (router_at_home w r) q sound (unmoved_home p r R w apart)
