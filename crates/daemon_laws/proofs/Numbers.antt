-- What both processes at a link remember is enough to number its next session.
use Rattle.std.proofs.Common.{refl, sym, ap, subst, ◌∙◌, arith, inl, inr, ◌≡◌, ◌≢◌, ◌⊎◌, ℕ, ◌≤◌, max, Bool, true, false, not, ◌&&◌, ◌==◌, if◌then◌else◌, List, [], ◌∷◌, ◌++◌, drop, Some, slice_get}
use Rattle.no_packet_loops.proofs.Common.{Some_injective, Prefix, Held, Router, session_at, router_publishing, router_releasing, Topology, LinkEnd, at_port, cases_eq}
use Rattle.network_model.proofs.Common.{cases_Bool}
use Rattle.network_model.specs.World.{with_offer}
use Rattle.router_core.specs.Alone.{router_publishing_some, may_forget, router_forgetting}
use Rattle.single_router.specs.Openings.{made_router}
use Rattle.daemon_laws.specs.{Processes.Carried, Processes.Processes, Packets.is_in_session, Moments.fds_reached}
use Rattle.daemon_laws.specs.Happenings.{Happening, Tells, Takes, Loses, Publishes, PublishesSome, Forgets, Releases, BeginsAnew, CanHappen, with_process, is_same_end, with_coming, forgotten, sent_from, having_released, after_happening, latest, latest_coming, last_anew, link_stays, MayRewire, rewired, AreReached, Begun, Happened, Rewired, Offers}
use Rattle.daemon_laws.specs.Numbers.{known_session, IsClean, Cleanly, NumbersSuffice}
use Rattle.daemon_laws.proofs.{Cases.after_message, Cases.by_take, Cases.by_release, Invariant.session_of, Invariant.Invariant, Orderly.Orderly, Meeting.GoesAt, Releasing.as_carried, Rewiring.stays_at, Rewiring.stays_far, Rewiring.same_at, Always.always}
use Rattle.daemon_laws.proofs.Steps.{router_away, end_same, tells_at, taken_at}
use Rattle.daemon_laws.proofs.Anew.{Anew, Here, Across, Away, anew_at}

-- an end has to exceed no more than the two processes know, and what is on its way
abbrev Known : Topology → Processes → LinkEnd → Type 0
Known t w e = w.last e ≤ max (known_session t w e) (latest_coming t w e)

-- a step of one router leaves no end in an earlier session
at_grows : (t : Topology) (p : Prefix) (w w' : Processes) → GoesAt t p w w' → (e : LinkEnd) → session_of w e ≤ session_of w' e
at_grows t p w w' G e = elim (cases_eq e.router G.i) [
  | inl r ↦ subst (λ (f : LinkEnd). session_of w f ≤ session_of w' f) (sym (ap (λ (k : ℕ). at_port k e.port) r)) ((G.goes).later e.port)
  | inr d ↦ (let same : session_of w' e ≡ session_of w e = ap (λ (r : Router). session_at r.ports e.port) (G.routers_elsewhere e.router d) in omega (arith, same))
]

ports_stay : (i : ℕ) (f : Router → Router) (rs : ℕ → Router) → ((r : Router) → (f r).ports ≡ r.ports) → (e : LinkEnd) → session_at (with_process i f rs e.router).ports e.port ≡ session_at (rs e.router).ports e.port
ports_stay i f rs same e = by_test (e.router == i)
  where
    by_test : (b : Bool) → session_at (if b then f (rs e.router) else rs e.router).ports e.port ≡ session_at (rs e.router).ports e.port
    by_test true = ap (λ ps. session_at ps e.port) (same (rs e.router))
    by_test false = refl

-- a router that forgets keeps its ports
pub forgotten_ports : (k : Prefix) (r : Router) → (forgotten k r).ports ≡ r.ports
forgotten_ports k r = by_test (may_forget k r)
  where
    by_test : (b : Bool) → (if b then router_forgetting k r else r).ports ≡ r.ports
    by_test true = refl
    by_test false = refl

-- ---- what is on its way

-- without the first, which is of no session later than this
first_less : (m : ℕ) (cs : List Carried) → ((c : Carried) → slice_get cs 0 ≡ Some c → c.session ≤ m) → latest cs ≤ max m (latest (drop 1 cs))
first_less m [] le = none
  where
    none : 0 ≤ max m 0
    none = omega arith
first_less m (c ∷ cs) le = more (le c refl)
  where
    more : c.session ≤ m → max c.session (latest cs) ≤ max m (latest cs)
    more first = omega (arith, first)

one_less : (m : ℕ) (d e : LinkEnd) (cs : LinkEnd → List Carried) → (e ≡ d → (c : Carried) → slice_get (cs d) 0 ≡ Some c → c.session ≤ m) → latest (cs e) ≤ max m (latest (with_coming d (drop 1) cs e))
one_less m d e cs le = by_same (is_same_end e d) refl
  where
    by_same : (b : Bool) → is_same_end e d ≡ b → latest (cs e) ≤ max m (latest (if b then drop 1 (cs e) else cs e))
    by_same true is = (let same = end_same e d is in subst (λ (f : LinkEnd). latest (cs f) ≤ max m (latest (drop 1 (cs f)))) (sym same) (first_less m (cs d) (le same)))
    by_same false is = omega arith

latest_append : (xs ys : List Carried) → latest xs ≤ latest (xs ++ ys)
latest_append [] ys = omega arith
latest_append (x ∷ xs) ys = more (latest_append xs ys)
  where
    more : latest xs ≤ latest (xs ++ ys) → max x.session (latest xs) ≤ max x.session (latest (xs ++ ys))
    more rest = omega (arith, rest)

-- so where a router releases a message
sent_more : (t : Topology) (w : Processes) (a : LinkEnd) (h : Held) (e : LinkEnd) → latest (w.coming e) ≤ latest (sent_from t w a h e)
sent_more t w a h e = by_test (t.valid a && is_in_session w a h.session)
  where
    by_end : (b : Bool) → latest (w.coming e) ≤ latest (if b then w.coming e ++ as_carried h ∷ [] else w.coming e)
    by_end true = latest_append (w.coming e) (as_carried h ∷ [])
    by_end false = omega arith

    by_test : (b : Bool) → latest (w.coming e) ≤ latest ((if b then with_coming (t.far a) (λ cs. cs ++ as_carried h ∷ []) w.coming else w.coming) e)
    by_test true = by_end (is_same_end e (t.far a))
    by_test false = omega arith

-- ---- the processes

module _ (t : Topology) (w : Processes) (e : LinkEnd) (K : Known t w e) where
  -- where the end has to exceed no more, none of both is in an earlier session, and what goes is known
  kept_by : (v : Processes) → v.last e ≤ max (w.last e) (session_of v e) → ((d : LinkEnd) → session_of w d ≤ session_of v d) → latest_coming t w e ≤ max (known_session t w e) (latest_coming t v e) → Known t v e
  kept_by v less grows comes = (let a = grows e in let b = grows (t.far e) in omega (arith, K, less, a, b, comes))

  -- where ports stay
  kept_with : (i : ℕ) (f : Router → Router) → ((r : Router) → (f r).ports ≡ r.ports) → (v : Processes) → ((j : ℕ) → v.routers j ≡ with_process i f w.routers j) → v.last e ≡ w.last e → latest_coming t w e ≤ latest_coming t v e → Known t v e
  kept_with i f same v is last comes = kept_by v (omega (arith, last))
      (λ d. (let s : session_of v d ≡ session_of w d = ap (λ (r : Router). session_at r.ports d.port) (is d.router) ∙ ports_stay i f w.routers same d in omega (arith, s)))
      (omega (arith, comes))

  -- where the first message to an end goes
  goes_less : (d : LinkEnd) → ((d ≡ e) ⊎ (d ≡ t.far e) → (c : Carried) → slice_get (w.coming d) 0 ≡ Some c → c.session ≤ known_session t w e) → (v : Processes) → ((f : LinkEnd) → v.coming f ≡ with_coming d (drop 1) w.coming f) → latest_coming t w e ≤ max (known_session t w e) (latest_coming t v e)
  goes_less d le v comes =
      let a : latest (w.coming e) ≤ max (known_session t w e) (latest (v.coming e)) = subst (λ cs. latest (w.coming e) ≤ max (known_session t w e) (latest cs)) (sym (comes e)) (one_less (known_session t w e) d e w.coming (λ is. le (inl (sym is)))) in
      let b : latest (w.coming (t.far e)) ≤ max (known_session t w e) (latest (v.coming (t.far e))) = subst (λ cs. latest (w.coming (t.far e)) ≤ max (known_session t w e) (latest cs)) (sym (comes (t.far e))) (one_less (known_session t w e) d (t.far e) w.coming (λ is. le (inr (sym is)))) in
      omega (arith, a, b)

  module _ (p : Prefix) (fds : ℕ → ℕ) (I : Invariant t p fds w) (apart : e.router ≢ (t.far e).router) where
    known_next : (h : Happening) → CanHappen w h → IsClean e t w h → Known t (after_happening t w h) e
    known_next (Tells i x) can clean = kept_by (after_happening t w (Tells i x)) (omega arith) (at_grows t p w (after_happening t w (Tells i x)) (tells_at t p fds w I i x can)) (omega arith)
    known_next (Takes d) can clean = by_take t w (λ v. Known t v e) K d (λ c at le.
        let G = taken_at t p fds w I d c at le in
        kept_by (after_message d w c) (omega arith) (at_grows t p w (after_message d w c) G)
        (goes_less d (λ one b there. clean one b there (let s : b.session ≡ c.session = ap (λ (x : Carried). x.session) (Some_injective (sym there ∙ at)) in omega (arith, s, le))) (after_message d w c) (λ f. refl)))
    known_next (Loses d) can clean = kept_by (after_happening t w (Loses d)) (omega arith) (λ f. omega arith) (goes_less d clean (after_happening t w (Loses d)) (λ f. refl))
    known_next (Publishes i) can clean = kept_with i router_publishing (λ r. refl) (after_happening t w (Publishes i)) (λ j. refl) refl (omega arith)
    known_next (PublishesSome i n) can clean = kept_with i (router_publishing_some n) (λ r. refl) (after_happening t w (PublishesSome i n)) (λ j. refl) refl (omega arith)
    known_next (Forgets i k) can clean = kept_with i (forgotten k) (forgotten_ports k) (after_happening t w (Forgets i k)) (λ j. refl) refl (omega arith)
    known_next (Releases i) can clean = by_release t w (λ v. Known t v e) K i (λ h at.
        let a = sent_more t w (at_port i h.port) h e in
        let b = sent_more t w (at_port i h.port) h (t.far e) in
        kept_with i router_releasing (λ r. refl) (having_released t i w h) (λ j. refl) refl (omega (arith, a, b)))
    known_next (Offers i offer) can clean = kept_with i (with_offer offer) (λ r. refl) (after_happening t w (Offers i offer)) (λ j. refl) refl (omega arith)
    known_next (BeginsAnew i costs attachments) can clean = by_place (anew_at t i w e)
      where
        away : (d : LinkEnd) → d.router ≢ i → session_of (after_happening t w (BeginsAnew i costs attachments)) d ≡ session_of w d
        away d other = ap (λ (r : Router). session_at r.ports d.port) (router_away i (λ r. made_router costs attachments) w.routers d.router other)

        by_place : Anew t i w e → last_anew t i w e ≤ max (max (session_of (after_happening t w (BeginsAnew i costs attachments)) e) (session_of (after_happening t w (BeginsAnew i costs attachments)) (t.far e))) (latest_coming t w e)
        by_place (Here g is) = (let s = away (t.far e) (λ x. apart (g ∙ sym x)) in omega (arith, is, s))
        by_place (Across d g is) = (let s = away e d in omega (arith, is, s))
        by_place (Away d f is) = (let a = away e d in let b = away (t.far e) f in omega (arith, is, K, a, b))

-- other neighbours: a link that stays is as before, and the ends of one that was not there have to exceed what both processes know
known_rewired : (t t' : Topology) (p : Prefix) (fds : ℕ → ℕ) (w : Processes) (I : Invariant t p fds w) (O : Orderly t p w) (R : MayRewire t t' w) (e : LinkEnd) → t'.valid e ≡ true → (link_stays t t' e ≡ true → Known t w e) → Known t' (rewired t t' w) e
known_rewired t t' p fds w I O R e valid known = elim (cases_Bool (link_stays t t' e)) [
  | inl on ↦
      let far = (stays_at t t' p fds w I O R e on).far_is in
      let k : w.last e ≤ max (max (session_of w e) (session_of w (t'.far e))) (max (latest (w.coming e)) (latest (w.coming (t'.far e)))) =
      subst (λ (f : LinkEnd). w.last e ≤ max (max (session_of w e) (session_of w f)) (max (latest (w.coming e)) (latest (w.coming f)))) (sym far) (known on) in
      let S = same_at t t' p fds w I O R e on in
      let F = same_at t t' p fds w I O R (t'.far e) (stays_far t t' p fds w I O R e on) in
      let l = S.last in
      let a : latest ((rewired t t' w).coming e) ≡ latest (w.coming e) = ap latest S.coming in
      let b : latest ((rewired t t' w).coming (t'.far e)) ≡ latest (w.coming (t'.far e)) = ap latest F.coming in
      omega (arith, k, l, a, b)
  | inr off ↦
      (let s : (rewired t t' w).last e ≡ max (session_of w e) (session_of w (t'.far e)) = ap (λ b. if b then max (session_of w e) (session_of w (t'.far e)) else w.last e) (ap (λ b. b && not (link_stays t t' e)) valid ∙ ap not off) in
      omega (arith, s))
]

-- so it is at every moment
known_always : (t : Topology) (w : Processes) (M : AreReached t w) (e : LinkEnd) → t.valid e ≡ true → e.router ≢ (t.far e).router → Cleanly e t w M → Known t w e
known_always _ _ (Begun t w B) e valid apart clean = (let z = B.never_up e in omega (arith, z))
known_always _ _ (Happened t w h M can) e valid apart clean =
    let p : Prefix = record { addr = 0; len = 0 } in
    let A = always p t w M in
    known_next t w e (known_always t w M e valid apart clean.1) p (fds_reached t w M p) A.kept.invariant apart h can clean.0
known_always _ _ (Rewired t t' w M R) e valid apart clean =
    let p : Prefix = record { addr = 0; len = 0 } in
    let A = always p t w M in
    let fds = fds_reached t w M p in
    known_rewired t t' p fds w A.kept.invariant A.kept.orderly R e valid (λ on.
    let S = stays_at t t' p fds w A.kept.invariant A.kept.orderly R e on in
    known_always t w M e S.was (subst (λ (f : LinkEnd). e.router ≢ f.router) S.far_is apart) (clean on))

pub numbers_suffice : NumbersSuffice
numbers_suffice t w M e valid apart clean few = (let k = known_always t w M e valid apart clean in omega (arith, k, few))
