-- No packet meets a router twice, whichever prefixes match it on its way between routers in processes of their own.
use Rattle.std.proofs.Common.{refl, sym, ap, subst, ◌∙◌, inl, inr, arith, ◌≡◌, ℕ, ◌<◌, ◌≤◌, Bool, true, false, ◌&&◌, ◌||◌, ◌==◌, if◌then◌else◌, List, [], ◌∷◌, ne_eqb, Option, Some, None, IsSome, option_and_then, ◌⊎◌}
use Rattle.no_packet_loops.proofs.Common.{Prefix, prefix_cmp, covers, longest_match, infinity, machine_of, Entry, None_not_Some, Some_injective, false≢true, Topology, LinkEnd, at_port, and_parts, is_met, meets_twice, Unreachable, Via, is_sorted, longest_match-found, find as row_of}
use Rattle.network_model.proofs.Common.{both_ways}
use Rattle.no_packet_loops.proofs.{Publishing.control_sorted, Walks.match_is_row}
use Rattle.all_packets.specs.Packets.{IsWayBy}
use Rattle.all_packets.proofs.{Known.Fits, Known.chosen_fits, Matches.GoesBefore, Matches.found}
use Rattle.all_packets.proofs.Improving.{Improves, Goes, none_twice, LeadsBy, hops_once}
use Rattle.daemon_laws.specs.Processes.{Processes}
use Rattle.daemon_laws.specs.Packets.{is_in_session, session_leads, unmarked_leads, rows_in_mixture, MayGoOnBy, IsHalfWritten, IsShut, GoesHalfWritten}
use Rattle.daemon_laws.proofs.{Invariant.Invariant, Orderly.Orderly, Shown.AllShown}
use Rattle.daemon_laws.proofs.Walks.{leads, published_both, control_both, unmarked}

module _ (t : Topology) (w : Processes) (fds : Prefix → ℕ → ℕ) (I : (p : Prefix) → Invariant t p (fds p) w) (S : (p : Prefix) → AllShown p w.routers (fds p)) where
  -- the rows of router i, chosen or published
  abbrev pub rows : Bool → ℕ → List (Prefix × Entry)
  rows b i = rows_in_mixture (λ j. b) w i

  -- the feasible distance that goes with them
  abbrev pub fd_by : Bool → Prefix → ℕ → ℕ
  fd_by b p i = if b then (machine_of (w.routers i) p).fd else fds p i

  -- they are in the order of the prefixes
  pub in_order : (b : Bool) (i : ℕ) → is_sorted prefix_cmp (rows b i) ≡ true
  in_order true i =
      let K = (I (record { addr = 0; len = 0 })).keeps i in
      control_sorted (w.routers i) K.control_is K.sorted
  in_order false i = ((I (record { addr = 0; len = 0 })).keeps i).published_sorted

  -- along a row that leads to a router both its feasible distances fall
  pub falls : (b c : Bool) (p : Prefix) (i k : ℕ) (e : Entry) → row_of prefix_cmp p (rows b i) ≡ Some e → session_leads t w i e ≡ Some k → fd_by c p k < fd_by b p i
  falls true true p i k e row lead = (control_both t p (fds p) w (I p) i e k row (leads t p (fds p) w (I p) i e k lead)).0
  falls true false p i k e row lead = (control_both t p (fds p) w (I p) i e k row (leads t p (fds p) w (I p) i e k lead)).1
  falls false true p i k e row lead = (published_both t p (fds p) w (I p) i e k row (leads t p (fds p) w (I p) i e k lead)).0
  falls false false p i k e row lead = (published_both t p (fds p) w (I p) i e k row (leads t p (fds p) w (I p) i e k lead)).1

  -- no feasible distance is above infinity
  pub bounded : (b : Bool) (p : Prefix) (i : ℕ) → fd_by b p i ≤ infinity
  bounded true p i = (let s = (I p).sound i in let a = s.fd_below in let c = s.rd_bounded in omega (arith, a, c))
  bounded false p i = (I p).pfd_bounded i

  -- a router whose feasible distance is below infinity has a row that goes with it
  pub has_row : (c : Bool) (p : Prefix) (k : ℕ) → fd_by c p k < infinity → (e : Entry) × (row_of prefix_cmp p (rows c k) ≡ Some e)
  has_row c p k below = by_row (row_of prefix_cmp p (rows c k)) refl
    where
      far : (d : Bool) → row_of prefix_cmp p (rows d k) ≡ None → fd_by d p k ≡ infinity
      far true none = subst (λ (o : Option Entry). Fits o (machine_of (w.routers k) p).fd) none (chosen_fits p (w.routers k) (S p k).follows ((I p).sound k))
      far false none = subst (λ (o : Option Entry). Fits o (fds p k)) none (S p k).fits

      by_row : (o : Option Entry) → row_of prefix_cmp p (rows c k) ≡ o → (e : Entry) × (row_of prefix_cmp p (rows c k) ≡ Some e)
      by_row (Some e) is = (e, is)
      by_row None is = (let e = far c is in absurd (omega (arith, below, e)))

  -- what a packet needs to get nearer, where entries lead as they do to routers in the session of the row
  improves_by : (goes : ℕ → Entry → Option ℕ) → ((b : Bool) (p : Prefix) (i k : ℕ) (e : Entry) → row_of prefix_cmp p (rows b i) ≡ Some e → goes i e ≡ Some k → session_leads t w i e ≡ Some k) → Improves rows (LeadsBy rows goes) fd_by
  improves_by goes means = record {
    in_order = in_order;
    falls = λ b c p i k (e, row, lead). falls b c p i k e row (means b p i k e row lead);
    ahead = λ b c p i k (e, row, lead). has_row c p k (let f = falls b c p i k e row (means b p i k e row lead) in let top = bounded b p i in omega (arith, f, top));
  }

  -- ---- while rows are written

  -- a port of router k is up
  pub record Entered (k : ℕ) : Type 0 where
    port : ℕ
    session : ℕ
    is_up : is_in_session w (at_port k port) session ≡ true

  -- so it is of the router across a link, where that is in a session
  entered_over : (valid : Bool) (f : LinkEnd) (session k : ℕ) → (if valid && is_in_session w f session then Some f.router else None) ≡ Some k → Entered k
  entered_over valid f session k h = by_test (valid && is_in_session w f session) refl h
    where
      by_test : (b : Bool) → (valid && is_in_session w f session) ≡ b → (if b then Some f.router else None) ≡ Some k → Entered k
      by_test false is g = absurd (None_not_Some g)
      by_test true is g = record {
        port = f.port;
        session = session;
        is_up = subst (λ (x : ℕ). is_in_session w (at_port x f.port) session ≡ true) (Some_injective g) (and_parts valid (is_in_session w f session) is).1;
      }

  -- so it is of each router that an entry leads to, where packets carry the session of the row
  pub entered_marked : (i k : ℕ) (e : Entry) → session_leads t w i e ≡ Some k → Entered k
  entered_marked i k (Via q session) h = entered_over (t.valid (at_port i q)) (t.far (at_port i q)) session k h
  entered_marked i k _ h = absurd (None_not_Some h)

  -- and where they carry none
  pub entered_unmarked : (i k : ℕ) (e : Entry) → unmarked_leads t w i e ≡ Some k → Entered k
  entered_unmarked i k (Via q session) h = entered_over (t.valid (at_port i q)) (t.far (at_port i q)) (w.heard (t.far (at_port i q))) k h
  entered_unmarked i k _ h = absurd (None_not_Some h)

  -- a router that is entered is not shut
  not_shut : (k : ℕ) → Entered k → IsShut w k → ⊥
  not_shut k E shut = both_ways (is_in_session w (at_port k E.port) E.session) (shut E.port E.session) E.is_up

  module _ (Leads : Bool → Prefix → ℕ → ℕ → Type 0) (I' : Improves rows Leads fd_by) (addr : ℕ) where
    -- a packet that goes by a table into which rows are being written, where the row that matches it may lead, goes by rows that were published or chosen
    pub by_table : (b : Bool) (i k : ℕ) (table : List (Prefix × Entry)) → IsHalfWritten ((w.routers i).table).published ((w.routers i).table).control table
        → (r : Prefix × Entry) → longest_match addr table ≡ Some r → Leads b r.0 i k → Goes rows Leads fd_by I' addr i k
    by_table b i k table H r m lead = (b, record { prefix = r.0; covered = (longest_match-found addr table r m).covered; before = first; leads_to = lead })
      where
        -- nothing that the router has published for a prefix that covers the address goes before the match
        first : (q : Prefix) → covers q addr ≡ true → ((c : Bool) → (e : Entry) × (row_of prefix_cmp q (rows c i) ≡ Some e)) → GoesBefore r.0 q
        first q covered have = by_row (row_of prefix_cmp q table) refl (H.has_all q (subst IsSome (sym (have false).1) refl))
          where
            by_row : (o : Option Entry) → row_of prefix_cmp q table ≡ o → IsSome o → GoesBefore r.0 q
            by_row None is some = absurd (false≢true some)
            by_row (Some e) is some = let F = found addr q e table H.in_order is covered in subst (λ (x : Prefix × Entry). GoesBefore x.0 q) (Some_injective (sym F.matched ∙ m)) F.before

    module _ (Hop : ℕ → ℕ → Type 0) (means : (i k : ℕ) → Hop i k → Goes rows Leads fd_by I' addr i k ⊎ IsShut w i) (enters : (i k : ℕ) → Hop i k → Entered k) where
      -- from a router that is entered on a packet goes by rows that were published or chosen
      goes_on : (k : ℕ) → Entered k → (ks : List ℕ) → IsWayBy Hop (k ∷ ks) → IsWayBy (Goes rows Leads fd_by I' addr) (k ∷ ks)
      goes_on k E [] h = tt
      goes_on k E (l ∷ ls) h = elim (means k l h.0) [
        | inl goes ↦ (goes, goes_on l (enters k l h.0) ls h.1)
        | inr shut ↦ absurd (not_shut k E shut)
      ]

      -- and never to a router that is shut
      not_there : (i : ℕ) → IsShut w i → (k : ℕ) → Entered k → (i == k) ≡ false
      not_there i shut k E = ne_eqb i k (λ same. not_shut k E (subst (IsShut w) same shut))

      never_in : (i : ℕ) → IsShut w i → (k : ℕ) → Entered k → (ks : List ℕ) → IsWayBy Hop (k ∷ ks) → is_met i (k ∷ ks) ≡ false
      never_in i shut k E [] h = ap (λ b. b || false) (not_there i shut k E)
      never_in i shut k E (l ∷ ls) h = ap (λ b. b || is_met i (l ∷ ls)) (not_there i shut k E) ∙ never_in i shut l (enters k l h.0) ls h.1

      -- so it meets no router twice
      pub once : (way : List ℕ) → IsWayBy Hop way → meets_twice way ≡ false
      once (i ∷ k ∷ ks) h =
          let on : IsWayBy (Goes rows Leads fd_by I' addr) (k ∷ ks) = goes_on k (enters i k h.0) ks h.1 in
          elim (means i k h.0) [
            | inl goes ↦ none_twice rows Leads fd_by I' addr (i ∷ k ∷ ks) (goes, on)
            | inr shut ↦ ap (λ b. b || meets_twice (k ∷ ks)) (never_in i shut k (enters i k h.0) ks h.1) ∙ none_twice rows Leads fd_by I' addr (k ∷ ks) on
          ]
      once _ h = refl

  module _ (goes : ℕ → Entry → Option ℕ) (I' : Improves rows (LeadsBy rows goes) fd_by) (leads_nowhere : (i : ℕ) → goes i Unreachable ≡ None) (enters : (i k : ℕ) (e : Entry) → goes i e ≡ Some k → Entered k) (addr : ℕ) where
    -- a packet that goes by such a table goes by a row that was published or chosen
    by_written : (i k : ℕ) (table : List (Prefix × Entry)) → IsHalfWritten ((w.routers i).table).published ((w.routers i).table).control table
        → option_and_then (λ (r : Prefix × Entry). goes i r.1) (longest_match addr table) ≡ Some k → Goes rows (LeadsBy rows goes) fd_by I' addr i k
    by_written i k table H went = by_match (longest_match addr table) refl went
      where
        by_match : (o : Option (Prefix × Entry)) → longest_match addr table ≡ o → option_and_then (λ (r : Prefix × Entry). goes i r.1) o ≡ Some k → Goes rows (LeadsBy rows goes) fd_by I' addr i k
        by_match None m g = absurd (None_not_Some g)
        by_match (Some r) m g = elim (H.is_known r.0 r.1 (match_is_row addr r.0 r.1 table H.in_order m)) [
          | inl published ↦ by_table (LeadsBy rows goes) I' addr false i k table H r m (r.1, published, g)
          | inr (inl chosen) ↦ by_table (LeadsBy rows goes) I' addr true i k table H r m (r.1, chosen, g)
          | inr (inr nowhere) ↦ absurd (None_not_Some (sym (leads_nowhere i) ∙ ap (goes i) (sym nowhere) ∙ g))
        ]

    -- a router to which a packet goes is entered
    goes_in : (i k : ℕ) → GoesHalfWritten goes w addr i k → Entered k
    goes_in i k H = by_match (longest_match addr H.table) H.goes
      where
        by_match : (o : Option (Prefix × Entry)) → option_and_then (λ (r : Prefix × Entry). goes i r.1) o ≡ Some k → Entered k
        by_match None g = absurd (None_not_Some g)
        by_match (Some r) g = enters i k r.1 g

    -- so it meets no router twice
    written_once : (way : List ℕ) → IsWayBy (GoesHalfWritten goes w addr) way → meets_twice way ≡ false
    written_once = once (LeadsBy rows goes) I' addr (GoesHalfWritten goes w addr)
        (λ i k H. elim H.written [ inl written ↦ inl (by_written i k H.table written H.goes) | inr shut ↦ inr shut ]) goes_in

  -- where packets carry the session of the row
  improves_marked : Improves rows (LeadsBy rows (session_leads t w)) fd_by
  improves_marked = improves_by (session_leads t w) (λ b p i k e row lead. lead)

  -- where they carry none, a row leads in its session
  pub unmarked_means : ((p : Prefix) → Orderly t p w) → (b : Bool) (p : Prefix) (i k : ℕ) (e : Entry) → row_of prefix_cmp p (rows b i) ≡ Some e → unmarked_leads t w i e ≡ Some k → session_leads t w i e ≡ Some k
  unmarked_means O true p i k e row lead = unmarked t p (fds p) w (I p) (O p) i k e (inr row) lead
  unmarked_means O false p i k e row lead = unmarked t p (fds p) w (I p) (O p) i k e (inl row) lead

  improves_unmarked : ((p : Prefix) → Orderly t p w) → Improves rows (LeadsBy rows (unmarked_leads t w)) fd_by
  improves_unmarked O = improves_by (unmarked_leads t w) (unmarked_means O)

  -- so no packet meets a router twice
  pub marked_free : (addr : ℕ) (way : List ℕ) → IsWayBy (MayGoOnBy (session_leads t w) w addr) way → meets_twice way ≡ false
  marked_free addr way h = hops_once rows (session_leads t w) fd_by improves_marked addr way h

  -- nor where packets carry no session
  pub unmarked_free : ((p : Prefix) → Orderly t p w) → (addr : ℕ) (way : List ℕ) → IsWayBy (MayGoOnBy (unmarked_leads t w) w addr) way → meets_twice way ≡ false
  unmarked_free O addr way h = hops_once rows (unmarked_leads t w) fd_by (improves_unmarked O) addr way h

  -- nor while rows are written
  pub marked_written : (addr : ℕ) (way : List ℕ) → IsWayBy (GoesHalfWritten (session_leads t w) w addr) way → meets_twice way ≡ false
  marked_written = written_once (session_leads t w) improves_marked (λ i. refl) entered_marked

  pub unmarked_written : ((p : Prefix) → Orderly t p w) → (addr : ℕ) (way : List ℕ) → IsWayBy (GoesHalfWritten (unmarked_leads t w) w addr) way → meets_twice way ≡ false
  unmarked_written O = written_once (unmarked_leads t w) (improves_unmarked O) (λ i. refl) entered_unmarked
