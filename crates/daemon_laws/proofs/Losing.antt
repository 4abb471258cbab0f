-- A message that is lost keeps the invariant, but for what was told in its session.
use Rattle.std.proofs.Common.{refl, sym, ap, subst, ◌∙◌, arith, inl, inr, ◌≡◌, ◌⊎◌, ℕ, ◌≤◌, Bool, true, false, ◌&&◌, ◌==◌, if◌then◌else◌, List, [], ◌∷◌, ◌++◌, drop}
use Rattle.no_packet_loops.proofs.Common.{false≢true, or_parts, Prefix, prefix_eq, msg_of, kept, ripe_of, Reported, Topology, LinkEnd, EndInvariant, IsLawfullyHeld}
use Rattle.network_model.proofs.Common.{Kind, Query, Reply, Report}
use Rattle.loop_freedom.specs.Facts.{End, pipe, count, messages, live, AtLeast, AtLeastFromLastQuery}
use Rattle.daemon_laws.specs.Processes.{Carried, Processes}
use Rattle.daemon_laws.specs.Happenings.{Loses, is_same_end, is_first_of, after_happening}
use Rattle.daemon_laws.proofs.{Told.Told, Seen.carried, Seen.arriving_in, Gone.Gone, Gone.gone_less, Invariant.end_from, Invariant.Invariant}

-- ---- two ends

-- the end with this on its way, of what was released or may be
abbrev with_out : List Report → End → End
with_out out x = record x { out = out }

-- where a list with a first message is empty, so is the rest
nil_rest : (m : Report) (ms : List Report) → m ∷ ms ≡ [] → ms ≡ []
nil_rest m ms e = cc

module _ (x y : End) (m : Report) (out : List Report) (is : x.out ≡ m ∷ out) where
  -- the message is the first of all that was on its way
  all_is : pipe x ≡ m ∷ pipe (with_out out x)
  all_is = ap (λ ms. ms ++ x.kept) is

  -- no more messages of a kind are on their way than were
  fewer : (k : Kind) → count k (pipe (with_out out x)) ≤ count k (pipe x)
  fewer k = (let c = ap (count k) all_is in omega (arith, c))

  fewer_replies : count Reply (pipe (with_out out x)) ≤ count Reply (pipe x)
  fewer_replies = fewer Reply

  -- nor among those released
  fewer_out : count Reply out ≤ count Reply x.out
  fewer_out = (let c = ap (count Reply) is in omega (arith, c))

  -- where the first message is lost, what is kept between the ends is kept
  lost_here : EndInvariant x y → EndInvariant (with_out out x) y
  lost_here h = record {
    nothing_sent = λ e. nil_rest m (pipe (with_out out x)) (sym all_is ∙ h.nothing_sent e);
    unheard = h.unheard;
    chosen_current = h.chosen_current;
    shown_current = h.shown_current;
    pfd_bounded = h.pfd_bounded;
    feasible_below_sent = (subst (AtLeast x.fd) all_is h.feasible_below_sent).1;
    feasible_below_kept = h.feasible_below_kept;
    published_below_sent = (subst (AtLeast x.pfd) is h.published_below_sent).1;
    published_below_kept = h.published_below_kept;
    control_edge_falls = h.control_edge_falls;
    published_edge_falls = h.published_edge_falls;
    awaited_once = (let a = h.awaited_once in let c = ap (count Query) all_is in omega (arith, a, c));
    computation_below_sent = h.computation_below_sent;
    computation_below_kept = λ a c le. h.computation_below_kept a c (omega (arith, le, fewer_replies));
    control_edge_waits = λ a c le. h.control_edge_waits a c (omega (arith, le, fewer_replies));
    published_edge_waits = λ a s le. h.published_edge_waits a s (omega (arith, le, fewer_out));
  }

  -- seen from the end across
  lost_there : EndInvariant y x → EndInvariant y (with_out out x)
  lost_there h = record {
    nothing_sent = h.nothing_sent;
    unheard = h.unheard;
    chosen_current = h.chosen_current;
    shown_current = h.shown_current;
    pfd_bounded = h.pfd_bounded;
    feasible_below_sent = h.feasible_below_sent;
    feasible_below_kept = h.feasible_below_kept;
    published_below_sent = h.published_below_sent;
    published_below_kept = h.published_below_kept;
    control_edge_falls = h.control_edge_falls;
    published_edge_falls = h.published_edge_falls;
    awaited_once = (let a = h.awaited_once in omega (arith, a, fewer_replies));
    computation_below_sent = λ a. (subst (AtLeastFromLastQuery x.rd) all_is (h.computation_below_sent a)).1;
    computation_below_kept = h.computation_below_kept;
    control_edge_waits = h.control_edge_waits;
    published_edge_waits = h.published_edge_waits;
  }

  -- where x has left the session
  lost_gone : Gone x y → Gone (with_out out x) y
  lost_gone G = gone_less x (with_out out x) y refl refl fewer fewer_out G

  lost_gone_there : Gone y x → Gone y (with_out out x)
  lost_gone_there G = record {
    shown_current = G.shown_current;
    published_edge_falls = G.published_edge_falls;
    replies_awaited = G.replies_awaited;
    queries_once = G.queries_once;
    published_edge_waits = G.published_edge_waits;
  }

-- ---- the processes

module _ (t : Topology) (p : Prefix) (pfd : ℕ → ℕ) (w : Processes) (I : Invariant t p pfd w) (e0 : LinkEnd) where
  -- the processes after the message is lost
  abbrev w' : Processes
  w' = after_happening t w (Loses e0)

  -- what an end shows before
  abbrev old : ℕ → LinkEnd → End
  old n e = end_from t p n pfd w e

  -- what it shows after
  abbrev new : ℕ → LinkEnd → End
  new n e = end_from t p n pfd w' e

  -- all is as before, or the first message on its way is lost
  data Out (n : ℕ) (e : LinkEnd) : Type 0 where
    Same : new n e ≡ old n e → Out n e
    First : (m : Report) → (old n e).out ≡ m ∷ (new n e).out → Out n e

  -- what the prefix sees of messages without the first, in a session
  drop_one : (n : ℕ) (cs : List Carried) → (messages (arriving_in n (carried p (drop 1 cs))) ≡ messages (arriving_in n (carried p cs))) ⊎ ((m : Report) × (messages (arriving_in n (carried p cs)) ≡ m ∷ messages (arriving_in n (carried p (drop 1 cs)))))
  drop_one n [] = inl refl
  drop_one n (c ∷ cs) = by_prefix (prefix_eq p (c.message).prefix)
    where
      by_session : (b : Bool) → (messages (arriving_in n (carried p cs)) ≡ messages (if b then Reported (msg_of c.message) ∷ arriving_in n (carried p cs) else arriving_in n (carried p cs)))
          ⊎ ((m : Report) × (messages (if b then Reported (msg_of c.message) ∷ arriving_in n (carried p cs) else arriving_in n (carried p cs)) ≡ m ∷ messages (arriving_in n (carried p cs))))
      by_session true = inr (msg_of c.message, refl)
      by_session false = inl refl

      by_prefix : (b : Bool) → (messages (arriving_in n (carried p cs)) ≡ messages (arriving_in n (if b then record { session = c.session; message = msg_of c.message } ∷ carried p cs else carried p cs)))
          ⊎ ((m : Report) × (messages (arriving_in n (if b then record { session = c.session; message = msg_of c.message } ∷ carried p cs else carried p cs)) ≡ m ∷ messages (arriving_in n (carried p cs))))
      by_prefix true = by_session (c.session == n)
      by_prefix false = inl refl

  out : (n : ℕ) (e : LinkEnd) → Out n e
  out n e = by_same (is_same_end (t.far e) e0) refl
    where
      as_out : (cs : List Carried) → w'.coming (t.far e) ≡ cs → (messages (arriving_in n (carried p cs)) ≡ messages (arriving_in n (carried p (w.coming (t.far e))))) ⊎ ((m : Report) × (messages (arriving_in n (carried p (w.coming (t.far e)))) ≡ m ∷ messages (arriving_in n (carried p cs)))) → Out n e
      as_out cs is (inl same) = Same (λ z. with_out ((ap (λ ds. messages (arriving_in n (carried p ds))) is ∙ same) z ++ live n (kept p e.port (ripe_of (w.routers e.router)))) (old n e))
      as_out cs is (inr first) = First first.0 (ap (λ ms. ms ++ live n (kept p e.port (ripe_of (w.routers e.router)))) (first.1 ∙ ap (λ ds. first.0 ∷ messages (arriving_in n (carried p ds))) (sym is)))

      by_same : (b : Bool) → is_same_end (t.far e) e0 ≡ b → Out n e
      by_same true is = as_out (drop 1 (w.coming (t.far e))) (ap (λ b. if b then drop 1 (w.coming (t.far e)) else w.coming (t.far e)) is) (drop_one n (w.coming (t.far e)))
      by_same false is = as_out (w.coming (t.far e)) (ap (λ b. if b then drop 1 (w.coming (t.far e)) else w.coming (t.far e)) is) (inl refl)

  -- where the first message is not of the session, nothing of it goes with that
  drop_same : (n : ℕ) (cs : List Carried) → is_first_of n cs ≡ false → messages (arriving_in n (carried p (drop 1 cs))) ≡ messages (arriving_in n (carried p cs))
  drop_same n [] other = refl
  drop_same n (c ∷ cs) other = by_prefix (prefix_eq p (c.message).prefix)
    where
      by_prefix : (b : Bool) → messages (arriving_in n (carried p cs)) ≡ messages (arriving_in n (if b then record { session = c.session; message = msg_of c.message } ∷ carried p cs else carried p cs))
      by_prefix true = sym (ap (λ b. messages (if b then Reported (msg_of c.message) ∷ arriving_in n (carried p cs) else arriving_in n (carried p cs))) other)
      by_prefix false = refl

  -- so where nothing of the session was lost, an end is as before
  out_same : (n : ℕ) (e : LinkEnd) → w'.lost (t.far e) n ≡ false → new n e ≡ old n e
  out_same n e whole = by_same (is_same_end (t.far e) e0) refl
    where
      as_same : (cs : List Carried) → w'.coming (t.far e) ≡ cs → messages (arriving_in n (carried p cs)) ≡ messages (arriving_in n (carried p (w.coming (t.far e)))) → new n e ≡ old n e
      as_same cs is same = λ z. with_out ((ap (λ ds. messages (arriving_in n (carried p ds))) is ∙ same) z ++ live n (kept p e.port (ripe_of (w.routers e.router)))) (old n e)

      other : (b : Bool) → (b && is_first_of n (w.coming (t.far e))) ≡ false → b ≡ true → is_first_of n (w.coming (t.far e)) ≡ false
      other true h is = h
      other false h is = absurd (false≢true is)

      by_same : (b : Bool) → is_same_end (t.far e) e0 ≡ b → new n e ≡ old n e
      by_same true is = as_same (drop 1 (w.coming (t.far e))) (ap (λ b. if b then drop 1 (w.coming (t.far e)) else w.coming (t.far e)) is)
          (drop_same n (w.coming (t.far e)) (other (is_same_end (t.far e) e0) (or_parts (w.lost (t.far e) n) (is_same_end (t.far e) e0 && is_first_of n (w.coming (t.far e))) whole).1 is))
      by_same false is = as_same (w.coming (t.far e)) (ap (λ b. if b then drop 1 (w.coming (t.far e)) else w.coming (t.far e)) is) refl

  -- what holds of an end before, and then of one of whose messages the first is lost, holds of it after
  along : (P : End → Type 0) (n : ℕ) (e : LinkEnd) → ((m : Report) → (old n e).out ≡ m ∷ (new n e).out → P (new n e)) → P (old n e) → P (new n e)
  along P n e lost h = by_out (out n e)
    where
      by_out : Out n e → P (new n e)
      by_out (Same same) = subst P (sym same) h
      by_out (First m is) = lost m is

  -- what is kept of an end and another is kept after
  here_after : (n : ℕ) (e : LinkEnd) (y : End) → EndInvariant (old n e) y → EndInvariant (new n e) y
  here_after n e y h = along (λ x. EndInvariant x y) n e (λ m is. lost_here (old n e) y m (new n e).out is h) h

  there_after : (n : ℕ) (e : LinkEnd) (y : End) → EndInvariant y (old n e) → EndInvariant y (new n e)
  there_after n e y h = along (EndInvariant y) n e (λ m is. lost_there (old n e) y m (new n e).out is h) h

  gone_here_after : (n : ℕ) (e : LinkEnd) (y : End) → Gone (old n e) y → Gone (new n e) y
  gone_here_after n e y h = along (λ x. Gone x y) n e (λ m is. lost_gone (old n e) y m (new n e).out is h) h

  gone_there_after : (n : ℕ) (e : LinkEnd) (y : End) → Gone y (old n e) → Gone y (new n e)
  gone_there_after n e y h = along (Gone y) n e (λ m is. lost_gone_there (old n e) y m (new n e).out is h) h

  -- what comes without the first is lawful
  coming' : (e : LinkEnd) → IsLawfullyHeld (w.last (t.far e)) (carried p (w'.coming e))
  coming' e = by_same (is_same_end e e0)
    where
      without_first : (k : ℕ) (cs : List Carried) → IsLawfullyHeld k (carried p cs) → IsLawfullyHeld k (carried p (drop 1 cs))
      without_first k [] h = tt
      without_first k (c ∷ cs) h = by_prefix (prefix_eq p (c.message).prefix) h
        where
          by_prefix : (b : Bool) → IsLawfullyHeld k (if b then record { session = c.session; message = msg_of c.message } ∷ carried p cs else carried p cs) → IsLawfullyHeld k (carried p cs)
          by_prefix true g = g.2
          by_prefix false g = g

      by_same : (b : Bool) → IsLawfullyHeld (w.last (t.far e)) (carried p (if b then drop 1 (w.coming e) else w.coming e))
      by_same true = without_first (w.last (t.far e)) (w.coming e) (I.coming_lawful e)
      by_same false = I.coming_lawful e

  -- a message that is lost keeps the invariant
  pub loses_keeps : Invariant t p pfd (after_happening t w (Loses e0))
  loses_keeps = record {
    sound = I.sound;
    pfd_bounded = I.pfd_bounded;
    keeps = I.keeps;
    ripe_lawful = I.ripe_lawful;
    unripe_lawful = I.unripe_lawful;
    cheap = I.cheap;
    last_is = I.last_is;
    coming_lawful = coming';
    links = λ e v n one two. there_after n (t.far e) (new n e) (here_after n e (old n (t.far e)) (I.links e v n one two));
    told = λ e v n whole one two.
        let f = t.far e in
        let off = or_parts (w.lost e n) (is_same_end e e0 && is_first_of n (w.coming e)) whole.0 in
        let off_far = or_parts (w.lost f n) (is_same_end f e0 && is_first_of n (w.coming f)) whole.1 in
        let back : w'.lost (t.far f) n ≡ false = subst (λ (d : LinkEnd). w'.lost d n ≡ false) (sym (t.far_far e v)) whole.0 in
        subst (λ (x : End). Told x (new n f)) (sym (out_same n e whole.1))
        (subst (λ (y : End). Told (old n e) y) (sym (out_same n f back)) (I.told e v n (off.0, off_far.0) one two));
    alone = λ e v n left two. gone_there_after n (t.far e) (new n e) (gone_here_after n e (old n (t.far e)) (I.alone e v n (record { off = left.off; past = left.past }) two));
  }
