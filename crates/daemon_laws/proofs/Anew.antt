-- What ends have to exceed once a process has begun anew.
use Rattle.std.proofs.Common.{refl, sym, ap, subst, ◌∙◌, arith, inl, inr, ◌≡◌, ◌≢◌, ◌⊎◌, ℕ, ◌<◌, ◌≤◌, min, max, Bool, true, false, not, ◌&&◌, ◌||◌, nat_lt, nat_le, if◌then◌else◌, List, [], ◌∷◌, eq-eqb, ne_eqb, ltb-true, leb-true}
use Rattle.no_packet_loops.proofs.Common.{and_parts, false≢true, Prefix, prefix_eq, msg_of, Reported, Topology, LinkEnd, messages, IsLawfullyHeld}
use Rattle.network_model.proofs.Common.{cases_eq}
use Rattle.daemon_laws.specs.Processes.{Carried, Processes}
use Rattle.daemon_laws.specs.Happenings.{latest, latest_coming, last_anew, may_come_again, lost_anew}
use Rattle.daemon_laws.proofs.{Seen.carried, Seen.arriving_in, Invariant.session_of, Orderly.CarriedPast}

-- ---- messages

-- nothing that is on its way is of a session later than the latest
pub none_of : (p : Prefix) (n : ℕ) (cs : List Carried) → latest cs < n → messages (arriving_in n (carried p cs)) ≡ []
none_of p n [] lt = refl
none_of p n (c ∷ cs) lt = by_prefix (prefix_eq p (c.message).prefix) (none_of p n cs (omega (arith, lt)))
  where
    by_prefix : (b : Bool) → messages (arriving_in n (carried p cs)) ≡ [] → messages (arriving_in n (if b then record { session = c.session; message = msg_of c.message } ∷ carried p cs else carried p cs)) ≡ []
    by_prefix true rest = ap (λ d. messages (if d then Reported (msg_of c.message) ∷ arriving_in n (carried p cs) else arriving_in n (carried p cs))) (ne_eqb c.session n (λ e. omega (arith, e, lt))) ∙ rest
    by_prefix false rest = rest

-- what is lawful up to a session is so up to the latest of it
pub lawful_least : (p : Prefix) (k m : ℕ) (cs : List Carried) → latest cs ≤ m → IsLawfullyHeld k (carried p cs) → IsLawfullyHeld (min k m) (carried p cs)
lawful_least p k m [] le h = tt
lawful_least p k m (c ∷ cs) le h = by_prefix (prefix_eq p (c.message).prefix) (lawful_least p k m cs (omega (arith, le))) h
  where
    by_prefix : (b : Bool) → (IsLawfullyHeld k (carried p cs) → IsLawfullyHeld (min k m) (carried p cs))
        → IsLawfullyHeld k (if b then record { session = c.session; message = msg_of c.message } ∷ carried p cs else carried p cs)
        → IsLawfullyHeld (min k m) (if b then record { session = c.session; message = msg_of c.message } ∷ carried p cs else carried p cs)
    by_prefix true rest g = ((let a = g.0 in omega (arith, a, le)), g.1, rest g.2)
    by_prefix false rest g = rest g

-- so of what is of no later session
pub carried_least : (k m : ℕ) (cs : List Carried) → latest cs ≤ m → CarriedPast k cs → CarriedPast (min k m) cs
carried_least k m [] le h = tt
carried_least k m (c ∷ cs) le h = ((let a = h.0 in omega (arith, a, le)), carried_least k m cs (omega (arith, le)) h.1)

-- ---- ends

-- where an end is: at the router that begins anew, across from it, or elsewhere; and what it has to exceed then
pub data Anew (t : Topology) (i : ℕ) (w : Processes) (e : LinkEnd) : Type 0 where
  Here : e.router ≡ i → last_anew t i w e ≡ min (w.last e) (max (session_of w (t.far e)) (latest_coming t w e)) → Anew t i w e
  Across : e.router ≢ i → (t.far e).router ≡ i → last_anew t i w e ≡ max (session_of w e) (min (w.last e) (latest_coming t w e)) → Anew t i w e
  Away : e.router ≢ i → (t.far e).router ≢ i → last_anew t i w e ≡ w.last e → Anew t i w e

pub anew_at : (t : Topology) (i : ℕ) (w : Processes) (e : LinkEnd) → Anew t i w e
anew_at t i w e = elim (cases_eq e.router i) [
  | inl g ↦ Here g (rw (eq-eqb e.router i g) refl)
  | inr d ↦ elim (cases_eq (t.far e).router i) [
    | inl g ↦ Across d g (rw (ne_eqb e.router i d, eq-eqb (t.far e).router i g) refl)
    | inr f ↦ Away d f (rw (ne_eqb e.router i d, ne_eqb (t.far e).router i f) refl)
  ]
]

module _ (t : Topology) (i : ℕ) (w : Processes) (e : LinkEnd) where
  pub anew_less : session_of w e ≤ w.last e → last_anew t i w e ≤ w.last e
  anew_less le = go (anew_at t i w e)
    where
      go : Anew t i w e → last_anew t i w e ≤ w.last e
      go (Here g is) = omega (arith, is)
      go (Across d g is) = omega (arith, is, le)
      go (Away d f is) = omega (arith, is)

  -- and no less than what is on its way
  pub anew_least : min (w.last e) (latest_coming t w e) ≤ last_anew t i w e
  anew_least = go (anew_at t i w e)
    where
      go : Anew t i w e → min (w.last e) (latest_coming t w e) ≤ last_anew t i w e
      go (Here g is) = omega (arith, is)
      go (Across d g is) = omega (arith, is)
      go (Away d f is) = omega (arith, is)

  -- nor than the session that the end was in, where its process goes on
  pub anew_own : e.router ≢ i → session_of w e ≤ w.last e → session_of w e ≤ last_anew t i w e
  anew_own other le = go (anew_at t i w e)
    where
      go : Anew t i w e → session_of w e ≤ last_anew t i w e
      go (Here g is) = absurd (other g)
      go (Across d g is) = omega (arith, is)
      go (Away d f is) = omega (arith, is, le)

  -- nor than one that the other end was in, where that process goes on
  pub anew_far : (n : ℕ) → (t.far e).router ≢ i → n ≤ session_of w (t.far e) → n ≤ w.last e → n ≤ last_anew t i w e
  anew_far n other far le = go (anew_at t i w e)
    where
      go : Anew t i w e → n ≤ last_anew t i w e
      go (Here g is) = omega (arith, is, far, le)
      go (Across d g is) = absurd (other g)
      go (Away d f is) = omega (arith, is, le)

  -- of a session that may be used again nothing is left
  pub record Nothing (n : ℕ) : Type 0 where
    pub here : (e.router ≡ i) ⊎ (session_of w e < n)
    pub there : ((t.far e).router ≡ i) ⊎ (session_of w (t.far e) < n)
    pub quiet : latest_coming t w e < n

  pub nothing_left : (n : ℕ) → last_anew t i w e < n → n ≤ w.last e → Nothing n
  nothing_left n lt le = go (anew_at t i w e)
    where
      go : Anew t i w e → Nothing n
      go (Here g is) = record { here = inl g; there = inr (omega (arith, is, lt, le)); quiet = omega (arith, is, lt, le) }
      go (Across d g is) = record { here = inr (omega (arith, is, lt, le)); there = inl g; quiet = omega (arith, is, lt, le) }
      go (Away d f is) = absurd (omega (arith, is, lt, le))

  -- an end may come into a session again
  abbrev pub Again : LinkEnd → ℕ → Type 0
  Again d n = (last_anew t i w d < n) × (n ≤ w.last d)

  -- what was lost counts still, but in such a session
  pub lost_still : (n : ℕ) → lost_anew t i w e n ≡ false → (w.lost e n ≡ false) ⊎ Again e n ⊎ Again (t.far e) n
  lost_still n off = by_lost (w.lost e n) refl off
    where
      again : (d : LinkEnd) → may_come_again t i w d n ≡ true → Again d n
      again d is = (let parts = and_parts (nat_lt (last_anew t i w d) n) (nat_le n (w.last d)) is in (ltb-true (last_anew t i w d) n parts.0, leb-true n (w.last d) parts.1))

      by_end : (b c : Bool) → may_come_again t i w e n ≡ b → may_come_again t i w (t.far e) n ≡ c → not (b || c) ≡ false → Again e n ⊎ Again (t.far e) n
      by_end true c here there h = inl (again e here)
      by_end false true here there h = inr (again (t.far e) there)
      by_end false false here there h = absurd (false≢true (sym h))

      by_lost : (b : Bool) → w.lost e n ≡ b → (b && not (may_come_again t i w e n || may_come_again t i w (t.far e) n)) ≡ false → (w.lost e n ≡ false) ⊎ Again e n ⊎ Again (t.far e) n
      by_lost false is h = inl is
      by_lost true is h = inr (by_end (may_come_again t i w e n) (may_come_again t i w (t.far e) n) refl refl h)

-- nothing is left of it at the other end either
pub nothing_back : (t : Topology) (i : ℕ) (w : Processes) (e : LinkEnd) (n : ℕ) → t.valid e ≡ true → Nothing t i w e n → Nothing t i w (t.far e) n
nothing_back t i w e n v N = record {
  here = N.there;
  there = subst (λ (d : LinkEnd). (d.router ≡ i) ⊎ (session_of w d < n)) (sym (t.far_far e v)) N.here;
  quiet = subst (λ (d : LinkEnd). max (latest (w.coming (t.far e))) (latest (w.coming d)) < n) (sym (t.far_far e v)) (let q = N.quiet in omega (arith, q));
}
