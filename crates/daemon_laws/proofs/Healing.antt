-- Nothing counts as lost in a session that both ends of a link may still come into.
use Rattle.std.proofs.Common.{refl, ap, subst, ◌∙◌, arith, inl, inr, ◌≡◌, ℕ, ◌<◌, ◌≤◌, true, false, not, ◌&&◌, ◌||◌, nat_lt, nat_le, List, [], ◌∷◌, ne_eqb}
use Rattle.no_packet_loops.proofs.Common.{Prefix, Topology, LinkEnd, cases_lt, and_from, and_right, or_left, or_right, lt-ltb}
use Rattle.network_model.proofs.Common.{cases_Bool, or_from, le-leb}
use Rattle.daemon_laws.specs.{Processes.Carried, Processes.Processes, Moments.fds_reached, Rest.SessionsBeginWhole}
use Rattle.daemon_laws.specs.Happenings.{Happening, Tells, Takes, Loses, Releases, BeginsAnew, is_same_end, is_first_of, last_anew, may_come_again, lost_anew, link_stays, after_happening, MayRewire, rewired, Begun, Happened, Rewired, HoldsAlways}
use Rattle.daemon_laws.proofs.{Cases.by_take, Cases.by_release, Invariant.Invariant, Orderly.CarriedPast, Orderly.Orderly, Rewiring.stays_at, Rewiring.stays_far, Rewiring.same_at, Always.always}

-- the first of messages that are of no later session than k is of none later
not_first : (n k : ℕ) (cs : List Carried) → k < n → CarriedPast k cs → is_first_of n cs ≡ false
not_first n k [] lt past = refl
not_first n k (c ∷ cs) lt past = (let le = past.0 in ne_eqb c.session n (λ same. omega (arith, lt, le, same)))

module _ (t : Topology) (w : Processes) (W : SessionsBeginWhole t w) where
  -- where no end has to exceed less, and nothing more is lost
  kept_by : (v : Processes) → ((e : LinkEnd) → w.last e ≤ v.last e) → ((e : LinkEnd) (n : ℕ) → v.lost e n ≡ w.lost e n) → SessionsBeginWhole t v
  kept_by v grows same e n valid near far = (let a = grows e in let b = grows (t.far e) in same e n ∙ W e n valid (omega (arith, a, near)) (omega (arith, b, far)))

  -- a message that is lost is of a session that its sender was in
  loses : (p : Prefix) → Orderly t p w → (d : LinkEnd) → SessionsBeginWhole t (after_happening t w (Loses d))
  loses p O d e n valid near far =
      let past : CarriedPast (w.last (t.far e)) (w.coming e) = subst (λ (f : LinkEnd). CarriedPast (w.last (t.far e)) (w.coming f)) (t.far_far e valid) (O.coming_past (t.far e) (t.far_valid e valid)) in
      or_from (w.lost e n) (is_same_end e d && is_first_of n (w.coming e)) (W e n valid near far) (and_right (is_same_end e d) (is_first_of n (w.coming e)) (not_first n (w.last (t.far e)) (w.coming e) far past))

  module _ (i : ℕ) where
    -- an end that may come into a session again
    again : (d : LinkEnd) (n : ℕ) → last_anew t i w d < n → n ≤ w.last d → may_come_again t i w d n ≡ true
    again d n lt le = and_from (nat_lt (last_anew t i w d) n) (nat_le n (w.last d)) (lt-ltb (last_anew t i w d) n lt) (le-leb n (w.last d) le)

    -- what was lost in it counts no more
    heals : (e : LinkEnd) (n : ℕ) → (may_come_again t i w e n || may_come_again t i w (t.far e) n) ≡ true → lost_anew t i w e n ≡ false
    heals e n may = and_right (w.lost e n) (not (may_come_again t i w e n || may_come_again t i w (t.far e) n)) (ap not may)

    -- so where both ends may come into it, nothing does
    begins : (e : LinkEnd) (n : ℕ) → t.valid e ≡ true → last_anew t i w e < n → last_anew t i w (t.far e) < n → lost_anew t i w e n ≡ false
    begins e n valid near far = elim (cases_lt (w.last e) n) [
      | inl lt ↦ elim (cases_lt (w.last (t.far e)) n) [
        | inl lt' ↦ ap (λ b. b && not (may_come_again t i w e n || may_come_again t i w (t.far e) n)) (W e n valid lt lt')
        | inr le ↦ heals e n (or_right (may_come_again t i w e n) (may_come_again t i w (t.far e) n) (again (t.far e) n far le))
      ]
      | inr le ↦ heals e n (or_left (may_come_again t i w e n) (may_come_again t i w (t.far e) n) (again e n near le))
    ]

  whole_next : (p : Prefix) → Orderly t p w → (h : Happening) → SessionsBeginWhole t (after_happening t w h)
  whole_next p O (Tells i x) = kept_by (after_happening t w (Tells i x)) (λ e. omega arith) (λ e n. refl)
  whole_next p O (Takes e) = by_take t w (SessionsBeginWhole t) W e (λ c at le. W)
  whole_next p O (Loses e) = loses p O e
  whole_next p O (Releases i) = by_release t w (SessionsBeginWhole t) W i (λ h at. W)
  whole_next p O (BeginsAnew i costs attachments) = begins i
  whole_next p O _ = W

-- and where ports get other neighbours
whole_rewired : (t t' : Topology) (p : Prefix) (fds : ℕ → ℕ) (w : Processes) → SessionsBeginWhole t w → Invariant t p fds w → Orderly t p w → MayRewire t t' w → SessionsBeginWhole t' (rewired t t' w)
whole_rewired t t' p fds w W I O R e n valid near far = elim (cases_Bool (link_stays t t' e)) [
  | inl on ↦
      let S = stays_at t t' p fds w I O R e on in
      let same = same_at t t' p fds w I O R e on in
      let there = same_at t t' p fds w I O R (t'.far e) (stays_far t t' p fds w I O R e on) in
      let a = same.last in
      let b = there.last in
      same.lost n ∙ W e n S.was (omega (arith, a, near)) (subst (λ (f : LinkEnd). w.last f < n) S.far_is (omega (arith, b, far)))
  | inr off ↦ ap (λ b. b && w.lost e n) off
]

-- so it is at every moment
pub whole_always : HoldsAlways SessionsBeginWhole
whole_always _ _ (Begun t w B) = λ e n valid near far. B.never_lost e n
whole_always _ _ (Happened t w h M can) =
    let p : Prefix = record { addr = 0; len = 0 } in
    let A = always p t w M in
    whole_next t w (whole_always t w M) p A.kept.orderly h
whole_always _ _ (Rewired t t' w M R) =
    let p : Prefix = record { addr = 0; len = 0 } in
    let A = always p t w M in
    whole_rewired t t' p (fds_reached t w M p) w (whole_always t w M) A.kept.invariant A.kept.orderly R
