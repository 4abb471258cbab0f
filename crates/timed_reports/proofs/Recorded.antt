-- What a look at the world after an event leaves of an exact record.
use Rattle.std.proofs.Common.{refl, sym, ap, subst, ◌∙◌, arith, inl, inr, ◌≡◌, ◌⊎◌, ◌↔◌, ℕ, suc, ◌<◌, IsTrue, Bool, true, false, List, [], ◌∷◌, ◌++◌, map, length, MatchOption, Option, Some, None, option_map, option_to_list, slice_get, unwrap_or, take_all}
use Rattle.no_packet_loops.proofs.Common.{None_not_Some, false≢true, slice_get_within, list_any, Prefix, prefix_eq, World, Lawful, next, Runs}
use Rattle.timed_simulation.specs.{declared.events.Event.Event, Runs.steps_of}
use Rattle.timed_reports.specs.{declared.spells.Spell.Spell, declared.spells.Watched.Watched, Spells.IsSpell}
use Rattle.timed_reports.specs.Records.{AreLooked, AreWatched, AtFirst, EndByLooks, EndWith, HaveEnded, HoldsOf, IsListed, IsRecorded, IsSeen, Kind, OneMore, ended_by, seen, spell, watched, watched_at}
use Rattle.timed_reports.proofs.Lists.{get_within, listed_behind, listed_either, listed_first, map_alike}
use Rattle.timed_reports.proofs.OneByOne.{ending, is_ended}
use Rattle.timed_reports.proofs.OneMore.{goes_on, one_goes_on, runs_all, spell_begins, spell_ended, spell_on, spell_past, spell_till}

-- ---- what is watched

-- each router and prefix that was watched is watched
still_there : (K : Kind) (v : World) (now : ℕ) (Aside : Watched → Type 0) (past new : List Spell) (cs ds : List Watched) → AreLooked K v now Aside (length cs) cs ds past new → (x : ℕ) (c : Watched) → slice_get cs x ≡ Some c → (since : Option ℕ) × (slice_get ds x ≡ Some (watched c.router c.prefix since))
still_there K v now Aside past new cs ds L x c at =
    let below = slice_get_within cs x c at in
    let as_many = L.as_many in
    let (d, there) = get_within ds x (omega (arith, below, as_many)) in
    by_look d there (L.looked x c d below at there)
  where
    written : (b : Bool) (d : Watched) → d ≡ seen now b c → slice_get ds x ≡ Some d → (since : Option ℕ) × (slice_get ds x ≡ Some (watched c.router c.prefix since))
    written true d is there = (Some (unwrap_or c.since now), there ∙ ap Some is)
    written false d is there = (None, there ∙ ap Some is)

    by_look : (d : Watched) → slice_get ds x ≡ Some d → ((d ≡ c) × Aside c) ⊎ IsSeen K v now c d → (since : Option ℕ) × (slice_get ds x ≡ Some (watched c.router c.prefix since))
    by_look d there (inl (is, aside)) = (c.since, there ∙ ap Some is)
    by_look d there (inr look) = written look.holds d look.written there

pub watched_after : (K : Kind) (v : World) (now : ℕ) (Aside : Watched → Type 0) (past new : List Spell) (cs ds : List Watched) (count : ℕ) (ps : List Prefix) → AreLooked K v now Aside (length cs) cs ds past new → AreWatched count ps cs → AreWatched count ps ds
watched_after K v now Aside past new cs ds count ps L each p i below one =
    let (since, (x, at)) = each p i below one in
    let (later, there) = still_there K v now Aside past new cs ds L x (watched i p since) at in
    (later, (x, there))

-- and stands at its place
pub places_after : (K : Kind) (v : World) (now : ℕ) (Aside : Watched → Type 0) (past new : List Spell) (cs ds : List Watched) → AreLooked K v now Aside (length cs) cs ds past new → map watched_at ds ≡ map watched_at cs
places_after K v now Aside past new cs ds L = map_alike watched_at cs ds L.as_many (λ x c d at there. by_look c d (L.looked x c d (slice_get_within cs x c at) at there))
  where
    of_seen : (b : Bool) (c d : Watched) → d ≡ seen now b c → watched_at d ≡ watched_at c
    of_seen true c d is = ap watched_at is
    of_seen false c d is = ap watched_at is

    by_look : (c d : Watched) → ((d ≡ c) × Aside c) ⊎ IsSeen K v now c d → watched_at d ≡ watched_at c
    by_look c d (inl (is, aside)) = ap watched_at is
    by_look c d (inr look) = of_seen look.holds c d look.written

module _ (K : Kind) where
  -- ---- one router and one prefix

  -- what stands of it is right
  abbrev pub IsRight : World → List Event → World → Watched → Type 0
  IsRight w es v c = MatchOption c.since (HoldsOf K v c → ⊥) (λ from. IsSpell (K c.prefix c.router) from None w es)

  right_of : (w : World) (es : List Event) (v : World) (past : List Spell) (cs : List Watched) → IsRecorded K w es v past cs → (x : ℕ) (c : Watched) → slice_get cs x ≡ Some c → IsRight w es v c
  right_of w es v past cs R x c at = by_since c.since refl
    where
      by_since : (o : Option ℕ) → c.since ≡ o → MatchOption o (HoldsOf K v c → ⊥) (λ from. IsSpell (K c.prefix c.router) from None w es)
      by_since None is = R.resting c.prefix c.router (x, at ∙ ap (λ (s : Option ℕ). Some (watched c.router c.prefix s)) is)
      by_since (Some from) is = (R.going_on c.prefix c.router from).0 (x, at ∙ ap (λ (s : Option ℕ). Some (watched c.router c.prefix s)) is)

  module _ (w : World) (es : List Event) (v : World) (e : Event) (runs : Runs w (steps_of es) v) where
    -- the world after the event, and the events with it
    abbrev after : World
    after = next v e.step

    abbrev all : List Event
    all = es ++ e ∷ []

    -- it holds as before
    abbrev pub IsSame : Watched → Type 0
    IsSame c = (HoldsOf K v c → HoldsOf K after c) × (HoldsOf K after c → HoldsOf K v c)

    -- what was not looked at stays right if it holds as before
    right_aside : (c : Watched) → IsSame c → IsRight w es v c → IsRight w all after c
    right_aside c same right = by_since c.since right
      where
        by_since : (o : Option ℕ) → MatchOption o (HoldsOf K v c → ⊥) (λ from. IsSpell (K c.prefix c.router) from None w es) → MatchOption o (HoldsOf K after c → ⊥) (λ from. IsSpell (K c.prefix c.router) from None w all)
        by_since None not = λ holds. not (same.1 holds)
        by_since (Some from) going = spell_on (K c.prefix c.router) from w es v e runs going (same.0 (goes_on (K c.prefix c.router) from w es v runs going))

    -- what was looked at is right
    right_seen : (c : Watched) (b : Bool) → (IsTrue b ↔ HoldsOf K after c) → IsRight w es v c → IsRight w all after (seen e.moment b c)
    right_seen c true is right = by_since c.since right
      where
        by_since : (o : Option ℕ) → MatchOption o (HoldsOf K v c → ⊥) (λ from. IsSpell (K c.prefix c.router) from None w es) → IsSpell (K c.prefix c.router) (unwrap_or o e.moment) None w all
        by_since None not = spell_begins (K c.prefix c.router) w es v e runs not (is.0 refl)
        by_since (Some from) going = spell_on (K c.prefix c.router) from w es v e runs going (is.0 refl)
    right_seen c false is right = λ holds. false≢true (is.1 holds)

    module _ (Aside : Watched → Type 0) (same : (c : Watched) → Aside c → IsSame c) (past new : List Spell) (cs ds : List Watched) (R : IsRecorded K w es v past cs) (L : AreLooked K after e.moment Aside (length cs) cs ds past new) where
      -- one that stands among the new ones stood among the old ones at its place
      was : (x : ℕ) (d : Watched) → slice_get ds x ≡ Some d → (x < length cs) × (c : Watched) × (slice_get cs x ≡ Some c)
      was x d at =
          let there = slice_get_within ds x d at in
          let as_many = L.as_many in
          let below : x < length cs = omega (arith, there, as_many) in
          let (c, before) = get_within cs x below in
          (below, c, before)

      right_now : (x : ℕ) (d : Watched) → slice_get ds x ≡ Some d → IsRight w all after d
      right_now x d at =
          let (below, c, there) = was x d at in
          by_look c (right_of w es v past cs R x c there) (L.looked x c d below there at)
        where
          by_look : (c : Watched) → IsRight w es v c → ((d ≡ c) × Aside c) ⊎ IsSeen K after e.moment c d → IsRight w all after d
          by_look c right (inl (is, aside)) = subst (IsRight w all after) (sym is) (right_aside c (same c aside) right)
          by_look c right (inr look) = subst (IsRight w all after) (sym look.written) (right_seen c look.holds look.rightly right)

      all_end : EndByLooks K after e.moment Aside cs (L.ended).0
      all_end = subst (λ (xs : List Watched). EndByLooks K after e.moment Aside xs (L.ended).0) (take_all (length cs) cs (omega arith)) (L.ended).2

      -- what ended stands there
      ended_there : (p : Prefix) (i from to : ℕ) → IsListed (spell i p from to) new → IsSpell (K p i) from (Some to) w all
      ended_there p i from to listed = by_made (listed_either (spell i p from to) past (L.ended).0 (subst (IsListed (spell i p from to)) (L.ended).1 listed))
        where
          at_end : (place : ℕ) (c : Watched) (m : ℕ) → slice_get cs place ≡ Some c → c.since ≡ Some m → (HoldsOf K after c → ⊥) → IsSpell (K c.prefix c.router) m (Some e.moment) w all
          at_end place c m at is over = spell_till (K c.prefix c.router) m w es v e runs (subst (λ (o : Option ℕ). MatchOption o (HoldsOf K v c → ⊥) (λ from. IsSpell (K c.prefix c.router) from None w es)) is (right_of w es v past cs R place c at)) over

          by_made : IsListed (spell i p from to) past ⊎ IsListed (spell i p from to) (L.ended).0 → IsSpell (K p i) from (Some to) w all
          by_made (inl before) = spell_past (K p i) from to w es e ((R.ended p i from to).0 before)
          by_made (inr now) = ending K after e.moment Aside (λ (s : Spell). IsSpell (K s.prefix s.router) s.from (Some s.to) w all) cs (L.ended).0 all_end at_end (spell i p from to) now

      -- what ended now, ended with the event, in turn
      end_with : (bs : List Watched) (ss : List Spell) → ((x : ℕ) (c : Watched) → slice_get bs x ≡ Some c → IsRight w es v c) → EndByLooks K after e.moment Aside bs ss → EndWith K w es v e (map watched_at bs) ss
      end_with [] ss right none = none
      end_with (c ∷ bs) ss right (inl (aside, E)) = inl (by_since c.since (right 0 c refl), end_with bs ss (λ x d at. right (suc x) d at) E)
        where
          by_since : (o : Option ℕ) → MatchOption o (HoldsOf K v c → ⊥) (λ from. IsSpell (K c.prefix c.router) from None w es) → (HoldsOf K v c → ⊥) ⊎ HoldsOf K after c
          by_since None not = inl not
          by_since (Some from) going = inr ((same c aside).0 (goes_on (K c.prefix c.router) from w es v runs going))
      end_with (c ∷ bs) ss right (inr (holds, rest, is, all_of, E)) = by_look (end_with bs rest (λ x d at. right (suc x) d at) E) holds is all_of c.since refl (right 0 c refl)
        where
          by_look : EndWith K w es v e (map watched_at bs) rest → (b : Bool) → (IsTrue b ↔ HoldsOf K after c) → ss ≡ option_to_list (ended_by e.moment b c) ++ rest → (o : Option ℕ) → c.since ≡ o → IsRight w es v c → EndWith K w es v e (watched_at c ∷ map watched_at bs) ss
          by_look later true is all_of o began here = inl (inr (is.0 refl), subst (EndWith K w es v e (map watched_at bs)) (sym all_of) later)
          by_look later false is all_of None began here =
              inl (
                inl (subst (λ (s : Option ℕ). MatchOption s (HoldsOf K v c → ⊥) (λ from. IsSpell (K c.prefix c.router) from None w es)) began here),
                subst (EndWith K w es v e (map watched_at bs)) (sym (all_of ∙ ap (λ (s : Option ℕ). option_to_list (option_map (λ f. spell c.router c.prefix f e.moment) s) ++ rest) began)) later,
              )
          by_look later false is all_of (Some from) began here =
              inr (
                from,
                rest,
                subst (λ (s : Option ℕ). MatchOption s (HoldsOf K v c → ⊥) (λ m. IsSpell (K c.prefix c.router) m None w es)) began here,
                (λ so. false≢true (is.1 so)),
                all_of ∙ ap (λ (s : Option ℕ). option_to_list (option_map (λ f. spell c.router c.prefix f e.moment) s) ++ rest) began,
                later,
              )

      -- so it stands in the list behind what ended before
      in_turn_now : HaveEnded K w (map watched_at ds) all after new
      in_turn_now = subst (λ (bs : List (Prefix × ℕ)). HaveEnded K w bs all after new) (sym (places_after K after e.moment Aside past new cs ds L))
          (subst (HaveEnded K w (map watched_at cs) all after) (sym (L.ended).1) (OneMore es v e past (L.ended).0 R.in_turn (end_with cs (L.ended).0 (right_of w es v past cs R) all_end)))

    -- the record is exact after the event
    pub recorded_after : Lawful v e.step → (Aside : Watched → Type 0) → ((c : Watched) → Aside c → IsSame c) → (past new : List Spell) (cs ds : List Watched) (count : ℕ) (ps : List Prefix) → AreWatched count ps cs
        → ((p : Prefix) (i : ℕ) → K p i v → (i < count) × (list_any (prefix_eq p) ps ≡ true)) → ((p : Prefix) (i : ℕ) → K p i after → (i < count) × (list_any (prefix_eq p) ps ≡ true))
        → IsRecorded K w es v past cs → AreLooked K after e.moment Aside (length cs) cs ds past new → IsRecorded K w all after new ds
    recorded_after lawful Aside same past new cs ds count ps each known known_after R L = record {
      ended = λ p i from to. (ended_there Aside same past new cs ds R L p i from to, ended_listed p i from to);
      in_turn = in_turn_now Aside same past new cs ds R L;
      going_on = λ p i from. (going_there p i from, going_listed p i from);
      resting = λ p i listed. right_now Aside same past new cs ds R L listed.0 (watched i p None) listed.1;
    }
      where
        going_there : (p : Prefix) (i from : ℕ) → IsListed (watched i p (Some from)) ds → IsSpell (K p i) from None w all
        going_there p i from listed = right_now Aside same past new cs ds R L listed.0 (watched i p (Some from)) listed.1

        -- where it is watched, since that moment
        since_is : (p : Prefix) (i from : ℕ) → IsSpell (K p i) from None w all → (x : ℕ) (o : Option ℕ) → slice_get ds x ≡ Some (watched i p o) → IsListed (watched i p (Some from)) ds
        since_is p i from going x None at = absurd (right_now Aside same past new cs ds R L x (watched i p None) at (goes_on (K p i) from w all after (runs_all w es v e runs lawful) going))
        since_is p i from going x (Some m) at =
            let is : m ≡ from = one_goes_on (K p i) m from w all (right_now Aside same past new cs ds R L x (watched i p (Some m)) at) going in
            (x, at ∙ ap (λ (k : ℕ). Some (watched i p (Some k))) is)

        going_listed : (p : Prefix) (i from : ℕ) → IsSpell (K p i) from None w all → IsListed (watched i p (Some from)) ds
        going_listed p i from going =
            let (below, one) = known_after p i (goes_on (K p i) from w all after (runs_all w es v e runs lawful) going) in
            let (since, (x, at)) = each p i below one in
            let (now, there) = still_there K after e.moment Aside past new cs ds L x (watched i p since) at in
            since_is p i from going x now there

        ended_listed : (p : Prefix) (i from to : ℕ) → IsSpell (K p i) from (Some to) w all → IsListed (spell i p from to) new
        ended_listed p i from to ends = by_end (spell_ended (K p i) from to w es v e runs ends)
          where
            -- it is over with this event
            over_now : IsSpell (K p i) from None w es → (K p i after → ⊥) → (x : ℕ) (o : Option ℕ) → slice_get cs x ≡ Some (watched i p o) → IsListed (spell i p from e.moment) new
            over_now going over x None at = absurd (R.resting p i (x, at) (goes_on (K p i) from w es v runs going))
            over_now going over x (Some m) at =
                let is : m ≡ from = one_goes_on (K p i) m from w es ((R.going_on p i m).0 (x, at)) going in
                by_look is (is_ended K after e.moment Aside cs (L.ended).0 (all_end Aside same past new cs ds R L) x (watched i p (Some m)) m at refl)
              where
                by_look : m ≡ from → Aside (watched i p (Some m)) ⊎ K p i after ⊎ IsListed (spell i p m e.moment) (L.ended).0 → IsListed (spell i p from e.moment) new
                by_look is (inl aside) = absurd (over ((same (watched i p (Some m)) aside).0 (goes_on (K p i) from w es v runs going)))
                by_look is (inr (inl holds)) = absurd (over holds)
                by_look is (inr (inr listed)) =
                    subst (λ (k : ℕ). IsListed (spell i p k e.moment) new) is
                    (subst (IsListed (spell i p m e.moment)) (sym (L.ended).1) (listed_behind (spell i p m e.moment) past (L.ended).0 listed))

            by_end : IsSpell (K p i) from (Some to) w es ⊎ (IsSpell (K p i) from None w es × (K p i after → ⊥) × (to ≡ e.moment)) → IsListed (spell i p from to) new
            by_end (inl before) = subst (IsListed (spell i p from to)) (sym (L.ended).1) (listed_first (spell i p from to) past (L.ended).0 ((R.ended p i from to).1 before))
            by_end (inr (going, over, is)) =
                let (below, one) = known p i (goes_on (K p i) from w es v runs going) in
                let (since, (x, at)) = each p i below one in
                subst (λ (k : ℕ). IsListed (spell i p from k) new) (sym is) (over_now going over x since at)

-- at the opening nothing was recorded, and nothing goes on
pub recorded_opening : (K : Kind) (w : World) (cs : List Watched) → ((p : Prefix) (i : ℕ) → K p i w → ⊥) → ((x : ℕ) (c : Watched) → slice_get cs x ≡ Some c → c.since ≡ None) → IsRecorded K w [] w [] cs
recorded_opening K w cs not none = record {
  ended = λ p i from to. ((λ listed. None_not_Some listed.1), (λ ends. absurd ends));
  in_turn = AtFirst;
  going_on = λ p i from. ((λ listed. absurd (None_not_Some (sym (none listed.0 (watched i p (Some from)) listed.1)))), (λ going. absurd going));
  resting = λ p i listed. not p i;
}
