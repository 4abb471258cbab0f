-- Between two happenings a packet goes along a way of one moment: so its hops end once what happens alone does.
use Rattle.std.proofs.Common.{refl, arith, ◌<◌, ◌≤◌, ◌≡◌, ℕ, suc, ◌+◌, ◌*◌, Bool, true, false, ◌&&◌, if◌then◌else◌, List, [], ◌∷◌, length, Option, Some, None, option_and_then}
use Rattle.no_packet_loops.proofs.Common.{Prefix, longest_match, Entry, None_not_Some, Some_injective, Topology, LinkEnd, at_port, and_parts, is_met, meets_twice, or_parts, Via, suc-mul, mul-le-mul_right}
use Rattle.no_packet_loops.proofs.Traces.{AllBelow, few}
use Rattle.all_packets.specs.Packets.{IsWayBy}
use Rattle.coming_to_rest.specs.Rest.{IsFinite}
use Rattle.daemon_laws.specs.Processes.{Processes}
use Rattle.daemon_laws.specs.Packets.{is_in_session, session_leads, unmarked_leads, lets_in, GoesHalfWritten}
use Rattle.daemon_laws.specs.Happenings.{Happening, after_happening, AreReached, Happened, HoldsAlways}
use Rattle.daemon_laws.proofs.Always.{always_no_written_circles, always_no_unmarked_written_circles}
use Rattle.daemons_come_to_rest.specs.Rest.{AllAlone, HasMostHappenings}
use Rattle.daemons_come_to_rest.proofs.{Bounds.alone_can, Resting.always_bounded}
use Rattle.moving_daemon_packets.specs.Moving.{DaemonEvent, Goes, Does, Rewires, LeadsOn}
use Rattle.moving_daemon_packets.specs.Hops.{IsMoving, hops, HopsEnd}

-- the routers that the packet comes to before the first happening
abbrev before : List DaemonEvent → List ℕ
before (Goes k ∷ es) = k ∷ before es
before _ = []

-- the happenings
abbrev done : List DaemonEvent → List Happening
done [] = []
done (Goes k ∷ es) = done es
done (Does h ∷ es) = h ∷ done es
done (Rewires t ∷ es) = done es

-- entries lead to routers across links
abbrev LeadsAcross : LeadsOn → Type 0
LeadsAcross leads = (t : Topology) (w : Processes) (i k : ℕ) (e : Entry) → leads t w i e ≡ Some k → (f : LinkEnd) × (t.valid f ≡ true) × (f.router ≡ k)

-- and no packet meets a router twice along them
abbrev NeverTwice : LeadsOn → Type 0
NeverTwice leads = (t : Topology) (w : Processes) → AreReached t w → (addr : ℕ) (way : List ℕ) → IsWayBy (GoesHalfWritten (leads t w) w addr) way → meets_twice way ≡ false

module _ (leads : LeadsOn) (across : LeadsAcross leads) (once : NeverTwice leads) (t : Topology) (F : IsFinite t) (addr : ℕ) where
  -- before the first happening the packet goes along a way
  way : (w : Processes) (i : ℕ) (es : List DaemonEvent) → IsMoving leads t F.routers w addr i es → IsWayBy (GoesHalfWritten (leads t w) w addr) (i ∷ before es)
  way w i (Goes k ∷ es) h = (h.0, way w k es h.1)
  way w i _ h = tt

  -- at routers of the network
  below : (w : Processes) (i : ℕ) (es : List DaemonEvent) → IsMoving leads t F.routers w addr i es → AllBelow F.routers (before es)
  below w i (Goes k ∷ es) h = (by_row (longest_match addr (h.0).table) (h.0).goes, below w k es h.1)
    where
      by_row : (o : Option (Prefix × Entry)) → option_and_then (λ (r : Prefix × Entry). leads t w i r.1) o ≡ Some k → k < F.routers
      by_row None goes = absurd (None_not_Some goes)
      by_row (Some r) goes =
          let A = across t w i k r.1 goes in
          let in_it = (F.within A.0 A.1).0 in
          let same = A.2 in
          omega (arith, in_it, same)
  below w i _ h = tt

  -- so it comes to few
  few_before : (w : Processes) → AreReached t w → (i : ℕ) (es : List DaemonEvent) → IsMoving leads t F.routers w addr i es → length (before es) ≤ F.routers
  few_before w M i es h = few F.routers (before es) (below w i es h) (or_parts (is_met i (before es)) (meets_twice (before es)) (once t w M addr (i ∷ before es) (way w i es h))).1

  -- and to few more behind each happening
  pub all_few : (w : Processes) → AreReached t w → (i : ℕ) (es : List DaemonEvent) → IsMoving leads t F.routers w addr i es → hops es ≤ length (before es) + length (done es) * F.routers
  all_few w M i [] h = omega arith
  all_few w M i (Goes k ∷ es) h = (let rest = all_few w M k es h.1 in omega (arith, rest))
  all_few w M i (Does x ∷ es) h =
      let M' = Happened t w x M (alone_can F.routers w x h.0) in
      let rest = all_few (after_happening t w x) M' i es h.1 in
      let first = few_before (after_happening t w x) M' i es h.1 in
      let more = suc-mul (length (done es)) F.routers in
      omega (arith, rest, first, more)
  all_few w M i (Rewires t' ∷ es) h = absurd h

  -- what happens does so alone
  pub done_alone : (w : Processes) (i : ℕ) (es : List DaemonEvent) → IsMoving leads t F.routers w addr i es → AllAlone t F.routers w (done es)
  done_alone w i [] h = tt
  done_alone w i (Goes k ∷ es) h = done_alone w k es h.1
  done_alone w i (Does x ∷ es) h = (h.0, done_alone (after_happening t w x) i es h.1)
  done_alone w i (Rewires t' ∷ es) h = absurd h

hops_end : (leads : LeadsOn) → LeadsAcross leads → NeverTwice leads → HoldsAlways (HopsEnd leads)
hops_end leads across once t w M F = (suc B.0 * F.routers, bound)
  where
    B : HasMostHappenings t F.routers w
    B = always_bounded t w M F

    bound : (addr i : ℕ) (es : List DaemonEvent) → IsMoving leads t F.routers w addr i es → hops es ≤ suc B.0 * F.routers
    bound addr i es h =
        let all = all_few leads across once t F addr w M i es h in
        let first = few_before leads across once t F addr w M i es h in
        let happened = B.1 (done es) (done_alone leads across once t F addr w i es h) in
        let more = mul-le-mul_right F.routers happened in
        let sum = suc-mul B.0 F.routers in
        omega (arith, all, first, more, sum)

across_link : (t : Topology) (e : LinkEnd) (session k : ℕ) (b : Bool) → (if t.valid e && b then Some (t.far e).router else None) ≡ Some k → (f : LinkEnd) × (t.valid f ≡ true) × (f.router ≡ k)
across_link t e session k b h = by_test (t.valid e && b) refl h
  where
    by_test : (c : Bool) → (t.valid e && b) ≡ c → (if c then Some (t.far e).router else None) ≡ Some k → (f : LinkEnd) × (t.valid f ≡ true) × (f.router ≡ k)
    by_test false is g = absurd (None_not_Some g)
    by_test true is g = (t.far e, t.far_valid e (and_parts (t.valid e) b is).0, Some_injective g)

marked_across : LeadsAcross session_leads
marked_across t w i k (Via q session) h = across_link t (at_port i q) session k (is_in_session w (t.far (at_port i q)) session) h
marked_across t w i k _ h = absurd (None_not_Some h)

unmarked_across : LeadsAcross unmarked_leads
unmarked_across t w i k (Via q session) h = across_link t (at_port i q) session k (lets_in w (t.far (at_port i q))) h
unmarked_across t w i k _ h = absurd (None_not_Some h)

pub marked_end : HoldsAlways (HopsEnd session_leads)
marked_end = hops_end session_leads marked_across always_no_written_circles

pub unmarked_end : HoldsAlways (HopsEnd unmarked_leads)
unmarked_end = hops_end unmarked_leads unmarked_across always_no_unmarked_written_circles
