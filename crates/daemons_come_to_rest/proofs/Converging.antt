-- Once nothing happens any more but what happens alone, processes that lose nothing end where each router has its best row.
use Rattle.std.proofs.Common.{refl, sym, ap, ◌∙◌, inl, inr, ◌≡◌, ◌⊎◌, ℕ, Bool, false, ◌&&◌, ◌||◌, ◌==◌, List, [], ◌∷◌, slice_get}
use Rattle.no_packet_loops.proofs.Common.{option_map_or, false≢true, Port, Topology, LinkEnd, or_parts}
use Rattle.network_model.proofs.Common.{both_ways, cases_Bool, true_from_ne_false}
use Rattle.coming_to_rest.specs.Rest.{IsFinite}
use Rattle.coming_to_rest.proofs.Bounds.{IsIn, find_one}
use Rattle.daemon_laws.specs.{Processes.Processes, Packets.is_in_session}
use Rattle.daemon_laws.specs.Happenings.{Happening, Takes, Loses, Releases, BeginsAnew, after_happening, after_happenings}
use Rattle.daemon_laws.proofs.Cases.{by_take, by_release}
use Rattle.daemons_come_to_rest.specs.Rest.{HappensAlone, ProcessesComeToRest, rests, AllAlone}
use Rattle.daemons_come_to_rest.specs.Settled.{is_loss, forgets, NothingLeft, EndsAgree, LosesNone, SameGround, ProcessesConverge, ProcessesAlwaysConverge}
use Rattle.daemons_come_to_rest.proofs.{Gathered.prefixes_in, Gathered.all_known, Kept.Kept, Kept.kept_next, Kept.kept_reached, Falling.goes_alone, Resting.kept_rests, Settled.settled_best}
use Rattle.daemons_come_to_rest.proofs.Bounds.{alone_can, either, candidates, candidate, has_bound}

-- ---- what is left as it is

module _ (t : Topology) (F : IsFinite t) where
  -- what happens alone keeps what is kept
  pub kept_alone : (w : Processes) (hs : List Happening) → Kept t w → AllAlone t F.routers w hs → Kept t (after_happenings t w hs)
  kept_alone w [] K all = K
  kept_alone w (h ∷ hs) K all = kept_alone (after_happening t w h) hs (kept_next t w h K (alone_can F.routers w h all.0)) all.1

  -- and leaves links and attachments
  pub ground_after : (w : Processes) (hs : List Happening) → Kept t w → AllAlone t F.routers w hs → SameGround w (after_happenings t w hs)
  ground_after w [] K all = λ i. (refl, λ p. refl)
  ground_after w (h ∷ hs) K all =
      let one = (goes_alone t F (prefixes_in t F w) w K (all_known t F w) h all.0).ground in
      let rest = ground_after (after_happening t w h) hs (kept_next t w h K (alone_can F.routers w h all.0)) all.1 in
      λ i. ((rest i).0 ∙ (one i).0, λ p. (rest i).1 p ∙ (one i).1 p)

-- what is no loss loses nothing
lost_next : (t : Topology) (n : ℕ) (w : Processes) (h : Happening) → HappensAlone n w h → is_loss h ≡ false → (after_happening t w h).lost ≡ w.lost
lost_next t n w (Takes e) alone quiet = by_take t w (λ v. v.lost ≡ w.lost) refl e (λ c at le. refl)
lost_next t n w (Loses e) alone quiet = absurd (false≢true (sym quiet))
lost_next t n w (Releases i) alone quiet = by_release t w (λ v. v.lost ≡ w.lost) refl i (λ h at. refl)
lost_next t n w (BeginsAnew i costs attachments) alone quiet = absurd alone
lost_next t n w _ alone quiet = refl

-- nor do any of them
lost_after : (t : Topology) (n : ℕ) (w : Processes) (hs : List Happening) → AllAlone t n w hs → LosesNone hs → (after_happenings t w hs).lost ≡ w.lost
lost_after t n w [] all none = refl
lost_after t n w (h ∷ hs) all none = lost_after t n (after_happening t w h) hs all.1 none.1 ∙ lost_next t n w h all.0 none.0

-- on the same ground an end is in the same sessions
same_session : (w v : Processes) → SameGround w v → (e : LinkEnd) (session : ℕ) → is_in_session v e session ≡ is_in_session w e session
same_session w v G e session = ap (λ (ps : List Port). option_map_or (λ (x : Port). x.up && (x.session == session)) (slice_get ps e.port) false) (G e.router).0

pub still_agree : (t : Topology) (w v : Processes) → SameGround w v → EndsAgree t w → EndsAgree t v
still_agree t w v G A e session on =
    let U = A e session (sym (same_session w v G e session) ∙ on) in
    record { valid = U.valid; near = on; far = same_session w v G (t.far e) session ∙ U.far }

-- ---- to where nothing is left

-- some of what happens alone, without a loss, leads to where nothing is left
Leads : Topology → ℕ → Processes → Type 0
Leads t n w = (hs : List Happening) × AllAlone t n w hs × LosesNone hs × NothingLeft n (after_happenings t w hs)

-- something still happens that is no loss, and forgets no prefix
abbrev IsLeft : ℕ → Processes → Happening → Type 0
IsLeft n w h = HappensAlone n w h × ((is_loss h || forgets h) ≡ false)

-- a happening is such a one, or not
left : (n : ℕ) (w : Processes) (h : Happening) → IsLeft n w h ⊎ (IsLeft n w h → ⊥)
left n w h = elim (either n w h) [
  | inl alone ↦ elim (cases_Bool (is_loss h || forgets h)) [ inl loss ↦ inr (λ (a, keeps). both_ways (is_loss h || forgets h) keeps loss) | inr keeps ↦ inl (alone, keeps) ]
  | inr not ↦ inr (λ (a, keeps). not a)
]

-- what comes to rest leads to where nothing is left
leads : (t : Topology) (F : IsFinite t) (w : Processes) → Kept t w → ProcessesComeToRest t F.routers w → Leads t F.routers w
unfolding Leads
leads t F w K (rests _ close) = by_search (λ h alone. leads t F (after_happening t w h) (kept_next t w h K (alone_can F.routers w h alone)) (close h alone)) (find_one (IsLeft F.routers w) (left F.routers w) (candidates t F w K))
  where
    by_search : ((h : Happening) → HappensAlone F.routers w h → (hs : List Happening) × AllAlone t F.routers (after_happening t w h) hs × LosesNone hs × NothingLeft F.routers (after_happenings t (after_happening t w h) hs))
        → ((h : Happening) × IsLeft F.routers w h) ⊎ ((h : Happening) → IsIn h (candidates t F w K) → IsLeft F.routers w h → ⊥)
        → (hs : List Happening) × AllAlone t F.routers w hs × LosesNone hs × NothingLeft F.routers (after_happenings t w hs)
    by_search onward (inl (h, (alone, keeps))) = let (hs, all, none, done) = onward h alone in (h ∷ hs, (alone, all), ((or_parts (is_loss h) (forgets h) keeps).0, none), done)
    by_search onward (inr none) = ([], tt, tt, λ h alone. true_from_ne_false (is_loss h || forgets h) (λ keeps. none h (candidate t F w K h alone) (alone, keeps)))

-- ---- all

kept_converges : (t : Topology) (F : IsFinite t) (w : Processes) → Kept t w → ProcessesConverge t F.routers w
unfolding Leads
kept_converges t F w K =
    let C = kept_rests t F w K in
    record {
      bounded = has_bound t F w K C;
      somewhere = leads t F w K C;
      ground = λ hs all. ground_after t F w hs K all;
      stays_whole = λ whole hs all none e session is.
          let G = ground_after t F w hs K all in
          ap (λ (l : LinkEnd → ℕ → Bool). l e session) (lost_after t F.routers w hs all none)
          ∙ whole e session (record { valid = is.valid; near = sym (same_session w (after_happenings t w hs) G e session) ∙ is.near; far = sym (same_session w (after_happenings t w hs) G (t.far e) session) ∙ is.far });
      arrives = λ agree few hs all whole left p i lt.
          settled_best t F.routers (after_happenings t w hs) (record {
            nothing_left = left;
            placed = λ e valid. (F.within e valid).0;
            nothing_lost = whole;
            agree = still_agree t w (after_happenings t w hs) (ground_after t F w hs K all) agree;
          }) (kept_alone t F w hs K all) few p i lt;
    }

-- every moment converges
pub always_converges : ProcessesAlwaysConverge
always_converges t w M F = kept_converges t F w (kept_reached t w M)
