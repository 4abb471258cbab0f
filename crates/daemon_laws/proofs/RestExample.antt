-- The two routers once more: router 1 takes the route, begins anew, and takes it again in a second session; then both are at rest.
use Rattle.std.proofs.Common.{refl, sym, ap, subst, ◌∙◌, inl, inr, arith, ◌≡◌, ℕ, zero, suc, ◌<◌, Bool, true, false, ◌&&◌, ◌==◌, if◌then◌else◌, List, [], ◌∷◌, ◌++◌, slice_get, ne_eqb, eqb-true}
use Rattle.no_packet_loops.proofs.Common.{option_map_or, list_any, Port, Router, is_quiet_router, LinkEnd, at_port, cases_eq, false_from_ne_true, or_left, or_right}
use Rattle.network_model.proofs.Common.{both_ways}
use Rattle.loop_freedom.proofs.Example.{pair}
use Rattle.least_cost.proofs.Reached.{each_place, each_router}
use Rattle.single_router.specs.declared.input.Input.TheVariants as input
use Rattle.daemon_laws.specs.{Processes.Processes, Packets.is_in_session, Rest.IsUpIn, Rest.NothingLost, Reached.ExampleOfRest}
use Rattle.daemon_laws.specs.Happenings.{Happening, Tells, Takes, Loses, Publishes, PublishesSome, Forgets, Releases, BeginsAnew, after_happening, after_happenings, Offers}
use Rattle.daemon_laws.proofs.Cases.{by_take, by_release}
use Rattle.daemon_laws.proofs.Example.{first, begins, happenings, seven}

-- router 1 takes the route, its answer is lost, it begins anew, and both ends come up in a second session
abbrev pub until_up : List Happening
until_up =
    happenings
    ++ Releases 1
    ∷ Loses (at_port 0 0)
    ∷ BeginsAnew 1 (7 ∷ []) []
    ∷ Tells 1 (input.Up 0 2 7)
    ∷ Tells 0 (input.Down 0)
    ∷ Tells 0 (input.Up 0 2 7)
    ∷ []

-- router 0 tells of the route, and router 1 answers
abbrev pub onward : List Happening
onward = Publishes 0 ∷ Releases 0 ∷ Takes (at_port 1 0) ∷ Publishes 1 ∷ Releases 1 ∷ Takes (at_port 0 0) ∷ []

abbrev until_rest : List Happening
until_rest = until_up ++ onward

abbrev pub rest : Processes
rest = after_happenings pair first until_rest

-- which router a happening speaks of
abbrev speaks_of : Happening → ℕ → Bool
speaks_of (Tells i x) j = j == i
speaks_of (Takes e) j = j == e.router
speaks_of (Loses e) j = false
speaks_of (Publishes i) j = j == i
speaks_of (PublishesSome i n) j = j == i
speaks_of (Forgets i p) j = j == i
speaks_of (Releases i) j = j == i
speaks_of (Offers i offer) j = j == i
speaks_of (BeginsAnew i costs attachments) j = j == i

-- a router that a happening does not speak of stays
untouched : (w : Processes) (h : Happening) (j : ℕ) → speaks_of h j ≡ false → (after_happening pair w h).routers j ≡ w.routers j
untouched w (Loses e) j off = refl
untouched w (Releases i) j off = by_release pair w (λ v. v.routers j ≡ w.routers j) refl i (λ h at. rw off refl)
untouched w (Takes e) j off = by_take pair w (λ v. v.routers j ≡ w.routers j) refl e (λ c at le. rw off refl)
untouched w _ j off = rw off refl

-- nor after many
untouched_all : (w : Processes) (hs : List Happening) (j : ℕ) → list_any (λ h. speaks_of h j) hs ≡ false → (after_happenings pair w hs).routers j ≡ w.routers j
untouched_all w [] j off = refl
untouched_all w (h ∷ hs) j off =
    let first_off : speaks_of h j ≡ false = false_from_ne_true (speaks_of h j) (λ e. both_ways (list_any (λ x. speaks_of x j) (h ∷ hs)) off (or_left (speaks_of h j) (list_any (λ x. speaks_of x j) hs) e)) in
    let rest_off : list_any (λ x. speaks_of x j) hs ≡ false = false_from_ne_true (list_any (λ x. speaks_of x j) hs) (λ e. both_ways (list_any (λ x. speaks_of x j) (h ∷ hs)) off (or_right (speaks_of h j) (list_any (λ x. speaks_of x j) hs) e)) in
    untouched_all (after_happening pair w h) hs j rest_off ∙ untouched w h j first_off

-- an end of another router than the two is in no session
others_out : (e : LinkEnd) (session : ℕ) → (e.router ≡ 0 → ⊥) → (e.router ≡ 1 → ⊥) → is_in_session rest e session ≡ false
others_out e session d0 d1 =
    ap (λ (r : Router). option_map_or (λ (x : Port). x.up && (x.session == session)) (slice_get r.ports e.port) false)
    (untouched_all first until_rest e.router (rw (ne_eqb e.router 0 d0, ne_eqb e.router 1 d1) refl))
    ∙ by_port e.port
  where
    by_port : (q : ℕ) → option_map_or (λ (x : Port). x.up && (x.session == session)) (slice_get (record { up = false; session = 0; cost = 7 } ∷ []) q) false ≡ false
    by_port zero = refl
    by_port (suc q) = refl

-- a port past the first of the two is in no session
past_out : (b : Bool) (q session : ℕ) → is_in_session rest (at_port (if b then 0 else 1) (suc q)) session ≡ false
past_out true q session = refl
past_out false q session = refl

-- ---- the two ends

-- an end that is in a session is in the second, and so is the other
agree_at : (b : Bool) (q session : ℕ) → is_in_session rest (at_port (if b then 0 else 1) q) session ≡ true → IsUpIn pair rest (at_port (if b then 0 else 1) q) session
agree_at b (suc q) session h = absurd (both_ways (is_in_session rest (at_port (if b then 0 else 1) (suc q)) session) (past_out b q session) h)
agree_at true zero session h = record { valid = refl; near = h; far = h }
agree_at false zero session h = record { valid = refl; near = h; far = h }

pub agree : (e : LinkEnd) (session : ℕ) → is_in_session rest e session ≡ true → IsUpIn pair rest e session
agree e session h = elim (cases_eq e.router 0) [
  | inl r ↦ subst (λ (f : LinkEnd). is_in_session rest f session ≡ true → IsUpIn pair rest f session) (sym (ap (λ (n : ℕ). at_port n e.port) r)) (agree_at true e.port session) h
  | inr d ↦ elim (cases_eq e.router 1) [
    | inl r ↦ subst (λ (f : LinkEnd). is_in_session rest f session ≡ true → IsUpIn pair rest f session) (sym (ap (λ (n : ℕ). at_port n e.port) r)) (agree_at false e.port session) h
    | inr d1 ↦ absurd (both_ways (is_in_session rest e session) (others_out e session d d1) h)
  ]
]

-- what was lost is of the first session, and no end is in that
nothing_lost : NothingLost pair rest
nothing_lost e session is = each_place (λ d. is_in_session rest d session ≡ true → rest.lost d session ≡ false) (λ on. subst (λ (k : ℕ). rest.lost (at_port 0 0) k ≡ false) (eqb-true 2 session on) refl) (λ on. refl) e is.valid is.near

-- the two routers are at rest
pub some_rest : ExampleOfRest
some_rest = record {
  topology = pair;
  first = first;
  happenings = until_rest;
  begins = begins;
  can = ((omega arith, seven), ((omega arith, seven), (tt, (tt, (tt, (tt, (tt, (tt, (refl, ((omega arith, seven), (tt, ((omega arith, seven), (tt, (tt, (tt, (tt, (tt, (tt, tt))))))))))))))))));
  prefix = record { addr = 0; len = 0 };
  rests = record {
    quiet = each_router (λ i. is_quiet_router (rest.routers i) ≡ true) refl refl;
    placed = each_place (λ e. e.router < 2) (omega arith) (omega arith);
    nothing_comes = λ e session is. each_place (λ e. rest.coming e ≡ []) refl refl e is.valid;
    nothing_lost = nothing_lost;
    agree = agree;
  };
  is_local = refl;
  sends_on = refl;
  goes = refl;
  was_lost = refl;
  distance = refl;
}
