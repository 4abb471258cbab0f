-- Runs by more steps, and the room that a run leaves for generations.
use Rattle.std.proofs.Common.{refl, sym, subst, arith, ◌≡◌, ℕ, zero, suc, ◌+◌, ◌<◌, ◌^◌, List, [], ◌∷◌, ◌++◌, map, length, get_or, All}
use Rattle.no_packet_loops.proofs.Common.{range_with_len, Item, End, changed_at, Link, Router, Network, World, opening, opening_router_of, Lawful, next, changed_router, changed_link, with_cost, with_front_taken, with_message, with_delivered, with_noticed, with_released, front_at, notice_at, release_at, changed_attachments, with_notice_taken, router_accepting, router_at_home, router_publishing, router_releasing, Runs, option_map_or-ind, routers-changed_link, Step, SetCost, Deliver, Publish, Release}
use Rattle.convergence.proofs.Converging.{runs_append}
use Rattle.world.specs.Steps.{HasRoomForSteps}

-- a run with one lawful step more
pub with_last_step : (w : World) (ss : List Step) (v : World) (s : Step) → Runs w ss v → Lawful v s → Runs w (ss ++ s ∷ []) (next v s)
with_last_step w ss v s runs lawful = runs_append w ss v (s ∷ []) (next v s) runs (lawful, refl)

-- ---- room

all-changed_at : {A : Type 0} (P Q : A → Type 0) (f : A → A) (k : ℕ) (xs : List A) → ((x : A) → P x → Q x) → ((x : A) → P x → Q (f x)) → All P xs → All Q (changed_at k f xs)
all-changed_at P Q f k [] same here all i d below = absurd (omega (arith, below))
all-changed_at P Q f zero (x ∷ xs) same here all zero d below = here x (all 0 d (omega arith))
all-changed_at P Q f zero (x ∷ xs) same here all (suc i) d below = same (get_or xs i d) (all (suc i) d below)
all-changed_at P Q f (suc k) (x ∷ xs) same here all zero d below = same x (all 0 d (omega arith))
all-changed_at P Q f (suc k) (x ∷ xs) same here all (suc i) d below = all-changed_at P Q f k xs same here (λ j e less. all (suc j) e (omega (arith, less))) i d (omega (arith, below))

all-map : {A B : Type 0} (Q : B → Type 0) (f : A → B) (xs : List A) → ((x : A) → Q (f x)) → All Q (map f xs)
all-map Q f [] holds i d below = absurd (omega (arith, below))
all-map Q f (x ∷ xs) holds zero d below = holds x
all-map Q f (x ∷ xs) holds (suc i) d below = all-map Q f xs holds i d (omega (arith, below))

pub less_room : (m n : ℕ) (w : World) → m < suc n → HasRoomForSteps n w → HasRoomForSteps m w
less_room m n w fewer room i d below =
    let enough : (get_or w.routers i d).generation + n < 2 ^ 64 = room i d below in
    omega (arith, fewer, enough)

-- a router is changed by what leaves its generation
room-changed_router : (n i : ℕ) (f : Router → Router) (w : World) → ((r : Router) → (f r).generation ≡ r.generation) → HasRoomForSteps n w → HasRoomForSteps n (changed_router i f w)
room-changed_router n i f w same room =
    all-changed_at (λ r. r.generation + n < 2 ^ 64) (λ r. r.generation + n < 2 ^ 64) f i w.routers (λ r h. h) (λ r h. subst (λ g. g + n < 2 ^ 64) (sym (same r)) h) room

room-changed_link : (n i q : ℕ) (f : End → Link → Link) (w : World) → HasRoomForSteps n w → HasRoomForSteps n (changed_link i q f w)
room-changed_link n i q f w room = subst (All (λ (r : Router). r.generation + n < 2 ^ 64)) (sym (routers-changed_link i q f w)) room

generation-accepting : (q : ℕ) (item : Item) (r : Router) → (router_accepting q item r).generation ≡ r.generation
generation-accepting q (Item.Up session cost) r = refl
generation-accepting q _ r = refl

-- a step takes room for one publication at most
pub next-room : (n : ℕ) (w : World) (s : Step) → HasRoomForSteps (suc n) w → HasRoomForSteps n (next w s)
next-room n w s room = by_step s
  where
    less : HasRoomForSteps n w
    less = less_room n (suc n) w (omega arith) room

    by_step : (s : Step) → HasRoomForSteps n (next w s)
    by_step (SetCost i q cost) = room-changed_link n i q (with_cost cost) w less
    by_step (Deliver i q) = option_map_or-ind (HasRoomForSteps n) (with_delivered i q w) (front_at w i q) _
        (option_map_or-ind (HasRoomForSteps n) (with_noticed i w) (notice_at w i q) w less
        (λ x _. room-changed_router n i (router_at_home x) (changed_attachments i with_notice_taken w) (λ _. refl) less))
        (λ item _. room-changed_router n i (router_accepting q item) (changed_link i q with_front_taken w) (generation-accepting q item) (room-changed_link n i q with_front_taken w less))
    by_step (Publish i) =
        all-changed_at (λ r. r.generation + suc n < 2 ^ 64) (λ r. r.generation + n < 2 ^ 64) router_publishing i w.routers (λ r h. omega (arith, h)) (λ r h. omega (arith, h)) room
    by_step (Release i) = option_map_or-ind (HasRoomForSteps n) (with_released i w) (release_at w i) w less
        (λ h _. room-changed_router n i router_releasing (changed_link i h.port (with_message h) w) (λ _. refl) (room-changed_link n i h.port (with_message h) w less))
    by_step _ = less

-- so a run takes room for as many as it has steps
pub run-room : (ss : List Step) (n : ℕ) (w v : World) → Runs w ss v → HasRoomForSteps (length ss + n) w → HasRoomForSteps n v
run-room [] n w v runs room = subst (HasRoomForSteps n) runs (less_room n (0 + n) w (omega arith) room)
run-room (s ∷ ss) n w v runs room = run-room ss n (next w s) v runs.1 (next-room (length ss + n) w s (less_room (suc (length ss + n)) (length (s ∷ ss) + n) w (omega arith) room))

-- at the opening nothing was published
pub opening-room : (k : ℕ) (n : Network) → k < 2 ^ 64 → HasRoomForSteps k (opening n)
opening-room k n fits = all-map (λ (r : Router). r.generation + k < 2 ^ 64) (opening_router_of n) (range_with_len 0 n.routers) (λ i. omega (arith, fits))
