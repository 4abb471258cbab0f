-- A router that publishes nothing shows the same, if it takes nothing where it shows what it has chosen: so a packet that stays near does not come back to it.
use Rattle.std.proofs.Common.{refl, sym, ap, subst, ◌∙◌, inl, inr, arith, ◌<◌, ◌≤◌, ◌≡◌, ℕ, suc, ◌+◌, Bool, true, false, not, ◌&&◌, ◌||◌, ◌==◌, if◌then◌else◌, List, [], ◌∷◌, ◌++◌, IsSome, eq-eqb}
use Rattle.no_packet_loops.proofs.Common.{false≢true, Prefix, prefix_cmp, Router, World, Item, router_accepting, Lawful, next, History, history, with_step, find as row_of, Step}
use Rattle.no_packet_loops.specs.Packets.{mixture_rows}
use Rattle.all_packets.specs.Journeys.{Event, Goes, Does}
use Rattle.all_packets.proofs.Ways.{rows_by}
use Rattle.moving_packets.specs.Moving.{HoldsAfterEveryRun, fd_shown, entry_shown, IsSent, takes, publishes, publishes_first, MayShow, StaysNear, visits, publications, ComesBackOncePublished, ComesBackSeldom}
use Rattle.moving_packets.proofs.{Rises.same_chosen, Reached.IsMade, Reached.made, Reached.made_more, Reached.is_entry, Reached.lower, Reached.finite, Reached.has_row, Reached.stays_or_chosen, Reached.stays_in, Calm.hop, Calm.known, Calm.near_by}
use Rattle.moving_packets.proofs.Returns.{IsOn, Left, left_by, came_by, Where, spare, leaves, hop_counts, wait_counts, count_hop, count_wait}

-- a router that takes an item keeps the rows that it published
keeps_rows : (q : ℕ) (item : Item) (r : Router) → ((router_accepting q item r).table).published ≡ (r.table).published
keeps_rows q (Item.Up session cost) r = refl
keeps_rows q _ r = refl

-- a step in which the router does not publish leaves them, and those that it has chosen where it takes nothing
same_rows : (c : Bool) (w : World) (s : Step) (i : ℕ) → publishes i s ≡ false → (c ≡ true → takes i s ≡ false) → mixture_rows (λ j. c) (next w s) i ≡ mixture_rows (λ j. c) w i
same_rows true w s i quiet away = stays_in (rows_by true) [] w s i (λ r. refl) (λ e r. refl) (λ e. absurd (false≢true (sym (away refl) ∙ e)))
same_rows false w s i quiet away = stays_in (rows_by false) [] w s i (λ r. refl) (λ e. absurd (false≢true (sym quiet ∙ e))) (λ e. (keeps_rows, λ x r. refl))

-- and so the feasible distance that goes with them
same_fd : (c : Bool) (h : History) (s : Step) (p : Prefix) (i : ℕ) → Lawful h.world s → publishes i s ≡ false → (c ≡ true → takes i s ≡ false) → fd_shown c (with_step h s) p i ≡ fd_shown c h p i
same_fd false h s p i L quiet away = elim (stays_or_chosen h s p i L) [ inl e ↦ e | inr x ↦ absurd (false≢true (sym (ap (publishes i) (sym x.0) ∙ quiet) ∙ eq-eqb i i refl)) ]
same_fd true h s p i L quiet away = same_chosen h s p i (away refl)

-- what bars the way back to a router while it publishes nothing: it shows rows of one kind as it did, and goes on so, if it takes nothing first
record Bars (addr i : ℕ) (h : History) (first : Bool) (L : Left addr) : Type 0 where
  kind : Bool
  fd_is : fd_shown kind h L.prefix i ≡ L.distance
  rows_are : (q : Prefix) → entry_shown kind h i q ≡ L.rows q
  may : kind ≡ true → first ≡ true

-- so no packet that is on comes there
stops : (h : History) → IsMade h → (addr i : ℕ) (first : Bool) (L : Left addr) → Bars addr i h first L → (b : Bool) (k : ℕ) (q : Prefix) → IsSent b h addr q k i → IsOn addr L.prefix L.distance q (fd_shown b h q k) → ⊥
stops h M addr i first L B b k q F O = elim (came_by L.by q (fd_shown b h q k) O) [
  | inl same ↦
      let here : fd_shown B.kind h L.prefix i < fd_shown b h q k = subst (λ (x : Prefix). fd_shown B.kind h x i < fd_shown b h q k) same.0 low in
      let le = same.1 in
      let is = B.fd_is in
      omega (arith, here, le, is)
  | inr other ↦ (let top = finite h M b addr k i q F in false≢true (subst IsSome (B.rows_are q ∙ other.2) (has_row h M B.kind q i (omega (arith, low, top)))))
]
  where
    low : fd_shown B.kind h q i < fd_shown b h q k
    low = lower h M b B.kind addr k i q F

-- so it stays in a step in which the router does not publish
stays_barred : (h : History) (s : Step) (addr i : ℕ) (es : List Event) → Lawful h.world s → (L : Left addr) → Bars addr i h (publishes_first i (Does s ∷ es)) L → publishes i s ≡ false → Bars addr i (with_step h s) (publishes_first i es) L
stays_barred h s addr i es lawful L B quiet = record {
  kind = B.kind;
  fd_is = same_fd B.kind h s L.prefix i lawful quiet away ∙ B.fd_is;
  rows_are = λ q. sym (is_entry B.kind (with_step h s) i q) ∙ ap (row_of prefix_cmp q) (same_rows B.kind h.world s i quiet away) ∙ is_entry B.kind h i q ∙ B.rows_are q;
  may = λ e. (parts (publishes i s) (takes i s) (publishes_first i es) quiet (B.may e)).1;
}
  where
    parts : (a b d : Bool) → a ≡ false → (a || (not b && d)) ≡ true → (b ≡ false) × (d ≡ true)
    parts false false d off h = (refl, h)
    parts false true d off h = absurd (false≢true h)
    parts true b d off h = absurd (false≢true (sym off))

    away : B.kind ≡ true → takes i s ≡ false
    away e = (parts (publishes i s) (takes i s) (publishes_first i es) quiet (B.may e)).0

-- it begins where a packet leaves the router
begins_barred : (h : History) (M : IsMade h) (addr i l : ℕ) (es : List Event) (c : Bool) (p : Prefix) (F : IsSent c h addr p i l) → MayShow c i es → Bars addr i h (publishes_first i es) (left_by (hop h M c addr i l p F))
begins_barred h M addr i l es c p F may = record { kind = c; fd_is = refl; rows_are = λ q. refl; may = may }

-- ---- how often it comes back

few : (h : History) → IsMade h → (addr i : ℕ) (q : Prefix) (k g : ℕ) (es : List Event) → StaysNear (λ x f. x ≤ f) h addr q g k es → (w : Where addr (Bars addr i h (publishes_first i es)) i q k g) → visits i es ≤ publications i es + spare w
few h M addr i q k g [] C w = omega arith
few h M addr i q k g (Goes l ∷ es) C w =
    let N = hop_counts (hop h M C.0 addr k l C.3 C.4) (λ x. Bars addr x h (publishes_first x es)) i q k g w (known h M C.0 q k g C.1) (near_by h C.0 q C.3 k g C.1) l
    (begins_barred h M addr k l es C.0 C.3 C.4 C.2) (λ L B. stops h M addr l (publishes_first l es) L B C.0 k C.3 C.4) in
    count_hop (i == l) (visits i es) (publications i es) (spare N.0) (spare w) (few h M addr i C.3 l (fd_shown C.0 h C.3 k) es C.5 N.0) N.1
few h M addr i q k g (Does s ∷ es) C w =
    let N = wait_counts (Bars addr i h (publishes_first i (Does s ∷ es))) (Bars addr i (with_step h s) (publishes_first i es)) i q k g (publishes i s) (stays_barred h s addr i es C.0) w in
    count_wait (publishes i s) (visits i es) (publications i es) (spare N.0) (spare w) (few (with_step h s) (made_more h s M C.0) addr i q k g es C.1 N.0) N.1

pub always_seldom : HoldsAfterEveryRun ComesBackSeldom
always_seldom n ss w valid r addr i k p c es may F C =
    let M = made n ss w valid r in
    let le = few (history n ss) M addr i p k (fd_shown c (history n ss) p i) es C (inr (leaves (hop (history n ss) M c addr i k p F) (λ x. Bars addr x (history n ss) (publishes_first x es)) i (begins_barred (history n ss) M addr i k es c p F may))) in
    omega (arith, le)

-- a packet that comes back at the end has come, and nothing is published by that
came : (i : ℕ) (es : List Event) → 0 < visits i (es ++ Goes i ∷ [])
came i [] = subst (λ b. 0 < (if b then 1 else 0)) (sym (eq-eqb i i refl)) (omega arith)
came i (Goes k ∷ es) = by_test (i == k) (came i es)
  where
    by_test : (b : Bool) → 0 < visits i (es ++ Goes i ∷ []) → 0 < (if b then suc (visits i (es ++ Goes i ∷ [])) else visits i (es ++ Goes i ∷ []))
    by_test true lt = omega arith
    by_test false lt = lt
came i (Does s ∷ es) = came i es

same_publications : (i : ℕ) (es : List Event) → publications i (es ++ Goes i ∷ []) ≡ publications i es
same_publications i [] = refl
same_publications i (Goes k ∷ es) = same_publications i es
same_publications i (Does s ∷ es) = ap (λ (x : ℕ). if publishes i s then suc x else x) (same_publications i es)

pub always_once_published : HoldsAfterEveryRun ComesBackOncePublished
always_once_published n ss w valid r addr i k p c es may C =
    let le = always_seldom n ss w valid r addr i k p c (es ++ Goes i ∷ []) may C.0 C.1 in
    let some = came i es in
    let same = same_publications i es in
    omega (arith, le, some, same)
