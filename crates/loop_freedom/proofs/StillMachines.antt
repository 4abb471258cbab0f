-- Steps that leave every machine as it is keep the invariant: a release, a new cost, and one that concerns another destination.
use Rattle.std.proofs.Common.{refl, sym, ◌∙◌, ap, subst, append_assoc, inl, inr, ◌≡◌, ℕ, ◌<◌, ◌≤◌, Bool, true, false, ◌&&◌, ◌==◌, if◌then◌else◌, List, [], ◌∷◌, ◌++◌, append-nil}
use Rattle.network_model.proofs.Common.{and_parts, infinity, SeenHeld, SeenItem, Reported, CostNotice, LinkEnd, State}
use Rattle.machine_laws.specs.Laws.{is_up_at}
use Rattle.loop_freedom.specs.Network.{Topology, SameLinks, SameMachines, SamePublished, Skip, SetCost, Release}
use Rattle.loop_freedom.specs.Facts.{messages, live, end_at}
use Rattle.loop_freedom.proofs.{OnTheWay.messages-append, Ends.place_cases}
use Rattle.loop_freedom.proofs.Notices.{IsLawfulInbox, lawful_cost, lawful_message, IsLawfullyHeld}
use Rattle.loop_freedom.proofs.Invariant.{Invariant, IsLawfulAt, end_at_cong, end_invariant_same, answered_same}

-- a step keeps the invariant where it leaves machines, publications, links, and what is on its way as a whole
pub still_keeps : (t : Topology) (old new : State) → Invariant t old → SameMachines old new → SamePublished old new → SameLinks old new
    → ((e : LinkEnd) → t.valid e ≡ true → 0 < new.cost e)
    → ((e : LinkEnd) → t.valid e ≡ true → IsLawfulAt new e)
    → ((e : LinkEnd) → t.valid e ≡ true → IsLawfullyHeld (old.session e) (new.ripe e))
    → ((e : LinkEnd) → t.valid e ≡ true → IsLawfullyHeld (old.session e) (new.unripe e))
    → ((e : LinkEnd) → t.valid e ≡ true → old.up e ≡ true → messages (new.inbox (t.far e)) ++ live (new.session e) (new.ripe e) ≡ messages (old.inbox (t.far e)) ++ live (old.session e) (old.ripe e))
    → ((e : LinkEnd) → new.unripe e ≡ old.unripe e)
    → Invariant t new
still_keeps t old new I M P L cost lawful ripe unripe outs kept = record {
  sound = λ i. rw (M.machine_same i) (I.sound i);
  pfd_bounded = λ i. rw (P.published_fd_same i) (I.pfd_bounded i);
  there = λ e v. rw (M.machine_same e.router) (I.there e v);
  up_far = λ e v. L.up_same (t.far e) ∙ I.up_far e v ∙ sym (L.up_same e);
  session_far = λ e v. L.session_same (t.far e) ∙ I.session_far e v ∙ sym (L.session_same e);
  cost_positive = cost;
  lawful = lawful;
  ripe_lawful = λ e v. rw (L.session_same e) (ripe e v);
  unripe_lawful = λ e v. rw (L.session_same e) (unripe e v);
  next_hop_old = λ e v k h. rw (L.session_same e) (I.next_hop_old e v k (rw (P.published_same e.router) at h));
  links = λ e v u.
      let up_e : old.up e ≡ true = sym (L.up_same e) ∙ u in
      end_invariant_same (same_end e v up_e) (same_end (t.far e) (t.far_valid e v) (I.up_far e v ∙ up_e)) (I.links e v up_e);
  answers = λ e v u.
      let up_e : old.up e ≡ true = sym (L.up_same e) ∙ u in
      answered_same (same_end e v up_e) (same_end (t.far e) (t.far_valid e v) (I.up_far e v ∙ up_e)) (I.answers e v up_e);
}
  where
    same_end : (e : LinkEnd) → t.valid e ≡ true → old.up e ≡ true → end_at t new e ≡ end_at t old e
    same_end e v u =
        let ses : new.session e ≡ old.session e = L.session_same e in
        let fre : new.unripe e ≡ old.unripe e = kept e in
        end_at_cong t old new e (M.machine_same e.router) (M.seen_same e) ses (P.published_same e.router) (P.published_fd_same e.router) (outs e v u) (cc)

-- a step that changes nothing of the destination keeps the invariant
pub skip_keeps : (t : Topology) (old new : State) → Invariant t old → Skip t old new → Invariant t new
skip_keeps t old new I S =
    still_keeps t old new I S.machines S.publications S.links
    (λ e v. rw (S.costs.cost_same e) (I.cost_positive e v))
    (λ e v. rw (S.machines.machine_same e.router, S.machines.seen_same e, S.links.up_same e, S.links.session_same e, S.inboxes.inbox_same e) (I.lawful e v))
    (λ e v. rw (S.holdings.ripe_same e) (I.ripe_lawful e v))
    (λ e v. rw (S.holdings.unripe_same e) (I.unripe_lawful e v))
    (λ e v u. rw (S.inboxes.inbox_same (t.far e), S.links.session_same e, S.holdings.ripe_same e) refl)
    S.holdings.unripe_same

-- a cost notice adds no message
messages_cost : (xs : List SeenItem) (n c : ℕ) → messages (xs ++ CostNotice n c ∷ []) ≡ messages xs
messages_cost xs n c = messages-append xs (CostNotice n c ∷ []) ∙ append-nil (messages xs)

pub set_cost_keeps : (t : Topology) (old new : State) → Invariant t old → SetCost t old new → Invariant t new
set_cost_keeps t old new I S =
    still_keeps t old new I S.machines S.publications S.links
    (λ e v. elim (place_cases e S.a) [
      | inl p ↦ subst (λ (w : LinkEnd). 0 < new.cost w) (sym p) S.positive
      | inr d ↦ rw (S.cost_elsewhere e d) (I.cost_positive e v)
    ])
    (λ e v. elim (place_cases e S.a) [
      | inl p ↦ subst (λ (w : LinkEnd). IsLawfulAt new w) (sym p) here
      | inr d ↦ rw (S.machines.machine_same e.router, S.machines.seen_same e, S.links.up_same e, S.links.session_same e, S.inbox_elsewhere e d) (I.lawful e v)
    ])
    (λ e v. rw (S.holdings.ripe_same e) (I.ripe_lawful e v))
    (λ e v. rw (S.holdings.unripe_same e) (I.unripe_lawful e v))
    (λ e v u. rw (inbox_same (t.far e), S.links.session_same e, S.holdings.ripe_same e) refl)
    S.holdings.unripe_same
  where
    before : IsLawfulInbox (is_up_at (old.machine S.a.router) S.a.port) (old.seen S.a) true (old.session S.a) (old.inbox S.a)
    before = rw S.was_up at (I.lawful S.a S.valid_place)

    here : IsLawfulAt new S.a
    here = rw (S.machines.machine_same S.a.router, S.machines.seen_same S.a, S.links.up_same S.a, S.links.session_same S.a, S.inbox_at, S.was_up)
        (lawful_cost (is_up_at (old.machine S.a.router) S.a.port) (old.seen S.a) (old.session S.a) (new.cost S.a) (old.inbox S.a) S.positive before)

    inbox_same : (e : LinkEnd) → messages (new.inbox e) ≡ messages (old.inbox e)
    inbox_same e = elim (place_cases e S.a) [
      | inl p ↦ subst (λ (w : LinkEnd). messages (new.inbox w) ≡ messages (old.inbox w)) (sym p) (ap messages S.inbox_at ∙ messages_cost (old.inbox S.a) (old.session S.a) (new.cost S.a))
      | inr d ↦ ap messages (S.inbox_elsewhere e d)
    ]

-- what a released message adds across the link, by whether it arrives
abbrev arriving_if : Bool → SeenHeld → List SeenItem
arriving_if b h = if b then Reported h.message ∷ [] else []

-- items stay lawful where a released message arrives on a link that is up, or is lost
lawful_arriving : (u : Bool) (s : ℕ) (up : Bool) (n : ℕ) (xs : List SeenItem) (h : SeenHeld) (b : Bool) → (b ≡ true → up ≡ true) → h.message.value ≤ infinity → IsLawfulInbox u s up n xs → IsLawfulInbox u s up n (xs ++ arriving_if b h)
lawful_arriving u s up n xs h false f le l = rw (append-nil xs) l
lawful_arriving u s up n xs h true f le l = rw (f refl) (lawful_message u s n h.message xs le (rw (f refl) at l))

-- what is on its way is the same before and after a release on a live link
outs_arriving : (xs : List SeenItem) (n : ℕ) (h : SeenHeld) (hs : List SeenHeld) → messages (xs ++ arriving_if (h.session == n) h) ++ live n hs ≡ messages xs ++ live n (h ∷ hs)
outs_arriving xs n h hs = by_session (h.session == n)
  where
    by_session : (b : Bool) → messages (xs ++ arriving_if b h) ++ live n hs ≡ messages xs ++ (if b then h.message ∷ live n hs else live n hs)
    by_session true = rw (messages-append xs (Reported h.message ∷ [])) (append_assoc (messages xs) (h.message ∷ []) (live n hs))
    by_session false = rw (append-nil xs) refl

pub release_keeps : (t : Topology) (old new : State) → Invariant t old → Release t old new → Invariant t new
release_keeps t old new I S =
    still_keeps t old new I S.machines S.publications S.links
    (λ e v. rw (S.costs.cost_same e) (I.cost_positive e v))
    (λ e v. elim (place_cases e (t.far S.a)) [
      | inl p ↦ subst (λ (w : LinkEnd). IsLawfulAt new w) (sym p) here
      | inr d ↦ rw (S.machines.machine_same e.router, S.machines.seen_same e, S.links.up_same e, S.links.session_same e, S.inbox_elsewhere e d) (I.lawful e v)
    ])
    (λ e v. elim (place_cases e S.a) [
      | inl p ↦ subst (λ (w : LinkEnd). IsLawfullyHeld (old.session w) (new.ripe w)) (sym p) held.2
      | inr d ↦ rw (S.ripe_elsewhere e d) (I.ripe_lawful e v)
    ])
    (λ e v. rw (S.unripe_same e) (I.unripe_lawful e v))
    (λ e v u. elim (place_cases e S.a) [
      | inl p ↦ subst (λ (w : LinkEnd). old.up w ≡ true → messages (new.inbox (t.far w)) ++ live (new.session w) (new.ripe w) ≡ messages (old.inbox (t.far w)) ++ live (old.session w) (old.ripe w)) (sym p) outs_here u
      | inr d ↦ rw (S.inbox_elsewhere (t.far e) (apart e v d), S.links.session_same e, S.ripe_elsewhere e d) refl
    ])
    S.unripe_same
  where
    held : IsLawfullyHeld (old.session S.a) (S.first ∷ new.ripe S.a)
    held = rw S.ripe_at at (I.ripe_lawful S.a S.valid_place)

    here : IsLawfulAt new (t.far S.a)
    here =
        let b = old.up S.a && (S.first.session == old.session S.a) in
        let upf : b ≡ true → old.up (t.far S.a) ≡ true = λ e. I.up_far S.a S.valid_place ∙ (and_parts (old.up S.a) (S.first.session == old.session S.a) e).0 in
        rw (S.machines.machine_same (t.far S.a).router, S.machines.seen_same (t.far S.a), S.links.up_same (t.far S.a), S.links.session_same (t.far S.a), S.inbox_at)
        (lawful_arriving (is_up_at (old.machine (t.far S.a).router) (t.far S.a).port) (old.seen (t.far S.a)) (old.up (t.far S.a)) (old.session (t.far S.a)) (old.inbox (t.far S.a)) S.first b upf held.1 (I.lawful (t.far S.a) (t.far_valid S.a S.valid_place)))

    outs_here : old.up S.a ≡ true → messages (new.inbox (t.far S.a)) ++ live (new.session S.a) (new.ripe S.a) ≡ messages (old.inbox (t.far S.a)) ++ live (old.session S.a) (old.ripe S.a)
    outs_here u = rw (S.inbox_at, S.links.session_same S.a, S.ripe_at, u) (outs_arriving (old.inbox (t.far S.a)) (old.session S.a) S.first (new.ripe S.a))

    apart : (e : LinkEnd) → t.valid e ≡ true → (e ≡ S.a → ⊥) → t.far e ≡ t.far S.a → ⊥
    apart e v d p = d (sym (t.far_far e v) ∙ ap t.far p ∙ t.far_far S.a S.valid_place)
