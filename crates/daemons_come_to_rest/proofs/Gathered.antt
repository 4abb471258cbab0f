-- The prefixes of which messages are on their way or held: what still happens makes no new one.
use Rattle.std.proofs.Common.{refl, sym, ap, subst, ◌∙◌, arith, inl, inr, ◌≡◌, ◌≢◌, ℕ, zero, suc, ◌<◌, Bool, true, false, ◌||◌, ◌&&◌, if◌then◌else◌, List, [], ◌∷◌, ◌++◌, map}
use Rattle.no_packet_loops.proofs.Common.{list_any, false≢true, Prefix, prefix_eq, Item, Held, Router, router_accepting, router_releasing, Topology, LinkEnd, at_port, place_cases}
use Rattle.network_model.proofs.Common.{cases_eq}
use Rattle.coming_to_rest.specs.Rest.{IsFinite}
use Rattle.coming_to_rest.proofs.Known.{Each, each_append, each_front_off, IsOf, HeldKnown, known_sends}
use Rattle.coming_to_rest.proofs.{Order.lower_cases, Prefixes.of_first, Prefixes.of_more}
use Rattle.daemon_laws.specs.{Processes.Carried, Processes.Processes, Packets.is_in_session, Happenings.with_coming}
use Rattle.daemon_laws.proofs.{Releasing.as_carried, Steps.coming_here, Steps.coming_away}
use Rattle.no_packet_loops.proofs.Releasing.{front_of}
use Rattle.daemons_come_to_rest.proofs.Moves.{Drops, TakesOne, PublishesOne, ReleasesOne}

-- a message on its way is of a prefix of these
abbrev pub CarriedKnown : List Prefix → Carried → Type 0
CarriedKnown ps c = IsOf ps (c.message).prefix

-- so are all on their way to an end of a link, and all that the first n routers hold
pub record KnownIn (t : Topology) (n : ℕ) (ps : List Prefix) (w : Processes) : Type 0 where
  pub coming : (e : LinkEnd) → t.valid e ≡ true → Each (CarriedKnown ps) (w.coming e)
  pub holding : (i : ℕ) → i < n → Each (HeldKnown ps) ((w.routers i).gate).held

-- ---- what happens

module _ (t : Topology) (n : ℕ) (ps : List Prefix) (w v : Processes) (K : KnownIn t n ps w) where
  -- without the first message
  coming_off : (e : LinkEnd) (c : Carried) → t.valid e ≡ true → w.coming e ≡ c ∷ v.coming e → ((d : LinkEnd) → (d ≡ e → ⊥) → v.coming d ≡ w.coming d) → (d : LinkEnd) → t.valid d ≡ true → Each (CarriedKnown ps) (v.coming d)
  coming_off e c valid came elsewhere d there = elim (place_cases d e) [
    | inl is ↦ subst (λ z. Each (CarriedKnown ps) (v.coming z)) (sym is) (subst (Each (CarriedKnown ps)) came (K.coming e valid)).1
    | inr ne ↦ subst (Each (CarriedKnown ps)) (sym (elsewhere d ne)) (K.coming d there)
  ]

  -- one router changed
  holding_of : (i : ℕ) (r' : Router) → v.routers i ≡ r' → ((j : ℕ) → j ≢ i → v.routers j ≡ w.routers j) → (i < n → Each (HeldKnown ps) (r'.gate).held) → (j : ℕ) → j < n → Each (HeldKnown ps) ((v.routers j).gate).held
  holding_of i r' here away h j lt = elim (cases_eq j i) [
    | inl is ↦ subst (λ (y : Router). Each (HeldKnown ps) (y.gate).held) (sym (ap v.routers is ∙ here)) (h (subst (λ k. k < n) is lt))
    | inr ne ↦ subst (λ (y : Router). Each (HeldKnown ps) (y.gate).held) (sym (away j ne)) (K.holding j lt)
  ]

  -- a message is dropped
  pub known_drop : Drops t w v → KnownIn t n ps v
  known_drop D = record {
    coming = coming_off D.e D.c D.valid_place D.came D.coming_elsewhere;
    holding = λ j lt. subst (λ (y : Router). Each (HeldKnown ps) (y.gate).held) (sym (D.routers_same j)) (K.holding j lt);
  }

  -- the message that is taken is known
  pub known_first : (T : TakesOne t w v) → IsOf ps ((T.c).message).prefix
  known_first T = (subst (Each (CarriedKnown ps)) T.came (K.coming T.e T.valid_place)).0

  pub known_dropped : (D : Drops t w v) → IsOf ps ((D.c).message).prefix
  known_dropped D = (subst (Each (CarriedKnown ps)) D.came (K.coming D.e D.valid_place)).0

  -- a message is taken
  pub known_take : TakesOne t w v → KnownIn t n ps v
  known_take T =
      let r = w.routers (T.e).router in
      let m = (T.c).message in
      record {
        coming = coming_off T.e T.c T.valid_place T.came T.coming_elsewhere;
        holding = holding_of (T.e).router (router_accepting (T.e).port (Item.Message m) r) T.router_is T.routers_elsewhere
            (λ lt. each_append (HeldKnown ps) (r.gate).held _ (K.holding (T.e).router lt) (known_sends ps r.ports m.prefix _ (known_first T)));
      }

  -- a router publishes
  pub known_publish : PublishesOne w v → KnownIn t n ps v
  known_publish P = record {
    coming = λ e valid. subst (Each (CarriedKnown ps)) (sym (P.coming_same e)) (K.coming e valid);
    holding = holding_of P.i _ P.router_is P.routers_elsewhere (λ lt. K.holding P.i lt);
  }

  -- what is on its way and what is held stays
  pub known_held : ((e : LinkEnd) → v.coming e ≡ w.coming e) → ((j : ℕ) → ((v.routers j).gate).held ≡ ((w.routers j).gate).held) → KnownIn t n ps v
  known_held coming held = record {
    coming = λ e valid. subst (Each (CarriedKnown ps)) (sym (coming e)) (K.coming e valid);
    holding = λ j lt. subst (Each (HeldKnown ps)) (sym (held j)) (K.holding j lt);
  }

  -- a router releases a message
  pub known_release : (R : ReleasesOne t w v) → R.i < n → KnownIn t n ps v
  known_release R within = record {
    coming = λ e valid. subst (Each (CarriedKnown ps)) (sym (R.coming_is e)) (by_test e valid (t.valid a && is_in_session w a (R.h).session));
    holding = holding_of R.i (router_releasing (w.routers R.i)) R.router_is R.routers_elsewhere (λ lt. each_front_off (HeldKnown ps) ((w.routers R.i).gate).held (K.holding R.i lt));
  }
    where
      a : LinkEnd
      a = at_port R.i (R.h).port

      here : IsOf ps ((R.h).message).prefix
      here = let F = front_of (w.routers R.i) R.h R.front in (subst (Each (HeldKnown ps)) F.held_is (K.holding R.i within)).0

      by_test : (e : LinkEnd) → t.valid e ≡ true → (b : Bool) → Each (CarriedKnown ps) ((if b then with_coming (t.far (at_port R.i (R.h).port)) (λ cs. cs ++ as_carried R.h ∷ []) w.coming else w.coming) e)
      by_test e valid false = K.coming e valid
      by_test e valid true = elim (place_cases e (t.far (at_port R.i (R.h).port))) [
        | inl is ↦ subst (λ z. Each (CarriedKnown ps) (with_coming (t.far (at_port R.i (R.h).port)) (λ cs. cs ++ as_carried R.h ∷ []) w.coming z)) (sym is)
            (subst (Each (CarriedKnown ps)) (sym (coming_here (t.far (at_port R.i (R.h).port)) (λ cs. cs ++ as_carried R.h ∷ []) w.coming))
            (each_append (CarriedKnown ps) (w.coming (t.far (at_port R.i (R.h).port))) (as_carried R.h ∷ []) (K.coming (t.far (at_port R.i (R.h).port)) (subst (λ z. t.valid z ≡ true) is valid)) (here, tt)))
        | inr ne ↦ subst (Each (CarriedKnown ps)) (sym (coming_away (t.far (at_port R.i (R.h).port)) (λ cs. cs ++ as_carried R.h ∷ []) w.coming e ne)) (K.coming e valid)
      ]

-- ---- there is such a list

-- of the second of two lists
of_right : (p : Prefix) (xs ys : List Prefix) → IsOf ys p → IsOf (xs ++ ys) p
of_right p [] ys h = h
of_right p (x ∷ xs) ys h = of_more p x (xs ++ ys) (of_right p xs ys h)

-- of the first
of_left : (p : Prefix) (xs ys : List Prefix) → IsOf xs p → IsOf (xs ++ ys) p
of_left p [] ys h = absurd (false≢true h)
of_left p (x ∷ xs) ys h = go (prefix_eq p x) h (of_left p xs ys)
  where
    go : (b : Bool) → (b || list_any (prefix_eq p) xs) ≡ true → (IsOf xs p → IsOf (xs ++ ys) p) → (b || list_any (prefix_eq p) (xs ++ ys)) ≡ true
    go true g rest = refl
    go false g rest = rest g

-- what holds of each is weakened
each_weaker : {X : Type 0} (P Q : X → Type 0) (xs : List X) → ((x : X) → P x → Q x) → Each P xs → Each Q xs
each_weaker P Q [] h a = tt
each_weaker P Q (x ∷ xs) h a = (h x a.0, each_weaker P Q xs h a.1)

-- what is of a list is of the list of its own prefixes
each_own : {X : Type 0} (f : X → Prefix) (xs : List X) → Each (λ x. IsOf (map f xs) (f x)) xs
each_own f [] = tt
each_own f (x ∷ xs) = (of_first (f x) (map f xs), each_weaker (λ y. IsOf (map f xs) (f y)) (λ y. IsOf (f x ∷ map f xs) (f y)) xs (λ y h. of_more (f y) (f x) (map f xs) h) (each_own f xs))

-- the lists of all numbers below a bound, in a row
abbrev gather : ℕ → (ℕ → List Prefix) → List Prefix
gather zero f = []
gather (suc n) f = f n ++ gather n f

-- what is of one of them is of all together
of_gathered : (n : ℕ) (f : ℕ → List Prefix) (i : ℕ) (p : Prefix) → i < n → IsOf (f i) p → IsOf (gather n f) p
of_gathered zero f i p lt h = absurd (omega (arith, lt))
of_gathered (suc n) f i p lt h = elim (lower_cases i n lt) [
  | inl less ↦ of_right p (f n) (gather n f) (of_gathered n f i p less h)
  | inr is ↦ of_left p (f n) (gather n f) (subst (λ k. IsOf (f k) p) is h)
]

module _ (t : Topology) (F : IsFinite t) (w : Processes) where
  -- the prefixes of what a router holds
  abbrev held_there : ℕ → List Prefix
  held_there i = map (λ (h : Held). (h.message).prefix) ((w.routers i).gate).held

  -- and of what is on its way to its ports
  abbrev coming_at : ℕ → ℕ → List Prefix
  coming_at i q = map (λ (c : Carried). (c.message).prefix) (w.coming (at_port i q))

  abbrev coming_there : ℕ → List Prefix
  coming_there i = gather F.ports (coming_at i)

  abbrev pub prefixes_in : List Prefix
  prefixes_in = gather F.routers held_there ++ gather F.routers coming_there

  pub all_known : KnownIn t F.routers prefixes_in w
  all_known = record {
    coming = λ e valid. each_weaker (CarriedKnown (coming_at e.router e.port)) (CarriedKnown prefixes_in) (w.coming e)
        (λ c h. of_right (c.message).prefix (gather F.routers held_there) (gather F.routers coming_there)
        (of_gathered F.routers coming_there e.router (c.message).prefix (F.within e valid).0
        (of_gathered F.ports (coming_at e.router) e.port (c.message).prefix (F.within e valid).1 h)))
        (each_own (λ (c : Carried). (c.message).prefix) (w.coming e));
    holding = λ i lt. each_weaker (HeldKnown (held_there i)) (HeldKnown prefixes_in) ((w.routers i).gate).held
        (λ h k. of_left (h.message).prefix (gather F.routers held_there) (gather F.routers coming_there) (of_gathered F.routers held_there i (h.message).prefix lt k))
        (each_own (λ (h : Held). (h.message).prefix) ((w.routers i).gate).held);
  }
