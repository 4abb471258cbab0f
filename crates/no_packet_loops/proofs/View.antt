-- What a prefix sees of parts that change, and of lists.
use Rattle.std.proofs.Common.{refl, sym, ap, ◌∙◌, append_assoc, ◌≡◌, ◌≢◌, ℕ, zero, suc, Bool, true, false, ◌&&◌, ◌==◌, if◌then◌else◌, List, [], ◌∷◌, ◌++◌, map, Option, Some, None, slice_get, filter, option_map, eqb-true}
use Rattle.no_packet_loops.proofs.Common.{option_map_or, Prefix, prefix_eq, Outgoing, changed_at, Item, Held, End, Link, Router, Place, Port, session_at, held_of, is_notice, slice_get-changed_at, slice_get-changed_at_other, UpNotice, DownNotice, CostNotice, Reported, msg_of, heard_item, heard, is_kept, held_as, kept, on_link, sent_to, held_for, notices}

-- ---- laws of the parts

-- a change of one element that f does not see leaves what f says of each element
pub changed-same : {A X : Type 0} (f : A → X) (d : X) (g : A → A) (l j : ℕ) (xs : List A) → ((x : A) → j ≡ l → slice_get xs l ≡ Some x → f (g x) ≡ f x) → option_map_or f (slice_get (changed_at l g xs) j) d ≡ option_map_or f (slice_get xs j) d
changed-same f d g l j [] same = refl
changed-same f d g zero zero (x ∷ xs) same = same x refl refl
changed-same f d g zero (suc j) (x ∷ xs) same = refl
changed-same f d g (suc l) zero (x ∷ xs) same = refl
changed-same f d g (suc l) (suc j) (x ∷ xs) same = changed-same f d g l j xs (λ y e at. same y (ap suc e) at)

module _ {X : Type 0} (f : End → Link → X) (d : X) (ls : List Link) where
  -- what is said of a link that is there
  pub on_link-there : (o : Option Place) (x : Place) (k : Link) → o ≡ Some x → slice_get ls x.link ≡ Some k → on_link f d o ls ≡ f x.end k
  on_link-there o x k is at = ap (λ y. on_link f d y ls) is ∙ ap (λ y. option_map_or (f x.end) y d) at

  -- what is said of a link that was changed is said of the changed link
  pub on_link-hit : (g : Link → Link) (l : ℕ) (o : Option Place) (x : Place) (k : Link) → o ≡ Some x → x.link ≡ l → slice_get ls l ≡ Some k → on_link f d o (changed_at l g ls) ≡ f x.end (g k)
  on_link-hit g l o x k is link at =
      ap (λ y. on_link f d y (changed_at l g ls)) is
      ∙ ap (λ y. option_map_or (f x.end) (slice_get (changed_at l g ls) y) d) link
      ∙ ap (λ y. option_map_or (f x.end) y d) (slice_get-changed_at g l ls)
      ∙ ap (λ y. option_map_or (f x.end) (option_map g y) d) at

  -- a change of another link leaves what is said of this one
  pub on_link-miss : (g : Link → Link) (l : ℕ) (o : Option Place) → ((x : Place) → o ≡ Some x → x.link ≢ l) → on_link f d o (changed_at l g ls) ≡ on_link f d o ls
  on_link-miss g l None apart = refl
  on_link-miss g l (Some x) apart = ap (λ y. option_map_or (f x.end) y d) (slice_get-changed_at_other g l x.link ls (apart x refl))

  -- a change of a link that f does not see leaves what f says of every link
  pub on_link-same : (g : Link → Link) (l : ℕ) (o : Option Place) → ((x : Place) (k : Link) → o ≡ Some x → x.link ≡ l → slice_get ls l ≡ Some k → f x.end (g k) ≡ f x.end k) → on_link f d o (changed_at l g ls) ≡ on_link f d o ls
  on_link-same g l None same = refl
  on_link-same g l (Some x) same = changed-same (f x.end) d g l x.link ls (λ k e at. same x k refl e at)

module _ {X : Type 0} (f : Router → X) (d : X) (rs : List Router) where
  -- what is said of a router that is there
  pub on_router-there : (i : ℕ) (r : Router) → slice_get rs i ≡ Some r → option_map_or f (slice_get rs i) d ≡ f r
  on_router-there i r at = ap (λ y. option_map_or f y d) at

  -- a change of another router leaves what is said of this one
  pub on_router-miss : (g : Router → Router) (i j : ℕ) → j ≢ i → option_map_or f (slice_get (changed_at i g rs) j) d ≡ option_map_or f (slice_get rs j) d
  on_router-miss g i j apart = ap (λ y. option_map_or f y d) (slice_get-changed_at_other g i j rs apart)

  -- a change of a router that f does not see leaves what f says of every router
  pub on_router-same : (g : Router → Router) (i j : ℕ) → ((r : Router) → slice_get rs i ≡ Some r → f (g r) ≡ f r) → option_map_or f (slice_get (changed_at i g rs) j) d ≡ option_map_or f (slice_get rs j) d
  on_router-same g i j same = changed-same f d g i j rs (λ r e at. same r at)

-- ---- laws of lists

-- what is heard of two lists is heard of one after the other
pub heard-append : (p : Prefix) (xs ys : List Item) → heard p (xs ++ ys) ≡ heard p xs ++ heard p ys
heard-append p [] ys = refl
heard-append p (x ∷ xs) ys = ap (λ zs. heard_item p x ++ zs) (heard-append p xs ys) ∙ sym (append_assoc (heard_item p x) (heard p xs) (heard p ys))

-- of the notices alone, their notices are heard
pub heard-notices : (p : Prefix) (xs : List Item) → heard p (filter is_notice xs) ≡ notices (heard p xs)
heard-notices p [] = refl
heard-notices p (Item.Up s c ∷ xs) = ap (λ zs. UpNotice s c ∷ zs) (heard-notices p xs)
heard-notices p (Item.Down s ∷ xs) = ap (λ zs. DownNotice s ∷ zs) (heard-notices p xs)
heard-notices p (Item.Cost s c ∷ xs) = ap (λ zs. CostNotice s c ∷ zs) (heard-notices p xs)
heard-notices p (Item.Message m ∷ xs) = heard-notices p xs ∙ by_prefix (prefix_eq p m.prefix)
  where
    by_prefix : (b : Bool) → notices (heard p xs) ≡ notices ((if b then Reported (msg_of m) ∷ [] else []) ++ heard p xs)
    by_prefix true = refl
    by_prefix false = refl

-- what is kept of two lists is kept of one after the other
pub kept-append : (p : Prefix) (q : ℕ) (xs ys : List Held) → kept p q (xs ++ ys) ≡ kept p q xs ++ kept p q ys
kept-append p q [] ys = refl
kept-append p q (x ∷ xs) ys = by_kept (is_kept p q x) (kept-append p q xs ys)
  where
    by_kept : (b : Bool) → kept p q (xs ++ ys) ≡ kept p q xs ++ kept p q ys → (if b then held_as x ∷ kept p q (xs ++ ys) else kept p q (xs ++ ys)) ≡ (if b then held_as x ∷ kept p q xs else kept p q xs) ++ kept p q ys
    by_kept true e = ap (λ zs. held_as x ∷ zs) e
    by_kept false e = e

-- what a machine of the prefix sends to port q is held for it, in the session of that port
pub kept-sent : (p : Prefix) (q : ℕ) (ports : List Port) (k : Prefix) → prefix_eq p k ≡ true → (ss : List Outgoing) → kept p q (map (held_of ports k) ss) ≡ held_for (session_at ports q) (sent_to q ss)
kept-sent p q ports k same [] = refl
kept-sent p q ports k same (s ∷ ss) = by_port (s.port == q) refl (kept-sent p q ports k same ss)
  where
    sends : s.port ≡ q → kept p q (map (held_of ports k) ss) ≡ held_for (session_at ports q) (sent_to q ss)
        → held_as (held_of ports k s) ∷ kept p q (map (held_of ports k) ss) ≡ held_for (session_at ports q) (s ∷ sent_to q ss)
    sends at e = ap (λ (n : ℕ). record { session = session_at ports n; message = record { kind = s.kind; value = s.value } } ∷ kept p q (map (held_of ports k) ss)) at ∙ ap (λ zs. record { session = session_at ports q; message = record { kind = s.kind; value = s.value } } ∷ zs) e

    by_port : (b : Bool) → (s.port == q) ≡ b → kept p q (map (held_of ports k) ss) ≡ held_for (session_at ports q) (sent_to q ss)
        → (if b && prefix_eq p k then held_as (held_of ports k s) ∷ kept p q (map (held_of ports k) ss) else kept p q (map (held_of ports k) ss)) ≡ held_for (session_at ports q) (if b then s ∷ sent_to q ss else sent_to q ss)
    by_port true is e = rw same (sends (eqb-true s.port q is) e)
    by_port false is e = e

-- what another prefix's machine sends is not kept
pub kept-other : (p : Prefix) (q : ℕ) (ports : List Port) (k : Prefix) → prefix_eq p k ≡ false → (ss : List Outgoing) → kept p q (map (held_of ports k) ss) ≡ []
kept-other p q ports k apart [] = refl
kept-other p q ports k apart (s ∷ ss) = by_port (s.port == q) (kept-other p q ports k apart ss)
  where
    by_port : (b : Bool) → kept p q (map (held_of ports k) ss) ≡ [] → (if b && prefix_eq p k then held_as (held_of ports k s) ∷ kept p q (map (held_of ports k) ss) else kept p q (map (held_of ports k) ss)) ≡ []
    by_port true e = rw apart e
    by_port false e = e
