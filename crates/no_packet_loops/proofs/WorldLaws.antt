-- Steps keep the shape of a world.
use Rattle.std.proofs.Common.{refl, sym, ap, subst, ◌∙◌, ◌≡◌, ℕ, false, cond, List, [], ◌∷◌, ◌++◌, length, Some}
use Rattle.no_packet_loops.proofs.Common.{find-put, Prefix, prefix_cmp, prefix_eq, prefix_cmp_total, End, Link, Router, Attachments, World, place_at, next, changed_link, changed_router, changed_attachments, router_accepting, router_at_home, with_delivered, with_noticed, with_released, with_front_taken, with_notice_taken, with_cost, with_message, front_at, notice_at, Runs, History, with_step, with_steps, length-changed_at, option_map_or-ind, Lawful, find as row_of, put, Step, LinkUp, LinkDown, SetCost, Deliver, Publish, Release, Attach, Detach}

-- ---- look-ups

-- a row of another prefix is found as before
pub row_of-put_other : {X : Type 0} (p k : Prefix) (v : X) (rows : List (Prefix × X)) → prefix_eq p k ≡ false → row_of prefix_cmp p (put prefix_cmp k v rows) ≡ row_of prefix_cmp p rows
row_of-put_other p k v rows apart = find-put prefix_cmp prefix_cmp_total p k v rows ∙ ap (λ b. cond b (Some v) (row_of prefix_cmp p rows)) apart

-- ---- a network keeps its shape

-- two worlds have the same places, and as many links, routers, and routers with attachments
pub record SameShape (v w : World) : Type 0 where
  pub places : w.places ≡ v.places
  pub links : length w.links ≡ length v.links
  pub routers : length w.routers ≡ length v.routers
  pub attachments : length w.attachments ≡ length v.attachments

-- a world has the shape that it has
pub SameShape-itself : (w : World) → SameShape w w
SameShape-itself w = record { places = refl; links = refl; routers = refl; attachments = refl }

-- a shape that is kept twice is kept
pub SameShape-trans : {u v w : World} → SameShape u v → SameShape v w → SameShape u w
SameShape-trans a b = record { places = b.places ∙ a.places; links = b.links ∙ a.links; routers = b.routers ∙ a.routers; attachments = b.attachments ∙ a.attachments }

-- a change of the link at a port keeps the shape
pub changed_link-shape : (w : World) (i q : ℕ) (f : End → Link → Link) → SameShape w (changed_link i q f w)
changed_link-shape w i q f = option_map_or-ind (SameShape w) _ (place_at w i q) w (SameShape-itself w)
    (λ p e. record { places = refl; links = length-changed_at (f p.end) p.link w.links; routers = refl; attachments = refl })

-- a change of a router keeps the shape
pub changed_router-shape : (w : World) (i : ℕ) (f : Router → Router) → SameShape w (changed_router i f w)
changed_router-shape w i f = record { places = refl; links = refl; routers = length-changed_at f i w.routers; attachments = refl }

-- a change of a router's attachments keeps the shape
pub changed_attachments-shape : (w : World) (i : ℕ) (f : Attachments → Attachments) → SameShape w (changed_attachments i f w)
changed_attachments-shape w i f = record { places = refl; links = refl; routers = refl; attachments = length-changed_at f i w.attachments }

-- a step keeps the shape
pub next-shape : (w : World) (s : Step) → SameShape w (next w s)
next-shape w (LinkUp l) = record { places = refl; links = length-changed_at _ l w.links; routers = refl; attachments = refl }
next-shape w (LinkDown l) = record { places = refl; links = length-changed_at _ l w.links; routers = refl; attachments = refl }
next-shape w (SetCost i q cost) = changed_link-shape w i q (with_cost cost)
next-shape w (Deliver i q) = option_map_or-ind (SameShape w) (with_delivered i q w) (front_at w i q) _
    (option_map_or-ind (SameShape w) (with_noticed i w) (notice_at w i q) w (SameShape-itself w)
    (λ x e. SameShape-trans (changed_attachments-shape w i with_notice_taken) (changed_router-shape (changed_attachments i with_notice_taken w) i (router_at_home x))))
    (λ item e. SameShape-trans (changed_link-shape w i q with_front_taken) (changed_router-shape (changed_link i q with_front_taken w) i (router_accepting q item)))
next-shape w (Publish i) = changed_router-shape w i _
next-shape w (Release i) = option_map_or-ind (SameShape w) (with_released i w) _ w (SameShape-itself w)
    (λ h e. SameShape-trans (changed_link-shape w i h.port (with_message h)) (changed_router-shape (changed_link i h.port (with_message h) w) i _))
next-shape w (Attach i p cost) = changed_attachments-shape w i _
next-shape w (Detach i p) = changed_attachments-shape w i _

-- a run keeps the shape
pub Runs-shape : (w : World) (ss : List Step) (v : World) → Runs w ss v → SameShape w v
Runs-shape w [] v e = subst (SameShape w) e (SameShape-itself w)
Runs-shape w (s ∷ ss) v r = SameShape-trans (next-shape w s) (Runs-shape (next w s) ss v r.1)

pub runs_more : (w : World) (ss : List Step) (v : World) (s : Step) → Runs w ss v → Lawful v s → Runs w (ss ++ s ∷ []) (next v s)
runs_more w [] v s r L = subst (λ x. Lawful w s × (next w s ≡ next x s)) r (subst (λ x. Lawful x s) (sym r) L, refl)
runs_more w (t ∷ ss) v s r L = (r.0, runs_more (next w t) ss v s r.1 L)

pub steps_more : (h : History) (ss : List Step) (s : Step) → with_steps h (ss ++ s ∷ []) ≡ with_step (with_steps h ss) s
steps_more h [] s = refl
steps_more h (x ∷ ss) s = steps_more (with_step h x) ss s
