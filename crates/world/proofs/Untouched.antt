-- What a step leaves as it was: each link but the one that it touches, and each router, with its attachments, but those that it touches.
use Rattle.std.proofs.Common.{refl, ap, subst, sym, ◌∙◌, ◌≡◌, ◌≢◌, ℕ, Option, Some, None, option_map, slice_get, option_and_then}
use Rattle.std.specs.Option.{option_map_or}
use Rattle.network_model.specs.{declared.item.Held.Held, declared.network.End.End, declared.network.Place.Place, declared.step.Step.Step, Machine.changed_at}
use Rattle.network_model.specs.declared.step.Step.TheVariants.{LinkUp, LinkDown, SetCost, Deliver, Publish, Release, Attach, Detach}
use Rattle.network_model.specs.World.{Attachments, Link, Router, World, place_at}
use Rattle.network_model.specs.Step.{changed_attachments, changed_link, changed_router, front_at, link_come_up, link_gone_down, next, notice_at, release_at, router_accepting, router_at_home, router_publishing, router_releasing, with_attachment, with_cost, with_delivered, with_front_taken, with_message, with_notice_taken, with_noticed, with_released, without_attachment}
use Rattle.network_model.proofs.ListLaws.{option_map_or-ind, slice_get-changed_at_other}
use Rattle.world.specs.{declared.touched.Touched.Touched, Rest.link_number, Touched.LeavesOthers, Touched.touched_by}

-- ---- links

-- the link of this number is in the one world what it is in the other
abbrev SameLink : World → ℕ → World → Type 0
SameLink w l v = slice_get v.links l ≡ slice_get w.links l

changed_links-other : (w : World) (f : Link → Link) (k l : ℕ) → Some k ≢ Some l → slice_get (changed_at k f w.links) l ≡ slice_get w.links l
changed_links-other w f k l apart = slice_get-changed_at_other f k l w.links (λ e. apart (ap Some (sym e)))

-- a change of the link at a port leaves each other link
changed_link-other : (w : World) (i q : ℕ) (f : End → Link → Link) (l : ℕ) → link_number w i q ≢ Some l → SameLink w l (changed_link i q f w)
changed_link-other w i q f l apart = by_place (place_at w i q) apart
  where
    by_place : (o : Option Place) → option_map (λ p. p.link) o ≢ Some l
        → SameLink w l (option_map_or (λ p. record w { links = changed_at p.link (f p.end) w.links }) o w)
    by_place None apart = refl
    by_place (Some p) apart = changed_links-other w (f p.end) p.link l apart

-- a step leaves each link that it does not touch
link_untouched : (w : World) (s : Step) (l : ℕ) → (touched_by s w).link ≢ Some l → SameLink w l (next w s)
link_untouched w (LinkUp k) l apart = changed_links-other w link_come_up k l apart
link_untouched w (LinkDown k) l apart = changed_links-other w link_gone_down k l apart
link_untouched w (SetCost i q cost) l apart = changed_link-other w i q (with_cost cost) l apart
link_untouched w (Deliver i q) l apart = option_map_or-ind (SameLink w l) (with_delivered i q w) (front_at w i q) (option_map_or (with_noticed i w) (notice_at w i q) w)
    (option_map_or-ind (SameLink w l) (with_noticed i w) (notice_at w i q) w refl (λ n at. refl))
    (λ item at. changed_link-other w i q with_front_taken l apart)
link_untouched w (Release i) l apart = by_release (release_at w i) apart
  where
    by_release : (o : Option Held) → option_and_then (λ h. link_number w i h.port) o ≢ Some l → SameLink w l (option_map_or (with_released i w) o w)
    by_release None apart = refl
    by_release (Some h) apart = changed_link-other w i h.port (with_message h) l apart
link_untouched w _ l apart = refl

-- ---- routers

-- the router of this number is in the one world what it is in the other
abbrev SameRouter : World → ℕ → World → Type 0
SameRouter w j v = slice_get v.routers j ≡ slice_get w.routers j

changed_router-other : (w v : World) (i : ℕ) (f : Router → Router) (j : ℕ) → Some i ≢ Some j → SameRouter w j v → SameRouter w j (changed_router i f v)
changed_router-other w v i f j apart same = slice_get-changed_at_other f i j v.routers (λ e. apart (ap Some (sym e))) ∙ same

-- a change of a link leaves every router
changed_link-routers : (w : World) (i q : ℕ) (f : End → Link → Link) (j : ℕ) → SameRouter w j (changed_link i q f w)
changed_link-routers w i q f j = option_map_or-ind (SameRouter w j) (λ p. record w { links = changed_at p.link (f p.end) w.links }) (place_at w i q) w refl (λ p at. refl)

-- a step leaves each router that it does not touch
router_untouched : (w : World) (s : Step) (j : ℕ) → (touched_by s w).router ≢ Some j → SameRouter w j (next w s)
router_untouched w (SetCost i q cost) j apart = changed_link-routers w i q (with_cost cost) j
router_untouched w (Deliver i q) j apart = option_map_or-ind (SameRouter w j) (with_delivered i q w) (front_at w i q) (option_map_or (with_noticed i w) (notice_at w i q) w)
    (option_map_or-ind (SameRouter w j) (with_noticed i w) (notice_at w i q) w refl
    (λ n at. changed_router-other w (changed_attachments i with_notice_taken w) i (router_at_home n) j apart refl))
    (λ item at. changed_router-other w (changed_link i q with_front_taken w) i (router_accepting q item) j apart (changed_link-routers w i q with_front_taken j))
router_untouched w (Publish i) j apart = changed_router-other w w i router_publishing j apart refl
router_untouched w (Release i) j apart = option_map_or-ind (SameRouter w j) (with_released i w) (release_at w i) w refl
    (λ h at. changed_router-other w (changed_link i h.port (with_message h) w) i router_releasing j apart (changed_link-routers w i h.port (with_message h) j))
router_untouched w _ j apart = refl

-- ---- attachments

-- the attachments of the router of this number are in the one world what they are in the other
abbrev SameAttachments : World → ℕ → World → Type 0
SameAttachments w j v = slice_get v.attachments j ≡ slice_get w.attachments j

changed_attachments-other : (w : World) (i : ℕ) (f : Attachments → Attachments) (j : ℕ) → Some i ≢ Some j → SameAttachments w j (changed_attachments i f w)
changed_attachments-other w i f j apart = slice_get-changed_at_other f i j w.attachments (λ e. apart (ap Some (sym e)))

-- a change of a link leaves every router's attachments
changed_link-attachments : (w : World) (i q : ℕ) (f : End → Link → Link) (j : ℕ) → SameAttachments w j (changed_link i q f w)
changed_link-attachments w i q f j = option_map_or-ind (SameAttachments w j) (λ p. record w { links = changed_at p.link (f p.end) w.links }) (place_at w i q) w refl (λ p at. refl)

-- a step leaves the attachments of each router whose attachments it does not touch
attachments_untouched : (w : World) (s : Step) (j : ℕ) → (touched_by s w).attachments ≢ Some j → SameAttachments w j (next w s)
attachments_untouched w (SetCost i q cost) j apart = changed_link-attachments w i q (with_cost cost) j
attachments_untouched w (Deliver i q) j apart = option_map_or-ind (SameAttachments w j) (with_delivered i q w) (front_at w i q) (option_map_or (with_noticed i w) (notice_at w i q) w)
    (option_map_or-ind (SameAttachments w j) (with_noticed i w) (notice_at w i q) w refl (λ n at. changed_attachments-other w i with_notice_taken j apart))
    (λ item at. changed_link-attachments w i q with_front_taken j)
attachments_untouched w (Release i) j apart = option_map_or-ind (SameAttachments w j) (with_released i w) (release_at w i) w refl (λ h at. changed_link-attachments w i h.port (with_message h) j)
attachments_untouched w (Attach i p cost) j apart = changed_attachments-other w i (with_attachment p cost) j apart
attachments_untouched w (Detach i p) j apart = changed_attachments-other w i (without_attachment p) j apart
attachments_untouched w _ j apart = refl

-- ---- all

-- a step leaves all that it does not touch
pub untouched : (w : World) (s : Step) → LeavesOthers (touched_by s w) w (next w s)
untouched w s = record { links = link_untouched w s; attachments = attachments_untouched w s; routers = router_untouched w s }

-- the same of what is found to be touched
pub untouched_by : (w : World) (s : Step) (t : Touched) → t ≡ touched_by s w → LeavesOthers t w (next w s)
untouched_by w s t at = subst (λ u. LeavesOthers u w (next w s)) (sym at) (untouched w s)
