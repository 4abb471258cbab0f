-- Writers at their desks: one that is in publishes, goes out with the patch that is due, or comes back.
use Rattle.std.proofs.Common.{inr, refl, sym, ap, subst, ◌∙◌, arith, ◌≡◌, ◌<◌, ◌+◌, ◌||◌, ℕ, suc, Bool, true, false, cond, List, [], ◌∷◌, ◌++◌, length, set, Option, Some, None, IfSome, is_some, get_or, slice_get, option_map, option_and_then, true≢false}
use Rattle.no_packet_loops.proofs.Common.{option_map_or, false≢true, length-map, map-set, get_or_from_slice_get, slice_get-get_or, slice_get-map, slice_get_within, or-true, map-set_same, Prefix, Entry, Network, Router, World, IsNetwork, most_steps, Lawful, is_due, next, router_publishing, Patch, None_not_Some, Some_injective, Step, Publish}
use Rattle.image_patch.specs.{declared.Patch.Patch as PatchFields, Patches.patched}
use Rattle.publication.specs.{declared.known.Known.Known, Outings.HasPublished, Outings.IsOuting, Outings.Outing}
use Rattle.publication.specs.Lists.{Writing, image_of, is_named, patch_of, patched_prefixes}
use Rattle.publication.proofs.{Outings.named-more, Places.each_set, Places.each_there, Tables.image-covered}
use Rattle.fabric.specs.Desks.{Desk, all_lent, desk_in, desk_out, writings}
use Rattle.fabric.specs.Fabric.{after_step, awaits_writer, count_lent, fabric_of, lent_at, with_lent, IsFabric}
use Rattle.course.specs.Images.{due_at, image_in_force, images_in_force}
use Rattle.fabric.specs.Patches.{IsPatchDue}
use Rattle.fabric.specs.Writers.{AreHeard, ArePending, AreWriters, IsPending, shown_images, waiting_at, fabric_seen}
use Rattle.course.proofs.Images.{due_of}
use Rattle.fabric.proofs.{Fabrics.images_due, Fabrics.kept_lent, ImagesInForce.router_of}
use Rattle.fabric.proofs.WritersOut.{all_pending_next, count-set, lent_none, lent_there, one}
use Rattle.fabric.proofs.Publications.{IsDue, is_due_by, makes, number_is, still_heard, unseen_shown, writer_within, writers_set}

-- ---- desks

-- a writer is at its desk
pub writing_there : (desks : List Desk) (i : ℕ) (d : Desk) → slice_get desks i ≡ Some d → slice_get (writings desks) i ≡ Some d.writing
writing_there desks i d at = slice_get-map (λ (e : Desk). e.writing) desks i ∙ ap (option_map (λ (e : Desk). e.writing)) at

-- a desk that is read is there
pub seat : (desks : List Desk) (i k : ℕ) (d : Desk) → k < length desks → d ≡ get_or desks k d → k ≡ i → slice_get desks i ≡ Some d
seat desks i k d within read place = ap (slice_get desks) (sym place) ∙ slice_get-get_or desks k d within ∙ ap Some (sym read)

-- there are as many desks as routers
pub desk_count : (w : World) (openings : List (List (Prefix × Entry))) (desks : List Desk) → shown_images openings (writings desks) ≡ images_in_force w → length desks ≡ length w.routers
desk_count w openings desks shown = sym (length-map desks (λ (d : Desk). d.writing)) ∙ sym (length-map (writings desks) (λ (x : Writing). image_of openings x.published)) ∙ ap length shown ∙ length-map w.routers image_in_force

-- what waits with the writer of a desk that is there
pub waits_there : (desks : List Desk) (i : ℕ) (d : Desk) (waiting : List Prefix) → slice_get desks i ≡ Some d → (d.out ≡ None → waiting ≡ patched_prefixes (d.writing).waiting)
    → lent_at (all_lent desks) i ≡ None → waiting ≡ waiting_at (writings desks) i
waits_there desks i d waiting at waits inside =
    waits (sym (lent_there desks i d at) ∙ inside)
    ∙ ap (λ o. option_map_or (λ (x : Writing). patched_prefixes x.waiting) o []) (sym (writing_there desks i d at))

-- nothing, where there is none
pub none_waits : (desks : List Desk) (i : ℕ) → slice_get desks i ≡ None → [] ≡ waiting_at (writings desks) i
none_waits desks i past = ap (λ o. option_map_or (λ (x : Writing). patched_prefixes x.waiting) o []) (sym (slice_get-map (λ (e : Desk). e.writing) desks i ∙ ap (option_map (λ (e : Desk). e.writing)) past))

-- a writer that is not there is not out
pub none_lent_at : (desks : List Desk) (i : ℕ) → slice_get desks i ≡ None → lent_at (all_lent desks) i ≡ None
none_lent_at desks i past = ap (λ o. option_map_or (λ (l : Option Patch). l) o None) (slice_get-map (λ (e : Desk). e.out) desks i ∙ ap (option_map (λ (e : Desk). e.out)) past)

-- where none is out, there is no patch
pub none_kept : (o : Option Patch) → is_some o ≡ false → o ≡ None
none_kept None _ = refl
none_kept (Some p) free = absurd (true≢false free)

-- the writer of a desk is in where none is out
pub is_in : (desks : List Desk) (i : ℕ) (d : Desk) → slice_get desks i ≡ Some d → is_some (lent_at (all_lent desks) i) ≡ false → d.out ≡ None
is_in desks i d at free = none_kept d.out (ap is_some (sym (lent_there desks i d at)) ∙ free)

-- an element that is set over itself
pub set_again : {A : Type 0} (xs : List A) (k : ℕ) (d : A) → set xs k (get_or xs k d) ≡ xs
set_again (x ∷ xs) (suc k) d = ap (λ ys. x ∷ ys) (set_again xs k d)
set_again _ _ d = refl

-- ---- a writer that is in, and publishes or not

module _ (w : World) (desks : List Desk) (i : ℕ) (d e : Desk) (at : slice_get desks i ≡ Some d) where
  pub writings_set : writings (set desks i e) ≡ set (writings desks) i e.writing
  writings_set = map-set (λ (x : Desk). x.writing) desks i e

  -- none is kept of it, as before
  pub lent_same : d.out ≡ None → e.out ≡ None → all_lent (set desks i e) ≡ all_lent desks
  lent_same before after = map-set_same (λ (x : Desk). x.out) desks i e d (after ∙ sym (ap (λ (x : Desk). x.out) (get_or_from_slice_get desks i d d at) ∙ before))

  pub pending_same : e.out ≡ None → ArePending w desks → ArePending w (set desks i e)
  pending_same after pending = each_set (λ k (x : Desk). IfSome x.out (λ p. ((x.writing).waiting ≡ p ∷ []) × IsPending w k p)) desks i e pending
      (subst (λ o. IfSome o (λ p. ((e.writing).waiting ≡ p ∷ []) × IsPending w i p)) (sym after) tt)

-- ---- the parts of a fabric

module _ (n : Network) (journal : List Step) (w : World) (openings : List (List (Prefix × Entry))) (desks : List Desk) (capacity : ℕ)
    (kept : IsFabric (fabric_seen openings n journal w desks) capacity) (are : AreWriters w (writings desks)) where
  -- a router that is there has a desk
  pub desk_within : (i : ℕ) (r : Router) → slice_get w.routers i ≡ Some r → i < length desks
  desk_within i r at = subst (λ m. i < m) (length-map desks (λ (d : Desk). d.writing)) (writer_within n journal w openings (writings desks) (all_lent desks) capacity kept i r at)

  -- the patch that is due at a desk
  pub due_desk : {A : Type 0} → IsNetwork n → (i : ℕ) (d : Desk) → slice_get desks i ≡ Some d → (patch : PatchFields A) → IsPatchDue w i (waiting_at (writings desks) i) (Some patch) → IsDue n journal w openings (writings desks) i d.writing patch
  due_desk valid i d at patch due =
      is_due_by n journal w openings (writings desks) (all_lent desks) capacity kept are valid i d.writing (sym (get_or_from_slice_get (writings desks) i d.writing d.writing (writing_there desks i d at))) patch due

-- ---- a writer goes out

module _ {A : Type 0} (n : Network) (journal : List Step) (w : World) (openings : List (List (Prefix × Entry))) (desks : List Desk) (i : ℕ) (d : Desk) (patch : PatchFields A)
    (D : IsDue n journal w openings (writings desks) i d.writing patch) (at : slice_get desks i ≡ Some d) (inside : d.out ≡ None) where
  abbrev away : Desk
  away = desk_out (d.writing).published (patch_of patch)

  pub shown_away : shown_images openings (writings (set desks i away)) ≡ shown_images openings (writings desks)
  shown_away = ap (shown_images openings) (map-set (λ (x : Desk). x.writing) desks i away) ∙ unseen_shown n journal w openings (writings desks) i d.writing patch D away.writing refl

  -- the router has heard of all that the patch names
  patch_heard : AreHeard w i (patch_of patch ∷ [])
  patch_heard q named = still_heard n journal w openings (writings desks) i d.writing patch D ((d.writing).waiting ++ patch_of patch ∷ []) (inr refl) q
      (named-more (d.writing).waiting (patch_of patch) q ∙ ap (λ b. is_named (d.writing).waiting q || b) named ∙ or-true (is_named (d.writing).waiting q))

  pub writers_away : AreWriters w (writings desks) → AreWriters w (writings (set desks i away))
  writers_away are = subst (AreWriters w) (sym (map-set (λ (x : Desk). x.writing) desks i away))
      (writers_set w (writings desks) i away.writing are (number_is n journal w openings (writings desks) i d.writing patch D) patch_heard)

  is_due_there : is_due D.router ≡ true
  is_due_there = by_test (is_due D.router) refl (sym (ap (option_and_then (λ y. cond (is_due y) (Some (image_in_force (router_publishing y))) None)) D.at) ∙ D.due)
    where
      by_test : (b : Bool) → is_due D.router ≡ b → cond b (Some (image_in_force (router_publishing D.router))) None ≡ Some (patched patch.generation patch.rows.items (image_in_force D.router)) → is_due D.router ≡ true
      by_test true is _ = is
      by_test false _ none = absurd (None_not_Some none)

  pub pending_away : ArePending w desks → ArePending w (set desks i away)
  pending_away pending = each_set (λ k (x : Desk). IfSome x.out (λ p. ((x.writing).waiting ≡ p ∷ []) × IsPending w k p)) desks i away pending
      (refl, record { router = D.router; is_router = D.at; due = is_due_there; makes = makes n journal w openings (writings desks) i d.writing patch D })

  pub lent_away : all_lent (set desks i away) ≡ set (all_lent desks) i (Some (patch_of patch))
  lent_away = map-set (λ (x : Desk). x.out) desks i away

  pub count_away : count_lent (all_lent (set desks i away)) ≡ count_lent (all_lent desks) + 1
  count_away =
      let within : i < length (all_lent desks) = subst (λ m. i < m) (sym (length-map desks (λ (x : Desk). x.out))) (slice_get_within desks i d at) in
      let set_is = count-set (all_lent desks) i (Some (patch_of patch)) within in
      let none : one (lent_at (all_lent desks) i) ≡ 0 = ap one (lent_there desks i d at ∙ inside) in
      let same = ap count_lent lent_away in
      omega (arith, set_is, none, same)

  pub kept_away : (capacity : ℕ) → IsFabric (fabric_seen openings n journal w desks) capacity → length journal + count_lent (all_lent desks) < most_steps
      → IsFabric (fabric_seen openings n journal w (set desks i away)) capacity
  kept_away capacity kept short =
      let more = count_away in
      let same = ap count_lent lent_away in
      subst (λ images. IsFabric (fabric_of n journal w images (all_lent (set desks i away))) capacity) (sym shown_away)
      (subst (λ lent. IsFabric (fabric_of n journal w (shown_images openings (writings desks)) lent) capacity) (sym lent_away)
      (kept_lent (fabric_seen openings n journal w desks) i (Some (patch_of patch)) capacity kept (omega (arith, more, same, short))))

-- ---- a writer comes back

module _ (w : World) (openings : List (List (Prefix × Entry))) (desks : List Desk) (i : ℕ) (d : Desk) (o : Outing) (at : slice_get desks i ≡ Some d) (out : d.out ≡ Some o.patch) (list : (d.writing).published ≡ o.before)
    (is : IsOuting o) (pending : ArePending w desks) (are : AreWriters w (writings desks)) where
  abbrev back : Desk
  back = desk_in o.writing

  -- what is due at the router
  pub due_back : ((d.writing).waiting ≡ o.patch ∷ []) × IsPending w i o.patch
  due_back = subst (λ x. IfSome x (λ p. ((d.writing).waiting ≡ p ∷ []) × IsPending w i p)) out
      (each_there (λ k (x : Desk). IfSome x.out (λ p. ((x.writing).waiting ≡ p ∷ []) × IsPending w k p)) desks pending i d at)

  number : (o.before).router ≡ i
  number = ap (λ (k : Known). k.router) (sym list) ∙ each_there (λ k (x : Writing). (x.published).router ≡ k) (writings desks) are.numbered i d.writing (writing_there desks i d at)

  patch_known : AreHeard w i (o.patch ∷ [])
  patch_known = subst (AreHeard w i) due_back.0 (each_there (λ k (x : Writing). AreHeard w k x.waiting) (writings desks) are.heard i d.writing (writing_there desks i d at))

  -- the list is of the same router, and all that waits is heard of
  came_back : (b : Bool) → HasPublished b o → (((o.writing).published).router ≡ i) × AreHeard w i (o.writing).waiting
  came_back false has = (ap (λ (k : Known). k.router) has.0 ∙ number, λ q named. patch_known q (has.1 q named))
  came_back true has = (ap (λ (k : Known). k.router) has.2 ∙ number, λ q named. absurd (false≢true (sym (ap (λ ps. is_named ps q) has.3) ∙ named)))

  pub writers_back : AreWriters w (writings (set desks i back))
  writers_back =
      let came = came_back o.is_published is.published in
      subst (AreWriters w) (sym (map-set (λ (x : Desk). x.writing) desks i back)) (writers_set w (writings desks) i o.writing are came.0 came.1)

  pub pending_back : ArePending w (set desks i back)
  pending_back = pending_same w desks i d back at refl pending

  pub lent_back : all_lent (set desks i back) ≡ set (all_lent desks) i None
  lent_back = map-set (λ (x : Desk). x.out) desks i back

  pub lent_was : lent_at (all_lent desks) i ≡ Some o.patch
  lent_was = lent_there desks i d at ∙ out

  pub count_back : count_lent (all_lent (set desks i back)) + 1 ≡ count_lent (all_lent desks)
  count_back =
      let within : i < length (all_lent desks) = subst (λ m. i < m) (sym (length-map desks (λ (x : Desk). x.out))) (slice_get_within desks i d at) in
      let set_is = count-set (all_lent desks) i None within in
      let some : one (lent_at (all_lent desks) i) ≡ 1 = ap one lent_was in
      let same = ap count_lent lent_back in
      omega (arith, set_is, some, same)

  -- unpublished, it shows what it did
  pub shown_back : o.is_published ≡ false → shown_images openings (writings (set desks i back)) ≡ shown_images openings (writings desks)
  shown_back not_yet =
      let has : HasPublished false o = subst (λ b. HasPublished b o) not_yet is.published in
      ap (shown_images openings) (map-set (λ (x : Desk). x.writing) desks i back)
      ∙ map-set_same (λ (z : Writing). image_of openings z.published) (writings desks) i o.writing d.writing
      (ap (image_of openings) (has.0 ∙ sym list) ∙ ap (λ (z : Writing). image_of openings z.published) (sym (get_or_from_slice_get (writings desks) i d.writing d.writing (writing_there desks i d at))))

  -- published, it shows what was due
  pub shown_new : o.is_published ≡ true → (router : Router) → slice_get w.routers i ≡ Some router → image_of openings (d.writing).published ≡ image_in_force router
      → shown_images openings (writings (set desks i back)) ≡ set (shown_images openings (writings desks)) i (image_in_force (router_publishing router))
  shown_new done router there shows_it =
      let has : HasPublished true o = subst (λ b. HasPublished b o) done is.published in
      let same : due_back.1.router ≡ router = Some_injective (sym due_back.1.is_router ∙ there) in
      ap (shown_images openings) (map-set (λ (x : Desk). x.writing) desks i back)
      ∙ map-set (λ (z : Writing). image_of openings z.published) (writings desks) i o.writing
      ∙ ap (set (shown_images openings (writings desks)) i)
      (ap (image_of openings) has.2 ∙ image-covered openings o.before has.0 o.patch has.1 ∙ ap (λ k. patched (o.patch).generation (o.patch).rows (image_of openings k)) (sym list)
      ∙ ap (patched (o.patch).generation (o.patch).rows) shows_it
      ∙ subst (λ r. patched (o.patch).generation (o.patch).rows (image_in_force r) ≡ image_in_force (router_publishing r)) same due_back.1.makes)

  -- ---- the fabric that it comes back to

  module _ (n : Network) (journal : List Step) (capacity : ℕ) (kept : IsFabric (fabric_seen openings n journal w desks) capacity) where
    -- its place in the journal is free
    pub short_back : length journal + count_lent (all_lent (set desks i back)) < most_steps
    short_back = let count = count_back in let short = kept.short in omega (arith, count, short)

    pub kept_back : IsFabric (fabric_of n journal w (shown_images openings (writings desks)) (all_lent (set desks i back))) capacity
    kept_back =
        let short = short_back in
        let same = ap count_lent lent_back in
        subst (λ lent. IsFabric (fabric_of n journal w (shown_images openings (writings desks)) lent) capacity) (sym lent_back)
        (kept_lent (fabric_seen openings n journal w desks) i None capacity kept (omega (arith, short, same)))

    pub lawful_back : Lawful w (Publish i)
    lawful_back = (due_back.1.router, due_back.1.is_router, due_back.1.due)

    pub free_back : awaits_writer (fabric_of n journal w (shown_images openings (writings desks)) (all_lent (set desks i back))) (Publish i) ≡ false
    free_back = ap (λ lent. is_some (lent_at lent i)) lent_back ∙ ap is_some (lent_none (all_lent desks) i)

    pub pending_on : ArePending (next w (Publish i)) (set desks i back)
    pending_on = all_pending_next (fabric_of n journal w (shown_images openings (writings desks)) (all_lent (set desks i back))) (Publish i) (set desks i back) refl free_back pending_back

    pub images_back : o.is_published ≡ true → images_in_force (next w (Publish i)) ≡ shown_images openings (writings (set desks i back))
    images_back done =
        let r : Router = due_back.1.router in
        let of = due_of w i lawful_back in
        let shown = router_of openings w (writings desks) kept.in_force i d.writing (writing_there desks i d at) in
        let due : due_at w i ≡ Some (image_in_force (router_publishing r)) = of.2 ∙ ap (λ x. Some (image_in_force (router_publishing x))) (Some_injective (sym of.1 ∙ due_back.1.is_router)) in
        images_due (fabric_seen openings n journal w desks) i capacity (image_in_force (router_publishing r)) kept lawful_back due
        ∙ sym (shown_new done r due_back.1.is_router (shown.2 ∙ ap image_in_force (Some_injective (sym shown.1 ∙ due_back.1.is_router))))

    -- the fabric afterwards, where the patch was published
    pub published_is : o.is_published ≡ true → (items : List Step) (v : World) (ds : List Desk) → items ≡ journal ++ Publish i ∷ [] → v ≡ next w (Publish i) → ds ≡ set desks i back
        → fabric_seen openings n items v ds ≡ after_step (with_lent (fabric_seen openings n journal w desks) i None) (Publish i)
    published_is done items v ds pushed world left =
        λ k. fabric_of n (pushed k) (world k) ((ap (λ xs. shown_images openings (writings xs)) left ∙ sym (images_back done)) k) ((ap all_lent left ∙ lent_back) k)

    pub unpublished_is : o.is_published ≡ false → (ds : List Desk) → ds ≡ set desks i back
        → fabric_seen openings n journal w ds ≡ with_lent (fabric_seen openings n journal w desks) i None
    unpublished_is not_yet ds left = λ k. fabric_of n journal w ((ap (λ xs. shown_images openings (writings xs)) left ∙ shown_back not_yet) k) ((ap all_lent left ∙ lent_back) k)
