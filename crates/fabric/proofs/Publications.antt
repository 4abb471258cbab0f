-- A publication: what its patch is for the router's writer, and what is left where it is refused.
use Rattle.std.proofs.Common.{inl, inr, refl, sym, ap, subst, ◌∙◌, append_assoc, ◌≡◌, ◌⊎◌, ◌<◌, ◌+◌, ◌||◌, ℕ, Bool, true, false, cond, List, [], ◌∷◌, ◌++◌, map, length, set, Option, Some, None, IsSome, get_or, slice_get, option_and_then, append-nil}
use Rattle.no_packet_loops.proofs.Common.{list_any, option_map_or, length-map, map-set, list_any-append, get_or_from_slice_get, slice_get-get_or, map-set_same, Prefix, prefix_cmp, prefix_eq, Entry, Network, Router, World, opening, IsNetwork, chosen_rows, is_due, next, router_publishing, Runs, Image, Patch, None_not_Some, Some_injective, find as row_of, Step}
use Rattle.no_packet_loops.proofs.{WorldLaws.next-shape, Wiring.wired, Runs.reached}
use Rattle.image_patch.specs.{declared.Patch.Patch as PatchFields, Patches.patched}
use Rattle.publication.specs.declared.known.Known.{Known}
use Rattle.publication.specs.Lists.{Covers, Writing, generation_of, image_of, is_named, patch_of, patched_prefixes}
use Rattle.publication.proofs.{RowsAgain.has_row, Places.each_set, Places.each_there}
use Rattle.fabric.specs.{Fabric.fabric_of, Fabric.IsFabric, Patches.IsPatchDue, Patches.rows_to_set}
use Rattle.course.specs.Images.{due_at, image_in_force, images_in_force}
use Rattle.fabric.specs.Writers.{AreHeard, AreReaders, AreWriters, IsHeard, shown_images, waiting_at}
use Rattle.fabric.proofs.{Fabrics.image_at, HeardPrefixes.chosen_heard, HeardPrefixes.heard_chosen, HeardPrefixes.heard_next, NamedRows.named_chosen, NamedRows.waiting_named, ImagesInForce.router_of}

-- ---- writers and readers after a step

pub writers_next : (w : World) (s : Step) (writers : List Writing) → AreWriters w writers → AreWriters (next w s) writers
writers_next w s writers are = record { numbered = are.numbered; heard = λ i x at p named. heard_next p w s i (are.heard i x at p named) }

pub readers_next : (w : World) (s : Step) (views : List Known) → AreReaders w views → AreReaders (next w s) views
readers_next w s views are = record { every_router = are.every_router ∙ sym (next-shape w s).routers; numbered = are.numbered }

-- where nothing waits, all that waits is heard of
pub none_heard : (w : World) (i : ℕ) (waiting : List Patch) → waiting ≡ [] → AreHeard w i waiting
none_heard w i waiting none p named = absurd (let no : false ≡ true = subst (λ ps. is_named ps p ≡ true) none named in cc)

-- a writer is changed
pub writers_set : (w : World) (writers : List Writing) (i : ℕ) (x : Writing) → AreWriters w writers → (x.published).router ≡ i → AreHeard w i x.waiting → AreWriters w (set writers i x)
writers_set w writers i x are number heard = record {
  numbered = each_set (λ m (z : Writing). (z.published).router ≡ m) writers i x are.numbered number;
  heard = each_set (λ m (z : Writing). AreHeard w m z.waiting) writers i x are.heard heard;
}

-- ---- the chosen rows of a run

pub control_follows : (n : Network) (journal : List Step) (w : World) → IsNetwork n → Runs (opening n) journal w → (p : Prefix) (i : ℕ) (r : Router) → slice_get w.routers i ≡ Some r → (r.table).control ≡ chosen_rows r.ports r.machines
control_follows n journal w valid runs p i r at = ((reached n (wired n valid) p journal w runs).kept.routers_kept i r at).control_is

-- ---- the patch of a publication

-- the patch is the one by which router i, whose writer is x, would publish
pub record IsDue {A : Type 0} (n : Network) (journal : List Step) (w : World) (openings : List (List (Prefix × Entry))) (writers : List Writing) (i : ℕ) (x : Writing) (patch : PatchFields A) : Type 0 where
  pub valid : IsNetwork n
  pub runs : Runs (opening n) journal w
  pub shown : shown_images openings writers ≡ images_in_force w
  pub are : AreWriters w writers
  pub there : slice_get writers i ≡ Some x
  pub router : Router
  pub at : slice_get w.routers i ≡ Some router
  pub due : due_at w i ≡ Some (patched patch.generation patch.rows.items (image_in_force router))
  pub rows : patch.rows.items ≡ rows_to_set (router.table) (patched_prefixes x.waiting)

-- what is due, said of the world and the writers themselves
pub due_there : {A : Type 0} (v w : World) (ws writers : List Writing) (i : ℕ) (waiting : List Prefix) (o : Option (PatchFields A)) (patch : PatchFields A) → v ≡ w → waiting ≡ waiting_at ws i → ws ≡ writers → o ≡ Some patch
    → IsPatchDue v i waiting o → IsPatchDue w i (waiting_at writers i) (Some patch)
due_there v w ws writers i waiting o patch worlds waits same some due =
    subst (λ u. IsPatchDue u i (waiting_at writers i) (Some patch)) worlds
    (subst (λ ps. IsPatchDue v i ps (Some patch)) (waits ∙ ap (λ xs. waiting_at xs i) same) (subst (IsPatchDue v i waiting) some due))

-- a router that is there has a writer
pub writer_within : (n : Network) (journal : List Step) (w : World) (openings : List (List (Prefix × Entry))) (writers : List Writing) (lent : List (Option Patch)) (capacity : ℕ) → IsFabric (fabric_of n journal w (shown_images openings writers) lent) capacity
    → (i : ℕ) (r : Router) → slice_get w.routers i ≡ Some r → i < length writers
writer_within n journal w openings writers lent capacity kept i r at =
    subst (λ m. i < m) (length-map writers (λ (z : Writing). image_of openings z.published)) (image_at (fabric_of n journal w (shown_images openings writers) lent) capacity kept i r at)

pub is_due_by : {A : Type 0} (n : Network) (journal : List Step) (w : World) (openings : List (List (Prefix × Entry))) (writers : List Writing) (lent : List (Option Patch)) (capacity : ℕ) → IsFabric (fabric_of n journal w (shown_images openings writers) lent) capacity
    → AreWriters w writers → IsNetwork n → (i : ℕ) (x : Writing) → x ≡ get_or writers i x → (patch : PatchFields A) → IsPatchDue w i (waiting_at writers i) (Some patch) → IsDue n journal w openings writers i x patch
is_due_by n journal w openings writers lent capacity kept are valid i x is patch due = record {
  valid = valid;
  runs = kept.runs;
  shown = kept.in_force;
  are = are;
  there = there;
  router = due.0;
  at = due.1;
  due = due.2;
  rows = due.3 ∙ ap (λ o. rows_to_set ((due.0).table) (option_map_or (λ (z : Writing). patched_prefixes z.waiting) o [])) there;
}
  where
    there : slice_get writers i ≡ Some x
    there = slice_get-get_or writers i x (writer_within n journal w openings writers lent capacity kept i due.0 due.1) ∙ ap Some (sym is)

module _ {A : Type 0} (n : Network) (journal : List Step) (w : World) (openings : List (List (Prefix × Entry))) (writers : List Writing) (i : ℕ) (x : Writing) (patch : PatchFields A) (D : IsDue n journal w openings writers i x patch) where
  abbrev r : Router
  r = D.router

  -- the writer shows the image in force
  pub shows : image_of openings x.published ≡ image_in_force r
  shows = let of = router_of openings w writers D.shown i x D.there in of.2 ∙ ap image_in_force (Some_injective (sym of.1 ∙ D.at))

  -- the patch makes the one that is due of it
  pub makes : patched patch.generation patch.rows.items (image_in_force r) ≡ image_in_force (router_publishing r)
  makes = by_test (is_due r) (sym D.due ∙ ap (option_and_then (λ y. cond (is_due y) (Some (image_in_force (router_publishing y))) None)) D.at)
    where
      by_test : (b : Bool) → Some (patched patch.generation patch.rows.items (image_in_force r)) ≡ cond b (Some (image_in_force (router_publishing r))) None
          → patched patch.generation patch.rows.items (image_in_force r) ≡ image_in_force (router_publishing r)
      by_test true is = Some_injective is
      by_test false is = absurd (None_not_Some (sym is))

  pub next_number : patch.generation ≡ generation_of x.published + 1
  next_number = ap (λ (image : Image). image.generation) makes ∙ ap (λ g. g + 1) (sym (ap (λ (image : Image). image.generation) shows))

  named_is : (q : Prefix) → is_named (patch_of patch ∷ []) q ≡ has_row (rows_to_set (r.table) (patched_prefixes x.waiting)) q
  named_is q = ap (list_any (λ k. prefix_eq k q)) (append-nil (map (λ (e : Prefix × Entry). e.0) patch.rows.items)) ∙ ap (λ es. has_row es q) D.rows

  follows : (q : Prefix) → (r.table).control ≡ chosen_rows r.ports r.machines
  follows q = control_follows n journal w D.valid D.runs q i r D.at

  waits_heard : AreHeard w i x.waiting
  waits_heard = each_there (λ k (z : Writing). AreHeard w k z.waiting) writers (D.are).heard i x D.there

  pub number_is : (x.published).router ≡ i
  number_is = each_there (λ k (z : Writing). (z.published).router ≡ k) writers (D.are).numbered i x D.there

  pub names_all : Covers (patch_of patch) x.waiting
  names_all q named =
      let heard : IsSome (row_of prefix_cmp q r.machines) = subst (λ o. IsSome (option_and_then (λ (y : Router). row_of prefix_cmp q y.machines) o)) D.at (waits_heard q named) in
      named_is q ∙ waiting_named (r.table) (patched_prefixes x.waiting) q named (chosen_heard r q (follows q) heard)

  -- where it waits, the router has heard of all that waits
  pub still_heard : (waiting : List Patch) → (waiting ≡ x.waiting) ⊎ (waiting ≡ x.waiting ++ patch_of patch ∷ []) → AreHeard w i waiting
  still_heard waiting (inl same) q named = subst (AreHeard w i) (sym same) waits_heard q named
  still_heard waiting (inr more) q named = by_name (is_named x.waiting q) refl (sym (named_either q) ∙ subst (λ ps. is_named ps q ≡ true) more named)
    where
      named_either : (k : Prefix) → is_named (x.waiting ++ patch_of patch ∷ []) k ≡ (is_named x.waiting k || is_named (patch_of patch ∷ []) k)
      named_either k = ap (list_any (λ p. prefix_eq p k)) (prefixes-append x.waiting) ∙ list_any-append (λ p. prefix_eq p k) (patched_prefixes x.waiting) (patched_prefixes (patch_of patch ∷ []))
        where
          prefixes-append : (ps : List Patch) → patched_prefixes (ps ++ patch_of patch ∷ []) ≡ patched_prefixes ps ++ patched_prefixes (patch_of patch ∷ [])
          prefixes-append [] = refl
          prefixes-append (p ∷ ps) = ap (λ ks. map (λ (e : Prefix × Entry). e.0) p.rows ++ ks) (prefixes-append ps) ∙ sym (append_assoc (map (λ (e : Prefix × Entry). e.0) p.rows) (patched_prefixes ps) (patched_prefixes (patch_of patch ∷ [])))

      by_name : (b : Bool) → is_named x.waiting q ≡ b → (b || is_named (patch_of patch ∷ []) q) ≡ true → IsHeard w i q
      by_name true is _ = waits_heard q is
      by_name false is here =
          subst (λ o. IsSome (option_and_then (λ (y : Router). row_of prefix_cmp q y.machines) o)) (sym D.at)
          (heard_chosen r q (follows q) (named_chosen (r.table) (patched_prefixes x.waiting) q (sym (named_is q) ∙ here)))

  -- a refused publication shows nothing else
  pub unseen_shown : (y : Writing) → y.published ≡ x.published → shown_images openings (set writers i y) ≡ shown_images openings writers
  unseen_shown y same = map-set_same (λ (z : Writing). image_of openings z.published) writers i y x (ap (image_of openings) (same ∙ ap (λ (z : Writing). z.published) (sym (get_or_from_slice_get writers i x x D.there))))

  -- one that is done shows the image that was due
  pub shown_done : (y : Writing) → image_of openings y.published ≡ patched patch.generation patch.rows.items (image_of openings x.published)
      → shown_images openings (set writers i y) ≡ set (shown_images openings writers) i (patched patch.generation patch.rows.items (image_in_force r))
  shown_done y image = map-set (λ (z : Writing). image_of openings z.published) writers i y
      ∙ ap (set (shown_images openings writers) i) (image ∙ ap (patched patch.generation patch.rows.items) shows)
