-- A step that goes on with the list keeps the rule of the two copies.
use Rattle.std.proofs.Common.{◌≡◌, ◌≢◌, ℕ, List, [], ◌∷◌, ◌++◌, set, Option, Some, None, IfSome, refl, subst, ⊎_elim}
use mathlib.Core.Option.{some}
use lib.ListN.{get_elem?}
use Rattle.atomic_table.proofs.Lists.{at_set, at_snoc}
use Rattle.ipv4_prefix.specs.Prefix.{Prefix}
use Rattle.network_model.specs.{Publication.Image, declared.route.Entry.Entry}
use Rattle.publication.specs.{declared.known.Known.Known, Lists.Begins, Lists.image_of, Views.Keeps, Views.Sees}
use Rattle.publication.proofs.Beginnings.{begins_self, begins_trans}

module _ (openings : List (List (Prefix × Entry))) where
  -- a view of none begins each list
  pub keeps_more : (image : Image) (list : Known) (views : List (Option Known)) → Keeps openings image list views → Keeps openings image list (views ++ None ∷ [])
  keeps_more image list views h = (h.0, λ seat v at. ⊎_elim (h.1 seat v) (λ (e : None ≡ v). subst (λ (z : Option Known). IfSome z (λ k. Begins k list)) e tt) (at_snoc views None v seat at))

  begun_later : (x y : Known) → Begins x y → (v : Option Known) → IfSome v (λ k. Begins k x) → IfSome v (λ k. Begins k y)
  begun_later x y longer None h = tt
  begun_later x y longer (Some k) h = begins_trans k x y h longer

  pub goes_on : (seat : ℕ) (v : Option Known) (i j : Image) (x y : Known) → Begins x y → j ≡ image_of openings y → (views : List (Option Known)) → Keeps openings i x views → get_elem? views seat ≡ some v
      → (w : Option Known) × Keeps openings j y (set views seat w) × Sees openings v x j y w
  goes_on seat v i j x y longer is views h at = (
    Some y,
    (
      is,
      λ k u e. ⊎_elim (λ (t : (k ≡ seat) × (Some y ≡ u)). subst (λ (z : Option Known). IfSome z (λ l. Begins l y)) t.1 (begins_self y))
          (λ (t : (k ≢ seat) × (get_elem? views k ≡ some u)). begun_later x y longer u (h.1 k u t.1)) (at_set views seat k (Some y) u e),
    ),
    (h.1 seat v at, refl, is),
  )

  -- the copy that is shown stays as it is
  pub stays_on : (seat : ℕ) (v : Option Known) (i : Image) (x : Known) (views : List (Option Known)) → Keeps openings i x views → get_elem? views seat ≡ some v
      → (w : Option Known) × Keeps openings i x (set views seat w) × Sees openings v x i x w
  stays_on seat v i x views h at = goes_on seat v i i x x (begins_self x) h.0 views h at
