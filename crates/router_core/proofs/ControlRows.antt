-- The control rows that a notice makes: each machine's row set in turn is all of them set at once.
use Rattle.std.proofs.Common.{refl, ap, ◌∙◌, ◌≡◌, true, List, [], ◌∷◌, map}
use Rattle.network_model.proofs.Common.{is_sorted, below_all, and_parts, and_from, tied_itself, Prefix, prefix_cmp, with_rows, prefix_cmp_total, with_rows-past}
use Rattle.network_model.specs.declared.route.Entry.{Entry}
use Rattle.route_table.proofs.Places.{put_here}

-- a row for each element, in the order of its prefix
module _ {A : Type 0} (f g : Prefix × A → Entry) where
  abbrev pub rows_by : (Prefix × A → Entry) → List (Prefix × A) → List (Prefix × Entry)
  rows_by h xs = map (λ x. (x.0, h x)) xs

  below-rows_by : (p : Prefix) (xs : List (Prefix × A)) → below_all prefix_cmp p xs ≡ true → below_all prefix_cmp p (rows_by f xs) ≡ true
  below-rows_by p [] below = refl
  below-rows_by p (x ∷ xs) below =
      let parts : _ = and_parts _ _ below in
      and_from _ _ parts.0 (below-rows_by p xs parts.1)

  -- one set of rows in the place of another
  pub with_rows-rows_by : (xs : List (Prefix × A)) → is_sorted prefix_cmp xs ≡ true → with_rows (rows_by f xs) (rows_by g xs) ≡ rows_by f xs
  with_rows-rows_by [] sorted = refl
  with_rows-rows_by (x ∷ xs) sorted =
      let parts : _ = and_parts _ _ sorted in
      ap (with_rows (rows_by f xs)) (put_here prefix_cmp x.0 (f x) (x.0, g x) (rows_by g xs) (tied_itself prefix_cmp_total x.0))
      ∙ with_rows-past (x.0, f x) (rows_by f xs) (rows_by g xs) (below-rows_by x.0 xs parts.0)
      ∙ ap (λ rs. (x.0, f x) ∷ rs) (with_rows-rows_by xs parts.1)
