-- A fabric that opens: its writers show the images of what its routers chose, and its readers are of its routers.
use Rattle.std.proofs.Common.{refl, sym, ap, subst, ◌∙◌, arith, ◌≡◌, ◌≤◌, ℕ, zero, suc, true, false, List, [], ◌∷◌, map, length, replicate, All, Some, None, IfSome, slice_get, option_map}
use Rattle.no_packet_loops.proofs.Common.{⊤, length-map, length-map-range_with_len, slice_get-map, get_or_from_slice_get, Prefix, Entry, Network, Router, World, opening, opening_router_of, most_steps, Image, Step}
use Rattle.publication.specs.declared.known.Known.{Known}
use Rattle.publication.specs.Lists.{EachAt, Writing, image_of, is_named, new_writing, opening_of}
use Rattle.fabric.specs.Desks.{all_lent, desk_in, writings}
use Rattle.fabric.specs.Fabric.{count_lent, fabric_of, opening_fabric, IsFabric}
use Rattle.course.specs.Images.{chosen_image, images_in_force}
use Rattle.fabric.specs.Writers.{ArePending, AreReaders, AreWriters, IsPending, IsReaderPort, opening_tables, shown_images}
use Rattle.fabric.proofs.{Fabrics.kept_at_opening, WritersOut.count-none, WritersOut.none_lent}
use Rattle.publication.proofs.Places.{each_there}

-- ---- lists

-- lists whose elements give the same, place by place
map_same : {A B C : Type 0} (f : A → C) (g : B → C) (xs : List A) (ys : List B) → length xs ≡ length ys → ((i : ℕ) (x : A) (y : B) → slice_get xs i ≡ Some x → slice_get ys i ≡ Some y → f x ≡ g y) → map f xs ≡ map g ys
map_same f g [] [] long same = refl
map_same f g (x ∷ xs) (y ∷ ys) long same = λ k. same 0 x y refl refl k ∷ map_same f g xs ys (omega (arith, long)) (λ i. same (suc i)) k
map_same f g _ _ long same = absurd (omega (arith, long))

-- what holds of each element, with its place, holds of what is made of it
pub each_map : {A B : Type 0} (f : A → B) (P : ℕ → A → Type 0) (Q : ℕ → B → Type 0) → ((i : ℕ) (x : A) → P i x → Q i (f x)) → (xs : List A) → EachAt P xs → EachAt Q (map f xs)
each_map f P Q makes [] each k d less = absurd (omega (arith, less))
each_map f P Q makes (x ∷ xs) each zero d less = makes 0 x (each 0 x (omega arith))
each_map f P Q makes (x ∷ xs) each (suc k) d less = each_map f (λ i. P (suc i)) (λ i. Q (suc i)) (λ i. makes (suc i)) xs (λ i e within. each (suc i) e (omega (arith, within))) k d (omega (arith, less))

-- ---- images

-- the rows of the images of what routers chose
pub chosen_rows_are : (rs : List Router) → map (λ (i : Image). i.rows) (map chosen_image rs) ≡ map (λ r. (r.table).control) rs
chosen_rows_are [] = refl
chosen_rows_are (r ∷ rs) = ap (λ xs. (r.table).control ∷ xs) (chosen_rows_are rs)

pub chosen_zero : (rs : List Router) → All (λ (i : Image). i.generation ≡ 0) (map chosen_image rs)
chosen_zero [] k d less = absurd (omega (arith, less))
chosen_zero (r ∷ rs) zero d less = refl
chosen_zero (r ∷ rs) (suc k) d less = chosen_zero rs k d (omega (arith, less))

module _ (n : Network) (openings : List (List (Prefix × Entry))) (tables : opening_tables n ≡ openings) (writers : List Writing) (each : EachAt (λ i x. x ≡ new_writing i) writers) where
  -- writers that have published nothing show what the routers chose
  pub shown_opening : length writers ≡ length (opening n).routers → shown_images openings writers ≡ map chosen_image (opening n).routers
  shown_opening long = map_same (λ (x : Writing). image_of openings x.published) chosen_image writers (opening n).routers long same
    where
      same : (i : ℕ) (x : Writing) (r : Router) → slice_get writers i ≡ Some x → slice_get (opening n).routers i ≡ Some r → image_of openings x.published ≡ chosen_image r
      same i x r at there =
          let rows : opening_of openings i ≡ (r.table).control =
          get_or_from_slice_get openings i (r.table).control [] (ap (λ xs. slice_get xs i) (sym tables) ∙ slice_get-map (λ (y : Router). (y.table).control) (opening n).routers i ∙ ap (λ o. option_map (λ (y : Router). (y.table).control) o) there) in
          ap (λ (y : Writing). image_of openings y.published) (each_there (λ k (y : Writing). y ≡ new_writing k) writers each i x at) ∙ ap (λ xs. record { generation = 0; rows = xs }) rows

  -- they are of their routers, and nothing waits with them
  pub new_writers : (w : World) → AreWriters w writers
  new_writers w = record {
    numbered = λ i x at. ap (λ (y : Writing). (y.published).router) (each i x at);
    heard = λ i x at p named. absurd (let none : false ≡ true = subst (λ (y : Writing). is_named y.waiting p ≡ true) (each i x at) named in cc);
  }

-- the world and the writers of a network that opens, whose writers were given these images
module _ (n : Network) (openings : List (List (Prefix × Entry))) (tables : opening_tables n ≡ openings) (w : World) (opened : w ≡ opening n) (images : List Image) (chosen : images ≡ map chosen_image (opening n).routers)
    (writers : List Writing) (each : EachAt (λ i x. x ≡ new_writing i) writers) (count : length writers ≡ length images) where
  -- the writers show what the routers chose
  shown_chosen : shown_images openings writers ≡ map chosen_image w.routers
  shown_chosen =
      shown_opening n openings tables writers each (count ∙ ap length chosen ∙ length-map (opening n).routers chosen_image)
      ∙ ap (λ (v : World). map chosen_image v.routers) (sym opened)

  all_in : all_lent (map desk_in writers) ≡ replicate n.routers None
  all_in = none_lent writers ∙ ap (λ m. replicate m None) (count ∙ ap length chosen ∙ length-map (opening n).routers chosen_image ∙ length-map-range_with_len (opening_router_of n) 0 n.routers)

  pub kept_open : (journal : List Step) (capacity : ℕ) → journal ≡ [] → most_steps ≤ capacity → IsFabric (fabric_of n journal w (shown_images openings writers) (all_lent (map desk_in writers))) capacity
  kept_open journal capacity none room = kept_at_opening n journal w (shown_images openings writers) (all_lent (map desk_in writers)) capacity none opened shown_chosen (ap count_lent all_in ∙ count-none n.routers) room

  -- so the fabric is the network at its opening
  pub is_opening : (journal : List Step) → journal ≡ [] → fabric_of n journal w (shown_images openings writers) (all_lent (map desk_in writers)) ≡ opening_fabric n
  is_opening journal none =
      ap (λ steps. fabric_of n steps w (shown_images openings writers) (all_lent (map desk_in writers))) none
      ∙ ap (λ images. fabric_of n [] w images (all_lent (map desk_in writers))) (kept_open [] most_steps refl (omega arith)).in_force
      ∙ ap (λ v. fabric_of n [] v (images_in_force v) (all_lent (map desk_in writers))) opened
      ∙ ap (fabric_of n [] (opening n) (images_in_force (opening n))) all_in

-- no patch waits for its ticket where each writer is in
pub none_pending : (w : World) (writers : List Writing) → ArePending w (map desk_in writers)
none_pending w writers = each_map desk_in (λ i x. ⊤) (λ i d. IfSome d.out (λ p. ((d.writing).waiting ≡ p ∷ []) × IsPending w i p)) (λ i x _. tt) writers (λ i x _. tt)

-- writers that are in are what they were
pub writings_in : (writers : List Writing) → writings (map desk_in writers) ≡ writers
writings_in [] = refl
writings_in (x ∷ xs) = ap (λ ys. x ∷ ys) (writings_in xs)

-- readers of all routers that have seen nothing are of their routers
pub new_readers : (w : World) (port : List Known) → IsReaderPort (length w.routers) port → AreReaders w port
new_readers w port is = record { every_router = is.0; numbered = λ i v at. ap (λ (k : Known). k.router) (is.1 i v at) }
