-- What is put on links, taken and lost keeps the moments of items in order, and none is late.
use Rattle.std.proofs.Common.{refl, sym, ap, subst, ◌∙◌, arith, inl, inr, ◌≡◌, ◌≢◌, ◌⊎◌, ℕ, ◌≤◌, Bool, true, false, cond, List, [], ◌∷◌, ◌++◌, map, drop, filter, length, Option, Some, None, option_map, slice_get}
use Rattle.no_packet_loops.proofs.Common.{cases_eq, map-append, length-changed_at, slice_get-changed_at, slice_get-changed_at_other, None_not_Some, Some_injective, changed_at, is_notice, Item, Link}
use Rattle.timed_simulation.specs.{declared.links.Arrival.Arrival, Due.AreTimely, Due.IsTimelyLink, Due.AreTimelyLinks}
use Rattle.timed_simulation.specs.Links.{Direction, TimedLink, last_moment, later, with_put, with_taken, without_messages}
use Rattle.timed_simulation.proofs.Rising.{rises_later, rises_tail, rises_push, rises_filter, up_to_later, up_to_tail, up_to_push, up_to_filter}

-- ---- one direction

-- an item is put at the back
pub put_timely : (now : ℕ) (items : List Item) (item : Item) (d : Direction) → now ≤ last_moment → AreTimely now items d → AreTimely now (items ++ item ∷ []) (with_put now (is_notice item) d)
put_timely now items item d fits T = record {
  kinds = map-append (λ (a : Arrival). a.notice) d.arrivals (record { moment = later now d.delay; notice = is_notice item } ∷ []) ∙ ap (λ ks. ks ++ is_notice item ∷ []) T.kinds ∙ sym (map-append is_notice items (item ∷ []));
  rises = rises_push (λ (a : Arrival). a.moment) now d.arrivals (record { moment = later now d.delay; notice = is_notice item }) T.rises T.up_to (omega (arith, fits));
  up_to = up_to_push (λ (a : Arrival). a.moment) (later now d.delay) d.arrivals (record { moment = later now d.delay; notice = is_notice item }) T.up_to (omega arith);
}

map_tail : {A B : Type 0} (f : A → B) (xs : List A) → map f (drop 1 xs) ≡ drop 1 (map f xs)
map_tail f [] = refl
map_tail f (x ∷ xs) = refl

-- the front item is taken
pub taken_timely : (now : ℕ) (items : List Item) (d : Direction) → AreTimely now items d → AreTimely now (drop 1 items) (with_taken d)
taken_timely now items d T = record {
  kinds = map_tail (λ (a : Arrival). a.notice) d.arrivals ∙ ap (drop 1) T.kinds ∙ sym (map_tail is_notice items);
  rises = rises_tail (λ (a : Arrival). a.moment) now d.arrivals T.rises;
  up_to = up_to_tail (λ (a : Arrival). a.moment) (later now d.delay) d.arrivals T.up_to;
}

passing : {A : Type 0} (f : A → Bool) (xs : List A) → map f (filter f xs) ≡ filter (λ b. b) (map f xs)
passing f [] = refl
passing f (x ∷ xs) = by_test (f x) (passing f xs)
  where
    by_test : (b : Bool) → map f (filter f xs) ≡ filter (λ c. c) (map f xs) → map f (cond b (x ∷ filter f xs) (filter f xs)) ≡ cond b (f x ∷ filter (λ c. c) (map f xs)) (filter (λ c. c) (map f xs))
    by_test true rest = ap (λ ys. f x ∷ ys) rest
    by_test false rest = rest

-- the messages are lost
pub cut_timely : (now : ℕ) (items : List Item) (d : Direction) → AreTimely now items d → AreTimely now (filter is_notice items) (without_messages d)
cut_timely now items d T = record {
  kinds = passing (λ (a : Arrival). a.notice) d.arrivals ∙ ap (filter (λ b. b)) T.kinds ∙ sym (passing is_notice items);
  rises = rises_filter (λ (a : Arrival). a.moment) (λ (a : Arrival). a.notice) now d.arrivals T.rises;
  up_to = up_to_filter (λ (a : Arrival). a.moment) (λ (a : Arrival). a.notice) (later now d.delay) d.arrivals T.up_to;
}

-- the clock goes on, and passes no arrival
pub later_timely : (now m : ℕ) (items : List Item) (d : Direction) → now ≤ m → ((a : Arrival) → slice_get d.arrivals 0 ≡ Some a → m ≤ a.moment) → AreTimely now items d → AreTimely m items d
later_timely now m items d le first T = record {
  kinds = T.kinds;
  rises = rises_later (λ (a : Arrival). a.moment) now m d.arrivals first T.rises;
  up_to = up_to_later (λ (a : Arrival). a.moment) (later now d.delay) (later m d.delay) d.arrivals (omega (arith, le)) T.up_to;
}

-- an arrival is at the front exactly if an item is
pub item_of : (items : List Item) (arrivals : List Arrival) (a : Arrival) → map (λ (a : Arrival). a.notice) arrivals ≡ map is_notice items → slice_get arrivals 0 ≡ Some a → (item : Item) × (slice_get items 0 ≡ Some item)
item_of items [] a same at = absurd (None_not_Some at)
item_of [] (b ∷ bs) a same at = (let longer = ap length same in absurd (omega (arith, longer)))
item_of (item ∷ items) (b ∷ bs) a same at = (item, refl)

pub arrival_of : (items : List Item) (arrivals : List Arrival) (item : Item) → map (λ (a : Arrival). a.notice) arrivals ≡ map is_notice items → slice_get items 0 ≡ Some item → (a : Arrival) × (slice_get arrivals 0 ≡ Some a)
arrival_of [] arrivals item same at = absurd (None_not_Some at)
arrival_of (i ∷ is) [] item same at = (let longer = ap length same in absurd (omega (arith, longer)))
arrival_of (i ∷ is) (b ∷ bs) item same at = (b, refl)

-- ---- all links

-- what is mapped to something was there
pub mapped_from : {A B : Type 0} (f : A → B) (o : Option A) (y : B) → option_map f o ≡ Some y → (x : A) × (o ≡ Some x) × (f x ≡ y)
mapped_from f None y is = absurd (None_not_Some is)
mapped_from f (Some x) y is = (x, refl, Some_injective is)

-- an element of a list in which one was changed
pub changed_from : {A : Type 0} (f : A → A) (k j : ℕ) (xs : List A) (y : A) → slice_get (changed_at k f xs) j ≡ Some y → ((j ≡ k) × ((x : A) × (slice_get xs j ≡ Some x) × (f x ≡ y))) ⊎ ((j ≢ k) × (slice_get xs j ≡ Some y))
changed_from {A = A} f k j xs y at = by_place (cases_eq j k)
  where
    by_place : (j ≡ k) ⊎ (j ≢ k) → ((j ≡ k) × ((x : A) × (slice_get xs j ≡ Some x) × (f x ≡ y))) ⊎ ((j ≢ k) × (slice_get xs j ≡ Some y))
    by_place (inl same) = inl (same, mapped_from f (slice_get xs j) y (subst (λ i. option_map f (slice_get xs i) ≡ Some y) (sym same) (sym (slice_get-changed_at f k xs) ∙ ap (slice_get (changed_at k f xs)) (sym same) ∙ at)))
    by_place (inr other) = inr (other, sym (slice_get-changed_at_other f k j xs other) ∙ at)

module _ (now l : ℕ) (ks : List Link) (xs : List TimedLink) (T : AreTimelyLinks now ks xs) where
  -- a link and its items' moments are changed together
  pub changed_both : (g : Link → Link) (h : TimedLink → TimedLink) → ((k : Link) (x : TimedLink) → slice_get ks l ≡ Some k → IsTimelyLink now k x → IsTimelyLink now (g k) (h x)) → AreTimelyLinks now (changed_at l g ks) (changed_at l h xs)
  changed_both g h keeps = record {
    as_many = length-changed_at h l xs ∙ T.as_many ∙ sym (length-changed_at g l ks);
    each = λ j k x at there. by_places j k x (changed_from g l j ks k at) (changed_from h l j xs x there);
  }
    where
      by_places : (j : ℕ) (k : Link) (x : TimedLink) → ((j ≡ l) × ((y : Link) × (slice_get ks j ≡ Some y) × (g y ≡ k))) ⊎ ((j ≢ l) × (slice_get ks j ≡ Some k)) → ((j ≡ l) × ((y : TimedLink) × (slice_get xs j ≡ Some y) × (h y ≡ x))) ⊎ ((j ≢ l) × (slice_get xs j ≡ Some x)) → IsTimelyLink now k x
      by_places j k x (inl (here, (y, at, is))) (inl (_, (z, there, so))) = subst (λ v. IsTimelyLink now v x) is (subst (λ v. IsTimelyLink now (g y) v) so (keeps y z (ap (slice_get ks) (sym here) ∙ at) (T.each j y z at there)))
      by_places j k x (inl (here, _)) (inr (other, _)) = absurd (other here)
      by_places j k x (inr (other, _)) (inl (here, _)) = absurd (other here)
      by_places j k x (inr (_, at)) (inr (_, there)) = T.each j k x at there

  -- a link is changed, and no item of it
  pub changed_alone : (g : Link → Link) → ((k : Link) (x : TimedLink) → slice_get ks l ≡ Some k → IsTimelyLink now k x → IsTimelyLink now (g k) x) → AreTimelyLinks now (changed_at l g ks) xs
  changed_alone g keeps = record {
    as_many = T.as_many ∙ sym (length-changed_at g l ks);
    each = λ j k x at there. by_place j k x there (changed_from g l j ks k at);
  }
    where
      by_place : (j : ℕ) (k : Link) (x : TimedLink) → slice_get xs j ≡ Some x → ((j ≡ l) × ((y : Link) × (slice_get ks j ≡ Some y) × (g y ≡ k))) ⊎ ((j ≢ l) × (slice_get ks j ≡ Some k)) → IsTimelyLink now k x
      by_place j k x there (inl (here, (y, at, is))) = subst (λ v. IsTimelyLink now v x) is (keeps y x (ap (slice_get ks) (sym here) ∙ at) (T.each j y x at there))
      by_place j k x there (inr (_, at)) = T.each j k x at there
