-- A link that is read at its number, changed, and written back there.
use Rattle.std.proofs.Common.{◌≡◌, ℕ, zero, suc, ◌<◌, Bool, false, List, [], ◌∷◌, map, Option, Some, None, Result, Ok, Err, length, get_or, set, refl, sym, ap, subst, ◌∙◌, arith, IfSome, slice_get, if◌then◌else◌}
use Rattle.std.specs.Option.{ok_or}
use Rattle.std.proofs.lemmas.Option.{slice_get_read}
use Rattle.network_model.specs.{declared.item.Item.Item, declared.item.Held.Held, declared.network.End.End, Machine.changed_at, World.Link, World.other, World.side}
use Rattle.network_model.proofs.ListLaws.{changed_at-set}
use Rattle.link_fifo.specs.{declared.refusal.LinkRefusal.LinkRefusal, Refusals.front_of}
use Rattle.network_model.specs.Step.{with_message, with_item, changed_side, is_up_in}

-- the element x of xs at place i, written back as f x, changes the list ys that xs is
pub written : {A : Type 0} (f : A → A) {xs ys : List A} {i k : ℕ} {x y : A} → i ≡ k → x ≡ get_or xs i x → y ≡ f x → xs ≡ ys → set xs i y ≡ changed_at k f ys
written f {xs = xs} {ys = ys} {i = i} {k = k} {x = x} at read is seen =
    ap (set xs i) (is ∙ ap f read) ∙ sym (changed_at-set f i xs x) ∙ ap (λ j. changed_at j f xs) at ∙ ap (changed_at k f) seen

-- the same of what g shows of the elements
pub written_in : {A B : Type 0} (g : A → B) (f : B → B) (xs : List A) {ys : List B} {i k : ℕ} {x y : A} → i ≡ k → x ≡ get_or xs i x → g y ≡ f (g x) → map g xs ≡ ys → map g (set xs i y) ≡ changed_at k f ys
written_in {A = A} g f xs {i = i} {k = k} {x = x} {y = y} at read is seen = at_place xs i read ∙ ap (λ j. changed_at j f (map g xs)) at ∙ ap (changed_at k f) seen
  where
    at_place : (zs : List A) (j : ℕ) → x ≡ get_or zs j x → map g (set zs j y) ≡ changed_at j f (map g zs)
    at_place [] j read = refl
    at_place (z ∷ zs) zero read = ap (λ v. v ∷ map g zs) (is ∙ ap (λ v. f (g v)) read)
    at_place (z ∷ zs) (suc j) read = ap (λ vs. g z ∷ vs) (at_place zs j read)

-- what g shows of the elements stays where it is the same of the one that is written
pub kept_in : {A B : Type 0} (g : A → B) (xs : List A) {ys : List B} (i : ℕ) {x y : A} → x ≡ get_or xs i x → g y ≡ g x → map g xs ≡ ys → map g (set xs i y) ≡ ys
kept_in {A = A} g xs i {x = x} {y = y} read is seen = at_place xs i read ∙ seen
  where
    at_place : (zs : List A) (j : ℕ) → x ≡ get_or zs j x → map g (set zs j y) ≡ map g zs
    at_place [] j read = refl
    at_place (z ∷ zs) zero read = ap (λ v. v ∷ map g zs) (is ∙ ap g read)
    at_place (z ∷ zs) (suc j) read = ap (λ vs. g z ∷ vs) (at_place zs j read)

-- the element that stands at a place
pub slice_get-read : {A : Type 0} {xs ys : List A} {i k : ℕ} {x : A} → i ≡ k → x ≡ get_or xs i x → xs ≡ ys → k < length ys → slice_get ys k ≡ Some x
slice_get-read {xs = xs} {ys = ys} {i = i} {k = k} {x = x} at read seen below =
    slice_get_read ys (length ys) k x refl below (read ∙ ap (λ j. get_or xs j x) at ∙ ap (λ zs. get_or zs k x) seen)

-- the same of what g shows of the elements
pub slice_get-read_in : {A B : Type 0} (g : A → B) (xs : List A) {ys : List B} {i k : ℕ} {x : A} → i ≡ k → x ≡ get_or xs i x → map g xs ≡ ys → k < length ys → slice_get ys k ≡ Some (g x)
slice_get-read_in {A = A} g xs {ys = ys} {i = i} {k = k} {x = x} at read seen below =
    ap (λ zs. slice_get zs k) (sym seen) ∙ at_place xs k (read ∙ ap (λ j. get_or xs j x) at) (subst (λ zs. k < length zs) (sym seen) below)
  where
    at_place : (zs : List A) (j : ℕ) → x ≡ get_or zs j x → j < length (map g zs) → slice_get (map g zs) j ≡ Some (g x)
    at_place [] j read less = absurd (omega arith)
    at_place (z ∷ zs) zero read less = ap (λ v. Some (g v)) (sym read)
    at_place (z ∷ zs) (suc j) read less = at_place zs j read (omega arith)

-- what is known of an element that is there
pub IfSome-holds : {A : Type 0} (P : A → Type 0) {o : Option A} {x : A} → o ≡ Some x → IfSome o P → P x
IfSome-holds P is holds = subst (λ o. IfSome o P) is holds

-- a message of a session in which its link is not up changes nothing
pub changed_at-stale : (h : Held) (from : End) (links : List Link) (l : ℕ) → IfSome (slice_get links l) (λ k. false ≡ is_up_in h.session k) → changed_at l (with_message h from) links ≡ links
changed_at-stale h from [] l over = refl
changed_at-stale h from (k ∷ ks) zero over =
    ap (λ (b : Bool). (if b then changed_side (other from) (with_item (Item.Message h.message)) k else k) ∷ ks) (sym over)
changed_at-stale h from (k ∷ ks) (suc l) over = ap (λ (js : List Link). k ∷ js) (changed_at-stale h from ks l over)

-- the item that a link answers is the front one of its inbox
pub front_of-Some : (to : End) (k : Link) (item : Item) → front_of to (Some k) ≡ Ok item → slice_get (side to k).inbox 0 ≡ Some item
front_of-Some to k item answer = by_front (slice_get (side to k).inbox 0) answer
  where
    got : Result Item LinkRefusal → Option Item
    got (Ok x) = Some x
    got (Err e) = None

    by_front : (o : Option Item) → ok_or o LinkRefusal.NothingToDeliver ≡ Ok item → o ≡ Some item
    by_front None none = ap got none
    by_front (Some x) some = ap got some
