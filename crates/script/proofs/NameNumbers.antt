-- The numbers of names: what a name that is added changes.
use Rattle.std.proofs.Common.{◌≡◌, ◌≢◌, ℕ, zero, suc, ◌+◌, ◌<◌, min, Bool, true, false, cond, List, [], ◌∷◌, ◌++◌, length, get_or, Option, Some, None, OnSome, is_some, option_map, position, Contains, String, BTreeMap, string_bytes, bytes_eq, refl, sym, ap, subst, ◌∙◌, arith, true≢false}
use Rattle.script.proofs.Common.{position_from, option_or, get_by_text, UpdatesBy, false≢true, same_from_decides, get_or_default, bytes_eq-Decides, position_from-zero, All-push, position-Some, all_pairs_push, btree_map_updates_text, Text, IsName, AreNames, no_router, router_number, FindsNames}
use Rattle.std.specs.String.{string_cmp}

-- ---- positions

position_from-push : {X : Type 0} (p : X → Bool) (i : ℕ) (xs : List X) (y : X)
    → position_from p i (xs ++ y ∷ []) ≡ option_or (position_from p i xs) (cond (p y) (Some (i + length xs)) None)
position_from-push p i [] y = ap (λ n. cond (p y) (Some n) None) (omega arith)
position_from-push p i (x ∷ xs) y =
    elim (p x) as (λ b. cond b (Some i) (position_from p (i + 1) (xs ++ y ∷ [])) ≡ option_or (cond b (Some i) (position_from p (i + 1) xs)) (cond (p y) (Some (i + suc (length xs))) None)) [
      | true ↦ refl
      | false ↦ position_from-push p (i + 1) xs y ∙ ap (λ n. option_or (position_from p (i + 1) xs) (cond (p y) (Some n) None)) (omega arith)
    ]

position-push : {X : Type 0} (p : X → Bool) (xs : List X) (y : X) → position p (xs ++ y ∷ []) ≡ option_or (position p xs) (cond (p y) (Some (length xs)) None)
position-push p xs y =
    position_from-zero p (xs ++ y ∷ []) ∙ position_from-push p 0 xs y
    ∙ ap (λ n. option_or (position_from p 0 xs) (cond (p y) (Some n) None)) (omega arith)
    ∙ ap (λ o. option_or o (cond (p y) (Some (length xs)) None)) (sym (position_from-zero p xs))

-- ---- which names have numbers

place-named : (names : List Text) (word : Text) (o : Option ℕ) → position (bytes_eq word) names ≡ o → is_some o ≡ true → Contains names word
place-named names word None is some = absurd (false≢true some)
place-named names word (Some k) is some =
    let at = position-Some (bytes_eq word) names k word is in
    (k, at.0, sym ((bytes_eq-Decides word (get_or names k word)).0 at.1))

is_some-map : (f : ℕ → ℕ) (o : Option ℕ) → is_some (option_map f o) ≡ is_some o
is_some-map f None = refl
is_some-map f (Some k) = refl

none-unless_some : {X : Type 0} (o : Option X) → is_some o ≡ false → o ≡ None
none-unless_some None e = refl
none-unless_some (Some x) e = absurd (true≢false e)

-- a word with a number is a name
pub given_before : (names : List Text) (word : Text) (r : Option ℕ) → r ≡ router_number names word → is_some r ≡ true → Contains names word
given_before names word r is some =
    place-named names word (position (bytes_eq word) names) refl (sym (is_some-map (min no_router) (position (bytes_eq word) names)) ∙ ap is_some (sym is) ∙ some)

pub not_given : (names : List Text) (word : Text) (r : Option ℕ) → r ≡ router_number names word → is_some r ≡ false → router_number names word ≡ None
not_given names word r is none = sym is ∙ none-unless_some r none

pub IsName-number_of : (names : List Text) (word : Text) (r : Option ℕ) → AreNames names → r ≡ router_number names word → OnSome r (IsName word)
IsName-number_of names word None are is = tt
IsName-number_of names word (Some n) are is =
    let at = given_before names word (Some n) is refl in
    subst IsName at.2 (are.each at.0 word at.1)

cond_none : {X : Type 0} (b : Bool) (x : X) (o : Option X) → cond b (Some x) o ≡ None → (b ≡ false) × (o ≡ None)
cond_none true x o e = cc
cond_none false x o e = (refl, e)

none_before : {X : Type 0} (p : X → Bool) (i : ℕ) (xs : List X) → position_from p i xs ≡ None → (k : ℕ) (d : X) → k < length xs → p (get_or xs k d) ≡ false
none_before p i [] none k d within = absurd (omega arith)
none_before p i (x ∷ xs) none zero d within = (cond_none (p x) i (position_from p (i + 1) xs) none).0
none_before p i (x ∷ xs) none (suc k) d within = none_before p (i + 1) xs (cond_none (p x) i (position_from p (i + 1) xs) none).1 k d (omega arith)

none-mapped : (f : ℕ → ℕ) (o : Option ℕ) → option_map f o ≡ None → o ≡ None
none-mapped f None e = refl
none-mapped f (Some k) e = cc

pub not_among : (names : List Text) (word : Text) → router_number names word ≡ None → ¬ (Contains names word)
not_among names word none (k, within, is) =
    let nowhere = sym (position_from-zero (bytes_eq word) names) ∙ none-mapped (min no_router) (position (bytes_eq word) names) none in
    true≢false (sym ((bytes_eq-Decides word (get_or names k word)).1 (sym is)) ∙ none_before (bytes_eq word) 0 names nowhere k word within)

-- ---- one more name

pub AreNames-none : AreNames []
AreNames-none = record { each = λ k d within. absurd (omega (arith, within)); distinct = λ i j d below within. absurd (omega (arith, within)) }

pub AreNames-push : (names : List Text) (name : Text) → AreNames names → IsName name → ¬ (Contains names name) → AreNames (names ++ name ∷ [])
AreNames-push names name are is new = record {
  each = All-push IsName names name are.each is;
  distinct = all_pairs_push (λ a b. a ≢ b) names name are.distinct (λ k d within same. new (k, within, get_or_default names k name d within ∙ same));
}

-- two words are one, whichever is asked first
bytes_eq_comm : (v w : Text) → bytes_eq v w ≡ bytes_eq w v
bytes_eq_comm v w =
    let flipped = bytes_eq-Decides w v in
    same_from_decides (bytes_eq v w) (bytes_eq w v) (bytes_eq-Decides v w) (λ same. sym (flipped.0 same), λ is. flipped.1 (sym is))

pushed_new : (f : ℕ → ℕ) (b : Bool) (n : ℕ) → option_map f (cond b (Some n) None) ≡ cond b (Some (f n)) None
pushed_new f true n = refl
pushed_new f false n = refl

unless_same : (names : List Text) (name word : Text) (b : Bool) → bytes_eq name word ≡ b → router_number names name ≡ None → Contains names word → b ≡ false
unless_same names name word true same new has = absurd (not_among names word (ap (router_number names) (sym ((bytes_eq-Decides name word).0 same)) ∙ new) has)
unless_same names name word false same new has = refl

module _ (names : List Text) (name word : Text) (new : router_number names name ≡ None) where
  pushed_cases : (o : Option ℕ) → position (bytes_eq word) names ≡ o
      → option_map (min no_router) (option_or o (cond (bytes_eq word name) (Some (length names)) None))
      ≡ cond (bytes_eq name word) (Some (min no_router (length names))) (option_map (min no_router) o)
  pushed_cases None is =
      ap (λ b. option_map (min no_router) (cond b (Some (length names)) None)) (bytes_eq_comm word name) ∙ pushed_new (min no_router) (bytes_eq name word) (length names)
  pushed_cases (Some k) is =
      let apart = unless_same names name word (bytes_eq name word) refl new (place-named names word (Some k) is refl) in
      ap (λ b. cond b (Some (min no_router (length names))) (Some (min no_router k))) (sym apart)

  number_of-push : router_number (names ++ name ∷ []) word ≡ cond (bytes_eq name word) (Some (min no_router (length names))) (router_number names word)
  number_of-push = ap (option_map (min no_router)) (position-push (bytes_eq word) names name) ∙ pushed_cases (position (bytes_eq word) names) refl

-- a look-up after a name was added
pub FindsNames-push : {Y : Type 0} (names : List Text) (name : Text) (key : String Y) (old new : BTreeMap (String Y) ℕ) (count : ℕ)
    → FindsNames names (get_by_text old) → IsName name → router_number names name ≡ None → string_bytes key ≡ name → count ≡ min no_router (length names)
    → UpdatesBy string_cmp (string_cmp key) old new (Some count)
    → FindsNames (names ++ name ∷ []) (get_by_text new)
FindsNames-push names name key old new count finds is absent spelled count_is updates = record {
  valid = AreNames-push names name finds.valid is (not_among names name absent);
  finds = λ word. btree_map_updates_text (string_bytes key) old new (Some count) updates word
      ∙ ap (λ bs. cond (bytes_eq bs word) (Some count) (get_by_text old word)) spelled
      ∙ ap (λ n. cond (bytes_eq name word) (Some n) (get_by_text old word)) count_is
      ∙ ap (λ o. cond (bytes_eq name word) (Some (min no_router (length names))) o) (finds.finds word)
      ∙ sym (number_of-push names name word absent);
}
