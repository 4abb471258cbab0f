-- From the matches of one command to what they ask for.
use Rattle.std.proofs.Common.{◌≡◌, ◌≤◌, ℕ, Bool, true, false, List, [], Option, Some, None, Result, Ok, Err, IfNone, IfSome, option_map, Bor, refl, sym, ap, subst, ◌∙◌, codes, arith, unwrap_or, length, if◌then◌else◌}
use Rattle.std.specs.{Option.option_map_or, Str.Parse.ParsesBool, Str.Parse.ParsesUnsigned}
use Rattle.std.proofs.lemmas.Option.{none-some}
use Rattle.clap.specs.Words.{Row, Text, first_of, first_value, one_text, rows_of}
use Rattle.clap.specs.{Matches.ReadsOne, declared.parser.matches.Found.Found}
use Rattle.clap.proofs.WalkLemmas.{first_value-rows, one_text-rows}
use Rattle.command_line.specs.{Formats.format_text, declared.format.Format.Format}
use Rattle.command_line.specs.Asked.{GoTogether, HasFlag, HasFormat, HasNumber, IsNumberText, IsFlag}

-- a look-up gives the first text of its rows
pub text_given : (r : Option (Bor Text)) (f : Found) (id : Text) → option_map (λ s. s.now) r ≡ first_value f id → first_of id (rows_of f) ≡ option_map (λ s. s.now) r
text_given r f id e = sym (first_value-rows f id) ∙ sym e

pub some_given : (r : Option (Bor Text)) (f : Found) (id : Text) (s : Bor Text) → option_map (λ s. s.now) r ≡ first_value f id → r ≡ Some s → first_of id (rows_of f) ≡ Some s.now
some_given r f id s e is = text_given r f id e ∙ ap (option_map (λ t. t.now)) is

pub none_given : (r : Option (Bor Text)) (f : Found) (id : Text) → option_map (λ s. s.now) r ≡ first_value f id → r ≡ None → first_of id (rows_of f) ≡ None
none_given r f id e is = text_given r f id e ∙ ap (option_map (λ t. t.now)) is

pub if_none : {A : Type 0} (o : Option A) (P : Type 0) → P → IfNone o P
if_none None P p = p
if_none (Some x) P p = tt

-- ---- numbers

module _ {E : Type 0} (gives : Text → Result ℕ E → Type 0) (parses : (t : Text) (x : Result ℕ E) → gives t x → ParsesUnsigned 8 10 t x) (f : Found) (id : Text) (most : ℕ) (small : most ≤ 255) where
  -- the text that was read, and that the number is its value
  pub number_read : (r : Option ℕ) (n : ℕ) → (one_text f id ≡ None → r ≡ None) → ((t : Text) → one_text f id ≡ Some t → ReadsOne gives t r)
      → r ≡ Some n → 1 ≤ n → n ≤ most → HasNumber (rows_of f) id most n
  number_read r n none value is low high = go (one_text f id) refl
    where
      go : (o : Option Text) → one_text f id ≡ o → HasNumber (rows_of f) id most n
      go None e =
          let bad : Some n ≡ None = sym is ∙ none e in
          cc
      go (Some t) e =
          let got : gives t (Ok n) = subst (λ (o : Option ℕ). ReadsOne gives t o) is (value t e) in
          let parsed = parses t (Ok n) got in
          (t, sym (one_text-rows f id) ∙ e, (parsed.0.0, parsed.1), low, high)

  -- where none was read, there is none
  pub no_number : (r : Option ℕ) → ((t : Text) → one_text f id ≡ Some t → ReadsOne gives t r) → r ≡ None → (n : ℕ) → HasNumber (rows_of f) id most n → ⊥
  no_number r value is n h =
      let failed : ReadsOne gives h.0 None = subst (λ (o : Option ℕ). ReadsOne gives h.0 o) is (value h.0 (one_text-rows f id ∙ h.1)) in
      parses h.0 (Err failed.0) failed.1 (h.2.0, omega (arith, h.2.1, h.4, small))

  -- there is no other than the one that was read
  pub same_number : (r : Option ℕ) (m : ℕ) → ((t : Text) → one_text f id ≡ Some t → ReadsOne gives t r) → r ≡ Some m → (n : ℕ) → HasNumber (rows_of f) id most n → m ≡ n
  same_number r m value is n h =
      let got : gives h.0 (Ok m) = subst (λ (o : Option ℕ). ReadsOne gives h.0 o) is (value h.0 (one_text-rows f id ∙ h.1)) in
      (parses h.0 (Ok m) got).1 ∙ sym h.2.1

-- ---- flags

pub flag_read : (f : Found) (id : Text) (is : Bool) → (one_text f id ≡ Some (codes "true") → is ≡ true) → (one_text f id ≡ Some (codes "false") → is ≡ false) → IsFlag (rows_of f) id is
flag_read f id is set unset = (λ e. set (one_text-rows f id ∙ e), λ e. unset (one_text-rows f id ∙ e))

flag_text : (E : Type 0) (t : Text) (is : Bool) → ParsesBool {E = E} t (Ok is) → t ≡ (if is then codes "true" else codes "false")
flag_text E t true h = h
flag_text E t false h = h

pub has_flag : (E : Type 0) (f : Found) (id : Text) (r : Option Bool) → (one_text f id ≡ None → r ≡ None)
    → ((t : Text) → one_text f id ≡ Some t → ReadsOne (ParsesBool {E = E}) t r) → IfSome r (HasFlag (rows_of f) id)
has_flag E f id None none value = tt
has_flag E f id (Some is) none value = go (one_text f id) refl
  where
    go : (o : Option Text) → one_text f id ≡ o → HasFlag (rows_of f) id is
    go None e =
        let bad : Some is ≡ None = none e in
        cc
    go (Some t) e = sym (one_text-rows f id) ∙ e ∙ ap Some (flag_text E t is (value t e))

-- where none was read, there is none
pub no_flag : (E : Type 0) (f : Found) (id : Text) (r : Option Bool)
    → ((t : Text) → one_text f id ≡ Some t → ReadsOne (ParsesBool {E = E}) t r) → IfNone r ((is : Bool) → HasFlag (rows_of f) id is → ⊥)
no_flag E f id (Some is) value = tt
no_flag E f id None value = go
  where
    go : (is : Bool) → HasFlag (rows_of f) id is → ⊥
    go true h = (value (codes "true") (one_text-rows f id ∙ h)).1.0 refl
    go false h = (value (codes "false") (one_text-rows f id ∙ h)).1.1 refl

one_flag : (rows : List Row) (id : Text) (a b : Bool) → HasFlag rows id a → HasFlag rows id b → a ≡ b
one_flag rows id true false h k = absurd (omega (arith, ap (λ o. option_map_or length o 0) (sym h ∙ k)))
one_flag rows id false true h k = absurd (omega (arith, ap (λ o. option_map_or length o 0) (sym h ∙ k)))
one_flag rows id _ _ h k = refl

pub one_number : (rows : List Row) (id : Text) (most m n : ℕ) → HasNumber rows id most m → HasNumber rows id most n → m ≡ n
one_number rows id most m n h k =
    let same : h.0 ≡ k.0 = ap (λ o. unwrap_or o []) (sym h.1 ∙ k.1) in
    (subst (λ t. IsNumberText t m) same h.2).1 ∙ sym k.2.1

-- where there is no path, there is none
none_twice : (a b : Option (Bor Text)) → option_map (λ path. path.now) a ≡ option_map (λ path. path.now) b → b ≡ None → a ≡ None
none_twice None b e is = refl
none_twice (Some p) b e is =
    let bad : Some p.now ≡ None = e ∙ ap (option_map (λ path. path.now)) is in
    cc

-- ---- formats

-- where the name at hand is that of no format, there is none
pub no_format : (rows : List Row) (name : Text) → first_of (codes "format") rows ≡ Some name → ((o : Format) → name ≡ format_text o → ⊥) → (o : Format) → HasFormat rows o → ⊥
no_format rows name is none o h = none o (ap (λ t. unwrap_or t []) (sym is ∙ h))

-- where it is that of a format, this is the one
pub format_read : (rows : List Row) (name : Text) (r : Option Format) → first_of (codes "format") rows ≡ Some name → IfSome r (λ o. name ≡ format_text o) → IfSome r (HasFormat rows)
format_read rows name None is h = tt
format_read rows name (Some o) is h = is ∙ ap Some h

pub no_name : (rows : List Row) → first_of (codes "format") rows ≡ None → (o : Format) → HasFormat rows o → ⊥
no_name rows is o h =
    let there : first_of (codes "format") rows ≡ Some (format_text o) = h in
    cc

-- ---- matches that ask for nothing

-- a look-up that finds none finds nothing
pub not_found : {t : Text} (rows : List Row) (id : Text) → first_of id rows ≡ None → first_of id rows ≡ Some t → ⊥
not_found rows id none some = none-some _ (sym none ∙ some)

pub not_together : (rows : List Row) (threads workers t k : ℕ) (journal j : Option (Bor Text)) (no_journal n : Bool)
    → first_of (codes "journal") rows ≡ option_map (λ path. path.now) journal → HasFlag rows (codes "no-journal") no_journal
    → first_of (codes "journal") rows ≡ option_map (λ path. path.now) j → HasFlag rows (codes "no-journal") n → t ≡ threads → k ≡ workers
    → ¬ (GoTogether no_journal journal threads workers) → GoTogether n j t k → ⊥
not_together rows threads workers t k journal j no_journal n at_journal at_flag path flag one two apart together = apart (λ is.
    let all = together (one_flag rows (codes "no-journal") n no_journal flag at_flag ∙ is) in
    (none_twice journal j (sym at_journal ∙ path) all.0, sym one ∙ all.1, sym two ∙ all.2))
