-- How a line falls into words.
use Rattle.std.proofs.Common.{◌≡◌, ◌≢◌, ◌<◌, ◌==◌, Bool, false, [], ◌∷◌, length, Option, Bor, IfSome, IfNone, MatchOption, Some, None, sym, ap, ◌∙◌, arith, true≢false}
use Rattle.std.specs.List.{position_or_len, before_first, after_first}
use Rattle.std.proofs.{lemmas.List.Sums.fails_before_first, lemmas.List.Splits.slice_split_first, lemmas.List.Splits.slice_split_none, lemmas.List.Splits.length-slice_split}
use Rattle.texts.specs.Words.{Text, is_space, words_of}

-- a cut at the first space
abbrev pub IsCut : Text → Option (Bor Text × Bor Text) → Type 0
IsCut line r = MatchOption r (position_or_len is_space line ≡ length line)
    (λ x. (x.0.now ≡ before_first is_space line) × (x.1.now ≡ after_first is_space line) × (position_or_len is_space line < length line))

pub words-first : (line : Text) (r : Option (Bor Text × Bor Text)) → IsCut line r → IfSome r (λ w. words_of line ≡ w.0.now ∷ words_of w.1.now)
words-first line None cut = tt
words-first line (Some w) cut =
    slice_split_first is_space line 0 cut.2 ∙ ap (λ t. t ∷ words_of (after_first is_space line)) (sym cut.0) ∙ ap (λ t. w.0.now ∷ words_of t) (sym cut.1)

pub words-one : (line : Text) (r : Option (Bor Text × Bor Text)) → IsCut line r → IfNone r (words_of line ≡ line ∷ [])
words-one line None cut = slice_split_none is_space line (λ k d within. fails_before_first is_space line k d (omega (arith, cut)))
words-one line (Some w) cut = tt

pub words-some : (line : Text) → words_of line ≢ []
words-some line none = absurd (omega (arith, length-slice_split is_space line, ap length none))

-- a line of more words than two
pub words-more : (line first rest second others : Text) → words_of line ≡ first ∷ words_of rest → words_of rest ≡ second ∷ words_of others
    → (a b : Text) → words_of line ≢ a ∷ b ∷ []
words-more line first rest second others is more a b two =
    let three : a ∷ b ∷ [] ≡ first ∷ second ∷ words_of others = sym two ∙ is ∙ ap (λ ws. first ∷ ws) more in
    words-some others (let none : words_of others ≡ [] = cc in none)

-- a word that was found not to be empty
pub word-full : (word : Text) (b : Bool) → b ≡ (length word == 0) → b ≡ false → word ≢ []
word-full word b is wrong none = true≢false (sym (ap (λ t. length t == 0) none) ∙ sym is ∙ wrong)
