-- Names are single words.
use Rattle.std.proofs.Common.{◌≡◌, ℕ, [], ◌∷◌, ◌⊎◌, inl, inr, false, get_or, arith, ne_eqb}
use Rattle.script.proofs.Common.{slice_split_none, Text, is_space, words_of, IsSmallLetter, IsDigit, IsName}

no_space : (b : ℕ) → IsSmallLetter b ⊎ IsDigit b → is_space b ≡ false
no_space b (inl letter) = ne_eqb b 32 (omega arith)
no_space b (inr digit) = ne_eqb b 32 (omega arith)

pub words-name : (name : Text) → IsName name → words_of name ≡ name ∷ []
words-name name is = slice_split_none is_space name (λ k d within. no_space (get_or name k d) (is.plain k d within))
