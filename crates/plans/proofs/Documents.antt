-- What a document's table says of the four lists, and the texts of an array as far as they are read.
use Rattle.std.proofs.Common.{◌≡◌, List, [], ◌∷◌, ◌++◌, length, Option, Some, None, option_map, option_and_then, refl, sym, ap, ◌∙◌, codes, ne_eqb, arith}
use Rattle.toml.specs.{Data.Data, Data.array, Data.as_array, Data.Items, Data.Members, Data.get_member, View.members_view}
use Rattle.toml.proofs.Views.{Entry}
use Rattle.texts.specs.Words.{Text}
use Rattle.plans.specs.Document.{texts_of, array_texts, texts_at, key_count, lists_in}

-- the texts so far, before the texts of the rest
abbrev pub after : List Text → Option (List Text) → Option (List Text)
after done rest = option_map (λ ts. done ++ ts) rest

pub key_count-entries : (es : List Entry) → key_count (members_view es) ≡ length es
key_count-entries [] = refl
key_count-entries (e ∷ es) = rw (key_count-entries es) (omega arith)

of_array : (d : Data) (ds : Items) → Some ds ≡ as_array d → array_texts d ≡ texts_of ds
of_array (array es) ds e = ap texts_of (ap (λ o. elim o [ Some v ↦ v | None ↦ ds ]) (sym e))
of_array _ ds e = cc

of_other : (d : Data) → None ≡ as_array d → array_texts d ≡ None
of_other (array es) e = cc
of_other _ e = refl

pub at_array : (k : Text) (t : Members) (d : Data) (ds : Items) → Some d ≡ get_member k t → Some ds ≡ as_array d → texts_at k t ≡ texts_of ds
at_array k t d ds here e = ap (option_and_then array_texts) (sym here) ∙ of_array d ds e

pub at_other : (k : Text) (t : Members) (d : Data) → Some d ≡ get_member k t → None ≡ as_array d → texts_at k t ≡ None
at_other k t d here e = ap (option_and_then array_texts) (sym here) ∙ of_other d e

pub at_nothing : (k : Text) (t : Members) → None ≡ get_member k t → texts_at k t ≡ None
at_nothing k t here = ap (option_and_then array_texts) (sym here)

pub read_all : (doc : Option Members) (t : Members) (r l p s : List Text) → doc ≡ Some t → key_count t ≡ 4
    → texts_at (codes "routers") t ≡ Some r → texts_at (codes "links") t ≡ Some l
    → texts_at (codes "prefixes") t ≡ Some p → texts_at (codes "script") t ≡ Some s
    → option_and_then lists_in doc ≡ Some (record { routers = r; links = l; prefixes = p; script = s })
read_all doc t r l p s is n er el ep es = rw (is, n, er, el, ep, es) refl

pub other_count : (t : Members) → (key_count t ≡ 4 → ⊥) → lists_in t ≡ None
other_count t n = rw (ne_eqb (key_count t) 4 n) refl
