use Rattle.std.proofs.Common.{◌≡◌, ◌∙◌, Bool, List, Option, ℕ, false, true, is_some, string_bytes, subst, sym}
use Rattle.view.specs.Shown.{IsShown}
use Rattle.view.proofs.view.show_given.Goals as goal

-- without a journal, what was shown of the text as it was lent is shown of the words and of the text as it was read
shown_by : (journal times found json : Bool) (other old new : Option (List ℕ)) (lent text : List ℕ) → false ≡ journal → found ≡ times → lent ≡ text
    → IsShown false found json other old new lent → IsShown journal times json other old new text
shown_by journal times found json other old new lent text j t l shown =
    subst (λ b. IsShown b times json other old new text) j (subst (λ b. IsShown false b json other old new text) t (subst (IsShown false found json other old new) l shown))

pub returns-then-is_some-2 : goal.returns-then-is_some-2
returns-then-is_some-2 g c = λ done. (
  string_bytes c.in_ok-text.text,
  c.in_ok-text.ensures.whole,
  shown_by _ _ true _ _ _ _ _ _ (sym c.if-is_some.false ∙ c.is_some.ensures) (sym c.if-is_some-2.true ∙ c.is_some-2.ensures) c.as_str-text.ensures.value c.in_ok-show_times.ensures,
)

pub returns : goal.returns
returns g c = λ done. (
  string_bytes c.in_ok-text.text,
  c.in_ok-text.ensures.whole,
  shown_by _ _ false _ _ _ _ _ _ (sym c.if-is_some.false ∙ c.is_some.ensures) (sym c.if-is_some-2.false ∙ c.is_some-2.ensures) c.as_str-text.ensures.value c.in_ok-show_script.ensures,
)
