-- What a case should give.
use Rattle.std.specs.Prelude.{◌≡◌, ◌⊎◌, ℕ, List, Option, Some, IfSome, true, nat_eq, string_bytes}
use Rattle.std.specs.{Borrow.Bor, List.starts_with}
use Rattle.harness.specs.{declared.case.Text.Text, declared.case.Text.TheVariants.Is, declared.case.Text.TheVariants.Begins, declared.case.Wanted.Wanted}
use Rattle.harness.specs.declared.case.Given.{Given}

-- these bytes are the text, or begin with it
abbrev pub IsTextOf : Text → List ℕ → Type 0
IsTextOf (Is text) bytes = bytes ≡ text.now
IsTextOf (Begins text) bytes = starts_with nat_eq bytes text.now ≡ true

-- these bytes are the output, or the other that is right
abbrev pub IsOutOf : Wanted → List ℕ → Type 0
IsOutOf wanted bytes = IsTextOf wanted.out bytes ⊎ ((other : Text) × (wanted.other ≡ Some other) × IsTextOf other bytes)

-- these bytes are the text, where one is asked for
abbrev pub IsNoOther : Option (Bor (List ℕ)) → List ℕ → Type 0
IsNoOther wanted bytes = IfSome wanted (λ text. bytes ≡ text.now)

-- all that was given is as it should be
pub record IsAsWanted (wanted : Wanted) (given : Given) : Type 0 where
  pub status : given.outcome.status ≡ wanted.status
  pub out : IsOutOf wanted given.outcome.out.items
  pub err : IsTextOf wanted.err given.outcome.err.items
  pub kept : IsNoOther wanted.kept given.outcome.kept.items
  pub words : IsNoOther wanted.words (string_bytes given.words)
  pub replay : given.replay ≡ 0
  pub counted : given.counted ≡ true
