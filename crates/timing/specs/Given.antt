-- Values that are given for some of many.
use Rattle.std.specs.Prelude.{List, [], ◌∷◌}
use Rattle.network_model.specs.Machine.{changed_at}
use Rattle.timing.specs.declared.given.Given.{Given}

-- the values that are given, one after another, in place of those that stand there
abbrev pub with_given : {T : Type 0} → List (Given T) → List T → List T
with_given [] vs = vs
with_given (x ∷ xs) vs = with_given xs (changed_at x.number (λ _. x.value) vs)
