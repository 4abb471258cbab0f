-- Commands done one after another.
use Rattle.std.proofs.Common.{List, [], ◌∷◌, ◌++◌, refl, subst}
use Rattle.script.specs.declared.command.Command.{Command}
use Rattle.interpreter.specs.{Commands.IsDone, Commands.AreDone, Nets.Meaning}

module _ {S : Type 0} (k : Meaning S) where
  pub one_done : (cs : List Command) (c : Command) (f g h : S) → AreDone k cs f g → IsDone k c g h → AreDone k (cs ++ c ∷ []) f h
  one_done [] c f g h same is = (h, subst (λ m. IsDone k c m h) same is, refl)
  one_done (d ∷ cs) c f g h done is = (done.0, done.1, one_done cs c done.0 g h done.2 is)
