-- Commands that are tried one after another.
use Rattle.std.proofs.Common.{List, [], ◌∷◌, ◌++◌, refl, subst}
use Rattle.script.specs.declared.command.Command.{Command}
use Rattle.interpreter.specs.Commands.{AreTried, IsTried}
use Rattle.interpreter.specs.Nets.{Meaning}
use Rattle.play.specs.Works.{WereTried}

module _ {S : Type 0} (k : Meaning S) where
  -- some commands after others
  tried_all : (cs ds : List Command) (f g h : S) → AreTried k cs f g → AreTried k ds g h → AreTried k (cs ++ ds) f h
  tried_all [] ds f g h same tried = subst (λ m. AreTried k ds m h) same tried
  tried_all (c ∷ cs) ds f g h before tried = (before.0, before.1, tried_all cs ds before.0 g h before.2 tried)

  pub tried_more : (f g h : S) → WereTried k f g → WereTried k g h → WereTried k f h
  tried_more f g h before tried = (before.0 ++ tried.0, tried_all before.0 tried.0 f g h before.1 tried.1)

  pub tried_one : (c : Command) (f g : S) → IsTried k c f g → WereTried k f g
  tried_one c f g is = (c ∷ [], (g, is, refl))
