-- What holds of a network with nothing left to do: no router is left waiting for another.
use Rattle.std.specs.Prelude.{◌≡◌, ℕ, true, false, []}
use Rattle.network_model.specs.View.{LinkEnd, State}
use Rattle.machine_laws.specs.Laws.{is_active}
use Rattle.loop_freedom.specs.Network.{Topology, HoldsInEveryState}

-- nothing is on a link or held
pub record NothingOnTheWay (t : Topology) (s : State) : Type 0 where
  pub inbox_empty : (e : LinkEnd) → t.valid e ≡ true → s.inbox e ≡ []
  pub ripe_empty : (e : LinkEnd) → t.valid e ≡ true → s.ripe e ≡ []
  pub unripe_empty : (e : LinkEnd) → t.valid e ≡ true → s.unripe e ≡ []

-- where nothing is on a link or held, every machine is passive
abbrev pub IsPassiveThen : Topology → State → Type 0
IsPassiveThen t s = NothingOnTheWay t s → (i : ℕ) → is_active (s.machine i) ≡ false

-- after every run from an opening: no machine is left in a computation
abbrev pub PassiveOnceSettled : Type 0
PassiveOnceSettled = HoldsInEveryState IsPassiveThen
