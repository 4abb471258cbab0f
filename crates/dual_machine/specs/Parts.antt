-- The parts of a machine, and what is true of them in every machine.
use Rattle.std.specs.Prelude.{◌≡◌, ℕ, ◌≤◌, Bool, true, false, nat_lt, List, length, Option, Some, None, All, IfSome}
use Rattle.std.specs.{List.list_any, Option.option_map_or}
use Rattle.metric.specs.Distance.{IsCost}
use Rattle.network_model.specs.{declared.machine.Neighbour.Neighbour, Machine.Computation, Network.most_ports}
use Rattle.diffusing_replies.specs.declared.origin.Origin.{Origin}
use Rattle.diffusing_replies.specs.declared.origin.Origin.TheVariants.{OwnDisturbed, Own, OwingDisturbed, Owing}
use Rattle.dual_machine.specs.{Awaited.awaited_of, Awaited.AwaitsBelow, declared.mode.Active.Active}

-- whether there is a successor and it is one of so many ports
abbrev pub is_port_below : ℕ → Option ℕ → Bool
is_port_below count successor = option_map_or (λ q. nat_lt q count) successor false

-- a debt is there exactly where the origin state says so, and then it is to the successor, which is a port
abbrev pub IsDebtOf : ℕ → Origin → Option ℕ → Option ℕ → Type 0
IsDebtOf count OwnDisturbed successor debt = debt ≡ None
IsDebtOf count Own successor debt = debt ≡ None
IsDebtOf count OwingDisturbed successor debt = (debt ≡ successor) × (is_port_below count successor ≡ true)
IsDebtOf count Owing successor debt = (debt ≡ successor) × (is_port_below count successor ≡ true)

-- a computation under way awaits some of its ports, and owes what its origin state says
pub record IsUnderWay (count : ℕ) (successor : Option ℕ) (a : Active) : Type 0 where
  pub asking : list_any (λ b. b) (awaited_of count a.replies) ≡ true
  pub known : AwaitsBelow count a.replies
  pub debt : IsDebtOf count a.origin successor a.debt

-- the parts of a machine fit together
pub record IsMachine (attachment : Option ℕ) (ports : List Neighbour) (successor : Option ℕ) (active : Option Active) : Type 0 where
  pub few : length ports ≤ most_ports
  pub costs : All (λ n. IsCost n.cost) ports
  pub attached : IfSome attachment (λ cost. IsCost cost)
  pub under_way : IfSome active (IsUnderWay (length ports) successor)

-- the computation over so many ports, if one is under way
abbrev pub computation_of : ℕ → Option Active → Option Computation
computation_of count None = None
computation_of count (Some a) = Some (record { awaited = awaited_of count a.replies; debt = a.debt })

-- its origin state
abbrev pub origin_of : Option Active → Option Origin
origin_of None = None
origin_of (Some a) = Some a.origin
