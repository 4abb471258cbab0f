use Rattle.std.proofs.Common.{◌≡◌, suc, ◌+◌, ◌≤◌, List, [], ◌∷◌, drop, length, Option, Some, None, OnSome, IfNone, sym, ap, subst, ◌∙◌, arith, rules}
use Rattle.network_model.specs.{World.Gate, Step.with_front_released, Step.router_releasing}
use Rattle.release_gate.specs.GateState.{GateState}
use Rattle.router_core.specs.Parts.{router_of}
use Rattle.router_core.proofs.router.Router.release.Goals as goal

one_less : {X : Type 0} (xs : List X) → length xs ≤ suc (length (drop 1 xs))
one_less [] = omega arith
one_less (x ∷ xs) = omega arith

-- what is held and what else fits is as much as before
fits : {X : Type 0} (r : Option X) (old new : GateState) → OnSome r (new.gate ≡ with_front_released old.gate) → IfNone r (new.gate ≡ old.gate) → old.room ≤ new.room → OnSome r (old.room + 1 ≤ new.room)
    → 33 ≤ old.room + length (old.gate).held → 33 ≤ new.room + length (new.gate).held
fits None old new some none room freed fit = subst (λ (g : Gate). 33 ≤ new.room + length g.held) (sym none) (omega (arith, room, fit))
fits (Some x) old new some none room freed fit =
    let less = one_less (old.gate).held in
    subst (λ (g : Gate). 33 ≤ new.room + length g.held) (sym some) (omega (arith, freed, fit, less))

on_some : {X P Q : Type 0} (r : Option X) → (P → Q) → OnSome r P → OnSome r Q
on_some None then p = tt
on_some (Some x) then p = then p

if_none : {X P Q : Type 0} (r : Option X) → (P → Q) → IfNone r P → IfNone r Q
if_none None then p = then p
if_none (Some x) then p = tt

pub invariant_of-self-inside : goal.invariant_of-self-inside
invariant_of-self-inside g c =
    let e = c.release.ensures in
    record {
      sends_fit = c.self.inside.effects.sends_fit;
      gate_fits = fits c.release.result c.self.inside.effects.gate c.release.new.self e.some e.none e.room e.freed c.self.inside.effects.gate_fits;
    }

pub returns-clause-some : goal.returns-clause-some
returns-clause-some g c =
    let i = c.self.inside in
    on_some c.release.result (λ is. ap (λ (gate : Gate). router_of i.ports.items i.machines.items i.effects.table.table gate i.generation) is ∙ ap router_releasing c.self.view_is) c.release.ensures.some

pub returns-clause-none : goal.returns-clause-none
returns-clause-none g c =
    let i = c.self.inside in
    if_none c.release.result (λ is. ap (λ (gate : Gate). router_of i.ports.items i.machines.items i.effects.table.table gate i.generation) is ∙ c.self.view_is) c.release.ensures.none

pub returns-clause-released : goal.returns-clause-released
returns-clause-released g c = search rules
