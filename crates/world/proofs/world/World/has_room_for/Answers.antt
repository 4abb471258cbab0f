use Rattle.std.proofs.Common.{ℕ, ◌+◌, ◌^◌, ◌<◌, ◌≤◌, ◌↔◌, Bool, true, false, List, length, refl, sym, ◌∙◌, subst, arith, rules, tests, IsTrue, MatchBool, All, true≢false}
use Rattle.no_packet_loops.proofs.Common.{YieldsList-from_slice, cases_from_all, true_from_All, Router, World, AllWithin, HoldsAt}
use Rattle.world.specs.Steps.{HasRoomForSteps}
use Rattle.world.proofs.world.World.has_room_for.Goals as goal

-- true where all have P, of two that no element has both
all_have : (P Q : Router → Type 0) (b : Bool) (xs : List Router) → ((x : Router) → P x → Q x → ⊥) → MatchBool b (AllWithin P xs 0 (length xs)) ((k : ℕ) × (k < length xs) × HoldsAt Q xs k) → IsTrue b ↔ All P xs
all_have P Q true xs apart all = (λ _. λ k d below. all k d (omega arith) below, λ _. refl)
all_have P Q false xs apart some = (λ is. absurd (true≢false (sym is)), true_from_All P Q false xs apart some)

pub returns : goal.returns
returns g c =
    let P : Router → Type 0 = λ r. r.generation + c.args.steps < 2 ^ 64 in
    let Q : Router → Type 0 = λ r. 2 ^ 64 ≤ r.generation + c.args.steps in
    subst (λ (w : World). IsTrue c.all.result ↔ HasRoomForSteps c.args.steps w) c.self.view_is
    (all_have P Q c.all.result c.self.inside.routers.items (λ x p q. omega (arith, p, q))
    (cases_from_all _ _ _ P Q c.all.ensures.ran (YieldsList-from_slice c.self.inside.routers.items (c.iter.ensures.rest ∙ c.deref.ensures.value)) (λ x q k. search (rules, tests)) (λ x q k. search (rules, tests))))
