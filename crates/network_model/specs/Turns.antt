-- What a router does next, and when a network has nothing left to do.
use Rattle.std.specs.Prelude.{ℕ, zero, suc, ◌+◌, ◌%◌, Bool, not, ◌&&◌, nat_lt, if◌then◌else◌, List, [], ◌∷◌, map, length, Option, find, is_none}
use Rattle.std.specs.{List.range_with_len, List.list_all, Option.option_map_or}
use Rattle.network_model.specs.{declared.step.Step.Step, declared.step.Step.TheVariants.Deliver, declared.step.Step.TheVariants.Publish, declared.step.Step.TheVariants.Release, World.World, World.degree_of, Step.refusal, Step.is_due, Step.next, Forwarding.is_quiet_link, Forwarding.has_no_notice}

-- whether a step that can be asked is lawful
abbrev pub is_lawful : World → Step → Bool
is_lawful w s = is_none (refusal w s)

-- what a router could do, in the order in which it tries: release, publish, or take an item, from the lowest port on, and last a notice of its attachments
abbrev pub choices : World → ℕ → List Step
choices w i = Release i ∷ Publish i ∷ map (λ q. Deliver i q) (range_with_len 0 (option_map_or (λ d. d + 1) (degree_of w i) 0))

-- the first of them that is lawful
abbrev pub next_step : World → ℕ → Option Step
next_step w i = find (is_lawful w) (choices w i)

-- no item is queued on any link, no notice waits, nothing is due, and nothing is ripe
abbrev pub is_settled : World → Bool
is_settled w = list_all is_quiet_link w.links && list_all has_no_notice w.attachments && list_all (λ r. not (is_due r) && not (nat_lt 0 (r.gate).ripe)) w.routers

-- the steps that at most n turns do, router after router in ascending cyclic order from i on, until the network is settled
abbrev pub settling_steps : ℕ → ℕ → World → List Step
settling_steps zero i w = []
settling_steps (suc n) i w =
    let k = (i + 1) % length w.routers in
    let idle = settling_steps n k w in
    let turn = option_map_or (λ s. s ∷ settling_steps n k (next w s)) (next_step w i) idle in
    if is_settled w then [] else turn
