-- Worked examples: two routers and the link between them, of which the first is attached to all addresses.
use Rattle.std.proofs.Common.{refl, ◌≡◌, List, [], ◌∷◌, Some, None}
use Rattle.no_packet_loops.proofs.Example.{pair}
use Rattle.network_model.specs.declared.step.Step.{Step}
use Rattle.network_model.specs.declared.step.Step.TheVariants.{LinkUp, LinkDown, Deliver, Publish, Release}
use Rattle.simulation.specs.{Headline.hop_by_image, Simulation.Simulation, Simulation.after_steps, Simulation.opening_simulation}

-- the link comes up, both routers hear of that, and router 0 publishes
abbrev told : List Step
told = LinkUp 0 ∷ Deliver 0 0 ∷ Deliver 1 0 ∷ Publish 0 ∷ []

abbrev after : List Step → Simulation
after steps = after_steps (after_steps (opening_simulation pair) told) steps

-- router 1 forwards by the row once it has published it, and not before
not_yet : hop_by_image (after (Release 0 ∷ Deliver 1 0 ∷ [])) 3221225985 1 ≡ None
not_yet = refl

forwards : hop_by_image (after (Release 0 ∷ Deliver 1 0 ∷ Publish 1 ∷ [])) 3221225985 1 ≡ Some 0
forwards = refl

-- over a link that is down no packet goes, whatever the image says
dead : hop_by_image (after (Release 0 ∷ Deliver 1 0 ∷ Publish 1 ∷ LinkDown 0 ∷ [])) 3221225985 1 ≡ None
dead = refl
