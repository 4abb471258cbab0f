-- What a router answers, told by an image in force.
use Rattle.std.proofs.Common.{◌≡◌, ◌∙◌, ℕ, Bool, true, false, Option, Some, None, length, option_map, slice_get, nat_lt, if◌then◌else◌, refl, sym, ap, ltb-true, arith}
use Rattle.std.proofs.lemmas.Option.{slice_get_within}
use Rattle.network_model.specs.{declared.route.Answer.Answer, declared.step.Refusal.TheVariants.UnknownRouter, Publication.Image, Publication.answer_of}
use Rattle.network_model.proofs.ListLaws.{None_not_Some, Some_injective, element_there}
use Rattle.simulation.specs.Simulation.{Simulation, ForwardsAsPublished, answer_at as answer_there}
use Rattle.lines.specs.Report.{unknown_router}
use Rattle.interpreter.specs.Nets.{IsAnswer}

-- by a simulation's image
module _ (s : Simulation) (forwards : ForwardsAsPublished s) (router addr : ℕ) where
  pub answered_there : (a : Answer) → answer_there s router addr ≡ Some a → IsAnswer s.world router addr a.matched
  answered_there a is = by_image (slice_get s.images router) refl is
    where
      by_image : (o : Option Image) → slice_get s.images router ≡ o → option_map (λ image. answer_of image addr) o ≡ Some a → IsAnswer s.world router addr a.matched
      by_image None at h = absurd (None_not_Some h)
      by_image (Some image) at h =
          let short = slice_get_within s.images router image at in
          let every = forwards.every_router in
          let there = element_there s.world.routers router (omega (arith, short, every)) in
          (there.0, there.1, sym (forwards.longest router there.0 image there.1 at addr) ∙ ap (λ (b : Answer). b.matched) (Some_injective h))

  pub unanswered : answer_there s router addr ≡ None → unknown_router s.world router ≡ Some UnknownRouter
  unanswered is = by_length (nat_lt router (length s.world.routers)) refl
    where
      by_length : (b : Bool) → nat_lt router (length s.world.routers) ≡ b → unknown_router s.world router ≡ Some UnknownRouter
      by_length false past = ap (λ b. if b then None else Some UnknownRouter) past
      by_length true there =
          let short = ltb-true router (length s.world.routers) there in
          let every = forwards.every_router in
          let image = element_there s.images router (omega (arith, short, every)) in
          absurd (None_not_Some (sym is ∙ ap (option_map (λ (i : Image). answer_of i addr)) image.1))
