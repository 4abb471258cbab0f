-- What the images in force answer.
use Rattle.std.specs.Prelude.{ℕ, Option, option_map, slice_get}
use Rattle.network_model.specs.{declared.route.Answer.Answer, World.World, Publication.answer_of}
use Rattle.course.specs.Images.{image_in_force}

-- what the image in force at a router answers for an address; nothing where there is no such router
abbrev pub answer_at : World → ℕ → ℕ → Option Answer
answer_at w i addr = option_map (λ r. answer_of (image_in_force r) addr) (slice_get w.routers i)
