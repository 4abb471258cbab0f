-- Worked examples: two routers and the link between them, of which the first is attached to all addresses.
use Rattle.std.proofs.Common.{refl, ◌≡◌, List, [], ◌∷◌, Some}
use Rattle.no_packet_loops.proofs.Example.{pair}
use Rattle.network_model.proofs.Common.{next_step}
use Rattle.network_model.specs.declared.step.Step.{Step}
use Rattle.network_model.specs.declared.step.Step.TheVariants.{LinkUp, LinkDown, Deliver, Publish, Release}
use Rattle.course.specs.{Counts.none_sent, Course.Course, Course.course_after_all, Course.opening_course}

-- the link comes up, both routers hear of that, and router 0 publishes
abbrev told : List Step
told = LinkUp 0 ∷ Deliver 0 0 ∷ Deliver 1 0 ∷ Publish 0 ∷ []

abbrev after : List Step → Course
after steps = course_after_all (course_after_all (opening_course pair) told) steps

-- router 0 tells router 1 of its prefix: that is one update, and one step more
one_update : (after (Release 0 ∷ [])).sent ≡ record { updates = 1; queries = 0; replies = 0 }
one_update = refl

five_steps : (after (Release 0 ∷ [])).steps ≡ 5
five_steps = refl

-- where the link is down by then, the update is discarded, and none was sent
discarded : (after (LinkDown 0 ∷ Release 0 ∷ [])).sent ≡ none_sent
discarded = refl

-- what router 0 has to do next is to release
turn : next_step (after []).world 0 ≡ Some (Release 0)
turn = refl
