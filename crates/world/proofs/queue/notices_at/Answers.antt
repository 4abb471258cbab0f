use Rattle.std.proofs.Common.{◌≡◌, ℕ, List, ◌∙◌, ◌++◌, ◌∷◌, [], Some, ap, sym, length, option_map, slice_get, arith, option_and_then, take_all}
use Rattle.std.specs.Option.{option_map_or}
use Rattle.std.proofs.lemmas.Option.{none-some}
use Rattle.network_model.specs.World.{Attachments}
use Rattle.network_model.proofs.{ListLaws.element_there, Fronts.if_some, Fronts.take_next}
use Rattle.world.proofs.queue.notices_at.Goals as goal
use Rattle.world.proofs.queue.notices_at.Goals.{in-Some+in_ok-push, in_default}

-- so many notices wait
counted : (all : List Attachments) (router : ℕ) (a : Attachments) (n : ℕ) → slice_get all router ≡ Some a → option_map (λ x. length x.notices) (slice_get all router) ≡ Some n → length a.notices ≡ n
counted all router a n at count = ap (λ o. option_map_or (λ m. m) o 0) (sym (ap (λ o. option_map (λ (x : Attachments). length x.notices) o) at) ∙ count)

pub returns : goal.returns
returns c = if_some (slice_get c.args.world.now.attachments c.args.router) (λ a. c.loop-place.notices.items ≡ a.notices) (λ a at.
    let count = counted c.args.world.now.attachments c.args.router a c.notices-place-end.result at c.notices-place-end.ensures in
    c.loop-place.invariant a at ∙ take_all c.loop-place.place a.notices (omega (arith, count)))

pub loop-place-preserved : goal.loop-place-preserved
loop-place-preserved c = λ a at.
    let place = c.loop-place.place in
    let here = ap (λ o. option_and_then (λ (x : Attachments). slice_get x.notices place) o) at in
    elim c.match-notice.branch [
      | in-Some+in_ok-push w ↦
          ap (λ v. v.items) w.notices-is ∙ w.in_ok-push.ensures.items ∙ ap (λ xs. xs ++ w.in-Some.notice ∷ []) (c.loop-place.invariant a at)
          ∙ sym (take_next a.notices place w.in-Some.notice (sym (w.in-Some.ensures ∙ here)))
      | in_default w ↦
          let count = counted c.args.world.now.attachments c.args.router a c.notices-place-end.result at c.notices-place-end.ensures in
          let there = element_there a.notices place (omega (arith, count)) in
          absurd (none-some there.0 (w.in_default.ensures ∙ here ∙ there.1))
    ]
