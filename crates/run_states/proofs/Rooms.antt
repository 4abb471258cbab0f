-- The room that a run from the opening leaves, and what shows a world.
use Rattle.std.proofs.Common.{sym, subst, ◌≡◌, ℕ, suc, ◌+◌, ◌-◌, ◌<◌, ◌^◌, arith}
use Rattle.network_model.proofs.Common.{next, Network, World, opening}
use Rattle.network_model.specs.declared.step.Step.{Step}
use Rattle.world.specs.Steps.{HasRoomForSteps}
use Rattle.world.proofs.Runs.{less_room, next-room, opening-room}
use Rattle.run_states.specs.{declared.recorder.Recorder.Recorder, Recorders.IsCurrent, Recorders.ShowsWorld}

-- the opening has room for as many steps as a list may have
pub room_at_opening : (w : World) (n : Network) (k : ℕ) → w ≡ opening n → k < 2 ^ 64 → HasRoomForSteps k w
room_at_opening w n k opens fits = subst (HasRoomForSteps k) (sym opens) (opening-room k n fits)

-- of the room for the steps that are left there is room for those after one
pub room_after : (w v : World) (s : Step) (n k : ℕ) → k < n → v ≡ next w s → HasRoomForSteps (n - k) w → HasRoomForSteps (n - (k + 1)) v
room_after w v s n k left done room = subst (HasRoomForSteps (n - (k + 1))) (sym done) (next-room (n - (k + 1)) w s (less_room (suc (n - (k + 1))) (n - k) w (omega arith) room))

-- where all is shown, what is not marked is
pub shown_current : (w : World) (r : Recorder) → ShowsWorld w r → IsCurrent w r
shown_current w r shows = record {
  links = λ l k b at book unmarked. shows.links l k b at book tt;
  routers = λ i x a b at has book.
      let all = shows.routers i x a b at has book in
      record { router = λ unmarked. all; machines = record { heard = λ j p m there heard unmarked. (all.machines).heard j p m there heard; unheard = (all.machines).unheard } };
}
