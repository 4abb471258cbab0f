-- What of a network a step can change, and how much of that is not at rest.
use Rattle.std.specs.Prelude.{◌≡◌, ◌≢◌, ℕ, ◌+◌, Some, None, option_and_then, slice_get}
use Rattle.network_model.specs.{declared.step.Step.Step, World.World, Step.release_at, Numbers.one_if}
use Rattle.network_model.specs.declared.step.Step.TheVariants.{LinkUp, LinkDown, SetCost, Deliver, Publish, Release, Attach, Detach}
use Rattle.world.specs.declared.touched.Touched.{Touched}
use Rattle.world.specs.Rest.{has_notice, is_busy, is_restless, link_number, passes_at}

-- what a step can change: at most one link, one router's attachments, and one router
abbrev pub touched_by : Step → World → Touched
touched_by (LinkUp l) w = record { link = Some l; attachments = None; router = None }
touched_by (LinkDown l) w = record { link = Some l; attachments = None; router = None }
touched_by (SetCost i q cost) w = record { link = link_number w i q; attachments = None; router = None }
touched_by (Deliver i q) w = record { link = link_number w i q; attachments = Some i; router = Some i }
touched_by (Publish i) w = record { link = None; attachments = None; router = Some i }
touched_by (Release i) w = record { link = option_and_then (λ h. link_number w i h.port) (release_at w i); attachments = None; router = Some i }
touched_by (Attach i p cost) w = record { link = None; attachments = Some i; router = None }
touched_by (Detach i p) w = record { link = None; attachments = Some i; router = None }

-- the second world has every link, every router's attachments and every router of the first as they were, but those that are named
pub record LeavesOthers (t : Touched) (w v : World) : Type 0 where
  pub links : (l : ℕ) → t.link ≢ Some l → slice_get v.links l ≡ slice_get w.links l
  pub attachments : (i : ℕ) → t.attachments ≢ Some i → slice_get v.attachments i ≡ slice_get w.attachments i
  pub routers : (i : ℕ) → t.router ≢ Some i → slice_get v.routers i ≡ slice_get w.routers i

-- how much of these is not at rest
abbrev pub unrest_at : Touched → World → ℕ
unrest_at t w = one_if (passes_at is_busy w.links t.link) + one_if (passes_at has_notice w.attachments t.attachments) + one_if (passes_at is_restless w.routers t.router)
