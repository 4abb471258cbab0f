-- What a step answers, and the room that the routers' generations need.
use Rattle.std.specs.Prelude.{ℕ, ◌+◌, ◌^◌, ◌<◌, Bool, true, false, not, List, [], ◌∷◌, slice_get, is_none, Option, Some, None, Result, Err, ◌≡◌, MatchOption, IsOk, OnErr, IsOkUnless, All}
use Rattle.std.specs.Option.{option_map_or}
use Rattle.network_model.specs.{declared.step.Step.Step, declared.step.Step.TheVariants.Deliver, declared.step.Step.TheVariants.Release, declared.step.Refusal.Refusal, declared.step.Refusal.TheVariants.UnknownRouter, declared.step.Refusal.TheVariants.UnknownLink, declared.step.Refusal.TheVariants.UnknownPrefix, declared.item.Held.Held, declared.item.Item.Item, declared.item.Notice.Notice, declared.network.Place.Place, Network.first_cause}
use Rattle.ipv4_prefix.specs.Prefix.{Prefix}
use Rattle.network_model.specs.World.{Link, Router, World, place_at, link_at, is_known}
use Rattle.network_model.specs.Step.{front_at, is_up_in, notice_at, refusal, release_at}
use Rattle.router_core.specs.Room.{ItemNeedsMemory, MeetingNeedsMemory}

-- refused for this cause, if there is one; else done, unless memory runs out
abbrev pub IsDoneOr : {X : Type 0} → Option Refusal → Result X Refusal → Type 0
IsDoneOr cause r = MatchOption cause (IsOkUnless r Refusal.NoMemory) (λ e. r ≡ Err e)

-- for this cause, if there is one; else for want of memory
abbrev pub CanBeRefused : Option Refusal → Refusal → Type 0
CanBeRefused cause e = MatchOption cause (e ≡ Refusal.NoMemory) (λ c. e ≡ c)

-- of these steps the one at this place is refused, where each step may be for its cause
abbrev pub StopsAt : (Step → Option Refusal) → List Step → ℕ → Refusal → Type 0
StopsAt cause steps n e = (s : Step) × (slice_get steps n ≡ Some s) × CanBeRefused (cause s) e

-- no router's generation passes 64 bits in this many steps
abbrev pub HasRoomForSteps : ℕ → World → Type 0
HasRoomForSteps n w = All (λ (r : Router). r.generation + n < 2 ^ 64) w.routers

-- a message that router i holds is stale: the link of its port is not up in its session, or no more there
abbrev pub is_stale : World → ℕ → Held → Bool
is_stale w i h = not (option_map_or (is_up_in h.session) (link_at w i h.port) false)

-- a step that releases a stale message is done, as if there were always memory
abbrev pub DiscardsStale : {X : Type 0} → World → Step → Result X Refusal → Type 0
DiscardsStale w s r = (i : ℕ) (h : Held) → s ≡ Release i → release_at w i ≡ Some h → is_stale w i h ≡ true → IsOk r

-- a port of a router that is there, at the end of a link that is there
pub record IsPort (w : World) (i q : ℕ) (p : Place) : Type 0 where
  pub router : Router
  pub is_router : slice_get w.routers i ≡ Some router
  pub link : Link
  pub is_link : slice_get w.links p.link ≡ Some link
  pub is_place : place_at w i q ≡ Some p

-- why a step at a port that is not there is refused; none where the port is there
abbrev pub port_refusal : World → ℕ → ℕ → Option Refusal
port_refusal w i q = first_cause ((is_none (slice_get w.routers i), UnknownRouter) ∷ (is_none (link_at w i q), UnknownLink) ∷ [])

-- why a step that names a prefix at a router is refused, where one of them is not there
abbrev pub prefix_refusal : World → ℕ → Prefix → Option Refusal
prefix_refusal w i p = first_cause ((is_none (slice_get w.routers i), UnknownRouter) ∷ (not (is_known w p), UnknownPrefix) ∷ [])

-- a router may need memory to take the item that stands first at its port, or else the notice of its attachment
abbrev pub TakingNeedsMemory : Option Item → Option Notice → Router → Type 0
TakingNeedsMemory (Some item) notice r = ItemNeedsMemory item r
TakingNeedsMemory None (Some notice) r = MeetingNeedsMemory notice.prefix r
TakingNeedsMemory None None r = ⊥

-- router i may need memory to take what waits at its port q
abbrev pub DeliveryNeedsMemory : World → ℕ → ℕ → Type 0
DeliveryNeedsMemory w i q = (r : Router) × (slice_get w.routers i ≡ Some r) × TakingNeedsMemory (front_at w i q) (notice_at w i q) r

-- a lawful delivery is refused only where its router may need memory
abbrev pub DeliversWithRoom : {X : Type 0} → World → Step → Result X Refusal → Type 0
DeliversWithRoom w s r = (i q : ℕ) → s ≡ Deliver i q → refusal w s ≡ None → OnErr r (DeliveryNeedsMemory w i q)
