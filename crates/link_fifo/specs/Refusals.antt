-- Why a call on links is refused, and what else it answers.
use Rattle.std.specs.Prelude.{◌≡◌, ℕ, false, not, nat_lt, List, [], ◌∷◌, Option, Some, None, Result, Ok, Err, MatchBool, MatchOption, MatchResult, IsOkUnless, slice_get, is_none}
use Rattle.std.specs.Option.{option_map_or, ok_or}
use Rattle.network_model.specs.{declared.item.Item.Item, declared.item.Message.Message, declared.item.Held.Held, declared.network.End.End, declared.step.Refusal.Refusal, World.Link, World.side, Network.first_cause, Step.is_up, Step.is_up_in, Step.last_session}
use Rattle.link_fifo.specs.{declared.refusal.LinkRefusal.LinkRefusal, declared.refusal.Put.Put, declared.refusal.Put.TheVariants.Queued, declared.refusal.Put.TheVariants.Stale}
use Rattle.link_fifo.specs.declared.refusal.LinkRefusal.TheVariants.{UnknownLink, AlreadyUp, IsDown, SessionsSpent, NothingToDeliver, NoMemory}

-- the refusal of a step that a refusal of its link brings about
abbrev pub step_refusal : LinkRefusal → Refusal
step_refusal UnknownLink = Refusal.UnknownLink
step_refusal AlreadyUp = Refusal.AlreadyUp
step_refusal IsDown = Refusal.IsDown
step_refusal SessionsSpent = Refusal.SessionsSpent
step_refusal NothingToDeliver = Refusal.NothingToDeliver
step_refusal NoMemory = Refusal.NoMemory

-- why a link cannot come up, by the first test that fails
abbrev pub refusal_to_come_up : List Link → ℕ → Option LinkRefusal
refusal_to_come_up links l = first_cause (
    (is_none (slice_get links l), UnknownLink)
    ∷ (is_up (slice_get links l), AlreadyUp)
    ∷ (not (option_map_or (λ k. nat_lt k.session last_session) (slice_get links l) false), SessionsSpent) ∷ [])

-- why a link cannot be changed where only one that is up can be
abbrev pub refusal_to_change : List Link → ℕ → Option LinkRefusal
refusal_to_change links l = first_cause (
    (is_none (slice_get links l), UnknownLink)
    ∷ (not (is_up (slice_get links l)), IsDown) ∷ [])

-- refused for this cause, if there is one; else done, unless memory runs out
abbrev pub IsDoneUnless : {X : Type 0} → Option LinkRefusal → Result X LinkRefusal → Type 0
IsDoneUnless cause r = MatchOption cause (IsOkUnless r NoMemory) (λ e. r ≡ Err e)

-- the item that an end takes next, or why it takes none
abbrev pub front_of : End → Option Link → Result Item LinkRefusal
front_of to None = Err UnknownLink
front_of to (Some k) = ok_or (slice_get (side to k).inbox 0) NothingToDeliver

-- a message of this session. The port by which it left is of no matter to the link, and stands as 0
abbrev pub sent_in : ℕ → Message → Held
sent_in session message = record { port = 0; session = session; message = message }

-- queued, unless memory ran out
abbrev pub IsQueuedUnlessFull : Result Put LinkRefusal → Type 0
IsQueuedUnlessFull r = MatchResult r (λ put. put ≡ Queued) (λ e. e ≡ NoMemory)

-- what a message of this session is answered: where the link is up in that session it is queued, elsewhere it is stale
abbrev pub AnswersPut : ℕ → Option Link → Result Put LinkRefusal → Type 0
AnswersPut session None r = r ≡ Err UnknownLink
AnswersPut session (Some k) r = MatchBool (is_up_in session k) (IsQueuedUnlessFull r) (r ≡ Ok Stale)
