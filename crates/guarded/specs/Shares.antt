-- Shares and their holders.
use Rattle.std.specs.Prelude.{◌≡◌, ℕ, ◌<◌, ◌==◌, ◌⊎◌, ◌≢◌, if◌then◌else◌, List, length, None, Some, Result, MatchResult, slice_index_or}
use Rattle.network_model.specs.{declared.step.Refusal.Refusal, declared.step.Refusal.TheVariants.WrongTicket}
use Rattle.publication.specs.Lists.{EachAt}
use Rattle.guarded.specs.declared.share.Share.{Share}

module _ {N : Type 0} where
  -- a share of the same number
  abbrev pub IsHolder : Share N → Share N → Type 0
  IsHolder s t = t.number ≡ s.number

  -- how many writers its holder has out
  abbrev pub owes : Share N → ℕ
  owes s = (s.out).amount

  -- its holder has as many writers out as before, unless a ticket was handed back
  abbrev pub IsBack : {X : Type 0} → Share N → Share N → Result X Refusal → Type 0
  IsBack s t r = MatchResult r (λ _. owes t ≡ owes s) (λ e. (e ≡ WrongTicket) ⊎ (owes t ≡ owes s))

  -- the share of the same holder, who has as many writers out as before, or whose last serving ended since a ticket was handed back
  abbrev pub HasServed : Share N → Share N → Type 0
  HasServed s t = IsHolder s t × ((t.halt ≡ Some WrongTicket) ⊎ (owes t ≡ owes s))

  -- so are these shares, in the same order
  abbrev pub HaveServed : List (Share N) → List (Share N) → Type 0
  HaveServed ss ts = (length ts ≡ length ss) × ((k : ℕ) (d : Share N) → k < length ss → HasServed (slice_index_or ss k d) (slice_index_or ts k d))

  -- each holder has as many writers out as before
  abbrev pub OweAsBefore : List (Share N) → List (Share N) → Type 0
  OweAsBefore ss ts = (k : ℕ) (d : Share N) → k < length ss → owes (slice_index_or ts k d) ≡ owes (slice_index_or ss k d)

  -- none of the first so many holders ended its last serving with a refusal
  abbrev pub AreUnrefusedBefore : ℕ → List (Share N) → Type 0
  AreUnrefusedBefore n ss = (k : ℕ) (d : Share N) → k < n → (slice_index_or ss k d).halt ≡ None

  -- no holder did
  abbrev pub AreUnrefused : List (Share N) → Type 0
  AreUnrefused ss = AreUnrefusedBefore (length ss) ss

  -- none of the first so many holders ended it because a ticket was handed back
  abbrev pub KeptTicketsBefore : ℕ → List (Share N) → Type 0
  KeptTicketsBefore n ss = (k : ℕ) (d : Share N) → k < n → (slice_index_or ss k d).halt ≢ Some WrongTicket

  -- no holder did
  abbrev pub KeptTickets : List (Share N) → Type 0
  KeptTickets ss = KeptTicketsBefore (length ss) ss

  -- they are numbered in order, the first has the sum, and the others have nothing; no holder has a writer out
  abbrev pub AreNew : ℕ → List (Share N) → Type 0
  AreNew sum ss = EachAt (λ k s. (s.number ≡ k) × (s.sum ≡ (if k == 0 then sum else 0)) × (owes s ≡ 0)) ss
