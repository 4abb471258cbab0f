-- Where nothing more happens among routers in processes of their own.
use Rattle.std.specs.Prelude.{◌≡◌, ℕ, ◌<◌, ◌≤◌, Bool, true, false, ◌||◌, List, [], ◌∷◌, length, ⊤}
use Rattle.ipv4_prefix.specs.Prefix.{Prefix}
use Rattle.network_model.specs.{Network.most_routers, View.LinkEnd}
use Rattle.loop_freedom.specs.Network.{Topology}
use Rattle.coming_to_rest.specs.Rest.{IsFinite}
use Rattle.single_router.specs.Inputs.{attachment_of}
use Rattle.daemon_laws.specs.{Processes.Processes, Packets.is_in_session}
use Rattle.daemon_laws.specs.Happenings.{Happening, Loses, Forgets, after_happenings, HoldsAlways, IsOpening, AllCanHappen}
use Rattle.daemon_laws.specs.Rest.{IsUpIn, NothingLost, AreAtRest, ProcessHasBestRow}
use Rattle.daemons_come_to_rest.specs.Rest.{HappensAlone, AllAlone, HasMostHappenings}

-- whether a message is lost
abbrev pub is_loss : Happening → Bool
is_loss (Loses e) = true
is_loss _ = false

-- whether a prefix is forgotten
abbrev pub forgets : Happening → Bool
forgets (Forgets i p) = true
forgets _ = false

-- nothing more happens among the first n routers, but that messages may be lost which no end takes, and prefixes forgotten of which nothing is
-- known
abbrev pub NothingLeft : ℕ → Processes → Type 0
NothingLeft n w = (h : Happening) → HappensAlone n w h → (is_loss h || forgets h) ≡ true

-- the two ends of each link agree: where one is in a session, a link is there, and so is the other end
abbrev pub EndsAgree : Topology → Processes → Type 0
EndsAgree t w = (e : LinkEnd) (session : ℕ) → is_in_session w e session ≡ true → IsUpIn t w e session

-- nothing more happens among the first n routers, whose all links are, nothing was lost of a session that a link is up in, and the two ends of
-- each link agree
pub record HasSettled (t : Topology) (n : ℕ) (w : Processes) : Type 0 where
  pub nothing_left : NothingLeft n w
  pub placed : (e : LinkEnd) → t.valid e ≡ true → e.router < n
  pub nothing_lost : NothingLost t w
  pub agree : EndsAgree t w

-- there all is at rest: no computation goes on
abbrev pub SettledIsAtRest : Topology → Processes → Type 0
SettledIsAtRest t w = (n : ℕ) → HasSettled t n w → AreAtRest t n w

-- and each router has its best row for each prefix
abbrev pub SettledIsBest : Topology → Processes → Type 0
SettledIsBest t w = (n : ℕ) → n ≤ most_routers → HasSettled t n w → (p : Prefix) (i : ℕ) → i < n → ProcessHasBestRow t w p i

-- ---- from a moment on

-- none of these is a loss
abbrev pub LosesNone : List Happening → Type 0
LosesNone [] = ⊤
LosesNone (h ∷ hs) = (is_loss h ≡ false) × LosesNone hs

-- each router has the ports that it had, up or down, in the same sessions and at the same costs, and the same attachments
abbrev pub SameGround : Processes → Processes → Type 0
SameGround w v = (i : ℕ) → ((v.routers i).ports ≡ (w.routers i).ports) × ((p : Prefix) → attachment_of (v.routers i) p ≡ attachment_of (w.routers i) p)

-- where nothing happens any more but what happens alone: that ends, whatever its order, and where nothing is lost of a session that a link is
-- up in it ends where each router has its best row
pub record ProcessesConverge (t : Topology) (n : ℕ) (w : Processes) : Type 0 where
  -- there is a number that no list of such happenings exceeds
  pub bounded : HasMostHappenings t n w
  -- some of them, without a loss, lead to where nothing is left
  pub somewhere : (hs : List Happening) × AllAlone t n w hs × LosesNone hs × NothingLeft n (after_happenings t w hs)
  -- all of them leave links and attachments
  pub ground : (hs : List Happening) → AllAlone t n w hs → SameGround w (after_happenings t w hs)
  -- whichever they are, where nothing is left each router has its best row, if the two ends of each link agree now, and nothing was
  -- lost, before or since, of a session that a link is up in
  pub arrives : EndsAgree t w → n ≤ most_routers
      → (hs : List Happening) → AllAlone t n w hs → NothingLost t (after_happenings t w hs) → NothingLeft n (after_happenings t w hs) → (p : Prefix) (i : ℕ) → i < n → ProcessHasBestRow t (after_happenings t w hs) p i
  -- so it is without a loss, if nothing was lost before of a session that a link is up in
  pub stays_whole : NothingLost t w → (hs : List Happening) → AllAlone t n w hs → LosesNone hs → NothingLost t (after_happenings t w hs)

-- so it is at every moment, whatever has happened, where the topology has finitely many link ends
abbrev pub ProcessesAlwaysConverge : Type 0
ProcessesAlwaysConverge = HoldsAlways (λ t w. (F : IsFinite t) → ProcessesConverge t F.routers w)

-- something may happen after which ends agree and nothing was lost of a session that a link is up in, though a message of another was lost;
-- but something still happens, without a loss, until nothing is left
pub record SomeConverges : Type 0 where
  pub topology : Topology
  pub finite : IsFinite topology
  pub few : finite.routers ≤ most_routers
  pub first : Processes
  pub happenings : List Happening
  pub begins : IsOpening first
  pub can : AllCanHappen topology first happenings
  pub agree : EndsAgree topology (after_happenings topology first happenings)
  pub nothing_lost : NothingLost topology (after_happenings topology first happenings)
  pub end : LinkEnd
  pub session : ℕ
  pub was_lost : (after_happenings topology first happenings).lost end session ≡ true
  pub onward : List Happening
  pub some : 0 < length onward
  pub alone : AllAlone topology finite.routers (after_happenings topology first happenings) onward
  pub loses_none : LosesNone onward
  pub left : NothingLeft finite.routers (after_happenings topology (after_happenings topology first happenings) onward)
