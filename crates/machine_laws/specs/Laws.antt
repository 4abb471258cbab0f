-- What every event does to a sound machine: the laws on which a network of machines rests.
use Rattle.std.specs.Prelude.{◌≡◌, ◌≢◌, ◌⊎◌, ℕ, ◌+◌, ◌<◌, ◌≤◌, Bool, true, false, ◌&&◌, ◌==◌, if◌then◌else◌, List, [], ◌∷◌, ◌++◌, Option, Some, None, is_some, slice_get, length}
use Rattle.network_model.specs.{declared.machine.Neighbour.Neighbour, declared.machine.Event.Event, declared.machine.Outgoing.Outgoing, Numbers.one_if}
use Rattle.network_model.specs.declared.machine.Event.TheVariants.{Message, Up, Down, Cost, Attached, Detached}
use Rattle.metric.specs.{declared.kind.Kind.Kind, declared.kind.Kind.TheVariants.Update, declared.kind.Kind.TheVariants.Query, declared.kind.Kind.TheVariants.Reply, Distance.infinity}
use Rattle.network_model.specs.Machine.{Machine, Computation, opening_machine, reaction, distance, least, ways, port_count, records_after, attachment_after, is_port}

-- the port that an event ends the wait for: its reply came, or its link is lost
abbrev pub released : Event → Option ℕ
released (Message q Reply value) = Some q
released (Down q) = Some q
released _ = None

-- whether two kinds of message are the same
abbrev pub is_kind : Kind → Kind → Bool
is_kind Update Update = true
is_kind Query Query = true
is_kind Reply Reply = true
is_kind _ _ = false

-- what is sent to port p, in order
abbrev pub sent_to : ℕ → List Outgoing → List Outgoing
sent_to p [] = []
sent_to p (s ∷ ss) = if s.port == p then s ∷ sent_to p ss else sent_to p ss

-- how many messages are of kind k
abbrev pub count_kind : Kind → List Outgoing → ℕ
count_kind k [] = 0
count_kind k (s ∷ ss) = one_if (is_kind k s.kind) + count_kind k ss

-- a test of the element at a place; false where there is none
abbrev pub test_at : {A : Type 0} → (A → Bool) → Option A → Bool
test_at f None = false
test_at f (Some x) = f x

-- whether the link at port p is up
abbrev pub is_up_at : Machine → ℕ → Bool
is_up_at m p = test_at (λ n. n.up) (slice_get m.ports p)

-- what a neighbour reported; infinity where there is no neighbour
abbrev pub reported_by : Option Neighbour → ℕ
reported_by None = infinity
reported_by (Some n) = n.reported

-- what the neighbour at port p reported; infinity where there is no such port
abbrev pub reported_at : Machine → ℕ → ℕ
reported_at m p = reported_by (slice_get m.ports p)

-- whether the computation under way, if there is one, awaits the reply of port p
abbrev pub awaits_of : Option Computation → ℕ → Bool
awaits_of None p = false
awaits_of (Some c) p = test_at (λ b. b) (slice_get c.awaited p)

-- whether the machine awaits the reply of port p
abbrev pub awaits : Machine → ℕ → Bool
awaits m p = awaits_of m.computation p

-- whether the computation under way, if there is one, owes a reply to port p
abbrev pub owes_of : Option Computation → ℕ → Bool
owes_of None p = false
owes_of (Some c) p = is_port p c.debt

-- whether the machine owes a reply to port p
abbrev pub owes_port : Machine → ℕ → Bool
owes_port m p = owes_of m.computation p

-- whether a computation is under way
abbrev pub is_active : Machine → Bool
is_active m = is_some m.computation

-- whether an event is a message of kind k from port p
abbrev pub is_message : Kind → ℕ → Event → Bool
is_message k p (Message q kind value) = (q == p) && is_kind k kind
is_message k p _ = false

-- whether an event is the loss of the link at port p
abbrev pub is_down : ℕ → Event → Bool
is_down p (Down q) = q == p
is_down p _ = false

-- an event that the machine may meet: its port is there, up or down as it should be, and its numbers are in range
abbrev pub Meets : Machine → Event → Type 0
Meets m (Message q kind value) = (is_up_at m q ≡ true) × (value ≤ infinity)
Meets m (Up q cost) = (q < length m.ports) × (is_up_at m q ≡ false) × (0 < cost)
Meets m (Down q) = is_up_at m q ≡ true
Meets m (Cost q cost) = (is_up_at m q ≡ true) × (0 < cost)
Meets m (Attached cost) = 0 < cost
Meets m Detached = Unit {0}

-- a port that is there: costs are at least 1, and nothing reported is above infinity
pub record IsSoundPort (n : Neighbour) : Type 0 where
  pub costs : 0 < n.cost
  pub bounded : n.reported ≤ infinity

-- what every machine keeps
pub record IsSound (m : Machine) : Type 0 where
  pub ports_sound : (p : ℕ) (n : Neighbour) → slice_get m.ports p ≡ Some n → IsSoundPort n
  pub attachment_sound : (c : ℕ) → m.attachment ≡ Some c → 0 < c
  pub rd_bounded : m.rd ≤ infinity
  pub fd_below : m.fd ≤ m.rd
  pub fd_positive : 0 < m.fd
  -- the successor is a port that is up, or the attachment, which is there
  pub successor_up : (p : ℕ) → m.successor ≡ Some p → p < port_count m → is_up_at m p ≡ true
  pub successor_within : (p : ℕ) → m.successor ≡ Some p → p ≤ port_count m
  pub successor_attached : m.successor ≡ Some (port_count m) → is_some m.attachment ≡ true
  -- with one the feasible distance is below infinity
  pub successor_finite : (p : ℕ) → m.successor ≡ Some p → m.fd < infinity
  -- passive: at the least distance, by way of the attachment, or of a neighbour that reported less than the feasible distance
  pub passive_least : is_active m ≡ false → m.rd ≡ least (ways m)
  pub passive_feasible : (p : ℕ) → is_active m ≡ false → m.successor ≡ Some p → is_up_at m p ≡ true → reported_at m p < m.fd
  pub passive_attains : (p : ℕ) (n : Neighbour) → is_active m ≡ false → m.successor ≡ Some p → slice_get (ways m) p ≡ Some n → distance n ≡ least (ways m)
  pub passive_none : is_active m ≡ false → m.successor ≡ None → (m.rd ≡ infinity) × (m.fd ≡ infinity)
  -- active: the distance is above the feasible one, someone is awaited, only those who are up are, and a reply is owed to the successor alone
  pub active_above : is_active m ≡ true → m.fd < m.rd
  pub awaits_some : is_active m ≡ true → (p : ℕ) × (awaits m p ≡ true)
  pub awaits_up : (p : ℕ) → awaits m p ≡ true → is_up_at m p ≡ true
  pub owes_successor : (p : ℕ) → owes_port m p ≡ true → m.successor ≡ Some p
  pub owes_up : (p : ℕ) → owes_port m p ≡ true → is_up_at m p ≡ true

-- every message that an event sends carries the distance after it, to a port that is up
abbrev pub SendsDistance : Type 0
SendsDistance = (m : Machine) (e : Event) → IsSound m → Meets m e → (s : Outgoing) → (k : ℕ) → slice_get (reaction m e).sends k ≡ Some s → (s.value ≡ (reaction m e).machine.rd) × (is_up_at (reaction m e).machine s.port ≡ true)

-- with a port up, the feasible distance rises only where a computation ends, to its distance at most, and no port that is up is awaited still
abbrev pub RisesAtCompletion : Type 0
RisesAtCompletion = (m : Machine) (e : Event) → IsSound m → Meets m e → m.fd < (reaction m e).machine.fd → (p : ℕ) → is_up_at (reaction m e).machine p ≡ true
    → (is_active m ≡ true) × ((reaction m e).machine.fd ≤ m.rd) × (awaits m p ≡ true → released e ≡ Some p)

-- a neighbour that is the successor after an event reported less than the feasible distance; or it was kept, by a machine that is active, at no lower feasible distance
abbrev pub KeepsOrChooses : Type 0
KeepsOrChooses = (m : Machine) (e : Event) → IsSound m → Meets m e → (p : ℕ) → (reaction m e).machine.successor ≡ Some p → is_up_at (reaction m e).machine p ≡ true
    → (reported_at (reaction m e).machine p < (reaction m e).machine.fd)
    ⊎ ((m.successor ≡ Some p) × (is_active (reaction m e).machine ≡ true) × (m.fd ≤ (reaction m e).machine.fd))

-- at each port that stays up, what is awaited grows by the queries sent and falls by the reply taken, if only the awaited reply
abbrev pub CountsQueries : Type 0
CountsQueries = (m : Machine) (e : Event) → IsSound m → Meets m e → (p : ℕ) → is_down p e ≡ false → (is_message Reply p e ≡ true → awaits m p ≡ true)
    → one_if (awaits (reaction m e).machine p) + one_if (is_message Reply p e) ≡ one_if (awaits m p) + count_kind Query (sent_to p (reaction m e).sends)

-- at each port that stays up, what is owed grows by the query taken and falls by the replies sent, if nobody asks who is owed a reply
abbrev pub CountsReplies : Type 0
CountsReplies = (m : Machine) (e : Event) → IsSound m → Meets m e → (p : ℕ) → is_down p e ≡ false → (is_message Query p e ≡ true → owes_port m p ≡ false)
    → one_if (owes_port (reaction m e).machine p) + count_kind Reply (sent_to p (reaction m e).sends) ≡ one_if (owes_port m p) + one_if (is_message Query p e)

-- a machine that is active after an event was active, keeps its distance and asks nobody; or all who are up get one query, and nothing after it
abbrev pub GoesOnOrAsks : Type 0
GoesOnOrAsks = (m : Machine) (e : Event) → IsSound m → Meets m e → is_active (reaction m e).machine ≡ true
    → ((is_active m ≡ true) × ((reaction m e).machine.rd ≡ m.rd) × ((p : ℕ) → count_kind Query (sent_to p (reaction m e).sends) ≡ 0))
    ⊎ ((p : ℕ) → is_up_at (reaction m e).machine p ≡ true → (before : List Outgoing) × (query : Outgoing) × (query.kind ≡ Query) × (count_kind Query before ≡ 0) × (sent_to p (reaction m e).sends ≡ before ++ query ∷ []))

-- a machine that is active after an event, and has kept its successor, sent no reply to it
abbrev pub KeepsDebt : Type 0
KeepsDebt = (m : Machine) (e : Event) → IsSound m → (p : ℕ) → m.successor ≡ Some p → (reaction m e).machine.successor ≡ Some p → is_active (reaction m e).machine ≡ true
    → count_kind Reply (sent_to p (reaction m e).sends) ≡ 0

-- where the distance changes, everyone who is up is sent something
abbrev pub TellsAll : Type 0
TellsAll = (m : Machine) (e : Event) → IsSound m → Meets m e → ((reaction m e).machine.rd ≡ m.rd) ⊎ ((p : ℕ) → is_up_at (reaction m e).machine p ≡ true → sent_to p (reaction m e).sends ≢ [])

-- the records are those after the event
abbrev pub KeepsRecords : Type 0
KeepsRecords = (m : Machine) (e : Event) → (reaction m e).machine.ports ≡ records_after e m.ports

-- no neighbour has reported a distance
abbrev pub NothingHeard : List Neighbour → Type 0
NothingHeard ns = (p : ℕ) (n : Neighbour) → slice_get ns p ≡ Some n → n.reported ≡ infinity

-- a machine that opens over sound ports which reported nothing is sound, with an attachment and without one
abbrev pub OpensSound : Type 0
OpensSound = (attachment : Option ℕ) (ns : List Neighbour) → ((c : ℕ) → attachment ≡ Some c → (0 < c) × (c < infinity)) → ((p : ℕ) (n : Neighbour) → slice_get ns p ≡ Some n → IsSoundPort n) → NothingHeard ns
    → IsSound (opening_machine attachment ns)

-- a sound machine stays sound
abbrev pub StaysSound : Type 0
StaysSound = (m : Machine) (e : Event) → IsSound m → Meets m e → IsSound (reaction m e).machine

-- the attachment is as it was told last
abbrev pub KeepsAttachment : Type 0
KeepsAttachment = (m : Machine) (e : Event) → (reaction m e).machine.attachment ≡ attachment_after e m.attachment

-- all that a network of machines rests on
pub record MachineLaws : Type 0 where
  pub sends_distance : SendsDistance
  pub rises_at_completion : RisesAtCompletion
  pub keeps_or_chooses : KeepsOrChooses
  pub counts_queries : CountsQueries
  pub counts_replies : CountsReplies
  pub goes_on_or_asks : GoesOnOrAsks
  pub keeps_debt : KeepsDebt
  pub tells_all : TellsAll
  pub keeps_records : KeepsRecords
  pub stays_sound : StaysSound
  pub keeps_attachment : KeepsAttachment
