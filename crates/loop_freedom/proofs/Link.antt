-- What is kept between the two ends of a live link, and what a step does to an end.
use Rattle.std.proofs.Common.{◌≡◌, ◌⊎◌, ℕ, ◌+◌, ◌<◌, ◌≤◌, true, false, List, [], ◌++◌, Option, Some, None}
use Rattle.network_model.proofs.Common.{Query, Reply, infinity, Report, one_if}
use Rattle.loop_freedom.specs.Facts.{count, AtLeast, AtLeastFromLastQuery, End, pipe}
use Rattle.loop_freedom.proofs.Lists.{front}

-- what every state keeps between the two ends of a link that is up, seen from the end x
pub record EndInvariant (x y : End) : Type 0 where
  pub nothing_sent : x.current ≡ false → pipe x ≡ []
  pub unheard : x.current ≡ false → y.current ≡ true → y.reported ≡ infinity
  pub chosen_current : x.chosen ≡ true → y.current ≡ true
  pub shown_current : x.shown ≡ true → (x.current ≡ true) × (y.current ≡ true)
  pub pfd_bounded : x.pfd ≤ infinity
  pub feasible_below_sent : AtLeast x.fd (pipe x)
  pub feasible_below_kept : y.current ≡ true → x.fd ≤ y.reported
  pub published_below_sent : AtLeast x.pfd x.out
  pub published_below_kept : y.current ≡ true → x.pfd ≤ y.reported
  pub control_edge_falls : x.chosen ≡ true → (y.fd < x.fd) × (y.pfd < x.fd)
  pub published_edge_falls : x.shown ≡ true → (y.fd < x.pfd) × (y.pfd < x.pfd)
  pub awaited_once : count Query (pipe x) + one_if y.owes + count Reply (pipe y) ≤ one_if x.awaits
  pub computation_below_sent : y.active ≡ true → AtLeastFromLastQuery y.rd (pipe y)
  pub computation_below_kept : y.active ≡ true → x.current ≡ true → one_if y.awaits ≤ one_if x.owes + count Reply (pipe x) → y.rd ≤ x.reported
  pub control_edge_waits : y.active ≡ true → x.chosen ≡ true → one_if y.awaits ≤ count Reply (pipe x) → y.rd < x.fd
  pub published_edge_waits : y.active ≡ true → x.shown ≡ true → one_if y.awaits ≤ count Reply x.out → y.rd < x.pfd

-- where x awaits y, its query is on its way, or y owes the reply, or that is on its way
pub record Answered (x y : End) : Type 0 where
  pub answered : one_if x.awaits ≤ count Query (pipe x) + one_if y.owes + count Reply (pipe y)

-- what the neighbour has reported once a message that may have come is taken
abbrev pub heard : Option Report → ℕ → ℕ
heard None n = n
heard (Some m) n = m.value

-- the end keeps the successor of an active machine, with no smaller feasible distance, and sends it no reply
pub record Keeps (x x' : End) (added : List Report) : Type 0 where
  pub was : x.chosen ≡ true
  pub goes_on : x'.active ≡ true
  pub grows : x.fd ≤ x'.fd
  pub silent : count Reply added ≡ 0

-- the computation at the end goes on at its distance, and no new query is sent
pub record GoesOn (x x' : End) (added : List Report) : Type 0 where
  pub was : x.active ≡ true
  pub stays : x'.rd ≡ x.rd
  pub silent : count Query added ≡ 0

-- what a reaction of its machine, or none, does to an end: it may take one message and add some
pub record EndStep (x x' : End) (taken : Option Report) (added : List Report) : Type 0 where
  pub kept_is : x'.kept ≡ x.kept ++ added
  pub shown_is : x'.shown ≡ x.shown
  pub pfd_is : x'.pfd ≡ x.pfd
  pub current_stays : x.current ≡ true → x'.current ≡ true
  pub takes_nothing : x.current ≡ false → taken ≡ None
  pub adds_nothing : x'.current ≡ false → added ≡ []
  pub reports : x.current ≡ true → x'.reported ≡ heard taken x.reported
  pub comes : x.current ≡ false → x'.current ≡ true → x'.reported ≡ infinity
  pub chosen_current : x'.chosen ≡ true → x'.current ≡ true
  pub fd_below : x'.fd ≤ x'.rd
  pub rd_bounded : x'.rd ≤ infinity
  pub says : AtLeast x'.rd added
  pub rises : x'.current ≡ true → x.fd < x'.fd → (x.active ≡ true) × (x'.fd ≤ x.rd) × (one_if x.awaits ≤ count Reply (front taken))
  pub chooses : x'.chosen ≡ true → (x'.reported < x'.fd) ⊎ Keeps x x' added
  pub asks : x'.current ≡ true → x'.active ≡ true → GoesOn x x' added ⊎ (0 < count Query added)
  pub queries : count Reply (front taken) ≤ one_if x.awaits → one_if x'.awaits + count Reply (front taken) ≡ one_if x.awaits + count Query added
  pub replies : one_if x.owes + count Query (front taken) ≤ 1 → one_if x'.owes + count Reply added ≡ one_if x.owes + count Query (front taken)
