-- A packet that is long on a link: it leaves in one moment, and is let in in a later one.
use Rattle.std.specs.Prelude.{◌≡◌, ◌≢◌, ℕ, ◌≤◌, Bool, true, List, [], ◌∷◌, Some, ⊤}
use Rattle.std.specs.FinMap.{find as row_of}
use Rattle.ipv4_prefix.specs.Prefix.{Prefix, prefix_cmp}
use Rattle.network_model.specs.{declared.route.Entry.Entry, View.LinkEnd, View.at_port}
use Rattle.daemon_laws.specs.Packets.{session_leads, unmarked_leads}
use Rattle.daemon_laws.specs.Happenings.{Happening, Tells, Takes, Loses, Publishes, PublishesSome, Forgets, Releases, Offers, BeginsAnew, CanHappen, own_session, MayRewire, link_stays}
use Rattle.moving_daemon_packets.specs.Moving.{Moment, moment_next, moment_rewired, moment_after, rows_shown, DaemonEvent, Goes, Does, Rewires}

-- a packet that left by this end of a link in this session is not lost by what happens. What is on its way to a process ends with it, and so does what is on
-- its way from one, but in sessions that the process at the other end has come into
abbrev pub Survives : LinkEnd → ℕ → Moment → Happening → Type 0
Survives e session m (Tells i input) = ⊤
Survives e session m (Takes d) = ⊤
Survives e session m (Loses d) = ⊤
Survives e session m (Publishes i) = ⊤
Survives e session m (PublishesSome i n) = ⊤
Survives e session m (Forgets i p) = ⊤
Survives e session m (Releases i) = ⊤
Survives e session m (Offers i offer) = ⊤
Survives e session m (BeginsAnew i costs attachments) = (i ≢ ((m.topology).far e).router) × (i ≡ e.router → session ≤ own_session m.processes ((m.topology).far e))

-- it is on the link while all this happens: by none of it it is lost, and the link stays
abbrev pub IsOnLink : LinkEnd → ℕ → Moment → List DaemonEvent → Type 0
IsOnLink e session m [] = ⊤
IsOnLink e session m (Goes k ∷ es) = ⊥
IsOnLink e session m (Does h ∷ es) = CanHappen m.processes h × Survives e session m h × IsOnLink e session (moment_next m h) es
IsOnLink e session m (Rewires t ∷ es) = MayRewire m.topology t m.processes × (link_stays m.topology t e ≡ true) × IsOnLink e session (moment_rewired m t) es

-- where its row, published or chosen, leads when the packet is let in, it led when the packet left: so the hop may count as made then
abbrev pub HopsAtOnce : Moment → Type 0
HopsAtOnce m = (i k q session : ℕ) (p : Prefix) (b : Bool) (es : List DaemonEvent) → row_of prefix_cmp p (rows_shown b m i) ≡ Some (Entry.Via q session) → IsOnLink (at_port i q) session m es
    → session_leads (moment_after m es).topology (moment_after m es).processes i (Entry.Via q session) ≡ Some k → session_leads m.topology m.processes i (Entry.Via q session) ≡ Some k

-- the same where packets tell no session, if the packet comes before each message of a later session
abbrev pub UnmarkedHopsAtOnce : Moment → Type 0
UnmarkedHopsAtOnce m = (i k q session : ℕ) (p : Prefix) (b : Bool) (es : List DaemonEvent) → row_of prefix_cmp p (rows_shown b m i) ≡ Some (Entry.Via q session) → IsOnLink (at_port i q) session m es
    → ((moment_after m es).processes).heard (((moment_after m es).topology).far (at_port i q)) ≤ session
    → unmarked_leads (moment_after m es).topology (moment_after m es).processes i (Entry.Via q session) ≡ Some k → session_leads m.topology m.processes i (Entry.Via q session) ≡ Some k
