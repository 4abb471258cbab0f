-- What an item that is taken does to the ports of a machine: to the one where it is taken, and to the others.
use Rattle.std.proofs.Common.{refl, sym, ◌∙◌, ap, subst, arith, ◌≡◌, ℕ, zero, suc, ◌+◌, ◌<◌, Bool, true, false, ◌&&◌, ◌==◌, List, [], ◌∷◌, Option, Some, None, length, slice_get, option_map, eq-eqb, ne_eqb}
use Rattle.network_model.proofs.Common.{both_ways, and_from, and_left, false≢true, Kind, Reply, infinity, Machine, records_after, reaction, length-changed_at, slice_get-changed_at, slice_get-changed_at_other, Report, SeenItem, UpNotice, DownNotice, CostNotice, Reported, one_if}
use Rattle.network_model.specs.{declared.machine.Event.TheVariants.Message, declared.machine.Neighbour.Neighbour}
use Rattle.machine_laws.specs.Laws.{released, is_kind, is_up_at, reported_at, reported_by, test_at, is_message, is_down, Meets, MachineLaws}
use Rattle.loop_freedom.specs.{Network.event_of, Network.seen_after, Facts.is_current}
use Rattle.loop_freedom.proofs.{Notices.IsLawfulInbox, Notices.lawful_later, Reacts.PortStep}

-- an item leaves the number of ports
pub ports_length : (p : ℕ) (item : SeenItem) (ns : List Neighbour) → length (records_after (event_of p item) ns) ≡ length ns
ports_length p (UpNotice s c) ns = length-changed_at _ p ns
ports_length p _ ns = length-changed_at _ p ns

-- an item leaves the records of the other ports
pub ports_other : (p q : ℕ) (item : SeenItem) (ns : List Neighbour) → (p ≡ q → ⊥) → slice_get (records_after (event_of p item) ns) q ≡ slice_get ns q
ports_other p q (UpNotice s c) ns d = slice_get-changed_at_other _ p q ns (λ e. d (sym e))
ports_other p q _ ns d = slice_get-changed_at_other _ p q ns (λ e. d (sym e))

-- the record of a port after an item is taken there
abbrev pub changed_by : SeenItem → Neighbour → Neighbour
changed_by (UpNotice s c) n = record { up = true; cost = c; reported = infinity }
changed_by (DownNotice s) n = record { up = false; cost = n.cost; reported = n.reported }
changed_by (CostNotice s c) n = record { up = n.up; cost = c; reported = n.reported }
changed_by (Reported m) n = record { up = n.up; cost = n.cost; reported = m.value }

-- the record of the port where an item is taken is changed by it
pub ports_same : (p : ℕ) (item : SeenItem) (ns : List Neighbour) → slice_get (records_after (event_of p item) ns) p ≡ option_map (changed_by item) (slice_get ns p)
ports_same p (UpNotice s c) ns = slice_get-changed_at _ p ns
ports_same p _ ns = slice_get-changed_at _ p ns

-- an item at one port is no message at another
other_message : (k : Kind) (p q : ℕ) (item : SeenItem) → (p ≡ q → ⊥) → is_message k q (event_of p item) ≡ false
other_message k p q (Reported m) d = and_left (p == q) (is_kind k m.kind) (ne_eqb p q d)
other_message k p q _ d = refl

-- an item at one port does not take the link of another away
other_down : (p q : ℕ) (item : SeenItem) → (p ≡ q → ⊥) → is_down q (event_of p item) ≡ false
other_down p q (DownNotice s) d = ne_eqb p q d
other_down p q _ d = refl

-- a message that ends the wait for a port is a reply that came there
released_message : (k : Kind) (p v q : ℕ) → released (Message p k v) ≡ Some q → (p ≡ q) × (k ≡ Reply)
released_message Reply p v q e = (cc, refl)
released_message _ p v q e = (cc, cc)

-- an item ends the wait for its own port alone
other_released : (p q : ℕ) (item : SeenItem) → released (event_of p item) ≡ Some q → p ≡ q
other_released p q (Reported m) e = (released_message m.kind p m.value q e).0
other_released p q _ e = cc

-- an event at another port of the same router takes no message here, and leaves the port as it was
pub port_step_other : MachineLaws → (m : Machine) (p q : ℕ) (item : SeenItem) (seen n : ℕ) → (p ≡ q → ⊥) → PortStep m (event_of p item) q seen seen n None
port_step_other laws m p q item seen n d =
    let slice : slice_get (reaction m (event_of p item)).machine.ports q ≡ slice_get m.ports q =
    ap (λ ns. slice_get ns q) (laws.keeps_records m (event_of p item)) ∙ ports_other p q item m.ports d in
    let up : is_up_at (reaction m (event_of p item)).machine q ≡ is_up_at m q = ap (λ o. test_at (λ (x : Neighbour). x.up) o) slice in
    let cur : is_current (reaction m (event_of p item)).machine q seen n ≡ is_current m q seen n = ap (λ (b : Bool). b && (seen == n)) up in
    record {
      counts = λ k. ap one_if (other_message k p q item d);
      goes_down = λ e. absurd (both_ways (is_down q (event_of p item)) (other_down p q item d) e);
      stays = λ e. cur ∙ e;
      nothing = λ e. refl;
      reports = λ e. ap reported_by slice;
      comes = λ off on. absurd (both_ways (is_current m q seen n) off (sym cur ∙ on));
      lets_go = λ r u. absurd (d (other_released p q item r));
    }

-- the message that an item is, if it is one
abbrev pub message_of : SeenItem → Option Report
message_of (Reported m) = Some m
message_of _ = None

-- whether the port that is there, if any, is up
abbrev is_up : Option Neighbour → Bool
is_up o = test_at (λ (x : Neighbour). x.up) o

-- a port is up after its up notice
up_of_up : (s c : ℕ) (o : Option Neighbour) → (o ≡ None → ⊥) → is_up (option_map (changed_by (UpNotice s c)) o) ≡ true
up_of_up s c None f = absurd (f refl)
up_of_up s c (Some x) f = refl

-- nothing is reported at a port after its up notice
reported_of_up : (s c : ℕ) (o : Option Neighbour) → reported_by (option_map (changed_by (UpNotice s c)) o) ≡ infinity
reported_of_up s c None = refl
reported_of_up s c (Some x) = refl

-- a port is down after its down notice
up_of_down : (s : ℕ) (o : Option Neighbour) → is_up (option_map (changed_by (DownNotice s)) o) ≡ false
up_of_down s None = refl
up_of_down s (Some x) = refl

-- a cost notice leaves a port up or down
up_of_cost : (s c : ℕ) (o : Option Neighbour) → is_up (option_map (changed_by (CostNotice s c)) o) ≡ is_up o
up_of_cost s c None = refl
up_of_cost s c (Some x) = refl

-- a cost notice leaves what was reported
reported_of_cost : (s c : ℕ) (o : Option Neighbour) → reported_by (option_map (changed_by (CostNotice s c)) o) ≡ reported_by o
reported_of_cost s c None = refl
reported_of_cost s c (Some x) = refl

-- a message leaves a port up or down
up_of_message : (m : Report) (o : Option Neighbour) → is_up (option_map (changed_by (Reported m)) o) ≡ is_up o
up_of_message m None = refl
up_of_message m (Some x) = refl

-- a message at a port that is up sets what was reported
reported_of_message : (m : Report) (o : Option Neighbour) → is_up o ≡ true → reported_by (option_map (changed_by (Reported m)) o) ≡ m.value
reported_of_message m None e = absurd (false≢true e)
reported_of_message m (Some x) e = refl

-- a port whose number is below the number of ports is there
port_there : (xs : List Neighbour) (p : ℕ) → p < length xs → slice_get xs p ≡ None → ⊥
port_there [] p h e = omega (arith, h)
port_there (x ∷ xs) zero h e = cc
port_there (x ∷ xs) (suc p) h e = port_there xs p (omega (arith, h)) e

module _ (laws : MachineLaws) (m : Machine) (p : ℕ) where
  -- the record of the port after the reaction is that which the item leaves
  slice_after : (item : SeenItem) → slice_get (reaction m (event_of p item)).machine.ports p ≡ option_map (changed_by item) (slice_get m.ports p)
  slice_after item = ap (λ ns. slice_get ns p) (laws.keeps_records m (event_of p item)) ∙ ports_same p item m.ports

  -- whether the port is up after the reaction is as the item leaves it
  up_after : (item : SeenItem) → is_up_at (reaction m (event_of p item)).machine p ≡ is_up (option_map (changed_by item) (slice_get m.ports p))
  up_after item = ap is_up (slice_after item)

  -- what is reported at the port after the reaction is as the item leaves it
  reported_after : (item : SeenItem) → reported_at (reaction m (event_of p item)).machine p ≡ reported_by (option_map (changed_by item) (slice_get m.ports p))
  reported_after item = ap reported_by (slice_after item)

  -- an item that may be taken is an event that the machine may meet
  pub meets_item : (item : SeenItem) (rest : List SeenItem) (seen n : ℕ) (up : Bool) → p < length m.ports → IsLawfulInbox (is_up_at m p) seen up n (item ∷ rest) → Meets m (event_of p item)
  meets_item (UpNotice s c) rest seen n up there h = (there, h.0, h.2)
  meets_item (DownNotice s) rest seen n up there h = h.0
  meets_item (CostNotice s c) rest seen n up there h = (h.0, h.2)
  meets_item (Reported w) rest seen n up there h = (h.0, h.3)

  -- the items that remain are lawful after one is taken
  pub lawful_after : (item : SeenItem) (rest : List SeenItem) (seen n : ℕ) (up : Bool) → p < length m.ports → IsLawfulInbox (is_up_at m p) seen up n (item ∷ rest)
      → IsLawfulInbox (is_up_at (reaction m (event_of p item)).machine p) (seen_after item seen) up n rest
  lawful_after (UpNotice s c) rest seen n up there h =
      let e : is_up_at (reaction m (event_of p (UpNotice s c))).machine p ≡ true = up_after (UpNotice s c) ∙ up_of_up s c (slice_get m.ports p) (port_there m.ports p there) in
      subst (λ (b : Bool). IsLawfulInbox b s up n rest) (sym e) h.3
  lawful_after (DownNotice s) rest seen n up there h =
      let e : is_up_at (reaction m (event_of p (DownNotice s))).machine p ≡ false = up_after (DownNotice s) ∙ up_of_down s (slice_get m.ports p) in
      subst (λ (b : Bool). IsLawfulInbox b seen up n rest) (sym e) h.2
  lawful_after (CostNotice s c) rest seen n up there h =
      let e : is_up_at (reaction m (event_of p (CostNotice s c))).machine p ≡ is_up_at m p = up_after (CostNotice s c) ∙ up_of_cost s c (slice_get m.ports p) in
      subst (λ (b : Bool). IsLawfulInbox b seen up n rest) (sym e) h.3
  lawful_after (Reported w) rest seen n up there h =
      let e : is_up_at (reaction m (event_of p (Reported w))).machine p ≡ is_up_at m p = up_after (Reported w) ∙ up_of_message w (slice_get m.ports p) in
      subst (λ (b : Bool). IsLawfulInbox b seen up n rest) (sym e) h.4

  -- a port that saw another session does not know of the link's
  stale : (u : Bool) (seen n : ℕ) → (seen ≡ n → ⊥) → (u && (seen == n)) ≡ false
  stale true seen n d = ne_eqb seen n d
  stale false seen n d = refl

  -- a truth value beside one that is true counts as itself, with nothing added
  one_of : (b : Bool) (c : Bool) → b ≡ true → one_if (b && c) ≡ one_if c + 0
  one_of true c e = omega arith
  one_of false c e = cc

  -- what an item does to the port at which it is taken, on a live link
  pub port_step_same : (item : SeenItem) (rest : List SeenItem) (seen n : ℕ) → p < length m.ports → IsLawfulInbox (is_up_at m p) seen true n (item ∷ rest)
      → PortStep m (event_of p item) p seen (seen_after item seen) n (message_of item)
  port_step_same (UpNotice s c) rest seen n there h =
      let off : is_current m p seen n ≡ false = and_left (is_up_at m p) (seen == n) h.0 in
      record {
        counts = λ k. refl;
        goes_down = λ e. absurd (false≢true e);
        stays = λ e. absurd (both_ways (is_current m p seen n) off e);
        nothing = λ e. refl;
        reports = λ e. absurd (both_ways (is_current m p seen n) off e);
        comes = λ a b. (reported_after (UpNotice s c) ∙ reported_of_up s c (slice_get m.ports p), h.0);
        lets_go = λ r u. cc;
      }
  port_step_same (DownNotice s) rest seen n there h =
      let later : seen < n = lawful_later seen n rest h.2 in
      let off : is_current m p seen n ≡ false = stale (is_up_at m p) seen n (λ e. omega (arith, later, e)) in
      let low : is_up_at (reaction m (event_of p (DownNotice s))).machine p ≡ false = up_after (DownNotice s) ∙ up_of_down s (slice_get m.ports p) in
      let off' : is_current (reaction m (event_of p (DownNotice s))).machine p seen n ≡ false = and_left (is_up_at (reaction m (event_of p (DownNotice s))).machine p) (seen == n) low in
      record {
        counts = λ k. refl;
        goes_down = λ e. low;
        stays = λ e. absurd (both_ways (is_current m p seen n) off e);
        nothing = λ e. refl;
        reports = λ e. absurd (both_ways (is_current m p seen n) off e);
        comes = λ a b. absurd (both_ways (is_current (reaction m (event_of p (DownNotice s))).machine p seen n) off' b);
        lets_go = λ r u. absurd (both_ways (is_up_at (reaction m (event_of p (DownNotice s))).machine p) low u);
      }
  port_step_same (CostNotice s c) rest seen n there h =
      let same : is_up_at (reaction m (event_of p (CostNotice s c))).machine p ≡ is_up_at m p = up_after (CostNotice s c) ∙ up_of_cost s c (slice_get m.ports p) in
      let cur : is_current (reaction m (event_of p (CostNotice s c))).machine p seen n ≡ is_current m p seen n = ap (λ (b : Bool). b && (seen == n)) same in
      record {
        counts = λ k. refl;
        goes_down = λ e. absurd (false≢true e);
        stays = λ e. cur ∙ e;
        nothing = λ e. refl;
        reports = λ e. reported_after (CostNotice s c) ∙ reported_of_cost s c (slice_get m.ports p);
        comes = λ off on. absurd (both_ways (is_current m p seen n) off (sym cur ∙ on));
        lets_go = λ r u. cc;
      }
  port_step_same (Reported w) rest seen n there h =
      let same : is_up_at (reaction m (event_of p (Reported w))).machine p ≡ is_up_at m p = up_after (Reported w) ∙ up_of_message w (slice_get m.ports p) in
      let cur : is_current (reaction m (event_of p (Reported w))).machine p seen n ≡ is_current m p seen n = ap (λ (b : Bool). b && (seen == n)) same in
      let on : is_current m p seen n ≡ true = and_from (is_up_at m p) (seen == n) h.0 (eq-eqb seen n h.1) in
      record {
        counts = λ k. one_of (p == p) (is_kind k w.kind) (eq-eqb p p refl);
        goes_down = λ e. absurd (false≢true e);
        stays = λ e. cur ∙ e;
        nothing = λ e. absurd (both_ways (is_current m p seen n) e on);
        reports = λ e. reported_after (Reported w) ∙ reported_of_message w (slice_get m.ports p) h.0;
        comes = λ a b. absurd (both_ways (is_current m p seen n) a on);
        lets_go = λ r u. ap (λ (k : Kind). one_if (is_kind Reply k) + 0) ((released_message w.kind p w.value p r).1);
      }
