-- What a router is told, it takes or refuses: either is a step of the router.
use Rattle.std.proofs.Common.{refl, sym, ap, subst, ◌∙◌, arith, inl, inr, ◌≡◌, ◌≢◌, ℕ, zero, suc, List, [], ◌∷◌, ◌<◌, ◌≤◌, Bool, true, false, ◌&&◌, ◌==◌, nat_lt, is_none, if◌then◌else◌, Option, Some, None, slice_get, length, eqb-true, eq-eqb, ltb-true}
use Rattle.no_packet_loops.proofs.Common.{option_map_or, LinkEnd, None_not_Some, Some_injective, and_parts, and_from, false≢true, is_up_at, Event, Prefix, prefix_eq, Message, Port, Router, machine_of, session_at, router_accepting, IsSound, UpNotice, DownNotice, CostNotice, Reported, msg_of, Item}
use Rattle.network_model.proofs.Common.{both_ways, cases_eq, and_left, false_from_ne_true, Report, infinity}
use Rattle.single_router.specs.declared.input.Input.{Input}
use Rattle.c_interface.specs.{Faults.first_of, declared.fault.CallFault.CallFault}
use Rattle.c_interface.specs.declared.fault.CallFault.TheVariants as fault
use Rattle.single_router.specs.Inputs.{told_fault, router_after, port_fault, up_fault, down_fault, message_fault, kind_fault}
use Rattle.single_router.specs.declared.input.Input.TheVariants as input
use Rattle.no_packet_loops.proofs.{Machines.prefix_same, Taking.port_within}
use Rattle.daemon_laws.specs.{Processes.Processes, Packets.is_in_session, Happenings.IsLocalInput, Happenings.told_router}
use Rattle.daemon_laws.proofs.{Seen.is_port_in, Routers.RouterKept, Routers.Unmoved, Routers.unmoved_elsewhere, Moving.in_session}
use Rattle.daemon_laws.proofs.Items.{up_is, as_many, session_is, took_up, took_down, took_cost, took_message}
use Rattle.daemon_laws.proofs.Goes.{Goes, nothing, goes_unmoved, goes_took, goes_home, taken_in}

-- ---- what the tests say

-- the port is there, and has passed the test
pub record Passed (o : Option Port) (test : Port → Option CallFault) : Type 0 where
  pub port : Port
  pub there : o ≡ Some port
  pub passes : test port ≡ None

-- a port at which no fault is found
pub passed : (o : Option Port) (test : Port → Option CallFault) → port_fault o test ≡ None → Passed o test
passed None test h = absurd (None_not_Some (sym h))
passed (Some x) test h = record { port = x; there = refl; passes = h }

-- of two tests that find nothing, neither does
pub neither : (a b : Option CallFault) → first_of a b ≡ None → (a ≡ None) × (b ≡ None)
neither None b h = (refl, h)
neither (Some f) b h = absurd (None_not_Some (sym h))

-- a port whose link may come up in this session
up_passes : (session : ℕ) (x : Port) → up_fault session x ≡ None → (x.up ≡ false) × (x.session < session)
up_passes session x h = by_up x.up refl h
  where
    by_session : (b : Bool) → nat_lt x.session session ≡ b → (if b then None else Some fault.OtherSession) ≡ None → x.session < session
    by_session true is g = ltb-true x.session session is
    by_session false is g = absurd (None_not_Some (sym g))

    by_up : (b : Bool) → x.up ≡ b → (if b then Some fault.AlreadyUp else (if nat_lt x.session session then None else Some fault.OtherSession)) ≡ None → (x.up ≡ false) × (x.session < session)
    by_up true is g = absurd (None_not_Some (sym g))
    by_up false is g = (is, by_session (nat_lt x.session session) refl g)

-- a port whose link is up
down_passes : (x : Port) → down_fault x ≡ None → x.up ≡ true
down_passes x h = by_up x.up refl h
  where
    by_up : (b : Bool) → x.up ≡ b → (if b then None else Some fault.IsDown) ≡ None → x.up ≡ true
    by_up true is g = is
    by_up false is g = absurd (None_not_Some (sym g))

-- a port whose link is up in this session
pub message_passes : (session : ℕ) (x : Port) → message_fault session x ≡ None → (x.up ≡ true) × (x.session ≡ session)
message_passes session x h = by_up x.up refl h
  where
    by_session : (b : Bool) → (x.session == session) ≡ b → (if b then None else Some fault.OtherSession) ≡ None → x.session ≡ session
    by_session true is g = eqb-true x.session session is
    by_session false is g = absurd (None_not_Some (sym g))

    by_up : (b : Bool) → x.up ≡ b → (if b then (if x.session == session then None else Some fault.OtherSession) else Some fault.IsDown) ≡ None → (x.up ≡ true) × (x.session ≡ session)
    by_up true is g = (is, by_session (x.session == session) refl g)
    by_up false is g = absurd (None_not_Some (sym g))

-- a port that is not there is past the last
past_from_none : (ports : List Port) (q : ℕ) → slice_get ports q ≡ None → length ports ≤ q
past_from_none [] q e = omega arith
past_from_none (x ∷ xs) zero e = absurd (None_not_Some (sym e))
past_from_none (x ∷ xs) (suc q) e = let h = past_from_none xs q e in omega (arith, h)

-- no machine has a port up that its router does not have
pub none_up : (p : Prefix) (r : Router) → RouterKept p r → (q : ℕ) → slice_get r.ports q ≡ None → is_up_at (machine_of r p) q ≡ false
none_up p r R q e = false_from_ne_true (is_up_at (machine_of r p) q) (λ up. (
    let within : q < length (machine_of r p).ports = port_within (machine_of r p).ports q up in
    let same = as_many p r R in
    let past : length r.ports ≤ q = past_from_none r.ports q e in
    omega (arith, within, same, past)))

-- a router is in a session by its port where it is by its machine
pub in_session_is : (p : Prefix) (w : Processes) (e : LinkEnd) → RouterKept p (w.routers e.router) → (session : ℕ) → is_in_session w e session ≡ is_port_in p (w.routers e.router) e.port session
in_session_is p w e R session = by_port (slice_get (w.routers e.router).ports e.port) refl
  where
    by_port : (o : Option Port) → slice_get (w.routers e.router).ports e.port ≡ o → option_map_or (λ (x : Port). x.up && (x.session == session)) o false ≡ is_port_in p (w.routers e.router) e.port session
    by_port None at = sym (and_left (is_up_at (machine_of (w.routers e.router) p) e.port) (session_at (w.routers e.router).ports e.port == session) (none_up p (w.routers e.router) R e.port at))
    by_port (Some x) at =
        ap (λ b. b && (x.session == session)) (sym (up_is p (w.routers e.router) R e.port x at))
        ∙ ap (λ (s : ℕ). is_up_at (machine_of (w.routers e.router) p) e.port && (s == session)) (sym (session_is (w.routers e.router) e.port x at))

-- ---- an input of a process's own

-- a router's step that takes nothing from any port
pub record GoesAlone (p : Prefix) (told_it : Input) (r r' : Router) : Type 0 where
  pub q : ℕ
  pub took : ℕ → Option Report
  pub goes : Goes p r r' q took
  pub takes_nothing : (n : ℕ) → took n ≡ None
  -- where a port is in a later session than before, the process told that its link came up in that session
  pub grows : (j : ℕ) → session_at r.ports j < session_at r'.ports j → (c : ℕ) × (told_it ≡ input.Up j (session_at r'.ports j) c)

-- a router that makes no step
pub still : (p : Prefix) (r : Router) → RouterKept p r → Unmoved p r r
still p r R = record { machine_is = refl; published_is = refl; seen_is = λ j. refl; ripe_is = λ j. refl; unripe_is = λ j. refl; keeps = R }

-- an item that leaves the session at its port leaves the sessions of all
same_sessions : (r r' : Router) (q j : ℕ) → session_at r'.ports q ≡ session_at r.ports q → ((k : ℕ) → k ≢ q → session_at r'.ports k ≡ session_at r.ports k) → session_at r.ports j < session_at r'.ports j → ⊥
same_sessions r r' q j here beside lt = elim (cases_eq j q) [
  | inl e ↦ (let same : session_at r'.ports j ≡ session_at r.ports j = ap (λ (x : ℕ). session_at r'.ports x) e ∙ here ∙ ap (λ (x : ℕ). session_at r.ports x) (sym e) in omega (arith, lt, same))
  | inr d ↦ (let same = beside j d in omega (arith, lt, same))
]

-- nothing either way is nothing
none_either : (b : Bool) → ◌≡◌ {A = Option Report} (if b then None else None) None
none_either true = refl
none_either false = refl

module _ (p : Prefix) (r : Router) (R : RouterKept p r) (sound : IsSound (machine_of r p)) where
  -- a router that takes an input of its process's own, in which no fault is found
  goes_own : (w : Processes) (k : ℕ) (i : Input) → IsLocalInput w k i → told_fault i r ≡ None → GoesAlone p i r (router_after i r)
  goes_own w k (input.Up q s c) own h =
      let P = passed (slice_get r.ports q) (up_fault s) h in
      let u = up_passes s P.port P.passes in
      let T = took_up p r R q P.port P.there s c u.0 u.1 (let g = (own.1).positive in omega (arith, g)) (own.1).small in
      let up_to : (j : ℕ) → j ≡ q → s ≡ session_at (router_accepting q (Item.Up s c) r).ports j = λ j e. sym (ap (λ (x : ℕ). session_at (router_accepting q (Item.Up s c) r).ports x) e ∙ T.seen_here) in
      record {
        q = q;
        took = taken_in p (router_accepting q (Item.Up s c) r) q (UpNotice s c);
        goes = goes_took p q (UpNotice s c) r (router_accepting q (Item.Up s c) r) sound T;
        grows = λ j lt. elim (cases_eq j q) [
          | inl e ↦ (c, (λ z. input.Up (sym e z) (up_to j e z) c))
          | inr d ↦ absurd (let same = T.seen_beside j d in omega (arith, lt, same))
        ];
        takes_nothing = λ n. none_either (is_port_in p (router_accepting q (Item.Up s c) r) q n);
      }
  goes_own w k (input.Down q) own h =
      let P = passed (slice_get r.ports q) down_fault h in
      let s = session_at r.ports q in
      let T = took_down p r R q P.port P.there (down_passes P.port P.passes) in
      record {
        q = q;
        took = taken_in p (router_accepting q (Item.Down s) r) q (DownNotice s);
        goes = goes_took p q (DownNotice s) r (router_accepting q (Item.Down s) r) sound T;
        grows = λ j lt. absurd (same_sessions r (router_accepting q (Item.Down s) r) q j T.seen_here T.seen_beside lt);
        takes_nothing = λ n. none_either (is_port_in p (router_accepting q (Item.Down s) r) q n);
      }
  goes_own w k (input.Cost q c) own h =
      let P = passed (slice_get r.ports q) down_fault h in
      let s = session_at r.ports q in
      let T = took_cost p r R q P.port P.there c (down_passes P.port P.passes) (let g = own.positive in omega (arith, g)) own.small in
      record {
        q = q;
        took = taken_in p (router_accepting q (Item.Cost s c) r) q (CostNotice s c);
        goes = goes_took p q (CostNotice s c) r (router_accepting q (Item.Cost s c) r) sound T;
        grows = λ j lt. absurd (same_sessions r (router_accepting q (Item.Cost s c) r) q j T.seen_here T.seen_beside lt);
        takes_nothing = λ n. none_either (is_port_in p (router_accepting q (Item.Cost s c) r) q n);
      }
  goes_own w k (input.Message q s m) own h = absurd own
  goes_own w j (input.Attached k c) own h = record {
    q = 0;
    took = nothing;
    goes = goes_home p r 0 (record { prefix = k; cost = Some c }) R sound (λ d e. (let g = own.positive in let same = Some_injective e in omega (arith, g, same))) (λ d e. (let g = own.small in let same = Some_injective e in omega (arith, g, same)));
    takes_nothing = λ n. refl;
    grows = λ j lt. absurd (omega (arith, lt));
  }
  goes_own w j (input.Detached k) own h = record {
    q = 0;
    took = nothing;
    goes = goes_home p r 0 (record { prefix = k; cost = None }) R sound (λ d e. absurd (None_not_Some e)) (λ d e. absurd (None_not_Some e));
    takes_nothing = λ n. refl;
    grows = λ j lt. absurd (omega (arith, lt));
  }

  -- a router that refuses
  goes_not : (i : Input) → GoesAlone p i r r
  goes_not i = record { q = 0; took = nothing; goes = goes_unmoved p r r 0 sound (still p r R); takes_nothing = λ n. refl; grows = λ j lt. absurd (omega (arith, lt)) }

  -- a router that is told an input of its process's own
  pub goes_told : (w : Processes) (k : ℕ) (i : Input) → IsLocalInput w k i → GoesAlone p i r (told_router i r)
  goes_told w k i own = by_fault (told_fault i r) refl
    where
      by_fault : (o : Option CallFault) → told_fault i r ≡ o → GoesAlone p i r (if is_none o then router_after i r else r)
      by_fault None is = goes_own w k i own is
      by_fault (Some f) is = goes_not i

  -- ---- a message

  -- a router's step that takes a message from port q, of the session in which the router is there, or takes nothing
  pub record GoesWith (q session : ℕ) (m : Message) (r' : Router) : Type 0 where
    pub took : ℕ → Option Report
    pub goes : Goes p r r' q took
    -- no session is another than before
    pub same : (j : ℕ) → session_at r'.ports j ≡ session_at r.ports j
    -- a message of the prefix is taken in its session, if the router is in that, and in no other, where its kind is no fault
    pub takes : (n : ℕ) → is_port_in p r' q n ≡ true → prefix_eq p m.prefix ≡ true → session ≡ n → (is_port_in p r q n ≡ true → kind_fault (machine_of r p).computation q m.kind ≡ None) → took n ≡ Some (msg_of m)
    pub takes_not : (n : ℕ) → (session ≡ n → ⊥) → took n ≡ None
    pub takes_other : (n : ℕ) → prefix_eq p m.prefix ≡ false → took n ≡ None

  -- the message is taken
  goes_message : (q session : ℕ) (m : Message) → m.value ≤ infinity → told_fault (input.Message q session m) r ≡ None → prefix_eq p m.prefix ≡ true → GoesWith q session m (router_accepting q (Item.Message m) r)
  goes_message q session m bounded h same =
      let fault = kind_fault (machine_of r m.prefix).computation q m.kind in
      let P = passed (slice_get r.ports q) (λ x. first_of (message_fault session x) fault) h in
      let u = message_passes session P.port (neither (message_fault session P.port) fault P.passes).0 in
      let r' = router_accepting q (Item.Message m) r in
      let at : session_at r.ports q ≡ session = session_is r q P.port P.there ∙ u.1 in
      let T = took_message p r R q P.port P.there m same u.0 bounded in
      let G = goes_took p q (Reported (msg_of m)) r r' sound T in
      let up : (n : ℕ) → session ≡ n → is_port_in p r' q n ≡ true = λ n e. and_from (is_up_at (machine_of r' p) q) (session_at r.ports q == n)
      (up_is p r' (G.keeps) q P.port P.there ∙ u.0) (eq-eqb (session_at r.ports q) n (at ∙ e)) in
      record {
        took = taken_in p r' q (Reported (msg_of m));
        goes = G;
        same = λ j. refl;
        takes = λ n on s e polite. ap (λ b. if b then Some (msg_of m) else None) (up n e);
        takes_not = λ n d. ap (λ b. if b then Some (msg_of m) else None) (false_from_ne_true (is_port_in p r' q n) (λ on. d (sym at ∙ in_session p r' q n on)));
        takes_other = λ n apart. absurd (both_ways (prefix_eq p m.prefix) apart same);
      }

  -- a message of another prefix is taken
  goes_message_other : (q session : ℕ) (m : Message) → prefix_eq p m.prefix ≡ false → GoesWith q session m (router_accepting q (Item.Message m) r)
  goes_message_other q session m apart = record {
    took = nothing;
    goes = goes_unmoved p r (router_accepting q (Item.Message m) r) q sound (unmoved_elsewhere p r R m.prefix (Event.Message q m.kind m.value) apart);
    same = λ j. refl;
    takes = λ n on same e polite. absurd (both_ways (prefix_eq p m.prefix) apart same);
    takes_not = λ n d. refl;
    takes_other = λ n a. refl;
  }

  -- a message is refused, since the router is not in its session, or since its kind is a fault
  goes_message_not : (q session : ℕ) (m : Message) (f : CallFault) → told_fault (input.Message q session m) r ≡ Some f → GoesWith q session m r
  goes_message_not q session m f h = record {
    took = nothing;
    goes = goes_unmoved p r r q sound (still p r R);
    same = λ j. refl;
    takes = λ n on same e polite.
        let kind_is : kind_fault (machine_of r m.prefix).computation q m.kind ≡ None = subst (λ (k : Prefix). kind_fault (machine_of r k).computation q m.kind ≡ None) (prefix_same p m.prefix same) (polite on) in
        absurd (not_up (slice_get r.ports q) refl h kind_is (subst (λ (k : ℕ). is_port_in p r q k ≡ true) (sym e) on));
    takes_not = λ n d. refl;
    takes_other = λ n a. refl;
  }
    where
      not_up : (o : Option Port) → slice_get r.ports q ≡ o → port_fault o (λ x. first_of (message_fault session x) (kind_fault (machine_of r m.prefix).computation q m.kind)) ≡ Some f
          → kind_fault (machine_of r m.prefix).computation q m.kind ≡ None → is_port_in p r q session ≡ true → ⊥
      not_up None at g kind_is on = false≢true (sym (none_up p r R q at) ∙ (and_parts (is_up_at (machine_of r p) q) (session_at r.ports q == session) on).0)
      not_up (Some x) at g kind_is on =
          let parts = and_parts (is_up_at (machine_of r p) q) (session_at r.ports q == session) on in
          let up : x.up ≡ true = sym (up_is p r R q x at) ∙ parts.0 in
          let ses : x.session ≡ session = sym (session_is r q x at) ∙ eqb-true (session_at r.ports q) session parts.1 in
          let none : message_fault session x ≡ None = rw (up, eq-eqb x.session session ses) refl in
          None_not_Some (sym (ap (λ o. first_of o (kind_fault (machine_of r m.prefix).computation q m.kind)) none ∙ kind_is) ∙ g)

  -- a router to which a message comes
  pub goes_with : (q session : ℕ) (m : Message) → (prefix_eq p m.prefix ≡ true → m.value ≤ infinity) → GoesWith q session m (told_router (input.Message q session m) r)
  goes_with q session m bounded = by_fault (told_fault (input.Message q session m) r) refl
    where
      by_prefix : told_fault (input.Message q session m) r ≡ None → (b : Bool) → prefix_eq p m.prefix ≡ b → GoesWith q session m (router_after (input.Message q session m) r)
      by_prefix is true same = goes_message q session m (bounded same) is same
      by_prefix is false apart = goes_message_other q session m apart

      by_fault : (o : Option CallFault) → told_fault (input.Message q session m) r ≡ o → GoesWith q session m (if is_none o then router_after (input.Message q session m) r else r)
      by_fault None is = by_prefix is (prefix_eq p m.prefix) refl
      by_fault (Some f) is = goes_message_not q session m f is
