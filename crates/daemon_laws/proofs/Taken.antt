-- A message of the session that its end is in is not refused.
use Rattle.std.proofs.Common.{refl, ◌∙◌, ◌≡◌, ℕ, true, false, ◌&&◌, ◌==◌, Option, Some, None, slice_get, eq-eqb, eqb-true}
use Rattle.no_packet_loops.proofs.Common.{option_map_or, and_parts, and_from, false≢true, is_up_at, Prefix, Port, machine_of, session_at, Topology, LinkEnd}
use Rattle.no_packet_loops.proofs.Machines.{prefix_itself}
use Rattle.c_interface.specs.{declared.fault.CallFault.CallFault, Faults.first_of}
use Rattle.single_router.specs.Inputs.{told_fault, port_fault, message_fault, kind_fault}
use Rattle.single_router.specs.declared.input.Input.TheVariants as input
use Rattle.daemon_laws.specs.{Processes.Carried, Processes.Processes, Packets.is_in_session}
use Rattle.daemon_laws.proofs.{Seen.is_port_in, Items.up_is, Items.session_is, Invariant.router_at, Invariant.Invariant, Polite.polite}

module _ (t : Topology) (w : Processes) (e : LinkEnd) (v : t.valid e ≡ true) (c : Carried) (at : slice_get (w.coming e) 0 ≡ Some c) (pfd : ℕ → ℕ) (I : Invariant t (c.message).prefix pfd w) where
  -- the prefix of the message
  abbrev p : Prefix
  p = (c.message).prefix

  -- what the tests of the message find at a port
  abbrev found : Option Port → Option CallFault
  found o = port_fault o (λ x. first_of (message_fault c.session x) (kind_fault (machine_of (router_at w e) p).computation e.port (c.message).kind))

  -- nothing, at a port that is in its session
  nothing_found : (x : Port) → slice_get (router_at w e).ports e.port ≡ Some x → (x.up && (x.session == c.session)) ≡ true → found (Some x) ≡ None
  nothing_found x there on =
      let parts = and_parts x.up (x.session == c.session) on in
      let up : is_up_at (machine_of (router_at w e) p) e.port ≡ true = up_is p (router_at w e) (I.keeps e.router) e.port x there ∙ parts.0 in
      let session : (session_at (router_at w e).ports e.port == c.session) ≡ true = eq-eqb (session_at (router_at w e).ports e.port) c.session (session_is (router_at w e) e.port x there ∙ eqb-true x.session c.session parts.1) in
      let on' : is_port_in p (router_at w e) e.port c.session ≡ true = and_from (is_up_at (machine_of (router_at w e) p) e.port) (session_at (router_at w e).ports e.port == c.session) up session in
      rw (parts.0, parts.1) (polite t p pfd w I e v c at (prefix_itself p) on')

  -- so a message that comes in the session of its end is taken
  pub taken_there : is_in_session w e c.session ≡ true → told_fault (input.Message e.port c.session c.message) (w.routers e.router) ≡ None
  taken_there on = by_port (slice_get (router_at w e).ports e.port) refl on
    where
      by_port : (o : Option Port) → slice_get (router_at w e).ports e.port ≡ o → option_map_or (λ (x : Port). x.up && (x.session == c.session)) o false ≡ true → found o ≡ None
      by_port None there on' = absurd (false≢true on')
      by_port (Some x) there on' = nothing_found x there on'
