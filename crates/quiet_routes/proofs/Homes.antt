-- In a quiet world the attachment of each machine is that of the world's record.
use Rattle.std.proofs.Common.{refl, sym, ap, ◌∙◌, arith, ◌≡◌, ℕ, ◌<◌, true, List, [], length, Option, Some, None, slice_get, option_and_then}
use Rattle.no_packet_loops.proofs.Common.{option_map_or, slice_get_within, Prefix, prefix_cmp, IsCost, opening_machine, Router, Attachments, World, Network, machine_of, attachment_at, is_quiet, None_not_Some, element_there, State, view, find as row_of}
use Rattle.no_packet_loops.proofs.{Wiring.IsWired, Kept.attachment_then, Runs.Reached}
use Rattle.quiet_routes.proofs.{Worlds.Good, Still.no_notice}

module _ (n : Network) (N : IsWired n) (p : Prefix) (w : World) (rs : List Router) (R : Reached n N p w rs) (G : Good p w) (quiet : is_quiet w ≡ true) (count : length w.attachments ≡ length w.routers) where
  -- the view of the world
  abbrev s : State
  s = view n p w R.published_fd

  -- the attachment of a router's machine is where its notices lead, of which there are none
  recorded : (i : ℕ) (r : Router) (a : Attachments) → slice_get w.routers i ≡ Some r → slice_get w.attachments i ≡ Some a → (machine_of r p).attachment ≡ row_of prefix_cmp p a.costs
  recorded i r a at has = sym (ap (attachment_then p (machine_of r p).attachment) (no_notice n N p w rs R G quiet i a has)) ∙ (R.kept.attachments_kept i r a at has).leads

  -- the attachment of each machine is that of the record
  pub home_is : (i : ℕ) → (s.machine i).attachment ≡ attachment_at w i p
  home_is i = by_router (slice_get w.routers i) refl (slice_get w.attachments i) refl
    where
      by_router : (x : Option Router) → slice_get w.routers i ≡ x → (y : Option Attachments) → slice_get w.attachments i ≡ y
          → (option_map_or (λ (r : Router). machine_of r p) x (opening_machine None [])).attachment ≡ option_and_then (λ (a : Attachments). row_of prefix_cmp p a.costs) y
      by_router None at None has = refl
      by_router None at (Some a) has =
          let there : i < length w.routers = (let lt = slice_get_within w.attachments i a has in omega (arith, lt, count)) in
          absurd (None_not_Some (sym at ∙ (element_there w.routers i there).1))
      by_router (Some r) at None has =
          let there : i < length w.attachments = (let lt = slice_get_within w.routers i r at in omega (arith, lt, count)) in
          absurd (None_not_Some (sym has ∙ (element_there w.attachments i there).1))
      by_router (Some r) at (Some a) has = recorded i r a at has

  -- the cost of each attachment is a cost
  pub home_cost : (i c : ℕ) → (s.machine i).attachment ≡ Some c → IsCost c
  home_cost i c is = by_router (slice_get w.routers i) refl (slice_get w.attachments i) refl (sym (home_is i) ∙ is)
    where
      by_router : (x : Option Router) → slice_get w.routers i ≡ x → (y : Option Attachments) → slice_get w.attachments i ≡ y → option_and_then (λ (a : Attachments). row_of prefix_cmp p a.costs) y ≡ Some c → IsCost c
      by_router x at None has e = absurd (None_not_Some e)
      by_router None at (Some a) has e =
          let there : i < length w.routers = (let lt = slice_get_within w.attachments i a has in omega (arith, lt, count)) in
          absurd (None_not_Some (sym at ∙ (element_there w.routers i there).1))
      by_router (Some r) at (Some a) has e = (R.kept.attachments_kept i r a at has).costs c e
