-- The four facts, from what every state keeps.
use Rattle.std.proofs.Common.{ap, subst, ◌∙◌, arith, inl, inr, ◌≡◌, ◌⊎◌, ℕ, ◌<◌, ◌≤◌, Bool, false}
use Rattle.network_model.proofs.Common.{Reply, LinkEnd, State, one_if}
use Rattle.machine_laws.proofs.MachineLaws.{machine_laws}
use Rattle.loop_freedom.specs.Network.{HoldsInEveryState, Topology}
use Rattle.loop_freedom.specs.Facts.{End, count, pipe, LinkFacts, HasFacts, end_at}
use Rattle.loop_freedom.proofs.{Lists.one_if_at_most_one, Link.EndInvariant, Invariant.Invariant, Opened.opening_keeps, Walks.run_keeps}

-- where nothing is awaited, or there is a reply, there are as many replies as are awaited
answer : (awaits : Bool) (replies : ℕ) → (awaits ≡ false) ⊎ (0 < replies) → one_if awaits ≤ replies
answer awaits replies (inl not) = let none : one_if awaits ≡ 0 = ap one_if not in omega (arith, none)
answer awaits replies (inr some) = omega (arith, one_if_at_most_one awaits, some)

-- the facts hold between two ends that keep the invariant both ways
pub link_facts : (x y : End) → EndInvariant x y → EndInvariant y x → LinkFacts x y
link_facts x y h g = record {
  feasible_below_sent = h.feasible_below_sent;
  feasible_below_kept = h.feasible_below_kept;
  published_below_sent = h.published_below_sent;
  published_below_kept = h.published_below_kept;
  control_edge_falls = h.control_edge_falls;
  published_edge_falls = h.published_edge_falls;
  control_edge_waits = λ active chosen answered. h.control_edge_waits active chosen (answer y.awaits (count Reply (pipe x)) answered);
  published_edge_waits = λ active shown answered. h.published_edge_waits active shown (answer y.awaits (count Reply x.out) answered);
}

-- the facts hold in a state that keeps the invariant
pub facts_kept : (t : Topology) (s : State) → Invariant t s → HasFacts t s
facts_kept t s I e valid up =
    link_facts (end_at t s e) (end_at t s (t.far e)) (I.links e valid up)
    (subst (λ (x : LinkEnd). EndInvariant (end_at t s (t.far e)) (end_at t s x)) (t.far_far e valid) (I.links (t.far e) (t.far_valid e valid) (I.up_far e valid ∙ up)))

-- the facts hold in every state of every run
pub always_facts : HoldsInEveryState HasFacts
always_facts t first last O r = facts_kept t last (run_keeps machine_laws t first last (opening_keeps t first O) r)
