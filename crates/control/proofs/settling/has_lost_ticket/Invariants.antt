use Rattle.guarded.specs.Shares.{KeptTicketsBefore}
use Rattle.control.proofs.settling.has_lost_ticket.Given as goal

-- no ticket was handed back so far
abbrev pub invariant-loop-place : goal.invariant-loop-place
invariant-loop-place g l = KeptTicketsBefore l.place l.shares
