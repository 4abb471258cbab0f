use Rattle.std.proofs.Common.{◌≡◌, ◌⊎◌, ◌+◌, ◌≤◌, Err, IfErr, vec_len}
use Rattle.network_model.specs.declared.step.Refusal.{Refusal}
use Rattle.guarded.specs.{Served.IsTurnRefused, Shares.IsHolder, Shares.owes}
use Rattle.control.proofs.control.Control.give_all_back.Given as goal

abbrev pub invariant-loop-errand : goal.invariant-loop-errand
invariant-loop-errand g l =
    (vec_len l.errands ≤ owes l.share)
    × IfErr l.answer (IsTurnRefused g.N.ControlName.opened g.N.ControlName.asked)
    × IsHolder l.fn.share l.share
    × ((l.answer ≡ Err Refusal.WrongTicket) ⊎ ((owes l.share + vec_len l.initial.errands ≡ owes l.fn.share + vec_len l.errands) × (l.answer ≡ l.initial.answer)))

abbrev pub decreases-loop-errand : goal.decreases-loop-errand
decreases-loop-errand g l = vec_len l.errands
