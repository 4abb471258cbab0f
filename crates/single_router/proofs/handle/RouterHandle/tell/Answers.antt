use Rattle.std.proofs.Common.{rules, ◌≡◌, Result, Ok, Err, Option, None, Some, IfErr, inr, sym, ap, subst}
use Rattle.c_interface.specs.{Faults.fault_number, declared.fault.CallFault.CallFault}
use Rattle.single_router.specs.{Bounded.BoundedRouter, Bounded.bounded_fault, Inputs.IsRefusedOnlyBy, Inputs.InputNeedsMemory, declared.input.Input.Input}
use Rattle.single_router.specs.Handles.{handle_router}
use Rattle.single_router.specs.Calls.{IsStatusOnlyBy, ReadNeedsMemory, tell_fault}
use Rattle.single_router.proofs.handle.RouterHandle.tell.Goals as goal

-- what a router refuses is told by the number of its fault
status_of : (o : Option CallFault) (needs : Type 0) (f : CallFault) → IsRefusedOnlyBy o needs f → IsStatusOnlyBy o needs (fault_number f)
status_of None needs f is = inr (ap fault_number is.0, is.1)
status_of (Some g) needs f is = ap fault_number is

refused : {X : Type 0} (o : Option CallFault) (needs : Type 0) (r : Result X CallFault) → IfErr r (IsRefusedOnlyBy o needs) → IfErr r (λ f. IsStatusOnlyBy o needs (fault_number f))
refused o needs (Ok x) h = h
refused o needs (Err f) h = status_of o needs f h

-- src/lib.rt: the router that was told is the one that the handle held
pub returns-clause-err : goal.returns-clause-err
returns-clause-err c =
    let b = c.deref_mut.result.now in
    let is_read : c.args.read ≡ Ok c.in_ok-input.input = search rules in
    let is_held : handle_router c.args.self.now ≡ Some b = search rules in
    subst (λ (x : Result Input CallFault). IfErr c.tell-outcome.result (λ f. IsStatusOnlyBy (tell_fault x (handle_router c.args.self.now)) (ReadNeedsMemory x (handle_router c.args.self.now)) (fault_number f))) (sym is_read)
    (subst (λ (o : Option BoundedRouter). IfErr c.tell-outcome.result (λ f. IsStatusOnlyBy (tell_fault (Ok c.in_ok-input.input) o) (ReadNeedsMemory (Ok c.in_ok-input.input) o) (fault_number f))) (sym is_held)
    (refused (bounded_fault c.in_ok-input.input b) (InputNeedsMemory c.in_ok-input.input b.router) c.tell-outcome.result c.tell-outcome.ensures.cause))

pub returns-in_err-input-clause-unchanged : goal.returns-in_err-input-clause-unchanged
returns-in_err-input-clause-unchanged c = search rules

pub returns-in_default-clause-unchanged : goal.returns-in_default-clause-unchanged
returns-in_default-clause-unchanged c = search rules

pub returns-clause-unchanged : goal.returns-clause-unchanged
returns-clause-unchanged c = search rules
