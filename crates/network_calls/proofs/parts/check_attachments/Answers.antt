use Rattle.std.proofs.Common.{◌∙◌, sym, arith}
use Rattle.network_calls.specs.Parts.{attachment_parts_fault}
use Rattle.std.proofs.lemmas.List.{get_or_default}
use Rattle.network_calls.proofs.Lists.{found, none_left, passed}
use Rattle.network_calls.proofs.parts.check_attachments.Goals as goal

pub loop-place-preserved : goal.loop-place-preserved
loop-place-preserved c = sym (passed attachment_parts_fault c.args.attachments.now c.loop-place.place _ (omega arith) (get_or_default c.args.attachments.now c.loop-place.place _ _ (omega arith)) c.in-Ok.ensures.ok.0) ∙ c.loop-place.invariant

pub returns-in-Err-clause-err : goal.returns-in-Err-clause-err
returns-in-Err-clause-err c = sym c.loop-place.invariant ∙ found attachment_parts_fault c.args.attachments.now c.loop-place.place _ (omega arith) (get_or_default c.args.attachments.now c.loop-place.place _ _ (omega arith)) c.in-Err.fault c.in-Err.ensures.err

pub returns-clause-ok : goal.returns-clause-ok
returns-clause-ok c = sym c.loop-place.invariant ∙ none_left attachment_parts_fault c.args.attachments.now c.loop-place.place c.loop-place-test.false
