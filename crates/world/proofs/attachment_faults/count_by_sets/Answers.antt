use Rattle.std.proofs.Common.{◌≡◌, ◌+◌, ◌++◌, ◌∷◌, [], refl, sym, ap, subst, ◌∙◌, arith, take, add-one}
use Rattle.std.proofs.Math.Seq.{take-suc}
use Rattle.world.specs.Given.{IsGiven}
use Rattle.world.proofs.Faults.{no_attachment_fault}
use Rattle.world.proofs.attachment_faults.count_by_sets.Goals as goal

pub loop-i-init : goal.loop-i-init
loop-i-init c = record { rest = refl; given = c.new-given.ensures }

pub loop-i-preserved : goal.loop-i-preserved
loop-i-preserved c =
    let all = c.args.attachments.now in
    let here = c.index-attachments-i.result in
    let taken : take (c.loop-i.i + 1) all ≡ take c.loop-i.i all ++ here ∷ []
    = ap (λ n. take n all) (add-one c.loop-i.i) ∙ take-suc all c.loop-i.i here (omega arith) ∙ ap (λ x. take c.loop-i.i all ++ x ∷ []) (sym c.index-attachments-i.is) in
    record {
      rest = sym (no_attachment_fault c.args.limits.now c.args.routers all c.loop-i.i here (omega arith) c.index-attachments-i.is (sym c.refuses.ensures ∙ c.if-refuses.false)) ∙ c.loop-i.invariant.rest;
      given = subst (λ xs. IsGiven xs c.add.new.self) (sym taken) (c.in_ok-add.ensures (take c.loop-i.i all) c.loop-i.invariant.given);
    }
