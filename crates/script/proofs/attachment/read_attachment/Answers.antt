use Rattle.std.proofs.Common.{refl, sym, ◌∙◌}
use Rattle.script.proofs.Common.{false≢true, AttachmentLine, IsAttachmentFault, word-full}
use Rattle.script.specs.declared.fault.LineFault.TheVariants.{BadCost, Prefix as OfPrefix}
use Rattle.script.proofs.Exits.{at_err}
use Rattle.script.proofs.attachment.read_attachment.Goals as goal
use Rattle.script.proofs.attachment.read_attachment.Goals.{After-parse}

pub returns-in_err-prefix-clause-err : goal.returns-in_err-prefix-clause-err
returns-in_err-prefix-clause-err c =
    let none = c.in_err-prefix.ensures.err in
    at_err c.from_residual.result (IsAttachmentFault c.args.names.now c.args.line.now) c.in_err-prefix.field-0.0 c.from_residual.ensures.1
    (rw none.0 (λ l. none.1 l.prefix l.name l.cost l.words l.small))

-- the words of the line, whose router is known
abbrev line_words : (c : After-parse) → AttachmentLine c.args.names.now c.args.line.now
line_words c = record {
  prefix = c.in_ok-prefix.prefix.now;
  name = c.in_ok-prefix.router.now;
  router = c.in_ok-router.router;
  cost = c.in_ok-prefix.cost;
  words = c.in_ok-prefix.ensures.ok.0;
  has_prefix = word-full _ c.is_empty.result c.is_empty.ensures c.if-is_empty.false;
  known = sym c.number.ensures.value ∙ c.in_ok-router.ensures.ok_part;
  small = c.in_ok-prefix.ensures.ok.1;
}

pub returns-in_err-prefix-2-clause-err : goal.returns-in_err-prefix-2-clause-err
returns-in_err-prefix-2-clause-err c =
    at_err c.from_residual-in_err-prefix-2.result (IsAttachmentFault c.args.names.now c.args.line.now) (OfPrefix c.in_err-prefix-2.field-0.0) c.from_residual-in_err-prefix-2.ensures.1
    (line_words (goal.at.returns-in_err-prefix-2-clause-err c).After-parse, c.in_err-prefix-2.ensures.fault)

pub returns-in_err-cost-clause-err : goal.returns-in_err-cost-clause-err
returns-in_err-cost-clause-err c =
    at_err c.from_residual-in_err-cost.result (IsAttachmentFault c.args.names.now c.args.line.now) BadCost c.from_residual-in_err-cost.ensures.1 (
      line_words (goal.at.returns-in_err-cost-clause-err c).After-parse,
      c.in_ok-prefix-2.prefix,
      c.in_ok-prefix-2.ensures.read,
      λ is. false≢true (c.in_err-cost.ensures.exactly.1 is),
    )

pub returns-clause-ok : goal.returns-clause-ok
returns-clause-ok c = (
  line_words (goal.at.returns-clause-ok c).After-parse,
  c.in_ok-prefix-2.ensures.read,
  refl,
  c.in_ok-cost.ensures.ok,
  c.in_ok-cost.ensures.exactly.0 refl,
)
