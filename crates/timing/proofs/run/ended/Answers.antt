use Rattle.std.proofs.Common.{inl, inr}
use Rattle.network_model.specs.declared.step.Refusal.TheVariants.{JournalFull}
use Rattle.timing.proofs.run.ended.Goals as goal

pub returns-in-None-clause-fault : goal.returns-in-None-clause-fault
returns-in-None-clause-fault c = inr (inl (JournalFull, c.from.ensures))
