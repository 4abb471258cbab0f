use Rattle.std.proofs.Common.{rules, ◌∙◌, Some, set, ap, subst, sym}
use Rattle.std.proofs.lemmas.Option.{slice_get-get_or}
use Rattle.forwarder.specs.Ports.{AreLater}
use Rattle.forwarder.proofs.Later.{later_set}
use Rattle.forwarder.proofs.port.ForwardPort.answer.Goals as goal

pub returns-clause-later : goal.returns-clause-later
returns-clause-later g c =
    let views = c.self.inside.readers.items in
    let there = slice_get-get_or views c.from.result c.index_mut.result.now (search rules) ∙ ap Some (sym c.index_mut.ensures.value) in
    subst (λ xs. AreLater xs (set views c.from.result c.look.new.reader)) c.self.view_is (later_set views c.from.result _ c.look.new.reader there c.look.ensures.later)
