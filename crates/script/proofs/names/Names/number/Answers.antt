use Rattle.std.proofs.Common.{map, string_bytes, ◌∙◌}
use Rattle.script.proofs.NameNumbers.{IsName-number_of}
use Rattle.script.proofs.names.Names.number.Goals as goal

pub returns-clause-name : goal.returns-clause-name
returns-clause-name c =
    IsName-number_of (map string_bytes c.self.inside.names.items) c.args.name.now c.copied.result c.self.invariant.valid
    (c.copied.ensures ∙ c.get.ensures.value ∙ c.self.invariant.finds c.args.name.now)
