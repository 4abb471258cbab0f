use Rattle.std.proofs.Common.{ap}
use Rattle.std.specs.Option.{option_map_or}
use Rattle.toml.proofs.Views.{table_get}
use Rattle.timing.proofs.document.count_key.Goals as goal

pub returns-in-Some-clause-count : goal.returns-in-Some-clause-count
returns-in-Some-clause-count c =
    let found = table_get c.get.result c.args.key.now c.args.table.now.entries c.get.ensures.value in
    ap (λ o. option_map_or (λ _. 1) o 0) (rw c.in-Some.is at found)

pub returns-in-None-clause-count : goal.returns-in-None-clause-count
returns-in-None-clause-count c =
    let found = table_get c.get.result c.args.key.now c.args.table.now.entries c.get.ensures.value in
    ap (λ o. option_map_or (λ _. 1) o 0) (rw c.in-None.is at found)
