use Rattle.daemon_laws.proofs.Numbers.{numbers_suffice as suffice}
use Rattle.daemon_laws.proofs.numbers_suffice.Goals as goal

pub returns : goal.returns
returns c = suffice
