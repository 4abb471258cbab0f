use Rattle.daemon_laws.proofs.Healing.{whole_always}
use Rattle.daemon_laws.proofs.sessions_begin_whole.Goals as goal

pub returns : goal.returns
returns c = whole_always
