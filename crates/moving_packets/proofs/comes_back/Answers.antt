use Rattle.moving_packets.proofs.{Calm.always_for_better, Calm.always_near, Calm.always_nearer, Unpublished.always_once_published, Unpublished.always_seldom}
use Rattle.moving_packets.proofs.comes_back.Goals as goal

pub returns : goal.returns
returns c = record { better = always_for_better; published = always_once_published; seldom = always_seldom; calm = always_near; nearer = always_nearer }
