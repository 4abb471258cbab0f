use Rattle.moving_daemon_packets.proofs.Calm.{always_marked, always_unmarked, always_calm, always_unmarked_calm}
use Rattle.moving_daemon_packets.proofs.Unpublished.{always_published, always_unmarked_published, always_seldom, always_unmarked_seldom}
use Rattle.moving_daemon_packets.proofs.comes_back.Goals as goal

pub returns : goal.returns
returns c = record {
  marked = always_marked;
  unmarked = always_unmarked;
  published = always_published;
  unmarked_published = always_unmarked_published;
  seldom = always_seldom;
  unmarked_seldom = always_unmarked_seldom;
  calm = always_calm;
  unmarked_calm = always_unmarked_calm;
}
