use Rattle.daemon_laws.proofs.Always.{always_no_circles, always_no_unmarked_circles, always_no_written_circles, always_no_unmarked_written_circles}
use Rattle.daemon_laws.proofs.no_daemon_packet_circles.Goals as goal

pub returns : goal.returns
returns c = record {
  marked = always_no_circles;
  unmarked = always_no_unmarked_circles;
  written = always_no_written_circles;
  unmarked_written = always_no_unmarked_written_circles;
}
