use Rattle.no_packet_loops.proofs.{Traces.always_traces_end, Walks.always_mixtures_free, Walks.always_packets_free}
use Rattle.no_packet_loops.proofs.no_packet_loop.Goals as goal

pub returns : goal.returns
returns c = record { published = always_packets_free; mixtures = always_mixtures_free; traces = always_traces_end }
