-- What a handle holds.
use Rattle.std.specs.Prelude.{[], Option, option_and_then, option_map}
use Rattle.c_interface.specs.Handles.{held}
use Rattle.course.specs.Counts.{none_sent}
use Rattle.simulation.specs.Simulation.{Simulation, simulation_of}
use Rattle.timed_simulation.specs.Timed.{Timed}
use Rattle.timed_reports.specs.Reports.{Reported}
use Rattle.network_calls.specs.{Running.clocked_in, Running.network_in, Running.reported_in, declared.running.Going.Going, declared.running.Going.TheVariants.BySteps}
use Rattle.network_calls.specs.declared.handle.NetworkHandle.{NetworkHandle}
use Rattle.network_model.specs.declared.network.Offer.TheVariants.{One}

-- what a handle holds, if anything: a network that goes by steps, or one in simulated time
abbrev pub handle_going : NetworkHandle → Option Going
handle_going h = held h.holds h.value

-- the network of it, without its time
abbrev pub handle_network : NetworkHandle → Option Simulation
handle_network h = option_map network_in (handle_going h)

-- the network in simulated time that a handle holds, if it holds one
abbrev pub handle_timed : NetworkHandle → Option Timed
handle_timed h = option_and_then clocked_in (handle_going h)

-- the same with its record, if it keeps one
abbrev pub handle_report : NetworkHandle → Option Reported
handle_report h = option_and_then reported_in (handle_going h)

-- what stands in a handle that holds none: a network of no routers, which goes by steps
abbrev pub nothing_held : Going
nothing_held = BySteps (simulation_of (record { routers = 0; links = []; attachments = []; offer = One }) (record { places = []; links = []; prefixes = []; attachments = []; routers = [] }) [] 0 none_sent)
