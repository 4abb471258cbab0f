-- What a handle holds.
use Rattle.std.specs.Prelude.{Option}
use Rattle.c_interface.specs.Handles.{held}
use Rattle.single_router.specs.Bounded.{BoundedRouter}
use Rattle.single_router.specs.declared.handle.RouterHandle.{RouterHandle}

-- the router that a handle holds, if any
abbrev pub handle_router : RouterHandle → Option BoundedRouter
handle_router h = held h.holds h.value
