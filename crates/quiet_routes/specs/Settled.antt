-- What holds of a world with nothing left to do.
use Rattle.std.specs.Prelude.{◌≡◌}
use Rattle.network_model.specs.{World.World, Forwarding.is_quiet, Turns.is_settled}

-- the world has settled exactly where all is quiet: where nothing is left to do, no machine is in a computation
abbrev pub SettledIsQuiet : World → Type 0
SettledIsQuiet w = is_settled w ≡ is_quiet w
