-- The world of the parts that are held.
use Rattle.network_model.specs.World.{World}
use Rattle.world.specs.{declared.world.World.TheInside.Inside, Parts.world_of_parts}

abbrev pub world_in : {A : Type 0} → Inside A → World
world_in i = world_of_parts i.places.items i.links.links i.prefixes.items i.attachments.items i.routers.items
