-- The images in force: what each router published, as packets are forwarded by it.
use Rattle.std.specs.Prelude.{ℕ, if◌then◌else◌, List, map, Option, Some, None, option_and_then, slice_get}
use Rattle.network_model.specs.{World.Router, World.World, Step.is_due, Step.router_publishing, Publication.Image}

-- the image in force at a router: the rows that it published, and which publication that was
abbrev pub image_in_force : Router → Image
image_in_force r = record { generation = r.generation; rows = (r.table).published }

-- those of all routers, in order
abbrev pub images_in_force : World → List Image
images_in_force w = map image_in_force w.routers

-- the image of the rows that a router has chosen, as it is made when a network opens
abbrev pub chosen_image : Router → Image
chosen_image r = record { generation = 0; rows = (r.table).control }

-- the image that a publication of router i would put in force; nothing where it would be refused
abbrev pub due_at : World → ℕ → Option Image
due_at w i = option_and_then (λ r. if is_due r then Some (image_in_force (router_publishing r)) else None) (slice_get w.routers i)
