-- Where a fabric has the writer of a router: with it, or out with a ticket.
use Rattle.std.specs.Prelude.{List, [], ◌∷◌, map, Option, Some, None}
use Rattle.network_model.specs.Publication.{Patch}
use Rattle.publication.specs.{declared.known.Known.Known, Lists.Writing}

-- the writer's published list and what waits with it, and the patch that it is out to publish; while it is out, the list is that of before, and the patch stands for what waits
pub record Desk : Type 0 where
  pub writing : Writing
  pub out : Option Patch

-- a desk whose writer is in
abbrev pub desk_in : Writing → Desk
desk_in w = record { writing = w; out = None }

-- a desk whose writer is out with this patch, which waits until the writer is back
abbrev pub desk_out : Known → Patch → Desk
desk_out before patch = record { writing = record { published = before; waiting = patch ∷ [] }; out = Some patch }

-- what the writers of these desks have published, and what waits
abbrev pub writings : List Desk → List Writing
writings desks = map (λ d. d.writing) desks

-- the patches with which writers are out, by routers
abbrev pub all_lent : List Desk → List (Option Patch)
all_lent desks = map (λ d. d.out) desks
