use Rattle.std.proofs.Common.{◌≡◌, ◌∙◌, ◌≤◌, Some, length, refl, ap, sym, subst, arith, IfSome, is_some, option_map, slice_get}
use Rattle.no_packet_loops.proofs.Common.{slice_get-map, slice_get_read, false≢true, Router}
use Rattle.publication.specs.{Lists.Writing, Lists.image_of, declared.known.Known.Known}
use Rattle.publication.proofs.Places.{each_there}
use Rattle.fabric.specs.{Desks.Desk, Desks.writings, Fabric.Fabric}
use Rattle.fabric.proofs.{Seats.desk_count, ImagesInForce.list_is_last}
use Rattle.fabric.proofs.fabric.Fabric.told.Given as given
use Rattle.fabric.proofs.fabric.Fabric.told.Goals as goal

-- the writer is at its place
there : (g : given.Over) (c : goal.After-told g) → slice_get (writings c.self.inside.desks.items) c.args.router ≡ Some c.in_ok-desk.desk.now.writing
there g c =
    let read = c.in_ok-desk.ensures.lookup in
    let desks = c.self.inside.desks.items in
    let seated : slice_get desks c.args.router ≡ Some c.in_ok-desk.desk.now =
    ap (slice_get desks) (sym c.from.ensures)
    ∙ ap (λ xs. slice_get xs c.from.result) (sym c.deref.ensures.value)
    ∙ slice_get_read c.deref.result.now (length c.deref.result.now) c.from.result c.in_ok-desk.desk.now refl read.3.0 read.1 in
    slice_get-map (λ (d : Desk). d.writing) desks c.args.router ∙ ap (option_map (λ (d : Desk). d.writing)) seated

pub returns-clause-in_force : goal.returns-clause-in_force
returns-clause-in_force g c =
    ap (λ (f : Fabric). slice_get f.images c.args.router) (sym c.self.view_is)
    ∙ slice_get-map (λ (x : Writing). image_of g.B.FabricName.openings x.published) (writings c.self.inside.desks.items) c.args.router
    ∙ ap (option_map (λ (x : Writing). image_of g.B.FabricName.openings x.published)) (there g c)
    ∙ ap (λ t. Some (image_of g.B.FabricName.openings t)) (sym c.told.ensures.told)

pub returns-clause-router : goal.returns-clause-router
returns-clause-router g c =
    ap (λ (k : Known). k.router) c.told.ensures.told
    ∙ each_there (λ i (x : Writing). (x.published).router ≡ i) (writings c.self.inside.desks.items) (c.self.invariant.0.1).numbered c.args.router c.in_ok-desk.desk.now.writing (there g c)

pub returns-clause-last : goal.returns-clause-last
returns-clause-last g c =
    let told = c.told.result in
    subst (λ (f : Fabric). IfSome (slice_get f.world.routers c.args.router) (λ (r : Router). length told.publications ≡ r.generation)) c.self.view_is
    (list_is_last g.B.FabricName.openings c.self.inside.course.world (writings c.self.inside.desks.items) c.self.invariant.0.0.in_force c.args.router c.in_ok-desk.desk.now.writing (there g c) told c.told.ensures.told c.told.ensures.count)

pub returns-in_err-desk-clause-known : goal.returns-in_err-desk-clause-known
returns-in_err-desk-clause-known g c =
    let s = c.self.inside in
    let read = c.in_err-desk.ensures.lookup in
    let same = ap length c.deref.ensures.value in
    let count = desk_count s.course.world g.B.FabricName.openings s.desks.items c.self.invariant.0.0.in_force in
    let world = ap (λ (f : Fabric). length f.world.routers) c.self.view_is in
    let past : length c.args.self.now.world.routers ≤ c.args.router = omega (arith, read, c.from.ensures, same, count, world) in (
      λ some. absurd (false≢true (ap is_some (sym c.from_residual.ensures) ∙ some)),
      λ below. absurd (omega (arith, past, below)),
    )

pub returns-clause-known : goal.returns-clause-known
returns-clause-known g c =
    let s = c.self.inside in
    let below = c.in_ok-desk.ensures.lookup.3.0 in
    let same = ap length c.deref.ensures.value in
    let count = desk_count s.course.world g.B.FabricName.openings s.desks.items c.self.invariant.0.0.in_force in
    let world = ap (λ (f : Fabric). length f.world.routers) c.self.view_is in
    (λ _. omega (arith, below, c.from.ensures, same, count, world), λ _. refl)
