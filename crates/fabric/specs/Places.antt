-- What contracts see of the place of a writer.
use Rattle.fabric.specs.{Desks.Desk, Desks.desk_in, Desks.desk_out, declared.desk.Place.Place}

module _ {B A : Type 0} where
  abbrev pub desk_of : Place B A → Desk
  desk_of (Place.In writer) = desk_in writer
  desk_of (Place.Out stub) = desk_out stub.before stub.patch
