-- What a patch makes of an image.
use Rattle.std.specs.Prelude.{ℕ, List}
use Rattle.ipv4_prefix.specs.Prefix.{Prefix}
use Rattle.network_model.specs.{Publication.Image, Publication.with_rows, declared.route.Entry.Entry}

-- an image with rows set over its own, in order, and another generation
abbrev pub patched : ℕ → List (Prefix × Entry) → Image → Image
patched generation rows image = record { generation = generation; rows = with_rows rows image.rows }
