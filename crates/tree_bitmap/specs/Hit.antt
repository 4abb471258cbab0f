-- What a look-up found in a node, as the length of a prefix and the place of its result.
use Rattle.std.specs.Prelude.{ℕ, ◌+◌, ◌*◌, Option, Some, None}
use Rattle.bitmaps.specs.Bits.{rank}
use Rattle.tree_bitmap.specs.{Bits.length_of, declared.node.Node.Node, declared.lanes.Hit.Hit}

-- of an internal bit of a node, if there is one: the length counts from the node
abbrev pub bit_place : Node → Option ℕ → Option (ℕ × ℕ)
bit_place a None = None
bit_place a (Some bit) = Some (length_of bit, a.result_base + rank a.internal bit)

-- of an internal bit of what was found, if there is one: the length counts from the root
abbrev pub hit_place : Hit → Option ℕ → Option (ℕ × ℕ)
hit_place hit None = None
hit_place hit (Some bit) = Some (4 * hit.depth + length_of bit, hit.result_base + rank hit.internal bit)
