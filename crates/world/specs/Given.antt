-- What sets of given attachments keep.
use Rattle.std.specs.Prelude.{◌≡◌, ℕ, ◌&&◌, ◌==◌, List, length}
use Rattle.std.specs.{declared.cmp.Ordering.Ordering, List.list_any, Ordering.nat_cmp, Ordering.ordering_then, BTreeSet.contains}
use Rattle.ipv4_prefix.specs.Prefix.{Prefix, prefix_cmp, prefix_eq}
use Rattle.network_model.specs.World.{prefixes_of}
use Rattle.world.specs.declared.attachment_faults.Given.{Given}

-- pairs are ordered by prefix, then by router
abbrev pub pair_cmp : Prefix × ℕ → Prefix × ℕ → Ordering
pair_cmp x y = ordering_then (prefix_cmp x.0 y.0) (nat_cmp x.1 y.1)

-- the sets have the prefixes of these attachments and no others, and each prefix with the routers at which it is given
pub record IsGiven (before : List (Prefix × ℕ × ℕ)) (g : Given) : Type 0 where
  pub prefixes : (p : Prefix) → contains prefix_cmp g.prefixes p ≡ list_any (λ b. prefix_eq b.0 p) before
  pub count : length g.prefixes.keys ≡ length (prefixes_of before)
  pub pairs : (p : Prefix) (i : ℕ) → contains pair_cmp g.pairs (p, i) ≡ list_any (λ b. prefix_eq b.0 p && (b.1 == i)) before
