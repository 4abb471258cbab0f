-- A tree of least pairs, and which of the routers is due first.
use Rattle.std.specs.Prelude.{◌≡◌, ◌≢◌, ℕ, ◌+◌, ◌<◌, ◌≤◌, Bool, ◌==◌, ◌&&◌, ◌||◌, nat_lt, if◌then◌else◌, List, drop, length, map, Option, Some, None, option_map, option_and_then, slice_get}
use Rattle.network_model.specs.Network.{most_routers}
use Rattle.minima.specs.declared.due.Due.{Due}

-- ---- what is due

-- of what is due at these moments, each at its router, this is first: nothing is due sooner, and at the same moment no lower router
pub record IsFirstDue (moments : List (Option ℕ)) (d : Due) : Type 0 where
  pub at : slice_get moments d.router ≡ Some (Some d.moment)
  pub soonest : (i m : ℕ) → slice_get moments i ≡ Some (Some m) → d.moment ≤ m
  pub lowest : (i : ℕ) → slice_get moments i ≡ Some (Some d.moment) → d.router ≤ i

-- no router is due
abbrev pub NoneDue : List (Option ℕ) → Type 0
NoneDue moments = (i m : ℕ) → slice_get moments i ≡ Some (Some m) → ⊥

-- ---- the tree

-- whether one pair is before the other: it is sooner, or of the same moment and a lower router
abbrev pub is_sooner : Due → Due → Bool
is_sooner a b = nat_lt a.moment b.moment || ((a.moment == b.moment) && nat_lt a.router b.router)

-- the one of two that is before the other, or the only one
abbrev pub lesser : Option Due → Option Due → Option Due
lesser None b = b
lesser (Some a) None = Some a
lesser (Some a) (Some b) = if is_sooner b a then Some b else Some a

-- the pair of a router that is due at a moment, if it is
abbrev pub pair_of : ℕ → Option ℕ → Option Due
pair_of r moment = option_map (λ m. record { moment = m; router = r }) moment

-- what node k has; nothing where there is no such node
abbrev pub node_at : List (Option Due) → ℕ → Option Due
node_at nodes k = option_and_then (λ o. o) (slice_get nodes k)

-- each node above the leaves, of which there are so many, has the lesser of the two below it
abbrev pub HasLeast : ℕ → List (Option Due) → Type 0
HasLeast n nodes = (k : ℕ) → 1 ≤ k → k < n → node_at nodes k ≡ lesser (node_at nodes (k + k)) (node_at nodes (k + k + 1))

-- so it does, but perhaps the one above node c
abbrev pub HasLeastBut : ℕ → List (Option Due) → ℕ → Type 0
HasLeastBut n nodes c = (k : ℕ) → 1 ≤ k → k < n → k + k ≢ c → k + k + 1 ≢ c → node_at nodes k ≡ lesser (node_at nodes (k + k)) (node_at nodes (k + k + 1))

-- a tree over so many routers: the leaf of router i, which is node n + i, has that router
pub record IsTree (n : ℕ) (nodes : List (Option Due)) : Type 0 where
  pub few : n ≤ most_routers
  pub size : length nodes ≡ n + n
  pub routers : (i : ℕ) (d : Due) → i < n → node_at nodes (n + i) ≡ Some d → d.router ≡ i
  pub least : HasLeast n nodes

-- when each router is due
abbrev pub moments_of : ℕ → List (Option Due) → List (Option ℕ)
moments_of n nodes = map (option_map (λ d. d.moment)) (drop n nodes)
