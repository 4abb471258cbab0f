-- The room of a link that is read at its number, changed, and written back there.
use Rattle.std.proofs.Common.{◌≡◌, ℕ, zero, suc, ◌+◌, ◌≤◌, ◌⊎◌, inl, inr, List, [], ◌∷◌, get_or, set, subst, arith}
use Rattle.network_model.specs.declared.network.End.{End}
use Rattle.link_fifo.specs.Side.{Room, LinkAndRoom, LinksAndRooms, links_of, room_to, room_at, IsFull, KeepsRoom, KeepsRooms}

kept_to : (n : ℕ) (r s : Room) → KeepsRoom n r s → (to : End) → room_to to r ≤ room_to to s + n
kept_to n r s keeps End.A = keeps.to_a
kept_to n r s keeps End.B = keeps.to_b

-- where the link has too little room towards one of its ends, so has the link of its number
pub no_room_for_both : (s : LinksAndRooms) (k : ℕ) {r : Room} → ((to : End) → room_to to r ≤ 1 → room_at s k to ≤ 1) → IsFull r → (room_at s k End.A ≤ 1) ⊎ (room_at s k End.B ≤ 1)
no_room_for_both s k there (inl a) = inl (there End.A a)
no_room_for_both s k there (inr b) = inr (there End.B b)

-- room is kept as it is kept of the link that is written
pub rooms_written : (n : ℕ) (xs : List LinkAndRoom) {s : LinksAndRooms} (i : ℕ) (x y : LinkAndRoom) → x ≡ get_or xs i x → links_of xs ≡ s → KeepsRoom n x.room y.room → KeepsRooms n s (links_of (set xs i y))
rooms_written n xs i x y read seen keeps = subst (λ v. KeepsRooms n v (links_of (set xs i y))) seen (at_place xs i read)
  where
    at_place : (zs : List LinkAndRoom) (j : ℕ) → x ≡ get_or zs j x → KeepsRooms n (links_of zs) (links_of (set zs j y))
    at_place [] j read l to = omega arith
    at_place (z ∷ zs) zero read zero to = subst (λ v. room_to to v.room ≤ room_to to y.room + n) read (kept_to n x.room y.room keeps to)
    at_place (z ∷ zs) zero read (suc l) to = omega arith
    at_place (z ∷ zs) (suc j) read zero to = omega arith
    at_place (z ∷ zs) (suc j) read (suc l) to = at_place zs j read l to

-- where the link that is read has room for one item at most towards an end, so has the link of its number
pub no_room : (to : End) (xs : List LinkAndRoom) {s : LinksAndRooms} {i k : ℕ} {x : LinkAndRoom} → i ≡ k → x ≡ get_or xs i x → links_of xs ≡ s → room_to to x.room ≤ 1 → room_at s k to ≤ 1
no_room to xs {k = k} {x = x} at read seen little = subst (λ v. room_at v k to ≤ 1) seen (subst (λ j. room_at (links_of xs) j to ≤ 1) at (at_place xs _ read))
  where
    at_place : (zs : List LinkAndRoom) (j : ℕ) → x ≡ get_or zs j x → room_at (links_of zs) j to ≤ 1
    at_place [] j read = omega arith
    at_place (z ∷ zs) zero read = subst (λ v. room_to to v.room ≤ 1) read little
    at_place (z ∷ zs) (suc j) read = at_place zs j read
