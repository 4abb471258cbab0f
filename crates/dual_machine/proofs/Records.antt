-- The room that a machine's records take.
use Rattle.std.proofs.Common.{ℕ, ◌+◌, ◌<◌, ◌^◌, max, inl, inr, sym, subst₂, arith}
use Rattle.std.specs.Borrow.{RattleType}
use prog.Memory.{size, align, up}
use denote.Memory.{lone}
use Rattle.network_model.specs.Memory.{IsSmall}

-- the room of four records, or of a vector, beside an allocator of this size and alignment
abbrev pub room : ℕ → ℕ → ℕ
room s a =
    let few = max 4 (max 8 (max a 1)) in
    let many = max 8 (max 8 (max 8 (max a 1))) in
    let each = max (max few 1) (max (max many 1) 1) in
    up (max each 1) (up each 0 + up each (max (up few 1 + up few (up a 40 + s)) (max (up many 1 + up many (up a 24 + s)) 1)))

pub fits : (A : RattleType) → IsSmall A → room (size (lone A.mir)) (align (lone A.mir)) < 2 ^ 63
fits A (inl (s, a)) = subst₂ (λ (s a : ℕ). room s a < 2 ^ 63) (sym s) (sym a) (omega arith)
fits A (inr (s, a)) = subst₂ (λ (s a : ℕ). room s a < 2 ^ 63) (sym s) (sym a) (omega arith)
