-- Look-ups go down one level, one after another.
use Rattle.std.proofs.Common.{ℕ, ◌≡◌, ◌≢◌, ◌⊎◌, inl, inr, ◌+◌, ◌-◌, ◌*◌, ◌<◌, ◌≤◌, List, length, slice_index, slice_set, min, arith, refl, sym, ap, subst, ◌∙◌, get_or-set_same, get_or-set_other}
use Rattle.std.proofs.lemmas.Bool.{cases_eq, cases_lt}
use Rattle.array_bitmap.specs.{Bits.depth_of, Words.found, declared.lanes.Lane.Lane}
use Rattle.bitmaps.specs.Greatest.{GreatestBelow}
use Rattle.array_bitmap.specs.Tree.{Cells, block_at, word_at, IsSoundCells}
use Rattle.array_bitmap.specs.Lane.{IsStep, IsLongestWord, IsCared, lane_at}
use Rattle.array_bitmap.proofs.Lookups.{longest_ends}

-- an address has its word, or a look-up that has gone down, or one that has not yet
abbrev pub AreCared : Cells → ℕ → List ℕ → List Lane → List ℕ → ℕ → ℕ → ℕ → ℕ → Type 0
AreCared c level addrs lanes words live still i a =
    IsCared c (level + 1) addrs lanes still words a ⊎ ((k : ℕ) × (i ≤ k) × (k < live) × ((lane_at lanes k).at ≡ a))

-- a look-up whose path has no next block is done, and so is each after the last level
pub step_done : (c : Cells) (sound : IsSoundCells c) (level : ℕ) (lane : Lane) (goes_on : ℕ) → c.first ≤ level → level ≤ 5 → IsStep c level lane goes_on → (level + 1 ≤ 5 → goes_on ≡ 0) → IsLongestWord c lane.addr lane.best
step_done c sound level lane goes_on low deep is none = elim (cases_lt level 5) [
  | inl above ↦
      longest_ends c sound (lane.addr * 4) level (block_at c (lane.addr * 4) (level + 1 - c.first)) lane.best low deep refl (is.end (none (omega (arith, above)))) is.best
  | inr last ↦
      let n : min (depth_of (level + 1) + 1) 33 ≡ 33 = omega (arith, last) in
      subst (λ x. GreatestBelow (word_at c (lane.addr * 4)) x (found lane.best)) n is.best
]

-- before the first, and after the last
pub cared_first : (c : Cells) (level : ℕ) (addrs : List ℕ) (lanes : List Lane) (words : List ℕ) (live a : ℕ) → IsCared c level addrs lanes live words a → AreCared c level addrs lanes words live 0 0 a
cared_first c level addrs lanes words live a (inl done) = inl (inl done)
cared_first c level addrs lanes words live a (inr on) = inr (on.1.0, omega arith, on.1.1, on.1.2)

pub cared_last : (c : Cells) (level : ℕ) (addrs : List ℕ) (lanes : List Lane) (words : List ℕ) (live still i a : ℕ) → live ≤ i → AreCared c level addrs lanes words live still i a → IsCared c (level + 1) addrs lanes still words a
cared_last c level addrs lanes words live still i a ended (inl cared) = cared
cared_last c level addrs lanes words live still i a ended (inr left) = absurd (omega (arith, ended, left.1, left.2))

-- where no look-up goes on, or after the last level, each address has its word
pub all_done : (c : Cells) (level : ℕ) (addrs : List ℕ) (lanes : List Lane) (live : ℕ) (words : List ℕ) (a : ℕ) → (live ≡ 0) ⊎ (6 ≤ level) → IsCared c level addrs lanes live words a → IsLongestWord c (slice_index addrs a) (slice_index words a)
all_done c level addrs lanes live words a end (inl done) = done
all_done c level addrs lanes live words a (inl none) (inr on) = absurd (omega (arith, none, on.1.1))
all_done c level addrs lanes live words a (inr last) (inr on) = absurd (omega (arith, last, on.0))

-- one look-up goes down: its word is written, and it stands behind those that go on
module _ (c : Cells) (sound : IsSoundCells c) (level : ℕ) (addrs : List ℕ) (lanes : List Lane) (words : List ℕ) (live still i : ℕ) (lane : Lane) (goes_on : ℕ)
    (low : c.first ≤ level) (deep : level ≤ 5) (fewer : still ≤ i) (inside : still < length lanes) (within : lane.at < length words)
    (is : IsStep c level lane goes_on) (addr : lane.addr ≡ slice_index addrs lane.at) (same : lane.at ≡ (lane_at lanes i).at) where
  abbrev lanes' : List Lane
  lanes' = slice_set lanes still lane

  abbrev words' : List ℕ
  words' = slice_set words lane.at lane.best

  pub lane_here : lane_at lanes' still ≡ lane
  lane_here = get_or-set_same lanes still lane _ inside

  pub lane_other : (k : ℕ) → k ≢ still → lane_at lanes' k ≡ lane_at lanes k
  lane_other k n = get_or-set_other lanes still k lane _ n

  -- its own address
  own : (a still' : ℕ) → a ≡ lane.at → still' ≡ still + goes_on → IsCared c (level + 1) addrs lanes' still' words' a
  own a still' e sum = elim (cases_eq goes_on 0) [
    | inl none ↦ inl (done (λ l. none))
    | inr some ↦ elim (cases_lt level 5) [
      | inl above ↦ inr (omega (arith, above), (still, omega (arith, sum, some), ap (λ (x : Lane). x.at) lane_here ∙ sym e))
      | inr last ↦ inl (done (λ l. absurd (omega (arith, l, last))))
    ]
  ]
    where
      word : slice_index words' a ≡ lane.best
      word = ap (slice_index words') e ∙ get_or-set_same words lane.at lane.best 0 within

      at_addr : lane.addr ≡ slice_index addrs a
      at_addr = addr ∙ ap (λ n. slice_index addrs n) (sym e)

      done : (level + 1 ≤ 5 → goes_on ≡ 0) → IsLongestWord c (slice_index addrs a) (slice_index words' a)
      done none = subst (IsLongestWord c (slice_index addrs a)) (sym word) (subst (λ x. IsLongestWord c x lane.best) at_addr (step_done c sound level lane goes_on low deep is none))

  pub cared_next : (a still' : ℕ) → still' ≡ still + goes_on → AreCared c level addrs lanes words live still i a
      → AreCared c level addrs lanes' words' live still' (i + 1) a
  cared_next a still' sum before = elim (cases_eq a lane.at) [
    | inl e ↦ inl (own a still' e sum)
    | inr n ↦ others n before
  ]
    where
      least : still ≤ still'
      least = omega (arith, sum)

      others : a ≢ lane.at → AreCared c level addrs lanes words live still i a → AreCared c level addrs lanes' words' live still' (i + 1) a
      others n (inl (inl done)) = inl (inl (subst (IsLongestWord c (slice_index addrs a)) (sym (get_or-set_other words lane.at a lane.best 0 n)) done))
      others n (inl (inr on)) = inl (inr (on.0, (on.1.0, omega (arith, on.1.1, least), ap (λ (x : Lane). x.at) (lane_other on.1.0 (omega (arith, on.1.1))) ∙ on.1.2)))
      others n (inr left) = elim (cases_eq left.0 i) [
        | inl e ↦ absurd (n (sym left.3 ∙ ap (λ k. (lane_at lanes k).at) e ∙ sym same))
        | inr apart ↦ inr (left.0, omega (arith, apart, left.1), left.2, ap (λ (x : Lane). x.at) (lane_other left.0 (omega (arith, apart, left.1, fewer))) ∙ left.3)
      ]

  -- those that go on, and this one
  pub each_next : (P : Lane → Type 0) (still' : ℕ) → still' ≡ still + goes_on → ((k : ℕ) → k < still → P (lane_at lanes k)) → (goes_on ≡ 1 → P lane) → (k : ℕ) → k < still' → P (lane_at lanes' k)
  each_next P still' sum before here k l = elim (cases_eq k still) [
    | inl e ↦ subst P (sym (ap (lane_at lanes') e ∙ lane_here)) (here (omega (arith, l, sum, e, is.bit)))
    | inr n ↦ subst P (sym (lane_other k n)) (before k (omega (arith, l, sum, n, is.bit)))
  ]
