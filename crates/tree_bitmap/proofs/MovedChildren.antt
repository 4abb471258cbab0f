-- The block of a node's children moves, and a child with nothing in it comes or goes: the tree stays sound, and all rows stay.
use Rattle.std.proofs.Common.{ℕ, zero, suc, ◌≡◌, ◌≢◌, ◌⊎◌, inl, inr, ◌/◌, ◌%◌, ◌^◌, ◌<◌, Option, Some, None, true, is_some, arith, refl, sym, ap, subst, ◌∙◌}
use Rattle.std.specs.Int.{bit_at}
use Rattle.std.proofs.lemmas.Bool.{cases_eq}
use Rattle.node_pool.specs.Pool.{IsCellWritten}
use Rattle.tree_bitmap.specs.Tree.{IsEmpty, nibble, internal_bit, child, HasChild, IsChild, IsResult, path_node, entry_at_bit, path_entry, IsLaidOut, with_children}
use Rattle.tree_bitmap.specs.declared.node.Node.{Node}
use Rattle.network_model.specs.declared.route.Entry.{Entry}
use Rattle.node_pool.proofs.Blocks.{none≢is_some}
use Rattle.tree_bitmap.proofs.{MovedBlock.IsMoved, MovedBlock.block_bit, MovedBlock.block_cases, OnePath.rank_same}
use Rattle.bitmaps.proofs.Options.{cases_option, some-from, none≢some, Some_same}
use Rattle.tree_bitmap.proofs.Paths.{empty_has_no_child, empty_has_no_result, is_some-from, child_in_block, step_yes, step_no, root_at, IsStep, node_used, step_of, zero_bit, entry-clear, entry-with_children, row-some, row-none}

-- a cell holds a node with no row and no child
abbrev pub HoldsEmpty : Option Node → Type 0
HoldsEmpty o = (b : Node) × (o ≡ Some b) × IsEmpty b

-- the children of the node at `index` stand in another block, and those that have come or gone are empty; read from right to left it is the same
pub record MovesChildren (old new : ℕ → Option Node) (index : ℕ) (a b : Node) : Type 0 where
  pub before : old index ≡ Some a
  pub after : new index ≡ Some b
  pub kept : (f : ℕ) → HasChild a f → HasChild b f → new (child b f) ≡ old (child a f)
  pub gone : (f : ℕ) → HasChild a f → bit_at b.external f ≢ 1 → HoldsEmpty (old (child a f))
  pub come : (f : ℕ) → HasChild b f → bit_at a.external f ≢ 1 → HoldsEmpty (new (child b f))
  pub fresh : (k : ℕ) → IsChild b k → (IsChild a k → ⊥) → old k ≡ None
  pub freed : (k : ℕ) → IsChild a k → (IsChild b k → ⊥) → new k ≡ None
  pub other : (k : ℕ) → k ≢ index → (IsChild a k → ⊥) → (IsChild b k → ⊥) → new k ≡ old k

-- so it can be read from right to left
pub moved_back : (N N' : ℕ → Option Node) (index : ℕ) (a b : Node) → MovesChildren N N' index a b → MovesChildren N' N index b a
moved_back N N' index a b m = record {
  before = m.after;
  after = m.before;
  kept = λ f h h'. sym (m.kept f h' h);
  gone = m.come;
  come = m.gone;
  fresh = m.freed;
  freed = m.fresh;
  other = λ k n q q'. sym (m.other k n q' q);
}

-- where a cell's content is afterwards, unless it was that of a child that has gone
abbrev pub Moves : Node → Node → ℕ → ℕ → Type 0
Moves a b j j' =
    ((IsChild a j → ⊥) × (j' ≡ j))
    ⊎ ((f : ℕ) × (HasChild a f) × (HasChild b f) × (j ≡ child a f) × (j' ≡ child b f))

-- a cell was that of a child that has gone
abbrev pub IsGone : Node → Node → ℕ → Type 0
IsGone a b j = (f : ℕ) × (HasChild a f) × (bit_at b.external f ≢ 1) × (j ≡ child a f)

-- what stands in a used cell afterwards: the node itself, an empty node, or another that was there
abbrev Back : (ℕ → Option Node) → ℕ → Node → Node → ℕ → Node → Type 0
Back N index a b j' c =
    ((j' ≡ index) × (c ≡ b))
    ⊎ ((IsEmpty c)
    ⊎ ((j : ℕ) × (N j ≡ Some c) × (j ≢ index) × Moves a b j j'))

module _ (N N' : ℕ → Option Node) (G : ℕ → Option Entry) (index external base : ℕ) (a : Node)
    (sound : IsLaidOut N G) (moved : MovesChildren N N' index a (with_children a external base)) where
  -- the node afterwards
  abbrev b : Node
  b = with_children a external base

  -- a used cell that was not that of a child is not among the new ones
  not_new : (k : ℕ) → is_some (N k) ≡ true → (IsChild a k → ⊥) → IsChild b k → ⊥
  not_new k u q r = none≢is_some (N k) (moved.fresh k r q) u

  -- nor is one of another node's children
  not_of_another : (j : ℕ) (c : Node) → N j ≡ Some c → j ≢ index → (k : ℕ) → IsChild c k → IsChild b k → ⊥
  not_of_another j c e n k q = not_new k (sound.children_used j c e k q) (λ w. sound.children_apart j index c a e moved.before n k q w)

  -- the node is not its own child
  not_in_old : (f : ℕ) → HasChild a f → child a f ≢ index
  not_in_old f h e = sound.not_its_own_child index a moved.before (subst (IsChild a) e (child_in_block a f h))

  -- the node itself stays
  index_stays : (j' : ℕ) → Moves a b index j' → j' ≡ index
  index_stays j' (inl m) = m.1
  index_stays j' (inr (f, h, h', p, q)) = absurd (not_in_old f h (sym p))

  -- an old node stands where its cell has moved
  moved_cell : (j j' : ℕ) (c : Node) → N j ≡ Some c → j ≢ index → Moves a b j j' → N' j' ≡ Some c
  moved_cell j j' c e n (inl m) = ap N' m.1 ∙ moved.other j n m.0 (not_new j (is_some-from (N j) c e) m.0) ∙ e
  moved_cell j j' c e n (inr (f, h, h', p, q)) = ap N' q ∙ moved.kept f h h' ∙ ap N (sym p) ∙ e

  -- cells that have moved apart were apart
  apart_of : (i i' j j' : ℕ) → Moves a b i i' → Moves a b j j' → i' ≢ j' → i ≢ j
  apart_of i i' j j' (inl m) (inl n) ne e = ne (m.1 ∙ e ∙ sym n.1)
  apart_of i i' j j' (inl m) (inr (f, h, h', p, q)) ne e = m.0 (subst (IsChild a) (sym (e ∙ p)) (child_in_block a f h))
  apart_of i i' j j' (inr (f, h, h', p, q)) (inl n) ne e = n.0 (subst (IsChild a) (sym (sym e ∙ p)) (child_in_block a f h))
  apart_of i i' j j' (inr (f, h, h', p, q)) (inr (g, k, k', r, s)) ne e =
      ne (q ∙ ap (child b) (rank_same a.external f g h k (omega (arith, p, r, e))) ∙ sym s)

  -- what stands in a cell of the new block
  back_new : (f : ℕ) (c : Node) → HasChild b f → N' (child b f) ≡ Some c → (bit_at a.external f ≡ 1) ⊎ (bit_at a.external f ≡ 1 → ⊥) → Back N index a b (child b f) c
  back_new f c h' e (inl h) = inr (inr (child a f, sym (moved.kept f h h') ∙ e, not_in_old f h, inr (f, h, h', refl, refl)))
  back_new f c h' e (inr n) =
      let (d, here, empty) = moved.come f h' n in
      inr (inl (subst IsEmpty (Some_same (N' (child b f)) d c here e) empty))

  -- what stands in another cell
  back_old : (j' : ℕ) (c : Node) → N' j' ≡ Some c → j' ≢ index → (IsChild b j' → ⊥) → (IsChild a j') ⊎ (IsChild a j' → ⊥) → Back N index a b j' c
  back_old j' c e n out (inl q) = absurd (none≢some (N' j') c (moved.freed j' q out) e)
  back_old j' c e n out (inr q) = inr (inr (j', sym (moved.other j' n q out) ∙ e, n, inl (q, refl)))

  -- what stands in a used cell was there before, or is empty
  back : (j' : ℕ) (c : Node) → N' j' ≡ Some c → Back N index a b j' c
  back j' c e = elim (cases_eq j' index) [
    | inl q ↦ inl (q, Some_same (N' j') c b e (ap N' q ∙ moved.after))
    | inr n ↦ elim (block_cases base external j') [
      | inl q ↦
          let (f, h', p) = block_bit base external j' q in
          subst (λ k. Back N index a b k c) (sym p) (back_new f c h' (ap N' (sym p) ∙ e) (cases_eq (bit_at a.external f) 1))
      | inr out ↦ back_old j' c e n out (block_cases a.child_base a.external j')
    ]
  ]

  -- a used cell that held no child of the node stays in use
  still : (k : ℕ) → is_some (N k) ≡ true → (IsChild a k → ⊥) → is_some (N' k) ≡ true
  still k u q = elim (cases_eq k index) [
    | inl e ↦ is_some-from (N' k) b (ap N' e ∙ moved.after)
    | inr n ↦ ap is_some (moved.other k n q (not_new k u q)) ∙ u
  ]

  -- the new block is in use
  new_used : (k : ℕ) → IsChild b k → is_some (N' k) ≡ true
  new_used k q =
      let (f, h', p) = block_bit base external k q in
      ap (λ j. is_some (N' j)) p ∙ elim (cases_eq (bit_at a.external f) 1) [
        | inl h ↦ ap is_some (moved.kept f h h') ∙ sound.children_used index a moved.before (child a f) (child_in_block a f h)
        | inr n ↦ let (d, here, empty) = moved.come f h' n in is_some-from (N' (child b f)) d here
      ]

  -- the children of each node are in use
  children_of : (j' : ℕ) (c : Node) → Back N index a b j' c → (k : ℕ) → IsChild c k → is_some (N' k) ≡ true
  children_of j' c (inl (p, e)) k q = new_used k (subst (λ x. IsChild x k) e q)
  children_of j' c (inr (inl e)) k q = absurd (empty_has_no_child c e k q)
  children_of j' c (inr (inr (j, e, n, m))) k q = still k (sound.children_used j c e k q) (λ w. sound.children_apart j index c a e moved.before n k q w)

  -- the results of each node are in use
  results_of : (j' : ℕ) (c : Node) → Back N index a b j' c → (k : ℕ) → IsResult c k → is_some (G k) ≡ true
  results_of j' c (inl (p, e)) k q = sound.results_used index a moved.before k (subst (λ x. IsResult x k) e q)
  results_of j' c (inr (inl e)) k q = absurd (empty_has_no_result c e k q)
  results_of j' c (inr (inr (j, e, n, m))) k q = sound.results_used j c e k q

  -- no two nodes share a child
  children_apart_of : (i' j' : ℕ) (c d : Node) → Back N index a b i' c → Back N index a b j' d → i' ≢ j' → (k : ℕ) → IsChild c k → IsChild d k → ⊥
  children_apart_of i' j' c d (inr (inl e)) y ne k q r = empty_has_no_child c e k q
  children_apart_of i' j' c d x (inr (inl e)) ne k q r = empty_has_no_child d e k r
  children_apart_of i' j' c d (inl (p, e)) (inl (u, f)) ne k q r = ne (p ∙ sym u)
  children_apart_of i' j' c d (inl (p, e)) (inr (inr (j, f, n, m))) ne k q r = not_of_another j d f n k r (subst (λ x. IsChild x k) e q)
  children_apart_of i' j' c d (inr (inr (i, e, n, m))) (inl (u, f)) ne k q r = not_of_another i c e n k q (subst (λ x. IsChild x k) f r)
  children_apart_of i' j' c d (inr (inr (i, e, n, m))) (inr (inr (j, f, o, v))) ne k q r =
      sound.children_apart i j c d e f (apart_of i i' j j' m v ne) k q r

  -- no two nodes share a result
  results_apart_of : (i' j' : ℕ) (c d : Node) → Back N index a b i' c → Back N index a b j' d → i' ≢ j' → (k : ℕ) → IsResult c k → IsResult d k → ⊥
  results_apart_of i' j' c d (inr (inl e)) y ne k q r = empty_has_no_result c e k q
  results_apart_of i' j' c d x (inr (inl e)) ne k q r = empty_has_no_result d e k r
  results_apart_of i' j' c d (inl (p, e)) (inl (u, f)) ne k q r = ne (p ∙ sym u)
  results_apart_of i' j' c d (inl (p, e)) (inr (inr (j, f, n, m))) ne k q r = sound.results_apart j index d a f moved.before n k r (subst (λ x. IsResult x k) e q)
  results_apart_of i' j' c d (inr (inr (i, e, n, m))) (inl (u, f)) ne k q r = sound.results_apart i index c a e moved.before n k q (subst (λ x. IsResult x k) f r)
  results_apart_of i' j' c d (inr (inr (i, e, n, m))) (inr (inr (j, f, o, v))) ne k q r =
      sound.results_apart i j c d e f (apart_of i i' j j' m v ne) k q r

  root_apart_of : (j' : ℕ) (c : Node) → Back N index a b j' c → IsChild c 0 → ⊥
  root_apart_of j' c (inl (p, e)) q = not_new 0 sound.root (sound.root_apart index a moved.before) (subst (λ x. IsChild x 0) e q)
  root_apart_of j' c (inr (inl e)) q = empty_has_no_child c e 0 q
  root_apart_of j' c (inr (inr (j, e, n, m))) q = sound.root_apart j c e q

  not_own_child_of : (j' : ℕ) (c : Node) → Back N index a b j' c → IsChild c j' → ⊥
  not_own_child_of j' c (inl (p, e)) q =
      not_new index (is_some-from (N index) a moved.before) (sound.not_its_own_child index a moved.before) (subst (λ x. IsChild x index) e (subst (IsChild c) p q))
  not_own_child_of j' c (inr (inl e)) q = empty_has_no_child c e j' q
  not_own_child_of j' c (inr (inr (j, e, n, inl m))) q = sound.not_its_own_child j c e (subst (IsChild c) m.1 q)
  not_own_child_of j' c (inr (inr (j, e, n, inr (f, h, h', p, r)))) q = not_of_another j c e n j' q (subst (IsChild b) (sym r) (child_in_block b f h'))

  -- each node has 15 internal bits
  fifteen_bits_of : (j' : ℕ) (c : Node) → Back N index a b j' c → c.internal < 2 ^ 15
  fifteen_bits_of j' c (inl (p, e)) = let z : c.internal ≡ a.internal = ap (λ x. x.internal) e in omega (arith, sound.fifteen_bits index a moved.before)
  fifteen_bits_of j' c (inr (inl e)) = omega (arith, e.1)
  fifteen_bits_of j' c (inr (inr (j, e, n, m))) = sound.fifteen_bits j c e

  -- the tree stays sound
  pub moved_sound : IsLaidOut N' G
  moved_sound = record {
    root = still 0 sound.root (sound.root_apart index a moved.before);
    children_used = λ j c e. children_of j c (back j c e);
    results_used = λ j c e. results_of j c (back j c e);
    children_apart = λ i j c d e f. children_apart_of i j c d (back i c e) (back j d f);
    results_apart = λ i j c d e f. results_apart_of i j c d (back i c e) (back j d f);
    root_apart = λ j c e. root_apart_of j c (back j c e);
    fifteen_bits = λ j c e. fifteen_bits_of j c (back j c e);
    not_its_own_child = λ j c e. not_own_child_of j c (back j c e);
  }

  -- where the node of a path stands afterwards, if it has not gone
  abbrev After : ℕ → ℕ → ℕ → Type 0
  After path depth j =
      ((j' : ℕ) × (Moves a b j j') × (path_node N' path depth ≡ Some j'))
      ⊎ ((IsGone a b j) × (path_node N' path depth ≡ None))

  -- a child that has gone had no child
  no_step : (path depth j : ℕ) (s : IsStep N path depth j) → IsGone a b s.i → ⊥
  no_step path depth j s (f, h, n, p) =
      let (c, here, empty) = moved.gone f h n in
      let same : s.a ≡ c = Some_same (N s.i) s.a c s.cell (ap N p ∙ here) in
      zero_bit (nibble path depth) (sym (ap (λ x. bit_at x (nibble path depth)) (ap (λ x. x.external) same ∙ empty.0)) ∙ s.has)

  -- the walk to a node goes on to where its child has moved
  step_moves : (path depth j : ℕ) (s : IsStep N path depth j) → After path depth s.i → (s.i ≡ index) ⊎ (s.i ≡ index → ⊥) → After path (suc depth) j
  step_moves path depth j s (inr (lost, w)) at = absurd (no_step path depth j s lost)
  step_moves path depth j s (inl (i', m, w)) (inr n) = inl (
    j,
    inl (
      λ q. sound.children_apart s.i index s.a a s.cell moved.before n j (subst (IsChild s.a) s.is (child_in_block s.a (nibble path depth) s.has)) q,
      refl,
    ),
    step_yes N' path depth i' s.a w (moved_cell s.i i' s.a s.cell n m) s.has ∙ ap Some s.is,
  )
  step_moves path depth j s (inl (i', m, w)) (inl e) =
      let f = nibble path depth in
      let same : s.a ≡ a = Some_same (N index) s.a a (subst (λ k. N k ≡ Some s.a) e s.cell) moved.before in
      let has : HasChild a f = subst (λ x. HasChild x f) same s.has in
      let at : i' ≡ index = index_stays i' (subst (λ k. Moves a b k i') e m) in
      let is : j ≡ child a f = sym s.is ∙ ap (λ x. child x f) same in
      elim (cases_eq (bit_at external f) 1) [
        | inl has' ↦ inl (child b f, inr (f, has, has', is, refl), step_yes N' path depth i' b w (ap N' at ∙ moved.after) has')
        | inr unset ↦ inr ((f, has, unset, is), step_no N' path depth i' b w (ap N' at ∙ moved.after) unset)
      ]

  -- the node of a path stands where its cell has moved, or has gone
  node_moves : (path depth j : ℕ) → path_node N path depth ≡ Some j → After path depth j
  node_moves path zero j e =
      let z : 0 ≡ j = Some_same _ 0 j (root_at N path) e in
      inl (j, inl (λ q. sound.root_apart index a moved.before (subst (IsChild a) (sym z) q), refl), root_at N' path ∙ ap Some z)
  node_moves path (suc depth) j e =
      let s = step_of N G sound path depth j e in
      step_moves path depth j s (node_moves path depth s.i s.from) (cases_eq s.i index)

  -- the node itself stays on its path
  pub index_on : (path depth : ℕ) → path_node N path depth ≡ Some index → path_node N' path depth ≡ Some index
  index_on path depth at = elim (node_moves path depth index at) [
    | inl (j', m, w) ↦ w ∙ ap Some (index_stays j' m)
    | inr ((f, h, n, p), w) ↦ absurd (not_in_old f h (sym p))
  ]

  -- a row of a node that was there stays
  row_of : (path len j : ℕ) (c : Node) → path_node N path (len / 4) ≡ Some j → N j ≡ Some c → After path (len / 4) j
      → (j ≡ index) ⊎ (j ≡ index → ⊥) → path_entry N' G path len ≡ path_entry N G path len
  row_of path len j c f e (inr ((g, h, n, p), w)) at =
      let bit = internal_bit (nibble path (len / 4)) (len % 4) in
      let (d, here, empty) = moved.gone g h n in
      let same : c ≡ d = Some_same (N j) c d e (ap N p ∙ here) in
      row-none N' G path len w
      ∙ sym (row-some N G path len j c f e ∙ entry-clear G bit c (λ x. zero_bit bit (sym (ap (λ k. bit_at k bit) (ap (λ y. y.internal) same ∙ empty.1)) ∙ x)))
  row_of path len j c f e (inl (j', m, w)) (inr n) = row-some N' G path len j' c w (moved_cell j j' c e n m) ∙ sym (row-some N G path len j c f e)
  row_of path len j c f e (inl (j', m, w)) (inl at) =
      let bit = internal_bit (nibble path (len / 4)) (len % 4) in
      let same : c ≡ a = Some_same (N index) c a (subst (λ k. N k ≡ Some c) at e) moved.before in
      let stays : j' ≡ index = index_stays j' (subst (λ k. Moves a b k j') at m) in
      row-some N' G path len j' b w (ap N' stays ∙ moved.after)
      ∙ entry-with_children G bit a external base ∙ ap (λ x. entry_at_bit G bit (Some x)) (sym same) ∙ sym (row-some N G path len j c f e)

  pub row_on : (path len j : ℕ) → path_node N path (len / 4) ≡ Some j → path_entry N' G path len ≡ path_entry N G path len
  row_on path len j f =
      let (c, e) = some-from (N j) (node_used N G sound path (len / 4) j f) in
      row_of path len j c f e (node_moves path (len / 4) j f) (cases_eq j index)

-- ALL ROWS STAY: those of the nodes that were there, and from right to left those of the nodes that are there
pub moved_rows : (N N' : ℕ → Option Node) (G : ℕ → Option Entry) (index external base : ℕ) (a : Node) → IsLaidOut N G → MovesChildren N N' index a (with_children a external base)
    → (path len : ℕ) → path_entry N' G path len ≡ path_entry N G path len
moved_rows N N' G index external base a sound moved path len = elim (cases_option (path_node N path (len / 4))) [
  | inr (j, f) ↦ row_on N N' G index external base a sound moved path len j f
  | inl none ↦ elim (cases_option (path_node N' path (len / 4))) [
    | inl none' ↦ row-none N' G path len none' ∙ sym (row-none N G path len none)
    | inr (j', f) ↦
        sym (row_on N' N G index a.external a.child_base (with_children a external base) (moved_sound N N' G index external base a sound moved)
        (moved_back N N' index a (with_children a external base) moved) path len j' f)
  ]
]

-- the moves of a block of children, and the node that is written after it
pub moves_children : (N M N' : ℕ → Option Node) (G : ℕ → Option Entry) (index external base : ℕ) (a : Node) → IsLaidOut N G → N index ≡ Some a
    → IsMoved N M a.child_base a.external base external → IsCellWritten M N' index (with_children a external base)
    → ((f : ℕ) → HasChild a f → bit_at external f ≢ 1 → HoldsEmpty (N (child a f)))
    → ((f : ℕ) → bit_at external f ≡ 1 → bit_at a.external f ≢ 1 → HoldsEmpty (M (child (with_children a external base) f)))
    → MovesChildren N N' index a (with_children a external base)
moves_children N M N' G index external base a sound here moved written gone come = record {
  before = here;
  after = written.here;
  kept = λ f h h'. written.other (child b f) (off f h') ∙ moved.kept f h h';
  gone = gone;
  come = λ f h' n. let (c, is, empty) = come f h' n in (c, written.other (child b f) (off f h') ∙ is, empty);
  fresh = moved.fresh;
  freed = λ k q out. written.other k (λ e. own (subst (IsChild a) e q)) ∙ moved.freed k q out;
  other = λ k n q q'. written.other k n ∙ moved.other k q q';
}
  where
    b : Node
    b = with_children a external base

    own : IsChild a index → ⊥
    own = sound.not_its_own_child index a here

    off : (f : ℕ) → HasChild b f → child b f ≢ index
    off f h e = none≢some (N index) a (moved.fresh index (subst (IsChild b) e (child_in_block b f h)) own) here
