-- A step at either end of a live link keeps the invariant of the link; a name with ' says what holds after the step.
use Rattle.std.proofs.Common.{refl, sym, ◌∙◌, ap, arith, append_assoc, inl, inr, ◌≡◌, ℕ, ◌+◌, ◌<◌, ◌≤◌, true, false, List, [], ◌∷◌, ◌++◌, Option, Some, None}
use Rattle.network_model.proofs.Common.{cases_Bool, cases_lt, both_ways, false_from_ne_true, Kind, Query, Reply, infinity, Report, one_if}
use Rattle.loop_freedom.specs.Facts.{count, AtLeast, AtLeastFromLastQuery, End, pipe}
use Rattle.loop_freedom.proofs.Lists.{front, one_if_at_most_one, count-append, at_least_append, at_least_right, at_least_less, from_last_query_of_all, at_least_without_query, from_last_query_right, from_last_query_append}
use Rattle.loop_freedom.proofs.Link.{EndInvariant, Answered, heard, Keeps, GoesOn, EndStep}

-- both ends of a live link before and after a step: each may take what the other sent, and add what it sends
pub record LinkStep (x y x' y' : End) (tx ty : Option Report) (ax ay : List Report) : Type 0 where
  pub one : EndInvariant x y
  pub two : EndInvariant y x
  pub here : EndStep x x' tx ax
  pub there : EndStep y y' ty ay
  pub out_here : x.out ≡ front ty ++ x'.out
  pub out_there : y.out ≡ front tx ++ y'.out

-- the step, seen from the other end
pub swapped : {x y x' y' : End} {tx ty : Option Report} {ax ay : List Report} → LinkStep x y x' y' tx ty ax ay → LinkStep y x y' x' ty tx ay ax
swapped J = record { one = J.two; two = J.one; here = J.there; there = J.here; out_here = J.out_there; out_there = J.out_here }

-- what was on its way from x and is not taken in the step
abbrev staying : End → End → List Report
staying x x' = x'.out ++ x.kept

-- before the step there is on its way what is taken, then what stays
pub pipe_old : {x y x' y' : End} {tx ty : Option Report} {ax ay : List Report} → LinkStep x y x' y' tx ty ax ay → pipe x ≡ front ty ++ staying x x'
pipe_old {x} {x'} {ty} J = rw J.out_here (append_assoc (front ty) x'.out x.kept)

-- after the step there is on its way what stays, then what is added
pub pipe_new : {x y x' y' : End} {tx ty : Option Report} {ax ay : List Report} → LinkStep x y x' y' tx ty ax ay → pipe x' ≡ staying x x' ++ ax
pipe_new {x} {x'} {ax} J = rw J.here.kept_is (sym (append_assoc x'.out x.kept ax))

-- the messages of a kind on their way before the step are those taken and those that stay
pub count_old : {x y x' y' : End} {tx ty : Option Report} {ax ay : List Report} → (J : LinkStep x y x' y' tx ty ax ay) → (k : Kind) → count k (pipe x) ≡ count k (front ty) + count k (staying x x')
count_old {x} {x'} {ty} J k = ap (count k) (pipe_old J) ∙ count-append k (front ty) (staying x x')

-- the messages of a kind on their way after the step are those that stay and those added
pub count_new : {x y x' y' : End} {tx ty : Option Report} {ax ay : List Report} → (J : LinkStep x y x' y' tx ty ax ay) → (k : Kind) → count k (pipe x') ≡ count k (staying x x') + count k ax
count_new {x} {x'} {ax} J k = ap (count k) (pipe_new J) ∙ count-append k (staying x x') ax

-- where two lists in a row are empty, the second is
nil_right : (xs ys : List Report) → xs ++ ys ≡ [] → ys ≡ []
nil_right [] ys e = e
nil_right (x ∷ xs) ys e = cc

-- where what was taken and a list in a row are empty, nothing was taken
nil_front : (t : Option Report) (ys : List Report) → front t ++ ys ≡ [] → t ≡ None
nil_front None ys e = refl
nil_front (Some m) ys e = cc

-- an end that does not know of the session after the step did not before
pub not_current : {x y x' y' : End} {tx ty : Option Report} {ax ay : List Report} → LinkStep x y x' y' tx ty ax ay → x'.current ≡ false → x.current ≡ false
not_current {x} {x'} J e = false_from_ne_true x.current (λ c. both_ways x'.current e (J.here.current_stays c))

-- an end that does not know of the session has nothing on its way
pub nothing_sent' : {x y x' y' : End} {tx ty : Option Report} {ax ay : List Report} → LinkStep x y x' y' tx ty ax ay → x'.current ≡ false → pipe x' ≡ []
nothing_sent' {x} {x'} {ty} J e =
    let empty : front ty ++ staying x x' ≡ [] = sym (pipe_old J) ∙ J.one.nothing_sent (not_current J e) in
    rw (pipe_new J) (rw (nil_right (front ty) (staying x x') empty) (J.here.adds_nothing e))

-- an end keeps no report of a neighbour that does not know of the session
pub unheard' : {x y x' y' : End} {tx ty : Option Report} {ax ay : List Report} → LinkStep x y x' y' tx ty ax ay → x'.current ≡ false → y'.current ≡ true → y'.reported ≡ infinity
unheard' {x} {y} {x'} {y'} {ty} J e f =
    let old : x.current ≡ false = not_current J e in
    let none : ty ≡ None = nil_front ty (staying x x') (sym (pipe_old J) ∙ J.one.nothing_sent old) in
    let was_current : y.current ≡ true → y'.reported ≡ infinity = λ g.
    J.there.reports g ∙ ap (λ t. heard t y.reported) none ∙ J.one.unheard old g in
    elim (cases_Bool y.current) [
      | inl g ↦ was_current g
      | inr g ↦ J.there.comes g f
    ]

-- a chosen neighbour knows of the session
pub chosen_current' : {x y x' y' : End} {tx ty : Option Report} {ax ay : List Report} → LinkStep x y x' y' tx ty ax ay → x'.chosen ≡ true → y'.current ≡ true
chosen_current' {x} {y} {x'} {y'} J e =
    elim (cases_Bool y'.current) [
      | inl g ↦ g
      | inr g ↦ elim (J.here.chooses e) [
        | inl less ↦ absurd (let r : x'.reported ≡ infinity = unheard' (swapped J) g (J.here.chosen_current e) in omega (arith, r, less, J.here.fd_below, J.here.rd_bounded))
        | inr k ↦ J.there.current_stays (J.one.chosen_current k.was)
      ]
    ]

-- both ends of a published edge know of the session
pub shown_current' : {x y x' y' : End} {tx ty : Option Report} {ax ay : List Report} → LinkStep x y x' y' tx ty ax ay → x'.shown ≡ true → (x'.current ≡ true) × (y'.current ≡ true)
shown_current' {x} {y} {x'} {y'} J e =
    let was : x.shown ≡ true = sym J.here.shown_is ∙ e in
    (J.here.current_stays (J.one.shown_current was).0, J.there.current_stays (J.one.shown_current was).1)

-- the queries of x and replies of y on their way, the reply that y owes, and what x awaits, change alike
balance : {x y x' y' : End} {tx ty : Option Report} {ax ay : List Report} → LinkStep x y x' y' tx ty ax ay
    → (count Query (pipe x') + one_if y'.owes + count Reply (pipe y')) + one_if x.awaits ≡ (count Query (pipe x) + one_if y.owes + count Reply (pipe y)) + one_if x'.awaits
balance {x} {y} {x'} {y'} {tx} {ty} {ax} {ay} J =
    let S : LinkStep y x y' x' ty tx ay ax = swapped J in
    let a = count_old J Query in
    let b = count_new J Query in
    let c = count_old S Reply in
    let d = count_new S Reply in
    let t = J.one.awaited_once in
    let l = one_if_at_most_one x.awaits in
    let q = J.here.queries (omega (arith, a, c, t)) in
    let r = J.there.replies (omega (arith, a, c, t, l)) in
    omega (arith, a, b, c, d, q, r)

-- where one query to y or one reply from y is on its way, or y owes the reply, x awaits y, and there is one of these alone
pub awaited_once' : {x y x' y' : End} {tx ty : Option Report} {ax ay : List Report} → LinkStep x y x' y' tx ty ax ay → count Query (pipe x') + one_if y'.owes + count Reply (pipe y') ≤ one_if x'.awaits
awaited_once' J = omega (arith, balance J, J.one.awaited_once)

-- where the feasible distance of x rises, the new one is at most what y keeps of x, and all that was on its way to y
pub risen : {x y x' y' : End} {tx ty : Option Report} {ax ay : List Report} → LinkStep x y x' y' tx ty ax ay → x'.current ≡ true → x.fd < x'.fd → AtLeast x'.fd (pipe x) × (y.current ≡ true → x'.fd ≤ y.reported)
risen {x} {y} {x'} {y'} {tx} {ty} {ax} {ay} J e lt =
    let r = J.here.rises e lt in
    let S : LinkStep y x y' x' ty tx ay ax = swapped J in
    let none : count Query (pipe x) ≡ 0 = omega (arith, J.one.awaited_once, r.2, count_old S Reply) in (
      at_least_less x.rd x'.fd (pipe x) r.1 (at_least_without_query x.rd (pipe x) none (J.two.computation_below_sent r.0)),
      λ f. let g = J.two.computation_below_kept r.0 f (omega (arith, r.2, count_old S Reply)) in omega (arith, g, r.1),
    )

-- the feasible distance of x after the step is at most what y kept of x before it, and all that was on its way to y
pub below_all : {x y x' y' : End} {tx ty : Option Report} {ax ay : List Report} → LinkStep x y x' y' tx ty ax ay → x'.current ≡ true → AtLeast x'.fd (pipe x) × (y.current ≡ true → x'.fd ≤ y.reported)
below_all {x} {y} {x'} {y'} {tx} {ty} {ax} {ay} J e =
    elim (cases_lt x.fd x'.fd) [
      | inl lt ↦ risen J e lt
      | inr le ↦ (at_least_less x.fd x'.fd (pipe x) le J.one.feasible_below_sent, λ f. let g = J.one.feasible_below_kept f in omega (arith, g, le))
    ]

-- the feasible distance of x is at most every value on its way to y
pub feasible_below_sent' : {x y x' y' : End} {tx ty : Option Report} {ax ay : List Report} → LinkStep x y x' y' tx ty ax ay → AtLeast x'.fd (pipe x')
feasible_below_sent' {x} {y} {x'} {y'} {tx} {ty} {ax} {ay} J =
    let none : x'.current ≡ false → AtLeast x'.fd (pipe x') = λ e. rw (nothing_sent' J e) tt in
    let some : x'.current ≡ true → AtLeast x'.fd (pipe x') = λ e.
    let all : AtLeast x'.fd (front ty ++ staying x x') = rw (pipe_old J) at ((below_all J e).0) in
    rw (pipe_new J) (at_least_append x'.fd (staying x x') ax (at_least_right x'.fd (front ty) (staying x x') all) (at_least_less x'.rd x'.fd ax J.here.fd_below J.here.says)) in
    elim (cases_Bool x'.current) [ inl e ↦ some e | inr e ↦ none e ]

-- a bound of what is kept and of what is on its way bounds what is kept after the front message, if one is taken
heard_at_least : (n r : ℕ) (t : Option Report) (ms : List Report) → n ≤ r → AtLeast n (front t ++ ms) → n ≤ heard t r
heard_at_least n r None ms le h = le
heard_at_least n r (Some m) ms le h = h.0

-- the feasible distance of x is at most what y keeps of x
pub feasible_below_kept' : {x y x' y' : End} {tx ty : Option Report} {ax ay : List Report} → LinkStep x y x' y' tx ty ax ay → y'.current ≡ true → x'.fd ≤ y'.reported
feasible_below_kept' {x} {y} {x'} {y'} {tx} {ty} {ax} {ay} J f =
    let fd_bounded : x'.fd ≤ infinity = omega (arith, J.here.fd_below, J.here.rd_bounded) in
    let unknown : y'.reported ≡ infinity → x'.fd ≤ y'.reported = λ e. omega (arith, e, fd_bounded) in
    let known : x'.current ≡ true → y.current ≡ true → x'.fd ≤ y'.reported = λ e g.
    rw (J.there.reports g) (heard_at_least x'.fd y.reported ty (staying x x') ((below_all J e).1 g) (rw (pipe_old J) at ((below_all J e).0))) in
    elim (cases_Bool x'.current) [
      | inl e ↦ elim (cases_Bool y.current) [ inl g ↦ known e g | inr g ↦ unknown (J.there.comes g f) ]
      | inr e ↦ unknown (unheard' J e f)
    ]

-- the published feasible distance of x is at most every value that x has released or may release
pub published_below_sent' : {x y x' y' : End} {tx ty : Option Report} {ax ay : List Report} → LinkStep x y x' y' tx ty ax ay → AtLeast x'.pfd x'.out
published_below_sent' {x} {y} {x'} {y'} {tx} {ty} {ax} {ay} J = rw J.here.pfd_is (at_least_right x.pfd (front ty) x'.out (rw J.out_here at J.one.published_below_sent))

-- the published feasible distance of x is at most what y keeps of x
pub published_below_kept' : {x y x' y' : End} {tx ty : Option Report} {ax ay : List Report} → LinkStep x y x' y' tx ty ax ay → y'.current ≡ true → x'.pfd ≤ y'.reported
published_below_kept' {x} {y} {x'} {y'} {tx} {ty} {ax} {ay} J f =
    elim (cases_Bool y.current) [
      | inl g ↦ rw (J.here.pfd_is, J.there.reports g) (heard_at_least x.pfd y.reported ty x'.out (J.one.published_below_kept g) (rw J.out_here at J.one.published_below_sent))
      | inr g ↦ let e = J.there.comes g f in omega (arith, e, J.here.pfd_is, J.one.pfd_bounded)
    ]

-- where y does not await x, or takes its reply now, that was on its way
answer_comes : {x y x' y' : End} {tx ty : Option Report} {ax ay : List Report} → LinkStep x y x' y' tx ty ax ay → one_if y.awaits ≤ count Reply (front ty) → one_if y.awaits ≤ count Reply (pipe x)
answer_comes {x} {y} {x'} {y'} {tx} {ty} {ax} {ay} J le = omega (arith, le, count_old J Reply)

-- where y is the successor of x, both feasible distances of y are below that of x
pub control_edge_falls' : {x y x' y' : End} {tx ty : Option Report} {ax ay : List Report} → LinkStep x y x' y' tx ty ax ay → x'.chosen ≡ true → (y'.fd < x'.fd) × (y'.pfd < x'.fd)
control_edge_falls' {x} {y} {x'} {y'} {tx} {ty} {ax} {ay} J e =
    let S : LinkStep y x y' x' ty tx ay ax = swapped J in
    let c : x'.current ≡ true = J.here.chosen_current e in
    let new : x'.reported < x'.fd → (y'.fd < x'.fd) × (y'.pfd < x'.fd) = λ less.
    let a : y'.fd ≤ x'.reported = feasible_below_kept' S c in
    let b : y'.pfd ≤ x'.reported = published_below_kept' S c in
    (omega (arith, a, less), omega (arith, b, less)) in
    let old : Keeps x x' ax → (y'.fd < x'.fd) × (y'.pfd < x'.fd) = λ k.
    let o = J.one.control_edge_falls k.was in
    let g : y'.current ≡ true = J.there.current_stays (J.one.chosen_current k.was) in
    let rising : y.fd < y'.fd → y'.fd < x'.fd = λ lt.
    let r = J.there.rises g lt in
    let w = J.one.control_edge_waits r.0 k.was (answer_comes J r.2) in
    omega (arith, w, r.1, k.grows) in
    let first : y'.fd < x'.fd = elim (cases_lt y.fd y'.fd) [ inl lt ↦ rising lt | inr le ↦ omega (arith, le, o.0, k.grows) ] in
    (first, omega (arith, J.there.pfd_is, o.1, k.grows)) in
    elim (J.here.chooses e) [ inl less ↦ new less | inr k ↦ old k ]

-- where y is the published successor of x, both feasible distances of y are below the published one of x
pub published_edge_falls' : {x y x' y' : End} {tx ty : Option Report} {ax ay : List Report} → LinkStep x y x' y' tx ty ax ay → x'.shown ≡ true → (y'.fd < x'.pfd) × (y'.pfd < x'.pfd)
published_edge_falls' {x} {y} {x'} {y'} {tx} {ty} {ax} {ay} J e =
    let was : x.shown ≡ true = sym J.here.shown_is ∙ e in
    let o = J.one.published_edge_falls was in
    let g : y'.current ≡ true = J.there.current_stays (J.one.shown_current was).1 in
    let rising : y.fd < y'.fd → y'.fd < x'.pfd = λ lt.
    let r = J.there.rises g lt in
    let out : count Reply x.out ≡ count Reply (front ty) + count Reply x'.out = ap (count Reply) J.out_here ∙ count-append Reply (front ty) x'.out in
    let w = J.one.published_edge_waits r.0 was (omega (arith, r.2, out)) in
    omega (arith, w, r.1, J.here.pfd_is) in
    let first : y'.fd < x'.pfd = elim (cases_lt y.fd y'.fd) [ inl lt ↦ rising lt | inr le ↦ omega (arith, le, o.0, J.here.pfd_is) ] in
    (first, omega (arith, J.there.pfd_is, J.here.pfd_is, o.1))

-- the distance of y's computation is at most every value that y sends from its last query on
pub computation_below_sent' : {x y x' y' : End} {tx ty : Option Report} {ax ay : List Report} → LinkStep x y x' y' tx ty ax ay → y'.active ≡ true → AtLeastFromLastQuery y'.rd (pipe y')
computation_below_sent' {x} {y} {x'} {y'} {tx} {ty} {ax} {ay} J e =
    let S : LinkStep y x y' x' ty tx ay ax = swapped J in
    let said : AtLeastFromLastQuery y'.rd ay = from_last_query_of_all y'.rd ay J.there.says in
    let goes_on : GoesOn y y' ay → count Query ay ≡ 0 → AtLeastFromLastQuery y'.rd (staying y y') = λ k z.
    rw k.stays (from_last_query_right y.rd (front tx) (staying y y') (rw (pipe_old S) at (J.one.computation_below_sent k.was))) in
    let current : y'.current ≡ true → AtLeastFromLastQuery y'.rd (pipe y') = λ f.
    rw (pipe_new S) (from_last_query_append y'.rd (staying y y') ay
    (λ z. elim (J.there.asks f e) [ inl k ↦ goes_on k z | inr some ↦ absurd (omega (arith, some, z)) ]) said) in
    elim (cases_Bool y'.current) [ inl f ↦ current f | inr f ↦ rw (nothing_sent' S f) tt ]

-- a bound from the last query on bounds what is kept after the front message, if one is taken, where no query follows
heard_from_last_query : (n r : ℕ) (t : Option Report) (ms : List Report) → count Query ms ≡ 0 → (count Query (front t) + count Query ms ≡ 0 → n ≤ r) → AtLeastFromLastQuery n (front t ++ ms) → n ≤ heard t r
heard_from_last_query n r None ms z f h = f (omega (arith, z))
heard_from_last_query n r (Some m) ms z f h = h.0 z

-- where y does not await x, or x has its query or has answered, the distance of y's computation is at most what x keeps of y
pub computation_below_kept' : {x y x' y' : End} {tx ty : Option Report} {ax ay : List Report} → LinkStep x y x' y' tx ty ax ay → y'.active ≡ true → x'.current ≡ true → one_if y'.awaits ≤ one_if x'.owes + count Reply (pipe x') → y'.rd ≤ x'.reported
computation_below_kept' {x} {y} {x'} {y'} {tx} {ty} {ax} {ay} J e c z =
    let S : LinkStep y x y' x' ty tx ay ax = swapped J in
    let unknown : x'.reported ≡ infinity → y'.rd ≤ x'.reported = λ i. omega (arith, i, J.there.rd_bounded) in
    let new = count_new S Query in
    let tn = awaited_once' S in
    let t2 = J.two.awaited_once in
    let l = one_if_at_most_one y.awaits in
    let co = count_old S Query in
    let ro = count_old J Reply in
    let rn = count_new J Reply in
    let goes_on : GoesOn y y' ay → x.current ≡ true → y'.rd ≤ x'.reported = λ k g.
    let t : AtLeastFromLastQuery y.rd (front tx ++ staying y y') = rw (pipe_old S) at (J.one.computation_below_sent k.was) in
    let z2 : count Query (staying y y') ≡ 0 = omega (arith, z, tn, new) in
    let q = J.there.queries (omega (arith, t2, ro)) in
    let p = J.here.replies (omega (arith, t2, co, l)) in
    let h : y.rd ≤ heard tx x.reported = heard_from_last_query y.rd x.reported tx (staying y y') z2 (λ s. J.one.computation_below_kept k.was g (omega (arith, s, z, q, p, ro, rn, k.silent))) t in
    rw (J.here.reports g, k.stays) h in
    let known : y'.current ≡ true → x.current ≡ true → y'.rd ≤ x'.reported = λ f g.
    elim (J.there.asks f e) [ inl k ↦ goes_on k g | inr some ↦ absurd (omega (arith, some, z, tn, new)) ] in
    elim (cases_Bool y'.current) [
      | inl f ↦ elim (cases_Bool x.current) [ inl g ↦ known f g | inr g ↦ unknown (J.here.comes g c) ]
      | inr f ↦ unknown (unheard' S f c)
    ]

-- where x has answered its active successor y, or y does not await it, the distance of y's computation is below x's feasible distance
pub control_edge_waits' : {x y x' y' : End} {tx ty : Option Report} {ax ay : List Report} → LinkStep x y x' y' tx ty ax ay → y'.active ≡ true → x'.chosen ≡ true → one_if y'.awaits ≤ count Reply (pipe x') → y'.rd < x'.fd
control_edge_waits' {x} {y} {x'} {y'} {tx} {ty} {ax} {ay} J e ch z =
    let S : LinkStep y x y' x' ty tx ay ax = swapped J in
    let c : x'.current ≡ true = J.here.chosen_current ch in
    let f : y'.current ≡ true = chosen_current' J ch in
    let new : x'.reported < x'.fd → y'.rd < x'.fd = λ less.
    let h : y'.rd ≤ x'.reported = computation_below_kept' J e c (omega (arith, z)) in omega (arith, h, less) in
    let cn = count_new S Query in
    let tn = awaited_once' S in
    let ro = count_old J Reply in
    let rn = count_new J Reply in
    let keeps : Keeps x x' ax → GoesOn y y' ay → y'.rd < x'.fd = λ k g.
    let q = J.there.queries (omega (arith, J.two.awaited_once, ro)) in
    let w = J.one.control_edge_waits g.was k.was (omega (arith, z, q, ro, rn, k.silent, g.silent)) in
    omega (arith, w, g.stays, k.grows) in
    let old : Keeps x x' ax → y'.rd < x'.fd = λ k.
    elim (J.there.asks f e) [ inl g ↦ keeps k g | inr some ↦ absurd (omega (arith, some, z, tn, cn)) ] in
    elim (J.here.chooses ch) [ inl less ↦ new less | inr k ↦ old k ]

-- where x's published successor y awaits no reply that x has yet to release, y's computation is below x's published distance
pub published_edge_waits' : {x y x' y' : End} {tx ty : Option Report} {ax ay : List Report} → LinkStep x y x' y' tx ty ax ay → y'.active ≡ true → x'.shown ≡ true → one_if y'.awaits ≤ count Reply x'.out → y'.rd < x'.pfd
published_edge_waits' {x} {y} {x'} {y'} {tx} {ty} {ax} {ay} J e sh le =
    let S : LinkStep y x y' x' ty tx ay ax = swapped J in
    let was : x.shown ≡ true = sym J.here.shown_is ∙ sh in
    let f : y'.current ≡ true = (shown_current' J sh).1 in
    let out : count Reply x.out ≡ count Reply (front ty) + count Reply x'.out = ap (count Reply) J.out_here ∙ count-append Reply (front ty) x'.out in
    let part : count Reply (staying x x') ≡ count Reply x'.out + count Reply x.kept = count-append Reply x'.out x.kept in
    let cn = count_new S Query in
    let cr = count_new J Reply in
    let co = count_old J Reply in
    let tn = awaited_once' S in
    let goes_on : GoesOn y y' ay → y'.rd < x'.pfd = λ g.
    let q = J.there.queries (omega (arith, J.two.awaited_once, co)) in
    let w = J.one.published_edge_waits g.was was (omega (arith, q, g.silent, le, out)) in
    omega (arith, w, g.stays, J.here.pfd_is) in
    let l = one_if_at_most_one y'.awaits in
    elim (J.there.asks f e) [ inl g ↦ goes_on g | inr some ↦ absurd (omega (arith, some, le, cn, cr, tn, part)) ]

-- a step keeps the invariant of a live link
pub step_keeps : {x y x' y' : End} {tx ty : Option Report} {ax ay : List Report} → LinkStep x y x' y' tx ty ax ay → EndInvariant x' y'
step_keeps J = record {
  nothing_sent = nothing_sent' J;
  unheard = unheard' J;
  chosen_current = chosen_current' J;
  shown_current = shown_current' J;
  pfd_bounded = omega (arith, J.here.pfd_is, J.one.pfd_bounded);
  feasible_below_sent = feasible_below_sent' J;
  feasible_below_kept = feasible_below_kept' J;
  published_below_sent = published_below_sent' J;
  published_below_kept = published_below_kept' J;
  control_edge_falls = control_edge_falls' J;
  published_edge_falls = published_edge_falls' J;
  awaited_once = awaited_once' J;
  computation_below_sent = computation_below_sent' J;
  computation_below_kept = computation_below_kept' J;
  control_edge_waits = control_edge_waits' J;
  published_edge_waits = published_edge_waits' J;
}

-- a step at either end keeps that who is awaited has the query, owes the reply, or has sent it
pub step_answered : {x y x' y' : End} {tx ty : Option Report} {ax ay : List Report} → LinkStep x y x' y' tx ty ax ay → Answered x y → Answered x' y'
step_answered J T = record { answered = omega (arith, balance J, T.answered) }
