-- What is kept of a published edge whose own router has left the session, while the router across may still be in it.
use Rattle.std.proofs.Common.{sym, ◌∙◌, ap, arith, inl, inr, ◌≡◌, ◌+◌, ◌<◌, ◌≤◌, true, List, ◌++◌, Option}
use Rattle.network_model.proofs.Common.{cases_lt, Kind, Query, Reply, Report, one_if}
use Rattle.loop_freedom.specs.Facts.{count, End, pipe}
use Rattle.loop_freedom.proofs.{Lists.front, Lists.count-append, Lists.one_if_at_most_one, Link.EndInvariant, Link.GoesOn, Link.EndStep}

-- x has left the session, and y has not: what y does cannot make its feasible distances reach that by which x still sends
pub record Gone (x y : End) : Type 0 where
  pub shown_current : x.shown ≡ true → y.current ≡ true
  pub published_edge_falls : x.shown ≡ true → (y.fd < x.pfd) × (y.pfd < x.pfd)
  pub replies_awaited : count Reply (pipe x) ≤ one_if y.awaits
  pub queries_once : count Query (pipe x) + one_if y.owes ≤ 1
  pub published_edge_waits : y.active ≡ true → x.shown ≡ true → one_if y.awaits ≤ count Reply x.out → y.rd < x.pfd

-- what holds while both may be in the session goes on to hold where x leaves it
pub gone_of : {x y : End} → EndInvariant x y → EndInvariant y x → Gone x y
gone_of {x} {y} h g = record {
  shown_current = λ e. (h.shown_current e).1;
  published_edge_falls = h.published_edge_falls;
  replies_awaited = (let t = g.awaited_once in omega (arith, t));
  queries_once = (let t = h.awaited_once in let l = one_if_at_most_one x.awaits in omega (arith, t, l));
  published_edge_waits = h.published_edge_waits;
}

-- a step of y, and one that x makes elsewhere: x shows the same, and keeps what it has for y but what y takes
pub record Leaves (x y x' y' : End) (taken : Option Report) (added : List Report) : Type 0 where
  pub gone : Gone x y
  pub there : EndStep y y' taken added
  pub shown_is : x'.shown ≡ x.shown
  pub pfd_is : x'.pfd ≡ x.pfd
  pub kept_is : x'.kept ≡ x.kept
  pub out_is : x.out ≡ front taken ++ x'.out

-- the messages of a kind that x has released are those taken and those left
out_count : {x y x' y' : End} {taken : Option Report} {added : List Report} → (L : Leaves x y x' y' taken added) → (k : Kind) → count k x.out ≡ count k (front taken) + count k x'.out
out_count {x' = x'} {taken = taken} L k = ap (count k) L.out_is ∙ count-append k (front taken) x'.out

-- what y awaits grows by its queries and falls by the reply taken
awaits_count : {x y x' y' : End} {taken : Option Report} {added : List Report} → (L : Leaves x y x' y' taken added) → one_if y'.awaits + count Reply (front taken) ≡ one_if y.awaits + count Query added
awaits_count {x = x} L =
    let a = (L.gone).replies_awaited in
    let b = count-append Reply x.out x.kept in
    let c = out_count L Reply in
    (L.there).queries (omega (arith, a, b, c))

-- such steps keep it
pub gone_keeps : {x y x' y' : End} {taken : Option Report} {added : List Report} → Leaves x y x' y' taken added → Gone x' y'
gone_keeps {x} {y} {x'} {y'} {taken} {added} L = record {
  shown_current = λ e. current' (was e);
  published_edge_falls = λ e. (first (was e), let o = G.published_edge_falls (was e) in omega (arith, o.1, L.pfd_is, (L.there).pfd_is));
  replies_awaited = (let a = G.replies_awaited in let b = count-append Reply x.out x.kept in let b2 = count-append Reply x'.out x'.kept in let k = ap (count Reply) L.kept_is in omega (arith, a, b, b2, k, c, w));
  queries_once = owes_once;
  published_edge_waits = λ act e le. waits act (was e) le;
}
  where
    G : Gone x y
    G = L.gone

    c : count Reply x.out ≡ count Reply (front taken) + count Reply x'.out
    c = out_count L Reply

    w : one_if y'.awaits + count Reply (front taken) ≡ one_if y.awaits + count Query added
    w = awaits_count L

    -- what y owes grows by the query taken and falls by its replies
    owes_once : count Query (pipe x') + one_if y'.owes ≤ 1
    owes_once =
        let a = G.queries_once in
        let b = count-append Query x.out x.kept in
        let b2 = count-append Query x'.out x'.kept in
        let k = ap (count Query) L.kept_is in
        let q = out_count L Query in
        let o = (L.there).replies (omega (arith, a, b, q)) in
        omega (arith, a, b, b2, k, q, o)

    was : x'.shown ≡ true → x.shown ≡ true
    was e = sym L.shown_is ∙ e

    current' : x.shown ≡ true → y'.current ≡ true
    current' e = (L.there).current_stays (G.shown_current e)

    first : x.shown ≡ true → y'.fd < x'.pfd
    first e = elim (cases_lt y.fd y'.fd) [
      | inl lt ↦
          let r = (L.there).rises (current' e) lt in
          let v = G.published_edge_waits r.0 e (omega (arith, r.2, c)) in
          omega (arith, v, r.1, L.pfd_is)
      | inr le ↦ let o = G.published_edge_falls e in omega (arith, le, o.0, L.pfd_is)
    ]

    goes_on : x.shown ≡ true → one_if y'.awaits ≤ count Reply x'.out → GoesOn y y' added → y'.rd < x'.pfd
    goes_on e le g =
        let v = G.published_edge_waits g.was e (let s = g.silent in omega (arith, le, c, w, s)) in
        let st = g.stays in
        omega (arith, v, st, L.pfd_is)

    waits : y'.active ≡ true → x.shown ≡ true → one_if y'.awaits ≤ count Reply x'.out → y'.rd < x'.pfd
    waits act e le = elim ((L.there).asks (current' e) act) [
      | inl g ↦ goes_on e le g
      | inr some ↦ absurd (let a = G.replies_awaited in let b = count-append Reply x.out x.kept in omega (arith, some, le, c, w, a, b))
    ]

-- so does a step by which x loses some of what it has, and nothing else changes
pub gone_less : (x x' y : End) → x'.shown ≡ x.shown → x'.pfd ≡ x.pfd → ((k : Kind) → count k (pipe x') ≤ count k (pipe x)) → count Reply x'.out ≤ count Reply x.out → Gone x y → Gone x' y
gone_less x x' y sh pf less less_out G = record {
  shown_current = λ e. G.shown_current (sym sh ∙ e);
  published_edge_falls = λ e. (let o = G.published_edge_falls (sym sh ∙ e) in (omega (arith, o.0, pf), omega (arith, o.1, pf)));
  replies_awaited = (let a = G.replies_awaited in let l = less Reply in omega (arith, a, l));
  queries_once = (let a = G.queries_once in let l = less Query in omega (arith, a, l));
  published_edge_waits = λ act e le. (let v = G.published_edge_waits act (sym sh ∙ e) (omega (arith, le, less_out)) in omega (arith, v, pf));
}
