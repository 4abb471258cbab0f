-- What a row that is put in force does to an end of a link, and to what is kept between it and the other end.
use Rattle.std.proofs.Common.{refl, sym, ◌∙◌, ap, subst, arith, ◌≡◌, ℕ, ◌≤◌, true, List, [], ◌++◌, append-nil}
use Rattle.network_model.proofs.Common.{Query, Reply, Report, infinity}
use Rattle.loop_freedom.specs.Facts.{count, AtLeast, AtLeastFromLastQuery, End, pipe}
use Rattle.loop_freedom.proofs.{Lists.count-append, Lists.at_least_left, Link.EndInvariant, Link.Answered}

-- the end once its router has put the row that it chose in force: what is on its way stays, and may be released or not. What the end
-- keeps of the other may change where it is not in the session
abbrev pub in_force : ℕ → List Report → List Report → End → End
in_force reported out kept x = record x { reported = reported; shown = x.chosen; pfd = x.fd; out = out; kept = kept }

-- one end is the other, once its row is in force
pub record ShownAs (x x' : End) : Type 0 where
  pub reported : ℕ
  pub out : List Report
  pub kept : List Report
  pub is : x' ≡ in_force reported out kept x
  pub reported_is : x.current ≡ true → reported ≡ x.reported
  pub pipe_is : out ++ kept ≡ pipe x

-- the end once its router has published what it chose, so that all may be released
abbrev pub shown_as_chosen : End → End
shown_as_chosen x = record x { shown = x.chosen; pfd = x.fd; out = x.out ++ x.kept; kept = [] }

-- its row is in force
pub shown_published : (x : End) → ShownAs x (shown_as_chosen x)
shown_published x = record { reported = x.reported; out = x.out ++ x.kept; kept = []; is = refl; reported_is = λ on. refl; pipe_is = append-nil (x.out ++ x.kept) }

module _ (x y : End) (reported : ℕ) (out kept : List Report) (reported_is : x.current ≡ true → reported ≡ x.reported) (pipe_is : out ++ kept ≡ pipe x) where
  -- the end with its row in force
  abbrev x' : End
  x' = in_force reported out kept x

  -- no more replies are released than are on their way
  fewer_out : count Reply out ≤ count Reply (pipe x)
  fewer_out = let a = count-append Reply out kept in let b = ap (count Reply) pipe_is in omega (arith, a, b)

  -- what is kept between the ends, seen from this one, is kept, where a chosen end knows of the session
  force_here : (x.chosen ≡ true → x.current ≡ true) → x.fd ≤ infinity → EndInvariant x y → EndInvariant x' y
  force_here c b h = record {
    nothing_sent = λ e. pipe_is ∙ h.nothing_sent e;
    unheard = h.unheard;
    chosen_current = h.chosen_current;
    shown_current = λ e. (c e, h.chosen_current e);
    pfd_bounded = b;
    feasible_below_sent = subst (AtLeast x.fd) (sym pipe_is) h.feasible_below_sent;
    feasible_below_kept = h.feasible_below_kept;
    published_below_sent = at_least_left x.fd out kept (subst (AtLeast x.fd) (sym pipe_is) h.feasible_below_sent);
    published_below_kept = h.feasible_below_kept;
    control_edge_falls = h.control_edge_falls;
    published_edge_falls = h.control_edge_falls;
    awaited_once = (let a = h.awaited_once in let s = ap (count Query) pipe_is in omega (arith, a, s));
    computation_below_sent = h.computation_below_sent;
    computation_below_kept = λ a on le. (let r = reported_is on in let s = ap (count Reply) pipe_is in let v = h.computation_below_kept a on (omega (arith, le, s)) in omega (arith, v, r));
    control_edge_waits = λ a e le. h.control_edge_waits a e (let s = ap (count Reply) pipe_is in omega (arith, le, s));
    published_edge_waits = λ a e le. h.control_edge_waits a e (omega (arith, le, fewer_out));
  }

  -- so it is seen from the end across
  force_there : EndInvariant y x → EndInvariant y x'
  force_there h = record {
    nothing_sent = h.nothing_sent;
    unheard = λ off on. reported_is on ∙ h.unheard off on;
    chosen_current = h.chosen_current;
    shown_current = h.shown_current;
    pfd_bounded = h.pfd_bounded;
    feasible_below_sent = h.feasible_below_sent;
    feasible_below_kept = λ on. (let r = reported_is on in let v = h.feasible_below_kept on in omega (arith, v, r));
    published_below_sent = h.published_below_sent;
    published_below_kept = λ on. (let r = reported_is on in let v = h.published_below_kept on in omega (arith, v, r));
    control_edge_falls = λ e. ((h.control_edge_falls e).0, (h.control_edge_falls e).0);
    published_edge_falls = λ e. ((h.published_edge_falls e).0, (h.published_edge_falls e).0);
    awaited_once = (let a = h.awaited_once in let s = ap (count Reply) pipe_is in omega (arith, a, s));
    computation_below_sent = λ a. subst (AtLeastFromLastQuery x.rd) (sym pipe_is) (h.computation_below_sent a);
    computation_below_kept = h.computation_below_kept;
    control_edge_waits = h.control_edge_waits;
    published_edge_waits = h.published_edge_waits;
  }

-- ---- so it is of any end that is as its row in force makes it

pub invariant_here : {x x' y : End} → ShownAs x x' → (x.chosen ≡ true → x.current ≡ true) → x.fd ≤ infinity → EndInvariant x y → EndInvariant x' y
invariant_here {x} {x'} {y} S c b h = subst (λ (z : End). EndInvariant z y) (sym S.is) (force_here x y S.reported S.out S.kept S.reported_is S.pipe_is c b h)

pub invariant_there : {x y y' : End} → ShownAs y y' → EndInvariant x y → EndInvariant x y'
invariant_there {x} {y} {y'} S h = subst (λ (z : End). EndInvariant x z) (sym S.is) (force_there y x S.reported S.out S.kept S.reported_is S.pipe_is h)

-- who is awaited by it is so still
pub answered_here : {x x' y : End} → ShownAs x x' → Answered x y → Answered x' y
answered_here {x} {x'} {y} S h = subst (λ (z : End). Answered z y) (sym S.is) (record { answered = (let u = h.answered in let s = ap (count Query) S.pipe_is in omega (arith, u, s)) })

pub answered_there : {x y y' : End} → ShownAs y y' → Answered x y → Answered x y'
answered_there {x} {y} {y'} S h = subst (λ (z : End). Answered x z) (sym S.is) (record { answered = (let u = h.answered in let s = ap (count Reply) S.pipe_is in omega (arith, u, s)) })
