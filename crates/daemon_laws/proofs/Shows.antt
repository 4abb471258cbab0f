-- What a row that is put in force does to what one end was told of the other, and to what is kept where one has left the session.
use Rattle.std.proofs.Common.{sym, ap, subst, ◌∙◌, arith, inl, inr, ◌≡◌, true, false, if◌then◌else◌}
use Rattle.network_model.proofs.Common.{cases_Bool, both_ways, Query, Reply, infinity}
use Rattle.loop_freedom.specs.Facts.{count, End, pipe}
use Rattle.loop_freedom.proofs.Published.{ShownAs, answered_here, answered_there}
use Rattle.daemon_laws.proofs.{Told.Told, Told.listens, Told.last_value, Gone.Gone}

-- what this end was told stays
pub told_here : {x x' y : End} → ShownAs x x' → Told x y → Told x' y
told_here {x} {x'} {y} S T = record { last_is = λ on. ap (λ v. last_value v (pipe y)) (ap listens S.is ∙ listens_same) ∙ T.last_is on; answers = answered_here S T.answers }
  where
    listens_same : (if x.current then S.reported else infinity) ≡ listens x
    listens_same = elim (cases_Bool x.current) [
      | inl on ↦ ap (λ b. if b then S.reported else infinity) on ∙ S.reported_is on ∙ sym (ap (λ b. if b then x.reported else infinity) on)
      | inr off ↦ ap (λ b. if b then S.reported else infinity) off ∙ sym (ap (λ b. if b then x.reported else infinity) off)
    ]

pub told_there : {x y y' : End} → ShownAs y y' → Told x y → Told x y'
told_there {x} {y} {y'} S T = record {
  last_is = subst (λ (z : End). z.current ≡ true → last_value (listens x) (pipe z) ≡ z.rd) (sym S.is) (λ on. ap (last_value (listens x)) S.pipe_is ∙ T.last_is on);
  answers = answered_there S T.answers;
}

-- where this end has left the session, its published edge there is gone
pub gone_here : {x x' y : End} → ShownAs x x' → x.chosen ≡ false → Gone x y → Gone x' y
gone_here {x} {x'} {y} S off G = subst (λ (z : End). Gone z y) (sym S.is) (record {
  shown_current = λ e. absurd (both_ways x.chosen off e);
  published_edge_falls = λ e. absurd (both_ways x.chosen off e);
  replies_awaited = (let a = G.replies_awaited in let s = ap (count Reply) S.pipe_is in omega (arith, a, s));
  queries_once = (let a = G.queries_once in let s = ap (count Query) S.pipe_is in omega (arith, a, s));
  published_edge_waits = λ a e. absurd (both_ways x.chosen off e);
})

-- where the other has, what is kept of its edge is kept
pub gone_there : {x y y' : End} → ShownAs y y' → Gone x y → Gone x y'
gone_there {x} {y} {y'} S G = subst (λ (z : End). Gone x z) (sym S.is) (record {
  shown_current = G.shown_current;
  published_edge_falls = λ e. ((G.published_edge_falls e).0, (G.published_edge_falls e).0);
  replies_awaited = G.replies_awaited;
  queries_once = G.queries_once;
  published_edge_waits = G.published_edge_waits;
})
