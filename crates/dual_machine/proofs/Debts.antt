-- What an event leaves of the origin state and the debt.
use Rattle.std.proofs.Common.{refl, sym, ap, ◌∙◌, subst, arith, ◌≡◌, ℕ, ◌<◌, Bool, true, false, if◌then◌else◌, Option, Some, None, eqb-true, ltb-true, lt-ltb}
use Rattle.metric.specs.declared.kind.Kind.TheVariants.{Query}
use Rattle.network_model.specs.{declared.machine.Event.Event, declared.machine.Event.TheVariants.Message, declared.machine.Event.TheVariants.Down, declared.machine.Event.TheVariants.Detached, Machine.is_port, Machine.successor_after, Machine.debt_after}
use Rattle.diffusing_replies.specs.{declared.origin.Origin.Origin, Origin.rose, Origin.needs_test}
use Rattle.diffusing_replies.specs.declared.origin.Origin.TheVariants.{OwnDisturbed, Own, OwingDisturbed, Owing}
use Rattle.dual_machine.specs.{State.moved, State.is_loss_of, State.is_query_from, Event.IsKnown, Parts.IsDebtOf, Parts.is_port_below}

-- where the next end needs no test, the distance has not risen by this event
pub not_risen : (e : Event) (n : ℕ) (s : Option ℕ) (risen : Bool) (o : Origin) → needs_test (moved n s e risen o) ≡ false → risen ≡ false
not_risen e n s risen o untested = by_tests (is_loss_of n s e) (is_query_from s e) risen o untested
  where
    by_tests : (a b c : Bool) (p : Origin) → needs_test (if a then OwnDisturbed else if b then OwingDisturbed else if c then rose p else p) ≡ false → c ≡ false
    by_tests true b c p h = cc
    by_tests false true c p h = cc
    by_tests false false true OwnDisturbed h = cc
    by_tests false false true Own h = cc
    by_tests false false true OwingDisturbed h = cc
    by_tests false false true Owing h = cc
    by_tests false false false p h = refl

module _ (n : ℕ) where
  IsDebtOf-rose : (b : Bool) (o : Origin) (s debt : Option ℕ) → IsDebtOf n o s debt → IsDebtOf n (if b then rose o else o) s debt
  IsDebtOf-rose true OwnDisturbed s debt h = h
  IsDebtOf-rose _ _ s debt h = h

  -- a query that came from the successor came from a port
  pub is_port_of : (q : ℕ) (s : Option ℕ) → q < n → is_port q s ≡ true → (Some q ≡ s) × (is_port_below n s ≡ true)
  is_port_of q None known h = cc
  is_port_of q (Some p) known h = let same : q ≡ p = eqb-true q p h in (ap (λ (k : ℕ). Some k) same, lt-ltb p n (omega (arith, same, known)))

  -- no debt is to a port that is not the successor's
  debt_kept : (q : ℕ) (o : Origin) (s debt : Option ℕ) → is_port q s ≡ false → IsDebtOf n o s debt → (if is_port q debt then None else debt) ≡ debt
  debt_kept q o s debt apart h = kept debt (other_port o h)
    where
      kept : (d : Option ℕ) → is_port q d ≡ false → (if is_port q d then None else d) ≡ d
      kept d e = rw e refl

      other_port : (p : Origin) → IsDebtOf n p s debt → is_port q debt ≡ false
      other_port OwingDisturbed e = ap (is_port q) e.0 ∙ apart
      other_port Owing e = ap (is_port q) e.0 ∙ apart
      other_port _ e = ap (is_port q) e

  -- a debt is to the successor, and goes with its link
  debt_dropped : (q : ℕ) (o : Origin) (s debt : Option ℕ) → is_port q s ≡ true → IsDebtOf n o s debt → (if is_port q debt then None else debt) ≡ None
  debt_dropped q OwingDisturbed s debt at h = rw (h.0, at) refl
  debt_dropped q Owing s debt at h = rw (h.0, at) refl
  debt_dropped q _ s debt at h = rw h refl

  -- the attachment is no port
  not_below : (s : Option ℕ) → is_port n s ≡ true → is_port_below n s ≡ true → ⊥
  not_below None at below = cc
  not_below (Some p) at below = absurd (omega (arith, eqb-true n p at, ltb-true p n below))

  -- no debt is to the attachment
  no_debt_home : (o : Origin) (s debt : Option ℕ) → is_port n s ≡ true → IsDebtOf n o s debt → debt ≡ None
  no_debt_home OwingDisturbed s debt at h = absurd (not_below s at h.1)
  no_debt_home Owing s debt at h = absurd (not_below s at h.1)
  no_debt_home _ s debt at h = h

  -- the debt goes with the origin state
  IsDebtOf-moved : (e : Event) (s : Option ℕ) (risen : Bool) (o : Origin) (debt : Option ℕ) → IsKnown n e → IsDebtOf n o s debt
      → IsDebtOf n (moved n s e risen o) (successor_after n e s) (debt_after (successor_after n e s) e debt)
  IsDebtOf-moved (Message q Query value) s risen o debt known h = by_asker (is_port q s) refl
    where
      by_asker : (b : Bool) → is_port q s ≡ b → IsDebtOf n (if b then OwingDisturbed else if risen then rose o else o) s (if b then Some q else debt)
      by_asker true at = is_port_of q s known at
      by_asker false at = IsDebtOf-rose risen o s debt h
  IsDebtOf-moved (Down q) s risen o debt known h = by_lost (is_port q s) refl
    where
      by_lost : (b : Bool) → is_port q s ≡ b → IsDebtOf n (if b then OwnDisturbed else if risen then rose o else o) (if b then None else s) (if is_port q debt then None else debt)
      by_lost true at = debt_dropped q o s debt at h
      by_lost false at = subst (IsDebtOf n (if risen then rose o else o) s) (sym (debt_kept q o s debt at h)) (IsDebtOf-rose risen o s debt h)
  IsDebtOf-moved Detached s risen o debt known h = by_lost (is_port n s) refl
    where
      by_lost : (b : Bool) → is_port n s ≡ b → IsDebtOf n (if b then OwnDisturbed else if risen then rose o else o) (if b then None else s) debt
      by_lost true at = no_debt_home o s debt at h
      by_lost false at = IsDebtOf-rose risen o s debt h
  IsDebtOf-moved _ s risen o debt known h = IsDebtOf-rose risen o s debt h

-- the same, for values that are known to be these
pub IsDebtOf_after : (n : ℕ) (e : Event) (s t : Option ℕ) (risen : Bool) (o p : Origin) (debt later : Option ℕ) → IsKnown n e → p ≡ moved n s e risen o → t ≡ successor_after n e s → later ≡ debt_after t e debt → IsDebtOf n o s debt → IsDebtOf n p t later
IsDebtOf_after n e s t risen o p debt later known origin successor debts h =
    let debts' = debts ∙ ap (λ (x : Option ℕ). debt_after x e debt) successor in
    subst (λ (x : Origin). IsDebtOf n x t later) (sym origin)
    (subst (λ (x : Option ℕ). IsDebtOf n (moved n s e risen o) x later) (sym successor)
    (subst (IsDebtOf n (moved n s e risen o) (successor_after n e s)) (sym debts') (IsDebtOf-moved n e s risen o debt known h)))
