-- What one event more makes of spells.
use Rattle.std.proofs.Common.{refl, sym, ap, subst, ◌∙◌, arith, ◌≤◌, inl, inr, ◌≡◌, ◌⊎◌, ℕ, List, [], ◌∷◌, ◌++◌, Some, None}
use Rattle.no_packet_loops.proofs.Common.{None_not_Some, Some_injective, World, Lawful, next, Runs}
use Rattle.timed_simulation.specs.{declared.events.Event.Event, Timed.Timed, Timed.after_event}
use Rattle.timed_simulation.specs.Runs.{Ascends, IsNext, LeadsTo, steps_of}
use Rattle.timed_reports.specs.Spells.{IsSpell, Lasts}

-- ---- one event more

pub runs_all : (w : World) (es : List Event) (v : World) (e : Event) → Runs w (steps_of es) v → Lawful v e.step → Runs w (steps_of (es ++ e ∷ [])) (next v e.step)
runs_all w [] v e same lawful = (subst (λ (u : World). Lawful u e.step) (sym same) lawful, ap (λ (u : World). next u e.step) same)
runs_all w (x ∷ xs) v e runs lawful = (runs.0, runs_all (next w x.step) xs v e runs.1 lawful)

pub ascends_all : (from : ℕ) (es : List Event) (mid : ℕ) (e : Event) → Ascends from es mid → mid ≤ e.moment → Ascends from (es ++ e ∷ []) e.moment
ascends_all from [] mid e up more = (omega (arith, up, more), omega arith)
ascends_all from (x ∷ xs) mid e up more = (up.0, ascends_all x.moment xs mid e up.1 more)

pub leads_all : (t : Timed) (es : List Event) (u : Timed) (e : Event) → LeadsTo t es u → IsNext u e → LeadsTo t (es ++ e ∷ []) (after_event u e)
leads_all t [] u e leads is = (subst (λ (v : Timed). IsNext v e) (sym leads) is, ap (λ (v : Timed). after_event v e) leads)
leads_all t (x ∷ xs) u e leads is = (leads.0, leads_all (after_event t x) xs u e leads.1 is)

module _ (P : World → Type 0) where
  -- ---- what lasts

  lasts_holds : (w : World) (es : List Event) (v : World) → Runs w (steps_of es) v → Lasts P None w es → P v
  lasts_holds w [] v same lasts = subst P same lasts.0
  lasts_holds w (x ∷ xs) v runs (here, inl (not, is)) = absurd (None_not_Some is)
  lasts_holds w (x ∷ xs) v runs (here, inr more) = lasts_holds (next w x.step) xs v runs.1 more

  lasts_on : (w : World) (es : List Event) (v : World) (e : Event) → Runs w (steps_of es) v → Lasts P None w es → P (next v e.step) → Lasts P None w (es ++ e ∷ [])
  lasts_on w [] v e same lasts holds = (lasts.0, inr (subst (λ (u : World). P (next u e.step)) (sym same) holds, refl))
  lasts_on w (x ∷ xs) v e runs (here, inl (not, is)) holds = absurd (None_not_Some is)
  lasts_on w (x ∷ xs) v e runs (here, inr more) holds = (here, inr (lasts_on (next w x.step) xs v e runs.1 more holds))

  lasts_till : (w : World) (es : List Event) (v : World) (e : Event) → Runs w (steps_of es) v → Lasts P None w es → (P (next v e.step) → ⊥) → Lasts P (Some e.moment) w (es ++ e ∷ [])
  lasts_till w [] v e same lasts over = (lasts.0, inl (subst (λ (u : World). P (next u e.step) → ⊥) (sym same) over, refl))
  lasts_till w (x ∷ xs) v e runs (here, inl (not, is)) over = absurd (None_not_Some is)
  lasts_till w (x ∷ xs) v e runs (here, inr more) over = (here, inr (lasts_till (next w x.step) xs v e runs.1 more over))

  lasts_past : (t : ℕ) (w : World) (es : List Event) (e : Event) → Lasts P (Some t) w es → Lasts P (Some t) w (es ++ e ∷ [])
  lasts_past t w [] e (here, is) = absurd (None_not_Some (sym is))
  lasts_past t w (x ∷ xs) e (here, inl ends) = (here, inl ends)
  lasts_past t w (x ∷ xs) e (here, inr more) = (here, inr (lasts_past t (next w x.step) xs e more))

  -- one that ended had ended before, or ends with the last event
  lasts_ended : (t : ℕ) (w : World) (es : List Event) (v : World) (e : Event) → Runs w (steps_of es) v → Lasts P (Some t) w (es ++ e ∷ []) → Lasts P (Some t) w es ⊎ (Lasts P None w es × (P (next v e.step) → ⊥) × (t ≡ e.moment))
  lasts_ended t w [] v e same (here, inl (over, is)) = inr ((here, refl), subst (λ (u : World). P (next u e.step) → ⊥) same over, Some_injective is)
  lasts_ended t w [] v e same (here, inr (holds, is)) = absurd (None_not_Some (sym is))
  lasts_ended t w (x ∷ xs) v e runs (here, inl ends) = inl (here, inl ends)
  lasts_ended t w (x ∷ xs) v e runs (here, inr more) = by_rest (lasts_ended t (next w x.step) xs v e runs.1 more)
    where
      by_rest : Lasts P (Some t) (next w x.step) xs ⊎ (Lasts P None (next w x.step) xs × (P (next v e.step) → ⊥) × (t ≡ e.moment)) → Lasts P (Some t) w (x ∷ xs) ⊎ (Lasts P None w (x ∷ xs) × (P (next v e.step) → ⊥) × (t ≡ e.moment))
      by_rest (inl before) = inl (here, inr before)
      by_rest (inr (begun, over, is)) = inr ((here, inr begun), over, is)

  -- ---- spells

  -- what goes on holds now
  pub goes_on : (m : ℕ) (w : World) (es : List Event) (v : World) → Runs w (steps_of es) v → IsSpell P m None w es → P v
  goes_on m w [] v runs none = absurd none
  goes_on m w (x ∷ xs) v runs (inl here) = lasts_holds (next w x.step) xs v runs.1 here.2
  goes_on m w (x ∷ xs) v runs (inr later) = goes_on m (next w x.step) xs v runs.1 later

  pub spell_on : (m : ℕ) (w : World) (es : List Event) (v : World) (e : Event) → Runs w (steps_of es) v → IsSpell P m None w es → P (next v e.step) → IsSpell P m None w (es ++ e ∷ [])
  spell_on m w [] v e runs none holds = absurd none
  spell_on m w (x ∷ xs) v e runs (inl here) holds = inl (here.0, here.1, lasts_on (next w x.step) xs v e runs.1 here.2 holds)
  spell_on m w (x ∷ xs) v e runs (inr later) holds = inr (spell_on m (next w x.step) xs v e runs.1 later holds)

  pub spell_till : (m : ℕ) (w : World) (es : List Event) (v : World) (e : Event) → Runs w (steps_of es) v → IsSpell P m None w es → (P (next v e.step) → ⊥) → IsSpell P m (Some e.moment) w (es ++ e ∷ [])
  spell_till m w [] v e runs none over = absurd none
  spell_till m w (x ∷ xs) v e runs (inl here) over = inl (here.0, here.1, lasts_till (next w x.step) xs v e runs.1 here.2 over)
  spell_till m w (x ∷ xs) v e runs (inr later) over = inr (spell_till m (next w x.step) xs v e runs.1 later over)

  pub spell_past : (m t : ℕ) (w : World) (es : List Event) (e : Event) → IsSpell P m (Some t) w es → IsSpell P m (Some t) w (es ++ e ∷ [])
  spell_past m t w [] e none = absurd none
  spell_past m t w (x ∷ xs) e (inl here) = inl (here.0, here.1, lasts_past t (next w x.step) xs e here.2)
  spell_past m t w (x ∷ xs) e (inr later) = inr (spell_past m t (next w x.step) xs e later)

  pub spell_begins : (w : World) (es : List Event) (v : World) (e : Event) → Runs w (steps_of es) v → (P v → ⊥) → P (next v e.step) → IsSpell P e.moment None w (es ++ e ∷ [])
  spell_begins w [] v e same not holds = inl (subst (λ (u : World). P u → ⊥) (sym same) not, refl, (subst (λ (u : World). P (next u e.step)) (sym same) holds, refl))
  spell_begins w (x ∷ xs) v e runs not holds = inr (spell_begins (next w x.step) xs v e runs.1 not holds)

  -- one that ended had ended before, or ends with the last event
  pub spell_ended : (m t : ℕ) (w : World) (es : List Event) (v : World) (e : Event) → Runs w (steps_of es) v → IsSpell P m (Some t) w (es ++ e ∷ []) → IsSpell P m (Some t) w es ⊎ (IsSpell P m None w es × (P (next v e.step) → ⊥) × (t ≡ e.moment))
  spell_ended m t w [] v e same (inl (not, is, (holds, never))) = absurd (None_not_Some (sym never))
  spell_ended m t w [] v e same (inr none) = absurd none
  spell_ended m t w (x ∷ xs) v e runs (inl (not, is, lasts)) = by_rest (lasts_ended t (next w x.step) xs v e runs.1 lasts)
    where
      by_rest : Lasts P (Some t) (next w x.step) xs ⊎ (Lasts P None (next w x.step) xs × (P (next v e.step) → ⊥) × (t ≡ e.moment)) → IsSpell P m (Some t) w (x ∷ xs) ⊎ (IsSpell P m None w (x ∷ xs) × (P (next v e.step) → ⊥) × (t ≡ e.moment))
      by_rest (inl before) = inl (inl (not, is, before))
      by_rest (inr (begun, over, at)) = inr (inl (not, is, begun), over, at)
  spell_ended m t w (x ∷ xs) v e runs (inr later) = by_later (spell_ended m t (next w x.step) xs v e runs.1 later)
    where
      by_later : IsSpell P m (Some t) (next w x.step) xs ⊎ (IsSpell P m None (next w x.step) xs × (P (next v e.step) → ⊥) × (t ≡ e.moment)) → IsSpell P m (Some t) w (x ∷ xs) ⊎ (IsSpell P m None w (x ∷ xs) × (P (next v e.step) → ⊥) × (t ≡ e.moment))
      by_later (inl before) = inl (inr before)
      by_later (inr (begun, over, at)) = inr (inr begun, over, at)

  -- while one goes on, none begins
  none_begins : (m : ℕ) (w : World) (es : List Event) → Lasts P None w es → IsSpell P m None w es → ⊥
  none_begins m w [] lasts none = none
  none_begins m w (x ∷ xs) (here, rest) (inl begins) = begins.0 here
  none_begins m w (x ∷ xs) (here, inl (not, is)) (inr later) = None_not_Some is
  none_begins m w (x ∷ xs) (here, inr more) (inr later) = none_begins m (next w x.step) xs more later

  -- of what goes on there is one spell
  pub one_goes_on : (m k : ℕ) (w : World) (es : List Event) → IsSpell P m None w es → IsSpell P k None w es → m ≡ k
  one_goes_on m k w [] none other = absurd none
  one_goes_on m k w (x ∷ xs) (inl here) (inl there) = sym here.1 ∙ there.1
  one_goes_on m k w (x ∷ xs) (inl here) (inr later) = absurd (none_begins k (next w x.step) xs here.2 later)
  one_goes_on m k w (x ∷ xs) (inr later) (inl there) = absurd (none_begins m (next w x.step) xs there.2 later)
  one_goes_on m k w (x ∷ xs) (inr a) (inr b) = one_goes_on m k (next w x.step) xs a b
