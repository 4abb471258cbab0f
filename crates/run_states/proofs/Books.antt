-- What books show.
use Rattle.std.proofs.Common.{refl, ap, sym, subst, ◌∙◌, ◌≡◌, ◌≢◌, ◌⊎◌, inl, inr, ℕ, ◌+◌, ◌<◌, Bool, false, true, List, [], ◌∷◌, ◌++◌, Option, Some, None, length, get_or, set, slice_get, arith, slice_set}
use Rattle.std.specs.FinMap.{find as row_of}
use Rattle.std.proofs.{lemmas.Bool.cases_eq, lemmas.Bool.false≢true, lemmas.List.set-get_or, lemmas.Option.get_or_from_slice_get, lemmas.Option.none-some, lemmas.Option.same_Some}
use Rattle.ipv4_prefix.specs.Prefix.{Prefix, prefix_cmp}
use Rattle.network_model.specs.{Machine.Machine, World.Router}
use Rattle.lines.specs.States.{IsMachineState}
use Rattle.run_states.specs.{declared.shown.MachineShown.MachineShown, Shown.AreSame, Shown.ShowsMachine, Books.ShowsPlace, Books.ShowsUnmarked, Books.machines_after}
use Rattle.run_states.proofs.Lists.{slice_get-set_other, slice_get-set_same}

-- what shows a machine is shown of it by all that is the same
pub shows_same : (r : Router) (p : Prefix) (m n : MachineShown) → AreSame m n → ShowsMachine r p n → ShowsMachine r p m
shows_same r p m n same shows = record {
  machine = shows.machine;
  is_machine = shows.is_machine;
  at = subst (IsMachineState shows.machine) (sym same.at) shows.at;
  awaits = λ q below. same.awaits q below ∙ shows.awaits q below;
  chosen = same.chosen ∙ shows.chosen;
  published = same.published ∙ shows.published;
}

-- one more change is made last
pub machines_after-append : (cs : List (ℕ × MachineShown)) (c : ℕ × MachineShown) (shown : List (Option MachineShown))
    → machines_after (cs ++ c ∷ []) shown ≡ slice_set (machines_after cs shown) c.0 (Some c.1)
machines_after-append [] c shown = refl
machines_after-append (d ∷ cs) c shown = machines_after-append cs c (slice_set shown d.0 (Some d.1))

-- ---- machines

-- the changes with that of the machine at a place, or without where it is shown as before, give what is shown
pub noted : (cs ds : List (ℕ × MachineShown)) (first shown : List (Option MachineShown)) (n : ℕ) (now : MachineShown) (old new : Option MachineShown)
    → shown ≡ machines_after cs first → ((ds ≡ cs ++ (n, now) ∷ []) × (new ≡ Some now)) ⊎ ((ds ≡ cs) × (new ≡ get_or shown n old))
    → set shown n new ≡ machines_after ds first
noted cs ds first shown n now old new follows (inl e) =
    ap (set shown n) e.1 ∙ ap (λ xs. set xs n (Some now)) follows ∙ sym (machines_after-append cs (n, now) first) ∙ ap (λ xs. machines_after xs first) (sym e.0)
noted cs ds first shown n now old new follows (inr e) =
    ap (set shown n) e.1 ∙ set-get_or shown n old ∙ follows ∙ ap (λ xs. machines_after xs first) (sym e.0)

-- the place of the machine for a prefix shows it from now on, and is not marked
pub shows_next : (r : Router) (prefixes : List Prefix) (marks : List Bool) (n : ℕ) (shown : List (Option MachineShown)) (p : Prefix) (new : Option MachineShown)
    → n < length shown → p ≡ get_or prefixes n p → ShowsUnmarked r prefixes marks shown → ((s : MachineShown) × (new ≡ Some s) × ShowsMachine r p s)
    → ShowsUnmarked r prefixes (set marks n false) (set shown n new)
shows_next r prefixes marks n shown p new room there all here = record {
  heard = λ j q m at heard unmarked. by_place j q m at heard unmarked (cases_eq j n);
  unheard = λ j q at none. none_by_place j q at none (cases_eq j n);
}
  where
    same_prefix : (j : ℕ) (q : Prefix) → slice_get prefixes j ≡ Some q → j ≡ n → p ≡ q
    same_prefix j q at e = there ∙ get_or_from_slice_get prefixes n q p (ap (slice_get prefixes) (sym e) ∙ at)

    by_place : (j : ℕ) (q : Prefix) (m : Machine) → slice_get prefixes j ≡ Some q → row_of prefix_cmp q r.machines ≡ Some m → slice_get (set marks n false) j ≡ Some false
        → (j ≡ n) ⊎ (j ≢ n) → ShowsPlace r q j (set shown n new)
    by_place j q m at heard unmarked (inl e) =
        (here.0, ap (slice_get (set shown n new)) e ∙ slice_get-set_same shown n new room ∙ ap Some here.1, subst (λ x. ShowsMachine r x here.0) (same_prefix j q at e) here.2)
    by_place j q m at heard unmarked (inr d) =
        let old = all.heard j q m at heard (sym (slice_get-set_other marks n j false d) ∙ unmarked) in
        (old.0, slice_get-set_other shown n j new d ∙ old.1, old.2)

    none_by_place : (j : ℕ) (q : Prefix) → slice_get prefixes j ≡ Some q → row_of prefix_cmp q r.machines ≡ None → (j ≡ n) ⊎ (j ≢ n) → slice_get (set shown n new) j ≡ Some None
    none_by_place j q at none (inl e) =
        absurd (none-some ((here.2).machine).machine (sym none ∙ ap (λ x. row_of prefix_cmp x r.machines) (sym (same_prefix j q at e)) ∙ (here.2).is_machine))
    none_by_place j q at none (inr d) = slice_get-set_other shown n j new d ∙ all.unheard j q at none

-- a machine that is not there is not shown
pub shows_none : (r : Router) (prefixes : List Prefix) (marks : List Bool) (n : ℕ) (shown : List (Option MachineShown)) (p : Prefix)
    → p ≡ get_or prefixes n p → row_of prefix_cmp p r.machines ≡ None → ShowsUnmarked r prefixes marks shown → ShowsUnmarked r prefixes (set marks n false) shown
shows_none r prefixes marks n shown p there unheard all = record {
  heard = λ j q m at heard unmarked. by_place j q m at heard unmarked (cases_eq j n);
  unheard = all.unheard;
}
  where
    by_place : (j : ℕ) (q : Prefix) (m : Machine) → slice_get prefixes j ≡ Some q → row_of prefix_cmp q r.machines ≡ Some m → slice_get (set marks n false) j ≡ Some false
        → (j ≡ n) ⊎ (j ≢ n) → ShowsPlace r q j shown
    by_place j q m at heard unmarked (inl e) =
        let same : p ≡ q = there ∙ get_or_from_slice_get prefixes n q p (ap (slice_get prefixes) (sym e) ∙ at) in
        absurd (none-some m (sym unheard ∙ ap (λ x. row_of prefix_cmp x r.machines) same ∙ heard))
    by_place j q m at heard unmarked (inr d) = all.heard j q m at heard (sym (slice_get-set_other marks n j false d) ∙ unmarked)

-- ---- marks

-- none before this place is set
abbrev pub AreUnmarkedBelow : ℕ → List Bool → Type 0
AreUnmarkedBelow n marks = (j : ℕ) → j < n → slice_get marks j ≡ Some false

pub unmarked_next : (n : ℕ) (marks : List Bool) → slice_get marks n ≡ Some false → AreUnmarkedBelow n marks → AreUnmarkedBelow (n + 1) marks
unmarked_next n marks here below j less = by_place (cases_eq j n)
  where
    by_place : (j ≡ n) ⊎ (j ≢ n) → slice_get marks j ≡ Some false
    by_place (inl e) = ap (slice_get marks) e ∙ here
    by_place (inr d) = below j (omega (arith, less, d))

pub unmarked_set : (n : ℕ) (marks : List Bool) → n < length marks → AreUnmarkedBelow n marks → AreUnmarkedBelow (n + 1) (set marks n false)
unmarked_set n marks room below =
    unmarked_next n (set marks n false) (slice_get-set_same marks n false room) (λ j less. slice_get-set_other marks n j false (λ e. absurd (omega (arith, less, e))) ∙ below j less)

-- what is not marked once this mark is set is another, and was not before
pub left_unmarked : (marks : List Bool) (n j : ℕ) → n < length marks → slice_get (set marks n true) j ≡ Some false → (j ≢ n) × (slice_get marks j ≡ Some false)
left_unmarked marks n j room unmarked = (apart, sym (slice_get-set_other marks n j true apart) ∙ unmarked)
  where
    apart : j ≢ n
    apart e = absurd (false≢true (same_Some false true (sym unmarked ∙ ap (slice_get (set marks n true)) e ∙ slice_get-set_same marks n true room)))
