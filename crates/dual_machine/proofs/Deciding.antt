-- What a machine decides once its records have changed.
use Rattle.std.proofs.Common.{refl, sym, ap, ◌∙◌, ◌≡◌, ℕ, false, List, ◌++◌, length, take, Option, Some, None}
use Rattle.std.specs.{List.list_any, Option.option_map_or}
use Rattle.network_model.specs.{declared.machine.Event.Event, declared.machine.Neighbour.Neighbour}
use Rattle.network_model.specs.Machine.{Machine, Computation, records_after, attachment_after, successor_after, with_records, with_first, answers_at_once, completion, awaited_after, debt_after, passive_reaction, active_reaction, decision}
use Rattle.dual_machine.proofs.Changes.{refilled}

-- the parts of a machine once its records have changed, as Rust writes them: ports is the slice of before, new after
module _ (e : Event) (attachment : Option ℕ) (before : List Neighbour) (rd fd : ℕ) (s : Option ℕ) (c : Option Computation) where
  abbrev pub then : Machine
  then = record { attachment = attachment; ports = before; rd = rd; fd = fd; successor = s; computation = c }

  pub recorded : (later : Option ℕ) (ports new rest : List Neighbour) (t : Option ℕ) (d : Option Computation) (degree : ℕ) → length new ≡ length ports → ports ≡ before → new ≡ records_after e ports
      → later ≡ attachment_after e attachment → degree ≡ length before → t ≡ successor_after degree e s → d ≡ c
      → record { attachment = later; ports = take (length before) (new ++ rest); rd = rd; fd = fd; successor = t; computation = d } ≡ with_records then e
  recorded later ports new rest t d degree whole same is later_is count t_is d_is =
      let ports_are : take (length before) (new ++ rest) ≡ records_after e before = refilled before ports new rest whole same ∙ is ∙ ap (records_after e) same in
      let successor_is : t ≡ successor_after (length before) e s = t_is ∙ ap (λ (k : ℕ). successor_after k e s) count in
      λ i. record { attachment = later_is i; ports = ports_are i; rd = rd; fd = fd; successor = successor_is i; computation = d_is i }

-- a passive machine decides as such
pub decision-passive : (m : Machine) (e : Event) → m.computation ≡ None → passive_reaction m e ≡ decision m e
decision-passive m e passive = sym (ap (λ (o : Option Computation). option_map_or (active_reaction m e) o (passive_reaction m e)) passive)

-- an active machine whose last reply is there completes its computation
pub decision-done : (m : Machine) (e : Event) (c : Computation) → m.computation ≡ Some c → list_any (λ b. b) (awaited_after e c.awaited) ≡ false
    → with_first (answers_at_once m e) (completion m (debt_after m.successor e c.debt)) ≡ decision m e
decision-done m e c active done =
    sym (ap (λ (o : Option Computation). option_map_or (active_reaction m e) o (passive_reaction m e)) active ∙ rw done refl)
