-- The first element of a list that has a fault, as a loop finds it.
use Rattle.std.proofs.Common.{refl, sym, ap, subst, ◌∙◌, inl, ◌≡◌, ℕ, ◌+◌, ◌<◌, ◌≤◌, List, [], ◌∷◌, length, drop, get_or, Option, Some, None, option_map}
use Rattle.std.specs.Option.{option_map_or}
use Rattle.std.proofs.{lemmas.List.drop_all, lemmas.List.drop_more, lemmas.Option.none-some}
use Rattle.c_interface.specs.{Faults.first_of, declared.fault.CallFault.CallFault, declared.fault.CallFault.TheVariants.NoMemory}
use Rattle.single_router.specs.Openings.{first_fault_in}
use Rattle.network_calls.specs.Parts.{attachment_parts_fault, first_place, link_fault, list_fault, failure_in_list, IsOpeningFault}
use Rattle.network_calls.specs.{declared.failure.Failure.Failure, declared.failure.Failure.TheVariants.Given, declared.parts.LinkParts.LinkParts, declared.parts.AttachmentParts.AttachmentParts, declared.parts.FaultPlace.FaultPlace}

module _ {X : Type 0} (fault : X → Option CallFault) (xs : List X) (i : ℕ) (x : X) (within : i < length xs) (read : x ≡ get_or xs i x) where
  here : first_place fault i (drop i xs) ≡ option_map_or (λ f. Some (f, i)) (fault x) (first_place fault (i + 1) (drop (i + 1) xs))
  here = ap (first_place fault i) (drop_more xs i x within) ∙ ap (λ y. option_map_or (λ f. Some (f, i)) (fault y) (first_place fault (i + 1) (drop (i + 1) xs))) (sym read)

  -- an element without a fault is passed
  pub passed : fault x ≡ None → first_place fault i (drop i xs) ≡ first_place fault (i + 1) (drop (i + 1) xs)
  passed none = here ∙ ap (λ o. option_map_or (λ f. Some (f, i)) o (first_place fault (i + 1) (drop (i + 1) xs))) none

  pub found : (f : CallFault) → fault x ≡ Some f → first_place fault i (drop i xs) ≡ Some (f, i)
  found f is = here ∙ ap (λ o. option_map_or (λ f. Some (f, i)) o (first_place fault (i + 1) (drop (i + 1) xs))) is

pub none_left : {X : Type 0} (fault : X → Option CallFault) (xs : List X) (i : ℕ) → length xs ≤ i → first_place fault i (drop i xs) ≡ None
none_left fault xs i over = ap (first_place fault i) (drop_all i xs over)

-- without a place
pub no_fault : {X : Type 0} (fault : X → Option CallFault) (k : ℕ) (xs : List X) → first_place fault k xs ≡ None → first_fault_in fault xs ≡ None
no_fault fault k [] none = refl
no_fault {X} fault k (x ∷ xs) none = by_first (fault x) refl none (no_fault fault (k + 1) xs)
  where
    by_first : (o : Option CallFault) → fault x ≡ o → option_map_or (λ f. Some (f, k)) o (first_place fault (k + 1) xs) ≡ None → (first_place fault (k + 1) xs ≡ None → first_fault_in fault xs ≡ None) → first_fault_in fault (x ∷ xs) ≡ None
    by_first None is rest others = ap (λ o. first_of o (first_fault_in fault xs)) is ∙ others rest
    by_first (Some f) is rest others = absurd (none-some (f, k) (sym rest))

-- ---- the first fault of the lists

module _ (links : List LinkParts) (attachments : List AttachmentParts) where
  pub none_listed : first_place link_fault 0 links ≡ None → first_place attachment_parts_fault 0 attachments ≡ None → list_fault links attachments ≡ None
  none_listed no_link no_attachment =
      ap (λ a. option_map_or (λ f. Some (failure_in_list 1 f)) a (option_map (failure_in_list 2) (first_place attachment_parts_fault 0 attachments))) no_link ∙ ap (option_map (failure_in_list 2)) no_attachment

  pub lacks_memory : (network : Option (Failure × FaultPlace)) → first_place link_fault 0 links ≡ None → first_place attachment_parts_fault 0 attachments ≡ None
      → IsOpeningFault (list_fault links attachments) network (Given NoMemory, record { position = 0; list = 0 })
  lacks_memory network no_link no_attachment = subst (λ o. IsOpeningFault o network (Given NoMemory, record { position = 0; list = 0 })) (sym (none_listed no_link no_attachment)) (inl refl)
