-- The prefixes of a network.
use Rattle.std.proofs.Common.{◌≡◌, ℕ, true, false, List, Contains, Result, Ok, Err, refl, sym, ap, subst, ◌∙◌}
use Rattle.script.proofs.Common.{list_any, false≢true, Any-from_list_any, list_any_at, Prefix, prefix_eq, SpellsPrefix, IsFirstFault, PrefixFault, prefix_eq-Decides, Text, IsKnownPrefix}
use Rattle.script.proofs.StepTexts.{IsStrange}

module _ (attachments : List (Prefix × ℕ × ℕ)) (prefix : Prefix) where
  pub known_by_test : list_any (λ a. prefix_eq a.0 prefix) attachments ≡ true → IsKnownPrefix attachments prefix
  known_by_test passes =
      let at = Any-from_list_any (λ a. prefix_eq a.0 prefix) attachments passes in
      let same = (prefix_eq-Decides at.1.0 prefix).0 at.4 in
      (at.1.1, at.1.2, subst (Contains attachments) (λ i. (same i, at.1.1, at.1.2)) (at.0, at.2, at.3))

  pub test_of_known : IsKnownPrefix attachments prefix → list_any (λ a. prefix_eq a.0 prefix) attachments ≡ true
  test_of_known (router, cost, (k, within, is)) =
      list_any_at (λ a. prefix_eq a.0 prefix) attachments k (prefix, router, cost) within (ap (λ a. prefix_eq a.0 prefix) is ∙ (prefix_eq-Decides prefix prefix).1 refl)

  -- the text of a prefix that is none of the network's is that of none of them
  pub strange : (text : Text) (r : Result Prefix PrefixFault) → r ≡ Ok prefix → ((p : Prefix) → SpellsPrefix text p → r ≡ Ok p) → ((fault : PrefixFault) → IsFirstFault text fault → r ≡ Err fault)
      → list_any (λ a. prefix_eq a.0 prefix) attachments ≡ false → IsStrange attachments text
  strange text r is every every_fault fails = (
    λ p spelled known.
        let same : Ok prefix ≡ Ok p = sym is ∙ every p spelled in
        let same_prefix : p ≡ prefix = cc in
        false≢true (sym fails ∙ test_of_known (subst (IsKnownPrefix attachments) same_prefix known)),
    λ fault wrong.
        let both : Ok prefix ≡ Err fault = sym is ∙ every_fault fault wrong in
        cc,
  )
