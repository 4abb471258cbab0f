-- The lines of a journal, read one after another.
use Rattle.std.proofs.Common.{◌≡◌, ◌≢◌, ℕ, ◌+◌, List, [], ◌∷◌, ◌++◌, length, codes, decimal, arith, refl, sym, ap, subst, ◌∙◌, inl, inr, false, bytes_eq, append_assoc}
use Rattle.script.proofs.Common.{decimal_injective, all_zipped_more, Prefix, SpellsPrefix, IsFirstFault, PrefixFault, IsFirstFault-spelled, LinkSpec, Step, LinkUp, LinkDown, SetCost, Deliver, Publish, Release, Attach, Detach, Text, IsCost, NamesTextAndNumber, NamesBadPrefix, AsksStep, AsksBadStep, AsksNoStep, AsksBadCost}
use Rattle.script.specs.{declared.fault.LineFault.LineFault, declared.fault.LineFault.TheVariants.BadCost, declared.fault.LineFault.TheVariants.Prefix as OfPrefix, declared.fault.LineFault.TheVariants.BadCommand}
use Rattle.script.proofs.StepTexts.{clash, parts_unique, text_unique}
use Rattle.journal.specs.{declared.read.Version.Version, Steps.SaysStep, Journal.ending, Journal.HasSteps, Journal.IsBadAt}

-- past one step more
pub steps_more : (names : List Text) (links : List LinkSpec) (attachments : List (Prefix × ℕ × ℕ)) (text : Text) (version : Version) (steps new : List Step) (lines rest : List Text) (line : Text) (s : Step)
    → HasSteps names links attachments text version steps lines → lines ≡ line ∷ rest → SaysStep names links attachments line s → new ≡ steps ++ s ∷ [] → HasSteps names links attachments text version new rest
steps_more names links attachments text version steps new lines rest line s has next says more =
    subst (λ ss. HasSteps names links attachments text version ss rest) (sym more) (record {
      after = has.after;
      headed = has.headed;
      says = record {
        said = has.says.said ++ line ∷ [];
        spelled = has.says.spelled ∙ ap (λ ls. has.says.said ++ ls) next ∙ sym (append_assoc has.says.said (line ∷ []) rest);
        says = all_zipped_more (SaysStep names links attachments) has.says.said steps line s has.says.says says;
      };
    })

-- ---- words that are refused

abbrev verb_of : Step → Text
verb_of (LinkUp link) = codes "up"
verb_of (LinkDown link) = codes "down"
verb_of (SetCost router port cost) = codes "cost"
verb_of (Deliver router port) = codes "deliver"
verb_of (Publish router) = codes "publish"
verb_of (Release router) = codes "release"
verb_of (Attach router prefix cost) = codes "attach"
verb_of (Detach router prefix) = codes "detach"

module _ (names : List Text) (links : List LinkSpec) (attachments : List (Prefix × ℕ × ℕ)) (words : List Text) where
  -- words that ask for a step begin with its verb
  asks_verb : (s : Step) → AsksStep names links attachments words s → (rest : List Text) × (words ≡ verb_of s ∷ rest)
  asks_verb (SetCost router port cost) asks = (_, asks.0.1.spelled)
  asks_verb (Deliver router port) (inl asks, small) = (_, asks.1.spelled)
  asks_verb (Deliver router port) (inr asks, small) = (_, asks.0.spelled)
  asks_verb (Publish router) asks = (_, asks.spelled)
  asks_verb (Release router) asks = (_, asks.spelled)
  asks_verb _ asks = (_, asks.1.spelled)

  other_step : (verb : Text) (rest : List Text) → words ≡ verb ∷ rest → (s : Step) → bytes_eq verb (verb_of s) ≡ false → ¬ (AsksStep names links attachments words s)
  other_step verb rest is s apart asks = let other = asks_verb s asks in clash verb (verb_of s) rest other.0 apart (sym is ∙ other.1)

  -- words that ask to set a number that is no cost
  no_cost_no_step : AsksBadCost names links words → (s : Step) → ¬ (AsksStep names links attachments words s)
  no_cost_no_step bad (LinkUp link) asks = other_step _ _ bad.3.1.spelled (LinkUp link) refl asks
  no_cost_no_step bad (LinkDown link) asks = other_step _ _ bad.3.1.spelled (LinkDown link) refl asks
  no_cost_no_step bad (SetCost router port cost) asks = bad.4 (subst IsCost number asks.1)
    where
      spelled : codes "cost" ∷ asks.0.1.name ∷ asks.0.1.neighbour ∷ decimal cost ∷ [] ≡ codes "cost" ∷ bad.3.1.name ∷ bad.3.1.neighbour ∷ decimal bad.2 ∷ []
      spelled = sym asks.0.1.spelled ∙ bad.3.1.spelled

      number : cost ≡ bad.2
      number = decimal_injective cost bad.2 (omega (arith, asks.0.1.small)) (omega (arith, bad.3.1.small)) (let text : decimal cost ≡ decimal bad.2 = cc in text)
  no_cost_no_step bad (Deliver router port) asks = other_step _ _ bad.3.1.spelled (Deliver router port) refl asks
  no_cost_no_step bad (Publish router) asks = other_step _ _ bad.3.1.spelled (Publish router) refl asks
  no_cost_no_step bad (Release router) asks = other_step _ _ bad.3.1.spelled (Release router) refl asks
  no_cost_no_step bad (Attach router prefix cost) asks = other_step _ _ bad.3.1.spelled (Attach router prefix cost) refl asks
  no_cost_no_step bad (Detach router prefix) asks = other_step _ _ bad.3.1.spelled (Detach router prefix) refl asks

  -- words after `attach` whose values cannot all be
  no_values_no_step : (router number : ℕ) (text : Text) → NamesTextAndNumber names (codes "attach") words router text number
      → ((prefix : Prefix) → SpellsPrefix text prefix → ¬ (IsCost number)) → (s : Step) → ¬ (AsksStep names links attachments words s)
  no_values_no_step router number text h never (LinkUp link) asks = other_step _ _ h.spelled (LinkUp link) refl asks
  no_values_no_step router number text h never (LinkDown link) asks = other_step _ _ h.spelled (LinkDown link) refl asks
  no_values_no_step router number text h never (SetCost i port cost) asks = other_step _ _ h.spelled (SetCost i port cost) refl asks
  no_values_no_step router number text h never (Deliver i port) asks = other_step _ _ h.spelled (Deliver i port) refl asks
  no_values_no_step router number text h never (Publish i) asks = other_step _ _ h.spelled (Publish i) refl asks
  no_values_no_step router number text h never (Release i) asks = other_step _ _ h.spelled (Release i) refl asks
  no_values_no_step router number text h never (Attach i prefix cost) asks =
      let same = parts_unique names (codes "attach") words i router asks.0 text cost number asks.1 h in
      never prefix (subst (λ t. SpellsPrefix t prefix) same.0 asks.2) (subst IsCost same.1 asks.3)
  no_values_no_step router number text h never (Detach i prefix) asks = other_step _ _ h.spelled (Detach i prefix) refl asks

  -- words after `detach` whose text has the fault of a prefix
  no_prefix_no_step : (fault : PrefixFault) → NamesBadPrefix names (codes "detach") words fault → (s : Step) → ¬ (AsksStep names links attachments words s)
  no_prefix_no_step fault bad (LinkUp link) asks = other_step _ _ bad.2.spelled (LinkUp link) refl asks
  no_prefix_no_step fault bad (LinkDown link) asks = other_step _ _ bad.2.spelled (LinkDown link) refl asks
  no_prefix_no_step fault bad (SetCost i port cost) asks = other_step _ _ bad.2.spelled (SetCost i port cost) refl asks
  no_prefix_no_step fault bad (Deliver i port) asks = other_step _ _ bad.2.spelled (Deliver i port) refl asks
  no_prefix_no_step fault bad (Publish i) asks = other_step _ _ bad.2.spelled (Publish i) refl asks
  no_prefix_no_step fault bad (Release i) asks = other_step _ _ bad.2.spelled (Release i) refl asks
  no_prefix_no_step fault bad (Attach i prefix cost) asks = other_step _ _ bad.2.spelled (Attach i prefix cost) refl asks
  no_prefix_no_step fault bad (Detach i prefix) asks =
      let same = text_unique names (codes "detach") words bad.0 i bad.1 asks.0 bad.2 asks.1 in
      IsFirstFault-spelled asks.0 fault prefix (subst (λ t. IsFirstFault t fault) same bad.3) asks.2

  bad_no_step : (e : LineFault) → AsksBadStep names links words e → (s : Step) → ¬ (AsksStep names links attachments words s)
  bad_no_step BadCost (inl bad) = no_cost_no_step bad
  bad_no_step BadCost (inr bad) = no_values_no_step bad.0 bad.1 bad.2 bad.4 (λ prefix spelled. bad.6)
  bad_no_step (OfPrefix fault) (inl bad) = no_prefix_no_step fault bad
  bad_no_step (OfPrefix fault) (inr bad) = no_values_no_step bad.0 bad.1 bad.2 bad.3 (λ prefix spelled. absurd (IsFirstFault-spelled bad.2 fault prefix bad.4 spelled))
  bad_no_step _ never = absurd never

  -- a line that is refused says no step
  pub says_no_step : (e : LineFault) → AsksNoStep names links attachments words e → (s : Step) → ¬ (AsksStep names links attachments words s)
  says_no_step BadCost bad = bad_no_step BadCost bad
  says_no_step (OfPrefix fault) bad = bad_no_step (OfPrefix fault) bad
  says_no_step BadCommand none = none.0
  says_no_step _ never = absurd never

-- ---- where reading stops

-- where nothing more comes
pub stops_missing : (names : List Text) (links : List LinkSpec) (attachments : List (Prefix × ℕ × ℕ)) (text : Text) (version : Version) (steps : List Step) (lines : List Text) (line : ℕ)
    → HasSteps names links attachments text version steps lines → lines ≡ [] → line ≡ length steps + 2 → IsBadAt names links attachments text line
stops_missing names links attachments text version steps lines line has none number =
    inr (record { version = version; steps = steps; rest = []; has = subst (HasSteps names links attachments text version steps) none has; number = number; missing = tt })

-- at a line that is neither the ending nor a step's
pub stops_at_line : (names : List Text) (links : List LinkSpec) (attachments : List (Prefix × ℕ × ℕ)) (text : Text) (version : Version) (steps : List Step) (lines rest : List Text) (line : Text) (number : ℕ)
    → HasSteps names links attachments text version steps lines → lines ≡ line ∷ rest → line ≢ ending → ((s : Step) → ¬ (SaysStep names links attachments line s)) → number ≡ length steps + 2 → IsBadAt names links attachments text number
stops_at_line names links attachments text version steps lines rest line number has next apart says_none is =
    inr (record { version = version; steps = steps; rest = line ∷ rest; has = subst (HasSteps names links attachments text version steps) next has; number = is; missing = (apart, says_none) })
