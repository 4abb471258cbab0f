use Rattle.std.proofs.Common.{◌≡◌, ℕ, List, None, Result, Ok, Err, OnOk, IfErr, inl, inr, refl, sym, subst}
use Rattle.network_model.specs.{declared.network.Limits.Limits, Network.widest_limits, Network.AreWithin}
use Rattle.network_calls.specs.Parts.{list_fault, network_failure, IsFaultWithin, IsOpeningFault}
use Rattle.network_calls.specs.{declared.failure.Failure.Failure, declared.parts.AttachmentParts.AttachmentParts, declared.parts.FaultPlace.FaultPlace, declared.parts.LinkParts.LinkParts}
use Rattle.network_calls.proofs.opening.read_network_within.Goals as goal

-- what is so of a network that was opened
on_ok : {X E P : Type 0} (r : Result X E) → P → OnOk r P
on_ok (Ok x) p = p
on_ok (Err e) p = tt

-- a fault within limits that are not above the widest
told : {X : Type 0} (limits : Limits) (routers : ℕ) (links : List LinkParts) (attachments : List AttachmentParts) (r : Result X (Failure × FaultPlace)) → AreWithin limits widest_limits
    → IfErr r (IsOpeningFault (list_fault links attachments) (network_failure limits routers links attachments)) → IfErr r (IsFaultWithin limits routers links attachments)
told limits routers links attachments (Ok x) within fault = tt
told limits routers links attachments (Err f) within fault = inr (within, fault)

pub returns-then-not-are_within-clause-err : goal.returns-then-not-are_within-clause-err
returns-then-not-are_within-clause-err c =
    inl (
      (λ within. let yes = c.are_within.ensures.1 (subst (λ l. AreWithin l widest_limits) (sym c.limits-own.ensures) within) in let no = c.if-not-are_within.true in let none : ⊥ = cc in none),
      refl,
    )

pub read_network-requires : goal.read_network-requires
read_network-requires c = c.are_within.ensures.0 c.if-not-are_within.false

pub returns-clause-within : goal.returns-clause-within
returns-clause-within c = on_ok c.read_network.result (subst (λ l. AreWithin l widest_limits) c.limits-own.ensures (c.are_within.ensures.0 c.if-not-are_within.false))

pub returns-clause-ok : goal.returns-clause-ok
returns-clause-ok c =
    subst (λ l. OnOk c.read_network.result ((list_fault c.args.links.now c.args.attachments.now ≡ None) × (network_failure l c.args.routers c.args.links.now c.args.attachments.now ≡ None))) c.limits-own.ensures c.read_network.ensures.ok

pub returns-clause-err : goal.returns-clause-err
returns-clause-err c =
    subst (λ l. IfErr c.read_network.result (IsFaultWithin l c.args.routers c.args.links.now c.args.attachments.now)) c.limits-own.ensures
    (told c.limits-own.result c.args.routers c.args.links.now c.args.attachments.now c.read_network.result (c.are_within.ensures.0 c.if-not-are_within.false) c.read_network.ensures.err)
