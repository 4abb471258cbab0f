use Rattle.std.proofs.Common.{◌≡◌, true, false, [], length, Some, None, Option, Err, Result, refl, sym, ap, subst, ◌∙◌, arith, All, MatchOption, IsOk}
use Rattle.no_packet_loops.proofs.Common.{err_from_is_err_and, IsPrefix, IsCost, prefixes_of, HasCosts, first_cause, link_causes, attachment_causes, widest_limits}
use Rattle.world.specs.Parts.{network_of_parts}
use Rattle.world.proofs.{Done.no_cause, Done.only_cause, Faults.fault_of_link, Faults.fault_of_attachments, Degrees.within_limits, Wider.wider}
use Rattle.world.proofs.network.Network.within.Goals as goal

-- the derefs: of the links as they are read, of the attachments as they are read, of the links, of the attachments
pub returns-in-Some-clause-cause : goal.returns-in-Some-clause-cause
returns-in-Some-clause-cause c =
    let found : first_cause (link_causes c.args.limits c.args.routers [] c.args.links.items) ≡ Some c.in-Some.fault
    = ap (λ xs. first_cause (link_causes c.args.limits c.args.routers [] xs)) (sym c.deref-3.ensures.value) ∙ sym c.in-Some.ensures in
    rw (fault_of_link c.args.limits c.args.routers c.args.links.items c.args.attachments.items (omega arith) (omega arith) c.in-Some.fault found) refl

-- what refuses the attachments refuses the network
refused : (T : Type 0) {U E : Type 0} (o : Option E) (e : E) (r : Result U E) → MatchOption o (false ≡ true) (λ x. ◌≡◌ {A = Result T E} (Err e) (Err x)) → r ≡ Err e → MatchOption o (IsOk r) (λ x. r ≡ Err x)
refused T {U} o e r cause is = subst (λ x. MatchOption x (IsOk r) (λ y. r ≡ Err y)) (sym (only_cause T o e cause)) is

pub returns-in_err-prefixes-clause-cause : goal.returns-in_err-prefixes-clause-cause
returns-in_err-prefixes-clause-cause c =
    let links_fine : first_cause (link_causes c.args.limits c.args.routers [] c.args.links.items) ≡ None
    = ap (λ xs. first_cause (link_causes c.args.limits c.args.routers [] xs)) (sym c.deref-3.ensures.value) ∙ sym c.in_default.ensures in
    rw (fault_of_attachments c.args.limits c.args.routers c.args.links.items c.args.attachments.items (omega arith) (omega arith) links_fine ∙ ap (λ xs. first_cause (attachment_causes c.args.limits c.args.routers [] xs)) (sym c.deref-4.ensures.value))
    (let p = err_from_is_err_and c.from_residual.result c.from_residual.ensures.1 in
    refused _ (first_cause (attachment_causes c.args.limits c.args.routers [] c.deref-4.result.now)) c.in_err-prefixes.field-0.0 c.from_residual.result c.in_err-prefixes.ensures.cause (p.1 ∙ ap Err p.2))

pub invariant_of-result : goal.invariant_of-result
invariant_of-result c =
    let given = c.args.attachments.items in
    let links_fine : first_cause (link_causes c.args.limits c.args.routers [] c.args.links.items) ≡ None
    = ap (λ xs. first_cause (link_causes c.args.limits c.args.routers [] xs)) (sym c.deref-3.ensures.value) ∙ sym c.in_default.ensures in
    let attachments_fine : first_cause (attachment_causes c.args.limits c.args.routers [] given) ≡ None
    = ap (λ xs. first_cause (attachment_causes c.args.limits c.args.routers [] xs)) (sym c.deref-4.ensures.value) ∙ no_cause _ (first_cause (attachment_causes c.args.limits c.args.routers [] c.deref-4.result.now)) c.in_ok-prefixes.prefixes c.in_ok-prefixes.ensures.cause in (
      record {
        no_fault = wider c.args.limits widest_limits c.requires (network_of_parts c.args.routers c.args.links.items given) (omega arith) (omega arith) links_fine attachments_fine;
        costs = subst (λ xs. All HasCosts xs) c.deref.ensures.value c.read_links.ensures;
        prefixes = subst (λ xs. All (λ a. IsPrefix a.0) xs) c.deref-2.ensures.value c.read_attachments.ensures.prefixes;
        attachment_costs = subst (λ xs. All (λ a. IsCost a.2) xs) c.deref-2.ensures.value c.read_attachments.ensures.costs;
      },
      c.in_ok-prefixes.ensures.count ∙ ap (λ xs. length (prefixes_of xs)) c.deref-4.ensures.value,
    )

pub returns-clause-cause : goal.returns-clause-cause
returns-clause-cause c =
    let links_fine : first_cause (link_causes c.args.limits c.args.routers [] c.args.links.items) ≡ None
    = ap (λ xs. first_cause (link_causes c.args.limits c.args.routers [] xs)) (sym c.deref-3.ensures.value) ∙ sym c.in_default.ensures in
    let attachments_fine : first_cause (attachment_causes c.args.limits c.args.routers [] c.args.attachments.items) ≡ None
    = ap (λ xs. first_cause (attachment_causes c.args.limits c.args.routers [] xs)) (sym c.deref-4.ensures.value) ∙ no_cause _ (first_cause (attachment_causes c.args.limits c.args.routers [] c.deref-4.result.now)) c.in_ok-prefixes.prefixes c.in_ok-prefixes.ensures.cause in
    rw (fault_of_attachments c.args.limits c.args.routers c.args.links.items c.args.attachments.items (omega arith) (omega arith) links_fine ∙ attachments_fine) refl

pub returns-clause-few : goal.returns-clause-few
returns-clause-few c =
    let links_fine : first_cause (link_causes c.args.limits c.args.routers [] c.args.links.items) ≡ None
    = ap (λ xs. first_cause (link_causes c.args.limits c.args.routers [] xs)) (sym c.deref-3.ensures.value) ∙ sym c.in_default.ensures in
    let attachments_fine : first_cause (attachment_causes c.args.limits c.args.routers [] c.args.attachments.items) ≡ None
    = ap (λ xs. first_cause (attachment_causes c.args.limits c.args.routers [] xs)) (sym c.deref-4.ensures.value) ∙ no_cause _ (first_cause (attachment_causes c.args.limits c.args.routers [] c.deref-4.result.now)) c.in_ok-prefixes.prefixes c.in_ok-prefixes.ensures.cause in
    within_limits c.args.limits (network_of_parts c.args.routers c.args.links.items c.args.attachments.items)
    (fault_of_attachments c.args.limits c.args.routers c.args.links.items c.args.attachments.items (omega arith) (omega arith) links_fine ∙ attachments_fine)
