use Rattle.std.proofs.Common.{◌≡◌, ◌+◌, ◌<◌, ◌++◌, ◌∷◌, [], sym, ap, subst, ◌∙◌, arith, map, take, add-one, take_all, Contains}
use Rattle.std.specs.List.Sorted.{IsPermutation}
use Rattle.no_packet_loops.proofs.Common.{range_with_len, changed_at, widest_limits, take-suc, Contains-permutation, IsPermutation-sym}
use Rattle.world.proofs.{ByRouter.made_count, Degrees.parts_fine}
use Rattle.world.proofs.CostsOfRouters.{own_rows, own_more, known_router, are_apart, costs_made}
use Rattle.world.proofs.opening.opening_costs.Goals as goal

pub put_at-requires : goal.put_at-requires
put_at-requires g c =
    let n = c.args.network.now in
    let i = c.loop-attachment.attachment-index in
    let sorted = c.deref-attachment-items.result.now in
    let here = c.attachment-item.result in
    let moved : IsPermutation n.attachments sorted = subst (λ ys. IsPermutation n.attachments ys) (sym c.deref-attachment-items.ensures.value)
    (subst (λ xs. IsPermutation xs c.sort_unstable_by_key.new.self.items) (c.in_ok-sorted.ensures.items ∙ c.attachments.ensures.attachments) c.sort_unstable_by_key.ensures.permutation) in
    let there : Contains n.attachments here = Contains-permutation sorted n.attachments here (IsPermutation-sym n.attachments sorted moved) (i, omega arith, sym c.attachment-item.is) in
    let known : here.1 < n.routers = known_router widest_limits n.routers [] n.attachments (parts_fine widest_limits n c.attachments.ensures.valid.no_fault).2 here there in
    let many = made_count (λ v. v.items) (λ j. own_rows j (take i sorted)) c.loop-attachment.own.items n.routers c.loop-attachment.invariant in
    omega (arith, known, many, c.loop-attachment.own.ok.0)

pub loop-attachment-init : goal.loop-attachment-init
loop-attachment-init g c = c.in_ok-own.ensures ∙ ap (λ m. map (λ _. []) (range_with_len 0 m)) c.routers.ensures.number

pub loop-attachment-preserved : goal.loop-attachment-preserved
loop-attachment-preserved g c =
    let n = c.args.network.now in
    let i = c.loop-attachment.attachment-index in
    let sorted = c.deref-attachment-items.result.now in
    let here = c.attachment-item.result in
    let moved : IsPermutation n.attachments sorted = subst (λ ys. IsPermutation n.attachments ys) (sym c.deref-attachment-items.ensures.value)
    (subst (λ xs. IsPermutation xs c.sort_unstable_by_key.new.self.items) (c.in_ok-sorted.ensures.items ∙ c.attachments.ensures.attachments) c.sort_unstable_by_key.ensures.permutation) in
    let there : Contains n.attachments here = Contains-permutation sorted n.attachments here (IsPermutation-sym n.attachments sorted moved) (i, omega arith, sym c.attachment-item.is) in
    let known : here.1 < n.routers = known_router widest_limits n.routers [] n.attachments (parts_fine widest_limits n c.attachments.ensures.valid.no_fault).2 here there in
    let taken : take (i + 1) sorted ≡ take i sorted ++ here ∷ []
    = ap (λ m. take m sorted) (add-one i) ∙ take-suc sorted i here (omega arith) ∙ ap (λ x. take i sorted ++ x ∷ []) (sym c.attachment-item.is) in
    c.in_ok-put_at.ensures.lists
    ∙ ap (changed_at here.1 (λ xs. xs ++ (here.0, here.2) ∷ [])) c.loop-attachment.invariant
    ∙ own_more n.routers (take i sorted) here known
    ∙ ap (λ xs. map (λ j. own_rows j xs) (range_with_len 0 n.routers)) (sym taken)

pub returns : goal.returns
returns g c =
    let n = c.args.network.now in
    let i = c.loop-attachment.attachment-index in
    let sorted = c.deref-attachment-items.result.now in
    let moved : IsPermutation n.attachments sorted = subst (λ ys. IsPermutation n.attachments ys) (sym c.deref-attachment-items.ensures.value)
    (subst (λ xs. IsPermutation xs c.sort_unstable_by_key.new.self.items) (c.in_ok-sorted.ensures.items ∙ c.attachments.ensures.attachments) c.sort_unstable_by_key.ensures.permutation) in
    costs_made (λ v. v.items) c.loop-attachment.own.items n.attachments sorted n.routers moved (are_apart widest_limits n.routers [] n.attachments (parts_fine widest_limits n c.attachments.ensures.valid.no_fault).2)
    (c.loop-attachment.invariant ∙ ap (λ xs. map (λ j. own_rows j xs) (range_with_len 0 n.routers)) (take_all i sorted c.loop-attachment-test.false))
