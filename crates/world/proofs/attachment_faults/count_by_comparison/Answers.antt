use Rattle.std.proofs.Common.{◌≡◌, ◌+◌, ◌++◌, [], ◌∷◌, take, length, sym, ap, ◌∙◌, arith, add-one, length-take-le}
use Rattle.no_packet_loops.proofs.Common.{list_any, prefixes_of, has_same_prefix, take-suc}
use Rattle.world.proofs.{Faults.no_attachment_fault, Prefixes.one_unless, Prefixes.one_more_prefix, Prefixes.few_prefixes}
use Rattle.world.proofs.attachment_faults.count_by_comparison.Goals as goal

-- there are no more prefixes than attachments
pub overflow_add-prefixes : goal.overflow_add-prefixes
overflow_add-prefixes c =
    let few = few_prefixes (take c.loop-i.i c.args.attachments.now) in
    let met : length (take c.loop-i.i c.args.attachments.now) ≡ c.loop-i.i = length-take-le c.loop-i.i c.args.attachments.now (omega arith) in
    omega (arith, few, met, c.loop-i.invariant.count, c.prefixes_more-prefixes.ensures.one)

pub loop-i-preserved : goal.loop-i-preserved
loop-i-preserved c =
    let given = c.args.attachments.now in
    let here = c.index-attachments-i.result in
    let more : take (c.loop-i.i + 1) given ≡ take c.loop-i.i given ++ here ∷ []
    = ap (λ n. take n given) (add-one c.loop-i.i) ∙ take-suc given c.loop-i.i here (omega arith) ∙ ap (λ x. take c.loop-i.i given ++ x ∷ []) (sym c.index-attachments-i.is) in
    let counted : length (prefixes_of (take (c.loop-i.i + 1) given)) ≡ length (prefixes_of (take c.loop-i.i given)) + one_unless (list_any (has_same_prefix here) (take c.loop-i.i given))
    = ap (λ xs. length (prefixes_of xs)) more ∙ one_more_prefix (take c.loop-i.i given) here in
    record {
      rest = sym (no_attachment_fault c.args.limits.now c.args.routers given c.loop-i.i here (omega arith) c.index-attachments-i.is (sym c.is_bad_attachment.ensures ∙ c.if-is_bad_attachment.false)) ∙ c.loop-i.invariant.rest;
      count = omega (arith, counted, c.loop-i.invariant.count, c.prefixes_more-prefixes.ensures.more);
    }
