use Rattle.std.proofs.Common.{◌≡◌, ℕ, ◌-◌, ◌<◌, ◌≤◌, ◌∷◌, Bool, if◌then◌else◌, List, drop, sym, ap, ◌∙◌, arith, get_or, length}
use Rattle.std.specs.BTreeSet.{contains}
use Rattle.no_packet_loops.proofs.Common.{Prefix, prefix_cmp, prefixes_of}
use Rattle.world.proofs.Prefixes.{prefixes_from, given_from, reversed_with}
use Rattle.world.proofs.opening.opening_prefixes.Goals as goal

pub loop-i-preserved : goal.loop-i-preserved
loop-i-preserved g c =
    let all : List (Prefix × ℕ × ℕ) = (c.args.network.now).attachments in
    let i = c.loop-i.i in
    let here : Prefix × ℕ × ℕ = c.index-attachments-i.result in
    let many : length c.attachments-attachments.result.now ≡ length all = ap length c.attachments-attachments.ensures.attachments in
    let some : 0 < i = omega arith in
    let within : i ≤ length all = omega (arith, many) in
    let at : here ≡ get_or all (i - 1) here = c.index-attachments-i.is ∙ ap (λ xs. get_or xs (i - 1) here) c.attachments-attachments.ensures.attachments in
    let met : Bool = contains prefix_cmp c.loop-i.given here.0 in
    record {
      so_far = reversed_with met c.loop-i.prefixes.items _ here.0 c.in_ok-put_if_new.ensures.prefixes
          ∙ ap (λ (ps : List Prefix). if met then ps else here.0 ∷ ps) c.loop-i.invariant.so_far
          ∙ sym (prefixes_from all i here some within at met (sym (c.loop-i.invariant.given here.0)));
      given = λ p. given_from all i here some within at p (contains prefix_cmp c.loop-i.given p) _ (c.in_ok-put_if_new.ensures.given p) (c.loop-i.invariant.given p);
    }

pub returns : goal.returns
returns g c =
    let over : c.loop-i.i ≡ 0 = omega arith in
    c.reverse.ensures.items ∙ c.loop-i.invariant.so_far ∙ ap (λ n. prefixes_of (drop n (c.args.network.now).attachments)) over
