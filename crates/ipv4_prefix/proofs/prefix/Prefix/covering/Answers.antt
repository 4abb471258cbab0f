use Rattle.std.proofs.Common.{◌≡◌, ◌-◌, ◌*◌, ◌/◌, ◌%◌, ◌^◌, ◌∙◌, arith, ap, eq-eqb}
use Rattle.std.proofs.{Math.Nat.div-mul-le_self, lemmas.Nat.shl-shr}
use Rattle.ipv4_prefix.proofs.prefix.Prefix.covering.Goals as goal

pub returns-clause-covers : goal.returns-clause-covers
returns-clause-covers c =
    let size = 2 ^ (32 - c.args.len) in
    let first = c.from.result / size * size in
    let fits : first % 18446744073709551616 ≡ first = omega (arith, div-mul-le_self c.from.result size, c.from.type_inv) in
    eq-eqb _ _ (ap (λ m. m / size) fits ∙ shl-shr (c.from.result / size) (32 - c.args.len) ∙ ap (λ m. m / size) c.from.ensures)
