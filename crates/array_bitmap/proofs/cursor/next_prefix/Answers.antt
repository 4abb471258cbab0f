use Rattle.std.proofs.Common.{arith, sym, ap, subst, ◌≡◌, ◌+◌, ◌-◌, ◌%◌, ◌^◌, ◌∙◌, ◌*◌, ◌/◌}
use Rattle.array_bitmap.specs.Cursor.{IsFirstAt}
use Rattle.array_bitmap.proofs.PrefixNumbers.{covering_itself, longer_writable, next_longer, next_address}
use Rattle.array_bitmap.proofs.cursor.next_prefix.Goals as goal

pub returns-then-len-lt32 : goal.returns-then-len-lt32
returns-then-len-lt32 c =
    let p = c.args.prefix in
    let q = c.covering.result in
    let valid = c.addr-addr.ensures.valid in
    let longer : q.len ≡ p.len + 1 = c.covering.ensures.len ∙ ap (λ n. n + 1) c.len-len.ensures.value in
    let none : c.addr-addr.result % 2 ^ (32 - q.len) ≡ 0 =
    subst (λ a. a % 2 ^ (32 - q.len) ≡ 0) (sym c.addr-addr.ensures.value)
    (longer_writable p.addr p.len q.len (omega (arith, longer)) (c.covering.ensures.valid.short) valid.no_host_bits) in
    let same = covering_itself c.addr-addr.result q c.covering.ensures.valid c.covering.ensures.covers c.addr-addr.type_inv none in
    next_longer p q valid c.covering.ensures.valid (same ∙ c.addr-addr.ensures.value) longer

pub returns : goal.returns
returns c =
    let len = c.len-len.ensures.value in
    let valid = c.addr-addr.ensures.valid in
    let short = valid.short in
    let at : (c.addr-addr.result / 1 + 1) * 1 ≡ c.args.prefix.addr + 1 = omega (arith, c.addr-addr.ensures.value) in
    next_address c.args.prefix c.first_past.result valid (omega (arith, len, short, c.if-len-lt32.false)) (subst (λ n. IsFirstAt n c.first_past.result) at c.first_past.ensures)
