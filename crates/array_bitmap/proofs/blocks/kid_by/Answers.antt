use Rattle.std.proofs.Common.{◌≡◌, inl, inr, arith, sym, ◌∙◌}
use Rattle.std.proofs.lemmas.Bool.{cases_eq}
use Rattle.array_bitmap.proofs.Picks.{times_one, times_zero, times_bit}
use Rattle.array_bitmap.proofs.blocks.kid_by.Goals as goal

pub overflow_mul-result : goal.overflow_mul-result
overflow_mul-result g c = omega (arith, times_bit c.read_kid-kid.result.place c.read_kid-kid.result.there c.read_kid-kid.ensures.bit)

pub returns : goal.returns
returns g c = elim (cases_eq c.read_kid-kid.result.there 1) [
  | inl one ↦ times_one c.read_kid-kid.result.place c.read_kid-kid.result.there one ∙ c.read_kid-kid.ensures.some one
  | inr other ↦
      let zero : c.read_kid-kid.result.there ≡ 0 = omega (arith, other, c.read_kid-kid.ensures.bit) in
      times_zero c.read_kid-kid.result.place c.read_kid-kid.result.there zero ∙ sym (c.read_kid-kid.ensures.none zero)
]
