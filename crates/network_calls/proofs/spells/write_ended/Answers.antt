use Rattle.std.proofs.Common.{◌≡◌, refl, ◌∙◌, Some, None, List, arith, drop, length, slice_get, ℕ, ap, sym, subst}
use Rattle.std.proofs.lemmas.Option.{slice_get_past, slice_get_read}
use Rattle.timed_reports.specs.declared.spells.Spell.{Spell}
use Rattle.network_calls.specs.Spells.{ended_shown}
use Rattle.network_calls.proofs.Items.{ended, full_by, more_by, none}
use Rattle.network_calls.proofs.Going.{from_min}
use Rattle.network_calls.proofs.spells.write_ended.Goals as goal

pub loop-place-init : goal.loop-place-init
loop-place-init c = none ended_shown (drop c.args.from c.args.ended.now) c.args.spells.now

pub loop-place-preserved : goal.loop-place-preserved
loop-place-preserved c =
    let left : c.split_at.result.1.now ≡ drop c.args.from c.args.ended.now = c.split_at.ensures.back ∙ ap (λ (n : ℕ). drop n c.args.ended.now) c.min.ensures ∙ from_min c.args.from c.args.ended.now in
    let at : slice_get c.split_at.result.1.now c.loop-place.place ≡ Some c.in-Some.spell.now = slice_get_read c.split_at.result.1.now (length c.split_at.result.1.now) c.loop-place.place c.in-Some.spell.now refl (omega (arith, c.in-Some.ensures.lookup)) c.in-Some.ensures.lookup.1 in
    let at_left : slice_get (drop c.args.from c.args.ended.now) c.loop-place.place ≡ Some c.in-Some.spell.now = subst (λ (xs : List Spell). slice_get xs c.loop-place.place ≡ Some c.in-Some.spell.now) left at in
    more_by ended_shown (drop c.args.from c.args.ended.now) c.args.spells.now c.loop-place.spells c.loop-place.place c.in-Some.spell.now c.ended.result (sym at_left) c.ended.ensures (omega arith) c.loop-place.invariant

pub returns-in-None : goal.returns-in-None
returns-in-None c =
    let left : c.split_at.result.1.now ≡ drop c.args.from c.args.ended.now = c.split_at.ensures.back ∙ ap (λ (n : ℕ). drop n c.args.ended.now) c.min.ensures ∙ from_min c.args.from c.args.ended.now in
    let gone : slice_get (drop c.args.from c.args.ended.now) c.loop-place.place ≡ None = slice_get_past (drop c.args.from c.args.ended.now) c.loop-place.place (let same = ap length left in omega (arith, c.in-None.ensures.lookup, same)) in
    ended ended_shown (drop c.args.from c.args.ended.now) c.args.spells.now c.loop-place.spells c.loop-place.place gone (omega arith) c.loop-place.invariant

pub returns : goal.returns
returns c =
    let left : c.split_at.result.1.now ≡ drop c.args.from c.args.ended.now = c.split_at.ensures.back ∙ ap (λ (n : ℕ). drop n c.args.ended.now) c.min.ensures ∙ from_min c.args.from c.args.ended.now in
    full_by ended_shown (drop c.args.from c.args.ended.now) c.args.spells.now c.loop-place.spells c.loop-place.place (length c.split_at.result.1.now) (ap length left) (omega arith) c.loop-place.invariant
