-- What goes on is written over the first of the spells that are there.
use Rattle.std.proofs.Common.{refl, sym, ap, min, ◌∙◌, arith, subst, ◌≡◌, ℕ, zero, suc, ◌+◌, ◌<◌, ◌≤◌, List, [], ◌∷◌, length, take, drop, map, set, length-set, Bool, true, false, slice_get, Some, nat_lt, is_some, take_all, le-ltb, lt-ltb}
use Rattle.std.proofs.{Math.ListN.drop_of_length-le, Math.Seq.drop-length, lemmas.List.Filters.length-filter_more, lemmas.Option.get_or_from_slice_get, lemmas.Option.slice_get_within, lemmas.Option.none-some}
use Rattle.std.specs.List.{filter}
use Rattle.single_router.specs.States.{flag}
use Rattle.network_calls.specs.{Shown.AreShownOver, declared.spells.SpellParts.SpellParts, Spells.going_on, Spells.going_shown}
use Rattle.network_calls.proofs.Items.{AreFirst}
use Rattle.network_calls.proofs.Items as items
use Rattle.timed_reports.specs.declared.spells.Watched.{Watched}

-- what is left of a list from a place on, or from its end on where the place is behind that
pub from_min : {X : Type 0} (n : ℕ) (xs : List X) → drop (min n (length xs)) xs ≡ drop n xs
from_min n xs = grind (arith, drop_of_length-le xs {i = n}, drop-length xs)

-- where an element that passes stands among those that do
pub filter_at : {X : Type 0} (p : X → Bool) (xs : List X) (k : ℕ) (x : X) → slice_get xs k ≡ Some x → p x ≡ true → slice_get (filter p xs) (length (filter p (take k xs))) ≡ Some x
filter_at p [] k x at passes = absurd (none-some x at)
filter_at p (y ∷ xs) zero x at passes = grind (arith, at, passes)
filter_at p (y ∷ xs) (suc k) x at passes = behind (p y) refl (filter_at p xs k x at passes)
  where
    behind : (b : Bool) → p y ≡ b → slice_get (filter p xs) (length (filter p (take k xs))) ≡ Some x → slice_get (filter p (y ∷ xs)) (length (filter p (take (suc k) (y ∷ xs)))) ≡ Some x
    behind true is rest = grind (arith, is, rest)
    behind false is rest = grind (arith, is, rest)

-- of the first so many of a list those that go on were written, so many
pub record AreWritten (all : List Watched) (old now : List SpellParts) (place written : ℕ) : Type 0 where
  pub first : AreFirst going_shown (going_on all) old now written
  pub count : written ≡ length (going_on (take place all))
  pub room : written ≤ length now

module _ (all : List Watched) (old : List SpellParts) where
  pub none : AreWritten all old old 0 0
  none = record { first = items.none going_shown (going_on all) old; count = refl; room = omega arith }

  pub kept_by : (now after : List SpellParts) (place written count : ℕ) → after ≡ now → count ≡ written → AreWritten all old now place written → AreWritten all old after place count
  kept_by now after place written count same is w = subst (λ (xs : List SpellParts). AreWritten all old xs place count) (sym same) (subst (AreWritten all old now place) (sym is) w)

  -- one that does not go on
  pub passed : (now : List SpellParts) (place written : ℕ) (c : Watched) → slice_get all place ≡ Some c → is_some c.since ≡ false → AreWritten all old now place written → AreWritten all old now (place + 1) written
  passed now place written c at rests w =
      let within = slice_get_within all place c at in
      let more = length-filter_more (λ (d : Watched). is_some d.since) all place c within in
      record {
        first = w.first;
        count = (let same = get_or_from_slice_get all place c c at in let count = w.count in grind (arith, more, same, rests, count));
        room = w.room;
      }

  -- one that goes on
  pub written_more : (now : List SpellParts) (place written : ℕ) (c : Watched) (s : SpellParts) → slice_get all place ≡ Some c → is_some c.since ≡ true → s ≡ going_shown c → written < length now → AreWritten all old now place written → AreWritten all old (set now written s) (place + 1) (written + 1)
  written_more now place written c s at goes by below w =
      let there : slice_get (going_on all) written ≡ Some c = subst (λ n. slice_get (going_on all) n ≡ Some c) (sym w.count) (filter_at (λ (d : Watched). is_some d.since) all place c at goes) in
      let within = slice_get_within all place c at in
      let more = length-filter_more (λ (d : Watched). is_some d.since) all place c within in
      record {
        first = items.more_by going_shown (going_on all) old now written c s (sym there) by below w.first;
        count = (let same = get_or_from_slice_get all place c c at in let count = w.count in grind (arith, more, same, goes, count));
        room = (let kept = length-set now written s in omega (arith, kept, below));
      }

  -- one that goes on, and there is no room for it
  pub full : (now : List SpellParts) (place written : ℕ) (c : Watched) → slice_get all place ≡ Some c → is_some c.since ≡ true → written ≡ length now → AreWritten all old now place written → AreShownOver going_shown (going_on all) old now written (flag true)
  full now place written c at goes is w =
      let there : slice_get (going_on all) written ≡ Some c = subst (λ n. slice_get (going_on all) n ≡ Some c) (sym w.count) (filter_at (λ (d : Watched). is_some d.since) all place c at goes) in
      let below : written < length (going_on all) = slice_get_within (going_on all) written c there in
      let over = items.full going_shown (going_on all) old now (subst (AreFirst going_shown (going_on all) old now) is w.first) in
      let less : nat_lt (length now) (length (going_on all)) ≡ true = lt-ltb (length now) (length (going_on all)) (omega (arith, below, is)) in
      subst (λ n. AreShownOver going_shown (going_on all) old now n (flag true)) (sym is) (subst (λ b. AreShownOver going_shown (going_on all) old now (length now) (flag b)) less over)

  -- all were looked at
  pub ended : (now : List SpellParts) (place written : ℕ) → place ≡ length all → AreWritten all old now place written → AreShownOver going_shown (going_on all) old now written (flag false)
  ended now place written is w =
      let whole : take place all ≡ all = take_all place all (omega (arith, is)) in
      let count : written ≡ length (going_on all) = w.count ∙ ap (λ cs. length (going_on cs)) whole in
      let fits : length (going_on all) ≤ length old = (let f = w.first.count in let r = w.room in omega (arith, count, f, r)) in
      let taken : take (length old) (going_on all) ≡ going_on all = take_all (length old) (going_on all) fits in
      record {
        count = count ∙ sym (ap length taken);
        first = w.first.first ∙ ap (map going_shown) (take_all written (going_on all) (omega (arith, count)) ∙ sym taken);
        rest = w.first.rest;
        more_is = sym (ap flag (le-ltb (length old) (length (going_on all)) fits));
      }
