use Rattle.std.proofs.Common.{◌≡◌, ◌++◌, None, refl, sym, subst, arith, append-nil, map, ℕ, List, [], ◌∷◌}
use Rattle.timed_reports.specs.{declared.spells.Watched.Watched, Records.watched, Records.watched_at, Records.with_routers}
use Rattle.timed_reports.proofs.Watching.{each_more, kept_more, none_more, routers_more}
use Rattle.timed_reports.proofs.spells.watch_prefix.Goals as goal

pub loop-place-init : goal.loop-place-init
loop-place-init g c = record {
  each = λ i below. absurd (omega (arith, below));
  kept = λ d listed. listed;
  none = c.requires.none;
  order = sym (append-nil (map watched_at c.args.all.now.items));
}

pub loop-place-preserved : goal.loop-place-preserved
loop-place-preserved g c =
    let xs : List Watched = c.loop-place.all.items in
    let zs : List Watched = c.push.new.self.items in
    let y : Watched = watched c.loop-place.place c.args.prefix None in
    let pushed : zs ≡ xs ++ y ∷ [] = c.in_ok-push.ensures.items in
    record {
      each = each_more c.args.prefix c.loop-place.place xs zs pushed c.loop-place.invariant.each;
      kept = λ d listed. kept_more xs zs y pushed d (c.loop-place.invariant.kept d listed);
      none = none_more xs zs y pushed c.loop-place.invariant.none refl;
      order = routers_more c.args.prefix c.loop-place.place c.args.all.now.items xs zs pushed c.loop-place.invariant.order;
    }

-- each router was pushed
pub returns-clause-order : goal.returns-clause-order
returns-clause-order g c =
    let over = c.loop-place-test.false in
    let up_to = c.loop-place.auto.place-end in
    let all : c.loop-place.place ≡ c.args.routers = omega (arith, over, up_to) in
    subst (λ (k : ℕ). map watched_at c.loop-place.all.items ≡ map watched_at c.args.all.now.items ++ with_routers k c.args.prefix) all c.loop-place.invariant.order
