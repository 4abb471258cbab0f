use Rattle.std.proofs.Common.{refl, ◌≡◌, ℕ, ◌+◌, ◌<◌, Bool, true, false, not, ◌&&◌, List, length, sym, subst, ◌∙◌, rules, slice_set}
use Rattle.std.proofs.lemmas.Bool.{and_parts, false≢true, not-true}
use Rattle.ipv4_prefix.specs.Prefix.{Prefix}
use Rattle.network_model.specs.World.{World}
use Rattle.reachability.specs.{Marks.is_in, Rounds.LeavesRow, Rounds.OnlyRouted, Rounds.leads_home}
use Rattle.reachability.proofs.Rounds.{IsRound, begun, with_mark, with_none}
use Rattle.reachability.proofs.ByRows.{only_more}
use Rattle.reachability.proofs.rows.follow.Goals.{then-added, else-added}
use Rattle.reachability.proofs.rows.follow.Goals as goal

-- a router that is not added, although its row leads home, is marked
in_already : (marked leads : Bool) → (not marked && leads) ≡ false → leads ≡ true → marked ≡ true
in_already true leads none is = refl
in_already false leads none is = absurd (false≢true (sym none ∙ is))

module _ (w : World) (p : Prefix) where
  -- marks keep what they say: only routers with a way are marked
  abbrev Keeps : List Bool → List Bool → Type 0
  Keeps old new = OnlyRouted w p old → OnlyRouted w p new

  module _ (old marks : List Bool) (grown : Bool) (place : ℕ) (R : IsRound Keeps (LeavesRow w p) old marks grown place) where
    -- a router is marked
    added : place < length marks → (test : Bool) → test ≡ (not (is_in marks place) && leads_home w p marks place) → test ≡ true → (marks' : List Bool) → marks' ≡ slice_set marks place true → (grown' : Bool) → grown' ≡ true → IsRound Keeps (LeavesRow w p) old marks' grown' (place + 1)
    added within test is passes marks' marks_is grown' grown_is =
        let parts = and_parts (not (is_in marks place)) (leads_home w p marks place) (sym is ∙ passes) in
        let fresh : is_in marks place ≡ false = not-true (is_in marks place) parts.0 in
        subst (λ (b : Bool). IsRound Keeps (LeavesRow w p) old marks' b (place + 1)) (sym grown_is)
        (subst (λ (xs : List Bool). IsRound Keeps (LeavesRow w p) old xs true (place + 1)) (sym marks_is)
        (with_mark Keeps (LeavesRow w p) old marks grown place R place (λ keeps only. only_more w p marks place parts.1 (keeps only)) within fresh))

    -- none is
    passed : (test : Bool) → test ≡ (not (is_in marks place) && leads_home w p marks place) → test ≡ false → (marks' : List Bool) → marks' ≡ marks → (grown' : Bool) → grown' ≡ grown → IsRound Keeps (LeavesRow w p) old marks' grown' (place + 1)
    passed test is fails marks' marks_is grown' grown_is =
        subst (λ (b : Bool). IsRound Keeps (LeavesRow w p) old marks' b (place + 1)) (sym grown_is)
        (subst (λ (xs : List Bool). IsRound Keeps (LeavesRow w p) old xs grown (place + 1)) (sym marks_is)
        (with_none Keeps (LeavesRow w p) old marks grown place R (in_already (is_in marks place) (leads_home w p marks place) (sym is ∙ fails))))

pub loop-place-init : goal.loop-place-init
loop-place-init g c = begun (Keeps c.args.world.now c.args.prefix) (LeavesRow c.args.world.now c.args.prefix) c.args.marks.now c.args.marks.now (λ only. only)

pub loop-place-preserved : goal.loop-place-preserved
loop-place-preserved g c = elim c.if-added.branch [
  | then-added b ↦ added c.args.world.now c.args.prefix c.args.marks.now c.loop-place.marks c.loop-place.grown c.loop-place.place c.loop-place.invariant (search rules) c.is_added-added.result c.is_added-added.ensures b.if-added.true
      c.if-added.marks (b.marks-is ∙ b.mark.ensures) c.if-added.grown b.grown-is
  | else-added b ↦ passed c.args.world.now c.args.prefix c.args.marks.now c.loop-place.marks c.loop-place.grown c.loop-place.place c.loop-place.invariant c.is_added-added.result c.is_added-added.ensures b.if-added.false
      c.if-added.marks b.marks-is c.if-added.grown b.grown-is
]
