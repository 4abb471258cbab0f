use Rattle.std.proofs.Common.{◌≡◌, ℕ, ◌+◌, ◌<◌, Bool, true, List, length, Option, IfSome, sym, subst, ◌∙◌, rules, arith, slice_set}
use Rattle.network_model.specs.World.{World}
use Rattle.reachability.specs.{Ways.IsJoined, Rounds.AddsNone, Rounds.IsAddedBy, Rounds.KeepsReach}
use Rattle.reachability.proofs.Rounds.{IsRound, begun, with_mark, with_none}
use Rattle.reachability.proofs.OverLinks.{KeepsReach-itself, keeps_more}
use Rattle.reachability.proofs.links.spread.Goals.{in-Some, in_default}
use Rattle.reachability.proofs.links.spread.Goals as goal

module _ (w : World) (old marks : List Bool) (grown : Bool) (place : ℕ) (R : IsRound (KeepsReach w) (AddsNone w) old marks grown place) where
  added : IsJoined w → length marks ≡ length w.routers → (k : ℕ) → IsAddedBy w marks place k → (marks' : List Bool) → marks' ≡ slice_set marks k true → (grown' : Bool) → grown' ≡ true → IsRound (KeepsReach w) (AddsNone w) old marks' grown' (place + 1)
  added joined size k A marks' marks_is grown' grown_is =
      let known = joined.ends place A.link A.end A.at in
      let near = A.near in
      let within : k < length marks = omega (arith, known, near, size) in
      subst (λ (b : Bool). IsRound (KeepsReach w) (AddsNone w) old marks' b (place + 1)) (sym grown_is)
      (subst (λ (xs : List Bool). IsRound (KeepsReach w) (AddsNone w) old xs true (place + 1)) (sym marks_is)
      (with_mark (KeepsReach w) (AddsNone w) old marks grown place R k (keeps_more w old marks place k within A) within A.fresh))

  passed : AddsNone w marks place → (marks' : List Bool) → marks' ≡ marks → (grown' : Bool) → grown' ≡ grown → IsRound (KeepsReach w) (AddsNone w) old marks' grown' (place + 1)
  passed none marks' marks_is grown' grown_is =
      subst (λ (b : Bool). IsRound (KeepsReach w) (AddsNone w) old marks' b (place + 1)) (sym grown_is)
      (subst (λ (xs : List Bool). IsRound (KeepsReach w) (AddsNone w) old xs grown (place + 1)) (sym marks_is)
      (with_none (KeepsReach w) (AddsNone w) old marks grown place R none))

pub loop-place-init : goal.loop-place-init
loop-place-init g c = begun (KeepsReach c.args.world.now) (AddsNone c.args.world.now) c.args.marks.now c.args.marks.now (KeepsReach-itself c.args.world.now c.args.marks.now)

pub loop-place-preserved : goal.loop-place-preserved
loop-place-preserved g c = elim c.match-added_by.branch [
  | in-Some b ↦ added c.args.world.now c.args.marks.now c.loop-place.marks c.loop-place.grown c.loop-place.place c.loop-place.invariant c.requires.joined (search rules) b.in-Some.router
      (subst (λ (o : Option ℕ). IfSome o (λ k. IsAddedBy c.args.world.now c.loop-place.marks c.loop-place.place k)) b.in-Some.is c.added_by.ensures.some) c.match-added_by.marks (b.marks-is ∙ b.mark.ensures) c.match-added_by.grown b.grown-is
  | in_default b ↦ passed c.args.world.now c.args.marks.now c.loop-place.marks c.loop-place.grown c.loop-place.place c.loop-place.invariant (c.added_by.ensures.none (search rules)) c.match-added_by.marks b.marks-is c.match-added_by.grown b.grown-is
]
