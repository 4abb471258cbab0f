-- What is marked over links is what they reach.
use Rattle.std.proofs.Common.{refl, sym, ap, subst, ◌∙◌, inl, inr, zero-add, arith, ◌≡◌, ◌⊎◌, ℕ, ◌+◌, ◌<◌, ◌≤◌, Bool, true, false, List, [], ◌∷◌, length, Option, Some, None, is_some, option_and_then, set}
use Rattle.std.proofs.{lemmas.Bool.cases_lt, lemmas.Bool.false≢true, lemmas.List.get_or_past, lemmas.Option.slice_get_past, lemmas.Option.slice_get_within}
use Rattle.std.specs.FinMap.{find as row_of}
use Rattle.ipv4_prefix.specs.Prefix.{Prefix, prefix_cmp}
use Rattle.network_model.specs.{declared.network.Place.Place, Forwarding.IsWalk, Forwarding.walk_cost}
use Rattle.network_model.specs.World.{Attachments, World, other, side, attachment_at}
use Rattle.reachability.specs.{Ways.IsJoined, Ways.Reaches, Marks.is_in}
use Rattle.reachability.specs.Rounds.{AllAttached, IsAddedBy, IsClosed, KeepsReach, OnlyReached}
use Rattle.reachability.proofs.Marking.{holds_more, kept_by_mark}

module _ (w : World) (p : Prefix) (marks : List Bool) where
  -- a router that a link adds reaches the prefix over it
  reaches_over : (l k : ℕ) → IsAddedBy w marks l k → OnlyReached w p marks → Reaches w p k
  reaches_over l k A only =
      let R = only (side (other A.end) A.link).router A.across in
      let x : Place = record { link = l; end = A.end } in
      record {
        home = R.home;
        walk = x ∷ R.walk;
        cost = walk_cost w (x ∷ R.walk) + (R.reaches).attachment;
        reaches = record { walk = (A.link, A.at, A.up, A.near, (R.reaches).walk); attachment = (R.reaches).attachment; attached = (R.reaches).attached; cost_is = refl };
      }

  only_more : (l k : ℕ) → IsAddedBy w marks l k → OnlyReached w p marks → OnlyReached w p (set marks k true)
  only_more l k A only = holds_more (Reaches w p) marks k (reaches_over l k A only) only

  -- where no link adds any, every router that reaches the prefix is marked
  pub all_reached : IsClosed w marks → AllAttached w p marks → (i : ℕ) → Reaches w p i → is_in marks i ≡ true
  all_reached closed attached i R = by_walk i R.walk (R.reaches).walk
    where
      by_walk : (j : ℕ) (xs : List Place) → IsWalk w j xs R.home → is_in marks j ≡ true
      by_walk j [] here = subst (λ (k : ℕ). is_in marks k ≡ true) (sym here) (attached R.home (R.reaches).attachment (R.reaches).attached)
      by_walk j (x ∷ xs) (l, at, up, near, rest) =
          subst (λ (k : ℕ). is_in marks k ≡ true) near (closed x.link (slice_get_within w.links x.link l at) l x.end at up (by_walk (side (other x.end) l).router xs rest))

  -- a router that is attached reaches the prefix
  reached_at_home : (i : ℕ) (o : Option ℕ) → attachment_at w i p ≡ o → is_some o ≡ true → Reaches w p i
  reached_at_home i None attached is = absurd (false≢true is)
  reached_at_home i (Some cost) attached is = record { home = i; walk = []; cost = cost; reaches = record { walk = refl; attachment = cost; attached = attached; cost_is = zero-add cost } }

  -- no router past the marks is attached
  pub none_past : IsJoined w → length marks ≡ length w.routers → ((k : ℕ) → k < length marks → is_in marks k ≡ is_some (attachment_at w k p)) → (i : ℕ) → is_in marks i ≡ is_some (attachment_at w i p)
  none_past joined size are i = by_order (cases_lt i (length marks))
    where
      by_order : (i < length marks) ⊎ (length marks ≤ i) → is_in marks i ≡ is_some (attachment_at w i p)
      by_order (inl below) = are i below
      by_order (inr past) =
          let as_many = joined.attachments in
          let beyond : length w.attachments ≤ i = omega (arith, past, size, as_many) in
          get_or_past marks i false past ∙ sym (ap (λ (o : Option Attachments). is_some (option_and_then (λ a. row_of prefix_cmp p a.costs) o)) (slice_get_past w.attachments i beyond))

  -- so marks of the routers that are attached are a beginning
  pub only_attached : ((i : ℕ) → is_in marks i ≡ is_some (attachment_at w i p)) → OnlyReached w p marks
  only_attached are i is = reached_at_home i (attachment_at w i p) refl (sym (are i) ∙ is)

  pub all_attached : ((i : ℕ) → is_in marks i ≡ is_some (attachment_at w i p)) → AllAttached w p marks
  all_attached are i cost attached = are i ∙ ap is_some attached

-- marks keep what they say of themselves
pub KeepsReach-itself : (w : World) (marks : List Bool) → KeepsReach w marks marks
KeepsReach-itself w marks = record { only = λ p only. only; kept = λ i is. is }

-- and so with a router more that a link adds
pub keeps_more : (w : World) (old marks : List Bool) (l k : ℕ) → k < length marks → IsAddedBy w marks l k → KeepsReach w old marks → KeepsReach w old (set marks k true)
keeps_more w old marks l k within A K = record {
  only = λ p only. only_more w p marks l k A (K.only p only);
  kept = λ i is. kept_by_mark marks k within i (K.kept i is);
}

-- routers that are attached stay marked
pub attached_kept : (w : World) (p : Prefix) (old new : List Bool) → KeepsReach w old new → AllAttached w p old → AllAttached w p new
attached_kept w p old new K all i cost attached = K.kept i (all i cost attached)
