-- A view among others that becomes later.
use Rattle.std.proofs.Common.{inl, inr, sym, subst, ◌∙◌, length-set, ◌≡◌, ◌⊎◌, ◌<◌, ℕ, List, set, Some, length, get_or, slice_get}
use Rattle.std.proofs.lemmas.Option.{slice_get-get_or, slice_get_within}
use Rattle.network_model.proofs.ListLaws.{Some_injective}
use Rattle.publication.specs.{declared.known.Known.Known, Lists.Begins}
use Rattle.publication.proofs.{Beginnings.begins_self, Beginnings.begins_trans, Places.at_set}
use Rattle.forwarder.specs.Ports.{AreLater}

pub later_set : (views : List Known) (i : ℕ) (v w : Known) → slice_get views i ≡ Some v → Begins v w → AreLater views (set views i w)
later_set views i v w here begins = (length-set views i w, λ k x y before after. by_place k x y before (at_set views i k w y after))
  where
    by_place : (k : ℕ) (x y : Known) → slice_get views k ≡ Some x → ((k ≡ i) × (y ≡ w)) ⊎ (slice_get views k ≡ Some y) → Begins x y
    by_place k x y before (inl at) = let one : x ≡ v = Some_injective (sym before ∙ subst (λ m. slice_get views m ≡ Some v) (sym at.0) here) in
        subst (Begins x) (sym at.1) (subst (λ z. Begins z w) (sym one) begins)
    by_place k x y before (inr there) = subst (Begins x) (Some_injective (sym before ∙ there)) (begins_self x)

pub later_trans : (before between after : List Known) → AreLater before between → AreLater between after → AreLater before after
later_trans before between after one two = (
  two.0 ∙ one.0,
  λ i v w first last.
      let less : i < length between = subst (λ n. i < n) (sym one.0) (slice_get_within before i v first) in
      let at = slice_get-get_or between i v less in
      begins_trans v (get_or between i v) w (one.1 i v (get_or between i v) first at) (two.1 i (get_or between i v) w at last),
)
