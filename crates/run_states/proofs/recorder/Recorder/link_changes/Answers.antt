use Rattle.std.proofs.Common.{◌≡◌, ◌<◌, ◌+◌, ℕ, Some, length, refl, ap, sym, subst, ◌∙◌, set, slice_get, arith}
use Rattle.std.specs.Bool.{⊤}
use Rattle.std.proofs.lemmas.Option.{MatchOption-at_some, slice_get_read}
use Rattle.network_model.specs.World.{Link}
use Rattle.run_states.specs.{declared.link_book.LinkBook.LinkBook, Books.LinkFollows, Books.ShowsLink, Recorders.LinksFollow}
use Rattle.run_states.proofs.Followed.{AreShownBelow, follow_last, shown_next, shown_still}
use Rattle.run_states.proofs.Lists.{written_same}
use Rattle.run_states.proofs.recorder.Recorder.link_changes.Goals as goal
use Rattle.run_states.proofs.recorder.Recorder.link_changes.Goals.{then-book+in_ok-change+in_ok-push, else-book}

pub loop-number-preserved : goal.loop-number-preserved
loop-number-preserved c =
    let n = c.loop-number.number in
    let books = (c.loop-number.self.links).items in
    let first = (c.args.self.now.links).items in
    let old = c.index_mut-book.result.now in
    let within : n < length books = omega (arith, (c.loop-number.self.links).ok) in
    let there : slice_get books n ≡ Some old = slice_get_read books (length books) n old refl within c.index_mut-book.ensures.value in
    let marked = λ (b : LinkBook). b.is_marked in
    let shows = λ (j : ℕ) (b : LinkBook). (k : Link) → slice_get (c.args.world.now).links j ≡ Some k → ShowsLink k b in
    elim c.if-book.branch [
      | then-book+in_ok-change+in_ok-push w ↦
          let new = w.change.new.self in
          let now : (c.if-book.self.links).items ≡ set books n new = ap (λ r. (r.links).items) w.self-is in
          record {
            follows = subst (λ bs. LinksFollow (c.if-book.changes).items first bs) (sym now)
                (subst (λ cs. LinksFollow cs first (set books n new)) (sym (ap (λ v. v.items) w.changes-is ∙ w.in_ok-push.ensures.items))
                (follow_last LinkFollows (c.loop-number.changes).items n w.in_ok-change.change first books old new c.loop-number.invariant.follows there w.in_ok-change.ensures.follows));
            shown = subst (AreShownBelow marked shows (n + 1)) (sym now)
                (shown_next marked shows n books new within
                (λ k at. MatchOption-at_some ⊤ _ k (ap (λ ls. slice_get ls n) w.links.ensures ∙ at) w.in_ok-change.ensures.shows) c.loop-number.invariant.shown);
            routers = ap (λ r. r.routers) w.self-is ∙ c.loop-number.invariant.routers;
            prefixes = ap (λ r. r.prefixes) w.self-is ∙ c.loop-number.invariant.prefixes;
            many = ap (λ r. (r.links).len) w.self-is ∙ c.loop-number.invariant.many;
          }
      | else-book w ↦
          let now : (c.if-book.self.links).items ≡ books = ap (λ r. (r.links).items) w.self-is ∙ written_same books n old c.index_mut-book.ensures.value in
          record {
            follows = subst (λ bs. LinksFollow (c.if-book.changes).items first bs) (sym now)
                (subst (λ v. LinksFollow v.items first books) (sym w.changes-is) c.loop-number.invariant.follows);
            shown = subst (AreShownBelow marked shows (n + 1)) (sym now) (shown_still marked shows n books old there w.if-book.false c.loop-number.invariant.shown);
            routers = ap (λ r. r.routers) w.self-is ∙ c.loop-number.invariant.routers;
            prefixes = ap (λ r. r.prefixes) w.self-is ∙ c.loop-number.invariant.prefixes;
            many = ap (λ r. (r.links).len) w.self-is ∙ c.loop-number.invariant.many;
          }
    ]
