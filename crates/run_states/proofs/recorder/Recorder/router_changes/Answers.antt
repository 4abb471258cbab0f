use Rattle.std.proofs.Common.{◌≡◌, ◌<◌, ◌+◌, ℕ, Some, List, All, length, refl, ap, sym, subst, ◌∙◌, set, slice_get, option_map, vec_len, arith}
use Rattle.std.proofs.{lemmas.List.Elements.All-set, lemmas.Option.same_Some, lemmas.Option.slice_get_read}
use Rattle.ipv4_prefix.specs.Prefix.{Prefix}
use Rattle.network_model.specs.World.{Attachments, Router}
use Rattle.run_states.specs.{declared.router_book.RouterBook.RouterBook, Recorders.RoutersFollow}
use Rattle.run_states.specs.Books.{HasPlaces, RouterFollows, ShowsRouter, ShowsUnmarked}
use Rattle.run_states.proofs.Followed.{AreShownBelow, follow_last, shown_all, shown_next, shown_still}
use Rattle.run_states.proofs.Lists.{made_of, slice_get-set_other, written_same}
use Rattle.run_states.proofs.recorder.Recorder.router_changes.Goals as goal
use Rattle.run_states.proofs.recorder.Recorder.router_changes.Goals.{then-book+in_ok-change+in_ok-push, else-book}

pub loop-number-init : goal.loop-number-init
loop-number-init c =
    let first = (c.args.self.now.routers).items in
    record {
      follows = subst (λ cs. RoutersFollow cs first first) (sym c.new-changes.ensures.items) refl;
      shown = record { current = λ j b at unmarked x a there has. (c.requires.current j x a b there has at).router unmarked; below = λ j b less at. absurd (omega arith) };
      links = refl;
      prefixes = refl;
      many = refl;
      places = c.requires.of.places;
      rest = λ j past. refl;
    }

pub change-requires-clause-current : goal.change-requires-clause-current
change-requires-clause-current c =
    let n = c.loop-number.number in
    let books = (c.loop-number.self.routers).items in
    let old = c.index_mut-book.result.now in
    let there : slice_get books n ≡ Some old = slice_get_read books (length books) n old refl (omega (arith, (c.loop-number.self.routers).ok)) c.index_mut-book.ensures.value in
    let attachments = made_of (λ (y : Attachments). length y.notices) (slice_get (c.args.world.now).attachments n) c.notices-notices.result c.notices-notices.ensures in
    subst (λ ps. ShowsUnmarked c.router-router.result.now ps (old.marks).items (old.machines).items) (sym (c.deref.ensures.value ∙ ap (λ v. v.items) c.loop-number.invariant.prefixes))
    (c.requires.current n c.router-router.result.now attachments.0 old c.router-router.ensures attachments.1 (sym (c.loop-number.invariant.rest n (omega arith)) ∙ there)).machines

pub loop-number-preserved : goal.loop-number-preserved
loop-number-preserved c =
    let n = c.loop-number.number in
    let books = (c.loop-number.self.routers).items in
    let first = (c.args.self.now.routers).items in
    let old = c.index_mut-book.result.now in
    let within : n < length books = omega (arith, (c.loop-number.self.routers).ok) in
    let there : slice_get books n ≡ Some old = slice_get_read books (length books) n old refl within c.index_mut-book.ensures.value in
    let marked = λ (b : RouterBook). b.is_marked in
    let shows = λ (j : ℕ) (b : RouterBook). (x : Router) (a : Attachments) → slice_get (c.args.world.now).routers j ≡ Some x → slice_get (c.args.world.now).attachments j ≡ Some a
    → ShowsRouter (c.args.self.now.prefixes).items x (length a.notices) b in
    let placed = HasPlaces (vec_len c.args.self.now.prefixes) in
    elim c.if-book.branch [
      | then-book+in_ok-change+in_ok-push w ↦
          let new = w.change.new.self in
          let now : (c.if-book.self.routers).items ≡ set books n new = ap (λ r. (r.routers).items) w.self-is in
          record {
            follows = subst (λ bs. RoutersFollow (c.if-book.changes).items first bs) (sym now)
                (subst (λ cs. RoutersFollow cs first (set books n new)) (sym (ap (λ v. v.items) w.changes-is ∙ w.in_ok-push.ensures.items))
                (follow_last RouterFollows (c.loop-number.changes).items n w.in_ok-change.change first books old new c.loop-number.invariant.follows there w.in_ok-change.ensures.follows));
            shown = subst (AreShownBelow marked shows (n + 1)) (sym now)
                (shown_next marked shows n books new within
                (λ x a at has.
                let router = same_Some w.router-router.result.now x (sym w.router-router.ensures ∙ at) in
                let notices = same_Some w.notices-notices.result (length a.notices) (sym w.notices-notices.ensures ∙ ap (option_map (λ (y : Attachments). length y.notices)) has) in
                subst (λ (ps : List Prefix). ShowsRouter ps x (length a.notices) new) (w.deref.ensures.value ∙ ap (λ v. v.items) c.loop-number.invariant.prefixes)
                (subst (λ y. ShowsRouter w.deref.result.now y (length a.notices) new) router
                (subst (λ k. ShowsRouter w.deref.result.now w.router-router.result.now k new) notices w.in_ok-change.ensures.shows)))
                c.loop-number.invariant.shown);
            links = ap (λ r. r.links) w.self-is ∙ c.loop-number.invariant.links;
            prefixes = ap (λ r. r.prefixes) w.self-is ∙ c.loop-number.invariant.prefixes;
            many = ap (λ r. (r.routers).len) w.self-is ∙ c.loop-number.invariant.many;
            places = subst (All placed) (sym now)
                (All-set placed books n new
                (subst (λ k. HasPlaces k new) (ap length w.deref.ensures.value ∙ sym (c.loop-number.self.prefixes).ok.0 ∙ ap (λ v. v.len) c.loop-number.invariant.prefixes) w.in_ok-change.ensures.places)
                c.loop-number.invariant.places);
            rest = λ j past. ap (λ bs. slice_get bs j) now ∙ slice_get-set_other books n j new (λ e. absurd (omega (arith, past, e))) ∙ c.loop-number.invariant.rest j (omega (arith, past));
          }
      | else-book w ↦
          let now : (c.if-book.self.routers).items ≡ books = ap (λ r. (r.routers).items) w.self-is ∙ written_same books n old c.index_mut-book.ensures.value in
          record {
            follows = subst (λ bs. RoutersFollow (c.if-book.changes).items first bs) (sym now)
                (subst (λ v. RoutersFollow v.items first books) (sym w.changes-is) c.loop-number.invariant.follows);
            shown = subst (AreShownBelow marked shows (n + 1)) (sym now) (shown_still marked shows n books old there w.if-book.false c.loop-number.invariant.shown);
            links = ap (λ r. r.links) w.self-is ∙ c.loop-number.invariant.links;
            prefixes = ap (λ r. r.prefixes) w.self-is ∙ c.loop-number.invariant.prefixes;
            many = ap (λ r. (r.routers).len) w.self-is ∙ c.loop-number.invariant.many;
            places = subst (All placed) (sym now) c.loop-number.invariant.places;
            rest = λ j past. ap (λ bs. slice_get bs j) now ∙ c.loop-number.invariant.rest j (omega (arith, past));
          }
    ]

pub returns-clause-shows : goal.returns-clause-shows
returns-clause-shows c = λ i x a b at has book.
    let books = (c.loop-number.self.routers).items in
    let marked = λ (b : RouterBook). b.is_marked in
    let shows = λ (j : ℕ) (b : RouterBook). (x : Router) (a : Attachments) → slice_get (c.args.world.now).routers j ≡ Some x → slice_get (c.args.world.now).attachments j ≡ Some a
    → ShowsRouter (c.args.self.now.prefixes).items x (length a.notices) b in
    subst (λ v. ShowsRouter v.items x (length a.notices) b) (sym c.loop-number.invariant.prefixes)
    (shown_all marked shows c.loop-number.number books (omega (arith, (c.loop-number.self.routers).ok)) c.loop-number.invariant.shown i b book x a at has)
