-- MarksTouched, one after another, and that what is current stays so by a step whose link, router and machines are marked.
use Rattle.std.proofs.Common.{refl, sym, ap, subst, ◌∙◌, ◌≡◌, ◌≢◌, ◌⊎◌, inl, inr, ℕ, ◌<◌, ◌≤◌, ◌||◌, Bool, false, true, List, All, length, get_or, set, Option, Some, None, slice_get, vec_len, Ok, Err, Result, arith, OnErr, OnOk, map}
use Rattle.network_model.proofs.Common.{find as row_of, cases_eq, false≢true, none-some, same_Some, slice_get_read, slice_get_within, Prefix, prefix_cmp, Machine, Attachments, Network, Router, World, chosen_rows, next, element_there}
use Rattle.network_model.specs.{declared.step.Step.Step, declared.step.Step.TheVariants.Publish, declared.step.Step.TheVariants.Release}
use Rattle.std.specs.Vec.{with_item}
use Rattle.no_packet_loops.proofs.{Runs.reached, Wiring.wired, WorldLaws.next-shape}
use Rattle.world.specs.{Headline.IsReached, Touched.touched_by}
use Rattle.run_states.specs.{declared.link_book.LinkBook.LinkBook, declared.router_book.RouterBook.RouterBook, declared.shown.MachineShown.MachineShown, declared.recorder.Recorder.Recorder, Recorders.IsCurrent, Recorders.IsRecorderOf, Recorders.IsRouterCurrent}
use Rattle.run_states.specs.Books.{HasPlaces, MachinesMarked, ShowsPlace, link_shows, router_shows}
use Rattle.run_states.specs.Marks.{AreCut, LinkMarked, MarksTouched, RouterMarked, StepMarked, cuts, either_of, touched_link, touched_router, may_touch}
use Rattle.run_states.proofs.Lists.{all_at, all_from, slice_get-set_other, slice_get-set_same, written_alike}
use Rattle.run_states.proofs.Unmet.{Remembers, SameMachine, machine_untouched, remembered, stays, stays_heard}
use Rattle.world.proofs.Untouched.{untouched}

-- ---- recorders

-- a link's mark keeps what a recorder is of
link_of : (link : Option ℕ) (goes_down : Bool) (before after : Recorder) (v : World) → LinkMarked link goes_down before after → IsRecorderOf v before → IsRecorderOf v after
link_of link goes_down before after v marked of = record {
  links = marked.many ∙ of.links;
  routers = ap vec_len marked.routers ∙ of.routers;
  few_links = let few = of.few_links in let many = marked.many in omega (arith, few, many);
  few_routers = let few = of.few_routers in let many = ap vec_len marked.routers in omega (arith, few, many);
  places = subst (λ ps. All (HasPlaces (vec_len ps)) (after.routers).items) (sym marked.prefixes) (subst (λ rs. All (HasPlaces (vec_len before.prefixes)) rs.items) (sym marked.routers) of.places);
}

-- a router's mark
router_of : (router : ℕ) (Spared : Prefix → Type 0) (before after : Recorder) (v : World) → RouterMarked router Spared before after → IsRecorderOf v before → IsRecorderOf v after
router_of router Spared before after v marked of = record {
  links = ap vec_len marked.links ∙ of.links;
  routers = marked.many ∙ of.routers;
  few_links = let few = of.few_links in let many = ap vec_len marked.links in omega (arith, few, many);
  few_routers = let few = of.few_routers in let many = marked.many in omega (arith, few, many);
  places = subst (λ ps. All (HasPlaces (vec_len ps)) (after.routers).items) (sym marked.prefixes) (all_from (HasPlaces (vec_len before.prefixes)) (after.routers).items (λ i b at. placed i b at (cases_eq i router)));
}
  where
    placed : (i : ℕ) (b : RouterBook) → slice_get (after.routers).items i ≡ Some b → (i ≡ router) ⊎ (i ≢ router) → HasPlaces (vec_len before.prefixes) b
    placed i b at (inl e) =
        let old = marked.book b (subst (λ k. slice_get (after.routers).items k ≡ Some b) e at) in
        let was = all_at (HasPlaces (vec_len before.prefixes)) (before.routers).items router old.0 of.places old.1 in
        record { machines = ap vec_len old.2.machines ∙ was.machines; marks = old.2.places ∙ was.marks }
    placed i b at (inr d) = all_at (HasPlaces (vec_len before.prefixes)) (before.routers).items i b of.places (sym (marked.others i d) ∙ at)

-- ---- one mark

-- a recorder with the book of one router written over
abbrev pub with_router : Recorder → ℕ → RouterBook → Recorder
with_router r k new = record { prefixes = r.prefixes; links = r.links; routers = with_item r.routers k new }

-- books of which the same is shown
alike : (one other : RouterBook) → one.shown ≡ other.shown → one.machines ≡ other.machines → router_shows one ≡ router_shows other
alike one other shown machines = rw (shown, machines) refl

-- one that is marked was written over its book
pub router_written : (r : Recorder) (router k : ℕ) (old new : RouterBook) (Spared : Prefix → Type 0) → k ≡ router → k < vec_len r.routers → old ≡ get_or (r.routers).items k old
    → MachinesMarked Spared (r.prefixes).items old new → RouterMarked router Spared r (with_router r k new)
router_written r router k old new Spared is within read marked = subst (λ i. RouterMarked i Spared r (with_router r k new)) is (record {
  prefixes = refl;
  links = refl;
  shows = written_alike router_shows books k old new (slice_get_read books (length books) k old refl room read) (alike new old marked.shown marked.machines);
  many = refl;
  others = λ i d. slice_get-set_other books k i new d;
  book = λ b at. (old, slice_get_read books (length books) k old refl room read, subst (MachinesMarked Spared (r.prefixes).items old) (same_Some new b (sym (slice_get-set_same books k new room) ∙ at)) marked);
})
  where
    books : List RouterBook
    books = (r.routers).items

    room : k < length books
    room = let ok = (r.routers).ok in omega (arith, within, ok)

-- a recorder with the book of one link written over
abbrev pub with_link : Recorder → ℕ → LinkBook → Recorder
with_link r k new = record { prefixes = r.prefixes; links = with_item r.links k new; routers = r.routers }

-- one that is marked was written over its book
pub link_written : (r : Recorder) (link k : ℕ) (goes_down : Bool) (old new : LinkBook) → k ≡ link → k < vec_len r.links → old ≡ get_or (r.links).items k old
    → link_shows new ≡ link_shows old → new.is_marked ≡ true → new.is_cut ≡ (old.is_cut || goes_down) → LinkMarked (Some link) goes_down r (with_link r k new)
link_written r link k goes_down old new is within read same marked cut = subst (λ i. LinkMarked (Some i) goes_down r (with_link r k new)) is (record {
  prefixes = refl;
  routers = refl;
  shows = written_alike link_shows books k old new before same;
  many = refl;
  books = λ l b at unmarked. by_number l b at unmarked (cases_eq l k);
  cut = record {
    this = λ l was now here old_at new_at.
        let l_is = same_Some k l here in
        let was_is : old ≡ was = same_Some old was (sym before ∙ ap (slice_get books) l_is ∙ old_at) in
        let now_is : new ≡ now = same_Some new now (sym (slice_get-set_same books k new room) ∙ ap (slice_get (set books k new)) l_is ∙ new_at) in
        ap (λ (x : LinkBook). x.is_cut) (sym now_is) ∙ cut ∙ ap (λ (x : LinkBook). x.is_cut || goes_down) was_is;
    others = λ l was now apart old_at new_at.
        ap (λ (x : LinkBook). x.is_cut) (same_Some now was (sym new_at ∙ slice_get-set_other books k l new (λ e. apart (ap Some (sym e))) ∙ old_at));
  };
})
  where
    books : List LinkBook
    books = (r.links).items

    room : k < length books
    room = let ok = (r.links).ok in omega (arith, within, ok)

    before : slice_get books k ≡ Some old
    before = slice_get_read books (length books) k old refl room read

    by_number : (l : ℕ) (b : LinkBook) → slice_get (set books k new) l ≡ Some b → b.is_marked ≡ false → (l ≡ k) ⊎ (l ≢ k) → (slice_get books l ≡ Some b) × (Some k ≢ Some l)
    by_number l b at unmarked (inl e) =
        let here : new ≡ b = same_Some new b (sym (slice_get-set_same books k new room) ∙ subst (λ i. slice_get (set books k new) i ≡ Some b) e at) in
        absurd (false≢true (sym unmarked ∙ ap (λ (x : LinkBook). x.is_marked) (sym here) ∙ marked))
    by_number l b at unmarked (inr d) = (sym (slice_get-set_other books k l new d) ∙ at, λ e. d (sym (same_Some k l e)))

-- a book that stays keeps its flag
flag_stays : (books : List LinkBook) (l : ℕ) (old new : LinkBook) → slice_get books l ≡ Some old → slice_get books l ≡ Some new → new.is_cut ≡ old.is_cut
flag_stays books l old new was now = ap (λ (x : LinkBook). x.is_cut) (same_Some new old (sym now ∙ was))

-- a recorder that has no such link
pub link_missing : (r : Recorder) (link : ℕ) (goes_down : Bool) → length (r.links).items ≤ link → LinkMarked (Some link) goes_down r r
link_missing r link goes_down past = record {
  prefixes = refl;
  routers = refl;
  shows = refl;
  many = refl;
  books = λ l b at unmarked. (at, λ e. let within = slice_get_within (r.links).items l b at in let is = same_Some link l e in absurd (omega (arith, past, within, is)));
  cut = record {
    this = λ l old new e was now. let within = slice_get_within (r.links).items l old was in let is = same_Some link l e in absurd (omega (arith, past, within, is));
    others = λ l old new apart was now. flag_stays (r.links).items l old new was now;
  };
}

-- a recorder that has no such router
pub no_router : (r : Recorder) (router : ℕ) (Spared : Prefix → Type 0) → length (r.routers).items ≤ router → RouterMarked router Spared r r
no_router r router Spared past = record { prefixes = refl; links = refl; shows = refl; many = refl; others = λ i d. refl; book = λ b at. let within = slice_get_within (r.routers).items router b at in absurd (omega (arith, past, within)) }

-- ---- one after another

-- two marks of a router
pub marked_twice : (router : ℕ) (One Other Both : Prefix → Type 0) (before mid after : Recorder) → RouterMarked router One before mid → RouterMarked router Other mid after
    → ((p : Prefix) → One p → Other p → Both p) → RouterMarked router Both before after
marked_twice router One Other Both before mid after first second both = record {
  prefixes = second.prefixes ∙ first.prefixes;
  links = second.links ∙ first.links;
  shows = second.shows ∙ first.shows;
  many = second.many ∙ first.many;
  others = λ i d. second.others i d ∙ first.others i d;
  book = λ b at.
      let between = second.book b at in
      let old = first.book between.0 between.1 in (
        old.0,
        old.1,
        record {
          shown = between.2.shown ∙ old.2.shown;
          machines = between.2.machines ∙ old.2.machines;
          places = between.2.places ∙ old.2.places;
          is_marked = between.2.is_marked;
          spared = λ j p there unmarked.
              let now = between.2.spared j p (subst (λ ps. slice_get ps.items j ≡ Some p) (sym first.prefixes) there) unmarked in
              let was = old.2.spared j p there now.0 in
              (was.0, both p was.1 now.1);
        },
      );
}

-- of prefixes that are spared this is so, too
pub spares_also : (router : ℕ) (One Other : Prefix → Type 0) (before after : Recorder) → ((p : Prefix) → One p → Other p) → RouterMarked router One before after → RouterMarked router Other before after
spares_also router One Other before after also marked = record {
  prefixes = marked.prefixes;
  links = marked.links;
  shows = marked.shows;
  many = marked.many;
  others = marked.others;
  book = λ b at.
      let old = marked.book b at in
      (old.0, old.1, record { shown = old.2.shown; machines = old.2.machines; places = old.2.places; is_marked = old.2.is_marked; spared = λ j p there unmarked. let was = old.2.spared j p there unmarked in (was.0, also p was.1) });
}

pub no_link : (r : Recorder) (goes_down : Bool) → LinkMarked None goes_down r r
no_link r goes_down = record {
  prefixes = refl;
  routers = refl;
  shows = refl;
  many = refl;
  books = λ l b at unmarked. (at, λ e. none-some l e);
  cut = record { this = λ l old new e was now. absurd (none-some l e); others = λ l old new apart was now. flag_stays (r.links).items l old new was now };
}

link_marks : (w : World) (s : Step) (before after : Recorder) → touched_router w s ≡ None → LinkMarked (touched_link w s) (cuts s) before after → MarksTouched w s before after
link_marks w s before after none marked = record {
  prefixes = marked.prefixes;
  shows = record { prefixes = marked.prefixes; links = marked.shows; routers = ap (λ rs. map router_shows rs.items) marked.routers };
  links = marked.books;
  cut = marked.cut;
  others = λ i d. ap (λ rs. slice_get rs.items i) marked.routers;
  book = λ i b is at. absurd (none-some i (sym none ∙ is));
  of = λ v of. link_of (touched_link w s) (cuts s) before after v marked of;
}

-- a step that touches a router, and a link or none
router_marks : (w : World) (s : Step) (router : ℕ) (Spared : Prefix → Type 0) (before mid after : Recorder) → touched_router w s ≡ Some router → ((p : Prefix) → Spared p → may_touch w s p ≡ false)
    → RouterMarked router Spared before mid → LinkMarked (touched_link w s) (cuts s) mid after → MarksTouched w s before after
router_marks w s router Spared before mid after is spares routers links = record {
  prefixes = links.prefixes ∙ routers.prefixes;
  shows = record {
    prefixes = links.prefixes ∙ routers.prefixes;
    links = links.shows ∙ ap (λ ls. map link_shows ls.items) routers.links;
    routers = ap (λ rs. map router_shows rs.items) links.routers ∙ routers.shows;
  };
  links = λ l b at unmarked. let was = links.books l b at unmarked in (ap (λ ls. slice_get ls.items l) (sym routers.links) ∙ was.0, was.1);
  cut = subst (λ ls. AreCut (touched_link w s) (cuts s) ls.items (after.links).items) routers.links links.cut;
  others = λ i d. ap (λ rs. slice_get rs.items i) links.routers ∙ routers.others i (λ e. d (is ∙ ap Some (sym e)));
  book = λ i b touched at.
      let here : router ≡ i = same_Some router i (sym is ∙ touched) in
      subst (λ k. (old : RouterBook) × (slice_get (before.routers).items k ≡ Some old) × MachinesMarked (λ p. may_touch w s p ≡ false) (before.prefixes).items old b) here
      (let old = routers.book b (subst (λ rs. slice_get rs.items router ≡ Some b) links.routers (subst (λ k. slice_get (after.routers).items k ≡ Some b) (sym here) at)) in
      (old.0, old.1, record { shown = old.2.shown; machines = old.2.machines; places = old.2.places; is_marked = old.2.is_marked; spared = λ j p there unmarked. let was = old.2.spared j p there unmarked in (was.0, spares p was.1) }));
  of = λ v of. link_of (touched_link w s) (cuts s) mid after v links (router_of router Spared before mid v routers of);
}

-- of a step that touches a router
pub one_marked : (w : World) (s : Step) (router : ℕ) (before after : Recorder) → touched_router w s ≡ Some router → RouterMarked router (λ p. may_touch w s p ≡ false) before after → StepMarked w s before after
one_marked w s router before after is marked = record {
  none = λ none. absurd (none-some router (sym none ∙ is));
  one = λ i touched. subst (λ k. RouterMarked k (λ p. may_touch w s p ≡ false) before after) (same_Some router i (sym is ∙ touched)) marked;
}

-- the router of a step is marked, and then its link
pub step_marks : (w : World) (s : Step) (before mid after : Recorder) → StepMarked w s before mid → LinkMarked (touched_link w s) (cuts s) mid after → MarksTouched w s before after
step_marks w s before mid after routers links = by_router (touched_router w s) refl
  where
    by_router : (o : Option ℕ) → touched_router w s ≡ o → MarksTouched w s before after
    by_router None is = subst (λ r. MarksTouched w s r after) (routers.none is) (link_marks w s mid after is links)
    by_router (Some i) is = router_marks w s i (λ p. may_touch w s p ≡ false) before mid after is (λ p so. so) (routers.one i is) links

-- ---- what is current

-- what shows a machine shows it of a router that has the same
shows_moved : (x y : Router) (p : Prefix) (m : Machine) (j : ℕ) (shown : List (Option MachineShown)) → row_of prefix_cmp p y.machines ≡ Some m → SameMachine p x y → ShowsPlace x p j shown → ShowsPlace y p j shown
shows_moved x y p m j shown at same place =
    let now = same m at in
    let s = place.2 in
    let is : s.machine.machine ≡ m = same_Some s.machine.machine m (sym s.is_machine ∙ now.0) in (
      place.0,
      place.1,
      record {
        machine = s.machine;
        is_machine = at ∙ ap Some (sym is);
        at = s.at;
        awaits = s.awaits;
        chosen = s.chosen ∙ sym now.1;
        published = s.published ∙ sym now.2;
      },
    )

touched_or_not : (o : Option ℕ) (i : ℕ) → (o ≡ Some i) ⊎ (o ≢ Some i)
touched_or_not None i = inr (λ e. none-some i e)
touched_or_not (Some k) i = by_number (cases_eq k i)
  where
    by_number : (k ≡ i) ⊎ (k ≢ i) → (Some k ≡ Some i) ⊎ (Some k ≢ Some i)
    by_number (inl e) = inl (ap Some e)
    by_number (inr d) = inr (λ e. d (same_Some k i e))

-- a step that does not touch a router does not touch its attachments either
spares_attachments : (w : World) (s : Step) (i : ℕ) → touched_router w s ≢ Some i → (touched_by s w).attachments ≢ Some i
spares_attachments w (Publish k) i apart = none-some i
spares_attachments w (Release k) i apart = none-some i
spares_attachments w _ i apart = apart

-- nor does it touch the router itself
spares_router : (r o : Option ℕ) (i : ℕ) → either_of r o ≢ Some i → r ≢ Some i
spares_router (Some k) o i apart = apart
spares_router None o i apart = none-some i

-- a step leaves each router that it does not touch, with its attachments
router_untouched : (w : World) (s : Step) (i : ℕ) → touched_router w s ≢ Some i → (slice_get (next w s).routers i ≡ slice_get w.routers i) × (slice_get (next w s).attachments i ≡ slice_get w.attachments i)
router_untouched w s i apart = (
  (untouched w s).routers i (spares_router (touched_by s w).router (touched_by s w).attachments i apart),
  (untouched w s).attachments i (spares_attachments w s i apart),
)

-- a world that became another by a step, or stayed as it was
pub record IsLedTo (w : World) (s : Step) (v : World) : Type 0 where
  pub routers_len : length v.routers ≡ length w.routers
  pub attachments_len : length v.attachments ≡ length w.attachments
  pub links : (l : ℕ) → touched_link w s ≢ Some l → slice_get v.links l ≡ slice_get w.links l
  pub routers : (i : ℕ) → touched_router w s ≢ Some i → (slice_get v.routers i ≡ slice_get w.routers i) × (slice_get v.attachments i ≡ slice_get w.attachments i)
  pub machines : (i : ℕ) (x y : Router) (p : Prefix) → touched_router w s ≡ Some i → slice_get w.routers i ≡ Some x → slice_get v.routers i ≡ Some y → may_touch w s p ≡ false → SameMachine p x y
  pub heard : (i : ℕ) (x y : Router) (p : Prefix) → touched_router w s ≡ Some i → slice_get w.routers i ≡ Some x → slice_get v.routers i ≡ Some y → Remembers p x y

pub led_to_next : (n : Network) (w : World) (s : Step) → IsReached n w → IsLedTo w s (next w s)
led_to_next n w s r =
    let shape = next-shape w s in
    record {
      routers_len = shape.routers;
      attachments_len = shape.attachments;
      links = (untouched w s).links;
      routers = router_untouched w s;
      machines = λ i x y p is at there apart. machine_untouched w i x y p at (chosen i x p at) s is there apart;
      heard = λ i x y p is at there. remembered w i x y p at (chosen i x p at) s is there;
    }
  where
    chosen : (i : ℕ) (x : Router) (p : Prefix) → slice_get w.routers i ≡ Some x → (x.table).control ≡ chosen_rows x.ports x.machines
    chosen i x p at = ((reached n (wired n r.valid) p r.steps w r.runs).kept.routers_kept i x at).control_is

pub led_nowhere : (w : World) (s : Step) → IsLedTo w s w
led_nowhere w s = record {
  routers_len = refl;
  attachments_len = refl;
  links = λ l d. refl;
  routers = λ i d. (refl, refl);
  machines = λ i x y p is at there apart. stays p x y (same_Some x y (sym at ∙ there));
  heard = λ i x y p is at there. stays_heard p x y (same_Some x y (sym at ∙ there));
}

-- what is current stays so, where what the step may change is marked
pub current_after : (w : World) (s : Step) (v : World) (before after : Recorder) → IsLedTo w s v → IsRecorderOf w before → MarksTouched w s before after → IsCurrent w before → IsCurrent v after
current_after w s v before after led of marks current = record {
  links = λ l k b at book unmarked.
      let kept = marks.links l b book unmarked in
      current.links l k b (sym (led.links l kept.1) ∙ at) kept.0 unmarked;
  routers = λ i y a b at has book.
      subst (λ (ps : List Prefix). IsRouterCurrent ps y (length a.notices) b) (sym (ap (λ ps. ps.items) marks.prefixes)) (by_touch i y a b at has book (touched_or_not (touched_router w s) i));
}
  where
    by_touch : (i : ℕ) (y : Router) (a : Attachments) (b : RouterBook) → slice_get v.routers i ≡ Some y → slice_get v.attachments i ≡ Some a → slice_get (after.routers).items i ≡ Some b
        → (touched_router w s ≡ Some i) ⊎ (touched_router w s ≢ Some i) → IsRouterCurrent (before.prefixes).items y (length a.notices) b
    by_touch i y a b at has book (inr d) =
        let same = led.routers i d in
        current.routers i y a b (sym same.0 ∙ at) (sym same.1 ∙ has) (sym (marks.others i d) ∙ book)
    by_touch i y a b at has book (inl is) =
        let old = marks.book i b is book in
        let was_router = element_there w.routers i (let within = slice_get_within v.routers i y at in let many = led.routers_len in omega (arith, within, many)) in
        let was_attachments = element_there w.attachments i (let within = slice_get_within v.attachments i a has in let many = led.attachments_len in omega (arith, within, many)) in
        let was = current.routers i was_router.0 was_attachments.0 old.0 was_router.1 was_attachments.1 old.1 in
        record {
          router = λ unmarked. absurd (false≢true (sym unmarked ∙ old.2.is_marked));
          machines = record {
            heard = λ j p m there heard unmarked.
                let before_that = old.2.spared j p there unmarked in
                let same = led.machines i was_router.0 y p is was_router.1 at before_that.1 in
                subst (λ ms. ShowsPlace y p j ms.items) (sym old.2.machines)
                (shows_moved was_router.0 y p m j ((old.0).machines).items heard same ((was.machines).heard j p m there (same m heard).0 before_that.0));
            unheard = λ j p there none.
                subst (λ ms. slice_get ms.items j ≡ Some None) (sym old.2.machines)
                ((was.machines).unheard j p there (led.heard i was_router.0 y p is was_router.1 at none));
          };
        }

-- what is so of both ends of a result
pub by_result : {X E : Type 0} (r : Result X E) {A B C : Type 0} → OnOk r A → OnErr r B → (A → C) → (B → C) → C
by_result (Ok x) ok err f g = f ok
by_result (Err e) ok err f g = g err
