-- What a fabric under a lock can have become: nothing at first, then step after step; and what the sum of its journal tells.
use Rattle.std.proofs.Common.{inl, inr, refl, sym, ap, subst, ◌∙◌, ◌≡◌, ◌≢◌, ◌⊎◌, ℕ, ◌+◌, ◌≤◌, Bool, true, false, not, find, map, if◌then◌else◌, List, [], ◌∷◌, ◌++◌, Option, Some, None, nat_lt, ltb-false, is_none, is_some, length, slice_get, option_and_then, Result, Ok, Err, append_assoc, append-nil}
use Rattle.network_model.proofs.Common.{option_map_or, false≢true, most_steps, first_cause, is_lawful, next_step, Lawful_to_refusal, None_not_Some, Some_injective, option_map_or-ind, slice_get-changed_at_other, routers-changed_link, range_with_len, Router, World, degree_of, Patch, Lawful, next, refusal, is_due, ripe_front, changed_link, with_cost, with_delivered, with_front_taken, with_message, with_noticed, with_released, front_at, notice_at, release_at, router_accepting, router_at_home, router_publishing, router_releasing, Runs, Fits}
use Rattle.network_model.specs.{declared.step.Refusal.Refusal, declared.step.Refusal.TheVariants.UnknownRouter, declared.step.Refusal.TheVariants.NothingDue, declared.step.Refusal.TheVariants.NothingRipe, declared.step.Step.Step}
use Rattle.network_model.specs.declared.step.Step.TheVariants.{SetCost, Deliver, Publish, Release}
use Rattle.world.specs.Steps.{CanBeRefused, IsDoneOr}
use Rattle.fabric.specs.Fabric.{next_fabric_step as next_turn, Fabric, after_step, awaits_writer, count_lent, fabric_refusal, is_lent, lent_at, with_lent}
use Rattle.fabric.proofs.Fabrics.{fit-append}
use Rattle.fabric.proofs.WritersOut.{Spares, lent_none, lent_set, spared}
use Rattle.convergence.proofs.Turns.{next_chosen}
use Rattle.course.proofs.Idle.{busy-unsettled}
use Rattle.world.proofs.Runs.{with_last_step}
use Rattle.course.specs.Images.{images_in_force}
use Rattle.guarded.specs.Served.{AreTurns, IsServed, IsFabricStopped, IsTurnAt, PublishesNext, images_after}
use Rattle.guarded.proofs.WritersOut.{lent_kept}

-- ---- a router that publishes next

-- whether router o has something to release, and something to publish
abbrev releases : Option Router → Bool
releases o = is_none (first_cause ((is_none o, UnknownRouter) ∷ (is_none (option_and_then ripe_front o), NothingRipe) ∷ []))

abbrev publishes : Option Router → Bool
publishes o = is_none (first_cause ((is_none o, UnknownRouter) ∷ (not (option_map_or is_due o false), NothingDue) ∷ []))

-- that is known by the router alone
next_by : (v w : World) (i : ℕ) → slice_get v.routers i ≡ slice_get w.routers i → PublishesNext w i → PublishesNext v i
next_by v w i same is = subst (λ o. (releases o ≡ false) × (publishes o ≡ true)) (sym same) is

-- it is then the router's next step
pub next_is : (w : World) (i : ℕ) → PublishesNext w i → next_step w i ≡ Some (Publish i)
next_is w i is = rw (is.0, is.1) refl

-- and where that is its next step, it is so
pub is_next : (w : World) (i : ℕ) → next_step w i ≡ Some (Publish i) → Lawful w (Publish i) → PublishesNext w i
is_next w i due lawful = (by_test _ (is_lawful w (Release i)) refl due, ap is_none (Lawful_to_refusal w (Publish i) lawful))
  where
    by_test : (rest : Option Step) (b : Bool) → is_lawful w (Release i) ≡ b → (if b then Some (Release i) else rest) ≡ Some (Publish i) → is_lawful w (Release i) ≡ false
    by_test rest true _ same = absurd (let no = Some_injective same in cc)
    by_test rest false is _ = is

-- a lawful step that is no delivery and no publication at a router leaves one that publishes next as it was
router_stays : (w : World) (s : Step) (i : ℕ) → Spares s i → Lawful w s → PublishesNext w i → slice_get (next w s).routers i ≡ slice_get w.routers i
router_stays w (SetCost j q cost) i _ _ _ = ap (λ rs. slice_get rs i) (routers-changed_link j q (with_cost cost) w)
router_stays w (Deliver j q) i apart _ _ = option_map_or-ind (λ v. slice_get v.routers i ≡ slice_get w.routers i) (with_delivered j q w) (front_at w j q) (option_map_or (with_noticed j w) (notice_at w j q) w)
    (option_map_or-ind (λ v. slice_get v.routers i ≡ slice_get w.routers i) (with_noticed j w) (notice_at w j q) w refl (λ n _. slice_get-changed_at_other (router_at_home n) j i w.routers apart))
    (λ item _. slice_get-changed_at_other (router_accepting q item) j i (changed_link j q with_front_taken w).routers apart ∙ ap (λ rs. slice_get rs i) (routers-changed_link j q with_front_taken w))
router_stays w (Publish j) i apart _ _ = slice_get-changed_at_other router_publishing j i w.routers apart
router_stays w (Release j) i _ lawful is = option_map_or-ind (λ v. slice_get v.routers i ≡ slice_get w.routers i) (with_released j w) (release_at w j) w refl
    (λ h _. slice_get-changed_at_other router_releasing j i (changed_link j h.port (with_message h) w).routers apart ∙ ap (λ rs. slice_get rs i) (routers-changed_link j h.port (with_message h) w))
  where
    apart : i ≢ j
    apart same = false≢true (sym is.0 ∙ ap is_none (Lawful_to_refusal w (Release i) (subst (λ k. Lawful w (Release k)) (sym same) lawful)))
router_stays w _ i _ _ _ = refl

pub stays_next : (w : World) (s : Step) (i : ℕ) → Spares s i → Lawful w s → PublishesNext w i → PublishesNext (next w s) i
stays_next w s i spares lawful is = next_by (next w s) w i (router_stays w s i spares lawful is) is

-- what a router does next in a fabric, it does next in its world
pub turn_next : (f : Fabric) (i : ℕ) (s : Step) → next_turn f i ≡ Some s → next_step f.world i ≡ Some s
turn_next f i s due = by_step (next_step f.world i) due
  where
    by_wait : (t : Step) (b : Bool) → (if b then None else Some t) ≡ Some s → Some t ≡ Some s
    by_wait t true none = absurd (None_not_Some none)
    by_wait t false is = is

    by_step : (o : Option Step) → option_and_then (λ t. if awaits_writer f t then None else Some t) o ≡ Some s → o ≡ Some s
    by_step None none = absurd (None_not_Some none)
    by_step (Some t) is = by_wait t (awaits_writer f t) is

-- and it waits for no writer
turn_free : (f : Fabric) (i : ℕ) (s : Step) → next_turn f i ≡ Some s → awaits_writer f s ≡ false
turn_free f i s due = by_step (next_step f.world i) due
  where
    by_wait : (t : Step) (b : Bool) → awaits_writer f t ≡ b → (if b then None else Some t) ≡ Some s → awaits_writer f s ≡ false
    by_wait t true waits none = absurd (None_not_Some none)
    by_wait t false free is = ap (awaits_writer f) (sym (Some_injective is)) ∙ free

    by_step : (o : Option Step) → option_and_then (λ t. if awaits_writer f t then None else Some t) o ≡ Some s → awaits_writer f s ≡ false
    by_step None none = absurd (None_not_Some none)
    by_step (Some t) is = by_wait t (awaits_writer f t) refl is

-- so the world does not refuse it
turn_lawful : (f : Fabric) (i : ℕ) (s : Step) → next_turn f i ≡ Some s → refusal f.world s ≡ None
turn_lawful f i s due = Lawful_to_refusal f.world s (next_chosen f.world i s (turn_next f i s due)).1

-- a step that a router has to do next is refused for want of room or of memory alone
pub stopped : (f : Fabric) (i : ℕ) (s : Step) (e : Refusal) → next_turn f i ≡ Some s → CanBeRefused (fabric_refusal f s) e → IsFabricStopped f e
stopped f i s e due refused = record {
  unsettled = busy-unsettled f.world i s (turn_next f i s due);
  cause = by_room (nat_lt (length f.journal + count_lent f.lent) most_steps) refl refused;
}
  where
    by_room : (b : Bool) → nat_lt (length f.journal + count_lent f.lent) most_steps ≡ b → CanBeRefused (if b then if awaits_writer f s then Some Refusal.Busy else refusal f.world s else Some Refusal.JournalFull) e
        → ((e ≡ Refusal.JournalFull) × (most_steps ≤ length f.journal + count_lent f.lent)) ⊎ (e ≡ Refusal.NoMemory)
    by_room true _ is = inr (subst (λ o. CanBeRefused o e) (ap (λ b. if b then Some Refusal.Busy else refusal f.world s) (turn_free f i s due) ∙ turn_lawful f i s due) is)
    by_room false full is = inl (is, ltb-false (length f.journal + count_lent f.lent) most_steps full)

-- a publication that a router does next is its own
pub next_router : (w : World) (i j : ℕ) → next_step w i ≡ Some (Publish j) → j ≡ i
next_router w i j is = by_tests (is_lawful w (Release i)) (is_lawful w (Publish i)) is
  where
    qs : List ℕ
    qs = range_with_len 0 (option_map_or (λ d. d + 1) (degree_of w i) 0)

    of : Step → ℕ
    of (Publish k) = k
    of _ = 0

    delivered : (xs : List ℕ) → find (is_lawful w) (map (λ q. Deliver i q) xs) ≡ Some (Publish j) → ⊥
    delivered [] none = None_not_Some none
    delivered (q ∷ xs) same = by_test (is_lawful w (Deliver i q)) same (delivered xs)
      where
        by_test : (b : Bool) → (if b then Some (Deliver i q) else find (is_lawful w) (map (λ r. Deliver i r) xs)) ≡ Some (Publish j) → (find (is_lawful w) (map (λ r. Deliver i r) xs) ≡ Some (Publish j) → ⊥) → ⊥
        by_test true here rest = let no = Some_injective here in cc
        by_test false here rest = rest here

    by_tests : (a b : Bool) → (if a then Some (Release i) else if b then Some (Publish i) else find (is_lawful w) (map (λ q. Deliver i q) qs)) ≡ Some (Publish j) → j ≡ i
    by_tests true b same = absurd (let no = Some_injective same in cc)
    by_tests false true same = sym (ap of (Some_injective same))
    by_tests false false same = absurd (delivered qs same)

-- a step that was done waited for no writer
pub done_free : {X : Type 0} (f : Fabric) (s : Step) (x : X) → IsDoneOr (fabric_refusal f s) (Ok x) → awaits_writer f s ≡ false
done_free {X} f s x done = by_test (nat_lt (length f.journal + count_lent f.lent) most_steps) (awaits_writer f s) refl done
  where
    not_both : (e : Refusal) → ◌≡◌ {A = Result X Refusal} (Ok x) (Err e) → ⊥
    not_both e same = cc

    by_test : (a b : Bool) → awaits_writer f s ≡ b → IsDoneOr {X = X} (if a then if b then Some Refusal.Busy else refusal f.world s else Some Refusal.JournalFull) (Ok x) → awaits_writer f s ≡ false
    by_test true true is done = absurd (not_both Refusal.Busy done)
    by_test true false is done = is
    by_test false b is done = absurd (not_both Refusal.JournalFull done)

-- and it had no cause to be refused
pub done_none : {X : Type 0} (cause : Option Refusal) (x : X) → IsDoneOr cause (Ok x) → cause ≡ None
done_none None x done = refl
done_none {X} (Some c) x done = let never : ◌≡◌ {A = Result X Refusal} (Ok x) (Err c) = done in absurd cc

-- ---- what was done

-- nothing was done
pub served_none : (opened : Fabric) (asked : Step → Bool) → IsServed opened asked opened
served_none opened asked = record {
  network = refl;
  extra = [];
  journal = sym (append-nil opened.journal);
  turns = tt;
  runs = refl;
  fit = tt;
  images = refl;
  stays = λ i lent. lent;
  out = λ i lent. inl lent;
}

turns-more : (asked : Step → Bool) (w : World) (ss : List Step) (v : World) (s : Step) → AreTurns asked w ss → Runs w ss v → IsTurnAt asked v s → AreTurns asked w (ss ++ s ∷ [])
turns-more asked w [] v s turns runs later = (subst (λ x. IsTurnAt asked x s) (sym runs) later, tt)
turns-more asked w (t ∷ ss) v s turns runs later = (turns.0, turns-more asked (next w t) ss v s turns.1 runs.1 later)

images-more : (opened : Fabric) (ss : List Step) (s : Step) (w : World) → images_after opened (ss ++ s ∷ []) w ≡ images_in_force w
images-more opened [] s w = refl
images-more opened (t ∷ ss) s w = refl

-- one step more was done, of a fabric whose writers that are out its own are too
pub served_next : (opened : Fabric) (asked : Step → Bool) (fabric before after : Fabric) (s : Step) → IsServed opened asked fabric → before.network ≡ fabric.network → before.journal ≡ fabric.journal → before.world ≡ fabric.world
    → ((i : ℕ) → is_lent opened i ≡ true → is_lent before i ≡ true) → ((i : ℕ) → is_lent before i ≡ true → is_lent fabric i ≡ true) → awaits_writer before s ≡ false
    → IsTurnAt asked fabric.world s → Lawful fabric.world s → Fits s → after ≡ after_step before s → IsServed opened asked after
served_next opened asked fabric before after s served network journal world stays lent free turn lawful fits is = subst (IsServed opened asked) (sym is) (record {
  network = network ∙ served.network;
  extra = served.extra ++ s ∷ [];
  journal = ap (λ ss. ss ++ s ∷ []) (journal ∙ served.journal) ∙ append_assoc opened.journal served.extra (s ∷ []);
  turns = turns-more asked opened.world served.extra fabric.world s served.turns served.runs turn;
  runs = subst (λ v. Runs opened.world (served.extra ++ s ∷ []) (next v s)) (sym world) (with_last_step opened.world served.extra fabric.world s served.runs lawful);
  fit = fit-append served.extra (s ∷ []) served.fit (fits, tt);
  images = sym (images-more opened served.extra s (next before.world s));
  stays = stays;
  out = λ i there. by_out i there (served.out i (lent i there));
})
  where
    by_out : (i : ℕ) → is_lent before i ≡ true → (is_lent opened i ≡ true) ⊎ PublishesNext fabric.world i → (is_lent opened i ≡ true) ⊎ PublishesNext (next before.world s) i
    by_out i there (inl was) = inl was
    by_out i there (inr is) = inr (subst (λ v. PublishesNext (next v s) i) (sym world) (stays_next fabric.world s i (spared before s free i there) lawful is))

-- a writer that went out, or came back with nothing published, having been in at first
pub served_lent : (opened : Fabric) (asked : Step → Bool) (fabric after : Fabric) (i : ℕ) (l : Option Patch) → IsServed opened asked fabric → (is_lent opened i ≡ true → is_some l ≡ true) → (is_some l ≡ true → PublishesNext fabric.world i)
    → after ≡ with_lent fabric i l → IsServed opened asked after
served_lent opened asked fabric after i l served own due is = subst (IsServed opened asked) (sym is) (record {
  network = served.network;
  extra = served.extra;
  journal = served.journal;
  turns = served.turns;
  runs = served.runs;
  fit = served.fit;
  images = served.images;
  stays = λ k was. lent_kept fabric.lent i k l (λ same. own (subst (λ j. is_lent opened j ≡ true) same was)) (served.stays k was);
  out = λ k there. by_place k (lent_set fabric.lent i k l there);
})
  where
    by_place : (k : ℕ) → ((k ≡ i) × (is_some l ≡ true)) ⊎ (is_some (lent_at fabric.lent k) ≡ true) → (is_lent opened k ≡ true) ⊎ PublishesNext fabric.world k
    by_place k (inl here) = inr (subst (PublishesNext fabric.world) (sym here.0) (due here.1))
    by_place k (inr there) = served.out k there

-- a writer that came back, with its patch published
pub served_published : (opened : Fabric) (asked : Step → Bool) (fabric after : Fabric) (i : ℕ) (t : Patch) → IsServed opened asked fabric → is_lent opened i ≡ false → lent_at fabric.lent i ≡ Some t → Lawful fabric.world (Publish i) → Fits (Publish i)
    → after ≡ after_step (with_lent fabric i None) (Publish i) → IsServed opened asked after
served_published opened asked fabric after i t served own out lawful fits is =
    served_next opened asked fabric (with_lent fabric i None) after (Publish i) served refl refl refl stay others (ap is_some (lent_none fabric.lent i)) (by_out (served.out i (ap is_some out))) lawful fits is
  where
    stay : (k : ℕ) → is_lent opened k ≡ true → is_lent (with_lent fabric i None) k ≡ true
    stay k was = lent_kept fabric.lent i k None (λ same. absurd (false≢true (sym own ∙ subst (λ j. is_lent opened j ≡ true) same was))) (served.stays k was)

    others : (k : ℕ) → is_lent (with_lent fabric i None) k ≡ true → is_lent fabric k ≡ true
    others k there = by_place (lent_set fabric.lent i k None there)
      where
        by_place : ((k ≡ i) × (false ≡ true)) ⊎ (is_some (lent_at fabric.lent k) ≡ true) → is_lent fabric k ≡ true
        by_place (inl here) = absurd (false≢true here.1)
        by_place (inr was) = was

    by_out : (is_lent opened i ≡ true) ⊎ PublishesNext fabric.world i → IsTurnAt asked fabric.world (Publish i)
    by_out (inl was) = absurd (false≢true (sym own ∙ was))
    by_out (inr next_one) = inr (i, next_is fabric.world i next_one)

pub served_unpublished : (opened : Fabric) (asked : Step → Bool) (fabric after : Fabric) (i : ℕ) → IsServed opened asked fabric → is_lent opened i ≡ false → after ≡ with_lent fabric i None → IsServed opened asked after
served_unpublished opened asked fabric after i served own is = served_lent opened asked fabric after i None served (λ was. absurd (false≢true (sym own ∙ was))) (λ no. absurd (false≢true no)) is
