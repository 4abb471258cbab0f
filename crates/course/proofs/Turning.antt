-- Steps that routers do in turn.
use Rattle.std.proofs.Common.{refl, sym, ap, subst, ◌∙◌, arith, inl, inr, length-append, ◌≡◌, ◌⊎◌, ℕ, ◌+◌, ◌^◌, ◌<◌, ◌≤◌, Bool, true, false, if◌then◌else◌, nat_lt, List, [], ◌∷◌, ◌++◌, length, Option, Some, None}
use Rattle.no_packet_loops.proofs.Common.{World, Lawful, Lawful_to_refusal, next, refusal, Refusal, Runs, cases_lt, ltb-false, Step}
use Rattle.world.specs.Steps.{CanBeRefused}
use Rattle.world.proofs.Runs.{with_last_step}
use Rattle.convergence.proofs.Turns.{next_chosen}
use Rattle.course.specs.Course.{Course, course_after, course_refusal}
use Rattle.course.specs.Turns.{AreNextSteps, HasTakenTurns, IsCourseStopped, IsNextStep}
use Rattle.course.proofs.{Idle.busy-unsettled, Courses.after_push}

turns_push : (w : World) (ss : List Step) (v : World) (s : Step) → AreNextSteps w ss → Runs w ss v → IsNextStep v s → AreNextSteps w (ss ++ s ∷ [])
turns_push w [] v s turns runs turn = (subst (λ u. IsNextStep u s) (sym runs) turn, tt)
turns_push w (x ∷ xs) v s turns runs turn = (turns.0, turns_push (next w x) xs v s turns.1 runs.1 turn)

pub turned_more : (old mid new : Course) (done : ℕ) (s : Step) → HasTakenTurns old mid done → IsNextStep mid.world s → Lawful mid.world s → new ≡ course_after mid s → HasTakenTurns old new (done + 1)
turned_more old mid new done s turned turn lawful is = record {
  steps = turned.steps ++ s ∷ [];
  count = (let longer : length (turned.steps ++ s ∷ []) ≡ length turned.steps + 1 = length-append turned.steps (s ∷ []) in let count = turned.count in omega (arith, longer, count));
  turns = turns_push old.world turned.steps mid.world s turned.turns turned.runs turn;
  runs = subst (Runs old.world (turned.steps ++ s ∷ [])) (sym (ap (λ (x : Course). x.world) is)) (with_last_step old.world turned.steps mid.world s turned.runs lawful);
  after = is ∙ ap (λ x. course_after x s) turned.after ∙ sym (after_push old turned.steps s);
}

-- a turn that is refused is so because no step can be counted, or for want of memory
pub stopped : (c : Course) (step : Step) (e : Refusal) → IsNextStep c.world step → CanBeRefused (course_refusal c step) e → IsCourseStopped c e
stopped c step e turn refused = record {
  unsettled = busy-unsettled c.world turn.0 step turn.1;
  cause = by_room (nat_lt (c.steps + 1) (2 ^ 64)) refl refused;
}
  where
    by_room : (b : Bool) → nat_lt (c.steps + 1) (2 ^ 64) ≡ b → CanBeRefused (if b then refusal c.world step else Some Refusal.JournalFull) e → ((e ≡ Refusal.JournalFull) × (2 ^ 64 ≤ c.steps + 1)) ⊎ (e ≡ Refusal.NoMemory)
    by_room true _ is = inr (subst (λ o. CanBeRefused o e) (Lawful_to_refusal c.world step (next_chosen c.world turn.0 step turn.1).1) is)
    by_room false full is = inl (is, ltb-false (c.steps + 1) (2 ^ 64) full)

-- ---- routers that have nothing to do

-- one more than those before
pub one_more_idle : (f : ℕ → Option Step) (n : ℕ) → ((i : ℕ) → i < n → f i ≡ None) → f n ≡ None → (i : ℕ) → i < n + 1 → f i ≡ None
one_more_idle f n before here i below = by_order (cases_lt i n)
  where
    by_order : (i < n) ⊎ (n ≤ i) → f i ≡ None
    by_order (inl less) = before i less
    by_order (inr same) = (let is : n ≡ i = omega (arith, same, below) in subst (λ k. f k ≡ None) is here)
