-- What was written, and of which steps.
use Rattle.std.proofs.Common.{◌≡◌, ℕ, List, [], Bool, true, false, Option, None, Result, Ok, Err, OnOk, length, take, refl, sym, subst, ◌∙◌, arith, take_all}
use Rattle.std.proofs.lemmas.Bool.{false≢true}
use Rattle.std.specs.Prelude.{⊤, MatchOption, if◌then◌else◌}
use Rattle.std.specs.Io.KnownBytes.{Appends}
use Rattle.network_model.specs.{declared.step.Step.Step, World.Network, World.World, World.opening, Run.Runs, Step.refusal}
use Rattle.world.specs.{Steps.StopsAt, declared.world.Ran.Ran}
use Rattle.texts.specs.Words.{Text}
use Rattle.script.specs.Directories.{Directory}
use Rattle.journal.specs.declared.read.Version.{Version}
use Rattle.plans.specs.{declared.plan.Plan.Plan, Scenarios.network_read}
use Rattle.plans.proofs.Planned.{IsPlanned}
use Rattle.play.specs.Replays.{IsJournalOf}
use Rattle.faults.specs.declared.kind.FaultKind.{FaultKind}
use Rattle.run_states.specs.Told.{IsStatesText}
use Rattle.view.specs.Page.{page_text}
use Rattle.view.specs.Shown.{IsJournalShown, IsShort, IsShownInTime, IsTimesShown, IsWritten}

-- how far steps came from an opening, and why the next was refused, if one was
abbrev pub CameTo : Network → List Step → Ran → Type 0
CameTo n steps ran = (w : World) × Runs (opening n) (take ran.done steps) w × MatchOption ran.refusal (ran.done ≡ length steps) (StopsAt (refusal w) steps ran.done)

-- where none was refused all were done
pub whole_of : (n : Network) (steps : List Step) (ran : Ran) → CameTo n steps ran → ran.refusal ≡ None → ran.done ≡ length steps
whole_of n steps ran came none = subst (λ o. MatchOption o (ran.done ≡ length steps) (StopsAt (refusal came.0) steps ran.done)) none came.2

pub lines_written : (n : Network) (d : Directory) (steps : List Step) (moments : List ℕ) (json : Bool) (old new : Option Text) (r : Result ⊤ FaultKind) → json ≡ true
    → OnOk r ((text : Text) × IsStatesText n d steps moments 1 text × Appends old new text) → OnOk r (IsWritten json n d steps moments old new)
lines_written n d steps moments json old new (Err e) is told = tt
lines_written n d steps moments json old new (Ok x) is told = record {
  every = 1;
  each = λ e. refl;
  states = told.0;
  are_states = told.1;
  short = λ page. absurd (false≢true (sym page ∙ is));
  written = subst (λ b. Appends old new (if b then told.0 else page_text told.0)) (sym is) told.2;
}

pub page_written : (n : Network) (d : Directory) (steps : List Step) (moments : List ℕ) (json : Bool) (old new : Option Text) (states : Text) → json ≡ false
    → (every : ℕ) × IsStatesText n d steps moments every states × IsShort steps every states → Appends old new (page_text states) → IsWritten json n d steps moments old new
page_written n d steps moments json old new states is told written = record {
  every = told.0;
  each = λ one. absurd (false≢true (sym is ∙ one));
  states = states;
  are_states = told.1;
  short = λ page. told.2;
  written = subst (λ b. Appends old new (if b then states else page_text states)) (sym is) written;
}

-- all of a journal was shown, if none of its steps was refused
pub shown_whole : (json : Bool) (text lines : Text) (plan : Plan) (planned : IsPlanned text plan) (version : Version) (steps : List Step) (old new : Option Text) (ran : Ran)
    → IsJournalOf text lines planned.0 version steps → CameTo plan.network steps ran → IsWritten json plan.network plan.directory (take ran.done steps) [] old new → ran.refusal ≡ None
    → IsJournalShown json text lines old new
shown_whole json text lines plan planned version steps old new ran journal came written none =
    let done = whole_of plan.network steps ran came none in
    let all : take ran.done steps ≡ steps = take_all ran.done steps (omega (arith, done)) in
    record {
      version = version;
      whole = record {
        parts = planned.0;
        steps = steps;
        is_journal = journal;
        world = came.0;
        runs = subst (λ ss. Runs (opening (network_read planned.0)) ss came.0) all (subst (λ m. Runs (opening m) (take ran.done steps) came.0) planned.2.network came.1);
      };
      written = subst (λ c. IsWritten json (network_read planned.0) c steps [] old new) planned.2.directory
          (subst (λ m. IsWritten json m plan.directory steps [] old new) planned.2.network (subst (λ ss. IsWritten json plan.network plan.directory ss [] old new) all written));
    }

-- a run in simulated time of a scenario's network was shown
pub times_shown : (json : Bool) (text lines : Text) (plan : Plan) (planned : IsPlanned text plan) (old new : Option Text) → IsShownInTime json plan.network plan.directory lines old new → IsTimesShown json text lines old new
times_shown json text lines plan planned old new shown = record {
  parts = planned.0;
  scenario = planned.1;
  shown = subst (λ d. IsShownInTime json (network_read planned.0) d lines old new) planned.2.directory
      (subst (λ m. IsShownInTime json m plan.directory lines old new) planned.2.network shown);
}
