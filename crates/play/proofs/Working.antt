-- What is done on the network of the plan of a text is done on the network of the text.
use Rattle.std.specs.Prelude.{⊤}
use Rattle.std.proofs.Common.{Result, Ok, Err, IfErr, OnOk, ◌≡◌, ◌≤◌, ◌++◌, [], Bool, true, false, Option, Some, unwrap_or, append-nil, ◌⊎◌, inl, inr, List, length, ap, subst, ◌∙◌}
use Rattle.network_model.specs.World.{Network}
use Rattle.fabric.specs.Fabric.{Fabric, opening_fabric}
use Rattle.texts.specs.Words.{Text}
use Rattle.script.specs.{Directories.Directory, declared.command.Command.Command}
use Rattle.plans.specs.{declared.fault.Fault.Fault, declared.plan.Plan.Plan, Faults.IsWantOfMemory, Faults.OfBytes, Faults.most_bytes, Scenarios.network_read}
use Rattle.plans.proofs.Planned.{IsPlanned}
use Rattle.journal.specs.Journal.{journal_text}
use Rattle.play.specs.Ends.{IsChecked, IsPlannedFrom, KeepsJournal}
use Rattle.play.specs.Works.{IsOfNothing, IsOfWorkers, IsWithoutAnswers, IsWorked, StopsOn, StopsWork, StopsWorkOn, Works, WorksOn, none_kept}

module _ {S : Type 0} (opened : Network → S) (text : Text) (plan : Plan) (short : length text ≤ most_bytes) (planned : IsPlanned text plan) where
  pub worked : (Comes : List Command → S → S → Type 0) (Keeps : Directory → S → Type 0) → Works opened Comes Keeps plan → IsWorked opened Comes Keeps text
  worked Comes Keeps works = record {
    short = short;
    parts = planned.0;
    scenario = planned.1;
    after = works.0;
    done = subst (λ cs. Comes cs (opened (network_read planned.0)) works.0) planned.2.commands (subst (λ n. Comes plan.commands.items (opened n) works.0) planned.2.network works.1);
    keeps = subst (λ d. Keeps d works.0) planned.2.directory works.2;
  }

  pub stopped : (Early : Fault → Type 0) (Stops : List Command → S → S → Fault → Type 0) (fault : Fault) → StopsWork opened Early Stops plan fault → StopsOn opened Early Stops text fault
  stopped Early Stops fault (inl memory) = inl (inr (inl memory))
  stopped Early Stops fault (inr (inl early)) = inr (inl early)
  stopped Early Stops fault (inr (inr there)) = inr (inr (record {
    short = short;
    parts = planned.0;
    scenario = planned.1;
    after = there.0;
    stops = subst (λ cs. Stops cs (opened (network_read planned.0)) there.0 fault) planned.2.commands (subst (λ n. Stops plan.commands.items (opened n) there.0 fault) planned.2.network there.1);
  }))

-- what follows of the bytes that a reader gives
pub of_bytes : (known : Option Text) (P Q : Text → Type 0) → ((bytes : Text) → P bytes → Q bytes) → OfBytes known P → OfBytes known Q
of_bytes known P Q weaker (bytes, gives, holds) = (bytes, gives, weaker bytes holds)

-- and where the text is one that a reader gives
module _ {S : Type 0} (opened : Network → S) (known : Option Text) (plan : Plan) where
  pub worked_from : (Comes : List Command → S → S → Type 0) (Keeps : Directory → S → Type 0) → IsPlannedFrom known plan → Works opened Comes Keeps plan → OfBytes known (IsWorked opened Comes Keeps)
  worked_from Comes Keeps (text, gives, (short, planned)) works = (text, gives, worked opened text plan short planned Comes Keeps works)

  pub stopped_from : (Early : Fault → Type 0) (Stops : List Command → S → S → Fault → Type 0) (fault : Fault) → IsPlannedFrom known plan → StopsWork opened Early Stops plan fault → OfBytes known (λ text. StopsOn opened Early Stops text fault)
  stopped_from Early Stops fault (text, gives, (short, planned)) stops = (text, gives, stopped opened text plan short planned Early Stops fault stops)

-- its scenario was checked
pub checked : (known : Option Text) (plan : Plan) → IsPlannedFrom known plan → OfBytes known IsChecked
checked known plan (text, gives, (short, planned)) = (text, gives, record { short = short; parts = planned.0; scenario = planned.1 })

-- what came of the commands on a simulation, of which nothing is kept
pub works_there : {S : Type 0} (opened : Network → S) (Done : List Command → S → S → Type 0) (n : Network) (d : Directory) (f g : S) (cs : List Command) (r : Result ⊤ Fault)
    → f ≡ opened n → OnOk r (Done cs f g) → OnOk r (WorksOn opened Done none_kept n d cs)
works_there opened Done n d f g cs (Err e) opens done = tt
works_there opened Done n d f g cs (Ok x) opens done = (g, subst (λ h. Done cs h g) opens done, tt)

pub stops_there : {S : Type 0} (opened : Network → S) (Stops : List Command → S → S → Fault → Type 0) (n : Network) (f g : S) (cs : List Command) (r : Result ⊤ Fault)
    → f ≡ opened n → IfErr r (Stops cs f g) → IfErr r (StopsWorkOn opened IsOfNothing Stops n cs)
stops_there opened Stops n f g cs (Ok x) opens stops = tt
stops_there opened Stops n f g cs (Err e) opens stops = inr (inr (g, subst (λ h. Stops cs h g e) opens stops))

-- what came of the commands on a fabric, and of what was to be kept of it
pub works_kept : (Done : List Command → Fabric → Fabric → Type 0) (Keeps : Directory → Fabric → Type 0) (n : Network) (d : Directory) (f g closed : Fabric) (done r : Result ⊤ Fault) (cs : List Command)
    → f ≡ opening_fabric n → closed ≡ g → OnOk done (Done cs f g) → OnOk r ((done ≡ Ok tt) × Keeps d closed) → OnOk r (WorksOn opening_fabric Done Keeps n d cs)
works_kept Done Keeps n d f g closed done (Err e) cs opens same comes keeps = tt
works_kept Done Keeps n d f g closed done (Ok x) cs opens same comes keeps =
    (g, subst (λ (h : Fabric). Done cs h g) opens (subst (λ q. OnOk q (Done cs f g)) keeps.0 comes), subst (λ (h : Fabric). Keeps d h) same keeps.1)

pub stops_kept : (Stops : List Command → Fabric → Fabric → Fault → Type 0) (n : Network) (f g : Fabric) (done r : Result ⊤ Fault) (cs : List Command)
    → f ≡ opening_fabric n → IfErr done (Stops cs f g) → IfErr r (λ e. (done ≡ Err e) ⊎ IsWithoutAnswers e ⊎ IsWantOfMemory e) → IfErr r (StopsWorkOn opening_fabric IsOfWorkers Stops n cs)
stops_kept Stops n f g done (Ok x) cs opens stops why = tt
stops_kept Stops n f g done (Err e) cs opens stops (inl is) = inr (inr (g, subst (λ (h : Fabric). Stops cs h g e) opens (subst (λ q. IfErr q (Stops cs f g)) is stops)))
stops_kept Stops n f g done (Err e) cs opens stops (inr (inl unanswered)) = inr (inl (inr unanswered))
stops_kept Stops n f g done (Err e) cs opens stops (inr (inr memory)) = inl memory

-- what was made of a journal is added behind what is kept
journal_added : (wanted : Bool) (d : Directory) (f : Fabric) (old none made new : Text) → none ≡ [] → new ≡ old ++ made → KeepsJournal wanted d f (Some none) (Some made) → KeepsJournal wanted d f (Some old) (Some new)
journal_added true d f old none made new empty added (report, appends) = (report, added ∙ ap (λ bytes. old ++ bytes) (appends ∙ ap (λ bytes. bytes ++ (journal_text d f.network.links f.journal ++ report)) empty))
journal_added false d f old none made new empty added same =
    ap Some (added ∙ ap (λ bytes. old ++ bytes) (ap (λ o. unwrap_or o []) same ∙ empty) ∙ append-nil old)

pub works_added : (wanted : Bool) (Done : List Command → Fabric → Fabric → Type 0) (plan : Plan) (old none made new : Text) → none ≡ [] → new ≡ old ++ made
    → Works opening_fabric Done (λ d f. KeepsJournal wanted d f (Some none) (Some made)) plan → Works opening_fabric Done (λ d f. KeepsJournal wanted d f (Some old) (Some new)) plan
works_added wanted Done plan old none made new empty added (f, done, keeps) = (f, done, journal_added wanted plan.directory f old none made new empty added keeps)
