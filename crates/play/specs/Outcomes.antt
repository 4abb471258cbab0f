-- How the program ends, whatever it is asked for.
use Rattle.std.specs.Prelude.{◌≡◌, ◌⊎◌, ℕ, Bool, true, false, Option, Some}
use Rattle.fabric.specs.Fabric.{opening_fabric}
use Rattle.texts.specs.Words.{Text}
use Rattle.command_line.specs.declared.words.Words.{Words}
use Rattle.command_line.specs.declared.words.Words.TheVariants.{Check, Run, Replay, Time, Explain, Shell}
use Rattle.plans.specs.{declared.fault.Fault.Fault, declared.outcome.Outcome.Outcome, declared.outcome.Outcome.TheVariants.Done, Faults.OfBytes, Faults.status_at, Faults.status_of, Scenarios.StopsReading}
use Rattle.interpreter.specs.Nets.{counted_meaning, kept_meaning, opening_counted}
use Rattle.play.specs.{Ends.IsChecked, Ends.KeepsJournal, Replays.Replays, Replays.StopsReplay}
use Rattle.timing.specs.Ends.{IsTimedToEnd, StopsTime}
use Rattle.play.specs.Works.{Comes, IsOfNothing, IsOfWorkers, IsWorked, Stops, StopsOn, none_kept}

-- how a command ends that has met no fault, where the text of a journal is wanted or not
abbrev pub Ends : Bool → Words → Option Text → Option Text → Text → Text → Outcome → Type 0
Ends wanted (Check _ _) scenario journal old new end = (end ≡ Done) × (new ≡ old) × OfBytes scenario IsChecked
Ends wanted (Run _ _ _ _ false _ _ _) scenario journal old new end = (end ≡ Done) × OfBytes scenario (IsWorked opening_fabric (Comes kept_meaning false) (λ d f. KeepsJournal wanted d f (Some old) (Some new)))
Ends wanted (Run _ _ _ _ true _ _ _) scenario journal old new end = (end ≡ Done) × (new ≡ old) × OfBytes scenario (IsWorked opening_counted (Comes counted_meaning false) none_kept)
Ends wanted (Replay _ _ _ _ _) scenario journal old new end = (new ≡ old) × OfBytes scenario (λ bytes. OfBytes journal (λ lines. Replays bytes lines end))
Ends wanted (Time _ _ _ _ _) scenario journal old new end = (end ≡ Done) × (new ≡ old) × OfBytes scenario (λ bytes. OfBytes journal (IsTimedToEnd bytes))
Ends wanted (Explain _) scenario journal old new end = (end ≡ Done) × (new ≡ old)
Ends wanted (Shell _ _ false _ _) scenario journal old new end = (end ≡ Done) × OfBytes scenario (IsWorked opening_fabric (Comes kept_meaning true) (λ d f. KeepsJournal wanted d f (Some old) (Some new)))
Ends wanted (Shell _ _ true _ _) scenario journal old new end = (end ≡ Done) × (new ≡ old) × OfBytes scenario (IsWorked opening_counted (Comes counted_meaning true) none_kept)

-- why a command stops
abbrev pub StopsWords : Words → Option Text → Option Text → Fault → Type 0
StopsWords (Check _ _) scenario journal fault = OfBytes scenario (λ bytes. StopsReading bytes fault)
StopsWords (Run _ _ _ _ false _ _ _) scenario journal fault = OfBytes scenario (λ bytes. StopsOn opening_fabric IsOfWorkers (Stops kept_meaning false) bytes fault)
StopsWords (Run _ _ _ _ true _ _ _) scenario journal fault = OfBytes scenario (λ bytes. StopsOn opening_counted IsOfNothing (Stops counted_meaning false) bytes fault)
StopsWords (Replay _ _ _ _ _) scenario journal fault = OfBytes scenario (λ bytes. StopsReplay bytes journal fault)
StopsWords (Time _ _ _ _ _) scenario journal fault = OfBytes scenario (λ bytes. StopsTime bytes journal fault)
StopsWords (Explain _) scenario journal fault = ⊥
StopsWords (Shell _ _ false _ _) scenario journal fault = OfBytes scenario (λ bytes. StopsOn opening_fabric IsOfWorkers (Stops kept_meaning true) bytes fault)
StopsWords (Shell _ _ true _ _) scenario journal fault = OfBytes scenario (λ bytes. StopsOn opening_counted IsOfNothing (Stops counted_meaning true) bytes fault)

-- the program comes to an end, whose status it answers; or it stops for a fault, whose status it answers, and which alone its caller is handed: nothing is added to what is kept
abbrev pub ProgramOutcome : Bool → Words → Option Text → Option Text → Text → Text → Option Fault → Option Fault → ℕ → Type 0
ProgramOutcome wanted words scenario journal old new told told_after status =
    ((end : Outcome) × (status ≡ status_at end) × Ends wanted words scenario journal old new end × (told_after ≡ told))
    ⊎ ((fault : Fault) × (status ≡ status_of fault.kind) × StopsWords words scenario journal fault × (new ≡ old) × (told_after ≡ Some fault))
