-- What the program gave.
use Rattle.std.specs.Prelude.{◌≡◌, ℕ, ◌⊎◌, Option, true, []}
use Rattle.texts.specs.Words.{Text}
use Rattle.command_line.specs.declared.words.Words.{Words}
use Rattle.plans.specs.{declared.outcome.Outcome.Outcome, declared.fault.Fault.Fault, Faults.status_at, Faults.status_of}
use Rattle.play.specs.Outcomes.{Ends, StopsWords}

-- a command came to an end, and a journal was kept or not; or it stopped for a fault, and nothing was kept; the
-- status says which
abbrev pub Gave : Words → Option Text → Option Text → ℕ → Text → Type 0
Gave words scenario journal status kept =
    ((end : Outcome) × (status ≡ status_at end) × Ends true words scenario journal [] kept end)
    ⊎ ((fault : Fault) × (status ≡ status_of fault.kind) × StopsWords words scenario journal fault × (kept ≡ []))
