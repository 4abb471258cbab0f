-- A network in simulated time, with a record of what went on in it or without.
use Rattle.std.specs.Prelude.{ℕ, Bool, true, false, [], Option, Some, None, drop}
use Rattle.timed_simulation.specs.Timed.{Timed}
use Rattle.timed_reports.specs.{Reports.Reported, Reports.IsReportOf, Reports.IsReportRun, declared.recording.Recording.Recording, declared.recording.Recording.TheVariants.On, declared.recording.Recording.TheVariants.Off}

-- the network in simulated time
abbrev pub timed_in : Recording → Timed
timed_in (Off t) = t
timed_in (On r) = r.timed

-- the network with its record, if it keeps one
abbrev pub report_in : Recording → Option Reported
report_in (Off t) = None
report_in (On r) = Some r

-- the same with another network in simulated time; what is recorded stays
abbrev pub with_timed : (Timed → Timed) → Recording → Recording
with_timed f (Off t) = Off (f t)
with_timed f (On r) = On (record r { timed = f r.timed })

-- without the first of the changes that are left
abbrev pub without_first : Timed → Timed
without_first t = record t { changes = drop 1 t.changes }

-- at the opening: a record is kept, and is exact of no events; or none is kept
abbrev pub IsOpened : Bool → Recording → Type 0
IsOpened true (On r) = IsReportOf [] r
IsOpened true (Off t) = ⊥
IsOpened false (On r) = ⊥
IsOpened false (Off t) = Unit {0}

-- with so many events done. Where a record is kept, it is exact of the events with them, and its lists of what ended only grew. Where none is, none is
abbrev pub GoesOn : Recording → Recording → ℕ → Type 0
GoesOn (Off s) (Off t) done = Unit {0}
GoesOn (Off s) (On t) done = ⊥
GoesOn (On s) (Off t) done = ⊥
GoesOn (On s) (On t) done = IsReportRun s t done
