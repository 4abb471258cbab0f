-- How many spells began in a time, and how long the longest was.
use Rattle.std.specs.Prelude.{◌+◌, ◌-◌, ◌^◌, Bool, true, ◌&&◌, not, nat_lt, List, [], ◌∷◌, min, max, if◌then◌else◌}
use Rattle.std.specs.Option.{option_map_or}
use Rattle.timed_reports.specs.declared.spells.Spell.{Spell}
use Rattle.timing.specs.declared.tally.Span.{Span}
use Rattle.lines.specs.declared.times.Tally.{Tally}

-- a spell began in this time
abbrev pub began_in : Span → Spell → Bool
began_in span s = not (nat_lt s.from span.from) && option_map_or (λ until. nat_lt s.from until) span.until true

-- no spell was counted
abbrev pub none_counted : Tally
none_counted = record { count = 0; longest = 0 }

-- with a spell, if it began in this time; the count stays below 2^64, as that of every list
abbrev pub with_one : Span → Spell → Tally → Tally
with_one span s t = if began_in span s then record { count = min (t.count + 1) (2 ^ 64 - 1); longest = max t.longest (s.to - s.from) } else t

-- with each of these spells
abbrev pub tally : Span → List Spell → Tally → Tally
tally span [] t = t
tally span (s ∷ ss) t = tally span ss (with_one span s t)
