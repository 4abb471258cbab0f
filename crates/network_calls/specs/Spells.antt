-- Spells as C has them: those that ended, and those that go on.
use Rattle.std.specs.Prelude.{◌-◌, ◌^◌, List, is_some, unwrap_or}
use Rattle.std.specs.List.{filter}
use Rattle.timed_reports.specs.{declared.spells.Spell.Spell, declared.spells.Watched.Watched}
use Rattle.network_calls.specs.declared.spells.SpellParts.{SpellParts}

-- a spell that ended
abbrev pub ended_shown : Spell → SpellParts
ended_shown s = record { from = s.from; to = s.to; addr = (s.prefix).addr; router = s.router; len = (s.prefix).len }

-- one that goes on: for its end stands the last moment of the clock, at which nothing is done
abbrev pub going_shown : Watched → SpellParts
going_shown c = record { from = unwrap_or c.since 0; to = 2 ^ 64 - 1; addr = (c.prefix).addr; router = c.router; len = (c.prefix).len }

-- of those that are watched the ones that go on
abbrev pub going_on : List Watched → List Watched
going_on cs = filter (λ c. is_some c.since) cs
