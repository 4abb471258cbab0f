-- Each line that is printed, for people and as an object of JSON.
use Rattle.std.specs.Prelude.{◌++◌, codes}
use Rattle.texts.specs.Words.{Text}
use Rattle.script.specs.Directories.{Directory}
use Rattle.lines.specs.Texts.{asked_text, awaits_text, change_text, counts_text, ended_text, known_text, link_text, machine_text, next_text, router_text, spell_text, trace_text, tried_text, unheard_text, waiting_text}
use Rattle.lines.specs.Objects.{asked_json, awaits_json, change_json, counts_json, ended_json, known_json, link_json, machine_json, next_json, router_json, spell_json, trace_json, tried_json, unheard_json, waiting_json}
use Rattle.lines.specs.declared.line.Line.{Line}
use Rattle.lines.specs.declared.line.Line.TheVariants.{Asked, Traced, Link, Router, Machine, Unheard, Awaits, Known, Waiting, Moved, Next, Tried, Counted, Ended, Changed, Spell}

-- a line for people
abbrev pub line_text : Directory → Line → Text
line_text d (Asked asked) = asked_text d asked
line_text d (Traced t) = trace_text d t.router t.addr t.through (t.path).now t.end
line_text d (Link l) = link_text d l
line_text d (Router r) = router_text d r
line_text d (Machine m) = machine_text d m
line_text d (Unheard router prefix) = unheard_text d router prefix
line_text d (Awaits a) = awaits_text d (a.neighbours).now
line_text d (Known k) = known_text d k.known
line_text d (Waiting waiting) = waiting_text d waiting
line_text d (Moved waiting) = codes "  " ++ waiting_text d waiting
line_text d (Next n) = next_text d (n.links).now n.router n.step
line_text d (Tried fault) = tried_text fault
line_text d (Counted counts) = codes "count: " ++ counts_text counts
line_text d (Ended ended) = ended_text ended
line_text d (Changed c) = change_text d c
line_text d (Spell s) = spell_text d s

-- the same as an object of JSON
abbrev pub line_json : Directory → Line → Text
line_json d (Asked asked) = asked_json d asked
line_json d (Traced t) = trace_json d t.router t.addr t.through (t.path).now t.end
line_json d (Link l) = link_json d l
line_json d (Router r) = router_json d r
line_json d (Machine m) = machine_json d m
line_json d (Unheard router prefix) = unheard_json d router prefix
line_json d (Awaits a) = awaits_json d a.router a.prefix (a.neighbours).now
line_json d (Known k) = known_json d k.router k.prefix k.known
line_json d (Waiting waiting) = waiting_json d waiting
line_json d (Moved waiting) = waiting_json d waiting
line_json d (Next n) = next_json d (n.links).now n.router n.step
line_json d (Tried fault) = tried_json fault
line_json d (Counted counts) = codes "{\"kind\":\"count\"," ++ counts_json counts ++ codes "}"
line_json d (Ended ended) = ended_json ended
line_json d (Changed c) = change_json d c
line_json d (Spell s) = spell_json d s
