-- What a script that was read stands for.
use Rattle.script.specs.{Reading.Parts, declared.reading.Script.Script}

-- the parts of a script that was read
abbrev pub script_parts : Script → Parts
script_parts s = record { names = s.names; links = s.links.items; attachments = s.attachments.items; commands = s.commands.items }
