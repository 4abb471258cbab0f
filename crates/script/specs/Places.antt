-- How places are written.
use Rattle.std.specs.Prelude.{ℕ, ◌++◌, codes, decimal}
use Rattle.script.specs.declared.place.Key.{Key}
use Rattle.script.specs.declared.place.Key.TheVariants.{Routers, Links, Prefixes, Script}
use Rattle.texts.specs.Words.{Text}

-- the key of a list in a scenario's document
abbrev pub key_text : Key → Text
key_text Routers = codes "routers"
key_text Links = codes "links"
key_text Prefixes = codes "prefixes"
key_text Script = codes "script"

-- a key and a position
abbrev pub place_text : Key → ℕ → Text
place_text key position = key_text key ++ codes " " ++ decimal position
