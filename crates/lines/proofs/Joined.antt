-- Texts put together piece by piece, in a format.
use Rattle.std.proofs.Common.{◌≡◌, List, [], ◌∷◌, ◌++◌, refl, sym, ◌∙◌, append_assoc, append-nil}
use Rattle.texts.specs.Words.{Text}
use Rattle.command_line.specs.{declared.format.Format.Format, declared.format.Format.TheVariants.Text as ForPeople, declared.format.Format.TheVariants.Json}
use Rattle.lines.specs.Formats.{in_format}

-- a text, and pieces behind it, one after another
abbrev pub put_on : Text → List Text → Text
put_on text [] = text
put_on text (piece ∷ pieces) = put_on (text ++ piece) pieces

-- pieces, the last of which ends them
abbrev pub joined : List Text → Text
joined [] = []
joined (piece ∷ []) = piece
joined (piece ∷ next ∷ pieces) = piece ++ joined (next ∷ pieces)

pub put_together : (text : Text) (pieces : List Text) → put_on text pieces ≡ text ++ joined pieces
put_together text [] = sym (append-nil text)
put_together text (piece ∷ []) = refl
put_together text (piece ∷ next ∷ pieces) = put_together (text ++ piece) (next ∷ pieces) ∙ append_assoc text piece (joined (next ∷ pieces))

-- what is written piece by piece in a format is the text that the definition of the format puts together
pub told : (format : Format) (first : Text) (pieces : Format → List Text) (opening : Text) (members : Format → List Text) {words object : Text}
    → put_on first (pieces ForPeople) ≡ words → put_on opening (members Json) ≡ object
    → in_format format (first ++ joined (pieces format)) (opening ++ joined (members format)) ≡ in_format format words object
told ForPeople first pieces opening members is _ = sym (put_together first (pieces ForPeople)) ∙ is
told Json first pieces opening members _ is = sym (put_together opening (members Json)) ∙ is
