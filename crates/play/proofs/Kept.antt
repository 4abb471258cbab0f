-- What is kept of a run.
use Rattle.std.proofs.Common.{◌≡◌, subst, ◌++◌, Option, Result, Ok, Err, OnOk, Bool, false, is_err, sym, ◌∙◌, true≢false}
use Rattle.texts.specs.Words.{Text}
use Rattle.std.proofs.KnownBytes.{Appends-trans}
use Rattle.lines.specs.Report.{Prints}
use Rattle.no_packet_loops.proofs.Common.{Appends}

-- a journal, and then a report
pub kept_is : {E : Type 0} (r s : Result Unit E) (b c : Bool) (old mid new : Option Text) (given text : Text) → b ≡ is_err r → b ≡ false → c ≡ is_err s → c ≡ false
    → OnOk r (Appends old mid given) → OnOk s (Prints mid new) → given ≡ text → (report : Text) × Appends old new (text ++ report)
kept_is (Err e) s b c old mid new given text is wrong is2 wrong2 first second same = absurd (true≢false (sym is ∙ wrong))
kept_is (Ok u) (Err e) b c old mid new given text is wrong is2 wrong2 first second same = absurd (true≢false (sym is2 ∙ wrong2))
kept_is (Ok u) (Ok v) b c old mid new given text is wrong is2 wrong2 first second same =
    (second.0, Appends-trans old mid new text second.0 (subst (Appends old mid) same first) second.1)
