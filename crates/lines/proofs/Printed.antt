-- Texts that are printed one after another.
use Rattle.std.proofs.Common.{[], ◌++◌, Option, Some, None, Result, Ok, Err, OnOk, sym, append-nil}
use Rattle.texts.specs.Words.{Text}
use Rattle.std.proofs.KnownBytes.{Appends-trans}
use Rattle.lines.specs.Report.{Prints}
use Rattle.no_packet_loops.proofs.Common.{Appends}

-- nothing that is printed
pub prints_none : (old : Option Text) → Prints old old
prints_none None = ([], tt)
prints_none (Some xs) = ([], sym (append-nil xs))

pub prints_more : (old mid new : Option Text) (text : Text) → Prints old mid → Appends mid new text → Prints old new
prints_more old mid new text before more = (before.0 ++ text, Appends-trans old mid new before.0 text before.1 more)

pub prints_both : (old mid new : Option Text) → Prints old mid → Prints mid new → Prints old new
prints_both old mid new before more = prints_more old mid new more.0 before more.1

pub prints_ok : {E : Type 0} (r : Result Unit E) (old mid new : Option Text) → Prints old mid → OnOk r (Prints mid new) → OnOk r (Prints old new)
prints_ok (Ok u) old mid new before more = prints_both old mid new before more
prints_ok (Err e) old mid new before more = tt
