use Rattle.std.proofs.Common.{take}
use Rattle.std.specs.Io.KnownBytes.{Appends}
use Rattle.interpreter.specs.Dispatching.{packets_text}
use Rattle.interpreter.proofs.dispatcher.print_replies.Given as goal

abbrev pub invariant-loop-reply : goal.invariant-loop-reply
invariant-loop-reply g l = Appends (g.W.Write.contents l.initial.out) (g.W.Write.contents l.out) (packets_text l.printer (take l.reply-index l.replies))
