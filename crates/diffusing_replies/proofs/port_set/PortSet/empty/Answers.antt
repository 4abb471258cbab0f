use Rattle.std.proofs.Common.{refl, ◌∙◌, arith}
use Rattle.std.proofs.lemmas.Nat.Bits.{bit_at-zero}
use Rattle.diffusing_replies.specs.Ports.{contains-ports_of}
use Rattle.diffusing_replies.proofs.port_set.PortSet.empty.Goals as goal

pub returns : goal.returns
returns c = λ q. contains-ports_of 0 (omega arith) q ∙ rw (bit_at-zero q) refl
