use Rattle.std.proofs.Common.{◌≡◌, ℕ, ◌<◌, ◌^◌, ap, sym, ◌∙◌, arith}
use Rattle.std.proofs.lemmas.Grind.{common_steps}
use Rattle.diffusing_replies.specs.Ports.{Ports, ports_of, mask_of, mask_of-ports_of}
use Rattle.diffusing_replies.proofs.port_set.PortSetPartialEq.eq.Goals as goal

of_view : (mask : ℕ) (s : Ports) → mask < 2 ^ 32 → ports_of mask ≡ s → mask_of s ≡ mask
of_view mask s whole is = ap mask_of (sym is) ∙ mask_of-ports_of mask whole

pub returns : goal.returns
returns c = grind (arith, common_steps, of_view)
