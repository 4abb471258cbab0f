use Rattle.fabric.specs.Fabric.{count_lent}
use Rattle.guarded.specs.{Names.high_name, Names.low_name, Names.out_name, Served.all_asked}
use Rattle.fabric_tests.proofs.controls.opened.Given as goal

-- the ledgers that were just made, and the fabric
abbrev pub ghosts-controlled : goal.ghosts-controlled
ghosts-controlled g a = record { high = high_name a.opening; low = low_name a.opening; out = out_name a.opening; shares = (a.opening).shares; lent = count_lent (a.fabric).lent; opened = a.fabric; asked = all_asked }
