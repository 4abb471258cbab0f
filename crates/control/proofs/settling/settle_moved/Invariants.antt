use Rattle.control.proofs.settling.settle_moved.Given as goal

-- the fabric that is to be settled
abbrev pub ghosts-settle_from : goal.ghosts-settle_from
ghosts-settle_from g a = record { from = a.fabric }
