-- What a router does with what it is told depends neither on the rows nor on the next hops that it published, and leaves these.
use Rattle.std.proofs.Common.{refl, ◌≡◌, Bool, true, false, is_none, if◌then◌else◌, List}
use Rattle.no_packet_loops.proofs.Common.{Prefix, Entry, Router}
use Rattle.single_router.specs.{declared.input.Input.Input, Inputs.told_fault, Inputs.router_after}
use Rattle.single_router.specs.declared.input.Input.TheVariants as input
use Rattle.daemon_laws.specs.Happenings.{told_router}
use Rattle.many_daemon_ways.proofs.Shown.{with_published}

-- a router that takes what it is told, or refuses it, whichever rows it published
either_way : (rows : List (Prefix × Entry)) (r : Router) (b : Bool) (new new' : Router) → new' ≡ with_published rows new → (if b then new' else with_published rows r) ≡ with_published rows (if b then new else r)
either_way rows r true new new' same = same
either_way rows r false new new' same = refl

-- what a router does with what it is told does not depend on the rows that it published
pub told_with : (x : Input) (rows : List (Prefix × Entry)) (r : Router) → told_router x (with_published rows r) ≡ with_published rows (told_router x r)
told_with (input.Up q s c) rows r = let x = input.Up q s c in either_way rows r (is_none (told_fault x r)) (router_after x r) (router_after x (with_published rows r)) refl
told_with (input.Down q) rows r = let x = input.Down q in either_way rows r (is_none (told_fault x r)) (router_after x r) (router_after x (with_published rows r)) refl
told_with (input.Cost q c) rows r = let x = input.Cost q c in either_way rows r (is_none (told_fault x r)) (router_after x r) (router_after x (with_published rows r)) refl
told_with (input.Message q s m) rows r = let x = input.Message q s m in either_way rows r (is_none (told_fault x r)) (router_after x r) (router_after x (with_published rows r)) refl
told_with (input.Attached k c) rows r = let x = input.Attached k c in either_way rows r (is_none (told_fault x r)) (router_after x r) (router_after x (with_published rows r)) refl
told_with (input.Detached k) rows r = let x = input.Detached k in either_way rows r (is_none (told_fault x r)) (router_after x r) (router_after x (with_published rows r)) refl

-- and it leaves the next hops that the router published, and what it offers
pub told_hops : (x : Input) (r : Router) → (told_router x r).hops ≡ r.hops
told_hops x r = by_test (is_none (told_fault x r))
  where
    by_input : (y : Input) → (router_after y r).hops ≡ r.hops
    by_input (input.Up q s c) = refl
    by_input _ = refl

    by_test : (b : Bool) → (if b then router_after x r else r).hops ≡ r.hops
    by_test true = by_input x
    by_test false = refl
