use Rattle.std.proofs.Common.{◌≡◌, [], Bool, not, ◌&&◌, ◌||◌, nat_lt, List, filter, length, sym, ap, ◌∙◌}
use Rattle.no_packet_loops.proofs.Common.{LinkSpec, Limits, BadLink, TooManyLinks, list_any, has_same_ends, is_link_too_many, touches}
use Rattle.world.proofs.{Faults.two_tests, Faults.second_test, Faults.no_test, LinksAtRouters.twins_at_ends, LinksAtRouters.too_many_by_lists}
use Rattle.world.proofs.link_faults.fault_after.Goals as goal

-- a link has a twin where one of those at its ends is one
twin_is : (s : LinkSpec) (before of_a of_b : List LinkSpec) (found : Bool) → of_a ≡ filter (touches s.a) before → of_b ≡ filter (touches s.b) before
    → found ≡ (list_any (has_same_ends s) of_a || list_any (has_same_ends s) of_b) → list_any (has_same_ends s) before ≡ found
twin_is s before of_a of_b found at_a at_b is = sym (is ∙ (λ j. list_any (has_same_ends s) (at_a j) || list_any (has_same_ends s) (at_b j)) ∙ sym (twins_at_ends s before))

-- it is one too many where there is no room
too_many_is : (limits : Limits) (s : LinkSpec) (before of_a of_b : List LinkSpec) (room : Bool) → of_a ≡ filter (touches s.a) before → of_b ≡ filter (touches s.b) before
    → room ≡ (nat_lt (length before) limits.links && nat_lt (length of_a) limits.ports && nat_lt (length of_b) limits.ports) → is_link_too_many limits before s ≡ not room
too_many_is limits s before of_a of_b room at_a at_b is =
    sym (ap not is ∙ (λ j. not (nat_lt (length before) limits.links && nat_lt (length (at_a j)) limits.ports && nat_lt (length (at_b j)) limits.ports)) ∙ sym (too_many_by_lists limits before s))

pub returns-then-has_twin_at_ends : goal.returns-then-has_twin_at_ends
returns-then-has_twin_at_ends c =
    let s = c.args.link.now in
    let before = c.args.before.now in
    sym (two_tests (list_any (has_same_ends s) before) (is_link_too_many c.args.limits.now before s) (BadLink (length before)) (TooManyLinks (length before)) []
    (twin_is s before c.args.of_a.now c.args.of_b.now c.has_twin_at_ends.result c.requires.of_a c.requires.of_b c.has_twin_at_ends.ensures ∙ c.if-has_twin_at_ends.true))

pub returns-then-not-has_room : goal.returns-then-not-has_room
returns-then-not-has_room c =
    let s = c.args.link.now in
    let before = c.args.before.now in
    sym (second_test (list_any (has_same_ends s) before) (is_link_too_many c.args.limits.now before s) (BadLink (length before)) (TooManyLinks (length before)) []
    (twin_is s before c.args.of_a.now c.args.of_b.now c.has_twin_at_ends.result c.requires.of_a c.requires.of_b c.has_twin_at_ends.ensures ∙ c.if-has_twin_at_ends.false)
    (too_many_is c.args.limits.now s before c.args.of_a.now c.args.of_b.now c.has_room.result c.requires.of_a c.requires.of_b c.has_room.ensures ∙ ap not c.if-not-has_room.true))

pub returns : goal.returns
returns c =
    let s = c.args.link.now in
    let before = c.args.before.now in
    sym (no_test (list_any (has_same_ends s) before) (is_link_too_many c.args.limits.now before s) (BadLink (length before)) (TooManyLinks (length before)) []
    (twin_is s before c.args.of_a.now c.args.of_b.now c.has_twin_at_ends.result c.requires.of_a c.requires.of_b c.has_twin_at_ends.ensures ∙ c.if-has_twin_at_ends.false)
    (too_many_is c.args.limits.now s before c.args.of_a.now c.args.of_b.now c.has_room.result c.requires.of_a c.requires.of_b c.has_room.ensures ∙ ap not c.if-not-has_room.false))
