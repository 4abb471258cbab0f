-- What a router's machines do at an event, one after another.
use Rattle.std.proofs.Common.{refl, sym, ap, ◌∙◌, arith, append_assoc, add-one, ◌≡◌, ℕ, suc, ◌+◌, ◌*◌, ◌<◌, ◌≤◌, Bool, true, false, cond, List, [], ◌∷◌, ◌++◌, map, length, take, drop, get_or, set, Some, is_some, IsSome}
use Rattle.network_model.proofs.Common.{find-put, map-append, Prefix, prefix_cmp, prefix_eq, Machine, reaction, reactions, held_of, chosen_rows, entry_of, with_rows, prefix_cmp_total, flat_map, find as row_of, put}
use Rattle.network_model.specs.{declared.item.Held.Held, declared.machine.Event.Event, declared.network.Port.Port, declared.route.Entry.Entry}
use Rattle.std.proofs.{Math.Seq.take-suc-set, Math.Seq.drop-cons, Math.Nat.mul-le-mul_right}
use Rattle.dual_machine.specs.State.{MachineState}
use Rattle.router_core.specs.Parts.{machines_of}

abbrev pub reacted : Event → List (Prefix × Machine) → List (Prefix × Machine)
reacted e ms = map (λ x. (x.0, (x.1).machine)) (reactions e ms)

-- what they send is held
abbrev pub sent : Event → List Port → List (Prefix × Machine) → List Held
sent e ports ms = flat_map (λ x. map (held_of ports x.0) (x.1).sends) (reactions e ms)

-- the rows that they choose
abbrev pub chosen : Event → List Port → List (Prefix × Machine) → List (Prefix × Entry)
chosen e ports ms = chosen_rows ports (reacted e ms)

-- a row that is there stays there
pub still_there : (p q : Prefix) (v : Entry) (rows : List (Prefix × Entry)) → IsSome (row_of prefix_cmp p rows) → IsSome (row_of prefix_cmp p (put prefix_cmp q v rows))
still_there p q v rows there = rw (find-put prefix_cmp prefix_cmp_total p q v rows) (by_key (prefix_eq p q))
  where
    by_key : (b : Bool) → is_some (cond b (Some v) (row_of prefix_cmp p rows)) ≡ true
    by_key true = refl
    by_key false = there

-- two lists that are one from place i on have one element there, and are one after it
module _ {A : Type 0} (xs ys : List A) (i : ℕ) (d : A) (below_xs : i < length xs) (below_ys : i < length ys) (same : drop i xs ≡ drop i ys) where
  parts : get_or xs i d ∷ drop (suc i) xs ≡ get_or ys i d ∷ drop (suc i) ys
  parts = sym (drop-cons xs i d below_xs) ∙ same ∙ drop-cons ys i d below_ys

  pub same_here : get_or xs i d ≡ get_or ys i d
  same_here = let p : get_or xs i d ∷ drop (suc i) xs ≡ get_or ys i d ∷ drop (suc i) ys = parts in cc

  pub same_after : drop (suc i) xs ≡ drop (suc i) ys
  same_after = let p : get_or xs i d ∷ drop (suc i) xs ≡ get_or ys i d ∷ drop (suc i) ys = parts in cc

-- room for the machines that are left is room for one of them
pub one_more_room : (n i each room : ℕ) → i < n → n * each ≤ room + i * each → each ≤ room
one_more_room n i each room below enough =
    let up_to : (i + 1) * each ≤ n * each = mul-le-mul_right each (omega arith) in
    omega (arith, up_to, enough)

-- machine number i, which is m, met the event, and is machine y now
module _ (e : Event) (ports : List Port) (before now : List (Prefix × MachineState)) (i : ℕ) (m : Prefix × MachineState) (y : MachineState)
    (below : i < length before) (at : m ≡ get_or before i m) (met : y.machine ≡ (reaction (m.1).machine e).machine) where
  pub left : drop i before ≡ m ∷ drop (i + 1) before
  left = drop-cons before i m below ∙ ap (λ x. x ∷ drop (suc i) before) (sym at) ∙ ap (λ n. m ∷ drop n before) (sym (add-one i))

  pub machines-met : i < length now → machines_of (take i now) ++ reacted e (machines_of (drop i before)) ≡ reacted e (machines_of before)
      → machines_of (take (i + 1) (set now i (m.0, y))) ++ reacted e (machines_of (drop (i + 1) before)) ≡ reacted e (machines_of before)
  machines-met there so_far =
      ap (λ xs. machines_of xs ++ reacted e (machines_of (drop (i + 1) before))) (ap (λ n. take n (set now i (m.0, y))) (add-one i) ∙ take-suc-set now i (m.0, y) there)
      ∙ ap (λ xs. xs ++ reacted e (machines_of (drop (i + 1) before))) (map-append (λ (x : Prefix × MachineState). (x.0, (x.1).machine)) (take i now) ((m.0, y) ∷ []))
      ∙ append_assoc (machines_of (take i now)) ((m.0, y.machine) ∷ []) (reacted e (machines_of (drop (i + 1) before)))
      ∙ ap (λ x. machines_of (take i now) ++ (m.0, x) ∷ reacted e (machines_of (drop (i + 1) before))) met
      ∙ ap (λ xs. machines_of (take i now) ++ reacted e (machines_of xs)) (sym left)
      ∙ so_far

  pub control-met : (old new all : List (Prefix × Entry)) → new ≡ put prefix_cmp m.0 (entry_of ports y.machine) old
      → with_rows (chosen e ports (machines_of (drop i before))) old ≡ all → with_rows (chosen e ports (machines_of (drop (i + 1) before))) new ≡ all
  control-met old new all set_is so_far =
      ap (with_rows (chosen e ports (machines_of (drop (i + 1) before)))) (set_is ∙ ap (λ x. put prefix_cmp m.0 (entry_of ports x) old) met)
      ∙ ap (λ xs. with_rows (chosen e ports (machines_of xs)) old) (sym left)
      ∙ so_far

  pub held-met : (old new all : List Held) → new ≡ old ++ map (held_of ports m.0) (reaction (m.1).machine e).sends
      → old ++ sent e ports (machines_of (drop i before)) ≡ all → new ++ sent e ports (machines_of (drop (i + 1) before)) ≡ all
  held-met old new all held_is so_far =
      ap (λ xs. xs ++ sent e ports (machines_of (drop (i + 1) before))) held_is
      ∙ append_assoc old (map (held_of ports m.0) (reaction (m.1).machine e).sends) (sent e ports (machines_of (drop (i + 1) before)))
      ∙ ap (λ xs. old ++ sent e ports (machines_of xs)) (sym left)
      ∙ so_far
