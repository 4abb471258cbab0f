-- Machines by prefix: one that was not heard of stays as it was opened, and what all of them send.
use Rattle.std.proofs.Common.{refl, sym, ap, ◌∙◌, ◌≡◌, ℕ, zero, suc, Bool, true, false, cond, List, [], ◌∷◌, ◌++◌, map, Some, None, append-nil}
use Rattle.no_packet_loops.proofs.Common.{option_map_or, and_parts, Prefix, prefix_cmp, prefix_eq, Neighbour, Event, Up, Down, Cost, Reaction, reaction, opening_machine, least, records_after, changed_at, infinity, Held, Port, neighbours, session_at, held_of, Some_injective, None_not_Some, changed_at-map, kept, prefix_cmp_total, prefix_eq-Decides, equal_from_test, less_from_test, sent_to, NothingHeard, least_unheard, held_for, flat_map, is_eq, is_lt, find as row_of, is_sorted, below_all}
use Rattle.no_packet_loops.proofs.View.{kept-append, kept-sent, kept-other}

-- ---- a machine that has heard nothing

-- nothing is reported at the ports of a machine that is opened
unreported : (ports : List Port) → NothingHeard (neighbours ports)
unreported [] q n e = absurd (None_not_Some e)
unreported (x ∷ xs) zero n e = ap (λ (y : Neighbour). y.reported) (sym (Some_injective e))
unreported (x ∷ xs) (suc q) n e = unreported xs q n e

-- a notice makes of a machine that heard nothing the one that would be opened after it, and sends nothing
pub record StaysOpened (e : Event) (q : ℕ) (change : Port → Port) (ports : List Port) : Type 0 where
  pub machine_is : (reaction (opening_machine None (neighbours ports)) e).machine ≡ opening_machine None (neighbours (changed_at q change ports))
  pub sends_none : (reaction (opening_machine None (neighbours ports)) e).sends ≡ []

module _ (ports : List Port) (q : ℕ) where
  -- a link that comes up leaves a machine that heard nothing as opened
  pub up_opened : (session cost : ℕ) → StaysOpened (Up q cost) q (λ p. record { up = true; session = session; cost = cost }) ports
  up_opened session cost = record { machine_is = ap (opening_machine None) (changed_at-map _ (λ p. record { up = true; session = session; cost = cost }) _ (λ x. refl) q ports); sends_none = refl }

  -- so does a link that goes down, by the records after it
  quiet_down : least (records_after (Down q) (neighbours ports) ++ []) ≡ infinity → (ports' : List Port) → records_after (Down q) (neighbours ports) ≡ neighbours ports'
      → ((reaction (opening_machine None (neighbours ports)) (Down q)).machine ≡ opening_machine None (neighbours ports')) × ((reaction (opening_machine None (neighbours ports)) (Down q)).sends ≡ [])
  quiet_down l ports' same = (rw l (ap (opening_machine None) same), rw l refl)

  -- a link that goes down leaves a machine that heard nothing as opened
  pub down_opened : (session : ℕ) → StaysOpened (Down q) q (λ p. record p { up = false; session = session }) ports
  down_opened session =
      let ports' = changed_at q (λ (p : Port). record p { up = false; session = session }) ports in
      let same : records_after (Down q) (neighbours ports) ≡ neighbours ports' = changed_at-map _ (λ p. record p { up = false; session = session }) _ (λ x. refl) q ports in
      let l : least (records_after (Down q) (neighbours ports) ++ []) ≡ infinity = ap least (append-nil (records_after (Down q) (neighbours ports))) ∙ ap least same ∙ least_unheard (neighbours ports') (unreported ports') in
      let r = quiet_down l ports' same in
      record { machine_is = r.0; sends_none = r.1 }

  -- so does a cost that changes, by the records after it
  quiet_cost : (cost : ℕ) → least (records_after (Cost q cost) (neighbours ports) ++ []) ≡ infinity → (ports' : List Port) → records_after (Cost q cost) (neighbours ports) ≡ neighbours ports'
      → ((reaction (opening_machine None (neighbours ports)) (Cost q cost)).machine ≡ opening_machine None (neighbours ports')) × ((reaction (opening_machine None (neighbours ports)) (Cost q cost)).sends ≡ [])
  quiet_cost cost l ports' same = (rw l (ap (opening_machine None) same), rw l refl)

  -- a cost that changes leaves a machine that heard nothing as opened
  pub cost_opened : (session cost : ℕ) → StaysOpened (Cost q cost) q (λ p. record p { session = session; cost = cost }) ports
  cost_opened session cost =
      let ports' = changed_at q (λ (p : Port). record p { session = session; cost = cost }) ports in
      let same : records_after (Cost q cost) (neighbours ports) ≡ neighbours ports' = changed_at-map _ (λ p. record p { session = session; cost = cost }) _ (λ x. refl) q ports in
      let l : least (records_after (Cost q cost) (neighbours ports) ++ []) ≡ infinity = ap least (append-nil (records_after (Cost q cost) (neighbours ports))) ∙ ap least same ∙ least_unheard (neighbours ports') (unreported ports') in
      let r = quiet_cost cost l ports' same in
      record { machine_is = r.0; sends_none = r.1 }

-- ---- rows in the order of their prefixes

-- prefixes that are equal by the test are one prefix
pub prefix_same : (p k : Prefix) → prefix_eq p k ≡ true → p ≡ k
prefix_same p k e = (prefix_eq-Decides p k).0 e

-- a prefix is equal to itself by the test
pub prefix_itself : (p : Prefix) → prefix_eq p p ≡ true
prefix_itself p = (prefix_eq-Decides p p).1 refl

-- a prefix before another is another
not_tied : (p k j : Prefix) → prefix_eq p k ≡ true → is_lt (prefix_cmp k j) ≡ true → prefix_eq p j ≡ false
not_tied p k j same less = ap is_eq (prefix_cmp_total.congr p k j (equal_from_test (prefix_cmp p k) same) ∙ less_from_test (prefix_cmp k j) less)

-- ---- what the machines of a router send

module _ (p : Prefix) (q : ℕ) (ports : List Port) where
  -- all that the machines of a router send, as held for its ports
  abbrev pub sent : List (Prefix × Reaction) → List Held
  sent es = flat_map (λ x. map (held_of ports x.0) (x.1).sends) es

  -- where the prefix is before those of all rows, nothing of it is sent
  none_sent : (k : Prefix) (es : List (Prefix × Reaction)) → prefix_eq p k ≡ true → below_all prefix_cmp k es ≡ true → kept p q (sent es) ≡ []
  none_sent k [] same h = refl
  none_sent k (e ∷ es) same h =
      kept-append p q (map (held_of ports e.0) (e.1).sends) (sent es)
      ∙ ap (λ xs. xs ++ kept p q (sent es)) (kept-other p q ports e.0 (not_tied p k e.0 same (and_parts (is_lt (prefix_cmp k e.0)) (below_all prefix_cmp k es) h).0) (e.1).sends)
      ∙ none_sent k es same (and_parts (is_lt (prefix_cmp k e.0)) (below_all prefix_cmp k es) h).1

  -- of all that the machines of a router send, what the machine of the prefix sent to port q is kept for q
  pub kept_reactions : (es : List (Prefix × Reaction)) → is_sorted prefix_cmp es ≡ true → kept p q (sent es) ≡ held_for (session_at ports q) (sent_to q (option_map_or (λ x. x.sends) (row_of prefix_cmp p es) []))
  kept_reactions [] h = refl
  kept_reactions (e ∷ es) h =
      kept-append p q (map (held_of ports e.0) (e.1).sends) (sent es)
      ∙ by_row (prefix_eq p e.0) refl (and_parts (below_all prefix_cmp e.0 es) (is_sorted prefix_cmp es) h).0 (kept_reactions es (and_parts (below_all prefix_cmp e.0 es) (is_sorted prefix_cmp es) h).1)
    where
      by_row : (b : Bool) → prefix_eq p e.0 ≡ b → below_all prefix_cmp e.0 es ≡ true → kept p q (sent es) ≡ held_for (session_at ports q) (sent_to q (option_map_or (λ x. x.sends) (row_of prefix_cmp p es) []))
          → kept p q (map (held_of ports e.0) (e.1).sends) ++ kept p q (sent es) ≡ held_for (session_at ports q) (sent_to q (option_map_or (λ x. x.sends) (cond b (Some e.1) (row_of prefix_cmp p es)) []))
      by_row true is below rest =
          ap (λ xs. kept p q (map (held_of ports e.0) (e.1).sends) ++ xs) (none_sent e.0 es is below)
          ∙ append-nil (kept p q (map (held_of ports e.0) (e.1).sends))
          ∙ kept-sent p q ports e.0 is (e.1).sends
      by_row false is below rest = ap (λ xs. xs ++ kept p q (sent es)) (kept-other p q ports e.0 is (e.1).sends) ∙ rest
