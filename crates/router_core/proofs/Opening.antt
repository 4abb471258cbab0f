-- A router that opens, one of its attachments after another, from the last to the first.
use Rattle.std.proofs.Common.{refl, sym, ap, ◌∙◌, arith, ◌≡◌, ℕ, suc, ◌-◌, ◌<◌, ◌≤◌, true, List, [], ◌∷◌, map, drop, length, get_or, Some}
use Rattle.network_model.proofs.Common.{put, is_sorted, infinity, Prefix, prefix_cmp, Machine, opening_machine, neighbours, rows_of, map-put, sorted-map}
use Rattle.network_model.specs.{declared.network.Port.Port, declared.route.Entry.Entry, declared.route.Entry.TheVariants.Local}
use Rattle.std.proofs.Math.Seq.{drop-cons}
use Rattle.dual_machine.specs.State.{MachineState, opening_neighbours}
use Rattle.router_core.specs.Parts.{machines_of}

-- the ports as machines meet them first
pub neighbours-infos : (ports : List Port) → opening_neighbours (map (λ (p : Port). record { up = p.up; cost = p.cost }) ports) ≡ neighbours ports
neighbours-infos [] = refl
neighbours-infos (p ∷ ps) = ap (λ ns. record { up = p.up; cost = p.cost; reported = infinity } ∷ ns) (neighbours-infos ps)

-- one attachment more at the front
pub rows_of-earlier : {X : Type 0} (rows : List (Prefix × X)) (i : ℕ) (r : Prefix × X) → 0 < i → i ≤ length rows → r ≡ get_or rows (i - 1) r → rows_of (drop (i - 1) rows) ≡ put prefix_cmp r.0 r.1 (rows_of (drop i rows))
rows_of-earlier rows i r some within at =
    let next : suc (i - 1) ≡ i = omega arith in
    ap rows_of (drop-cons rows (i - 1) r (omega arith) ∙ ap (λ q. q ∷ drop (suc (i - 1)) rows) (sym at) ∙ ap (λ n. r ∷ drop n rows) next)

-- the machines of a router that opens with these attachments, and its rows
abbrev pub opening_machines : List Port → List (Prefix × ℕ) → List (Prefix × Machine)
opening_machines ports costs = map (λ a. (a.0, opening_machine (Some a.1) (neighbours ports))) costs

abbrev pub local_rows : List (Prefix × ℕ) → List (Prefix × Entry)
local_rows costs = map (λ a. (a.0, Local)) costs

pub opening_machines-put : (ports : List Port) (p : Prefix) (cost : ℕ) (costs : List (Prefix × ℕ))
    → opening_machines ports (put prefix_cmp p cost costs) ≡ put prefix_cmp p (opening_machine (Some cost) (neighbours ports)) (opening_machines ports costs)
opening_machines-put ports p cost costs = map-put prefix_cmp (λ (x : ℕ). opening_machine (Some x) (neighbours ports)) p cost costs

pub local_rows-put : (p : Prefix) (cost : ℕ) (costs : List (Prefix × ℕ)) → local_rows (put prefix_cmp p cost costs) ≡ put prefix_cmp p Local (local_rows costs)
local_rows-put p cost costs = map-put prefix_cmp (λ (x : ℕ). Local) p cost costs

-- machines that are those of these prefixes are in order
pub sorted-machines : (ms : List (Prefix × MachineState)) (rows : List (Prefix × Machine)) → machines_of ms ≡ rows → is_sorted prefix_cmp rows ≡ true → is_sorted prefix_cmp ms ≡ true
sorted-machines ms rows same sorted = sym (sorted-map prefix_cmp (λ s. s.machine) ms) ∙ ap (is_sorted prefix_cmp) same ∙ sorted

pub machines_of-put : (p : Prefix) (s : MachineState) (ms : List (Prefix × MachineState)) → machines_of (put prefix_cmp p s ms) ≡ put prefix_cmp p s.machine (machines_of ms)
machines_of-put p s ms = map-put prefix_cmp (λ x. x.machine) p s ms
