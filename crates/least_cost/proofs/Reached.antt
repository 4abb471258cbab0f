-- Two routers and a link of cost 7 between them, in a run that comes to rest: the example of `loop_freedom`, with two steps more.
use Rattle.std.proofs.Common.{◌≡◌, ℕ, zero, suc, ◌<◌, ◌≤◌, Bool, true, false, ◌||◌, [], Some, refl, sym, ap, subst, ◌∙◌, arith, inl, inr, ◌==◌, eqb-true}
use Rattle.network_model.proofs.Common.{and_parts, or_cases, same_Some, none-some, Update, port_successor, LinkEnd, Reported, Report, SeenHeld, State, at_port}
use Rattle.machine_laws.specs.Laws.{is_active}
use Rattle.loop_freedom.specs.Network.{Run, Then, Takes, Releases, next_hop_of}
use Rattle.least_cost.specs.Reached.{QuietRun}
use Rattle.loop_freedom.proofs.Example.{do_take, takes, do_release, releases, pair, port_zero, home_if, s0, opens, here, beyond, s7, reaches}

-- the cost at which a router is attached is no greater than costs may be
home_cheap : (b : Bool) (c : ℕ) → home_if b ≡ Some c → c ≤ 65535
home_cheap true c e = omega (arith, same_Some 1 c e)
home_cheap false c e = absurd (none-some c e)

-- the other router's message: it is at distance 8
abbrev eight_away : Report
eight_away = record { kind = Update; value = 8 }

-- it is held for the first session
abbrev held_away : SeenHeld
held_away = record { session = 1; message = eight_away }

-- the other router has released its message
abbrev s8 : State
s8 = do_release pair s7 beyond held_away []

-- the attached router has taken it, and all is at rest
abbrev s9 : State
s9 = do_take s8 here (Reported eight_away) []

-- the steps lead from the opening to rest
runs : Run pair s0 s9
runs = Then (Then reaches
    (Releases (releases pair s7 beyond held_away [] refl refl)))
    (Takes (takes pair s8 here (Reported eight_away) [] refl refl))

-- what holds of both routers holds of each
pub each_router : (P : ℕ → Type 0) → P 0 → P 1 → (i : ℕ) → i < 2 → P i
each_router P f g zero l = f
each_router P f g (suc zero) l = g
each_router P f g (suc (suc i)) l = absurd (omega (arith, l))

-- what holds of both places holds of each
pub each_place : (P : LinkEnd → Type 0) → P here → P beyond → (e : LinkEnd) → pair.valid e ≡ true → P e
each_place P f g e v =
    let port : e.port ≡ 0 = port_zero e v in
    let is : (r : ℕ) → e.router ≡ r → e ≡ at_port r 0 = λ r router. ap (λ (n : ℕ). at_port n e.port) router ∙ ap (λ (n : ℕ). at_port r n) port in
    elim (or_cases (e.router == 0) (e.router == 1) ((and_parts ((e.router == 0) || (e.router == 1)) (e.port == 0) v).0)) [
      | inl b ↦ subst P (sym (is 0 (eqb-true e.router 0 b))) f
      | inr b ↦ subst P (sym (is 1 (eqb-true e.router 1 b))) g
    ]

-- the run ends quiet, with the other router at distance 8 by way of its port 0
pub quiet_run : QuietRun
quiet_run = record {
  topology = pair;
  first = s0;
  last = s9;
  opening = opens;
  run = runs;
  placed = each_place (λ e. e.router < 2) (omega arith) (omega arith);
  cheap = each_place (λ e. s9.cost e ≤ 65535) (omega arith) (omega arith);
  cheap_home = λ i c l e. each_router (λ i. (c : ℕ) → (s9.machine i).attachment ≡ Some c → c ≤ 65535) (home_cheap true) (home_cheap false) i l c e;
  quiet = record {
    passive = each_router (λ i. is_active (s9.machine i) ≡ false) refl refl;
    inbox_empty = each_place (λ e. s9.inbox e ≡ []) refl refl;
    ripe_empty = each_place (λ e. s9.ripe e ≡ []) refl refl;
    unripe_empty = each_place (λ e. s9.unripe e ≡ []) refl refl;
    published_is = each_router (λ i. s9.published i ≡ next_hop_of (λ q. s9.seen (at_port i q)) (port_successor (s9.machine i))) refl refl;
  };
  distance = refl;
  successor = refl;
}
