-- What one end was told last: once it has taken all that is on its way to it, the distance of the other.
use Rattle.std.proofs.Common.{refl, sym, ◌∙◌, ap, inl, inr, ◌≡◌, ℕ, true, false, if◌then◌else◌, List, [], ◌∷◌, ◌++◌, Option, Some, None}
use Rattle.network_model.proofs.Common.{cases_Bool, Report, infinity}
use Rattle.network_model.specs.declared.machine.Outgoing.{Outgoing}
use Rattle.loop_freedom.specs.Facts.{End, pipe}
use Rattle.loop_freedom.proofs.{Lists.front, Link.Answered, Link.heard, Link.EndStep, OnTheWay.reports_of}
use Rattle.loop_freedom.proofs.LinkSteps.{LinkStep, swapped, pipe_old, pipe_new, step_answered}
use Rattle.least_cost.proofs.Told.{last_sent}

-- the last value of these messages, after v
abbrev pub last_value : ℕ → List Report → ℕ
last_value v [] = v
last_value v (m ∷ ms) = last_value m.value ms

-- the last value of two lists in a row is the last of the second, after that of the first
last_append : (v : ℕ) (xs ys : List Report) → last_value v (xs ++ ys) ≡ last_value (last_value v xs) ys
last_append v [] ys = refl
last_append v (x ∷ xs) ys = last_append x.value xs ys

-- the last value of what is sent
pub last_reports : (v : ℕ) (ss : List Outgoing) → last_value v (reports_of ss) ≡ last_sent v ss
last_reports v [] = refl
last_reports v (s ∷ ss) = last_reports s.value ss

-- the last value after a message that may have been taken
last_front : (v : ℕ) (t : Option Report) (ms : List Report) → last_value v (front t ++ ms) ≡ last_value (heard t v) ms
last_front v None ms = refl
last_front v (Some m) ms = refl

-- what the end keeps of the other; nothing, where it is not in the session
abbrev pub listens : End → ℕ
listens x = if x.current then x.reported else infinity

-- once the end x has taken all that is on its way, it knows the distance of y, if that is in the session
pub record Told (x y : End) : Type 0 where
  pub last_is : y.current ≡ true → last_value (listens x) (pipe y) ≡ y.rd
  pub answers : Answered x y

-- what a step adds ends in the distance after it
pub record Speaks (y y' : End) (added : List Report) : Type 0 where
  pub stays : y.current ≡ true → y'.current ≡ true → last_value y.rd added ≡ y'.rd
  pub comes : y.current ≡ false → y'.current ≡ true → last_value infinity added ≡ y'.rd

-- what an end keeps after a step is what it took, or else what it kept
listens_after : {x x' : End} {taken : Option Report} {added : List Report} → EndStep x x' taken added → listens x' ≡ heard taken (listens x)
listens_after {x} {x'} {taken} S = elim (cases_Bool x.current) [
  | inl on ↦
      let now : listens x' ≡ x'.reported = ap (λ b. if b then x'.reported else infinity) (S.current_stays on) in
      let was : listens x ≡ x.reported = ap (λ b. if b then x.reported else infinity) on in
      now ∙ S.reports on ∙ ap (heard taken) (sym was)
  | inr off ↦
      let was : listens x ≡ infinity = ap (λ b. if b then x.reported else infinity) off in
      let none : heard taken (listens x) ≡ infinity = ap (λ t. heard t (listens x)) (S.takes_nothing off) ∙ was in
      elim (cases_Bool x'.current) [
        | inl on' ↦ ap (λ b. if b then x'.reported else infinity) on' ∙ S.comes off on' ∙ sym none
        | inr off' ↦ ap (λ b. if b then x'.reported else infinity) off' ∙ sym none
      ]
]

-- a step at either end keeps it
pub told_keeps : {x y x' y' : End} {tx ty : Option Report} {ax ay : List Report} → LinkStep x y x' y' tx ty ax ay → Speaks y y' ay → Told x y → Told x' y'
told_keeps {x} {y} {x'} {y'} {tx} {ty} {ax} {ay} J P T = record { last_is = told; answers = step_answered J T.answers }
  where
    after : last_value (listens x') (pipe y') ≡ last_value (last_value (listens x) (pipe y)) ay
    after =
        ap (last_value (listens x')) (pipe_new (swapped J))
        ∙ last_append (listens x') (y'.out ++ y.kept) ay
        ∙ ap (λ v. last_value (last_value v (y'.out ++ y.kept)) ay) (listens_after J.here)
        ∙ ap (λ v. last_value v ay) (sym (last_front (listens x) tx (y'.out ++ y.kept)))
        ∙ ap (λ ms. last_value (last_value (listens x) ms) ay) (sym (pipe_old (swapped J)))

    told : y'.current ≡ true → last_value (listens x') (pipe y') ≡ y'.rd
    told on' = elim (cases_Bool y.current) [
      | inl on ↦ after ∙ ap (λ v. last_value v ay) (T.last_is on) ∙ P.stays on on'
      | inr off ↦
          let empty : pipe y ≡ [] = (J.two).nothing_sent off in
          let start : listens x ≡ infinity = elim (cases_Bool x.current) [
            | inl c ↦ ap (λ b. if b then x.reported else infinity) c ∙ (J.two).unheard off c
            | inr c ↦ ap (λ b. if b then x.reported else infinity) c
          ] in
          after ∙ ap (λ ms. last_value (last_value (listens x) ms) ay) empty ∙ ap (λ v. last_value v ay) start ∙ P.comes off on'
    ]
