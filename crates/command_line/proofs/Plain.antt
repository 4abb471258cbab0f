-- What command lines with no options ask for.
use Rattle.std.proofs.Common.{◌≡◌, ℕ, List, [], Option, Some, None, option_map, length, slice_index, Bor, Bool, true, false, true≢false, refl, sym, ap, subst, ◌∙◌, codes, arith, unwrap_or}
use Rattle.std.specs.Option.{option_map_or}
use Rattle.clap.specs.Words.{Row, Text, first_of, one_of}
use Rattle.command_line.specs.Asked.{ChecksFile, HasFlag, HasFormat, HasNumber, IsAsked, IsFlag, IsNumberText, ReplaysFiles, RunsFile, command_name}
use Rattle.command_line.specs.{declared.format.Format.Format, declared.format.Format.TheVariants.Text as ForPeople, declared.format.Format.TheVariants.Json, declared.words.Words.Words, declared.words.Words.TheVariants.Check, declared.words.Words.TheVariants.Run, declared.words.Words.TheVariants.Replay}
use Rattle.command_line.proofs.Subcommands.{of_check, of_replay, of_run}
use Rattle.command_line.proofs.Lines.{Seen, seen, seen_check, seen_run, seen_replay}

-- a part of what the matches have
abbrev part : {X : Type 0} (of : Seen → X) (other : X) → Option Seen → X
part of other o = option_map_or of o other

abbrev pub given : Text → Bor Text
given text = record { ref_ptr = (0, 0); now = text }

one_is_one : IsNumberText (codes "1") 1
one_is_one = ((omega arith, (omega arith, tt)), refl)

the_one : (rows : List Row) (id : Text) (n : ℕ) → HasNumber rows id 16 n → one_of id rows ≡ Some (codes "1") → n ≡ 1
the_one rows id n h is =
    let same : h.0 ≡ codes "1" = ap (λ o. unwrap_or o []) (sym h.1 ∙ is) in
    (subst (λ t. IsNumberText t n) same h.2).1

-- the format that has this name
for_people : (rows : List Row) (o : Format) → HasFormat rows o → first_of (codes "format") rows ≡ Some (codes "text") → o ≡ ForPeople
for_people rows ForPeople h is = refl
for_people rows Json h is = absurd (omega (arith, ap (λ t. slice_index (unwrap_or t []) 0) (sym h ∙ is)))

-- the flag that is not given is not set
not_given : (rows : List Row) (id : Text) (is : Bool) → HasFlag rows id is → one_of id rows ≡ Some (codes "false") → is ≡ false
not_given rows id true h e = absurd (omega (arith, ap (λ o. option_map_or length o 0) (sym h ∙ e)))
not_given rows id false h e = refl

module _ (met : Option (Text × List Row)) (file : Text) where
  -- ---- what was asked for is what the line says

  pub check_asked : (w : Words) → IsAsked met w → seen met ≡ Some (seen_check file) → ChecksFile file w
  check_asked w h is =
      let here : seen (Some (command_name w, h.0)) ≡ Some (seen_check file) = ap seen (sym h.1) ∙ is in
      of_check (ChecksFile file) h.0 (λ f e asks. (ap (λ o. unwrap_or o []) (sym asks.0 ∙ ap (part (λ s. s.file) None) here), asks.1.1 (ap (part (λ s. s.explain) None) here)))
      w (ap (part (λ s. s.name) []) here, h.2)

  pub run_asked : (w : Words) → IsAsked met w → seen met ≡ Some (seen_run file) → RunsFile file w
  run_asked w h is =
      let here : seen (Some (command_name w, h.0)) ≡ Some (seen_run file) = ap seen (sym h.1) ∙ is in
      of_run (RunsFile file) h.0 (λ f t k j n e o p asks. (
        ap (λ o. unwrap_or o []) (sym asks.0 ∙ ap (part (λ s. s.file) None) here),
        the_one h.0 (codes "threads") t asks.1 (ap (part (λ s. s.threads) None) here),
        the_one h.0 (codes "workers") k asks.2 (ap (part (λ s. s.workers) None) here),
        no_path j (sym asks.3 ∙ ap (part (λ s. s.journal) None) here),
        asks.4.1 (ap (part (λ s. s.explain) None) here),
        for_people h.0 o asks.5 (ap (part (λ s. s.format) None) here),
        asks.6.1 (ap (part (λ s. s.progress) None) here),
        not_given h.0 (codes "no-journal") n asks.7 (ap (part (λ s. s.no_journal) None) here),
      )) w (ap (part (λ s. s.name) []) here, h.2)
    where
      no_path : (j : Option (Bor Text)) → option_map (λ path. path.now) j ≡ None → j ≡ None
      no_path None e = refl
      no_path (Some p) e = cc

  pub replay_asked : (journal : Text) (w : Words) → IsAsked met w → seen met ≡ Some (seen_replay file journal) → ReplaysFiles file journal w
  replay_asked journal w h is =
      let here : seen (Some (command_name w, h.0)) ≡ Some (seen_replay file journal) = ap seen (sym h.1) ∙ is in
      of_replay (ReplaysFiles file journal) h.0 (λ f j e o p asks. (
        ap (λ o. unwrap_or o []) (sym asks.0 ∙ ap (part (λ s. s.file) None) here),
        ap (λ o. unwrap_or o []) (sym asks.1 ∙ ap (part (λ s. s.journal) None) here),
        asks.2.1 (ap (part (λ s. s.explain) None) here),
        for_people h.0 o asks.3 (ap (part (λ s. s.format) None) here),
        asks.4.1 (ap (part (λ s. s.progress) None) here),
      )) w (ap (part (λ s. s.name) []) here, h.2)

-- ---- something was asked for

-- an option that is left out is no flag
not_set : (rows : List Row) (id : Text) → one_of id rows ≡ Some (codes "false") → IsFlag rows id false
not_set rows id is = (λ e. let bad : Some (codes "false") ≡ Some (codes "true") = sym is ∙ e in absurd (omega (arith, ap (λ o. option_map_or length o 0) bad)), λ e. refl)

pub check_asks : (met : Option (Text × List Row)) (file : Text) → seen met ≡ Some (seen_check file) → IsAsked met (Check (given file) false)
check_asks None file is = cc
check_asks (Some p) file is =
    (p.1, ap (λ n. Some (n, p.1)) (ap (part (λ s. s.name) []) is), (ap (part (λ s. s.file) None) is, not_set p.1 (codes "explain") (ap (part (λ s. s.explain) None) is)))

pub run_asks : (met : Option (Text × List Row)) (file : Text) → seen met ≡ Some (seen_run file) → IsAsked met (Run (given file) 1 1 None false false ForPeople false)
run_asks None file is = cc
run_asks (Some p) file is = (
  p.1,
  ap (λ n. Some (n, p.1)) (ap (part (λ s. s.name) []) is),
  (
    ap (part (λ s. s.file) None) is,
    (codes "1", ap (part (λ s. s.threads) None) is, one_is_one, omega arith, omega arith),
    (codes "1", ap (part (λ s. s.workers) None) is, one_is_one, omega arith, omega arith),
    ap (part (λ s. s.journal) None) is,
    not_set p.1 (codes "explain") (ap (part (λ s. s.explain) None) is),
    ap (part (λ s. s.format) None) is,
    not_set p.1 (codes "progress") (ap (part (λ s. s.progress) None) is),
    ap (part (λ s. s.no_journal) None) is,
    λ e. absurd (true≢false (sym e)),
  ),
)

pub replay_asks : (met : Option (Text × List Row)) (file journal : Text) → seen met ≡ Some (seen_replay file journal) → IsAsked met (Replay (given file) (given journal) false ForPeople false)
replay_asks None file journal is = cc
replay_asks (Some p) file journal is = (
  p.1,
  ap (λ n. Some (n, p.1)) (ap (part (λ s. s.name) []) is),
  (
    ap (part (λ s. s.file) None) is,
    ap (part (λ s. s.journal) None) is,
    not_set p.1 (codes "explain") (ap (part (λ s. s.explain) None) is),
    ap (part (λ s. s.format) None) is,
    not_set p.1 (codes "progress") (ap (part (λ s. s.progress) None) is),
  ),
)
