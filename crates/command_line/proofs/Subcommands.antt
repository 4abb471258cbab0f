-- From the subcommand that was met to what it asks for.
use Rattle.std.proofs.Common.{◌≡◌, ℕ, List, Bool, Bor, Option, Some, None, IfNone, IfSome, option_map, ◌*◌, ◌+◌, length, slice_index, Box, sym, ap, subst, ◌∙◌, codes, arith}
use Rattle.std.specs.{Box.box_value, Option.option_map_or}
use Rattle.std.proofs.lemmas.Option.{IfSome_then}
use Rattle.faults.specs.declared.kind.FaultKind.{FaultKind}
use Rattle.clap.specs.Words.{Row, Text, found_of, rows_of, subcommand_rows}
use Rattle.clap.specs.{declared.parser.matches.SubCommand.SubCommand, declared.parser.matches.ArgMatches.TheViews.out-SubCommand}
use Rattle.command_line.specs.Asked.{AsksByMatches, AsksAs, IsAsked, command_name}
use Rattle.command_line.specs.{declared.format.Format.Format, declared.words.Words.Words}
use Rattle.command_line.specs.declared.words.Words.TheVariants.{Check, Run, Replay, Time, Explain, Shell}

-- the name of the subcommand and its rows, which two clauses tell apart
pub met_rows : {Z : Type 0} (o : Option (Box SubCommand Z)) (name : Text) (rows : List Row)
    → option_map (λ b. (out-SubCommand (box_value b)).name.now) o ≡ Some name → option_map (λ p. p.1) (subcommand_rows o) ≡ Some rows
    → subcommand_rows o ≡ Some (name, rows)
met_rows None name rows e h = cc
met_rows (Some b) name rows e h =
    let n = ap (λ o. elim o [ Some v ↦ v | None ↦ name ]) e in
    let r = ap (λ o. elim o [ Some v ↦ v | None ↦ rows ]) h in
    ap (λ x. Some (x, rows_of (found_of (out-SubCommand (box_value b)).matches))) n ∙ ap (λ x. Some (name, x)) r

pub passed_on : {A : Type 0} (o : Option A) (P Q : Type 0) → (P → Q) → IfNone o P → IfNone o Q
passed_on None P Q f h = f h
passed_on (Some x) P Q f h = tt

-- what the matches of the subcommand that was met ask for
module _ (met : Option (Text × List Row)) (name : Text) (rows : List Row) (is : met ≡ Some (name, rows)) where
  pub asked : (r : Option Words) → IfSome r (AsksAs name rows) → IfSome r (IsAsked met)
  asked r some = IfSome_then r some (λ w it. (rows, is ∙ ap (λ n. Some (n, rows)) (sym it.0), it.1))

  pub none_asked : (r : Option Words) → IfNone r ((w : Words) → AsksAs name rows w → ⊥) → IfNone r ((w : Words) → IsAsked met w → ⊥)
  none_asked r none = passed_on r _ _ (λ other w it.
      let same : Some (command_name w, it.0) ≡ Some (name, rows) = sym it.1 ∙ is in
      other w (ap (λ o. option_map_or (λ p. p.0) o name) same, subst (λ r. AsksByMatches r w) (ap (λ o. option_map_or (λ p. p.1) o rows) same) it.2)) none

-- ---- what was asked for, by the name of its command

-- the names are told apart by their lengths and their first letters
abbrev name_key : Text → ℕ
name_key name = 256 * length name + slice_index name 0

module _ (P : Words → Type 0) (rows : List Row) where
  pub of_check : ((f : Bor Text) (e : Bool) → AsksByMatches rows (Check f e) → P (Check f e)) → (w : Words) → AsksAs (codes "check") rows w → P w
  of_check it (Check f e) h = it f e h.1
  of_check it _ h = absurd (omega (arith, ap name_key h.0))

  pub of_run : ((f : Bor Text) (t k : ℕ) (j : Option (Bor Text)) (n e : Bool) (o : Format) (p : Bool) → AsksByMatches rows (Run f t k j n e o p) → P (Run f t k j n e o p)) → (w : Words) → AsksAs (codes "run") rows w → P w
  of_run it (Run f t k j n e o p) h = it f t k j n e o p h.1
  of_run it _ h = absurd (omega (arith, ap name_key h.0))

  pub of_replay : ((f j : Bor Text) (e : Bool) (o : Format) (p : Bool) → AsksByMatches rows (Replay f j e o p) → P (Replay f j e o p)) → (w : Words) → AsksAs (codes "replay") rows w → P w
  of_replay it (Replay f j e o p) h = it f j e o p h.1
  of_replay it _ h = absurd (omega (arith, ap name_key h.0))

  pub of_time : ((f t : Bor Text) (s e : Bool) (o : Format) → AsksByMatches rows (Time f t s e o) → P (Time f t s e o)) → (w : Words) → AsksAs (codes "time") rows w → P w
  of_time it (Time f t s e o) h = it f t s e o h.1
  of_time it _ h = absurd (omega (arith, ap name_key h.0))

  pub of_explain : ((k : FaultKind) → AsksByMatches rows (Explain k) → P (Explain k)) → (w : Words) → AsksAs (codes "explain") rows w → P w
  of_explain it (Explain k) h = it k h.1
  of_explain it _ h = absurd (omega (arith, ap name_key h.0))

  pub of_shell : ((f : Bor Text) (j : Option (Bor Text)) (n e : Bool) (o : Format) → AsksByMatches rows (Shell f j n e o) → P (Shell f j n e o)) → (w : Words) → AsksAs (codes "shell") rows w → P w
  of_shell it (Shell f j n e o) h = it f j n e o h.1
  of_shell it _ h = absurd (omega (arith, ap name_key h.0))
