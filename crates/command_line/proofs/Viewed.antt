-- Matches that ask for the states of no run, or of two.
use Rattle.std.proofs.Common.{◌≡◌, true, List, Option, Some, None, is_some, option_map, true≢false, Bor, refl, sym, ◌∙◌, codes}
use Rattle.clap.specs.Words.{Row, Text, first_of}
use Rattle.command_line.specs.{View.IsView, View.NamesOneRun, declared.view.ViewWords.ViewWords}

pub no_view : (rows : List Row) → first_of (codes "file") rows ≡ None → (w : ViewWords) → IsView rows w → NamesOneRun w → ⊥
no_view rows none w h one =
    let there = h.0 in
    cc

-- where one path is the other, both are named
both_named : (a b : Option (Bor Text)) → option_map (λ path. path.now) a ≡ option_map (λ path. path.now) b → is_some a ≡ true → is_some b ≡ true
both_named None b e is = absurd (true≢false (sym is))
both_named (Some p) None e is =
    let bad : Some p.now ≡ None = e in
    cc
both_named (Some p) (Some q) e is = refl

-- where a journal and a document of times are named
pub no_one_run : (rows : List Row) (journal times : Option (Bor Text)) → first_of (codes "journal") rows ≡ option_map (λ path. path.now) journal
    → first_of (codes "times") rows ≡ option_map (λ path. path.now) times → is_some journal ≡ true → is_some times ≡ true
    → (w : ViewWords) → IsView rows w → NamesOneRun w → ⊥
no_one_run rows journal times at_journal at_times has_journal has_times w h one =
    true≢false (sym (both_named times w.times (sym at_times ∙ h.2) has_times) ∙ one (both_named journal w.journal (sym at_journal ∙ h.1) has_journal))
