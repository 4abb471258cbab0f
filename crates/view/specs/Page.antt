-- The text of the page.
use Rattle.std.specs.Prelude.{ℕ, List, ◌++◌}
use Rattle.view.specs.{declared.code.TheConstants.SCRIPT, declared.style.TheConstants.STYLE}
use Rattle.view.specs.declared.markup.TheConstants.{BODY, END, FOOT, HEAD}

-- the page that shows these states: they stand in it as they are
abbrev pub page_text : List ℕ → List ℕ
page_text states = (((((HEAD.now ++ STYLE.now) ++ BODY.now) ++ states) ++ FOOT.now) ++ SCRIPT.now) ++ END.now

-- the most bytes of states that a page has, where fewer states make them fewer
abbrev pub most_page_bytes : ℕ
most_page_bytes = 20000000
