-- What the transcript gets of characters that their fonts lack (TeX: The Program, sections 581 and 915).
use Rattle.std.specs.Prelude.{ℕ, List, [], ◌∷◌, ◌++◌, Option, Some, None, codes, decimal}
use Rattle.tx_node.specs.Items.{Item, plain, shared, boxed, discretionary, adjustment, insertion, box_leaders}
use Rattle.tx_tfm.specs.declared.state.FontState.{FontState}
use Rattle.tx_tfm.specs.Fonts.{font_name}

-- a line of a character that a font of this name lacks
unfoldable pub missing : ℕ → List ℕ → List ℕ
missing code name = codes "missing character " ++ (decimal code ++ (codes " in " ++ (name ++ 10 ∷ [])))

-- of the character that the font of a number lacks, if there is one
abbrev pub lacking_report : List FontState → ℕ → Option ℕ → List ℕ
lacking_report fonts font None = []
lacking_report fonts font (Some code) = missing code (font_name fonts font)

-- a report for each discretionary
abbrev pub division_report : List ℕ → Item → List ℕ
division_report report (plain item) = []
division_report report (shared item) = []
division_report report (boxed shift head inner) = []
division_report report (discretionary head before behind) = report
division_report report (adjustment inner) = []
division_report report (insertion head inner) = []
division_report report (box_leaders head repeated inner) = []
