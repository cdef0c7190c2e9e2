-- Which fonts a page uses (the DVI standard; TeX: The Program, section 586).
use Rattle.std.specs.Prelude.{ℕ, ◌-◌, ◌==◌, ◌||◌, Bool, false, nat_le, List, [], ◌∷◌, ◌++◌, length, get_or, drop, Option, Some, None, if◌then◌else◌}
use Rattle.std.specs.List.{flat_map}
use Rattle.tx_dvi.specs.declared.font.FontDefinition.{FontDefinition}
use Rattle.tx_dvi.specs.Meaning.{operands, is_font_number}

-- whether more bytes of a command are wanted, of which as many follow its first one as this says; none are of what is no command
abbrev pub wants : Option ℕ → List ℕ → Bool
wants None bytes = false
wants (Some more) bytes = nat_le (length bytes) more

abbrev pub is_wanting : List ℕ → Bool
is_wanting bytes = wants (operands (get_or bytes 0 0) bytes) bytes

-- whether a command chooses the font of this number: it is one of fnt_num_0 to fnt_num_63, or fnt1 with the number
abbrev pub is_choice : ℕ → List ℕ → Bool
is_choice number command =
    let opcode = get_or command 0 0 in
    if is_font_number opcode then opcode - 171 == number
    else if opcode == 235 then get_or (drop 1 command) 0 0 == number
    else false

-- whether one of the commands of these bytes does, the first of which has begun with these; its bytes are gathered until all are there
unfoldable pub chooses_from : ℕ → List ℕ → List ℕ → Bool
chooses_from number begun [] = false
chooses_from number begun (byte ∷ rest) =
    let bytes : List ℕ = begun ++ byte ∷ [] in
    if is_wanting bytes then chooses_from number bytes rest else is_choice number bytes || chooses_from number [] rest

-- whether a command of a page does
abbrev pub chooses : ℕ → List ℕ → Bool
chooses number body = chooses_from number [] body

-- of the fonts that earlier pages define, those that a page uses
abbrev pub if_chosen : FontDefinition → List ℕ → List FontDefinition
if_chosen font body = if chooses font.number body then font ∷ [] else []

abbrev pub borrowed : List FontDefinition → List ℕ → List FontDefinition
borrowed earlier body = flat_map (λ (font : FontDefinition). if_chosen font body) earlier
