-- Texts that are made of parts.
use Rattle.std.specs.Prelude.{ℕ, List, [], ◌∷◌, ◌++◌}
use Rattle.std.specs.Fmt.{decimal, signed_decimal}
use Rattle.tx_call.specs.declared.parts.Part.{Part}
use Rattle.tx_call.specs.declared.parts.Part.TheVariants.{Text, Number, Signed}

-- the bytes of a part
abbrev pub part_text : Part → List ℕ
part_text (Text bytes) = bytes.now
part_text (Number n) = decimal n
part_text (Signed n) = signed_decimal n

abbrev pub parts_text : List Part → List ℕ
parts_text [] = []
parts_text (part ∷ parts) = part_text part ++ parts_text parts
