-- The commands, as items at the front of a list (TeX: The Program, part 46 on; The TeXbook, chapters 24 to 26): first the mode, then
-- what the command takes, by its family.
use Rattle.std.specs.Prelude.{ℕ, ℤ, pos, ◌∷◌, [], ◌||◌, ◌&&◌, Bool, true, false, not, List, Option, Some, None, if◌then◌else◌}
use Rattle.tx_char.specs.declared.category.Cat.{Cat}
use Rattle.tx_char.specs.declared.category.Cat.TheVariants as category
use Rattle.tx_prim.specs.declared.family.AfterKind.{AfterKind}
use Rattle.tx_prim.specs.declared.family.AlignWord.{AlignWord}
use Rattle.tx_prim.specs.declared.family.AlignWord.TheVariants as align
use Rattle.tx_prim.specs.declared.family.AtomPart.{AtomPart}
use Rattle.tx_prim.specs.declared.family.AtomPart.TheVariants as atom
use Rattle.tx_prim.specs.declared.family.BreakText.TheVariants as break
use Rattle.tx_shape.specs.declared.types.Opener.TheVariants as opener
use Rattle.tx_prim.specs.declared.family.CodedKind.TheVariants as coded
use Rattle.tx_prim.specs.declared.family.DefinitionKind.{DefinitionKind}
use Rattle.tx_node.specs.declared.rule.Rule.{Rule as Rule_sides}
use Rattle.tx_prim.specs.declared.family.GlueForm.{GlueForm}
use Rattle.tx_prim.specs.declared.glue.GlueParameter.TheVariants.{Tabskip}
use Rattle.tx_prim.specs.declared.family.Indentation.TheVariants.{Indented}
use Rattle.tx_prim.specs.declared.family.LeadersKind.{LeadersKind}
use Rattle.tx_prim.specs.declared.family.RuleKind.{RuleKind}
use Rattle.tx_prim.specs.declared.family.Shorthand.{Shorthand}
use Rattle.tx_prim.specs.declared.family.SizeKind.{SizeKind}
use Rattle.tx_prim.specs.declared.family.SizeKind.TheVariants as sized
use Rattle.tx_prim.specs.declared.family.TextUse.{TextUse}
use Rattle.tx_prim.specs.declared.family.TextUse.TheVariants as purposes
use Rattle.tx_prim.specs.declared.modes.Mode.{Mode}
use Rattle.tx_prim.specs.declared.modes.Mode.TheVariants as mode
use Rattle.tx_prim.specs.declared.modes.Standing.{Standing as AStanding}
use Rattle.tx_prim.specs.declared.modes.Standing.TheVariants.{Stands, BeginsParagraph, EndsParagraph, EndsRun, Refused}
use Rattle.tx_prim.specs.declared.primitive.Primitive.{Primitive}
use Rattle.tx_prim.specs.declared.primitive.Primitive.TheVariants as primitive
use Rattle.tx_seen.specs.declared.error.TexError.TheVariants.{Undefined, NoAssignment, NotAllowed, MisplacedAlignment, MissingBeginGroup, MissingBox, BadFormula, BadName, MissingDelimiter}
use Rattle.tx_seen.specs.declared.fed.Want.TheVariants.{Raw, Expanded}
use Rattle.tx_seen.specs.declared.item.Item.{Item}
use Rattle.tx_seen.specs.declared.item.Item.TheVariants.{Took, Gave}
use Rattle.tx_seen.specs.declared.meaning.Meaning.{Meaning}
use Rattle.tx_seen.specs.declared.meaning.Meaning.TheVariants as meaning
use Rattle.tx_assign.specs.declared.types.Change.TheVariants as change
use Rattle.tx_eqtb.specs.declared.entry.Entry.TheVariants as entry
use Rattle.tx_seen.specs.declared.place.Place.{Place}
use Rattle.tx_seen.specs.declared.place.Place.TheVariants as place
use Rattle.tx_seen.specs.declared.seen.Seen.{Seen}
use Rattle.tx_seen.specs.Seen.{is_space, is_relax, continues_word}
use Rattle.tx_seen.specs.Readings.{Reading, More, Done, Wrong, next}
use Rattle.tx_scan.specs.declared.scans.Units.{Units}
use Rattle.tx_scan.specs.Dimensions.{dimension, lengths}
use Rattle.tx_scan.specs.FileNames.{file_name}
use Rattle.tx_scan.specs.Grammars.{equals, name}
use Rattle.tx_scan.specs.Integers.{expanded}
use Rattle.tx_assign.specs.declared.types.Assigning.{Assigning}
use Rattle.tx_assign.specs.declared.types.Assigning.TheVariants as assign
use Rattle.tx_assign.specs.declared.types.Variable.TheVariants.{Numbered, Standing}
use Rattle.tx_assign.specs.Assignments.{assignment, let_to}
use Rattle.tx_shape.specs.declared.types.BoxRead.TheVariants as box
use Rattle.tx_shape.specs.declared.types.Shaping.{Shaping}
use Rattle.tx_shape.specs.declared.types.Shaping.TheVariants as shape
use Rattle.tx_shape.specs.declared.types.Shaped.{Shaped}
use Rattle.tx_shape.specs.declared.types.Shaped.TheVariants as shaped
use Rattle.tx_shape.specs.declared.types.FontAsked.{FontAsked}
use Rattle.tx_shape.specs.Loading.{loading as load}
use Rattle.tx_node.specs.Items.{PackedBox}
use Rattle.tx_shape.specs.Boxes.{needed_box}
use Rattle.tx_shape.specs.declared.types.BoxContext.TheVariants.{Lead}
use Rattle.tx_shape.specs.Shapes.{shape as shape_of}
use Rattle.tx_command.specs.declared.types.Command.{Command}
use Rattle.tx_command.specs.declared.types.Command.TheVariants.{Nothing, Space, Character, BeginGroup, EndGroup, BeginSemiSimple, EndSemiSimple, Prefix, Define, Assign, Sized, Rule, BeginBox, UseBox, CopyBox, LastBox, Unbox, Penalize, Skip, BeginLeaders, SetDepth, End, Interact, DefineMacro, BeginText, DefineFuture, Keep, Remove, ControlSpace, ItalicCorrection, Indent, InsertPar, EndParagraph, DiscretionaryHyphen, SetFactor, SetPrevGraf, BeginShape, Open, SetDeadCycles, SetPage, SplitBox, DefineFont, LoadFont, SetFontDimen, SetFontInteger, MathShift, BeginFormula, Script, MathCharacter, BeginAtom, SetLimits, SetStyle, BeginChoice, BeginFraction, BeginDelimited, Coded, BeginAccent, EndAccent, MathSkip, Nonscript, SetFamily, Align, BeginAlign, ExpandOnce, Template, BeginEntry, EndAlign, BeginDisplay, EndDisplay, GoOn, BeginNumber}
use Rattle.tx_command.specs.declared.types.Delimiting.{Delimiting}
use Rattle.tx_command.specs.declared.types.Head.{Head}
use Rattle.tx_command.specs.declared.types.Head.TheVariants.{Fresh, Prefixed, Defining, Future, Leading, LeadingBox, Shift, Part, Delimiting as Delimiting_head, Thickness, Accenting, Loading, Shaping as Shaping_head, Opening, Aligning, Preamble, Row, Entry, SecondShift, Displayed}
use Rattle.tx_command.specs.declared.types.Prefixes.{Prefixes}
use Rattle.tx_command.specs.declared.scans.PreamblePart.{PreamblePart}
use Rattle.tx_command.specs.declared.scans.PreamblePart.TheVariants as part
use Rattle.tx_command.specs.declared.scans.RowStart.{RowStart}
use Rattle.tx_command.specs.declared.scans.RowStart.TheVariants as start
use Rattle.tx_command.specs.declared.types.SizeUse.{SizeUse}
use Rattle.tx_command.specs.declared.types.SizeUse.TheVariants as size
use Rattle.tx_rule.specs.Rules.{plain_rule, rule_sides}
use Rattle.tx_command.specs.Standing.{standing_in}

-- an assignment
abbrev pub assigning : Assigning → List Item → Reading Command
assigning begun items = next (assignment begun items) (λ a behind. Done (Assign a) behind)

-- whether a token that means this is one that \noexpand holds
abbrev pub is_held : Meaning → Bool
is_held meaning.Held = true
is_held _ = false

-- spaces, which are skipped; what ends them is the next command, and a held token is carried out as it came, so that nothing
-- comes of it (TeX: The Program, section 1045)
abbrev pub skipping : List Item → Reading Command
skipping [] = More Expanded
skipping (Gave v ∷ rest) = Done Nothing (Gave v ∷ rest)
skipping (Took t ∷ rest) =
    expanded t (
    if is_space t then skipping rest
    else if is_held t.meaning then Done Nothing rest
    else Done Nothing (Took t ∷ rest))

-- the name that \chardef or its kin defines
abbrev pub defining : Shorthand → List Item → Reading Command
defining kind items = next (name items) (λ defined behind. Done (Define defined kind) behind)

-- the name that \def or its kin defines
abbrev pub macro_defining : DefinitionKind → List Item → Reading Command
macro_defining kind items = next (name items) (λ defined behind. Done (DefineMacro defined kind) behind)

-- the name that \futurelet defines
abbrev pub future_defining : List Item → Reading Command
future_defining items = next (name items) (λ defined behind. Done (DefineFuture defined) behind)

-- the name that \font defines; and what stands behind it
abbrev pub font_defining : List Item → Reading Command
font_defining items = next (name items) (λ defined behind. Done (DefineFont defined) behind)

abbrev pub load_of : FontAsked → Command
load_of asked = LoadFont asked.place asked.name asked.size

abbrev pub loading : Place → List Item → Reading Command
loading defined items = next (load defined items) (λ asked behind. Done (load_of asked) behind)

-- the selection of a font by its number
abbrev pub selection : ℕ → Command
selection n = Assign (record { place = place.Font; change = change.Set (entry.Number (pos n)) })

-- the token that is kept for later
abbrev pub keeping : AfterKind → List Item → Reading Command
keeping kind [] = More Raw
keeping kind (Gave v ∷ rest) = Wrong NotAllowed
keeping kind (Took t ∷ rest) = Done (Keep kind t.token) rest

-- the size of a kern, of a fraction's line, or one of \parshape; that of \mkern is told in mu
abbrev pub is_in_mu : SizeKind → Bool
is_in_mu sized.Kern = false
is_in_mu sized.MathKern = true
is_in_mu sized.Above = false

abbrev pub units_of : SizeUse → Units
units_of (size.Item kind) = record { mu = is_in_mu kind; infinite = false }
units_of size.Shape = lengths

abbrev pub sizing : SizeUse → List Item → Reading Command
sizing kind items = next (dimension (units_of kind) items) (λ measure behind. Done (Sized kind measure.size) behind)

-- the sides of a rule
abbrev pub ruling : RuleKind → List Item → Reading Command
ruling kind items = next (rule_sides (plain_rule kind) items) (λ rule behind. Done (Rule kind rule) behind)

-- a box, or what is done with one, and its kin
abbrev pub command_of : Shaped → Command
command_of (shaped.Box (box.Begin kind goal) context) = BeginBox kind goal context
command_of (shaped.Box (box.Use n) context) = UseBox n context
command_of (shaped.Box (box.Copy n) context) = CopyBox n context
command_of (shaped.Box box.Last context) = LastBox context
command_of (shaped.Box (box.Split n size) context) = SplitBox n size context
command_of (shaped.Unbox kind n) = Unbox kind n
command_of (shaped.Penalize n) = Penalize n
command_of (shaped.SetDepth size) = SetDepth size
command_of (shaped.Skip g) = Skip g
command_of (shaped.Character code) = Character code
command_of (shaped.MathCharacter n) = MathCharacter n
command_of (shaped.Coded kind n) = Coded kind n
command_of (shaped.Accent code) = BeginAccent code
command_of (shaped.MathSkip g) = MathSkip g
command_of (shaped.SetFactor n) = SetFactor n
command_of (shaped.SetPrevGraf n) = SetPrevGraf n
command_of (shaped.BeginShape lines) = BeginShape lines
command_of (shaped.Open opener) = Open opener
command_of (shaped.BeginAlign goal) = BeginAlign goal
command_of (shaped.SetDeadCycles n) = SetDeadCycles n
command_of (shaped.SetPage quantity v) = SetPage quantity v
command_of (shaped.SetFontDimen font n size) = SetFontDimen font n size
command_of (shaped.SetFontInteger kind font n) = SetFontInteger kind font n
command_of (shaped.SetFamily size n font) = SetFamily size n font

abbrev pub shaping : Shaping → List Item → Reading Command
shaping what items = next (shape_of what items) (λ s behind. Done (command_of s) behind)

-- a character, or a name that \let has made mean one, by its category
abbrev pub character_command : ℕ → Cat → List Item → Reading Command
character_command code category.BeginGroup rest = Done BeginGroup rest
character_command code category.EndGroup rest = Done EndGroup rest
character_command code category.Space rest = Done Space rest
character_command code category.Letter rest = Done (Character code) rest
character_command code category.Other rest = Done (Character code) rest
character_command code category.AlignmentTab rest = Wrong MisplacedAlignment
character_command code category.MathShift rest = Done MathShift rest
character_command code category.Superscript rest = Done (Script atom.Superscript) rest
character_command code category.Subscript rest = Done (Script atom.Subscript) rest
character_command code category.Parameter rest = Wrong NotAllowed
character_command code category.Escape rest = Wrong NotAllowed
character_command code category.EndOfLine rest = Wrong NotAllowed
character_command code category.Ignored rest = Wrong NotAllowed
character_command code category.Active rest = Wrong NotAllowed
character_command code category.Comment rest = Wrong NotAllowed
character_command code category.Invalid rest = Wrong NotAllowed

-- the sides of the rule that leaders repeat
abbrev pub leaders_rule : LeadersKind → RuleKind → List Item → Reading Command
leaders_rule kind direction items = next (rule_sides (plain_rule direction) items) (λ rule behind. Done (BeginLeaders kind rule) behind)

-- the box that leaders repeat
abbrev pub led_box : LeadersKind → List Item → Reading Command
led_box kind items = next (needed_box (Lead kind) items) (λ s behind. Done (command_of s) behind)

-- a rule is needed, of either direction, or a box (section 1084)
abbrev pub led_rule : Meaning → Option RuleKind
led_rule (meaning.Command (primitive.Rule direction)) = Some direction
led_rule other = None

abbrev pub repeated : LeadersKind → Option RuleKind → Seen → List Item → Reading Command
repeated kind (Some direction) t rest = leaders_rule kind direction rest
repeated kind None t rest = led_box kind (Took t ∷ rest)

-- leaders: spaces and \relax, and a rule or a box
abbrev pub leaders_of : LeadersKind → List Item → Reading Command
leaders_of kind [] = More Expanded
leaders_of kind (Gave v ∷ rest) = Wrong MissingBox
leaders_of kind (Took t ∷ rest) = expanded t (if is_space t || is_relax t then leaders_of kind rest else repeated kind (led_rule t.meaning) t rest)

-- what a primitive takes behind it, by its family
abbrev pub family_command : Primitive → List Item → Reading Command
family_command primitive.Relax rest = Done Nothing rest
family_command primitive.EndCsName rest = Wrong BadName
family_command primitive.Par rest = Done EndParagraph rest
family_command primitive.BeginGroup rest = Done BeginSemiSimple rest
family_command primitive.EndGroup rest = Done EndSemiSimple rest
family_command (primitive.Prefix prefix) rest = Done (Prefix prefix) rest
family_command primitive.Let rest = assigning assign.Let rest
family_command (primitive.Shorthand kind) rest = defining kind rest
family_command (primitive.Arithmetic operation) rest = assigning (assign.Arithmetic operation) rest
family_command (primitive.Numbered kind) rest = assigning (assign.Variable (Numbered kind)) rest
family_command (primitive.Integer parameter) rest = assigning (assign.Variable (Standing (place.Integer parameter))) rest
family_command (primitive.Dimension parameter) rest = assigning (assign.Variable (Standing (place.Dimension parameter))) rest
family_command (primitive.Glue parameter) rest = assigning (assign.Variable (Standing (place.Glue parameter))) rest
family_command (primitive.Tokens parameter) rest = assigning (assign.Variable (Standing (place.Tokens parameter))) rest
family_command (primitive.Sized kind) rest = sizing (size.Item kind) rest
family_command (primitive.Rule kind) rest = ruling kind rest
family_command (primitive.Box kind) rest = shaping (shape.Box kind) rest
family_command (primitive.BoxFrom source) rest = shaping (shape.From source) rest
family_command primitive.Shipout rest = shaping shape.Shipout rest
family_command primitive.SetBox rest = shaping shape.SetBox rest
family_command (primitive.Shift kind) rest = shaping (shape.Shift kind) rest
family_command (primitive.Unbox kind) rest = shaping (shape.Unbox kind) rest
family_command primitive.Penalty rest = shaping shape.Penalty rest
family_command primitive.PrevDepth rest = shaping shape.PrevDepth rest
family_command (primitive.Remove kind) rest = Done (Remove kind) rest
family_command (primitive.Last kind) rest = Wrong NotAllowed
family_command primitive.Badness rest = Wrong NotAllowed
family_command (primitive.HorizontalGlue form) rest = shaping (shape.Glue form) rest
family_command (primitive.VerticalGlue form) rest = shaping (shape.Glue form) rest
family_command (primitive.Leaders kind) rest = leaders_of kind rest
family_command primitive.End rest = Done End rest
family_command primitive.IgnoreSpaces rest = skipping rest
family_command (primitive.Interaction kind) rest = Done (Interact kind) rest
family_command (primitive.Definition kind) rest = macro_defining kind rest
family_command (primitive.Text purpose) rest = Done (BeginText purpose) rest
family_command (primitive.After kind) rest = keeping kind rest
family_command primitive.FutureLet rest = future_defining rest
family_command primitive.NullFont rest = Done (selection 0) rest
family_command primitive.LoadFont rest = font_defining rest
family_command primitive.FontDimen rest = shaping shape.FontDimen rest
family_command (primitive.FontInteger kind) rest = shaping (shape.FontInteger kind) rest
family_command primitive.Char rest = shaping shape.Character rest
family_command primitive.SpaceFactor rest = shaping shape.Factor rest
family_command primitive.PrevGraf rest = shaping shape.PrevGraf rest
family_command primitive.ParShape rest = shaping shape.ParShape rest
family_command primitive.Adjust rest = shaping shape.Adjust rest
family_command primitive.Discretionary rest = shaping (shape.Open (opener.Break break.Before)) rest
family_command primitive.MathChar rest = shaping shape.MathCharacter rest
family_command (primitive.Atom class) rest = Done (BeginAtom class) rest
family_command primitive.Center rest = shaping shape.Center rest
family_command (primitive.Limits kind) rest = Done (SetLimits kind) rest
family_command (primitive.Style style) rest = Done (SetStyle style) rest
family_command primitive.Choice rest = Done BeginChoice rest
family_command (primitive.Fraction kind) rest = Done (BeginFraction kind) rest
family_command (primitive.Delimited what) rest = Done (BeginDelimited what) rest
family_command (primitive.Coded kind) rest = shaping (shape.Coded kind) rest
family_command primitive.Accent rest = shaping shape.Accent rest
family_command primitive.MathGlue rest = shaping shape.MathGlue rest
family_command primitive.Nonscript rest = Done Nonscript rest
family_command (primitive.FamilyFont size) rest = shaping (shape.Family size) rest
family_command primitive.Insert rest = shaping shape.Insert rest
family_command primitive.Align rest = Done Align rest
family_command (primitive.AlignWord word) rest = Wrong MisplacedAlignment
family_command (primitive.EquationNumber side) rest = Done (BeginNumber side) rest
family_command primitive.DeadCycles rest = shaping shape.DeadCycles rest
family_command (primitive.Page quantity) rest = shaping (shape.Page quantity) rest
family_command primitive.ItalicCorrection rest = Done ItalicCorrection rest
family_command primitive.ControlSpace rest = Done ControlSpace rest
family_command (primitive.Indent how) rest = Done (Indent how) rest
family_command primitive.DiscretionaryHyphen rest = Done DiscretionaryHyphen rest

-- the command whose first token means this; what is expanded is none, and comes expanded, and what \noexpand held does nothing
abbrev pub command_meant : Meaning → List Item → Reading Command
command_meant meaning.Undefined rest = Wrong Undefined
command_meant (meaning.Expandable e) rest = Wrong Undefined
command_meant (meaning.Macro m) rest = Wrong Undefined
command_meant meaning.Held rest = Done Nothing rest
command_meant (meaning.Command primitive) rest = family_command primitive rest
command_meant (meaning.Character code category) rest = character_command code category rest
command_meant (meaning.CharacterNumber code) rest = Done (Character code) rest
command_meant (meaning.MathNumber number) rest = Done (MathCharacter (pos number)) rest
command_meant (meaning.CountRegister number) rest = assigning (assign.Variable (Standing (place.Count number))) rest
command_meant (meaning.DimenRegister number) rest = assigning (assign.Variable (Standing (place.Dimen number))) rest
command_meant (meaning.SkipRegister number) rest = assigning (assign.Variable (Standing (place.Skip number))) rest
command_meant (meaning.MuskipRegister number) rest = assigning (assign.Variable (Standing (place.Muskip number))) rest
command_meant (meaning.ToksRegister number) rest = assigning (assign.Variable (Standing (place.Toks number))) rest
command_meant (meaning.Font number) rest = Done (selection number) rest

-- by what becomes of it in its mode: a paragraph is begun, as by \indent, or \par is put in, and then its first token is read again
-- (TeX: The Program, sections 1090 and 1095)
abbrev pub standing_command : AStanding → Seen → List Item → Reading Command
standing_command Stands t rest = command_meant t.meaning rest
standing_command BeginsParagraph t rest = Done (Indent Indented) (Took t ∷ rest)
standing_command EndsParagraph t rest = Done InsertPar (Took t ∷ rest)
standing_command EndsRun t rest = Done End (Took t ∷ rest)
standing_command Refused t rest = Wrong NotAllowed

-- a command that nothing stands before
abbrev pub fresh_command : Mode → List Item → Reading Command
fresh_command mode [] = More Expanded
fresh_command mode (Gave v ∷ rest) = Wrong NotAllowed
fresh_command mode (Took t ∷ rest) = standing_command (standing_in mode t.meaning) t rest

-- the prefixes that stand before a command
abbrev pub prefixes_of : Head → Prefixes
prefixes_of Fresh = record { global = false; long = false; outer = false }
prefixes_of (Prefixed prefixes) = prefixes
prefixes_of (Defining prefixes defined kind) = prefixes
prefixes_of (Future prefixes defined) = prefixes
prefixes_of (Leading kind rule) = record { global = false; long = false; outer = false }
prefixes_of (LeadingBox kind b) = record { global = false; long = false; outer = false }
prefixes_of Shift = record { global = false; long = false; outer = false }
prefixes_of (Part part) = record { global = false; long = false; outer = false }
prefixes_of (Delimiting_head what) = record { global = false; long = false; outer = false }
prefixes_of (Thickness left right) = record { global = false; long = false; outer = false }
prefixes_of (Accenting prefixes) = prefixes
prefixes_of (Opening opener) = record { global = false; long = false; outer = false }
prefixes_of (Aligning level) = record { global = false; long = false; outer = false }
prefixes_of Preamble = record { global = false; long = false; outer = false }
prefixes_of Row = record { global = false; long = false; outer = false }
prefixes_of Entry = record { global = false; long = false; outer = false }
prefixes_of SecondShift = record { global = false; long = false; outer = false }
prefixes_of Displayed = record { global = false; long = false; outer = false }
prefixes_of (Loading prefixes defined) = prefixes
prefixes_of (Shaping_head prefixes left sizes) = prefixes

-- the leaders that stand before it, with the rule that they repeat
abbrev pub leaders_before : Head → Option (LeadersKind × Rule_sides)
leaders_before (Leading kind rule) = Some (kind, rule)
leaders_before other = None

-- the same with the box that they repeat
abbrev pub box_before : Head → Option (LeadersKind × PackedBox)
box_before (LeadingBox kind b) = Some (kind, b)
box_before other = None

-- whether its first token is only looked at, and read again
abbrev pub is_peeking : Head → Bool
is_peeking Shift = true
is_peeking other = false

-- the part of an atom that it is to be
abbrev pub part_before : Head → Option AtomPart
part_before (Part part) = Some part
part_before other = None

-- which delimiter it is to be
abbrev pub delimiting_before : Head → Option Delimiting
delimiting_before (Delimiting_head what) = Some what
delimiting_before other = None

-- the numbers of the delimiters that stand before it, where it is to be the size of a fraction's line
abbrev pub delimiters_before : Head → Option (ℕ × ℕ)
delimiters_before (Thickness left right) = Some (left, right)
delimiters_before other = None

-- whether an accent waits for what stands below it
abbrev pub is_accenting : Head → Bool
is_accenting (Accenting prefixes) = true
is_accenting other = false

-- the level of braces at which the \halign stood that stands before it (section 772)
abbrev pub level_before : Head → ℤ
level_before (Aligning level) = level
level_before other = pos 0

-- whether it is a token of a preamble
abbrev pub is_preamble : Head → Bool
is_preamble Preamble = true
is_preamble other = false

-- whether nothing stands before it
abbrev pub is_fresh : Head → Bool
is_fresh Fresh = true
is_fresh other = false

-- whether the first entry of a row is to come, or a further one
abbrev pub is_row : Head → Bool
is_row Row = true
is_row other = false

-- \long and \outer stand before definitions alone
abbrev pub want_definition : Prefixes → Bool
want_definition prefixes = prefixes.long || prefixes.outer

-- \patterns and \hyphenation are assignments (section 1252); what else has a text in braces is none
abbrev pub assigns_text : TextUse → Bool
assigns_text purposes.Message = false
assigns_text purposes.ErrorMessage = false
assigns_text purposes.UpperCase = false
assigns_text purposes.LowerCase = false
assigns_text purposes.Special = false
assigns_text purposes.Patterns = true
assigns_text purposes.Hyphenation = true
assigns_text purposes.Mark = false

-- whether a primitive may stand behind prefixes
abbrev pub is_prefixable : Prefixes → Primitive → Bool
is_prefixable prefixes primitive.Relax = false
is_prefixable prefixes primitive.EndCsName = false
is_prefixable prefixes primitive.Par = false
is_prefixable prefixes primitive.BeginGroup = false
is_prefixable prefixes primitive.EndGroup = false
is_prefixable prefixes (primitive.Prefix prefix) = true
is_prefixable prefixes primitive.Let = not (want_definition prefixes)
is_prefixable prefixes (primitive.Shorthand kind) = not (want_definition prefixes)
is_prefixable prefixes (primitive.Arithmetic operation) = not (want_definition prefixes)
is_prefixable prefixes (primitive.Numbered kind) = not (want_definition prefixes)
is_prefixable prefixes (primitive.Integer parameter) = not (want_definition prefixes)
is_prefixable prefixes (primitive.Dimension parameter) = not (want_definition prefixes)
is_prefixable prefixes (primitive.Glue parameter) = not (want_definition prefixes)
is_prefixable prefixes (primitive.Tokens parameter) = not (want_definition prefixes)
is_prefixable prefixes (primitive.Sized kind) = false
is_prefixable prefixes (primitive.Rule kind) = false
is_prefixable prefixes (primitive.Box kind) = false
is_prefixable prefixes primitive.Shipout = false
is_prefixable prefixes primitive.End = false
is_prefixable prefixes primitive.IgnoreSpaces = false
is_prefixable prefixes (primitive.Interaction kind) = not (want_definition prefixes)
is_prefixable prefixes (primitive.Definition kind) = true
is_prefixable prefixes (primitive.Text purpose) = assigns_text purpose && not (want_definition prefixes)
is_prefixable prefixes (primitive.After kind) = false
is_prefixable prefixes primitive.FutureLet = not (want_definition prefixes)
is_prefixable prefixes (primitive.BoxFrom source) = false
is_prefixable prefixes primitive.SetBox = not (want_definition prefixes)
is_prefixable prefixes (primitive.Shift kind) = false
is_prefixable prefixes (primitive.Unbox kind) = false
is_prefixable prefixes (primitive.HorizontalGlue form) = false
is_prefixable prefixes (primitive.VerticalGlue form) = false
is_prefixable prefixes primitive.Penalty = false
is_prefixable prefixes (primitive.Remove kind) = false
is_prefixable prefixes (primitive.Last kind) = false
is_prefixable prefixes primitive.Badness = false
is_prefixable prefixes primitive.PrevDepth = not (want_definition prefixes)
is_prefixable prefixes (primitive.Leaders kind) = false
is_prefixable prefixes primitive.NullFont = not (want_definition prefixes)
is_prefixable prefixes primitive.LoadFont = not (want_definition prefixes)
is_prefixable prefixes primitive.FontDimen = not (want_definition prefixes)
is_prefixable prefixes (primitive.FontInteger kind) = not (want_definition prefixes)
is_prefixable prefixes primitive.SpaceFactor = not (want_definition prefixes)
is_prefixable prefixes primitive.PrevGraf = not (want_definition prefixes)
is_prefixable prefixes primitive.ParShape = not (want_definition prefixes)
is_prefixable prefixes primitive.Char = false
is_prefixable prefixes primitive.ItalicCorrection = false
is_prefixable prefixes primitive.ControlSpace = false
is_prefixable prefixes (primitive.Indent how) = false
is_prefixable prefixes primitive.DiscretionaryHyphen = false
is_prefixable prefixes primitive.Adjust = false
is_prefixable prefixes primitive.Discretionary = false
is_prefixable prefixes primitive.MathChar = false
is_prefixable prefixes (primitive.Atom class) = false
is_prefixable prefixes primitive.Center = false
is_prefixable prefixes (primitive.Limits kind) = false
is_prefixable prefixes (primitive.Style style) = false
is_prefixable prefixes primitive.Choice = false
is_prefixable prefixes (primitive.Fraction kind) = false
is_prefixable prefixes (primitive.Delimited what) = false
is_prefixable prefixes (primitive.Coded kind) = false
is_prefixable prefixes primitive.Accent = false
is_prefixable prefixes primitive.MathGlue = false
is_prefixable prefixes primitive.Nonscript = false
is_prefixable prefixes (primitive.FamilyFont size) = not (want_definition prefixes)
is_prefixable prefixes primitive.Insert = false
is_prefixable prefixes primitive.Align = false
is_prefixable prefixes (primitive.AlignWord word) = false
is_prefixable prefixes (primitive.EquationNumber side) = false
is_prefixable prefixes primitive.DeadCycles = not (want_definition prefixes)
is_prefixable prefixes (primitive.Page quantity) = not (want_definition prefixes)

-- what has no meaning, or is expanded, is let through, since carrying it out is an error of its own
abbrev pub may_be_prefixed : Prefixes → Meaning → Bool
may_be_prefixed prefixes meaning.Undefined = true
may_be_prefixed prefixes (meaning.Command primitive) = is_prefixable prefixes primitive
may_be_prefixed prefixes (meaning.Character code category) = false
may_be_prefixed prefixes (meaning.CharacterNumber code) = false
may_be_prefixed prefixes (meaning.MathNumber number) = false
may_be_prefixed prefixes (meaning.CountRegister number) = not (want_definition prefixes)
may_be_prefixed prefixes (meaning.DimenRegister number) = not (want_definition prefixes)
may_be_prefixed prefixes (meaning.SkipRegister number) = not (want_definition prefixes)
may_be_prefixed prefixes (meaning.MuskipRegister number) = not (want_definition prefixes)
may_be_prefixed prefixes (meaning.ToksRegister number) = not (want_definition prefixes)
may_be_prefixed prefixes (meaning.Font number) = not (want_definition prefixes)
may_be_prefixed prefixes (meaning.Expandable e) = true
may_be_prefixed prefixes (meaning.Macro m) = true
may_be_prefixed prefixes meaning.Held = false

-- the same where no prefix stands before it
abbrev pub is_assignment : Meaning → Bool
is_assignment m = may_be_prefixed (record { global = false; long = false; outer = false }) m

-- a command behind a prefix: an assignment, with spaces and \relax before it, which do nothing (TeX: The Program, sections 404
-- and 1211)
abbrev pub prefixed_command : Prefixes → List Item → Reading Command
prefixed_command prefixes [] = More Expanded
prefixed_command prefixes (Gave v ∷ rest) = Wrong NoAssignment
prefixed_command prefixes (Took t ∷ rest) =
    if is_space t || is_relax t then Done Nothing rest
    else if may_be_prefixed prefixes t.meaning then command_meant t.meaning rest
    else Wrong NoAssignment

-- behind \futurelet and its name: the name is to mean what the second of two tokens means, and both are read again (TeX: The
-- Program, section 1221)
abbrev pub future_of : Head → Seen → Command
future_of (Future prefixes defined) t = Assign (let_to defined t)
future_of other t = Nothing

abbrev pub future_second : Head → Seen → List Item → Reading Command
future_second head first [] = More Raw
future_second head first (Gave v ∷ rest) = Wrong NotAllowed
future_second head first (Took second ∷ rest) = Done (future_of head second) (Took first ∷ Took second ∷ rest)

abbrev pub future : Head → List Item → Reading Command
future head [] = More Raw
future head (Gave v ∷ rest) = Wrong NotAllowed
future head (Took first ∷ rest) = future_second head first rest

-- behind leaders: glue of the direction of the list, with spaces and \relax before it, which do nothing (section 1078)
abbrev pub is_down : Mode → Bool
is_down mode.Vertical = true
is_down mode.InternalVertical = true
is_down other = false

abbrev pub leading_glue : Mode → Meaning → Option GlueForm
leading_glue mode (meaning.Command (primitive.HorizontalGlue form)) = if is_down mode then None else Some form
leading_glue mode (meaning.Command (primitive.VerticalGlue form)) = if is_down mode then Some form else None
leading_glue mode other = None

abbrev pub led_by : Option GlueForm → List Item → Reading Command
led_by None rest = Wrong MissingBox
led_by (Some form) rest = shaping (shape.Glue form) rest

abbrev pub leading_command : Mode → List Item → Reading Command
leading_command mode [] = More Expanded
leading_command mode (Gave v ∷ rest) = Wrong MissingBox
leading_command mode (Took t ∷ rest) =
    expanded t (if is_space t || is_relax t then Done Nothing rest else led_by (leading_glue mode t.meaning) rest)

-- behind a `$` that begins a formula: a second one in a paragraph begins a displayed formula; else the token is read again (section
-- 1138)
abbrev pub is_math_shift : Meaning → Bool
is_math_shift (meaning.Character code category.MathShift) = true
is_math_shift other = false

abbrev pub is_unrestricted : Mode → Bool
is_unrestricted mode.Horizontal = true
is_unrestricted other = false

abbrev pub shift_command : Mode → List Item → Reading Command
shift_command mode [] = More Raw
shift_command mode (Gave v ∷ rest) = Wrong NotAllowed
shift_command mode (Took t ∷ rest) =
    if is_math_shift t.meaning && is_unrestricted mode then Done BeginDisplay rest else Done BeginFormula (Took t ∷ rest)

-- behind a `$` that ends a displayed formula: a second one has to come (section 1197)
abbrev pub second_shift_command : List Item → Reading Command
second_shift_command [] = More Expanded
second_shift_command (Gave v ∷ rest) = Wrong BadFormula
second_shift_command (Took t ∷ rest) = expanded t (if is_math_shift t.meaning then Done EndDisplay rest else Wrong BadFormula)

-- behind both: a space is skipped, and all else is read again (section 1200)
abbrev pub displayed_command : List Item → Reading Command
displayed_command [] = More Expanded
displayed_command (Gave v ∷ rest) = Wrong NotAllowed
displayed_command (Took t ∷ rest) = expanded t (if is_space t then Done GoOn rest else Done GoOn (Took t ∷ rest))

-- a part of an atom: a character, a \mathchar, what stands for one of them, \delimiter, or a begin-group token, with spaces and \relax
-- before it, which do nothing (sections 1151 and 1153)
abbrev pub is_part_of : Cat → Bool
is_part_of category.BeginGroup = true
is_part_of category.Letter = true
is_part_of category.Other = true
is_part_of _ = false

abbrev pub is_part_begun : Primitive → Bool
is_part_begun primitive.Char = true
is_part_begun primitive.MathChar = true
is_part_begun (primitive.Coded coded.Delimiter) = true
is_part_begun other = false

abbrev pub is_part : Meaning → Bool
is_part (meaning.Character code category) = is_part_of category
is_part (meaning.CharacterNumber code) = true
is_part (meaning.MathNumber number) = true
is_part (meaning.Command p) = is_part_begun p
is_part other = false

abbrev pub part_command : List Item → Reading Command
part_command [] = More Expanded
part_command (Gave v ∷ rest) = Wrong MissingBeginGroup
part_command (Took t ∷ rest) =
    expanded t (
    if is_space t || is_relax t then Done Nothing rest
    else if is_part t.meaning then command_meant t.meaning rest
    else Wrong MissingBeginGroup)

-- a delimiter: a character of category 11 or 12, or \delimiter, with spaces and \relax before it, which do nothing (section 1160)
abbrev pub is_delimiter_of : Cat → Bool
is_delimiter_of category.Letter = true
is_delimiter_of category.Other = true
is_delimiter_of _ = false

abbrev pub is_delimiter_begun : Primitive → Bool
is_delimiter_begun (primitive.Coded coded.Delimiter) = true
is_delimiter_begun other = false

abbrev pub is_delimiter : Meaning → Bool
is_delimiter (meaning.Character code category) = is_delimiter_of category
is_delimiter (meaning.Command p) = is_delimiter_begun p
is_delimiter other = false

abbrev pub delimiter_command : List Item → Reading Command
delimiter_command [] = More Expanded
delimiter_command (Gave v ∷ rest) = Wrong MissingDelimiter
delimiter_command (Took t ∷ rest) =
    expanded t (
    if is_space t || is_relax t then Done Nothing rest
    else if is_delimiter t.meaning then command_meant t.meaning rest
    else Wrong MissingDelimiter)

-- behind an accent: the character below it, or an assignment, but for \setbox, with spaces and \relax before it, which do nothing;
-- what is none of them ends the accent and is read again (sections 1123, 1124 and 1270)
abbrev pub is_setbox : Meaning → Bool
is_setbox (meaning.Command primitive.SetBox) = true
is_setbox other = false

abbrev pub accent_assigning : Mode → List Item → Reading Command
accent_assigning mode [] = More Expanded
accent_assigning mode (Gave v ∷ rest) = Wrong NotAllowed
accent_assigning mode (Took t ∷ rest) =
    if is_setbox t.meaning then Wrong NotAllowed
    else if is_assignment t.meaning then fresh_command mode (Took t ∷ rest)
    else Done EndAccent (Took t ∷ rest)

abbrev pub accent_bare : Mode → List Item → Reading Command
accent_bare mode [] = More Expanded
accent_bare mode (Gave v ∷ rest) = Wrong NotAllowed
accent_bare mode (Took t ∷ rest) =
    expanded t (
    if is_space t || is_relax t then Done Nothing rest
    else if continues_word t then command_meant t.meaning rest
    else accent_assigning mode (Took t ∷ rest))

-- behind prefixes an assignment has to follow there too
abbrev pub is_prefixed : Prefixes → Bool
is_prefixed prefixes = (prefixes.global || prefixes.long) || prefixes.outer

abbrev pub accent_prefixed : Prefixes → List Item → Reading Command
accent_prefixed prefixes [] = More Expanded
accent_prefixed prefixes (Gave v ∷ rest) = Wrong NoAssignment
accent_prefixed prefixes (Took t ∷ rest) = if is_setbox t.meaning then Wrong NotAllowed else prefixed_command prefixes (Took t ∷ rest)

abbrev pub accent_command : Mode → Prefixes → List Item → Reading Command
accent_command mode prefixes [] = More Expanded
accent_command mode prefixes (Gave v ∷ rest) = Wrong NotAllowed
accent_command mode prefixes (Took t ∷ rest) =
    if is_prefixed prefixes then accent_prefixed prefixes (Took t ∷ rest) else accent_bare mode (Took t ∷ rest)

-- a preamble, token by token, as it stands: behind \span the next one is expanded once, and \tabskip is assigned (section 782)
abbrev pub preamble_primitive : Primitive → PreamblePart
preamble_primitive (primitive.AlignWord align.Span) = part.Span
preamble_primitive (primitive.Glue Tabskip) = part.Tabskip
preamble_primitive other = part.Token

abbrev pub preamble_part : Meaning → PreamblePart
preamble_part (meaning.Command p) = preamble_primitive p
preamble_part other = part.Token

abbrev pub preamble_by : PreamblePart → Seen → List Item → Reading Command
preamble_by part.Span t rest = Done ExpandOnce rest
preamble_by part.Tabskip t rest = assigning (assign.Variable (Standing (place.Glue Tabskip))) rest
preamble_by part.Token t rest = Done (Template t) rest

abbrev pub preamble_command : List Item → Reading Command
preamble_command [] = More Raw
preamble_command (Gave v ∷ rest) = Wrong NotAllowed
preamble_command (Took t ∷ rest) = preamble_by (preamble_part t.meaning) t rest

-- before a row of an alignment: spaces and \crcr, which do nothing; \noalign and a begin-group token; the alignment's end-group token;
-- or its first entry, whose first token is read again unless it is \omit (sections 785 and 788)
abbrev pub word_start : AlignWord → RowStart
word_start align.CrCr = start.Skipped
word_start align.NoAlign = start.NoAlign
word_start align.Omit = start.Omit
word_start other = start.Entry

abbrev pub character_start : Cat → RowStart
character_start category.Space = start.Skipped
character_start category.EndGroup = start.End
character_start _ = start.Entry

abbrev pub primitive_start : Primitive → RowStart
primitive_start (primitive.AlignWord word) = word_start word
primitive_start other = start.Entry

abbrev pub row_start : Meaning → RowStart
row_start (meaning.Character code kind) = character_start kind
row_start (meaning.Command p) = primitive_start p
row_start other = start.Entry

-- a further entry: spaces, which do nothing, and its first token, which is read again unless it is \omit (section 791)
abbrev pub further : RowStart → RowStart
further start.Omit = start.Omit
further other = start.Entry

abbrev pub entry_start : Seen → RowStart
entry_start t = if is_space t then start.Skipped else further (row_start t.meaning)

abbrev pub starts : RowStart → Seen → List Item → Reading Command
starts start.Skipped t rest = Done Nothing rest
starts start.NoAlign t rest = shaping (shape.Open opener.NoAlign) rest
starts start.End t rest = Done EndAlign rest
starts start.Omit t rest = Done (BeginEntry true) rest
starts start.Entry t rest = Done (BeginEntry false) (Took t ∷ rest)

abbrev pub started : RowStart → List Item → Reading Command
started how [] = More Expanded
started how (Gave v ∷ rest) = Wrong NotAllowed
started how (Took t ∷ rest) = expanded t (starts how t rest)

abbrev pub row_command : List Item → Reading Command
row_command [] = More Expanded
row_command (Gave v ∷ rest) = Wrong NotAllowed
row_command (Took t ∷ rest) = started (row_start t.meaning) (Took t ∷ rest)

abbrev pub entry_command : List Item → Reading Command
entry_command [] = More Expanded
entry_command (Gave v ∷ rest) = Wrong NotAllowed
entry_command (Took t ∷ rest) = started (entry_start t) (Took t ∷ rest)

-- the command at the front of these items, by what stands before it
abbrev pub command : Mode → Head → List Item → Reading Command
command mode Fresh items = fresh_command mode items
command mode (Prefixed prefixes) items = prefixed_command prefixes items
command mode (Defining prefixes defined kind) items = assigning (assign.Named defined kind) items
command mode (Future prefixes defined) items = future (Future prefixes defined) items
command mode (Leading kind rule) items = leading_command mode items
command mode (LeadingBox kind b) items = leading_command mode items
command mode Shift items = shift_command mode items
command mode (Part part) items = part_command items
command mode (Delimiting_head what) items = delimiter_command items
command mode (Thickness left right) items = sizing (size.Item sized.Above) items
command mode (Accenting prefixes) items = accent_command mode prefixes items
command mode (Loading prefixes defined) items = loading defined items
command mode (Shaping_head prefixes left sizes) items = sizing size.Shape items
command mode (Opening opener) items = shaping (shape.Open opener) items
command mode (Aligning level) items = shaping shape.Align items
command mode Preamble items = preamble_command items
command mode Row items = row_command items
command mode Entry items = entry_command items
command mode SecondShift items = second_shift_command items
command mode Displayed items = displayed_command items

-- whether a token of a command is taken
abbrev pub is_begun : List Item → Bool
is_begun [] = false
is_begun (item ∷ items) = true

-- whether the name of a file is being read: behind \font, and behind the `=` if there is one (section 1257)
abbrev pub is_unnamed : {A : Type 0} → Reading A → Bool
is_unnamed (More want) = true
is_unnamed other = false

abbrev pub is_named_next : Reading Bool → Bool
is_named_next (Done found rest) = is_unnamed (file_name rest)
is_named_next other = false

abbrev pub is_naming : Head → List Item → Bool
is_naming (Loading prefixes defined) taken = is_named_next (equals taken)
is_naming other taken = false
