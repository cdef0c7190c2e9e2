-- What each command does, once it is whole (TeX: The Program, parts 45 to 49): a line for each.
use Rattle.std.specs.Prelude.{ℕ, Bool, true, false, ◌==◌, [], ◌∷◌, length, Option, Some, None, if◌then◌else◌}
use Rattle.tx_char.specs.declared.tokens.Token.{Token}
use Rattle.tx_node.specs.declared.plain.KernKind.TheVariants.{Explicit}
use Rattle.tx_node.specs.declared.plain.Plain.TheVariants as small
use Rattle.tx_node.specs.declared.plain.Shared.TheVariants as large
use Rattle.tx_node.specs.declared.plain.LeadersKind.{LeadersKind as ItemLeaders}
use Rattle.tx_node.specs.declared.plain.LeadersKind.TheVariants as item_leaders
use Rattle.tx_node.specs.declared.rule.Rule.{Rule as ARule}
use Rattle.tx_num.specs.Glue.{GlueSpec}
use Rattle.tx_node.specs.Items.{plain, shared, leaders_item, PackedBox}
use Rattle.tx_mlist.specs.declared.plain.PlainNoad.TheVariants as noad
use Rattle.tx_mlist.specs.Building.{plain_head}
use Rattle.tx_mlist.specs.Items.{small as small_noad}
use Rattle.tx_nest.specs.Grafs.{graf_of}
use Rattle.tx_eqtb.specs.declared.groups.GroupKind.{GroupKind}
use Rattle.tx_eqtb.specs.declared.groups.GroupKind.TheVariants as kind
use Rattle.tx_eqtb.specs.Stack.{kind_of}
use Rattle.tx_prim.specs.declared.family.AfterKind.{AfterKind}
use Rattle.tx_prim.specs.declared.family.AfterKind.TheVariants as after
use Rattle.tx_prim.specs.declared.family.LeadersKind.{LeadersKind}
use Rattle.tx_prim.specs.declared.family.LeadersKind.TheVariants as leaders
use Rattle.tx_prim.specs.declared.family.Prefix.{Prefix as APrefix}
use Rattle.tx_prim.specs.declared.family.Prefix.TheVariants.{Global, Long, Outer}
use Rattle.tx_prim.specs.declared.family.SizeKind.TheVariants.{Kern, MathKern, Above}
use Rattle.tx_prim.specs.declared.modes.Mode.{Mode}
use Rattle.tx_prim.specs.declared.modes.Mode.TheVariants as mode
use Rattle.tx_assign.specs.declared.types.Assignment.{Assignment}
use Rattle.tx_assign.specs.declared.types.Change.{Change}
use Rattle.tx_assign.specs.declared.types.Change.TheVariants.{Set, Compute, Add, Copy, Text}
use Rattle.tx_assign.specs.Changes.{carried_out, relaxed}
use Rattle.tx_tfm.specs.Fonts.{with_font_integer, with_font_parameter}
use Rattle.tx_command.specs.declared.types.Command.{Command}
use Rattle.tx_command.specs.declared.types.Command.TheVariants.{Nothing, Space, ControlSpace, Character, ItalicCorrection, Indent, InsertPar, EndParagraph, DiscretionaryHyphen, SetFactor, SetPrevGraf, BeginShape, Open, SetDeadCycles, SetPage, SplitBox, DefineFont, LoadFont, SetFontDimen, SetFontInteger, BeginGroup, EndGroup, BeginSemiSimple, EndSemiSimple, Prefix, Define, Assign, Sized, Rule, BeginBox, UseBox, CopyBox, LastBox, Unbox, Penalize, Remove, Skip, BeginLeaders, SetDepth, End, Interact, DefineMacro, BeginText, DefineFuture, Keep, MathShift, BeginFormula, BeginDisplay, EndDisplay, GoOn, BeginNumber, Script, MathCharacter, BeginAtom, SetLimits, SetStyle, BeginChoice, BeginFraction, BeginDelimited, Coded, BeginAccent, EndAccent, MathSkip, Nonscript, SetFamily, Align, BeginAlign, ExpandOnce, Template, BeginEntry, EndAlign}
use Rattle.tx_command.specs.declared.types.Delimiting.{Delimiting}
use Rattle.tx_command.specs.declared.types.Head.{Head}
use Rattle.tx_command.specs.declared.types.Head.TheVariants.{Accenting, Fresh, Prefixed, Defining, Future, Leading}
use Rattle.tx_command.specs.declared.types.SizeUse.TheVariants.{Item, Shape}
use Rattle.tx_command.specs.declared.types.Prefixes.{Prefixes}
use Rattle.tx_command.specs.Commands.{box_before, delimiters_before, delimiting_before, is_accenting, is_preamble, leaders_before, part_before, prefixes_of}
use Rattle.tx_galley.specs.Ending.{is_done}
use Rattle.tx_galley.specs.Assigning.{setting}
use Rattle.tx_shape.specs.declared.types.Opener.TheVariants as opener
use Rattle.tx_building.specs.Building.{built, built_outside}
use Rattle.tx_state.specs.Ended.{adding, assigned, assigning, naming}
use Rattle.tx_state.specs.State.{TexState}
use Rattle.tx_state.specs.Texts.{definition_text}
use Rattle.tx_state.specs.Outcomes.{Outcome, leaves}
use Rattle.tx_lettering.specs.Words.{breaking, collecting, control_spacing, correcting, factor_now, setting_factor_of, spacing}
use Rattle.tx_lettering.specs.Accents.{accenting, beginning_accent, ending_accent}
use Rattle.tx_lettering.specs.Fonts.{asking_font, defining_font, number_of, setting_family, setting_fonts}
use Rattle.tx_lettering.specs.Texts.{beginning_text, in_list}
use Rattle.tx_boxing.specs.Breaks.{beginning_break}
use Rattle.tx_boxing.specs.Pages.{beginning_list, ending_run, paged_so, setting_dead_cycles, splitting_off}
use Rattle.tx_boxing.specs.Boxes.{copying_box, opening_box, removing, ruling, setting_depth, taking_box, unboxing_so, using_box}
use Rattle.tx_grouping.specs.GroupEnds.{ending, ending_semi_simple}
use Rattle.tx_grouping.specs.Paragraphs.{ending_paragraph, indenting_so, inserting_par, setting_graf, shape_sized, shaping, sizes_of}
use Rattle.tx_state.specs.Groups.{opening}
use Rattle.tx_formula.specs.Atoms.{beginning_atom, beginning_choice, dividing, limiting, scripting}
use Rattle.tx_formula.specs.Characters.{setting_character, setting_number}
use Rattle.tx_formula.specs.Delimiters.{awaiting, coding, delimiting_character, lining}
use Rattle.tx_formula.specs.Displays.{beginning_display, beginning_number, ending_display, going_on_behind}
use Rattle.tx_formula.specs.Groups.{ending_choice, ending_part, grouping, opening_formula}
use Rattle.tx_formula.specs.Kinds.{style_of, thickness_of}
use Rattle.tx_formula.specs.Noads.{adding_noad}
use Rattle.tx_formula.specs.Shifts.{beginning_text as beginning_formula, shifting}
use Rattle.tx_aligning.specs.Preambles.{aligning, beginning as beginning_align, beginning_noalign, expanding, tabskipping, templating}
use Rattle.tx_aligning.specs.Entries.{beginning as beginning_entry}
use Rattle.tx_aligning.specs.Ends.{ending as ending_align}

-- one more prefix
abbrev pub with_prefix : Prefixes → APrefix → Prefixes
with_prefix prefixes Global = record prefixes { global = true }
with_prefix prefixes Long = record prefixes { long = true }
with_prefix prefixes Outer = record prefixes { outer = true }

-- what stands before the command behind prefixes: an accent that waits stands before them
abbrev pub behind_prefixes : Head → Prefixes → Head
behind_prefixes head prefixes = if is_accenting head then Accenting prefixes else Prefixed prefixes

abbrev pub prefixing : TexState → APrefix → Outcome
prefixing s prefix = leaves (record s { head = behind_prefixes s.head (with_prefix (prefixes_of s.head) prefix) })

-- an assignment, by its change
abbrev pub assigning_now : TexState → Assignment → Change → Outcome
assigning_now s a Text = leaves (in_list s a.place)
assigning_now s a (Set entry) = assigning s (carried_out s.table a (prefixes_of s.head).global)
assigning_now s a (Compute operation n) = assigning s (carried_out s.table a (prefixes_of s.head).global)
assigning_now s a (Add g) = assigning s (carried_out s.table a (prefixes_of s.head).global)
assigning_now s a (Copy other) = assigning s (carried_out s.table a (prefixes_of s.head).global)

-- the only one within a preamble is that of \tabskip
abbrev pub assigning_in : Bool → TexState → Assignment → Outcome
assigning_in true s a = tabskipping s a
assigning_in false s a = assigning_now s a a.change

-- a token is kept; outside of groups \aftergroup does nothing (section 280)
abbrev pub keeping_after : TexState → AfterKind → Token → TexState
keeping_after s after.Assignment t = record s { after_assignment = Some t }
keeping_after s after.Group t =
    if length s.table.groups == 0 then s
    else record s { after_groups = record { groups = length s.table.groups; token = t } ∷ s.after_groups }

-- how leaders are spread, as an item says it
abbrev pub spread : LeadersKind → ItemLeaders
spread leaders.Aligned = item_leaders.Aligned
spread leaders.Centered = item_leaders.Centered
spread leaders.Expanded = item_leaders.Expanded

-- glue, or leaders of a rule or of a box where they stand before it (section 1078)
abbrev pub skipping_by_box : TexState → GlueSpec → Option (LeadersKind × PackedBox) → Outcome
skipping_by_box s g None = adding s (plain (small.Glue g))
skipping_by_box s g (Some (kind, b)) = adding (record s { head = Fresh }) (leaders_item (record { kind = spread kind; glue = g }) b)

abbrev pub skipping : TexState → GlueSpec → Option (LeadersKind × ARule) → Outcome
skipping s g None = skipping_by_box s g (box_before s.head)
skipping s g (Some (kind, rule)) = adding (record s { head = Fresh }) (shared (large.Leaders (record { kind = spread kind; glue = g; rule = rule })))

-- a character of a horizontal list, and of a formula
abbrev pub character_in : TexState → ℕ → Option ℕ → Outcome
character_in s code None = setting_character s code
character_in s code (Some factor) = collecting s code factor

-- but it stands below an accent that waits, and is the delimiter that is awaited
abbrev pub character_by : TexState → ℕ → Bool → Option Delimiting → Outcome
character_by s code true awaited = accenting s code
character_by s code false (Some what) = delimiting_character s code what
character_by s code false None = character_in s code (factor_now s)

abbrev pub character_set : TexState → ℕ → Outcome
character_set s code = character_by s code (is_accenting s.head) (delimiting_before s.head)

-- a begin-group token, which in a formula begins a list of its own (sections 1063 and 1150)
abbrev pub beginning_group : TexState → Mode → Outcome
beginning_group s mode.Math = grouping s (part_before s.head)
beginning_group s mode.DisplayMath = grouping s (part_before s.head)
beginning_group s other = opening s kind.Simple s

-- an end-group token, by the kind of the innermost group
abbrev pub ending_group : TexState → Option GroupKind → Outcome
ending_group s (Some (kind.MathPart part)) = ending_part s part
ending_group s (Some (kind.MathChoice style)) = ending_choice s style
ending_group s other = ending s other

-- the effect of each command
abbrev pub effect : TexState → Command → Outcome
effect s Nothing = leaves s
effect s Space = spacing s (factor_now s)
effect s ControlSpace = control_spacing s
effect s (Character code) = character_set s code
effect s ItalicCorrection = correcting s (factor_now s)
effect s (Indent how) = indenting_so s how
effect s InsertPar = leaves (inserting_par s)
effect s EndParagraph = ending_paragraph s
effect s DiscretionaryHyphen = breaking s
effect s BeginGroup = beginning_group s s.mode
effect s EndGroup = ending_group s (kind_of s.table)
effect s BeginSemiSimple = opening s kind.SemiSimple s
effect s EndSemiSimple = ending_semi_simple s (kind_of s.table)
effect s MathShift = shifting s
effect s BeginFormula = beginning_formula s
effect s BeginDisplay = built_outside (beginning_display s)
effect s EndDisplay = ending_display s
effect s GoOn = built_outside (going_on_behind s)
effect s (BeginNumber side) = beginning_number s side
effect s (Script part) = scripting s part
effect s (MathCharacter n) = setting_number s n
effect s (BeginAtom class) = beginning_atom s class
effect s (SetLimits kind) = limiting s kind
effect s (SetStyle style) = adding_noad s (small_noad (noad.Style (style_of style)))
effect s BeginChoice = beginning_choice s
effect s (BeginFraction kind) = dividing s (plain_head (thickness_of kind))
effect s (BeginDelimited what) = awaiting s what
effect s (Coded kind n) = coding s kind n
effect s (BeginAccent code) = beginning_accent s code
effect s EndAccent = ending_accent s
effect s (MathSkip g) = adding_noad s (small_noad (noad.Glue g))
effect s Nonscript = adding_noad s (small_noad noad.Nonscript)
effect s (SetFamily size family font) = setting_family s size family font
effect s (Prefix prefix) = prefixing s prefix
effect s (Define defined kind) = naming s (Defining (prefixes_of s.head) defined kind) (carried_out s.table (relaxed defined) (prefixes_of s.head).global)
effect s (Assign a) = assigning_in (is_preamble s.head) s a
effect s (Sized (Item Kern) size) = adding s (plain (small.Kern Explicit size))
effect s (Sized (Item MathKern) size) = adding_noad s (small_noad (noad.Kern size))
effect s (Sized (Item Above) size) = lining s size (delimiters_before s.head)
effect s (Sized Shape size) = shape_sized s size s.head
effect s (Rule kind rule) = ruling s rule
effect s (Penalize n) = built (adding s (plain (small.Penalty n)))
effect s (BeginBox box goal context) = opening_box s box goal context
effect s (UseBox n context) = using_box s n context
effect s (CopyBox n context) = copying_box s n context
effect s (LastBox context) = taking_box s context
effect s (SplitBox n size context) = splitting_off s n size context
effect s (Unbox kind n) = unboxing_so s kind n
effect s (Remove kind) = removing s kind
effect s (Skip g) = skipping s g (leaders_before s.head)
effect s (BeginLeaders kind rule) = leaves (record s { head = Leading kind rule })
effect s (SetDepth depth) = setting_depth s depth
effect s (SetFactor number) = setting_factor_of s number (factor_now s)
effect s (SetPrevGraf number) = setting_graf s (graf_of number)
effect s (BeginShape lines) = shaping s (prefixes_of s.head) (sizes_of lines) []
effect s (Open (opener.Break text)) = beginning_break s text
effect s (Open (opener.Choice style)) = opening_formula s (kind.MathChoice style)
effect s (Open (opener.Insert class)) = beginning_list s (kind.Insert class)
effect s (Open opener.Output) = beginning_list s kind.Output
effect s (Open opener.NoAlign) = beginning_noalign s
effect s Align = aligning s
effect s (BeginAlign goal) = beginning_align s goal
effect s ExpandOnce = expanding s
effect s (Template t) = templating s t
effect s (BeginEntry omitted) = beginning_entry s omitted
effect s EndAlign = built (ending_align s)
effect s (SetDeadCycles n) = setting_dead_cycles s n
effect s (SetPage quantity v) = paged_so s (setting quantity v s.lists.pages)
effect s (DefineFont defined) = defining_font s defined
effect s (LoadFont defined name asked) = asking_font s defined name asked
effect s (SetFontDimen font n size) = setting_fonts s (with_font_parameter s.words.fonts (number_of s font) n size)
effect s (SetFontInteger kind font n) = setting_fonts s (with_font_integer kind s.words.fonts (number_of s font) n)
effect s End = ending_run s (is_done s.lists.nest s.lists.pages)
effect s (Interact kind) = leaves (assigned s)
effect s (DefineMacro defined kind) = leaves (record s { text = Some (definition_text defined kind) })
effect s (BeginText purpose) = beginning_text s purpose
effect s (DefineFuture defined) = leaves (record s { head = Future (prefixes_of s.head) defined })
effect s (Keep kind t) = leaves (keeping_after s kind t)
