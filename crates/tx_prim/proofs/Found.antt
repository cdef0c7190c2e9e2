-- Each primitive is the first of all that has its name.
use Rattle.std.proofs.Common.{◌≡◌, ℕ, List, [], ◌∷◌, Some, IfSome, cond, true, false, refl}
use Rattle.tx_prim.specs.declared.primitive.Primitive.{Primitive}
use Rattle.tx_prim.specs.declared.primitive.Primitive.TheVariants.{Relax, EndCsName, Par, BeginGroup, EndGroup, Prefix, Let, Shorthand, Arithmetic, Numbered, Integer, Dimension, Glue, Tokens, Sized, Rule, Box, Shipout, End, IgnoreSpaces, Interaction, Definition, Text, After, FutureLet, BoxFrom, SetBox, Shift, Unbox, HorizontalGlue, VerticalGlue, Penalty, Remove, Last, Badness, PrevDepth, Leaders, NullFont, LoadFont, FontDimen, FontInteger, FamilyFont, Char, SpaceFactor as Factor, ItalicCorrection, ControlSpace, Indent, DiscretionaryHyphen, PrevGraf, ParShape, Adjust, Discretionary, MathChar, Atom, Center, Limits, Style, Choice, Fraction, Delimited, Coded, Accent, MathGlue, Nonscript, Insert, DeadCycles, Page, Align, AlignWord, EquationNumber}
use Rattle.tx_prim.specs.declared.family.Prefix.TheVariants.{Global, Long, Outer}
use Rattle.tx_prim.specs.declared.family.Interaction.TheVariants.{Batch, Nonstop, Scroll, Errorstop}
use Rattle.tx_prim.specs.declared.family.Operation.TheVariants.{Advance, Multiply, Divide}
use Rattle.tx_prim.specs.declared.family.Shorthand.TheVariants.{CountRegister, DimenRegister, SkipRegister, MuskipRegister, ToksRegister, Character, MathCharacter}
use Rattle.tx_prim.specs.declared.family.CharacterCode.TheVariants.{LowerCase, UpperCase, SpaceFactor, Math, Delimiter}
use Rattle.tx_prim.specs.declared.family.Numbered.TheVariants.{Count, Dimen, Skip, Muskip, Toks, Category, Code, Size}
use Rattle.tx_prim.specs.declared.family.SizeKind.TheVariants.{Kern, MathKern, Above}
use Rattle.tx_prim.specs.declared.family.BoxKind.TheVariants as box
use Rattle.tx_prim.specs.declared.family.RuleKind.TheVariants as rule
use Rattle.tx_prim.specs.declared.family.BoxSide.TheVariants as side
use Rattle.tx_prim.specs.declared.family.BoxSource.TheVariants as source
use Rattle.tx_prim.specs.declared.family.ShiftKind.TheVariants as shift
use Rattle.tx_prim.specs.declared.family.UnboxKind.TheVariants as unbox
use Rattle.tx_prim.specs.declared.family.GlueForm.TheVariants as glue
use Rattle.tx_prim.specs.declared.family.ItemKind.TheVariants as item
use Rattle.tx_prim.specs.declared.family.LeadersKind.TheVariants as leaders
use Rattle.tx_prim.specs.declared.family.FontNumber.TheVariants as font
use Rattle.tx_prim.specs.declared.family.AtomClass.TheVariants as atom
use Rattle.tx_prim.specs.declared.family.LimitsKind.TheVariants as limits
use Rattle.tx_prim.specs.declared.family.MathStyle.TheVariants as style
use Rattle.tx_prim.specs.declared.family.FractionKind.TheVariants as fraction
use Rattle.tx_prim.specs.declared.family.DelimiterUse.TheVariants as delimited
use Rattle.tx_prim.specs.declared.family.DelimitedKind.TheVariants as between
use Rattle.tx_prim.specs.declared.family.CodedKind.TheVariants as coded
use Rattle.tx_prim.specs.declared.family.MathSize.TheVariants as family
use Rattle.tx_prim.specs.declared.family.Indentation.TheVariants.{Indented, Flush}
use Rattle.tx_prim.specs.declared.family.DefinitionKind.TheVariants as definition
use Rattle.tx_prim.specs.declared.family.TextUse.TheVariants as text
use Rattle.tx_prim.specs.declared.family.PageQuantity.TheVariants as page
use Rattle.tx_prim.specs.declared.family.AlignWord.TheVariants as align
use Rattle.tx_prim.specs.declared.family.NumberSide.TheVariants as number_side
use Rattle.tx_prim.specs.declared.family.AfterKind.TheVariants as after
use Rattle.tx_prim.specs.declared.integer.IntegerParameter.{IntegerParameter}
use Rattle.tx_prim.specs.declared.integer.IntegerParameter.TheVariants.{Pretolerance, Tolerance, Hbadness, Vbadness, Linepenalty, Hyphenpenalty, Exhyphenpenalty, Binoppenalty, Relpenalty, Clubpenalty, Widowpenalty, Displaywidowpenalty, Brokenpenalty, Predisplaypenalty, Postdisplaypenalty, Interlinepenalty, Floatingpenalty, Outputpenalty, Doublehyphendemerits, Finalhyphendemerits, Adjdemerits, Looseness, Pausing, Holdinginserts, Tracingonline, Tracingmacros, Tracingstats, Tracingparagraphs, Tracingpages, Tracingoutput, Tracinglostchars, Tracingcommands, Tracingrestores, Language, Uchyph, Lefthyphenmin, Righthyphenmin, Globaldefs, Defaulthyphenchar, Defaultskewchar, Escapechar, Endlinechar, Newlinechar, Maxdeadcycles, Hangafter, Fam, Mag, Delimiterfactor, Time, Day, Month, Year, Showboxbreadth, Showboxdepth, Errorcontextlines}
use Rattle.tx_prim.specs.declared.dimension.DimensionParameter.{DimensionParameter}
use Rattle.tx_prim.specs.declared.dimension.DimensionParameter.TheVariants.{Hfuzz, Vfuzz, Overfullrule, Emergencystretch, Hsize, Vsize, Maxdepth, Splitmaxdepth, Boxmaxdepth, Lineskiplimit, Delimitershortfall, Nulldelimiterspace, Scriptspace, Mathsurround, Predisplaysize, Displaywidth, Displayindent, Parindent, Hangindent, Hoffset, Voffset}
use Rattle.tx_prim.specs.declared.glue.GlueParameter.{GlueParameter}
use Rattle.tx_prim.specs.declared.glue.GlueParameter.TheVariants.{Baselineskip, Lineskip, Parskip, Abovedisplayskip, Abovedisplayshortskip, Belowdisplayskip, Belowdisplayshortskip, Leftskip, Rightskip, Topskip, Splittopskip, Tabskip, Spaceskip, Xspaceskip, Parfillskip, Thinmuskip, Medmuskip, Thickmuskip}
use Rattle.tx_prim.specs.declared.tokens.TokenParameter.{TokenParameter}
use Rattle.tx_prim.specs.declared.tokens.TokenParameter.TheVariants.{Output, Everypar, Everymath, Everydisplay, Everyhbox, Everyvbox, Everyjob, Everycr, Errhelp}
use Rattle.tx_prim.specs.Integers.{integer_name}
use Rattle.tx_prim.specs.Dimensions.{dimension_name}
use Rattle.tx_prim.specs.Glues.{glue_name}
use Rattle.tx_prim.specs.Tokens.{token_name}
use Rattle.std.specs.Str.{bytes_eq}
use Rattle.std.specs.Cmp.Lexicographic.{bytes_decides}
use Rattle.tx_prim.specs.Table.{all, line_of, name_of, named}

integer-found : (p : IntegerParameter) → named all (name_of (Integer p)) ≡ Some (Integer p)
unfolding all line_of integer_name dimension_name glue_name token_name
integer-found Pretolerance = refl
integer-found Tolerance = refl
integer-found Hbadness = refl
integer-found Vbadness = refl
integer-found Linepenalty = refl
integer-found Hyphenpenalty = refl
integer-found Exhyphenpenalty = refl
integer-found Binoppenalty = refl
integer-found Relpenalty = refl
integer-found Clubpenalty = refl
integer-found Widowpenalty = refl
integer-found Displaywidowpenalty = refl
integer-found Brokenpenalty = refl
integer-found Predisplaypenalty = refl
integer-found Postdisplaypenalty = refl
integer-found Interlinepenalty = refl
integer-found Floatingpenalty = refl
integer-found Outputpenalty = refl
integer-found Doublehyphendemerits = refl
integer-found Finalhyphendemerits = refl
integer-found Adjdemerits = refl
integer-found Looseness = refl
integer-found Pausing = refl
integer-found Holdinginserts = refl
integer-found Tracingonline = refl
integer-found Tracingmacros = refl
integer-found Tracingstats = refl
integer-found Tracingparagraphs = refl
integer-found Tracingpages = refl
integer-found Tracingoutput = refl
integer-found Tracinglostchars = refl
integer-found Tracingcommands = refl
integer-found Tracingrestores = refl
integer-found Language = refl
integer-found Uchyph = refl
integer-found Lefthyphenmin = refl
integer-found Righthyphenmin = refl
integer-found Globaldefs = refl
integer-found Defaulthyphenchar = refl
integer-found Defaultskewchar = refl
integer-found Escapechar = refl
integer-found Endlinechar = refl
integer-found Newlinechar = refl
integer-found Maxdeadcycles = refl
integer-found Hangafter = refl
integer-found Fam = refl
integer-found Mag = refl
integer-found Delimiterfactor = refl
integer-found Time = refl
integer-found Day = refl
integer-found Month = refl
integer-found Year = refl
integer-found Showboxbreadth = refl
integer-found Showboxdepth = refl
integer-found Errorcontextlines = refl

dimension-found : (p : DimensionParameter) → named all (name_of (Dimension p)) ≡ Some (Dimension p)
unfolding all line_of integer_name dimension_name glue_name token_name
dimension-found Hfuzz = refl
dimension-found Vfuzz = refl
dimension-found Overfullrule = refl
dimension-found Emergencystretch = refl
dimension-found Hsize = refl
dimension-found Vsize = refl
dimension-found Maxdepth = refl
dimension-found Splitmaxdepth = refl
dimension-found Boxmaxdepth = refl
dimension-found Lineskiplimit = refl
dimension-found Delimitershortfall = refl
dimension-found Nulldelimiterspace = refl
dimension-found Scriptspace = refl
dimension-found Mathsurround = refl
dimension-found Predisplaysize = refl
dimension-found Displaywidth = refl
dimension-found Displayindent = refl
dimension-found Parindent = refl
dimension-found Hangindent = refl
dimension-found Hoffset = refl
dimension-found Voffset = refl

token-found : (p : TokenParameter) → named all (name_of (Tokens p)) ≡ Some (Tokens p)
unfolding all line_of integer_name dimension_name glue_name token_name
token-found Output = refl
token-found Everypar = refl
token-found Everymath = refl
token-found Everydisplay = refl
token-found Everyhbox = refl
token-found Everyvbox = refl
token-found Everyjob = refl
token-found Everycr = refl
token-found Errhelp = refl

glue-found : (p : GlueParameter) → named all (name_of (Glue p)) ≡ Some (Glue p)
unfolding all line_of integer_name dimension_name glue_name token_name
glue-found Baselineskip = refl
glue-found Lineskip = refl
glue-found Parskip = refl
glue-found Abovedisplayskip = refl
glue-found Abovedisplayshortskip = refl
glue-found Belowdisplayskip = refl
glue-found Belowdisplayshortskip = refl
glue-found Leftskip = refl
glue-found Rightskip = refl
glue-found Topskip = refl
glue-found Splittopskip = refl
glue-found Tabskip = refl
glue-found Spaceskip = refl
glue-found Xspaceskip = refl
glue-found Parfillskip = refl
glue-found Thinmuskip = refl
glue-found Medmuskip = refl
glue-found Thickmuskip = refl

pub found : (p : Primitive) → named all (name_of p) ≡ Some p
unfolding all line_of integer_name dimension_name glue_name token_name
found Relax = refl
found EndCsName = refl
found BeginGroup = refl
found EndGroup = refl
found (Prefix Global) = refl
found Let = refl
found (Arithmetic Advance) = refl
found (Arithmetic Multiply) = refl
found (Arithmetic Divide) = refl
found (Numbered Count) = refl
found (Numbered Dimen) = refl
found (Numbered Toks) = refl
found (Shorthand CountRegister) = refl
found (Shorthand DimenRegister) = refl
found (Shorthand ToksRegister) = refl
found (Shorthand Character) = refl
found (Shorthand MathCharacter) = refl
found (Numbered Category) = refl
found (Numbered (Code LowerCase)) = refl
found (Numbered (Code UpperCase)) = refl
found (Numbered (Code SpaceFactor)) = refl
found (Numbered (Code Math)) = refl
found (Numbered (Code Delimiter)) = refl
found (Box box.Horizontal) = refl
found Shipout = refl
found (Sized Kern) = refl
found Par = refl
found End = refl
found (Rule rule.Vertical) = refl
found (Prefix Long) = refl
found (Prefix Outer) = refl
found IgnoreSpaces = refl
found (Interaction Batch) = refl
found (Interaction Nonstop) = refl
found (Interaction Scroll) = refl
found (Interaction Errorstop) = refl
found (Definition definition.Plain) = refl
found (Definition definition.Expanded) = refl
found (Definition definition.Global) = refl
found (Definition definition.GlobalExpanded) = refl
found (Text text.Message) = refl
found (Text text.ErrorMessage) = refl
found (Text text.UpperCase) = refl
found (Text text.LowerCase) = refl
found (After after.Group) = refl
found (After after.Assignment) = refl
found FutureLet = refl
found (Box box.Vertical) = refl
found (Box box.Top) = refl
found (BoxFrom source.Register) = refl
found (BoxFrom source.Copy) = refl
found (BoxFrom source.Last) = refl
found SetBox = refl
found (Numbered (Size side.Width)) = refl
found (Numbered (Size side.Height)) = refl
found (Numbered (Size side.Depth)) = refl
found (Shift shift.Raise) = refl
found (Shift shift.Lower) = refl
found (Shift shift.Left) = refl
found (Shift shift.Right) = refl
found (Rule rule.Horizontal) = refl
found (Unbox unbox.Horizontal) = refl
found (Unbox unbox.HorizontalCopy) = refl
found (Unbox unbox.Vertical) = refl
found (Unbox unbox.VerticalCopy) = refl
found (HorizontalGlue glue.Skip) = refl
found (HorizontalGlue glue.Fil) = refl
found (HorizontalGlue glue.Fill) = refl
found (HorizontalGlue glue.Both) = refl
found (HorizontalGlue glue.Negative) = refl
found (VerticalGlue glue.Skip) = refl
found (VerticalGlue glue.Fil) = refl
found (VerticalGlue glue.Fill) = refl
found (VerticalGlue glue.Both) = refl
found (VerticalGlue glue.Negative) = refl
found Penalty = refl
found (Remove item.Penalty) = refl
found (Remove item.Kern) = refl
found (Remove item.Skip) = refl
found (Last item.Penalty) = refl
found (Last item.Kern) = refl
found (Last item.Skip) = refl
found Badness = refl
found PrevDepth = refl
found (Text text.Special) = refl
found (Leaders leaders.Aligned) = refl
found (Leaders leaders.Centered) = refl
found (Leaders leaders.Expanded) = refl
found (Numbered Skip) = refl
found (Numbered Muskip) = refl
found (Shorthand SkipRegister) = refl
found (Shorthand MuskipRegister) = refl
found NullFont = refl
found LoadFont = refl
found FontDimen = refl
found (FontInteger font.Hyphen) = refl
found (FontInteger font.Skew) = refl
found (FamilyFont family.Text) = refl
found (FamilyFont family.Script) = refl
found (FamilyFont family.ScriptScript) = refl
found Char = refl
found Factor = refl
found ItalicCorrection = refl
found ControlSpace = refl
found (Indent Indented) = refl
found (Indent Flush) = refl
found DiscretionaryHyphen = refl
found PrevGraf = refl
found ParShape = refl
found Adjust = refl
found Discretionary = refl
found MathChar = refl
found (Atom atom.Ord) = refl
found (Atom atom.Op) = refl
found (Atom atom.Bin) = refl
found (Atom atom.Rel) = refl
found (Atom atom.Open) = refl
found (Atom atom.Close) = refl
found (Atom atom.Punct) = refl
found (Atom atom.Inner) = refl
found (Atom atom.Under) = refl
found (Atom atom.Over) = refl
found Center = refl
found (Limits limits.Always) = refl
found (Limits limits.Never) = refl
found (Limits limits.Displayed) = refl
found (Style style.Display) = refl
found (Style style.Text) = refl
found (Style style.Script) = refl
found (Style style.ScriptScript) = refl
found Choice = refl
found (Fraction fraction.Over) = refl
found (Fraction fraction.Atop) = refl
found (Sized Above) = refl
found (Delimited delimited.Left) = refl
found (Delimited delimited.Right) = refl
found (Delimited (delimited.Fraction between.Over)) = refl
found (Delimited (delimited.Fraction between.Atop)) = refl
found (Delimited (delimited.Fraction between.Above)) = refl
found (Coded coded.Delimiter) = refl
found (Coded coded.Radical) = refl
found (Coded coded.Accent) = refl
found Accent = refl
found MathGlue = refl
found (Sized MathKern) = refl
found Nonscript = refl
found (Text text.Patterns) = refl
found (Text text.Hyphenation) = refl
found (BoxFrom source.Split) = refl
found Insert = refl
found (Text text.Mark) = refl
found DeadCycles = refl
found (Page page.Goal) = refl
found (Page page.Total) = refl
found (Page page.Stretch) = refl
found (Page page.FilStretch) = refl
found (Page page.FillStretch) = refl
found (Page page.FilllStretch) = refl
found (Page page.Shrink) = refl
found (Page page.Depth) = refl
found (Page page.InsertPenalties) = refl
found Align = refl
found (AlignWord align.Cr) = refl
found (AlignWord align.CrCr) = refl
found (AlignWord align.Span) = refl
found (AlignWord align.Omit) = refl
found (AlignWord align.NoAlign) = refl
found (EquationNumber number_side.Right) = refl
found (EquationNumber number_side.Left) = refl
found (Integer p) = integer-found p
found (Dimension p) = dimension-found p
found (Tokens p) = token-found p
found (Glue p) = glue-found p

-- what is found has the name
pub has-name : (primitives : List Primitive) (name : List ℕ) → IfSome (named primitives name) (λ p. name_of p ≡ name)
has-name [] name = tt
has-name (p ∷ primitives) name =
    elim (bytes_eq (name_of p) name) as (λ b. bytes_eq (name_of p) name ≡ b → IfSome (cond b (Some p) (named primitives name)) (λ q. name_of q ≡ name)) [
      | true ↦ λ e. (bytes_decides (name_of p) name).0 e
      | false ↦ λ e. has-name primitives name
    ] refl
