-- The table of the primitives.
use Rattle.std.specs.Prelude.{ℕ, List, [], ◌∷◌, Option, None, Some, codes, cond, bytes_eq}
use Rattle.tx_prim.specs.declared.primitive.Primitive.{Primitive}
use Rattle.tx_prim.specs.declared.primitive.Primitive.TheVariants.{Relax, EndCsName, Par, BeginGroup, EndGroup, Prefix, Let, Shorthand, Arithmetic, Numbered, Integer, Dimension, Glue, Tokens, Sized, Rule, Box, Shipout, End, IgnoreSpaces, Interaction, Definition, Text, After, FutureLet, BoxFrom, SetBox, Shift, Unbox, HorizontalGlue, VerticalGlue, Penalty, Remove, Last, Badness, PrevDepth, Leaders, NullFont, LoadFont, FontDimen, FontInteger, FamilyFont, Char, SpaceFactor as Factor, ItalicCorrection, ControlSpace, Indent, DiscretionaryHyphen, PrevGraf, ParShape, Adjust, Discretionary, MathChar, Atom, Center, Limits, Style, Choice, Fraction, Delimited, Coded, Accent, MathGlue, Nonscript, Insert, DeadCycles, Page, Align, AlignWord, EquationNumber}
use Rattle.tx_prim.specs.declared.family.Prefix.TheVariants.{Global, Long, Outer}
use Rattle.tx_prim.specs.declared.family.Interaction.TheVariants.{Batch, Nonstop, Scroll, Errorstop}
use Rattle.tx_prim.specs.declared.family.Operation.TheVariants.{Advance, Multiply, Divide}
use Rattle.tx_prim.specs.declared.family.Shorthand.TheVariants.{CountRegister, DimenRegister, SkipRegister, MuskipRegister, ToksRegister, Character, MathCharacter}
use Rattle.tx_prim.specs.declared.family.CharacterCode.TheVariants.{LowerCase, UpperCase, SpaceFactor, Math, Delimiter}
use Rattle.tx_prim.specs.declared.family.Numbered.TheVariants.{Count, Dimen, Skip, Muskip, Toks, Category, Code, Size}
use Rattle.tx_prim.specs.declared.family.SizeKind.TheVariants.{Kern, MathKern, Above}
use Rattle.tx_prim.specs.declared.family.BoxKind.TheVariants as box
use Rattle.tx_prim.specs.declared.family.RuleKind.TheVariants as rule
use Rattle.tx_prim.specs.declared.family.BoxSide.TheVariants as side
use Rattle.tx_prim.specs.declared.family.BoxSource.TheVariants as source
use Rattle.tx_prim.specs.declared.family.ShiftKind.TheVariants as shift
use Rattle.tx_prim.specs.declared.family.UnboxKind.TheVariants as unbox
use Rattle.tx_prim.specs.declared.family.GlueForm.TheVariants as glue
use Rattle.tx_prim.specs.declared.family.ItemKind.TheVariants as item
use Rattle.tx_prim.specs.declared.family.LeadersKind.TheVariants as leaders
use Rattle.tx_prim.specs.declared.family.FontNumber.TheVariants as font
use Rattle.tx_prim.specs.declared.family.AtomClass.TheVariants as atom
use Rattle.tx_prim.specs.declared.family.LimitsKind.TheVariants as limits
use Rattle.tx_prim.specs.declared.family.MathStyle.TheVariants as style
use Rattle.tx_prim.specs.declared.family.FractionKind.TheVariants as fraction
use Rattle.tx_prim.specs.declared.family.DelimiterUse.TheVariants as delimited
use Rattle.tx_prim.specs.declared.family.DelimitedKind.TheVariants as between
use Rattle.tx_prim.specs.declared.family.CodedKind.TheVariants as coded
use Rattle.tx_prim.specs.declared.family.MathSize.TheVariants as family
use Rattle.tx_prim.specs.declared.family.Indentation.TheVariants.{Indented, Flush}
use Rattle.tx_prim.specs.declared.family.DefinitionKind.TheVariants as definition
use Rattle.tx_prim.specs.declared.family.TextUse.TheVariants as text
use Rattle.tx_prim.specs.declared.family.PageQuantity.TheVariants as page
use Rattle.tx_prim.specs.declared.family.AlignWord.TheVariants as align
use Rattle.tx_prim.specs.declared.family.NumberSide.TheVariants as number_side
use Rattle.tx_prim.specs.declared.family.AfterKind.TheVariants as after
use Rattle.tx_prim.specs.declared.integer.IntegerParameter.TheVariants.{Pretolerance, Tolerance, Hbadness, Vbadness, Linepenalty, Hyphenpenalty, Exhyphenpenalty, Binoppenalty, Relpenalty, Clubpenalty, Widowpenalty, Displaywidowpenalty, Brokenpenalty, Predisplaypenalty, Postdisplaypenalty, Interlinepenalty, Floatingpenalty, Outputpenalty, Doublehyphendemerits, Finalhyphendemerits, Adjdemerits, Looseness, Pausing, Holdinginserts, Tracingonline, Tracingmacros, Tracingstats, Tracingparagraphs, Tracingpages, Tracingoutput, Tracinglostchars, Tracingcommands, Tracingrestores, Language, Uchyph, Lefthyphenmin, Righthyphenmin, Globaldefs, Defaulthyphenchar, Defaultskewchar, Escapechar, Endlinechar, Newlinechar, Maxdeadcycles, Hangafter, Fam, Mag, Delimiterfactor, Time, Day, Month, Year, Showboxbreadth, Showboxdepth, Errorcontextlines}
use Rattle.tx_prim.specs.declared.dimension.DimensionParameter.TheVariants.{Hfuzz, Vfuzz, Overfullrule, Emergencystretch, Hsize, Vsize, Maxdepth, Splitmaxdepth, Boxmaxdepth, Lineskiplimit, Delimitershortfall, Nulldelimiterspace, Scriptspace, Mathsurround, Predisplaysize, Displaywidth, Displayindent, Parindent, Hangindent, Hoffset, Voffset}
use Rattle.tx_prim.specs.declared.glue.GlueParameter.TheVariants.{Baselineskip, Lineskip, Parskip, Abovedisplayskip, Abovedisplayshortskip, Belowdisplayskip, Belowdisplayshortskip, Leftskip, Rightskip, Topskip, Splittopskip, Tabskip, Spaceskip, Xspaceskip, Parfillskip, Thinmuskip, Medmuskip, Thickmuskip}
use Rattle.tx_prim.specs.declared.tokens.TokenParameter.TheVariants.{Output, Everypar, Everymath, Everydisplay, Everyhbox, Everyvbox, Everyjob, Everycr, Errhelp}
use Rattle.tx_prim.specs.declared.modes.Modes.{Modes}
use Rattle.tx_prim.specs.declared.modes.Modes.TheVariants.{All, NotMath, NotVertical, InVertical, OnlyVertical, OutsideVertical, OnlyHorizontal, InHorizontal, Pages, Math as Formulas}
use Rattle.tx_prim.specs.Integers.{integer_name}
use Rattle.tx_prim.specs.Dimensions.{dimension_name}
use Rattle.tx_prim.specs.Glues.{glue_name}
use Rattle.tx_prim.specs.Tokens.{token_name}

-- a line of the table: a name, without its escape character, and the modes in which the command may stand
pub record Line : Type 0 where
  pub name : List ℕ
  pub modes : Modes

abbrev line : List ℕ → Modes → Line
line name modes = record { name = name; modes = modes }

-- the table (The TeXbook, chapters 24 to 26)
unfoldable pub line_of : Primitive → Line
line_of Relax = line (codes "relax") All
line_of EndCsName = line (codes "endcsname") All
line_of BeginGroup = line (codes "begingroup") All
line_of EndGroup = line (codes "endgroup") All
line_of (Prefix Global) = line (codes "global") All
line_of Let = line (codes "let") All
line_of (Arithmetic Advance) = line (codes "advance") All
line_of (Arithmetic Multiply) = line (codes "multiply") All
line_of (Arithmetic Divide) = line (codes "divide") All
line_of (Numbered Count) = line (codes "count") All
line_of (Numbered Dimen) = line (codes "dimen") All
line_of (Numbered Toks) = line (codes "toks") All
line_of (Shorthand CountRegister) = line (codes "countdef") All
line_of (Shorthand DimenRegister) = line (codes "dimendef") All
line_of (Shorthand ToksRegister) = line (codes "toksdef") All
line_of (Shorthand Character) = line (codes "chardef") All
line_of (Shorthand MathCharacter) = line (codes "mathchardef") All
line_of (Numbered Category) = line (codes "catcode") All
line_of (Numbered (Code LowerCase)) = line (codes "lccode") All
line_of (Numbered (Code UpperCase)) = line (codes "uccode") All
line_of (Numbered (Code SpaceFactor)) = line (codes "sfcode") All
line_of (Numbered (Code Math)) = line (codes "mathcode") All
line_of (Numbered (Code Delimiter)) = line (codes "delcode") All
line_of (Box box.Horizontal) = line (codes "hbox") All
line_of Shipout = line (codes "shipout") All
line_of (Sized Kern) = line (codes "kern") All
line_of Par = line (codes "par") NotMath
line_of End = line (codes "end") Pages
line_of (Rule rule.Vertical) = line (codes "vrule") NotVertical
line_of (Prefix Long) = line (codes "long") All
line_of (Prefix Outer) = line (codes "outer") All
line_of IgnoreSpaces = line (codes "ignorespaces") All
line_of (Interaction Batch) = line (codes "batchmode") All
line_of (Interaction Nonstop) = line (codes "nonstopmode") All
line_of (Interaction Scroll) = line (codes "scrollmode") All
line_of (Interaction Errorstop) = line (codes "errorstopmode") All
line_of (Definition definition.Plain) = line (codes "def") All
line_of (Definition definition.Expanded) = line (codes "edef") All
line_of (Definition definition.Global) = line (codes "gdef") All
line_of (Definition definition.GlobalExpanded) = line (codes "xdef") All
line_of (Text text.Message) = line (codes "message") All
line_of (Text text.ErrorMessage) = line (codes "errmessage") All
line_of (Text text.UpperCase) = line (codes "uppercase") All
line_of (Text text.LowerCase) = line (codes "lowercase") All
line_of (After after.Group) = line (codes "aftergroup") All
line_of (After after.Assignment) = line (codes "afterassignment") All
line_of FutureLet = line (codes "futurelet") All
line_of (Box box.Vertical) = line (codes "vbox") All
line_of (Box box.Top) = line (codes "vtop") All
line_of (BoxFrom source.Register) = line (codes "box") All
line_of (BoxFrom source.Copy) = line (codes "copy") All
line_of (BoxFrom source.Last) = line (codes "lastbox") All
line_of SetBox = line (codes "setbox") All
line_of (Numbered (Size side.Width)) = line (codes "wd") All
line_of (Numbered (Size side.Height)) = line (codes "ht") All
line_of (Numbered (Size side.Depth)) = line (codes "dp") All
line_of (Shift shift.Raise) = line (codes "raise") OutsideVertical
line_of (Shift shift.Lower) = line (codes "lower") OutsideVertical
line_of (Shift shift.Left) = line (codes "moveleft") OnlyVertical
line_of (Shift shift.Right) = line (codes "moveright") OnlyVertical
line_of (Rule rule.Horizontal) = line (codes "hrule") InVertical
line_of (Unbox unbox.Horizontal) = line (codes "unhbox") NotVertical
line_of (Unbox unbox.HorizontalCopy) = line (codes "unhcopy") NotVertical
line_of (Unbox unbox.Vertical) = line (codes "unvbox") InVertical
line_of (Unbox unbox.VerticalCopy) = line (codes "unvcopy") InVertical
line_of (HorizontalGlue glue.Skip) = line (codes "hskip") NotVertical
line_of (HorizontalGlue glue.Fil) = line (codes "hfil") NotVertical
line_of (HorizontalGlue glue.Fill) = line (codes "hfill") NotVertical
line_of (HorizontalGlue glue.Both) = line (codes "hss") NotVertical
line_of (HorizontalGlue glue.Negative) = line (codes "hfilneg") NotVertical
line_of (VerticalGlue glue.Skip) = line (codes "vskip") InVertical
line_of (VerticalGlue glue.Fil) = line (codes "vfil") InVertical
line_of (VerticalGlue glue.Fill) = line (codes "vfill") InVertical
line_of (VerticalGlue glue.Both) = line (codes "vss") InVertical
line_of (VerticalGlue glue.Negative) = line (codes "vfilneg") InVertical
line_of Penalty = line (codes "penalty") All
line_of (Remove item.Penalty) = line (codes "unpenalty") All
line_of (Remove item.Kern) = line (codes "unkern") All
line_of (Remove item.Skip) = line (codes "unskip") All
line_of (Last item.Penalty) = line (codes "lastpenalty") All
line_of (Last item.Kern) = line (codes "lastkern") All
line_of (Last item.Skip) = line (codes "lastskip") All
line_of Badness = line (codes "badness") All
line_of PrevDepth = line (codes "prevdepth") OnlyVertical
line_of (Text text.Special) = line (codes "special") All
line_of (Leaders leaders.Aligned) = line (codes "leaders") All
line_of (Leaders leaders.Centered) = line (codes "cleaders") All
line_of (Leaders leaders.Expanded) = line (codes "xleaders") All
line_of (Numbered Skip) = line (codes "skip") All
line_of (Numbered Muskip) = line (codes "muskip") All
line_of (Shorthand SkipRegister) = line (codes "skipdef") All
line_of (Shorthand MuskipRegister) = line (codes "muskipdef") All
line_of NullFont = line (codes "nullfont") All
line_of LoadFont = line (codes "font") All
line_of FontDimen = line (codes "fontdimen") All
line_of (FontInteger font.Hyphen) = line (codes "hyphenchar") All
line_of (FontInteger font.Skew) = line (codes "skewchar") All
line_of (FamilyFont family.Text) = line (codes "textfont") All
line_of (FamilyFont family.Script) = line (codes "scriptfont") All
line_of (FamilyFont family.ScriptScript) = line (codes "scriptscriptfont") All
line_of Char = line (codes "char") NotVertical
line_of Factor = line (codes "spacefactor") OnlyHorizontal
line_of ItalicCorrection = line (codes "/") OutsideVertical
line_of ControlSpace = line (codes " ") NotVertical
line_of (Indent Indented) = line (codes "indent") All
line_of (Indent Flush) = line (codes "noindent") All
line_of DiscretionaryHyphen = line (codes "-") NotVertical
line_of PrevGraf = line (codes "prevgraf") All
line_of ParShape = line (codes "parshape") All
line_of Adjust = line (codes "vadjust") OutsideVertical
line_of Discretionary = line (codes "discretionary") NotVertical
line_of MathChar = line (codes "mathchar") Formulas
line_of (Atom atom.Ord) = line (codes "mathord") Formulas
line_of (Atom atom.Op) = line (codes "mathop") Formulas
line_of (Atom atom.Bin) = line (codes "mathbin") Formulas
line_of (Atom atom.Rel) = line (codes "mathrel") Formulas
line_of (Atom atom.Open) = line (codes "mathopen") Formulas
line_of (Atom atom.Close) = line (codes "mathclose") Formulas
line_of (Atom atom.Punct) = line (codes "mathpunct") Formulas
line_of (Atom atom.Inner) = line (codes "mathinner") Formulas
line_of (Atom atom.Under) = line (codes "underline") Formulas
line_of (Atom atom.Over) = line (codes "overline") Formulas
line_of Center = line (codes "vcenter") Formulas
line_of (Limits limits.Always) = line (codes "limits") Formulas
line_of (Limits limits.Never) = line (codes "nolimits") Formulas
line_of (Limits limits.Displayed) = line (codes "displaylimits") Formulas
line_of (Style style.Display) = line (codes "displaystyle") Formulas
line_of (Style style.Text) = line (codes "textstyle") Formulas
line_of (Style style.Script) = line (codes "scriptstyle") Formulas
line_of (Style style.ScriptScript) = line (codes "scriptscriptstyle") Formulas
line_of Choice = line (codes "mathchoice") Formulas
line_of (Fraction fraction.Over) = line (codes "over") Formulas
line_of (Fraction fraction.Atop) = line (codes "atop") Formulas
line_of (Sized Above) = line (codes "above") Formulas
line_of (Delimited delimited.Left) = line (codes "left") Formulas
line_of (Delimited delimited.Right) = line (codes "right") Formulas
line_of (Delimited (delimited.Fraction between.Over)) = line (codes "overwithdelims") Formulas
line_of (Delimited (delimited.Fraction between.Atop)) = line (codes "atopwithdelims") Formulas
line_of (Delimited (delimited.Fraction between.Above)) = line (codes "abovewithdelims") Formulas
line_of (Coded coded.Delimiter) = line (codes "delimiter") Formulas
line_of (Coded coded.Radical) = line (codes "radical") Formulas
line_of (Coded coded.Accent) = line (codes "mathaccent") Formulas
line_of Accent = line (codes "accent") InHorizontal
line_of MathGlue = line (codes "mskip") Formulas
line_of (Sized MathKern) = line (codes "mkern") Formulas
line_of Nonscript = line (codes "nonscript") Formulas
line_of (Text text.Patterns) = line (codes "patterns") All
line_of (Text text.Hyphenation) = line (codes "hyphenation") All
line_of (BoxFrom source.Split) = line (codes "vsplit") All
line_of Insert = line (codes "insert") All
line_of (Text text.Mark) = line (codes "mark") All
line_of DeadCycles = line (codes "deadcycles") All
line_of (Page page.Goal) = line (codes "pagegoal") All
line_of (Page page.Total) = line (codes "pagetotal") All
line_of (Page page.Stretch) = line (codes "pagestretch") All
line_of (Page page.FilStretch) = line (codes "pagefilstretch") All
line_of (Page page.FillStretch) = line (codes "pagefillstretch") All
line_of (Page page.FilllStretch) = line (codes "pagefilllstretch") All
line_of (Page page.Shrink) = line (codes "pageshrink") All
line_of (Page page.Depth) = line (codes "pagedepth") All
line_of (Page page.InsertPenalties) = line (codes "insertpenalties") All
line_of Align = line (codes "halign") InVertical
line_of (AlignWord align.Cr) = line (codes "cr") All
line_of (AlignWord align.CrCr) = line (codes "crcr") All
line_of (AlignWord align.Span) = line (codes "span") All
line_of (AlignWord align.Omit) = line (codes "omit") All
line_of (AlignWord align.NoAlign) = line (codes "noalign") All
line_of (EquationNumber number_side.Right) = line (codes "eqno") Formulas
line_of (EquationNumber number_side.Left) = line (codes "leqno") Formulas
line_of (Integer parameter) = line (integer_name parameter) All
line_of (Dimension parameter) = line (dimension_name parameter) All
line_of (Tokens parameter) = line (token_name parameter) All
line_of (Glue parameter) = line (glue_name parameter) All

-- what a primitive is called
abbrev pub name_of : Primitive → List ℕ
name_of primitive = (line_of primitive).name

-- where it may stand
abbrev pub modes_of : Primitive → Modes
modes_of primitive = (line_of primitive).modes

-- all primitives
unfoldable pub all : List Primitive
all = Relax ∷ EndCsName ∷ BeginGroup ∷ EndGroup ∷ Prefix Global ∷ Let ∷ Arithmetic Advance ∷ Arithmetic Multiply ∷ Arithmetic Divide ∷ Numbered Count ∷ Numbered Dimen ∷ Numbered Toks ∷ Shorthand CountRegister ∷ Shorthand DimenRegister ∷ Shorthand ToksRegister ∷ Shorthand Character ∷ Shorthand MathCharacter ∷ Numbered Category ∷ Numbered (Code LowerCase) ∷ Numbered (Code UpperCase) ∷ Numbered (Code SpaceFactor) ∷ Numbered (Code Math) ∷ Numbered (Code Delimiter) ∷ Box box.Horizontal ∷ Shipout ∷ Sized Kern ∷ Par ∷ End ∷ Rule rule.Vertical ∷ Prefix Long ∷ Prefix Outer ∷ IgnoreSpaces ∷ Interaction Batch ∷ Interaction Nonstop ∷ Interaction Scroll ∷ Interaction Errorstop ∷ Definition definition.Plain ∷ Definition definition.Expanded ∷ Definition definition.Global ∷ Definition definition.GlobalExpanded ∷ Text text.Message ∷ Text text.ErrorMessage ∷ Text text.UpperCase ∷ Text text.LowerCase ∷ After after.Group ∷ After after.Assignment ∷ FutureLet ∷ Box box.Vertical ∷ Box box.Top ∷ BoxFrom source.Register ∷ BoxFrom source.Copy ∷ BoxFrom source.Last ∷ SetBox ∷ Numbered (Size side.Width) ∷ Numbered (Size side.Height) ∷ Numbered (Size side.Depth) ∷ Shift shift.Raise ∷ Shift shift.Lower ∷ Shift shift.Left ∷ Shift shift.Right ∷ Rule rule.Horizontal ∷ Unbox unbox.Horizontal ∷ Unbox unbox.HorizontalCopy ∷ Unbox unbox.Vertical ∷ Unbox unbox.VerticalCopy ∷ HorizontalGlue glue.Skip ∷ HorizontalGlue glue.Fil ∷ HorizontalGlue glue.Fill ∷ HorizontalGlue glue.Both ∷ HorizontalGlue glue.Negative ∷ VerticalGlue glue.Skip ∷ VerticalGlue glue.Fil ∷ VerticalGlue glue.Fill ∷ VerticalGlue glue.Both ∷ VerticalGlue glue.Negative ∷ Penalty ∷ Remove item.Penalty ∷ Remove item.Kern ∷ Remove item.Skip ∷ Last item.Penalty ∷ Last item.Kern ∷ Last item.Skip ∷ Badness ∷ PrevDepth ∷ Text text.Special ∷ Leaders leaders.Aligned ∷ Leaders leaders.Centered ∷ Leaders leaders.Expanded ∷ Numbered Skip ∷ Numbered Muskip ∷ Shorthand SkipRegister ∷ Shorthand MuskipRegister ∷ NullFont ∷ LoadFont ∷ FontDimen ∷ FontInteger font.Hyphen ∷ FontInteger font.Skew ∷ FamilyFont family.Text ∷ FamilyFont family.Script ∷ FamilyFont family.ScriptScript ∷ Char ∷ Factor ∷ ItalicCorrection ∷ ControlSpace ∷ Indent Indented ∷ Indent Flush ∷ DiscretionaryHyphen ∷ PrevGraf ∷ ParShape ∷ Adjust ∷ Discretionary ∷ MathChar ∷ Atom atom.Ord ∷ Atom atom.Op ∷ Atom atom.Bin ∷ Atom atom.Rel ∷ Atom atom.Open ∷ Atom atom.Close ∷ Atom atom.Punct ∷ Atom atom.Inner ∷ Atom atom.Under ∷ Atom atom.Over ∷ Center ∷ Limits limits.Always ∷ Limits limits.Never ∷ Limits limits.Displayed ∷ Style style.Display ∷ Style style.Text ∷ Style style.Script ∷ Style style.ScriptScript ∷ Choice ∷ Fraction fraction.Over ∷ Fraction fraction.Atop ∷ Sized Above ∷ Delimited delimited.Left ∷ Delimited delimited.Right ∷ Delimited (delimited.Fraction between.Over) ∷ Delimited (delimited.Fraction between.Atop) ∷ Delimited (delimited.Fraction between.Above) ∷ Coded coded.Delimiter ∷ Coded coded.Radical ∷ Coded coded.Accent ∷ Accent ∷ MathGlue ∷ Sized MathKern ∷ Nonscript ∷ Text text.Patterns ∷ Text text.Hyphenation ∷ BoxFrom source.Split ∷ Insert ∷ Text text.Mark ∷ DeadCycles ∷ Page page.Goal ∷ Page page.Total ∷ Page page.Stretch ∷ Page page.FilStretch ∷ Page page.FillStretch ∷ Page page.FilllStretch ∷ Page page.Shrink ∷ Page page.Depth ∷ Page page.InsertPenalties ∷ Align ∷ AlignWord align.Cr ∷ AlignWord align.CrCr ∷ AlignWord align.Span ∷ AlignWord align.Omit ∷ AlignWord align.NoAlign ∷ EquationNumber number_side.Right ∷ EquationNumber number_side.Left ∷ Integer Pretolerance ∷ Integer Tolerance ∷ Integer Hbadness ∷ Integer Vbadness ∷ Integer Linepenalty ∷ Integer Hyphenpenalty ∷ Integer Exhyphenpenalty ∷ Integer Binoppenalty ∷ Integer Relpenalty ∷ Integer Clubpenalty ∷ Integer Widowpenalty ∷ Integer Displaywidowpenalty ∷ Integer Brokenpenalty ∷ Integer Predisplaypenalty ∷ Integer Postdisplaypenalty ∷ Integer Interlinepenalty ∷ Integer Floatingpenalty ∷ Integer Outputpenalty ∷ Integer Doublehyphendemerits ∷ Integer Finalhyphendemerits ∷ Integer Adjdemerits ∷ Integer Looseness ∷ Integer Pausing ∷ Integer Holdinginserts ∷ Integer Tracingonline ∷ Integer Tracingmacros ∷ Integer Tracingstats ∷ Integer Tracingparagraphs ∷ Integer Tracingpages ∷ Integer Tracingoutput ∷ Integer Tracinglostchars ∷ Integer Tracingcommands ∷ Integer Tracingrestores ∷ Integer Language ∷ Integer Uchyph ∷ Integer Lefthyphenmin ∷ Integer Righthyphenmin ∷ Integer Globaldefs ∷ Integer Defaulthyphenchar ∷ Integer Defaultskewchar ∷ Integer Escapechar ∷ Integer Endlinechar ∷ Integer Newlinechar ∷ Integer Maxdeadcycles ∷ Integer Hangafter ∷ Integer Fam ∷ Integer Mag ∷ Integer Delimiterfactor ∷ Integer Time ∷ Integer Day ∷ Integer Month ∷ Integer Year ∷ Integer Showboxbreadth ∷ Integer Showboxdepth ∷ Integer Errorcontextlines ∷ Dimension Hfuzz ∷ Dimension Vfuzz ∷ Dimension Overfullrule ∷ Dimension Emergencystretch ∷ Dimension Hsize ∷ Dimension Vsize ∷ Dimension Maxdepth ∷ Dimension Splitmaxdepth ∷ Dimension Boxmaxdepth ∷ Dimension Lineskiplimit ∷ Dimension Delimitershortfall ∷ Dimension Nulldelimiterspace ∷ Dimension Scriptspace ∷ Dimension Mathsurround ∷ Dimension Predisplaysize ∷ Dimension Displaywidth ∷ Dimension Displayindent ∷ Dimension Parindent ∷ Dimension Hangindent ∷ Dimension Hoffset ∷ Dimension Voffset ∷ Tokens Output ∷ Tokens Everypar ∷ Tokens Everymath ∷ Tokens Everydisplay ∷ Tokens Everyhbox ∷ Tokens Everyvbox ∷ Tokens Everyjob ∷ Tokens Everycr ∷ Tokens Errhelp ∷ Glue Baselineskip ∷ Glue Lineskip ∷ Glue Parskip ∷ Glue Abovedisplayskip ∷ Glue Abovedisplayshortskip ∷ Glue Belowdisplayskip ∷ Glue Belowdisplayshortskip ∷ Glue Leftskip ∷ Glue Rightskip ∷ Glue Topskip ∷ Glue Splittopskip ∷ Glue Tabskip ∷ Glue Spaceskip ∷ Glue Xspaceskip ∷ Glue Parfillskip ∷ Glue Thinmuskip ∷ Glue Medmuskip ∷ Glue Thickmuskip ∷ []

-- the first primitive of a list that has a name
abbrev pub named : List Primitive → List ℕ → Option Primitive
named [] name = None
named (primitive ∷ primitives) name = cond (bytes_eq (name_of primitive) name) (Some primitive) (named primitives name)
