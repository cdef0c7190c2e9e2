-- Left sides of assignments (The TeXbook, chapter 24; TeX: The Program, sections 1208 to 1211 and 1237).
use Rattle.std.specs.Prelude.{Bool, true, false, not, Option, Some, None}
use Rattle.tx_prim.specs.declared.primitive.Primitive.{Primitive}
use Rattle.tx_prim.specs.declared.primitive.Primitive.TheVariants as primitive
use Rattle.tx_prim.specs.declared.family.Numbered.TheVariants as number
use Rattle.tx_seen.specs.declared.place.Place.TheVariants as place
use Rattle.tx_seen.specs.declared.meaning.Meaning.{Meaning}
use Rattle.tx_seen.specs.declared.meaning.Meaning.TheVariants.{Undefined, Command, Character, CharacterNumber, MathNumber, CountRegister, DimenRegister, SkipRegister, MuskipRegister, ToksRegister, Expandable, Macro, Held, Font}
use Rattle.tx_seen.specs.Places.{is_list}
use Rattle.tx_assign.specs.declared.types.Variable.{Variable}
use Rattle.tx_assign.specs.declared.types.Variable.TheVariants.{Numbered, Standing}

-- a register or a code, of which a number tells which, and a parameter
abbrev pub primitive_variable : Primitive → Option Variable
primitive_variable (primitive.Numbered kind) = Some (Numbered kind)
primitive_variable (primitive.Integer parameter) = Some (Standing (place.Integer parameter))
primitive_variable (primitive.Dimension parameter) = Some (Standing (place.Dimension parameter))
primitive_variable (primitive.Glue parameter) = Some (Standing (place.Glue parameter))
primitive_variable (primitive.Tokens parameter) = Some (Standing (place.Tokens parameter))
primitive_variable primitive.Relax = None
primitive_variable primitive.EndCsName = None
primitive_variable primitive.Par = None
primitive_variable primitive.IgnoreSpaces = None
primitive_variable (primitive.Interaction kind) = None
primitive_variable (primitive.Definition kind) = None
primitive_variable (primitive.Text purpose) = None
primitive_variable (primitive.After kind) = None
primitive_variable primitive.FutureLet = None
primitive_variable primitive.End = None
primitive_variable primitive.BeginGroup = None
primitive_variable primitive.EndGroup = None
primitive_variable (primitive.Prefix prefix) = None
primitive_variable primitive.Let = None
primitive_variable (primitive.Shorthand kind) = None
primitive_variable (primitive.Arithmetic operation) = None
primitive_variable (primitive.Sized kind) = None
primitive_variable (primitive.Rule kind) = None
primitive_variable (primitive.Box kind) = None
primitive_variable primitive.Shipout = None
primitive_variable (primitive.BoxFrom source) = None
primitive_variable primitive.SetBox = None
primitive_variable (primitive.Shift kind) = None
primitive_variable (primitive.Unbox kind) = None
primitive_variable (primitive.HorizontalGlue form) = None
primitive_variable (primitive.VerticalGlue form) = None
primitive_variable primitive.Penalty = None
primitive_variable (primitive.Remove kind) = None
primitive_variable (primitive.Last kind) = None
primitive_variable primitive.Badness = None
primitive_variable primitive.PrevDepth = None
primitive_variable (primitive.Leaders kind) = None
primitive_variable primitive.NullFont = None
primitive_variable primitive.LoadFont = None
primitive_variable primitive.FontDimen = None
primitive_variable (primitive.FontInteger kind) = None
primitive_variable primitive.Char = None
primitive_variable primitive.SpaceFactor = None
primitive_variable primitive.PrevGraf = None
primitive_variable primitive.ParShape = None
primitive_variable primitive.ItalicCorrection = None
primitive_variable primitive.ControlSpace = None
primitive_variable (primitive.Indent how) = None
primitive_variable primitive.DiscretionaryHyphen = None
primitive_variable primitive.Adjust = None
primitive_variable primitive.Discretionary = None
primitive_variable (primitive.FamilyFont size) = None
primitive_variable primitive.MathChar = None
primitive_variable (primitive.Atom class) = None
primitive_variable primitive.Center = None
primitive_variable (primitive.Limits kind) = None
primitive_variable (primitive.Style style) = None
primitive_variable primitive.Choice = None
primitive_variable (primitive.Fraction kind) = None
primitive_variable (primitive.Delimited what) = None
primitive_variable (primitive.Coded kind) = None
primitive_variable primitive.Accent = None
primitive_variable primitive.MathGlue = None
primitive_variable primitive.Nonscript = None
primitive_variable primitive.Insert = None
primitive_variable primitive.DeadCycles = None
primitive_variable primitive.Align = None
primitive_variable (primitive.AlignWord word) = None
primitive_variable (primitive.EquationNumber side) = None
primitive_variable (primitive.Page quantity) = None

-- a register's name of its own is a left side too
abbrev pub variable_of : Meaning → Option Variable
variable_of (Command primitive) = primitive_variable primitive
variable_of (CountRegister number) = Some (Standing (place.Count number))
variable_of (DimenRegister number) = Some (Standing (place.Dimen number))
variable_of (SkipRegister number) = Some (Standing (place.Skip number))
variable_of (MuskipRegister number) = Some (Standing (place.Muskip number))
variable_of (ToksRegister number) = Some (Standing (place.Toks number))
variable_of Undefined = None
variable_of (Character code category) = None
variable_of (CharacterNumber number) = None
variable_of (MathNumber number) = None
variable_of (Font number) = None
variable_of (Expandable e) = None
variable_of (Macro m) = None
variable_of Held = None

-- \advance and its kin change registers and parameters, but no codes and no lists of tokens
abbrev pub is_changeable : Variable → Bool
is_changeable (Standing place) = not (is_list place)
is_changeable (Numbered number.Count) = true
is_changeable (Numbered number.Dimen) = true
is_changeable (Numbered number.Skip) = true
is_changeable (Numbered number.Muskip) = true
is_changeable (Numbered number.Toks) = false
is_changeable (Numbered number.Category) = false
is_changeable (Numbered (number.Code code)) = false
is_changeable (Numbered (number.Size side)) = false
