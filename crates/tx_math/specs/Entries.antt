-- The items of a list, each with the style in which it is set (TeX: The Program, sections 728 to 732): a choice gives way to the list
-- that the style takes, and glue or a kern behind \nonscript to nothing in small styles.
use Rattle.std.specs.Prelude.{ℕ, ◌/◌, ◌==◌, Bool, true, false, ◌&&◌, ◌||◌, is_some, nat_le, List, [], ◌∷◌, ◌++◌, if◌then◌else◌}
use Rattle.tx_node.specs.Items.{Item}
use Rattle.tx_node.specs.Sizes.{glue_of_item}
use Rattle.tx_mlist.specs.declared.kinds.AtomKind.{AtomKind}
use Rattle.tx_mlist.specs.declared.kinds.AtomKind.TheVariants.{Ord, Open, Close}
use Rattle.tx_mlist.specs.declared.plain.PlainNoad.{PlainNoad}
use Rattle.tx_mlist.specs.declared.plain.PlainNoad.TheVariants.{Style, Nonscript, Glue, Kern, Left, Right}
use Rattle.tx_math.specs.Boxes.{is_plain, plain_is_kern}
use Rattle.tx_mlist.specs.Items.{MathItem, MathItems, atom, fraction, choice, small, material, nothing, followed}

-- an item, and the style in which it is set. Of an atom also: its kind, since a Bin may have become an Ord; and whether a character
-- of its family was composed with it and stands behind it
pub record Entry : Type 0 where
  pub style : ℕ
  pub kind : AtomKind
  pub joined : Bool
  pub item : MathItem

-- the kind of an item where a list is begun with; a fraction is an Ord (section 761), \left an Open and \right a Close, and what is
-- no noad has none that counts
abbrev pub kind_of_small : PlainNoad → AtomKind
kind_of_small (Style style) = Ord
kind_of_small Nonscript = Ord
kind_of_small (Glue g) = Ord
kind_of_small (Kern size) = Ord
kind_of_small (Left d) = Open
kind_of_small (Right d) = Close

abbrev pub kind_of_item : MathItem → AtomKind
kind_of_item (atom kind nucleus superscript subscript) = kind
kind_of_item (fraction head above below) = Ord
kind_of_item (choice display text script script_script) = Ord
kind_of_item (small s) = kind_of_small s
kind_of_item (material i) = Ord

abbrev pub entry_in : ℕ → MathItem → Entry
entry_in style item = record { style = style; kind = kind_of_item item; joined = false; item = item }

-- whether it is an atom, a fraction, \left or \right
abbrev pub small_is_noad : PlainNoad → Bool
small_is_noad (Style style) = false
small_is_noad Nonscript = false
small_is_noad (Glue g) = false
small_is_noad (Kern size) = false
small_is_noad (Left d) = true
small_is_noad (Right d) = true

abbrev pub is_noad : MathItem → Bool
is_noad (atom kind nucleus superscript subscript) = true
is_noad (fraction head above below) = true
is_noad (choice display text script script_script) = false
is_noad (small s) = small_is_noad s
is_noad (material i) = false

-- the style behind a small item
abbrev pub style_behind : ℕ → PlainNoad → ℕ
style_behind style (Style changed) = changed
style_behind style Nonscript = style
style_behind style (Glue g) = style
style_behind style (Kern size) = style
style_behind style (Left d) = style
style_behind style (Right d) = style

-- the entries of a list, and the style behind them
abbrev pub Laid : Type 0
Laid = List Entry × ℕ

abbrev pub laid_behind : List Entry → Laid → Laid
laid_behind entries more = (entries ++ more.0, more.1)

-- the list that \mathchoice takes in a style
abbrev pub chosen : {A : Type 0} → ℕ → A → A → A → A → A
chosen style display text script script_script =
    if style / 2 == 0 then display
    else if style / 2 == 1 then text
    else if style / 2 == 2 then script
    else script_script

-- a choice becomes its style and the list that this takes; a style that is changed in that goes on behind it (section 731)
abbrev mutual
  pub laid : ℕ → MathItems → Laid
  laid style nothing = ([], style)
  laid style (followed item rest) = laid_behind (laid_item style item).0 (laid (laid_item style item).1 rest)

  pub laid_item : ℕ → MathItem → Laid
  laid_item style (atom kind nucleus superscript subscript) = (entry_in style (atom kind nucleus superscript subscript) ∷ [], style)
  laid_item style (fraction head above below) = (entry_in style (fraction head above below) ∷ [], style)
  laid_item style (choice display text script script_script) =
      laid_behind (entry_in style (small (Style style)) ∷ []) (chosen style (laid style display) (laid style text) (laid style script) (laid style script_script))
  laid_item style (small s) = (entry_in style (small s) ∷ [], style_behind style s)
  laid_item style (material i) = (entry_in style (material i) ∷ [], style)

-- glue and kerns, which \nonscript hides: \nonscript is glue itself (section 1171)
abbrev pub item_is_space : Item → Bool
item_is_space i = is_some (glue_of_item i) || is_plain plain_is_kern i

abbrev pub small_is_space : PlainNoad → Bool
small_is_space (Style style) = false
small_is_space Nonscript = true
small_is_space (Glue g) = true
small_is_space (Kern size) = true
small_is_space (Left d) = false
small_is_space (Right d) = false

abbrev pub is_space : MathItem → Bool
is_space (atom kind nucleus superscript subscript) = false
is_space (fraction head above below) = false
is_space (choice display text script script_script) = false
is_space (small s) = small_is_space s
is_space (material i) = item_is_space i

abbrev pub small_is_nonscript : PlainNoad → Bool
small_is_nonscript (Style style) = false
small_is_nonscript Nonscript = true
small_is_nonscript (Glue g) = false
small_is_nonscript (Kern size) = false
small_is_nonscript (Left d) = false
small_is_nonscript (Right d) = false

abbrev pub is_nonscript : MathItem → Bool
is_nonscript (atom kind nucleus superscript subscript) = false
is_nonscript (fraction head above below) = false
is_nonscript (choice display text script script_script) = false
is_nonscript (small s) = small_is_nonscript s
is_nonscript (material i) = false

-- whether what stands right behind it vanishes, if it is a space (section 732)
abbrev pub hides : Entry → Bool
hides e = is_nonscript e.item && nat_le 4 e.style

-- the entries that are left, where what stands before them hides a space or doesn't
abbrev pub left_behind : Bool → List Entry → List Entry
left_behind hidden [] = []
left_behind hidden (e ∷ rest) = if hidden && is_space e.item then left_behind false rest else e ∷ left_behind (hides e) rest

-- the entries of a list that begins in a style
unfoldable pub entries_of : ℕ → MathItems → List Entry
entries_of style items = left_behind false (laid style items).0
