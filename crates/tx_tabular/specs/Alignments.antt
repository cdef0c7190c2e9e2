-- What is known of an alignment while it is read (TeX: The Program, sections 770 to 772).
use Rattle.std.specs.Prelude.{◌≡◌, ℤ, false, [], None, Result}
use Rattle.tx_align.specs.declared.error.AlignError.{AlignError}
use Rattle.tx_align.specs.Preambles.{nothing_read as no_preamble}
use Rattle.tx_box.specs.declared.parts.Lists.{Lists}
use Rattle.tx_num.specs.Glue.{GlueSpec}
use Rattle.tx_shape.specs.declared.types.BoxGoal.{BoxGoal}
use Rattle.tx_tabular.specs.declared.alignment.Alignment.{Alignment}

-- nothing of it is read (section 774)
abbrev pub nothing_read : BoxGoal → GlueSpec → ℤ → Alignment
nothing_read goal tabskip outer = record {
  preamble = no_preamble tabskip;
  rows = [];
  goal = goal;
  column = 0;
  span = 1;
  ending = None;
  omitted = false;
  behind_row = false;
  cells = [];
  leaving = [];
  outer = outer;
}

-- the lists that are being built, and the alignment in them
pub record Laid : Type 0 where
  pub lists : Lists
  pub alignment : Alignment

abbrev pub Laying : Type 0
Laying = Result Laid AlignError

-- the entries stand in the same place, and end alike
abbrev pub IsSamePlace : Alignment → Alignment → Type 0
IsSamePlace one other =
    (one.goal ≡ other.goal) × ((one.column ≡ other.column) × ((one.span ≡ other.span) × ((one.ending ≡ other.ending) × ((one.omitted ≡ other.omitted) × ((one.behind_row ≡ other.behind_row) × (one.outer ≡ other.outer))))))

-- the same is read of both
abbrev pub AreSameParts : Alignment → Alignment → Type 0
AreSameParts one other =
    (one.preamble ≡ other.preamble) × ((one.rows ≡ other.rows) × ((one.cells ≡ other.cells) × (one.leaving ≡ other.leaving)))
