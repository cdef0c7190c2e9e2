-- Pages by all that was contributed to them, and which of the breaks that were legal is the best.
use Rattle.std.specs.Prelude.{◌≡◌, ℕ, Bool, false, ℤ, ◌≤ℤ◌, ◌<ℤ◌, List, [], ◌∷◌, ◌++◌, fold, length, Option, Some, None, Result, Ok, Err, if◌then◌else◌}
use Rattle.tx_num.specs.Glue.{GlueSpec}
use Rattle.tx_node.specs.Items.{Item}
use Rattle.tx_insert.specs.declared.error.SplitError.{SplitError}
use Rattle.tx_insert.specs.declared.kind.Kind.{Kind}
use Rattle.tx_insert.specs.declared.kind.Kind.TheVariants.{Solid, Skip, Kern as KernKind, Penalty, Still}
use Rattle.tx_insert.specs.declared.trial.Break.{Break}
use Rattle.tx_insert.specs.Kinds.{kind_of, is_glue, penalty_at}
use Rattle.tx_insert.specs.Splits.{glue_above}
use Rattle.tx_pagebuilder.specs.declared.error.PageError.{PageError}
use Rattle.tx_pagebuilder.specs.declared.kern.Kern.{Kern}
use Rattle.tx_pagebuilder.specs.declared.measures.Built.{Built}
use Rattle.tx_pagebuilder.specs.declared.measures.Built.TheVariants.{Went, Fires}
use Rattle.tx_pagebuilder.specs.declared.measures.Measures.{Measures}
use Rattle.tx_pagebuilder.specs.declared.params.PageParams.{PageParams}
use Rattle.tx_pagebuilder.specs.Contributed.{contributed, settled, solid_measures}
use Rattle.tx_pagebuilder.specs.Pages.{Page, Grown, grown, has_solid}
use Rattle.tx_pagebuilder.specs.Placing.{best_with, break_at}

-- a contribution: an item, and the parameters as they stand at its call
pub record Contribution : Type 0 where
  pub item : Item
  pub params : PageParams

-- a page behind contributions in their order, up to the one at which it fires
abbrev pub unless_fired : Page → Result Grown PageError → Built → Result Grown PageError
unless_fired page more Went = more
unless_fired page more Fires = Ok (grown page Fires)

abbrev pub and_more : (Page → Result Grown PageError) → Result Grown PageError → Result Grown PageError
and_more more (Err e) = Err e
and_more more (Ok g) = unless_fired g.page (more g.page) g.built

abbrev pub history : Page → List Contribution → Result Grown PageError
history page [] = Ok (grown page Went)
history page (c ∷ rest) = and_more (λ p. history p rest) (contributed page c.item c.params)

-- the break that a node of this kind tries, if one is legal
abbrev pub break_if : Measures → ℕ → Option ℤ → List Break
break_if m place None = []
break_if m place (Some penalty) = (break_at m place penalty).made ∷ []

abbrev pub tried : Measures → ℕ → Bool → Kind → List Break
tried m place before_glue kind = break_if m place (penalty_at m.after_solid kind before_glue)

-- the best break behind more of them
abbrev pub best_over : Option Break → List Break → Option Break
best_over best breaks = fold (λ b made. Some (best_with b made)) best breaks

-- the breaks that a contribution tries: that of a kern that waited, and unless the page fires there, that of \topskip, glue or a penalty
abbrev pub waiting_breaks : Page → Bool → Option Kern → List Break
waiting_breaks page before_glue None = []
waiting_breaks page before_glue (Some kern) = tried page.measures (length page.nodes) before_glue (KernKind kern.size)

abbrev pub discardable_breaks : Page → Kind → List Break
discardable_breaks page kind = if has_solid page.measures.contents then tried page.measures (length page.nodes) false kind else []

abbrev pub top_breaks : Measures → ℕ → Result GlueSpec SplitError → List Break
top_breaks m place (Err e) = []
top_breaks m place (Ok glue) = tried m place false (Skip glue)

abbrev pub solid_breaks : Page → ℤ → PageParams → List Break
solid_breaks page height params =
    if has_solid page.measures.contents then []
    else top_breaks (solid_measures params page.measures) (length page.nodes) (glue_above params.top_skip height)

abbrev pub own_breaks : Page → PageParams → Kind → List Break
own_breaks page params (Solid height depth) = solid_breaks page height params
own_breaks page params (Skip g) = discardable_breaks page (Skip g)
own_breaks page params (KernKind size) = []
own_breaks page params (Penalty n) = discardable_breaks page (Penalty n)
own_breaks page params Still = []

abbrev pub breaks_by : PageParams → Kind → Page → Built → List Break
breaks_by params kind page Went = own_breaks page params kind
breaks_by params kind page Fires = []

abbrev pub later_breaks : PageParams → Kind → Result Grown PageError → List Break
later_breaks params kind (Err e) = []
later_breaks params kind (Ok g) = breaks_by params kind g.page g.built

abbrev pub breaks_in : Page → Contribution → List Break
breaks_in page c =
    waiting_breaks page (is_glue (kind_of c.item)) page.waiting
    ++ later_breaks c.params (kind_of c.item) (settled page (is_glue (kind_of c.item)))

-- and those of contributions in their order, up to the one at which the page fires
abbrev pub more_breaks : (Page → List Break) → Page → Built → List Break
more_breaks breaks page Went = breaks page
more_breaks breaks page Fires = []

abbrev pub breaks_behind : (Page → List Break) → Result Grown PageError → List Break
breaks_behind breaks (Err e) = []
breaks_behind breaks (Ok g) = more_breaks breaks g.page g.built

abbrev pub legal_breaks : Page → List Contribution → List Break
legal_breaks page [] = []
legal_breaks page (c ∷ rest) = breaks_in page c ++ breaks_behind (λ p. legal_breaks p rest) (contributed page c.item c.params)

-- breaks that cost at least so much, and that cost more
abbrev pub NoneCheaper : ℤ → List Break → Type 0
NoneCheaper cost [] = Unit {0}
NoneCheaper cost (made ∷ breaks) = (cost ≤ℤ made.cost) × NoneCheaper cost breaks

abbrev pub AllDearer : ℤ → List Break → Type 0
AllDearer cost [] = Unit {0}
AllDearer cost (made ∷ breaks) = (cost <ℤ made.cost) × AllDearer cost breaks

-- a break is the last one of least cost among breaks: none before it is cheaper, and all behind it are dearer
pub record IsLastLeast (made : Break) (breaks : List Break) : Type 0 where
  pub before : List Break
  pub behind : List Break
  pub among : breaks ≡ before ++ made ∷ behind
  pub none_cheaper : NoneCheaper made.cost before
  pub all_dearer : AllDearer made.cost behind

-- the best of breaks is the last one of least cost among them, and None where there is none
abbrev pub IsBest : Option Break → List Break → Type 0
IsBest None breaks = breaks ≡ []
IsBest (Some made) breaks = IsLastLeast made breaks

-- the best break that a page had, if any
abbrev pub had : Option Break → List Break
had None = []
had (Some made) = made ∷ []

-- the best break of a page, whatever was contributed to it: it is the best of the one that the page had before and of all that were legal
-- since, and so of all legal ones where the page had none
abbrev pub IsBestOf : Option Break → Page → Type 0
IsBestOf best page =
    (begun : Page) (contributions : List Contribution) (built : Built) → history begun contributions ≡ Ok (grown page built)
    → IsBest best (had begun.measures.best ++ legal_breaks begun contributions)
