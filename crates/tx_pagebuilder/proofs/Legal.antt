-- What contributions make of the best break: it is the best of those that were legal.
use Rattle.std.proofs.Common.{◌≡◌, ℕ, ℤ, Bool, true, false, cond, List, [], ◌∷◌, ◌++◌, length, Option, Some, None, Result, Ok, Err, refl, sym, ap, subst, ◌∙◌}
use Rattle.std.specs.Prelude.{nat_le, unwrap_or}
use Rattle.tx_num.specs.Glue.{GlueSpec}
use Rattle.tx_node.specs.declared.head.InsertHead.{InsertHead}
use Rattle.tx_node.specs.Items.{Item, plain, shared, boxed, discretionary, adjustment, insertion, box_leaders}
use Rattle.tx_insert.specs.declared.error.SplitError.{SplitError}
use Rattle.tx_insert.specs.declared.kind.Kind.{Kind}
use Rattle.tx_insert.specs.declared.kind.Kind.TheVariants.{Solid, Skip, Kern as KernKind, Penalty, Still}
use Rattle.tx_insert.specs.declared.sums.Sums.{Sums}
use Rattle.tx_insert.specs.declared.trial.Break.{Break}
use Rattle.tx_insert.specs.declared.trial.Trial.{Trial}
use Rattle.tx_insert.specs.Kinds.{kind_of, is_glue, penalty_at, shrinks_endlessly}
use Rattle.tx_insert.specs.Splits.{glue_above, glue_item}
use Rattle.tx_insert.specs.Sums.{with_item}
use Rattle.tx_pagebuilder.specs.declared.error.PageError.{PageError}
use Rattle.tx_pagebuilder.specs.declared.error.PageError.TheVariants.{EndlessShrink, ClassOutOfRange}
use Rattle.tx_pagebuilder.specs.declared.inserted.Inserted.{Inserted}
use Rattle.tx_pagebuilder.specs.declared.kern.Kern.{Kern}
use Rattle.tx_pagebuilder.specs.declared.measures.Contents.TheVariants as having
use Rattle.tx_pagebuilder.specs.declared.measures.Measures.{Measures}
use Rattle.tx_pagebuilder.specs.declared.measures.Placed.{Placed}
use Rattle.tx_pagebuilder.specs.declared.measures.Built.{Built}
use Rattle.tx_pagebuilder.specs.declared.measures.Built.TheVariants.{Went, Fires}
use Rattle.tx_pagebuilder.specs.declared.params.PageParams.{PageParams}
use Rattle.tx_pagebuilder.specs.Contributed.{list_from, settled_by, settled, solid_measures, insert_measures, topped_by, topped, with_solid, void_class, inserted_by, prepared, still_by, taken, contributed}
use Rattle.tx_pagebuilder.specs.Histories.{Contribution, unless_fired, and_more, history, break_if, tried, best_over, waiting_breaks, top_breaks, solid_breaks, own_breaks, breaks_by, later_breaks, breaks_in, more_breaks, breaks_behind, legal_breaks, IsBest, had, IsBestOf}
use Rattle.tx_pagebuilder.specs.Inserts.{taken_in}
use Rattle.tx_pagebuilder.specs.Kerns.{kern_of, kern_item}
use Rattle.tx_pagebuilder.specs.Pages.{Page, Grown, grown, grown_by, put, unless_fires, and_then, has_solid, is_frozen, frozen}
use Rattle.tx_pagebuilder.proofs.Counted.{best_in, inserted_best, taken-leaves}
use Rattle.tx_pagebuilder.specs.Placing.{with_sums, added, going, placed_by, placed, with_break, best_with, break_at}
use Rattle.tx_pagebuilder.proofs.Bests.{is-best, over-had}

abbrev placed_best : Option Break → Result Placed PageError → Option Break
placed_best best (Err e) = best
placed_best best (Ok p) = p.measures.best

-- a node that counts leaves the best break
sums-best : (m : Measures) (kind : Kind) (r : Result Sums SplitError) → best_in m.best (with_sums m kind r) ≡ m.best
sums-best m kind (Err e) = refl
sums-best m kind (Ok s) = refl

added-by : (m : Measures) (kind : Kind) (b : Bool) → best_in m.best (cond b (Err EndlessShrink) (with_sums m kind (with_item m.most m.sums kind))) ≡ m.best
added-by m kind true = refl
added-by m kind false = sums-best m kind (with_item m.most m.sums kind)

added-best : (m : Measures) (kind : Kind) → best_in m.best (added m kind) ≡ m.best
added-best m kind = added-by m kind (shrinks_endlessly kind)

going-best : (best : Option Break) (r : Result Measures PageError) → placed_best best (going r) ≡ best_in best r
going-best best (Err e) = refl
going-best best (Ok m) = refl

going-leaves : (m : Measures) (kind : Kind) → placed_best m.best (going (added m kind)) ≡ m.best
going-leaves m kind = going-best m.best (added m kind) ∙ added-best m kind

-- a break is the best one, or leaves that
at-by : (m : Measures) (kind : Kind) (trial : Trial) (b : Bool)
    → placed_best (with_break m trial.made).best (cond b (Ok (record { measures = with_break m trial.made; built = Fires })) (going (added (with_break m trial.made) kind))) ≡ (with_break m trial.made).best
at-by m kind trial true = refl
at-by m kind trial false = going-leaves (with_break m trial.made) kind

by-penalty : (m : Measures) (place : ℕ) (kind : Kind) (penalty : Option ℤ)
    → placed_best (best_over m.best (break_if m place penalty)) (placed_by m place kind penalty) ≡ best_over m.best (break_if m place penalty)
by-penalty m place kind None = going-leaves m kind
by-penalty m place kind (Some penalty) = at-by m kind (break_at m place penalty) (break_at m place penalty).stops

pub placed-best : (m : Measures) (place : ℕ) (before_glue : Bool) (kind : Kind)
    → placed_best (best_over m.best (tried m place before_glue kind)) (placed m place before_glue kind) ≡ best_over m.best (tried m place before_glue kind)
unfolding placed
placed-best m place before_glue kind = by-penalty m place kind (penalty_at m.after_solid kind before_glue)

-- a page with an answer's best break
abbrev grown_best : Option Break → Result Grown PageError → Option Break
grown_best best (Err e) = best
grown_best best (Ok g) = g.page.measures.best

abbrev page_best : Option Break → Result Page PageError → Option Break
page_best best (Err e) = best
page_best best (Ok page) = page.measures.best

grown-is : (best : Option Break) (page : Page) (item : Item) (r : Result Placed PageError) → grown_best best (grown_by page item r) ≡ placed_best best r
grown-is best page item (Err e) = refl
grown-is best page item (Ok p) = refl

put-best : (page : Page) (before_glue : Bool) (kind : Kind) (item : Item)
    → grown_best (best_over page.measures.best (tried page.measures (length page.nodes) before_glue kind)) (put page before_glue kind item)
    ≡ best_over page.measures.best (tried page.measures (length page.nodes) before_glue kind)
put-best page before_glue kind item =
    grown-is (best_over page.measures.best (tried page.measures (length page.nodes) before_glue kind)) page item (placed page.measures (length page.nodes) before_glue kind)
    ∙ placed-best page.measures (length page.nodes) before_glue kind

-- an answer that leaves one best break leaves an equal one
same : (best other : Option Break) (r : Result Grown PageError) → other ≡ best → grown_best other r ≡ other → grown_best best r ≡ best
same best other r h is = subst (λ (b : Option Break). grown_best b r ≡ b) h is

-- one thing after another
unless-fires : (best : Option Break) (page : Page) (item : Item) (more : Result Grown PageError) (built : Built) → page.measures.best ≡ best
    → (built ≡ Went → grown_best best more ≡ best) → grown_best best (unless_fires page item more built) ≡ best
unless-fires best page item more Went h next = next refl
unless-fires best page item more Fires h next = h

and-then : (best : Option Break) (item : Item) (more : Page → Result Grown PageError) (r : Result Grown PageError) → grown_best best r ≡ best
    → ((page : Page) → page.measures.best ≡ best → grown_best best (more page) ≡ best) → grown_best best (and_then item more r) ≡ best
and-then best item more (Err e) h next = refl
and-then best item more (Ok g) h next = unless-fires best g.page item (more g.page) g.built h (λ went. next g.page h)

-- a kern that waited
settled-by : (page : Page) (before_glue : Bool) (waiting : Option Kern)
    → grown_best (best_over page.measures.best (waiting_breaks page before_glue waiting)) (settled_by page before_glue waiting)
    ≡ best_over page.measures.best (waiting_breaks page before_glue waiting)
settled-by page before_glue None = refl
settled-by page before_glue (Some kern) = put-best (record page { waiting = None }) before_glue (KernKind kern.size) (kern_item kern)

-- \topskip
solid-by : (params : PageParams) (m : Measures) (b : Bool)
    → (cond b (record m { contents = having.Solid }) (frozen params.vsize params.max_depth having.Solid m)).best ≡ m.best
solid-by params m true = refl
solid-by params m false = refl

topped-by : (page : Page) (r : Result GlueSpec SplitError)
    → grown_best (best_over page.measures.best (top_breaks page.measures (length page.nodes) r)) (topped_by page r)
    ≡ best_over page.measures.best (top_breaks page.measures (length page.nodes) r)
topped-by page (Err e) = refl
topped-by page (Ok glue) = put-best page false (Skip glue) (glue_item glue)

topped-if : (page : Page) (height : ℤ) (params : PageParams) (b : Bool)
    → grown_best (best_over page.measures.best (cond b [] (top_breaks (solid_measures params page.measures) (length page.nodes) (glue_above params.top_skip height))))
    (cond b (Ok (grown page Went)) (topped_by (record page { measures = solid_measures params page.measures }) (glue_above params.top_skip height)))
    ≡ best_over page.measures.best (cond b [] (top_breaks (solid_measures params page.measures) (length page.nodes) (glue_above params.top_skip height)))
topped-if page height params true = refl
topped-if page height params false =
    subst (λ (b : Option Break).
    grown_best (best_over b (top_breaks (solid_measures params page.measures) (length page.nodes) (glue_above params.top_skip height)))
    (topped_by (record page { measures = solid_measures params page.measures }) (glue_above params.top_skip height))
    ≡ best_over b (top_breaks (solid_measures params page.measures) (length page.nodes) (glue_above params.top_skip height)))
    (solid-by params page.measures (is_frozen page.measures.contents))
    (topped-by (record page { measures = solid_measures params page.measures }) (glue_above params.top_skip height))

-- a box or a rule
solid-best : (page : Page) (height depth : ℤ) (item : Item) (params : PageParams)
    → grown_best (best_over page.measures.best (solid_breaks page height params)) (with_solid page height (Solid height depth) item params)
    ≡ best_over page.measures.best (solid_breaks page height params)
solid-best page height depth item params =
    and-then (best_over page.measures.best (solid_breaks page height params)) item (λ p. put p false (Solid height depth) item) (topped page height params)
    (topped-if page height params (has_solid page.measures.contents))
    (λ p h. same (best_over page.measures.best (solid_breaks page height params)) p.measures.best (put p false (Solid height depth) item) h
    (put-best p false (Solid height depth) item))

discardable-if : (page : Page) (kind : Kind) (item : Item) (b : Bool)
    → grown_best (best_over page.measures.best (cond b (tried page.measures (length page.nodes) false kind) [])) (cond b (put page false kind item) (Ok (grown page Went)))
    ≡ best_over page.measures.best (cond b (tried page.measures (length page.nodes) false kind) [])
discardable-if page kind item true = put-best page false kind item
discardable-if page kind item false = refl

kern-if : (page : Page) (item : Item) (b : Bool) → (cond b (record page { waiting = kern_of item }) page).measures.best ≡ page.measures.best
kern-if page item true = refl
kern-if page item false = refl

-- an insertion, and what else stands still
insert-by : (params : PageParams) (m : Measures) (b : Bool) → (cond b m (frozen params.vsize params.max_depth having.Inserts m)).best ≡ m.best
insert-by params m true = refl
insert-by params m false = refl

inserted-is : (best : Option Break) (page : Page) (r : Result Inserted PageError) → page_best best (inserted_by page r) ≡ inserted_best best r
inserted-is best page (Err e) = refl
inserted-is best page (Ok i) = refl

inserted-if : (page : Page) (head : InsertHead) (list : List Item) (params : PageParams) (b : Bool)
    → page_best page.measures.best (cond b (Err ClassOutOfRange) (inserted_by page (taken_in (insert_measures params page.measures) page.classes (length page.nodes) head list (unwrap_or params.class void_class))))
    ≡ page.measures.best
inserted-if page head list params true = refl
inserted-if page head list params false =
    inserted-is page.measures.best page (taken_in (insert_measures params page.measures) page.classes (length page.nodes) head list (unwrap_or params.class void_class))
    ∙ subst (λ (b : Option Break).
    inserted_best b (taken_in (insert_measures params page.measures) page.classes (length page.nodes) head list (unwrap_or params.class void_class)) ≡ b)
    (insert-by params page.measures (is_frozen page.measures.contents))
    (taken-leaves (insert_measures params page.measures) page.classes (length page.nodes) head list (unwrap_or params.class void_class))

prepared-leaves : (page : Page) (item : Item) (params : PageParams) → page_best page.measures.best (prepared page item params) ≡ page.measures.best
prepared-leaves page (plain p) params = refl
prepared-leaves page (shared s) params = refl
prepared-leaves page (boxed shift head inner) params = refl
prepared-leaves page (discretionary head before behind) params = refl
prepared-leaves page (adjustment inner) params = refl
prepared-leaves page (insertion head inner) params = inserted-if page head (list_from inner) params (nat_le 255 head.class)
prepared-leaves page (box_leaders head repeated inner) params = refl

still-by : (best : Option Break) (item : Item) (r : Result Page PageError) → page_best best r ≡ best → grown_best best (still_by item r) ≡ best
still-by best item (Err e) h = refl
still-by best item (Ok page) h = same best page.measures.best (put page false Still item) h (put-best page false Still item)

-- any node
taken-best : (page : Page) (item : Item) (params : PageParams) (kind : Kind)
    → grown_best (best_over page.measures.best (own_breaks page params kind)) (taken page item params kind) ≡ best_over page.measures.best (own_breaks page params kind)
taken-best page item params (Solid height depth) = solid-best page height depth item params
taken-best page item params (Skip g) = discardable-if page (Skip g) item (has_solid page.measures.contents)
taken-best page item params (KernKind size) = kern-if page item (has_solid page.measures.contents)
taken-best page item params (Penalty n) = discardable-if page (Penalty n) item (has_solid page.measures.contents)
taken-best page item params Still = still-by page.measures.best item (prepared page item params) (prepared-leaves page item params)

-- breaks behind breaks
joined : (best : Option Break) (xs ys : List Break) → best_over best (xs ++ ys) ≡ best_over (best_over best xs) ys
joined best [] ys = refl
joined best (x ∷ xs) ys = joined (Some (best_with best x)) xs ys

then-built : (best : Option Break) (item : Item) (params : PageParams) (kind : Kind) (page : Page) (built : Built) → page.measures.best ≡ best
    → grown_best (best_over best (breaks_by params kind page built)) (unless_fires page item (taken page item params kind) built)
    ≡ best_over best (breaks_by params kind page built)
then-built best item params kind page Went h =
    subst (λ (b : Option Break). grown_best (best_over b (own_breaks page params kind)) (taken page item params kind) ≡ best_over b (own_breaks page params kind)) h
    (taken-best page item params kind)
then-built best item params kind page Fires h = h

then-taken : (best : Option Break) (item : Item) (params : PageParams) (kind : Kind) (r : Result Grown PageError) → grown_best best r ≡ best
    → grown_best (best_over best (later_breaks params kind r)) (and_then item (λ p. taken p item params kind) r) ≡ best_over best (later_breaks params kind r)
then-taken best item params kind (Err e) h = refl
then-taken best item params kind (Ok g) h = then-built best item params kind g.page g.built h

pub contributed-best : (page : Page) (c : Contribution)
    → grown_best (best_over page.measures.best (breaks_in page c)) (contributed page c.item c.params) ≡ best_over page.measures.best (breaks_in page c)
unfolding contributed
contributed-best page c =
    subst (λ (b : Option Break). grown_best b (and_then c.item (λ p. taken p c.item c.params (kind_of c.item)) (settled page (is_glue (kind_of c.item)))) ≡ b)
    (sym (joined page.measures.best (waiting_breaks page (is_glue (kind_of c.item)) page.waiting) (later_breaks c.params (kind_of c.item) (settled page (is_glue (kind_of c.item))))))
    (then-taken (best_over page.measures.best (waiting_breaks page (is_glue (kind_of c.item)) page.waiting)) c.item c.params (kind_of c.item)
    (settled page (is_glue (kind_of c.item)))
    (settled-by page (is_glue (kind_of c.item)) page.waiting))

-- a history
more-built : (best : Option Break) (page : Page) (breaks : Page → List Break) (more : Page → Result Grown PageError) (built : Built) → page.measures.best ≡ best
    → ((p : Page) → grown_best (best_over p.measures.best (breaks p)) (more p) ≡ best_over p.measures.best (breaks p))
    → grown_best (best_over best (more_breaks breaks page built)) (unless_fired page (more page) built) ≡ best_over best (more_breaks breaks page built)
more-built best page breaks more Went h next =
    subst (λ (b : Option Break). grown_best (best_over b (breaks page)) (more page) ≡ best_over b (breaks page)) h (next page)
more-built best page breaks more Fires h next = h

more-best : (best : Option Break) (breaks : Page → List Break) (more : Page → Result Grown PageError) (r : Result Grown PageError) → grown_best best r ≡ best
    → ((p : Page) → grown_best (best_over p.measures.best (breaks p)) (more p) ≡ best_over p.measures.best (breaks p))
    → grown_best (best_over best (breaks_behind breaks r)) (and_more more r) ≡ best_over best (breaks_behind breaks r)
more-best best breaks more (Err e) h next = refl
more-best best breaks more (Ok g) h next = more-built best g.page breaks more g.built h next

-- the best break of a page is the best of all that were legal
pub history-best : (page : Page) (contributions : List Contribution)
    → grown_best (best_over page.measures.best (legal_breaks page contributions)) (history page contributions)
    ≡ best_over page.measures.best (legal_breaks page contributions)
history-best page [] = refl
history-best page (c ∷ rest) =
    subst (λ (b : Option Break). grown_best b (and_more (λ p. history p rest) (contributed page c.item c.params)) ≡ b)
    (sym (joined page.measures.best (breaks_in page c) (breaks_behind (λ p. legal_breaks p rest) (contributed page c.item c.params))))
    (more-best (best_over page.measures.best (breaks_in page c)) (λ p. legal_breaks p rest) (λ p. history p rest) (contributed page c.item c.params)
    (contributed-best page c) (λ p. history-best p rest))

-- so it is the best of the one that the page had before a history and all that were legal in it
behind : (begun page : Page) (contributions : List Contribution) (built : Built) → history begun contributions ≡ Ok (grown page built)
    → page.measures.best ≡ best_over begun.measures.best (legal_breaks begun contributions)
behind begun page contributions built is =
    ap (λ (r : Result Grown PageError). grown_best (best_over begun.measures.best (legal_breaks begun contributions)) r) (sym is)
    ∙ history-best begun contributions

pub best-of : (best : Option Break) (page : Page) → best ≡ page.measures.best → IsBestOf best page
best-of best page h begun contributions built is =
    subst (λ (b : Option Break). IsBest b (had begun.measures.best ++ legal_breaks begun contributions))
    (sym (h ∙ behind begun page contributions built is ∙ over-had begun.measures.best (legal_breaks begun contributions)))
    (is-best (had begun.measures.best ++ legal_breaks begun contributions))
