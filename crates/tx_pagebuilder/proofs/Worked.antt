-- Pages as Knuth's TeX builds them: the breaks that \tracingpages tells, and what is put out.
use Rattle.std.proofs.Common.{◌≡◌, ℕ, ◌*◌, List, [], ◌∷◌, refl, map}
use Rattle.std.specs.Prelude.{ℤ, false, pos, negsuc, Option, Some, None, Result, Ok, Err}
use Rattle.tx_num.specs.Glue.{GlueSpec, glue_of}
use Rattle.tx_node.specs.declared.plain.KernKind.TheVariants.{Explicit}
use Rattle.tx_node.specs.declared.plain.Plain.TheVariants.{Kern, Glue, Penalty}
use Rattle.tx_node.specs.declared.plain.Shared.TheVariants.{Rule, Mark}
use Rattle.tx_node.specs.Items.{Item, plain, shared, insertion, items_of}
use Rattle.tx_pack.specs.Packing.{packed}
use Rattle.tx_insert.specs.declared.trial.Break.{Break}
use Rattle.tx_pagebuilder.specs.declared.boxes.ClassBox.{ClassBox}
use Rattle.tx_pagebuilder.specs.declared.error.PageError.{PageError}
use Rattle.tx_pagebuilder.specs.declared.fired.Fired.{Fired as FiredPage}
use Rattle.tx_pagebuilder.specs.declared.measures.Built.{Built}
use Rattle.tx_pagebuilder.specs.declared.measures.Built.TheVariants.{Fires}
use Rattle.tx_pagebuilder.specs.declared.params.ClassParams.{ClassParams}
use Rattle.tx_pagebuilder.specs.declared.params.PageParams.{PageParams}
use Rattle.tx_pagebuilder.specs.Contributed.{contributed, void_class}
use Rattle.tx_pagebuilder.specs.Fired.{fired, packed_naturally}
use Rattle.tx_pagebuilder.specs.Histories.{Contribution, history}
use Rattle.tx_pagebuilder.specs.Inserts.{taken_in}
use Rattle.tx_pagebuilder.specs.Pages.{Grown, empty_page}
use Rattle.tx_pagebuilder.specs.Placing.{placed}

-- so many points
abbrev pt : ℕ → ℤ
pt n = pos (n * 65536)

abbrev bar : ℤ → ℤ → Item
bar height depth = shared (Rule (record { width = None; height = Some height; depth = Some depth }))

abbrev skip : GlueSpec → Item
skip g = plain (Glue g)

abbrev penalty : ℤ → Item
penalty n = plain (Penalty n)

abbrev mark : Item
mark = shared (Mark [])

-- \vsize, \maxdepth, \topskip, and the registers of the class
abbrev given : ℤ → ℤ → ℤ → ClassParams → PageParams
given vsize max_depth top_skip class = record {
  vsize = vsize;
  max_depth = max_depth;
  top_skip = glue_of top_skip (pos 0) 0 (pos 0) 0;
  holding_inserts = pos 0;
  class = Some class;
  boxes = [];
}

abbrev contribution : PageParams → Item → Contribution
contribution params item = record { item = item; params = params }

-- a page behind these items, its best break, whether it fires, and what is fired then
abbrev behind : PageParams → List Item → Result Grown PageError
behind params items = history empty_page (map (contribution params) items)

abbrev best_of : Result Grown PageError → Option Break
best_of (Err e) = None
best_of (Ok g) = g.page.measures.best

abbrev built_of : Result Grown PageError → Option Built
built_of (Err e) = None
built_of (Ok g) = Some g.built

abbrev output : PageParams → Result Grown PageError → Result FiredPage PageError
output params (Err e) = Err e
output params (Ok g) = fired g.page params

abbrev break_is : ℕ → ℤ → ℤ → Option Break
break_is place size cost = Some (record { place = place; size = size; cost = cost })

-- the height and the depth of a box with its class
pub record Sized : Type 0 where
  pub class : ℕ
  pub height : ℤ
  pub depth : ℤ

abbrev sized : ClassBox → Sized
sized b = record { class = b.class; height = b.node.head.height; depth = b.node.head.depth }

-- what is put out, but for the marks: the list, the goal, the penalty, what is held, what remains, the boxes and \insertpenalties
pub record Output : Type 0 where
  pub list : List Item
  pub goal : ℤ
  pub penalty : ℤ
  pub held : List Item
  pub rest : List Item
  pub boxes : List Sized
  pub insert_penalties : ℤ

abbrev told : Result FiredPage PageError → Option Output
told (Err e) = None
told (Ok f) = Some (record { list = f.list; goal = f.goal; penalty = f.penalty; held = f.held; rest = f.rest; boxes = map sized f.boxes; insert_penalties = f.insert_penalties })

-- Of two breaks that cost the same the later is the better one; depth beyond \maxdepth goes into the height: TeX tells t=10.0 g=20.0
-- b=10000 p=0 c=100000#, t=17.0 b=10000 p=50 c=100000#, t=23.0 plus 1.0 minus 1.0 b=* p=0 c=*, and puts out the page at 50.
abbrev later_params : PageParams
later_params = given (pt 20) (pt 2) (pt 10) void_class

abbrev later_items : List Item
later_items = bar (pt 5) (pos 0) ∷ penalty (pos 0) ∷ bar (pt 6) (pt 3) ∷ penalty (pos 50) ∷ skip (glue_of (pt 1) (pt 1) 0 (pt 1) 0) ∷ bar (pt 3) (pos 0) ∷ penalty (pos 0) ∷ []

pub later-best : best_of (behind later_params later_items) ≡ break_is 4 (pt 20) (pos 100000)
unfolding contributed placed taken_in
later-best = refl

pub later-fires : built_of (behind later_params later_items) ≡ Some Fires
unfolding contributed placed taken_in
later-fires = refl

pub later-output : told (output later_params (behind later_params later_items)) ≡ Some (record {
  list = skip (glue_of (pt 5) (pos 0) 0 (pos 0) 0) ∷ bar (pt 5) (pos 0) ∷ penalty (pos 0) ∷ bar (pt 6) (pt 3) ∷ [];
  goal = pt 20;
  penalty = pos 50;
  held = [];
  rest = penalty (pos 10000) ∷ skip (glue_of (pt 1) (pt 1) 0 (pt 1) 0) ∷ bar (pt 3) (pos 0) ∷ penalty (pos 0) ∷ [];
  boxes = [];
  insert_penalties = pos 0;
})
unfolding contributed placed taken_in fired packed_naturally
later-output = refl

-- Glue, a penalty and a kern at the top of the page vanish, a forced one too, and a rule that is higher than \topskip has none above it:
-- t=12.0 g=20.0 b=10000 p=100 c=100000#, t=20.0 b=0 p=-10000 c=-10000#.
abbrev top_params : PageParams
top_params = given (pt 20) (pos 0) (pt 10) void_class

abbrev top_items : List Item
top_items = skip (glue_of (pt 5) (pos 0) 0 (pos 0) 0) ∷ penalty (negsuc 9999) ∷ plain (Kern Explicit (pt 3)) ∷ bar (pt 12) (pos 0) ∷ penalty (pos 100) ∷ bar (pt 8) (pos 0) ∷ penalty (negsuc 9999) ∷ []

pub top-best : best_of (behind top_params top_items) ≡ break_is 4 (pt 20) (negsuc 9999)
unfolding contributed placed taken_in
top-best = refl

pub top-fires : built_of (behind top_params top_items) ≡ Some Fires
unfolding contributed placed taken_in
top-fires = refl

pub top-output : told (output top_params (behind top_params top_items)) ≡ Some (record {
  list = skip (glue_of (pos 0) (pos 0) 0 (pos 0) 0) ∷ bar (pt 12) (pos 0) ∷ penalty (pos 100) ∷ bar (pt 8) (pos 0) ∷ [];
  goal = pt 20;
  penalty = negsuc 9999;
  held = [];
  rest = penalty (pos 10000) ∷ [];
  boxes = [];
  insert_penalties = pos 0;
})
unfolding contributed placed taken_in fired packed_naturally
top-output = refl

-- A break at a kern is legal only before glue, and behind the kern there is none at the glue: t=7.0 g=10.0 b=10000 p=0 c=100000#,
-- t=15.0 plus 1.0 b=* p=0 c=*. The kern stands first in what remains.
abbrev kerns_params : PageParams
kerns_params = given (pt 10) (pos 0) (pos 0) void_class

abbrev kerns_items : List Item
kerns_items = bar (pt 4) (pos 0) ∷ plain (Kern Explicit (pt 1)) ∷ bar (pt 2) (pos 0) ∷ plain (Kern Explicit (pt 1)) ∷ skip (glue_of (pt 2) (pt 1) 0 (pos 0) 0) ∷ bar (pt 5) (pos 0) ∷ penalty (pos 0) ∷ []

pub kerns-best : best_of (behind kerns_params kerns_items) ≡ break_is 4 (pt 10) (pos 100000)
unfolding contributed placed taken_in
kerns-best = refl

pub kerns-fires : built_of (behind kerns_params kerns_items) ≡ Some Fires
unfolding contributed placed taken_in
kerns-fires = refl

pub kerns-output : told (output kerns_params (behind kerns_params kerns_items)) ≡ Some (record {
  list = skip (glue_of (pos 0) (pos 0) 0 (pos 0) 0) ∷ bar (pt 4) (pos 0) ∷ plain (Kern Explicit (pt 1)) ∷ bar (pt 2) (pos 0) ∷ [];
  goal = pt 10;
  penalty = pos 10000;
  held = [];
  rest = plain (Kern Explicit (pt 1)) ∷ skip (glue_of (pt 2) (pt 1) 0 (pos 0) 0) ∷ bar (pt 5) (pos 0) ∷ penalty (pos 0) ∷ [];
  boxes = [];
  insert_penalties = pos 0;
})
unfolding contributed placed taken_in fired packed_naturally
kerns-output = refl

-- Behind a mark the \topskip glue is a legal break: t=0.0 g=10.0 b=10000 p=0 c=100000#, t=4.0 b=10000 p=0 c=100000#,
-- t=11.0 plus 2.0 b=* p=0 c=*.
abbrev marks_params : PageParams
marks_params = given (pt 10) (pos 0) (pt 4) void_class

abbrev marks_items : List Item
marks_items = mark ∷ bar (pt 3) (pos 0) ∷ skip (glue_of (pt 6) (pt 2) 0 (pos 0) 0) ∷ bar (pt 1) (pos 0) ∷ skip (glue_of (pos 0) (pos 0) 0 (pos 0) 0) ∷ []

pub marks-best : best_of (behind marks_params marks_items) ≡ break_is 3 (pt 10) (pos 100000)
unfolding contributed placed taken_in
marks-best = refl

pub marks-fires : built_of (behind marks_params marks_items) ≡ Some Fires
unfolding contributed placed taken_in
marks-fires = refl

pub marks-output : told (output marks_params (behind marks_params marks_items)) ≡ Some (record {
  list = mark ∷ skip (glue_of (pt 1) (pos 0) 0 (pos 0) 0) ∷ bar (pt 3) (pos 0) ∷ [];
  goal = pt 10;
  penalty = pos 10000;
  held = [];
  rest = skip (glue_of (pt 6) (pt 2) 0 (pos 0) 0) ∷ bar (pt 1) (pos 0) ∷ skip (glue_of (pos 0) (pos 0) 0 (pos 0) 0) ∷ [];
  boxes = [];
  insert_penalties = pos 0;
})
unfolding contributed placed taken_in fired packed_naturally
marks-output = refl

-- Insertions that fit: the first makes the goal fall by \skip too, whose stretch joins, and behind it \topskip is a legal break:
-- t=0.0 plus 1.0 g=16.0 b=10000 p=0 c=100000#, t=6.0 plus 1.0 g=16.0 b=10000 p=0 c=100000#, t=11.0 plus 1.0 g=11.0 b=0 p=0 c=0#,
-- t=12.0 plus 1.0 g=11.0 b=* p=-10000 c=*. The box of the class is 7pt high and 1pt deep.
abbrev insert_params : PageParams
insert_params = given (pt 20) (pos 0) (pos 0) (record { box_size = None; is_hbox = false; count = pos 1000; dimen = pt 15; skip = glue_of (pt 1) (pt 1) 0 (pos 0) 0 })

abbrev insert_items : List Item
insert_items = insertion (record { class = 100; size = pt 3; split_top_skip = glue_of (pos 0) (pos 0) 0 (pos 0) 0; split_max_depth = pos 0; floating_penalty = pos 0 }) (items_of (bar (pt 3) (pos 0) ∷ [])) ∷ bar (pt 6) (pos 0) ∷ penalty (pos 0) ∷ insertion (record { class = 100; size = pt 5; split_top_skip = glue_of (pos 0) (pos 0) 0 (pos 0) 0; split_max_depth = pos 0; floating_penalty = pos 0 }) (items_of (bar (pt 4) (pt 1) ∷ [])) ∷ bar (pt 5) (pos 0) ∷ penalty (pos 0) ∷ bar (pt 1) (pos 0) ∷ penalty (negsuc 9999) ∷ []

pub insert-best : best_of (behind insert_params insert_items) ≡ break_is 6 (pt 11) (pos 0)
unfolding contributed placed taken_in
insert-best = refl

pub insert-fires : built_of (behind insert_params insert_items) ≡ Some Fires
unfolding contributed placed taken_in
insert-fires = refl

pub insert-output : told (output insert_params (behind insert_params insert_items)) ≡ Some (record {
  list = skip (glue_of (pos 0) (pos 0) 0 (pos 0) 0) ∷ bar (pt 6) (pos 0) ∷ penalty (pos 0) ∷ bar (pt 5) (pos 0) ∷ [];
  goal = pt 11;
  penalty = pos 0;
  held = [];
  rest = penalty (pos 10000) ∷ bar (pt 1) (pos 0) ∷ penalty (negsuc 9999) ∷ [];
  boxes = record { class = 100; height = pt 7; depth = pt 1 } ∷ [];
  insert_penalties = pos 0;
})
unfolding contributed placed taken_in fired packed_naturally packed
insert-output = refl

-- An insertion that is split: split100 to 8.0,5.0 p=20, half of which makes the goal fall, t=5.0 g=17.50519 b=10000 p=0 c=100000#,
-- t=11.0 b=10000 p=0 c=100000#, t=15.0 b=10000 p=-10000 c=-10000#. What remains of it, with \splittopskip, and the next one of its class
-- are held over, as two.
abbrev split_params : PageParams
split_params = given (pt 20) (pos 0) (pos 0) (record { box_size = None; is_hbox = false; count = pos 500; dimen = pt 8; skip = glue_of (pos 0) (pos 0) 0 (pos 0) 0 })

abbrev split_items : List Item
split_items = bar (pt 5) (pos 0) ∷ insertion (record { class = 100; size = pt 15; split_top_skip = glue_of (pt 6) (pos 0) 0 (pos 0) 0; split_max_depth = pos 0; floating_penalty = pos 30 }) (items_of (bar (pt 5) (pos 0) ∷ penalty (pos 20) ∷ bar (pt 5) (pos 0) ∷ penalty (negsuc 19) ∷ bar (pt 5) (pos 0) ∷ [])) ∷ penalty (pos 0) ∷ insertion (record { class = 100; size = pt 2; split_top_skip = glue_of (pos 0) (pos 0) 0 (pos 0) 0; split_max_depth = pos 0; floating_penalty = pos 30 }) (items_of (bar (pt 2) (pos 0) ∷ [])) ∷ bar (pt 6) (pos 0) ∷ penalty (pos 0) ∷ bar (pt 4) (pos 0) ∷ penalty (negsuc 9999) ∷ []

pub split-best : best_of (behind split_params split_items) ≡ break_is 8 (pos 1147220) (negsuc 9999)
unfolding contributed placed taken_in
split-best = refl

pub split-fires : built_of (behind split_params split_items) ≡ Some Fires
unfolding contributed placed taken_in
split-fires = refl

pub split-output : told (output split_params (behind split_params split_items)) ≡ Some (record {
  list = skip (glue_of (pos 0) (pos 0) 0 (pos 0) 0) ∷ bar (pt 5) (pos 0) ∷ penalty (pos 0) ∷ bar (pt 6) (pos 0) ∷ penalty (pos 0) ∷ bar (pt 4) (pos 0) ∷ [];
  goal = pos 1147220;
  penalty = negsuc 9999;
  held = insertion (record { class = 100; size = pt 11; split_top_skip = glue_of (pt 6) (pos 0) 0 (pos 0) 0; split_max_depth = pos 0; floating_penalty = pos 30 }) (items_of (skip (glue_of (pt 1) (pos 0) 0 (pos 0) 0) ∷ bar (pt 5) (pos 0) ∷ penalty (negsuc 19) ∷ bar (pt 5) (pos 0) ∷ [])) ∷ insertion (record { class = 100; size = pt 2; split_top_skip = glue_of (pos 0) (pos 0) 0 (pos 0) 0; split_max_depth = pos 0; floating_penalty = pos 30 }) (items_of (bar (pt 2) (pos 0) ∷ [])) ∷ [];
  rest = penalty (pos 10000) ∷ [];
  boxes = record { class = 100; height = pt 5; depth = pos 0 } ∷ [];
  insert_penalties = pos 2;
})
unfolding contributed placed taken_in fired packed_naturally packed
split-output = refl
