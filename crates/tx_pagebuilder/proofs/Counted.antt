-- Insertions leave the best break as it is.
use Rattle.std.proofs.Common.{◌≡◌, ℕ, ℤ, pos, ◌+ℤ◌, ◌-ℤ◌, Bool, true, false, cond, List, Option, Some, None, Result, Ok, Err, refl, subst, ◌∙◌}
use Rattle.std.specs.Prelude.{unwrap_or}
use Rattle.tx_num.specs.Glue.{GlueSpec}
use Rattle.tx_node.specs.declared.head.InsertHead.{InsertHead}
use Rattle.tx_node.specs.Items.{Item}
use Rattle.tx_insert.specs.declared.error.SplitError.{SplitError}
use Rattle.tx_insert.specs.declared.kind.Kind.TheVariants.{Skip}
use Rattle.tx_insert.specs.declared.trial.Break.{Break}
use Rattle.tx_insert.specs.Breaks.{break_of}
use Rattle.tx_insert.specs.Kinds.{shrinks_endlessly}
use Rattle.tx_insert.specs.Sums.{glue_fits}
use Rattle.tx_pagebuilder.specs.declared.class.Class.{Class}
use Rattle.tx_pagebuilder.specs.declared.class.Cut.{Cut}
use Rattle.tx_pagebuilder.specs.declared.error.PageError.{PageError}
use Rattle.tx_pagebuilder.specs.declared.error.PageError.TheVariants.{SizeOutOfRange, EndlessShrink, WrongBox}
use Rattle.tx_pagebuilder.specs.declared.inserted.Inserted.{Inserted}
use Rattle.tx_pagebuilder.specs.declared.measures.Measures.{Measures}
use Rattle.tx_pagebuilder.specs.declared.params.ClassParams.{ClassParams}
use Rattle.tx_pagebuilder.specs.Inserts as spec
use Rattle.tx_pagebuilder.specs.Inserts.{class_of, taken_in}
use Rattle.tx_pagebuilder.specs.Placing.{dimension}

-- the best break of an answer, and another one where that is an error
abbrev pub best_in : Option Break → Result Measures PageError → Option Break
best_in best (Err e) = best
best_in best (Ok m) = m.best

abbrev pub inserted_best : Option Break → Result Inserted PageError → Option Break
inserted_best best (Err e) = best
inserted_best best (Ok i) = i.measures.best

goal-leaves : (m : Measures) (r : Result ℤ PageError) → best_in m.best (spec.with_goal m r) ≡ m.best
goal-leaves m (Err e) = refl
goal-leaves m (Ok goal) = refl

lowered-leaves : (m : Measures) (size : ℤ) → best_in m.best (spec.lowered m size) ≡ m.best
lowered-leaves m size = goal-leaves m (dimension (m.goal -ℤ size))

penalties-leave : (m : Measures) (r : Result ℤ PageError) → best_in m.best (spec.with_penalties m r) ≡ m.best
penalties-leave m (Err e) = refl
penalties-leave m (Ok penalties) = refl

penalized-leaves : (m : Measures) (penalty : ℤ) → best_in m.best (spec.penalized m penalty) ≡ m.best
penalized-leaves m penalty = penalties-leave m (spec.integer (m.insert_penalties +ℤ penalty))

inserted-is : (best : Option Break) (class : Class) (r : Result Measures PageError) → inserted_best best (spec.inserted class r) ≡ best_in best r
inserted-is best class (Err e) = refl
inserted-is best class (Ok m) = refl

skip-by : (m : Measures) (g : GlueSpec) (b c : Bool)
    → best_in m.best (cond b (Err EndlessShrink) (cond c (Ok (record m { sums = spec.with_skip m.sums g })) (Err SizeOutOfRange))) ≡ m.best
skip-by m g true c = refl
skip-by m g false true = refl
skip-by m g false false = refl

skipped-leaves : (m : Measures) (g : GlueSpec) → best_in m.best (spec.skipped m g) ≡ m.best
skipped-leaves m g = skip-by m g (shrinks_endlessly (Skip g)) (glue_fits (spec.with_skip m.sums g))

opened-with : (m : Measures) (number : ℕ) (params : ClassParams) (r : Result ℤ PageError) → inserted_best m.best (spec.opened_with m number params r) ≡ m.best
opened-with m number params (Err e) = refl
opened-with m number params (Ok size) =
    inserted-is m.best (spec.class_with number size None) (spec.lowered m (spec.scaled params.count size +ℤ params.skip.width))
    ∙ lowered-leaves m (spec.scaled params.count size +ℤ params.skip.width)

-- an answer that leaves one best break leaves an equal one
same : (best other : Option Break) (r : Result Inserted PageError) → other ≡ best → inserted_best other r ≡ other → inserted_best best r ≡ best
same best other r h is = subst (λ (b : Option Break). inserted_best b r ≡ b) h is

opened-by : (best : Option Break) (number : ℕ) (params : ClassParams) (r : Result Measures PageError) → best_in best r ≡ best
    → inserted_best best (spec.opened_by number params r) ≡ best
opened-by best number params (Err e) h = refl
opened-by best number params (Ok m) h =
    same best m.best (spec.opened_by number params (Ok m)) h (opened-with m number params (dimension (unwrap_or params.box_size (pos 0))))

opened-if : (m : Measures) (number : ℕ) (params : ClassParams) (b : Bool)
    → inserted_best m.best (cond b (Err WrongBox) (spec.opened_by number params (spec.skipped m params.skip))) ≡ m.best
opened-if m number params true = refl
opened-if m number params false = opened-by m.best number params (spec.skipped m params.skip) (skipped-leaves m params.skip)

opened-leaves : (m : Measures) (number : ℕ) (params : ClassParams) → inserted_best m.best (spec.opened m number params) ≡ m.best
opened-leaves m number params = opened-if m number params params.is_hbox

whole-with : (m : Measures) (class : Class) (size : ℤ) (params : ClassParams) (r : Result ℤ PageError)
    → inserted_best m.best (spec.whole_with m class size params r) ≡ m.best
whole-with m class size params (Err e) = refl
whole-with m class size params (Ok sum) =
    inserted-is m.best (record class { size = sum }) (spec.lowered m (spec.scaled params.count size)) ∙ lowered-leaves m (spec.scaled params.count size)

cut-penalized : (best : Option Break) (class : Class) (price : ℤ) (r : Result Measures PageError) → best_in best r ≡ best
    → inserted_best best (spec.cut_penalized class price r) ≡ best
cut-penalized best class price (Err e) h = refl
cut-penalized best class price (Ok m) h =
    same best m.best (spec.inserted class (spec.penalized m price)) h (inserted-is m.best class (spec.penalized m price) ∙ penalized-leaves m price)

cut-with : (m : Measures) (class : Class) (made : Break) (place : ℕ) (price : ℤ) (params : ClassParams) (r : Result ℤ PageError)
    → inserted_best m.best (spec.cut_with m class made place price params r) ≡ m.best
cut-with m class made place price params (Err e) = refl
cut-with m class made place price params (Ok sum) =
    cut-penalized m.best (spec.class_with class.number sum (Some (record { insert = place; place = made.place }))) price
    (spec.lowered m (spec.scaled params.count made.size)) (lowered-leaves m (spec.scaled params.count made.size))

cut-at : (m : Measures) (class : Class) (place : ℕ) (list : List Item) (params : ClassParams) (r : Result Break SplitError)
    → inserted_best m.best (spec.cut_at m class place list params r) ≡ m.best
cut-at m class place list params (Err e) = refl
cut-at m class place list params (Ok made) =
    cut-with m class made place (spec.price_in list made.place) params (dimension (class.size +ℤ made.size))

cut-by : (m : Measures) (class : Class) (place : ℕ) (list : List Item) (params : ClassParams) (goal most : Result ℤ PageError)
    → inserted_best m.best (spec.cut_by m class place list params goal most) ≡ m.best
cut-by m class place list params (Err e) most = refl
cut-by m class place list params (Ok goal) (Err e) = refl
cut-by m class place list params (Ok goal) (Ok most) = cut-at m class place list params (break_of list goal most)

unsplit-if : (m : Measures) (class : Class) (place : ℕ) (head : InsertHead) (list : List Item) (params : ClassParams) (b : Bool)
    → inserted_best m.best (cond b (spec.whole m class head.size params) (spec.cut m class place head list params)) ≡ m.best
unsplit-if m class place head list params true = whole-with m class head.size params (dimension (class.size +ℤ head.size))
unsplit-if m class place head list params false =
    cut-by m class place list params (dimension (spec.split_size m class params)) (dimension head.split_max_depth)

counted-by : (m : Measures) (class : Class) (place : ℕ) (head : InsertHead) (list : List Item) (params : ClassParams) (split : Option Cut)
    → inserted_best m.best (spec.counted_by m class place head list params split) ≡ m.best
counted-by m class place head list params None = unsplit-if m class place head list params (spec.fits_in m class head.size params)
counted-by m class place head list params (Some c) =
    inserted-is m.best class (spec.penalized m head.floating_penalty) ∙ penalized-leaves m head.floating_penalty

counted-in : (best : Option Break) (place : ℕ) (head : InsertHead) (list : List Item) (params : ClassParams) (r : Result Inserted PageError)
    → inserted_best best r ≡ best → inserted_best best (spec.counted_in place head list params r) ≡ best
counted-in best place head list params (Err e) h = refl
counted-in best place head list params (Ok i) h =
    same best i.measures.best (spec.counted i.measures i.class place head list params) h (counted-by i.measures i.class place head list params i.class.split)

class-on : (m : Measures) (number : ℕ) (params : ClassParams) (found : Option Class) → inserted_best m.best (spec.class_on m number params found) ≡ m.best
class-on m number params None = opened-leaves m number params
class-on m number params (Some class) = refl

pub taken-leaves : (m : Measures) (classes : List Class) (place : ℕ) (head : InsertHead) (list : List Item) (params : ClassParams)
    → inserted_best m.best (spec.taken_in m classes place head list params) ≡ m.best
unfolding taken_in
taken-leaves m classes place head list params =
    counted-in m.best place head list params (spec.class_on m head.class params (class_of head.class classes))
    (class-on m head.class params (class_of head.class classes))
