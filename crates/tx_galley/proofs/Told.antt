-- What comes of an effect that is known to be another one.
use Rattle.std.proofs.Common.{◌≡◌, ◌≢◌, ◌∙◌, Bool, false, cond, List, [], Result, Ok, Err, sym, ap}
use Rattle.std.specs.Prelude.{IfErr, IfOk, is_some}
use Rattle.tx_eqtb.specs.declared.eqtb.Eqtb.{Eqtb}
use Rattle.tx_nest.specs.declared.list.ModeList.{ModeList}
use Rattle.tx_nest.specs.declared.nest.Nest.{Nest}
use Rattle.tx_node.specs.Items.{Item}
use Rattle.tx_pagebuilder.specs.declared.fired.Fired.{Fired}
use Rattle.tx_output.specs.declared.pages.Pages.{Pages}
use Rattle.tx_seen.specs.declared.error.TexError.{TexError}
use Rattle.tx_galley.specs.declared.errors.GalleyError.{GalleyError}
use Rattle.tx_galley.specs.declared.errors.GalleyError.TheVariants.{OutOfMemory}
use Rattle.tx_galley.specs.Contributing.{contributing_all}
use Rattle.tx_galley.specs.Errors.{error_of}
use Rattle.tx_galley.specs.Exercising.{building, built, exercising, exercising_around, exercising_innermost, going}
use Rattle.tx_galley.specs.Firing.{bared, fired_in, firing, firing_at, firing_by, page_behind, page_fired, table_behind, turned}

pub err_so : {A B : Type 0} (r : Result A GalleyError) (x y : Result B TexError) → y ≡ x
    → IfErr r (λ (e : GalleyError). e ≢ OutOfMemory → x ≡ Err (error_of e)) → IfErr r (λ (e : GalleyError). e ≢ OutOfMemory → y ≡ Err (error_of e))
err_so (Ok made) x y same told = told
err_so (Err error) x y same told = λ fails. same ∙ told fails

pub ok_so : {A : Type 0} (r : Result A GalleyError) {P Q : A → Type 0} → ((a : A) → P a → Q a) → IfOk r P → IfOk r Q
ok_so (Ok made) so told = so made told
ok_so (Err error) so told = told

-- a page that was fired leaves its boxes, its penalty and its marks
pub leaves : (f bare : Fired) (left : List Item) (table table' : Eqtb) (pages pages' : Pages)
    → table' ≡ table_behind f.boxes f.penalty table → pages' ≡ turned f pages → bare ≡ bared f
    → firing_at f left table pages ≡ fired_in bare left table' pages'
leaves f bare left table table' pages pages' is pages_is bare_is =
    ap (λ (t : Eqtb). fired_in f left t (turned f pages)) (sym is)
    ∙ ap (λ (p : Pages). fired_in f left table' p) (sym pages_is)
    ∙ ap (λ (g : Fired). fired_in g left table' pages') (sym bare_is)

-- a page is fired, and is behind it as firing leaves it
pub fires : (f : Fired) (left : List Item) (table : Eqtb) (pages pages' : Pages)
    → page_fired table.table pages ≡ Ok f → pages' ≡ page_behind f.insert_penalties pages
    → firing left table pages ≡ firing_at f left table pages'
fires f left table pages pages' is pages_is =
    ap (firing_by left table pages) is
    ∙ ap (λ (p : Pages). firing_at f left table p) (sym pages_is)

-- the pages' list is the one that is being built
pub outermost : (nest : Nest) (table : Eqtb) (pages : Pages) → nest.around ≡ [] → exercising nest table pages ≡ exercising_innermost nest table pages
outermost nest table pages is =
    ap (λ (around : List ModeList). exercising_around nest.innermost around table pages) is
    ∙ ap (λ (around : List ModeList). exercising_innermost (record { innermost = nest.innermost; around = around }) table pages) (sym is)

-- no output is under way
pub idle : (list : List Item) (table : Eqtb) (pages : Pages) → is_some pages.output.waiting ≡ false
    → building list table pages ≡ built table (contributing_all table.table pages list)
idle list table pages is =
    ap (λ (b : Bool). cond b (Ok (going list table pages)) (built table (contributing_all table.table pages list))) is
