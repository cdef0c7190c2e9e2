-- The list between \left and \right joins the one around it.
use Rattle.std.proofs.Common.{◌≡◌, ◌≢◌, ◌∙◌, ℕ, List, Result, Ok, Err, IfErr, ap, sym}
use Rattle.tx_box.specs.declared.parts.Lists.{Lists}
use Rattle.tx_mlist.specs.declared.error.MlistError.{MlistError}
use Rattle.tx_mlist.specs.declared.kinds.Delimiter.{Delimiter}
use Rattle.tx_mlist.specs.Building.{delimited, delimiter_of}
use Rattle.tx_mlist.specs.Items.{MathItem}
use Rattle.tx_mlist.specs.Noads.{math_of}
use Rattle.tx_seen.specs.declared.error.TexError.{TexError}
use Rattle.tx_formula.specs.declared.error.FormulaError.{FormulaError}
use Rattle.tx_formula.specs.declared.error.FormulaError.TheVariants.{OutOfMemory}
use Rattle.tx_formula.specs.Delimiters.{delimited_by, ended_between, inner_joined}
use Rattle.tx_formula.specs.Errors.{error_of, of_list}
use Rattle.tx_formula.specs.Lists.{beside, ended_list, given}
use Rattle.tx_formula.proofs.Refused.{on-err}
use Rattle.tx_formula.proofs.delimiters.end_between.Goals as goal

-- what comes of the list is what is made of it
joins-by : (left right : ℕ) (one other : Delimiter) (lists between : Lists) (list : List MathItem) (made : Result MathItem MlistError) → one ≡ delimiter_of left → other ≡ delimiter_of right → ended_list lists ≡ Ok (list, between) → delimited one other list ≡ made → ended_between left right lists ≡ inner_joined (beside between (given made))
joins-by left right one other lists between list made one_is other_is ended is =
    ap (λ (e : Result (List MathItem × Lists) TexError). inner_joined (delimited_by left right e)) ended
    ∙ (λ i. inner_joined (beside between (given (delimited (sym one_is i) (sym other_is i) list))))
    ∙ ap (λ (m : Result MathItem MlistError). inner_joined (beside between (given m))) is

pub returns-clause-made : goal.returns-clause-made
returns-clause-made c =
    joins-by c.args.left c.args.right c.delimiter_of.result c.delimiter_of-2.result c.args.lists.now c.end_list.new.lists c.in_ok-list.list (Ok (math_of c.in_ok-noad.noad)) c.delimiter_of.ensures c.delimiter_of-2.ensures c.in_ok-list.ensures.made c.in_ok-noad.ensures.made
    ∙ (λ i. Ok (sym c.in_ok-append_noad.ensures i))

pub returns-in_err-noad-clause-error : goal.returns-in_err-noad-clause-error
returns-in_err-noad-clause-error c =
    on-err c.from_residual-in_err-noad.result (of_list c.in_err-noad.field-0.0) (λ r. IfErr r (λ (e : FormulaError). e ≢ OutOfMemory → ended_between c.args.left c.args.right c.args.lists.now ≡ Err (error_of e))) c.from_residual-in_err-noad.ensures.1
    (λ not_memory. joins-by c.args.left c.args.right c.delimiter_of.result c.delimiter_of-2.result c.args.lists.now c.end_list.new.lists c.in_ok-list.list (Err c.in_err-noad.field-0.0) c.delimiter_of.ensures c.delimiter_of-2.ensures c.in_ok-list.ensures.made
    (c.in_err-noad.ensures.error (λ memory. not_memory (ap of_list memory))))
